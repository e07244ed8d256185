-- What a run has taken so far, and what follows at each of its ends.
use Rattle.std.proofs.Common.{ℕ, List, ◌++◌, Option}
use Rattle.std.specs.Io.KnownBytes.{Appends, Consumes, Keeps}
use Rattle.bw_commands.specs.State.{State}
use Rattle.bw_commands.specs.Lines.{lines_of, whole_lines_of}
use Rattle.bw_shell.specs.Scan.{Scan, TakesBytes, Finishes, begin}
use Rattle.bw_shell.specs.Stream.{Transcribes, TranscribesFront}
use Rattle.bw_streams.specs.Fronts.{AppendsFront}
use Rattle.bw_streams.proofs.CallerLemmas.{Appends-trans, AppendsFront-after, Consumes-trans}
use Rattle.bw_streams.proofs.CallerLemmas.{Consumes-kept}
use Rattle.bw_shell.proofs.Scanning.{TakesBytes-append, whole_transcript, all_transcript}

-- From a, bytes were read and their text was written.
abbrev pub Takes : Scan → Option (List ℕ) → Option (List ℕ) → Option (List ℕ) → Option (List ℕ)
    → Scan → Type 0
Takes a left_old left_new held_old held_new b =
    (input text : List ℕ) × TakesBytes a input text b × Consumes left_old left_new input
    × Appends held_old held_new text

pub takes_more : (a b c : Scan) (l m n h i j : Option (List ℕ)) → Takes a l m h i b
    → Takes b m n i j c → Takes a l n h j c
takes_more a b c l m n h i j p q = (
  p.0 ++ q.0,
  p.1 ++ q.1,
  TakesBytes-append p.0 q.0 p.1 q.1 a b c p.2 q.2,
  Consumes-trans l m n p.0 q.0 p.3 q.3,
  Appends-trans h i j p.1 q.1 p.4 q.4,
)

pub takes_kept : (a b : Scan) (l m n h i : Option (List ℕ)) → Takes a l m h i b → Keeps m n
    → Takes a l n h i b
takes_kept a b l m n h i p k = (p.0, p.1, p.2, Consumes-kept l m n p.0 p.3 k, p.4)

pub whole_of_takes : (s : State) (b : Scan) (l m h i : Option (List ℕ)) → Takes (begin s) l m h i b
    → Transcribes s whole_lines_of l m h i
whole_of_takes s b l m h i p = (p.0, p.1, p.3, whole_transcript s p.0 p.1 b p.2, p.4)

pub all_of_takes : (s : State) (b : Scan) (l m h i j : Option (List ℕ)) → Takes (begin s) l m h i b
    → (text : List ℕ) × Finishes b text × Appends i j text → Transcribes s lines_of l m h j
all_of_takes s b l m h i j p f = (
  p.0,
  p.1 ++ f.0,
  p.3,
  all_transcript s p.0 p.1 f.0 b p.2 f.1,
  Appends-trans h i j p.1 f.0 p.4 f.2,
)

pub front_of_all : (s : State) (b : Scan) (l m h i j : Option (List ℕ)) → Takes (begin s) l m h i b
    → (text : List ℕ) × Finishes b text × AppendsFront i j text
    → TranscribesFront s lines_of l m h j
front_of_all s b l m h i j p f = (
  p.0,
  p.1 ++ f.0,
  p.3,
  all_transcript s p.0 p.1 f.0 b p.2 f.1,
  AppendsFront-after h i j p.1 f.0 p.4 f.2,
)

pub front_of_whole : (s : State) (b : Scan) (l m n h i j : Option (List ℕ))
    → Takes (begin s) l m h i b
    → (input text : List ℕ) × (t : Scan) × TakesBytes b input text t × Consumes m n input
    × AppendsFront i j text → TranscribesFront s whole_lines_of l n h j
front_of_whole s b l m n h i j p f =
    let takes = TakesBytes-append p.0 f.0 p.1 f.1 (begin s) b f.2 p.2 f.3 in (
      p.0 ++ f.0,
      p.1 ++ f.1,
      Consumes-trans l m n p.0 f.0 p.3 f.4,
      whole_transcript s (p.0 ++ f.0) (p.1 ++ f.1) f.2 takes,
      AppendsFront-after h i j p.1 f.1 p.4 f.5,
    )
