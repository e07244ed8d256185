-- Words that clap takes name the job that is found for them.
use Rattle.std.proofs.Common.{◌≡◌, ◌∙◌, ap, ap₂, sym, subst, refl, ℕ, ◌==◌, ◌&&◌, ◌||◌, List, []}
use Rattle.std.proofs.Common.{◌∷◌, Bool, true, false, Option, Some, None, codes, cond}
use Rattle.std.specs.Prelude.{fold, option_map}
use Rattle.std.specs.Str.{bytes_eq}
use Rattle.std.proofs.lemmas.Slice.Eq.{bytes_eq-Decides}
use Rattle.clap.specs.Words.{Row, Text, Shape, subcommand_of}
use Rattle.clap.specs.Lexer.{long_of}
use Rattle.clap.specs.Walk.{Held, Names, Walk, arg_by_long, idle, trailing, nothing_held}
use Rattle.clap.specs.Walk.{walk, walk_from, walked, subcommand_met}
use Rattle.clap.specs.Walk.{subcommand_or_other, long_or_other, after_step}
use Rattle.clap.specs.Faults.{fault_of, level_fault}
use Rattle.clap.specs.Faults.{settle_fault, react_fault, walk_fault, turn_fault, other_fault}
use Rattle.clap.specs.Faults.{step_fault, long_fault, short_fault}
use Rattle.clap.specs.Kinds.{Kinds, or_else}
use Rattle.clap.specs.Simple.{filled, help_rule, version_rule}
use Rattle.clap.proofs.WalkLemmas.{walk_stopped}
use Rattle.clap.proofs.FaultLemmas.{stopped_fault}
use Rattle.clap.proofs.OnLiterals.{clap_on_literals}
use Rattle.arbiter.specs.CommandLine.{arbiter_app}
use Rattle.arbiter.specs.Found.{HasNumbers}
use Rattle.arbiter.specs.Words.{Uses, is_end, job_named, run_job}
use Rattle.arbiter.specs.declared.words.Job.{Job}
use Rattle.arbiter.specs.declared.words.Job.TheVariants as job
use Rattle.arbiter.proofs.RunWalk.{state}
use Rattle.arbiter.proofs.RunFaults.{built_app, faults_behind, names}
use Rattle.arbiter.proofs.Refused.{RefusesWords, is_fault, contra, or_none, fault_left}
use Rattle.arbiter.proofs.Refused.{fault_right, turn_of, trails, fault_at, long_fault_at}
use Rattle.arbiter.proofs.Refused.{idle_other}
use Rattle.arbiter.proofs.RunSound.{run_sound}
use Rattle.arbiter.proofs.Named.{named_gives}

-- ---- commands without options

-- the command takes no option, but for help and version
pub record RefusesOptions (s : Shape) : Type 0 where
  pub words : RefusesWords s
  pub long : (name : List ℕ) (v : Option (List ℕ)) (h : Held)
      → is_fault (long_fault s.rules s.args_override_self (arg_by_long s.rules name) v h) ≡ true

module _ (s : Shape) (names : Names) (f : RefusesOptions s) where
  same_turn : (word : Text) → subcommand_met names idle word ≡ None
      → turn_fault s names (walk_from nothing_held) word
      ≡ turn_fault s [] (walk_from nothing_held) word
  same_turn word none =
      ap (λ o. or_else (other_fault s o word nothing_held)
      (step_fault s 1 (subcommand_or_other s.rules o idle 1 word nothing_held).0
      (subcommand_or_other s.rules o idle 1 word nothing_held).1)) none

  -- a first word that is no subcommand is `--`
  only_end : (X : Type 0) (word : Text) → subcommand_met names idle word ≡ None
      → bytes_eq word (45 ∷ 45 ∷ []) ≡ false
      → turn_fault s names (walk_from nothing_held) word ≡ [] → X
  only_end X word none dash turn = by (long_of word) refl
    where
      here : turn_fault s [] (walk_from nothing_held) word ≡ []
      here = sym (same_turn word none) ∙ turn

      by : (o : Option (List ℕ × Option (List ℕ))) → long_of word ≡ o → X
      by None is = idle_other s names f.words X nothing_held word refl dash is here
      by (Some p) is = contra _ X (f.long p.0 p.1 nothing_held)
          (sym (long_fault_at s names f.words nothing_held word p dash is)
          ∙ (or_none (fault_at s names f.words nothing_held word) _ here).0)

  ended : (word : Text) → subcommand_met names idle word ≡ None
      → bytes_eq word (45 ∷ 45 ∷ []) ≡ true
      → walked s.rules names (walk_from nothing_held) word
      ≡ record (state None nothing_held) { is_trailing = true }
  unfolding walked
  ended word none dash =
      ap (λ o. after_step s.rules word (walk_from nothing_held)
      (subcommand_or_other s.rules o idle 1 word nothing_held).0
      (subcommand_or_other s.rules o idle 1 word nothing_held).1) none
      ∙ ap (λ (b : Bool). after_step s.rules word (walk_from nothing_held)
      (cond b (nothing_held, trailing 1)
      (long_or_other s.rules idle word (long_of word) nothing_held)).0
      (cond b (nothing_held, trailing 1)
      (long_or_other s.rules idle word (long_of word) nothing_held)).1) dash

  -- and nothing stands behind it
  after_end : (X : Type 0) (word y : Text) (ys : List Text) → subcommand_met names idle word ≡ None
      → bytes_eq word (45 ∷ 45 ∷ []) ≡ true
      → walk_fault s names (walk_from nothing_held) (word ∷ y ∷ ys) ≡ [] → X
  unfolding walk_fault
  after_end X word y ys none dash e =
      trails s names f.words X None nothing_held y ys
      (subst (λ v. walk_fault s names v (y ∷ ys) ≡ []) (ended word none dash)
      (or_none (turn_fault s names (walk_from nothing_held) word)
      (walk_fault s names (walked s.rules names (walk_from nothing_held) word) (y ∷ ys)) e).1)

-- ---- the words after `check`

abbrev second_of : List Shape → Shape
second_of [] = built_app.top
second_of (a ∷ []) = a
second_of (a ∷ b ∷ rest) = b

abbrev check_shape : Shape
check_shape = second_of built_app.subs

check_long : (t : Bool) (v : Option (List ℕ)) (h : Held)
    → is_fault (long_fault check_shape.rules false
    (cond (t || false) (Some (filled help_rule)) None) v h) ≡ true
check_long false v h = refl
check_long true (Some v) h = refl
check_long true None h = fault_right (settle_fault check_shape.rules false h) _ refl

check_short : (t : Bool) (rest : List ℕ) (h : Held) (more : Held → Kinds)
    → is_fault (short_fault check_shape.rules false
    (cond (t || false) (Some (filled help_rule)) None) rest h more) ≡ true
check_short false rest h more = refl
check_short true rest h more =
    fault_left (react_fault check_shape.rules false (filled help_rule) [] h) _
    (fault_right (settle_fault check_shape.rules false h) _ refl)

check_refuses : RefusesOptions check_shape
check_refuses = record {
  words = record {
    position = refl;
    stray = refl;
    short = λ x rest h more. check_short (104 == x) rest h more;
  };
  long = λ name v h. check_long (bytes_eq (codes "help") name) v h;
}

ends : (rest : List Text) → walk_fault check_shape [] (walk_from nothing_held) rest ≡ []
    → is_end rest ≡ true
ends [] e = refl
ends (word ∷ rest) e = by (bytes_eq word (45 ∷ 45 ∷ [])) refl rest e
  where
    by : (b : Bool) → bytes_eq word (45 ∷ 45 ∷ []) ≡ b → (rest : List Text)
        → walk_fault check_shape [] (walk_from nothing_held) (word ∷ rest) ≡ []
        → is_end (word ∷ rest) ≡ true
    by true dash [] e = ap (λ b. b && true) dash
    by true dash (y ∷ ys) e = after_end check_shape [] check_refuses _ word y ys refl dash e
    by false dash rest e = only_end check_shape [] check_refuses _ word refl dash
        (turn_of check_shape [] check_refuses.words (walk_from nothing_held) word rest e)

abbrev after_check : List Text → Walk
after_check rest = record (walk_from nothing_held) { stopped = Some (codes "check", rest) }

met_check : walked built_app.top.rules names (walk_from nothing_held) (codes "check")
    ≡ after_check []
unfolding clap_on_literals
met_check = refl

walk_check : (rest : List Text)
    → walk built_app.top.rules names nothing_held (codes "check" ∷ rest) ≡ after_check rest
walk_check rest = ap (λ w. fold (walked built_app.top.rules names) w rest) met_check
    ∙ sym (walk_stopped built_app.top.rules names (walk_from nothing_held) (codes "check") [] rest)

top_check : (rest : List Text)
    → walk_fault built_app.top names (walk_from nothing_held) (codes "check" ∷ rest) ≡ []
unfolding clap_on_literals
top_check rest = stopped_fault built_app.top names (walk_from nothing_held) (codes "check", []) rest

fault_below : (rest : List Text) → fault_of arbiter_app (codes "check" ∷ rest)
    ≡ or_else (level_fault check_shape [] nothing_held rest false []) []
unfolding clap_on_literals
fault_below rest =
    ap₂ faults_behind (walk_check rest) (top_check rest)

check_ends : (rest : List Text) → fault_of arbiter_app (codes "check" ∷ rest) ≡ []
    → is_end rest ≡ true
check_ends rest e =
    let level = (or_none (level_fault check_shape [] nothing_held rest false []) []
    (sym (fault_below rest) ∙ e)).0 in
    ends rest (or_none (walk_fault check_shape [] (walk_from nothing_held) rest) _ level).0

-- ---- the first word

top_long : (t u : Bool) (v : Option (List ℕ)) (h : Held)
    → is_fault (long_fault built_app.top.rules false
    (cond (t || false) (Some (filled help_rule))
    (cond (u || false) (Some (filled version_rule)) None)) v h) ≡ true
top_long false false v h = refl
top_long true u (Some v) h = refl
top_long true u None h = fault_right (settle_fault built_app.top.rules false h) _ refl
top_long false true (Some v) h = refl
top_long false true None h = fault_right (settle_fault built_app.top.rules false h) _ refl

top_short : (t u : Bool) (rest : List ℕ) (h : Held) (more : Held → Kinds)
    → is_fault (short_fault built_app.top.rules false
    (cond (t || false) (Some (filled help_rule))
    (cond (u || false) (Some (filled version_rule)) None)) rest h more) ≡ true
top_short false false rest h more = refl
top_short true u rest h more =
    fault_left (react_fault built_app.top.rules false (filled help_rule) [] h) _
    (fault_right (settle_fault built_app.top.rules false h) _ refl)
top_short false true rest h more =
    fault_left (react_fault built_app.top.rules false (filled version_rule) [] h) _
    (fault_right (settle_fault built_app.top.rules false h) _ refl)

top_refuses : RefusesOptions built_app.top
top_refuses = record {
  words = record {
    position = refl;
    stray = refl;
    short = λ x rest h more. top_short (104 == x) (86 == x) rest h more;
  };
  long = λ name v h. top_long (bytes_eq (codes "help") name) (bytes_eq (codes "version") name) v h;
}

none_met : (p q r : Bool) → p ≡ false → q ≡ false → r ≡ false
    → option_map (λ (s : Text × List Text). s.0)
    (cond (p || false) (Some (codes "run", []))
    (cond (q || false) (Some (codes "check", []))
    (cond (r || false) (Some (codes "help", [])) None))) ≡ None
none_met p q r e f g = rw (e, f, g) refl

no_words : is_fault (fault_of arbiter_app []) ≡ true
unfolding clap_on_literals
no_words = refl

end_alone : is_fault (fault_of arbiter_app ((45 ∷ 45 ∷ []) ∷ [])) ≡ true
unfolding clap_on_literals
end_alone = refl

help_faults : is_fault (turn_fault built_app.top names (walk_from nothing_held) (codes "help"))
    ≡ true
help_faults = refl

-- what is found for these words is the job k
pub record IsFoundFor (words : List Text) (k : Job) : Type 0 where
  pub passes : fault_of arbiter_app words ≡ []
  pub found : Option (Text × List Row)
  pub at : found ≡ subcommand_of arbiter_app words
  pub run : (rows : List Row) (uses : Uses) → found ≡ Some (codes "run", rows)
      → HasNumbers rows uses → k ≡ run_job uses
  pub check : (rows : List Row) → found ≡ Some (codes "check", rows) → k ≡ job.Check

run_words : (rest : List Text) (k : Job) → IsFoundFor (codes "run" ∷ rest) k
    → job_named (codes "run" ∷ rest) ≡ Some k
run_words rest k w = run_sound rest k w.found w.passes w.at w.run w.check

check_words : (rest : List Text) (k : Job) → IsFoundFor (codes "check" ∷ rest) k
    → job_named (codes "check" ∷ rest) ≡ Some k
check_words rest k w =
    let named : job_named (codes "check" ∷ rest) ≡ Some job.Check =
    ap (λ (b : Bool). cond b (Some job.Check) None) (check_ends rest w.passes) in
    named ∙ ap Some (sym ((named_gives (codes "check" ∷ rest) job.Check named).1 k w.found w.at
    w.run w.check))

other_words : (X : Type 0) (verb : Text) (rest : List Text) → bytes_eq (codes "run") verb ≡ false
    → bytes_eq (codes "check") verb ≡ false
    → fault_of arbiter_app (verb ∷ rest) ≡ [] → X
other_words X verb rest not_run not_check e = helps (bytes_eq (codes "help") verb) refl
  where
    walks : walk_fault built_app.top names (walk_from nothing_held) (verb ∷ rest) ≡ []
    walks = (or_none (walk_fault built_app.top names (walk_from nothing_held) (verb ∷ rest)) _ e).0

    turn : turn_fault built_app.top names (walk_from nothing_held) verb ≡ []
    turn = turn_of built_app.top names top_refuses.words (walk_from nothing_held) verb rest walks

    dashes : (b : Bool) → bytes_eq verb (45 ∷ 45 ∷ []) ≡ b → subcommand_met names idle verb ≡ None
        → (rest : List Text)
        → walk_fault built_app.top names (walk_from nothing_held) (verb ∷ rest) ≡ []
        → fault_of arbiter_app (verb ∷ rest) ≡ [] → X
    dashes false dash none rest walks e =
        only_end built_app.top names top_refuses X verb none dash turn
    dashes true dash none [] walks e =
        contra (fault_of arbiter_app ((45 ∷ 45 ∷ []) ∷ [])) X end_alone
        (subst (λ w. fault_of arbiter_app (w ∷ []) ≡ [])
        ((bytes_eq-Decides verb (45 ∷ 45 ∷ [])).0 dash) e)
    dashes true dash none (y ∷ ys) walks e =
        after_end built_app.top names top_refuses X verb y ys none dash walks

    helps : (b : Bool) → bytes_eq (codes "help") verb ≡ b → X
    helps true is = contra _ X help_faults
        (subst (λ w. turn_fault built_app.top names (walk_from nothing_held) w ≡ [])
        (sym ((bytes_eq-Decides (codes "help") verb).0 is)) turn)
    helps false is = dashes (bytes_eq verb (45 ∷ 45 ∷ [])) refl
        (none_met (bytes_eq (codes "run") verb) (bytes_eq (codes "check") verb)
        (bytes_eq (codes "help") verb) not_run not_check is) rest walks e

pub job_sound : (words : List Text) (k : Job) → IsFoundFor words k → job_named words ≡ Some k
job_sound [] k w = contra (fault_of arbiter_app []) _ no_words w.passes
job_sound (verb ∷ rest) k w = runs (bytes_eq (codes "run") verb) refl
  where
    checks : (b : Bool) → bytes_eq (codes "run") verb ≡ false → bytes_eq (codes "check") verb ≡ b
        → job_named (verb ∷ rest) ≡ Some k
    checks true not_run is = subst (λ v. IsFoundFor (v ∷ rest) k → job_named (v ∷ rest) ≡ Some k)
        ((bytes_eq-Decides (codes "check") verb).0 is) (check_words rest k) w
    checks false not_run is = other_words _ verb rest not_run is w.passes

    runs : (b : Bool) → bytes_eq (codes "run") verb ≡ b → job_named (verb ∷ rest) ≡ Some k
    runs true is = subst (λ v. IsFoundFor (v ∷ rest) k → job_named (v ∷ rest) ≡ Some k)
        ((bytes_eq-Decides (codes "run") verb).0 is) (run_words rest k) w
    runs false is = checks (bytes_eq (codes "check") verb) is refl
