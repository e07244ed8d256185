-- The goals of `Session::take_bytes` that are answered by hand.
use Rattle.std.proofs.Common.{◌≡◌, ◌++◌, ◌∙◌, ℕ, List, [], ◌∷◌, take, drop, ap, sym, subst}
use Rattle.std.proofs.Common.{append_assoc, append-nil, Some, None}
use Rattle.std.proofs.lemmas.List.{take-append-drop, drop-drop}
use Rattle.memchr.specs.Find.{IsFirstByte, is_byte}
use Rattle.bw_shell.specs.Piece.{bytes_of}
use Rattle.bw_shell.specs.Scan.{Scan, TakesBytes, TakesLine, kept_after}
use Rattle.bw_shell.specs.Session.{scan_of, session_waits}
use Rattle.bw_streams.proofs.CallerLemmas.{Appends-nil, Appends-trans}
use Rattle.bw_shell.proofs.LineLemmas.{first_newline-front, first_newline-rest, no_newline}
use Rattle.bw_shell.proofs.Scanning.{TakesBytes-nil, TakesBytes-append, TakesBytes-clean}
use Rattle.bw_shell.proofs.Scanning.{TakesBytes-line, TakesBytes-total}
use Rattle.bw_shell.proofs.Gathered.{Gathers-fails, two_texts}
use Rattle.bw_shell.proofs.session.Session.take_bytes.Goals as goal

-- input and a line with its newline, and what stands behind them
parted : (piece input rest front behind : List ℕ) → piece ≡ input ++ rest → rest ≡ front ++ behind
    → behind ≡ 10 ∷ drop 1 behind
    → piece ≡ (input ++ (front ++ 10 ∷ [])) ++ drop 1 behind
parted piece input rest front behind p r b =
    p ∙ ap (λ l. input ++ l)
    (r ∙ ap (λ l. front ++ l) b ∙ sym (append_assoc front (10 ∷ []) (drop 1 behind)))
    ∙ sym (append_assoc input (front ++ 10 ∷ []) (drop 1 behind))

pub loop-end-init : goal.loop-end-init
loop-end-init g c =
    record {
      taken = ([], [], [], TakesBytes-nil _, Appends-nil _, append-nil _, sym c.new-rest.ensures);
      quiet = c.requires;
    }

pub loop-end-preserved : goal.loop-end-preserved
loop-end-preserved g c =
    let t = c.loop-end.invariant.taken in
    let xs = bytes_of c.loop-end.rest in
    let n = c.in-Some.end in
    let front = take n xs in
    let behind = drop n xs in
    let found : IsFirstByte (is_byte 10) xs (Some n) =
    subst (λ l. IsFirstByte (is_byte 10) l (Some n)) c.bytes.ensures c.in-Some.ensures in
    let clean = first_newline-front xs n found.0 in
    let newline = first_newline-rest xs n found.0 found.1 in
    let line = c.in-Ok.ensures.ok in
    let front_is : bytes_of c.split_line.result.0 ≡ front = c.split_line.ensures.front in
    let takes : TakesLine (scan_of g.G.Gate.used c.loop-end.self) front line.0
    (scan_of g.G.Gate.used c.end_line.new.self) =
    subst (λ l. TakesLine (scan_of g.G.Gate.used c.loop-end.self) l line.0
    (scan_of g.G.Gate.used c.end_line.new.self)) front_is line.2 in
    let rest_is : bytes_of c.split_line.result.1 ≡ drop 1 behind =
    c.split_line.ensures.behind ∙ sym (drop-drop 1 n xs) in
    record {
      taken = (
        t.0 ++ (front ++ 10 ∷ []),
        t.1 ++ line.0,
        t.2 ++ line.1,
        TakesBytes-append t.0 (front ++ 10 ∷ []) t.1 line.0 _ _ _ t.3
            (TakesBytes-line front line.0 _ _ clean takes),
        Appends-trans _ _ _ t.2 line.1 t.4 line.3,
        two_texts _ _ _ t.1 line.0 t.2 line.1 t.5 line.4,
        rw rest_is (parted c.args.piece.now t.0 xs front behind t.6 (sym (take-append-drop n xs))
            newline),
      );
      quiet = c.in-Ok.ensures.quiet;
    }

pub returns-in-Err : goal.returns-in-Err
returns-in-Err g c =
    let t = c.loop-end.invariant.taken in
    let xs = bytes_of c.loop-end.rest in
    let n = c.in-Some.end in
    let front = take n xs in
    let behind = drop n xs in
    let found : IsFirstByte (is_byte 10) xs (Some n) =
    subst (λ l. IsFirstByte (is_byte 10) l (Some n)) c.bytes.ensures c.in-Some.ensures in
    let clean = first_newline-front xs n found.0 in
    let newline = first_newline-rest xs n found.0 found.1 in
    let front_is : bytes_of c.split_line.result.0 ≡ front = c.split_line.ensures.front in
    let whole = parted c.args.piece.now t.0 xs front behind t.6 (sym (take-append-drop n xs))
    newline in
    Gathers-fails g.W.Write.contents c.args.writer.now c.loop-end.writer c.end_line.new.writer
    (session_waits c.args.self.now) (session_waits c.loop-end.self)
    (session_waits c.end_line.new.self) _ c.in-Err.fault t.1 t.2 {Q' =
    λ l. (u : Scan) × TakesBytes (scan_of g.G.Gate.used c.args.self.now) c.args.piece.now l u} t.4
    t.5
    (λ text p.
    let takes : TakesLine (scan_of g.G.Gate.used c.loop-end.self) front text p.0 =
    subst (λ l. TakesLine (scan_of g.G.Gate.used c.loop-end.self) l text p.0) front_is p.1 in
    let so_far = TakesBytes-append t.0 (front ++ 10 ∷ []) t.1 text _ _ _ t.3
    (TakesBytes-line front text _ _ clean takes) in
    let more = TakesBytes-total (drop 1 behind) p.0 in (
      more.0,
      (
        more.1,
        subst (λ l. TakesBytes (scan_of g.G.Gate.used c.args.self.now) l ((t.1 ++ text) ++ more.0)
            more.1) (sym whole)
            (TakesBytes-append (t.0 ++ (front ++ 10 ∷ [])) (drop 1 behind) (t.1 ++ text) more.0 _ _
            _ so_far more.2),
      ),
    ))
    c.in-Err.ensures

pub returns : goal.returns
returns g c =
    let t = c.loop-end.invariant.taken in
    let rest = bytes_of c.loop-end.rest in
    let a = scan_of g.G.Gate.used c.args.self.now in
    let b = scan_of g.G.Gate.used c.loop-end.self in
    let d = scan_of g.G.Gate.used c.keep.new.self in
    let none : IsFirstByte (is_byte 10) rest None =
    subst (λ l. IsFirstByte (is_byte 10) l None) c.bytes.ensures c.in_default.ensures in
    let clean = no_newline rest (λ k low high. none k low high) in
    let whole : d ≡ record b { kept = kept_after b.kept rest } =
    c.keep.ensures.scan
    ∙ ap (λ l. record b { kept = kept_after b.kept l }) c.bytes-2.ensures in
    let kept : TakesBytes b rest [] d =
    subst (λ m. TakesBytes b rest [] m) (sym whole) (TakesBytes-clean rest b clean) in
    let all : TakesBytes a c.args.piece.now (t.1 ++ []) d =
    subst (λ l. TakesBytes a l (t.1 ++ []) d) (sym t.6)
    (TakesBytes-append t.0 rest t.1 [] a b d t.3 kept) in
    record {
      ok = (
        t.1,
        t.2,
        subst (λ l. TakesBytes a c.args.piece.now l d) (append-nil t.1) all,
        t.4,
        t.5 ∙ ap (λ l. t.2 ++ l) (sym c.keep.ensures.waits),
      );
      quiet = c.loop-end.invariant.quiet;
      err = tt;
      blame = tt;
      fault = tt;
    }
