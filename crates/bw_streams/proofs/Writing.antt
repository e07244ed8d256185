-- Calls that write, one after another.
use Rattle.std.proofs.Common.{◌≡◌, ℕ, List, [], ◌++◌, sym, ap, subst, append-nil, Option, Result}
use Rattle.std.proofs.Common.{Err}
use Rattle.std.specs.Io.KnownBytes.{Appends}
use Rattle.bw_streams.specs.Fronts.{AppendsFront}
use Rattle.bw_streams.specs.Watched.{inner_of}
use Rattle.bw_streams.specs.Writes.{Writes}
use Rattle.bw_streams.specs.declared.fault.RunFault.{RunFault}
use Rattle.bw_streams.specs.declared.watched.Watched.{Watched}
use Rattle.bw_streams.proofs.Known.{Appends-trans, AppendsFront-after, AppendsFront-more, OnOk-map}
use Rattle.bw_streams.proofs.Known.{OnErr-map}

-- a text was written, and then such a one
pub Writes-after : {W T : Type 0} (contents : W → Option (List ℕ)) (a b c : Watched W)
    (r : Result T RunFault) (first : List ℕ) {P Q P' Q' : List ℕ → Type 0}
    → Appends (contents (inner_of a)) (contents (inner_of b)) first
    → ((t : List ℕ) → P t → P' (first ++ t)) → ((t : List ℕ) → Q t → Q' (first ++ t))
    → Writes contents b c r P Q → Writes contents a c r P' Q'
Writes-after contents a b c r first written f g w = record {
  ok = OnOk-map r (λ p. (
    first ++ p.0,
    f p.0 p.1,
    Appends-trans (contents (inner_of a)) (contents (inner_of b)) (contents (inner_of c)) first p.0
        written p.2,
  )) w.ok;
  quiet = w.quiet;
  err = OnErr-map r (λ p. (
    first ++ p.0,
    g p.0 p.1,
    AppendsFront-after (contents (inner_of a)) (contents (inner_of b)) (contents (inner_of c)) first
        p.0 written p.2,
  )) w.err;
  blame = w.blame;
  fault = w.fault;
}

-- a text was written, and then nothing
pub Writes-last : {W T : Type 0} (contents : W → Option (List ℕ)) (a b c : Watched W)
    (r : Result T RunFault) (first : List ℕ) {P Q : List ℕ → Type 0}
    → Appends (contents (inner_of a)) (contents (inner_of b)) first → P first → Q first
    → Writes contents b c r (λ t. t ≡ []) (λ t. t ≡ []) → Writes contents a c r P Q
Writes-last contents a b c r first {P} {Q} written p q w =
    Writes-after contents a b c r first written
    (λ t e. subst P (ap (λ l. first ++ l) (sym e)) (subst P (sym (append-nil first)) p))
    (λ t e. subst Q (ap (λ l. first ++ l) (sym e)) (subst Q (sym (append-nil first)) q))
    w

-- nothing was written, and then such a text
pub Writes-first : {W T : Type 0} (contents : W → Option (List ℕ)) (a b c : Watched W)
    (r : Result T RunFault) (nothing : List ℕ) {P Q : List ℕ → Type 0}
    → Appends (contents (inner_of a)) (contents (inner_of b)) nothing → nothing ≡ []
    → Writes contents b c r P Q → Writes contents a c r P Q
Writes-first contents a b c r nothing {P} {Q} written e w =
    Writes-after contents a b c r nothing written (λ t p. rw e p) (λ t q. rw e q) w

-- texts of one kind are of another
pub Writes-map : {W T : Type 0} (contents : W → Option (List ℕ)) (a b : Watched W)
    (r : Result T RunFault) {P Q P' Q' : List ℕ → Type 0}
    → ((t : List ℕ) → P t → P' t) → ((t : List ℕ) → Q t → Q' t) → Writes contents a b r P Q
    → Writes contents a b r P' Q'
Writes-map contents a b r f g w = record {
  ok = OnOk-map r (λ p. (p.0, f p.0 p.1, p.2)) w.ok;
  quiet = w.quiet;
  err = OnErr-map r (λ p. (p.0, g p.0 p.1, p.2)) w.err;
  blame = w.blame;
  fault = w.fault;
}

-- nothing could be written, which is a front of any text
pub Writes-none : {W T U : Type 0} (contents : W → Option (List ℕ)) (a b : Watched W) (f : RunFault)
    (text : List ℕ) {P Q : List ℕ → Type 0} → Q text
    → Writes {T = T} contents a b (Err f) (λ t. t ≡ []) (λ t. t ≡ [])
    → Writes {T = U} contents a b (Err f) P Q
Writes-none contents a b f text q w = record {
  ok = tt;
  quiet = tt;
  err =
      let p = w.err in (
        text,
        q,
        AppendsFront-more (contents (inner_of a)) (contents (inner_of b)) [] text
            (subst (λ l. AppendsFront (contents (inner_of a)) (contents (inner_of b)) l) p.1 p.2),
      );
  blame = w.blame;
  fault = w.fault;
}

-- what failed might have written a text of another kind
pub Writes-err : {W T U : Type 0} (contents : W → Option (List ℕ)) (a b : Watched W) (f : RunFault)
    {P Q P' Q' : List ℕ → Type 0}
    → ((t : List ℕ) → Q t → Q' t) → Writes {T = T} contents a b (Err f) P Q
    → Writes {T = U} contents a b (Err f) P' Q'
Writes-err contents a b f g w = record {
  ok = tt;
  quiet = tt;
  err = let p = w.err in (p.0, g p.0 p.1, p.2);
  blame = w.blame;
  fault = w.fault;
}

-- a text was written, and then a front of one that some further text may follow
pub Writes-fails : {W T U : Type 0} (contents : W → Option (List ℕ)) (a b c : Watched W)
    (f : RunFault) (first : List ℕ) {P Q P' Q' : List ℕ → Type 0}
    → Appends (contents (inner_of a)) (contents (inner_of b)) first
    → ((t : List ℕ) → Q t → (rest : List ℕ) × Q' ((first ++ t) ++ rest))
    → Writes {T = T} contents b c (Err f) P Q → Writes {T = U} contents a c (Err f) P' Q'
Writes-fails contents a b c f first written g w = record {
  ok = tt;
  quiet = tt;
  err =
      let p = w.err in
      let more = g p.0 p.1 in (
        (first ++ p.0) ++ more.0,
        more.1,
        AppendsFront-more (contents (inner_of a)) (contents (inner_of c)) (first ++ p.0) more.0
            (AppendsFront-after (contents (inner_of a)) (contents (inner_of b))
            (contents (inner_of c)) first p.0 written p.2),
      );
  blame = w.blame;
  fault = w.fault;
}
