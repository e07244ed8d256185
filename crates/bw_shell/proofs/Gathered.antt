-- Calls that answer into the buffer, one after another.
use Rattle.std.proofs.Common.{◌≡◌, ℕ, List, [], ◌++◌, refl, sym, ◌∙◌, ap, subst, append_assoc}
use Rattle.std.proofs.Common.{append-nil, Option, Result, Err}
use Rattle.std.specs.Io.KnownBytes.{Appends}
use Rattle.bw_shell.specs.Gathers.{Gathers}
use Rattle.bw_streams.specs.Fronts.{AppendsFront}
use Rattle.bw_streams.specs.Watched.{inner_of}
use Rattle.bw_streams.specs.Writes.{Writes}
use Rattle.bw_streams.specs.declared.fault.RunFault.{RunFault}
use Rattle.bw_streams.specs.declared.watched.Watched.{Watched}
use Rattle.bw_streams.proofs.CallerLemmas.{Appends-trans, AppendsFront-after, AppendsFront-more}
use Rattle.bw_streams.proofs.CallerLemmas.{OnErr-map, OnOk-map, Writes-after}

-- what was written, and what waits, after two texts
pub two_texts : (u v w first t sent next : List ℕ) → u ++ first ≡ sent ++ v → v ++ t ≡ next ++ w
    → u ++ (first ++ t) ≡ (sent ++ next) ++ w
two_texts u v w first t sent next p q =
    sym (append_assoc u first t) ∙ ap (λ l. l ++ t) p ∙ append_assoc sent v t
    ∙ ap (λ l. sent ++ l) q ∙ sym (append_assoc sent next w)

-- what was written is a front of two texts
front_of_two : (u v first t sent : List ℕ) → u ++ first ≡ sent ++ v
    → sent ++ (v ++ t) ≡ u ++ (first ++ t)
front_of_two u v first t sent p =
    sym (append_assoc sent v t) ∙ ap (λ l. l ++ t) (sym p) ∙ append_assoc u first t

-- texts of one kind are of another
pub Gathers-map : {W T : Type 0} (contents : W → Option (List ℕ)) (a b : Watched W) (u v : List ℕ)
    (r : Result T RunFault) {P Q P' Q' : List ℕ → Type 0}
    → ((t : List ℕ) → P t → P' t) → ((t : List ℕ) → Q t → Q' t) → Gathers contents a b u v r P Q
    → Gathers contents a b u v r P' Q'
Gathers-map contents a b u v r f g w = record {
  ok = OnOk-map r (λ p. (p.0, p.1, f p.0 p.2, p.3, p.4)) w.ok;
  quiet = w.quiet;
  err = OnErr-map r (λ p. (p.0, g p.0 p.1, p.2)) w.err;
  blame = w.blame;
  fault = w.fault;
}

-- a text was gathered, and then such a one
pub Gathers-after : {W T : Type 0} (contents : W → Option (List ℕ)) (a b c : Watched W)
    (u v w : List ℕ) (r : Result T RunFault) (first sent : List ℕ) {P Q P' Q' : List ℕ → Type 0}
    → Appends (contents (inner_of a)) (contents (inner_of b)) sent → u ++ first ≡ sent ++ v
    → ((t : List ℕ) → P t → P' (first ++ t)) → ((t : List ℕ) → Q t → Q' (first ++ t))
    → Gathers contents b c v w r P Q → Gathers contents a c u w r P' Q'
Gathers-after contents a b c u v w r first sent written e f g x = record {
  ok = OnOk-map r (λ p. (
    first ++ p.0,
    sent ++ p.1,
    f p.0 p.2,
    Appends-trans (contents (inner_of a)) (contents (inner_of b)) (contents (inner_of c)) sent p.1
        written p.3,
    two_texts u v w first p.0 sent p.1 e p.4,
  )) x.ok;
  quiet = x.quiet;
  err = OnErr-map r (λ p. (
    first ++ p.0,
    g p.0 p.1,
    subst (AppendsFront (contents (inner_of a)) (contents (inner_of c)))
        (front_of_two u v first p.0 sent e)
        (AppendsFront-after (contents (inner_of a)) (contents (inner_of b)) (contents (inner_of c))
        sent (v ++ p.0) written p.2),
  )) x.err;
  blame = x.blame;
  fault = x.fault;
}

-- nothing was gathered, and then such a text
pub Gathers-first : {W T : Type 0} (contents : W → Option (List ℕ)) (a b c : Watched W)
    (u v w : List ℕ) (r : Result T RunFault) (nothing sent : List ℕ) {P Q : List ℕ → Type 0}
    → Appends (contents (inner_of a)) (contents (inner_of b)) sent → u ++ nothing ≡ sent ++ v
    → nothing ≡ [] → Gathers contents b c v w r P Q → Gathers contents a c u w r P Q
Gathers-first contents a b c u v w r nothing sent written e none x =
    Gathers-after contents a b c u v w r nothing sent written e
    (λ t p. rw none p) (λ t q. rw none q)
    x

-- what failed might have gathered a text of another kind
pub Gathers-err : {W T U : Type 0} (contents : W → Option (List ℕ)) (a b : Watched W)
    (u v w : List ℕ) (f : RunFault) {P Q P' Q' : List ℕ → Type 0}
    → ((t : List ℕ) → Q t → (rest : List ℕ) × Q' (t ++ rest))
    → Gathers {T = T} contents a b u v (Err f) P Q → Gathers {T = U} contents a b u w (Err f) P' Q'
Gathers-err contents a b u v w f g x = record {
  ok = tt;
  quiet = tt;
  err =
      let p = x.err in
      let more = g p.0 p.1 in (
        p.0 ++ more.0,
        more.1,
        subst (AppendsFront (contents (inner_of a)) (contents (inner_of b)))
            (append_assoc u p.0 more.0)
            (AppendsFront-more (contents (inner_of a)) (contents (inner_of b)) (u ++ p.0) more.0
            p.2),
      );
  blame = x.blame;
  fault = x.fault;
}

-- a text was gathered, and then a call failed that might have gathered such a one
pub Gathers-fails : {W T U : Type 0} (contents : W → Option (List ℕ)) (a b c : Watched W)
    (u v w x : List ℕ) (f : RunFault) (first sent : List ℕ) {P Q P' Q' : List ℕ → Type 0}
    → Appends (contents (inner_of a)) (contents (inner_of b)) sent → u ++ first ≡ sent ++ v
    → ((t : List ℕ) → Q t → (rest : List ℕ) × Q' ((first ++ t) ++ rest))
    → Gathers {T = T} contents b c v w (Err f) P Q → Gathers {T = U} contents a c u x (Err f) P' Q'
Gathers-fails {W} {T} contents a b c u v w x f first sent {P} {Q} {P'} {Q'} written e g y =
    Gathers-err contents a c u w x f {P = λ t. t ≡ t} {Q = λ t. (s : List ℕ) × Q s
    × (t ≡ first ++ s)} (λ t q. let more = g q.0 q.1 in
    (more.0, subst Q' (ap (λ l. l ++ more.0) (sym q.2)) more.1))
    (Gathers-after {T = T} contents a b c u v w (Err f) first sent written e (λ t p. refl)
    (λ t q. (t, q, refl)) y)

-- a text was gathered, and what then waits was written
pub Gathers-written : {W T : Type 0} (contents : W → Option (List ℕ)) (a b c : Watched W)
    (u v : List ℕ) (r : Result T RunFault) (text sent : List ℕ) {P Q : List ℕ → Type 0}
    → u ≡ [] → Appends (contents (inner_of a)) (contents (inner_of b)) sent
    → u ++ text ≡ sent ++ v → P text → Q text
    → Writes contents b c r (λ t. t ≡ v) (λ t. t ≡ v) → Writes contents a c r P Q
Gathers-written contents a b c u v r text sent {P} {Q} none written e p q w =
    let all : text ≡ sent ++ v = ap (λ l. l ++ text) (sym none) ∙ e in
    Writes-after contents a b c r sent written
    (λ t is. subst P (all ∙ ap (λ l. sent ++ l) (sym is)) p)
    (λ t is. subst Q (all ∙ ap (λ l. sent ++ l) (sym is)) q) w

-- where nothing waited, a front of the text alone was written
pub Gathers-failed : {W T U : Type 0} (contents : W → Option (List ℕ)) (a b : Watched W)
    (u v : List ℕ) (f : RunFault) {P Q P' : List ℕ → Type 0} → u ≡ []
    → Gathers {T = T} contents a b u v (Err f) P Q → Writes {T = U} contents a b (Err f) P' Q
Gathers-failed contents a b u v f none x = record {
  ok = tt;
  quiet = tt;
  err =
      let p = x.err in (
        p.0,
        p.1,
        subst (AppendsFront (contents (inner_of a)) (contents (inner_of b)))
            (ap (λ l. l ++ p.0) none) p.2,
      );
  blame = x.blame;
  fault = x.fault;
}

-- what waits was written, and then a text, or a front of both
pub Writes-gathered : {W T : Type 0} (contents : W → Option (List ℕ)) (a b c : Watched W)
    (u v : List ℕ) (r : Result T RunFault) (sent text : List ℕ)
    → Appends (contents (inner_of a)) (contents (inner_of b)) sent → sent ≡ u → v ≡ []
    → Writes contents b c r (λ t. t ≡ text) (λ t. t ≡ text)
    → Gathers contents a c u v r (λ t. t ≡ text) (λ t. t ≡ text)
Writes-gathered contents a b c u v r sent text written all none w = record {
  ok = OnOk-map r (λ p. (
    text,
    sent ++ p.0,
    refl,
    Appends-trans (contents (inner_of a)) (contents (inner_of b)) (contents (inner_of c)) sent p.0
        written p.2,
    ap (λ l. l ++ text) (sym all) ∙ ap (λ l. sent ++ l) (sym p.1)
        ∙ sym (append-nil (sent ++ p.0)) ∙ ap (λ l. (sent ++ p.0) ++ l) (sym none),
  )) w.ok;
  quiet = w.quiet;
  err = OnErr-map r (λ p. (
    text,
    refl,
    subst (AppendsFront (contents (inner_of a)) (contents (inner_of c)))
        (ap (λ l. sent ++ l) p.1 ∙ ap (λ l. l ++ text) all)
        (AppendsFront-after (contents (inner_of a)) (contents (inner_of b)) (contents (inner_of c))
        sent p.0 written p.2),
  )) w.err;
  blame = w.blame;
  fault = w.fault;
}

-- a call that writes what waits failed
pub Writes-waiting : {W T U : Type 0} (contents : W → Option (List ℕ)) (a b : Watched W)
    (u v : List ℕ) (f : RunFault) (text : List ℕ) {P Q : List ℕ → Type 0} → Q text
    → Writes {T = T} contents a b (Err f) (λ t. t ≡ u) (λ t. t ≡ u)
    → Gathers {T = U} contents a b u v (Err f) P Q
Writes-waiting contents a b u v f text q w = record {
  ok = tt;
  quiet = tt;
  err =
      let p = w.err in (
        text,
        q,
        AppendsFront-more (contents (inner_of a)) (contents (inner_of b)) u text
            (subst (AppendsFront (contents (inner_of a)) (contents (inner_of b))) p.1 p.2),
      );
  blame = w.blame;
  fault = w.fault;
}

-- what waits is known by another name
pub Gathers-from : {W T : Type 0} (contents : W → Option (List ℕ)) (a b : Watched W)
    (u u' v : List ℕ) (r : Result T RunFault) {P Q : List ℕ → Type 0} → u ≡ u'
    → Gathers contents a b u v r P Q → Gathers contents a b u' v r P Q
Gathers-from contents a b u u' v r {P} {Q} same x =
    subst (λ l. Gathers contents a b l v r P Q) same x
