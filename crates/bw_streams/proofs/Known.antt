-- What follows when known bytes are appended or consumed twice.
use Rattle.std.proofs.Common.{◌≡◌, ℕ, List, [], ◌++◌, refl, sym, ◌∙◌, ap, subst, append_assoc}
use Rattle.std.proofs.Common.{append-nil, Option, Some, None, Result, Ok, Err, OnOk, OnErr}
use Rattle.std.proofs.Common.{IsErrOf, take, drop}
use Rattle.std.proofs.lemmas.List.{take-append-drop}
use Rattle.std.specs.Io.KnownBytes.{Appends, Consumes, Keeps}
use Rattle.bw_streams.specs.Fronts.{AppendsFront}

pub Appends-nil : (a : Option (List ℕ)) → Appends a a []
Appends-nil None = tt
Appends-nil (Some x) = sym (append-nil x)

pub Consumes-nil : (a : Option (List ℕ)) → Consumes a a []
Consumes-nil None = tt
Consumes-nil (Some x) = refl

pub Appends-trans : (a b c : Option (List ℕ)) (bs cs : List ℕ) → Appends a b bs → Appends b c cs
    → Appends a c (bs ++ cs)
Appends-trans None b c bs cs p q = tt
Appends-trans (Some x) None c bs cs p q = absurd p
Appends-trans (Some x) (Some y) None bs cs p q = absurd q
Appends-trans (Some x) (Some y) (Some z) bs cs p q = q ∙ ap (λ l. l ++ cs) p ∙ append_assoc x bs cs

pub Consumes-trans : (a b c : Option (List ℕ)) (bs cs : List ℕ) → Consumes a b bs → Consumes b c cs
    → Consumes a c (bs ++ cs)
Consumes-trans None b c bs cs p q = tt
Consumes-trans (Some x) None c bs cs p q = absurd p
Consumes-trans (Some x) (Some y) None bs cs p q = absurd q
Consumes-trans (Some x) (Some y) (Some z) bs cs p q =
    p ∙ ap (λ l. bs ++ l) q ∙ sym (append_assoc bs cs z)

pub Appends-kept : (a b c : Option (List ℕ)) (bs : List ℕ) → Appends a b bs → Keeps b c
    → Appends a c bs
Appends-kept None b c bs p q = tt
Appends-kept (Some x) None c bs p q = absurd p
Appends-kept (Some x) (Some y) None bs p q = absurd q
Appends-kept (Some x) (Some y) (Some z) bs p q = q ∙ p

pub Consumes-kept : (a b c : Option (List ℕ)) (bs : List ℕ) → Consumes a b bs → Keeps b c
    → Consumes a c bs
Consumes-kept None b c bs p q = tt
Consumes-kept (Some x) None c bs p q = absurd p
Consumes-kept (Some x) (Some y) None bs p q = absurd q
Consumes-kept (Some x) (Some y) (Some z) bs p q = p ∙ ap (λ l. bs ++ l) (sym q)

-- known bytes that stay as they are grow by nothing
pub Appends-none : (a b : Option (List ℕ)) → Keeps a b → Appends a b []
Appends-none None b k = tt
Appends-none (Some x) None k = absurd k
Appends-none (Some x) (Some y) k = k ∙ sym (append-nil x)

-- all of a text is a front of it
pub AppendsFront-all : (a b : Option (List ℕ)) (text : List ℕ) → Appends a b text
    → AppendsFront a b text
AppendsFront-all a b text p = (text, [], p, sym (append-nil text))

-- a text, and then a front of the next
pub AppendsFront-after : (a b c : Option (List ℕ)) (bs cs : List ℕ) → Appends a b bs
    → AppendsFront b c cs → AppendsFront a c (bs ++ cs)
AppendsFront-after a b c bs cs p q = (
  bs ++ q.0,
  q.1,
  Appends-trans a b c bs q.0 p q.2,
  ap (λ l. bs ++ l) q.3 ∙ sym (append_assoc bs q.0 q.1),
)

-- a front of a text is one of a longer text
pub AppendsFront-more : (a b : Option (List ℕ)) (bs cs : List ℕ) → AppendsFront a b bs
    → AppendsFront a b (bs ++ cs)
AppendsFront-more a b bs cs p =
    (p.0, p.1 ++ cs, p.2, ap (λ l. l ++ cs) p.3 ∙ append_assoc p.0 p.1 cs)

pub OnErr-map : {T E : Type 0} (r : Result T E) {P Q : Type 0} → (P → Q) → OnErr r P → OnErr r Q
OnErr-map (Ok v) f p = p
OnErr-map (Err e) f p = f p

pub OnOk-map : {T E : Type 0} (r : Result T E) {P Q : Type 0} → (P → Q) → OnOk r P → OnOk r Q
OnOk-map (Ok v) f p = f p
OnOk-map (Err e) f p = p

-- a front was sent, and then some of the rest
pub sends_more : (a b c : Option (List ℕ)) (text front rest : List ℕ) (n : ℕ) → Appends a b front
    → Appends b c (take n rest) → text ≡ front ++ rest
    → (x : List ℕ) × Appends a c x × (text ≡ x ++ drop n rest)
sends_more a b c text front rest n p q e = (
  front ++ take n rest,
  Appends-trans a b c front (take n rest) p q,
  e ∙ ap (λ l. front ++ l) (sym (take-append-drop n rest))
      ∙ sym (append_assoc front (take n rest) (drop n rest)),
)

-- a read that gave nothing
pub Consumes-none : (a b c : Option (List ℕ)) (bs : List ℕ) → Consumes a b bs → Consumes b c []
    → Consumes a c bs
Consumes-none a b c bs p q = subst (Consumes a c) (append-nil bs) (Consumes-trans a b c bs [] p q)

-- an error is that error, whatever the call gives at Ok
pub moves_err : {T U E : Type 0} (a b : E) → IsErrOf {T = T} {E = E} (Err a) b
    → IsErrOf {T = U} {E = E} (Err a) b
moves_err a b h = let e : a ≡ b = cc in ap Err e
