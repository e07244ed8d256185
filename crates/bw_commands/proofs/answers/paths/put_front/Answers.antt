-- The goals of `put_front` that are answered by hand.
use Rattle.std.proofs.Common.{◌≡◌, ◌≤◌, ◌+◌, ◌-◌, ◌++◌, ◌∷◌, [], ℕ, zero, suc, List, length, take}
use Rattle.std.proofs.Common.{drop, replicate, refl, sym, ap, ◌∙◌, arith, rules}
use Rattle.std.proofs.lemmas.List.{length-append, take_all, take_at, drop_at}
use Rattle.bw_commands.specs.PathList.{cut}
use Rattle.bw_commands.proofs.answers.paths.put_front.Goals as goal

-- one byte is left of one more than are dropped
one_left : (n k : ℕ) → k ≡ n + 1 → drop {A = ℕ} n (replicate k 47) ≡ 47 ∷ []
one_left zero zero e = absurd (omega (arith, e))
one_left zero (suc zero) e = refl
one_left zero (suc (suc k)) e = absurd (omega (arith, e))
one_left (suc n) zero e = absurd (omega (arith, e))
one_left (suc n) (suc k) e = one_left n k (omega (arith, e))

-- a text that was made longer
module _ (text all : List ℕ) (n k at bytes : ℕ) (is : all ≡ take n text ++ replicate k 47)
    (whole : length text ≤ n) (end : at ≡ length text) where
  filled : all ≡ text ++ replicate k 47
  filled = is ∙ ap (λ t. t ++ replicate k 47) (take_all n text whole)

  kept : take at all ≡ text
  kept = ap (take at) filled ∙ take_at text (replicate k 47) at (sym end)

  left : k ≡ bytes + 1 → drop bytes (drop at all) ≡ 47 ∷ []
  left long = ap (λ xs. drop bytes (drop at xs)) filled
      ∙ ap (drop bytes) (drop_at text (replicate k 47) at (sym end)) ∙ one_left bytes k long

pub returns-clause-ok : goal.returns-clause-ok
returns-clause-ok c =
    let text = c.args.text.now.items in
    let copy = cut text c.args.part in
    let bytes = c.args.part.end - c.args.part.start in
    let at = c.len-at.result in
    let all = c.as_mut_slice.result.now in
    let written = c.split_at_mut-written.result.0.now in
    let copied = c.copy_from_slice.new.self in
    let tail = c.split_at_mut-copy.result.1.now in
    let end : at ≡ length text = search rules in
    let is : all ≡ take (at + bytes + 1) text ++ replicate (at + bytes + 1 - length text) 47 =
    search rules in
    let front : written ≡ text = c.split_at_mut-written.ensures.front
    ∙ kept text all (at + bytes + 1) (at + bytes + 1 - length text) at bytes is
    (omega (arith, end)) end in
    let last : tail ≡ 47 ∷ [] = c.split_at_mut-copy.ensures.back
    ∙ ap (drop bytes) c.split_at_mut-written.ensures.back
    ∙ left text all (at + bytes + 1) (at + bytes + 1 - length text) at bytes is
    (omega (arith, end)) end (omega (arith, end)) in
    let again : copied ≡ copy =
    c.copy_from_slice.ensures.after ∙ ap (λ xs. cut xs c.args.part) front in
    let parts : written ++ (copied ++ tail) ≡ text ++ (copy ++ 47 ∷ []) =
    ap (λ xs. xs ++ (copied ++ tail)) front ∙ ap (λ xs. text ++ (xs ++ tail)) again
    ∙ ap (λ xs. text ++ (copy ++ xs)) last in
    let long : length (written ++ (copied ++ tail)) ≡ c.resize.new.self.len =
    omega (
      arith,
      end,
      ap length front,
      ap length last,
      length-append written (copied ++ tail),
      length-append copied tail,
      c.copy_from_slice.ensures.len,
      c.split_at_mut-copy.ensures.front_len,
      c.in_ok-resize.ensures.len,
    ) in
    take_at (written ++ (copied ++ tail)) _ c.resize.new.self.len long ∙ parts
