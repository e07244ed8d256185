-- The end of the way down to a group: how it begins, how it goes on, and where it stays.
use Rattle.std.proofs.Common.{◌≡◌, ◌≢◌, ℕ, ◌<◌, false, List, [], ◌∷◌, ◌++◌, length, Option, Some}
use Rattle.std.proofs.Common.{None, refl, sym, ap, ◌∙◌, eqb}
use Rattle.std.specs.Map.{remove_entry}
use Rattle.bw_tree.specs.declared.tail.Tail.{Tail}
use Rattle.bw_tree.specs.Groups.{GroupFields, has_children, child_of, onward, walk}
use Rattle.bw_tree.specs.Tails.{IsWay, IsTailOf}
use Rattle.bw_tree.proofs.IndexLemmas.{no_child}
use Rattle.bw_tree.proofs.RemoveLemmas.{child_removed}
use Rattle.bw_tree.proofs.WayLemmas.{walk_append, join_push}
use Rattle.bw_model.proofs.CallerLemmas.{inside}

-- the way from a parent to a child is the child's name
pub way_of_name : (gs : List (ℕ × GroupFields)) (parent id : ℕ) (name : List ℕ)
    → child_of gs parent name ≡ Some id → IsWay gs name parent id
way_of_name gs parent id name found = record {
  first = name;
  others = [];
  leads = ap (onward (λ q. Some q)) found;
  joined = refl;
}

-- a tail that begins at the parent
pub tail_of_name : (gs : List (ℕ × GroupFields)) (parent id : ℕ) (name : List ℕ) (tail : Tail)
    → tail.top ≡ parent → (0 < length tail.text.bytes → tail.text.bytes ≡ name)
    → child_of gs parent name ≡ Some id → IsTailOf gs tail id
tail_of_name gs parent id name tail top text found = λ some. record {
  first = name;
  others = [];
  leads = ap (λ p. walk gs p (name ∷ [])) top ∙ ap (onward (λ q. Some q)) found;
  joined = sym (text some);
}

-- a tail that goes on from the parent's
pub tail_of_child : (gs : List (ℕ × GroupFields)) (parent id : ℕ) (name : List ℕ)
    (above tail : Tail) → tail.top ≡ above.top
    → tail.text.bytes ≡ above.text.bytes ++ 47 ∷ name → 0 < length above.text.bytes
    → IsTailOf gs above parent → child_of gs parent name ≡ Some id → IsTailOf gs tail id
tail_of_child gs parent id name above tail top text full is found = λ some.
    let way = is full in record {
      first = way.first;
      others = way.others ++ name ∷ [];
      leads =
          ap (λ p. walk gs p ((way.first ∷ way.others) ++ name ∷ [])) top
          ∙ walk_append gs (way.first ∷ way.others) (name ∷ []) above.top
          ∙ ap (onward (λ q. walk gs q (name ∷ []))) way.leads
          ∙ ap (onward (λ q. Some q)) found;
      joined =
          join_push way.first way.others name
          ∙ ap (λ (way_text : List ℕ). way_text ++ 47 ∷ name) way.joined ∙ sym text;
    }

-- a tail whose walk leads on as it did
tail_led : (gs hs : List (ℕ × GroupFields)) (tail : Tail) (id : ℕ)
    → ((names : List (List ℕ)) → walk gs tail.top names ≡ Some id
    → walk hs tail.top names ≡ Some id)
    → IsTailOf gs tail id → IsTailOf hs tail id
tail_led gs hs tail id led is = λ some. let way = is some in record {
  first = way.first;
  others = way.others;
  leads = led (way.first ∷ way.others) way.leads;
  joined = way.joined;
}

-- where each child is found as it was
module _ (gs hs : List (ℕ × GroupFields))
    (kept : (p q : ℕ) (n : List ℕ) → child_of gs p n ≡ Some q → child_of hs p n ≡ Some q) where
  walk_kept : (names : List (List ℕ)) (at id : ℕ) → walk gs at names ≡ Some id
      → walk hs at names ≡ Some id
  walk_kept [] at id leads = leads
  walk_kept (name ∷ names) at id leads =
      onto (child_of gs at name) refl leads (walk_kept names)
    where
      onto : (o : Option ℕ) → child_of gs at name ≡ o
          → onward (λ q. walk gs q names) o ≡ Some id
          → ((q k : ℕ) → walk gs q names ≡ Some k → walk hs q names ≡ Some k)
          → walk hs at (name ∷ names) ≡ Some id
      onto None found leads rest = cc
      onto (Some q) found leads rest =
          ap (onward (λ k. walk hs k names)) (kept at q name found) ∙ rest q id leads

  pub tail_kept : (tail : Tail) (id : ℕ) → IsTailOf gs tail id → IsTailOf hs tail id
  tail_kept tail id = tail_led gs hs tail id (λ names. walk_kept names tail.top id)

-- where a group without children is taken out
module _ (gs : List (ℕ × GroupFields)) (gone : ℕ) (lone : has_children gs gone ≡ false) where
  -- a walk from it ends at it
  walk_ends : (names : List (List ℕ)) (id : ℕ) → walk gs gone names ≡ Some id → id ≡ gone
  walk_ends [] id leads = sym (inside leads)
  walk_ends (name ∷ names) id leads =
      let wrong : None ≡ Some id =
      sym (ap (onward (λ q. walk gs q names)) (no_child gs gone name lone)) ∙ leads in
      absurd (cc)

  walk_left : (names : List (List ℕ)) (at id : ℕ) → id ≢ gone → walk gs at names ≡ Some id
      → walk (remove_entry (eqb gone) gs) at names ≡ Some id
  walk_left [] at id apart leads = leads
  walk_left (name ∷ names) at id apart leads =
      onto (child_of gs at name) refl leads (walk_left names)
    where
      onto : (o : Option ℕ) → child_of gs at name ≡ o
          → onward (λ q. walk gs q names) o ≡ Some id
          → ((q k : ℕ) → k ≢ gone → walk gs q names ≡ Some k
          → walk (remove_entry (eqb gone) gs) q names ≡ Some k)
          → walk (remove_entry (eqb gone) gs) at (name ∷ names) ≡ Some id
      onto None found leads rest = cc
      onto (Some q) found leads rest =
          ap (onward (λ k. walk (remove_entry (eqb gone) gs) k names))
          (child_removed gone gs at q name found
          (λ same. apart (walk_ends names id (ap (λ k. walk gs k names) (sym same) ∙ leads))))
          ∙ rest q id apart leads

  pub tail_left : (tail : Tail) (id : ℕ) → id ≢ gone → IsTailOf gs tail id
      → IsTailOf (remove_entry (eqb gone) gs) tail id
  tail_left tail id apart =
      tail_led gs (remove_entry (eqb gone) gs) tail id
      (λ names. walk_left names tail.top id apart)
