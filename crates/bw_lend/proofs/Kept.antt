-- What each step on the table of places requires: whatever the table is, the step keeps the rule,
-- and tells what its play says.
use Rattle.std.proofs.Common.{◌≡◌, ◌≢◌, ℕ, zero, suc, ◌+◌, ◌/◌, ◌%◌, ◌<◌, ◌≤◌, ◌==◌, List, [], ◌∷◌}
use Rattle.std.proofs.Common.{◌++◌, length, set, slice_index, refl, sym, ap, ◌∙◌, subst, arith}
use Rattle.std.proofs.Common.{Bool, true, false, MatchBool, IsSome, Option, Some, None, replicate, if◌then◌else◌, eq-eqb, ne_eqb, ⊎_elim}
use Rattle.std.proofs.lemmas.List.{length-set, length-replicate}
use mathlib.Core.Option.{none, some, some-ne-none}
use lib.ListN.{get_elem?}
use prog.Atomic.{either}
use Rattle.atomic_table.specs.Seated.{TableId}
use Rattle.atomic_table.specs.Table.{State, Act, step, keeps, takes, gives, Valid, stepped}
use Rattle.atomic_table.specs.Table.{carried_after, Allows, Splits, opening}
use Rattle.atomic_table.proofs.Lists.{set_here, set_else, set_again, at_snoc, some_there, exchanged}
use Rattle.bw_ticket.specs.Holder.{Holder}
use Rattle.bw_wake.specs.Progress.{one_if}
use Rattle.bw_machine.proofs.CallerLemmas.{equal_or_not}
use Rattle.bw_wake.proofs.CallerLemmas.{same_one, same_words, index_here, index_else}
use Rattle.bw_lend.specs.declared.stake.Part.{Part}
use Rattle.bw_lend.specs.declared.stake.Part.TheVariants.{Fresh, Owns, Hints, Lends, Helps}
use Rattle.bw_lend.specs.declared.stake.Stake.{Stake}
use Rattle.bw_lend.specs.declared.table.Place.TheVariants.{Lent}
use Rattle.bw_lend.specs.Lent.{BringsOf, Content, HasTicket, IsMade}
use Rattle.bw_lend.specs.Rule.{weigh, weigh_all, Each, EachIn, stake, stakes_from}
use Rattle.bw_lend.specs.Rule.{helper_at, owns, helps, Suits, Fits, Ruled, hint_word, hint_for}
use Rattle.bw_lend.specs.Plays.{Mine, opened, posted, taken_back, claimed, given_back, hinted}
use Rattle.bw_lend.specs.Plays.{others, first_one}
use Rattle.bw_lend.specs.Waits.{IsOwn, MayTakeBack}
use Rattle.bw_lend.proofs.Lists.{here_or_else, weigh_set, weigh_snoc, weigh_at, alone}
use Rattle.bw_lend.proofs.Lists.{each_anything, each_zero, each_with, each_set, each_snoc}
use Rattle.bw_lend.proofs.Moved.{no_owner, lent_stays, no_helper, fits_now, moved}

-- a place that a helper gives back is at home
pub is_home : (made : Bool) (n : ℕ) → MatchBool made (n % 8 ≡ 4) (n % 8 ≡ 5) → 3 ≤ n % 8
is_home true n h = omega arith
is_home false n h = omega arith

-- the code tells whether the call is made
pub made_code : (made : Bool) (n : ℕ) → MatchBool made (n % 8 ≡ 4) (n % 8 ≡ 5)
    → (n % 8 == 4) ≡ made
made_code true n h = ap (λ (x : ℕ). x == 4) h
made_code false n h = ap (λ (x : ℕ). x == 4) h

-- a place that its owner may take back is at home
pub may_be_home : (n : ℕ) (found : Option ℕ) (ticket : ℕ) → MayTakeBack (Some n) found ticket
    → 3 ≤ n % 8
may_be_home n found ticket may = ⊎_elim (λ (back : 4 ≤ n % 8). omega arith)
    (λ (own : (n % 8 ≡ 3) × IsOwn found ticket). let three = own.0 in omega arith) may

pub all_zero : (n k : ℕ) → slice_index (replicate {A = ℕ} n 0) k ≡ 0
all_zero zero k = refl
all_zero (suc n) zero = refl
all_zero (suc n) (suc k) = all_zero n k

module _ {S : Type 0} where
  -- no seat helps at a place that is at home
  no_help : (k n : ℕ) (a : S) → 3 ≤ n % 8 → (place : ℕ) (part : Part S)
      → (place ≡ k → Suits n a part) → helper_at k place part ≡ 0
  no_help k n a home place Fresh suits = refl
  no_help k n a home place Owns suits = refl
  no_help k n a home place (Hints seat) suits = refl
  no_help k n a home place (Lends seat) suits = refl
  no_help k n a home place (Helps seat) suits =
      ⊎_elim (λ (t : (place ≡ k) × (one_if (place == k) ≡ 1)). let two = (suits t.0).0 in absurd (omega arith))
      (λ (t : (place ≢ k) × (one_if (place == k) ≡ 0)). t.1) (equal_or_not one_if place k)

  parted : (g : Stake TableId S → ℕ) (v : List (Stake TableId S)) → weigh g (others v) + weigh g (first_one v) ≡ weigh g v
  parted g [] = refl
  parted g (p ∷ v) = omega arith

  each_other : (F : Stake TableId S → Type 0) (v : List (Stake TableId S)) → Each F v → Each F (others v)
  each_other F [] h = tt
  each_other F (p ∷ v) h = h.1

  each_first : (F : Stake TableId S → Type 0) (v : List (Stake TableId S)) → Each F v → Each F (first_one v)
  each_first F [] h = tt
  each_first F (p ∷ v) h = (h.0, tt)

module _ (S : Type 0) (lock : TableId) where
  none_help : (words : List ℕ) (lent : ℕ → S) (k : ℕ) → 3 ≤ slice_index words k % 8
      → (v : List (Stake TableId S)) → Each (Fits lock words lent) v → weigh (helps k) v ≡ 0
  none_help words lent k home [] fits = refl
  none_help words lent k home (p ∷ v) fits =
      let a = no_help k (slice_index words k) (lent k) home p.place p.part
      (λ e. subst (λ j. Suits (slice_index words j) (lent j) p.part) e fits.0.suits) in
      let b = none_help words lent k home v fits.1 in omega arith

  nobody_helps : (words : List ℕ) (lent : ℕ → S) (k : ℕ) → 3 ≤ slice_index words k % 8
      → (views : List (List (Stake TableId S))) → EachIn (Fits lock words lent) views
      → weigh_all (helps k) views ≡ 0
  nobody_helps words lent k home [] fits = refl
  nobody_helps words lent k home (v ∷ vs) fits =
      let a = none_help words lent k home v (fits 0 v refl) in
      let b = nobody_helps words lent k home vs (λ j u e. fits (suc j) u e) in omega arith

  -- of stakes in unused places each place has one
  once : (j k n : ℕ) → (weigh {X = Stake TableId S} (owns j) (stakes_from lock k n) ≤ 1)
      × (j < k → weigh {X = Stake TableId S} (owns j) (stakes_from lock k n) ≡ 0)
  once j k zero = (omega arith, λ h. refl)
  once j k (suc n) = let b = once j (k + 1) n in
      ⊎_elim (λ (t : (k ≡ j) × (one_if (k == j) ≡ 1)). (
        (let z = b.1 (omega arith) in omega arith),
        (λ (h : j < k). absurd (omega arith)),
      ))
      (λ (t : (k ≢ j) × (one_if (k == j) ≡ 0)). (
        (let z = b.0 in omega arith),
        (λ (h : j < k). let z = b.1 (omega arith) in omega arith),
      )) (equal_or_not one_if k j)

  no_helpers : (j k n : ℕ) → weigh {X = Stake TableId S} (helps j) (stakes_from lock k n) ≡ 0
  no_helpers j k zero = refl
  no_helpers j k (suc n) = let b = no_helpers j (k + 1) n in omega arith

  all_fresh : (words : List ℕ) (lent : ℕ → S) → ((k : ℕ) → slice_index words k ≡ 0) → (k n : ℕ)
      → k + n ≤ 64 → Each (Fits lock words lent) (stakes_from lock k n)
  all_fresh words lent zeros k zero few = tt
  all_fresh words lent zeros k (suc n) few = (
    record { serves = refl; within = omega arith; suits = zeros k },
    all_fresh words lent zeros (k + 1) n (omega arith),
  )

module _ {C R : Type 0} (lock : TableId) where
  abbrev Rule : State (Content C R) (List (Stake TableId (Holder C R))) → Type 0
  Rule s = Ruled BringsOf lock s

  -- a step that changes nothing
  unmoved : (s : State (Content C R) (List (Stake TableId (Holder C R)))) (id i : ℕ) (v : List (Stake TableId (Holder C R))) → get_elem? s.views id ≡ some v → Rule s
      → Rule record {
        words = set s.words i (slice_index s.words i);
        homes = s.homes;
        views = set s.views id v;
      }
  unmoved s id i v at r = subst (λ ws. Rule record { words = ws; homes = s.homes; views = set s.views id v }) (sym (same_words s.words i))
      (subst (λ vs. Rule record { words = s.words; homes = s.homes; views = vs }) (sym (set_again s.views id v at)) r)

  -- the helpers stay where no stake is a helper's before and after
  helped : (s : State (Content C R) (List (Stake TableId (Holder C R)))) (r : Rule s) (id : ℕ) (v w : List (Stake TableId (Holder C R))) → get_elem? s.views id ≡ some v
      → ((j : ℕ) → weigh (helps j) w ≤ weigh (helps j) v) → (j : ℕ) → weigh_all (helps j) (set s.views id w) ≤ 1
  helped s r id v w at less j = let a = weigh_set (helps j) s.views id v w at in let b = r.helpers j in let c = less j in omega arith

  -- step open
  open_at : (slots id : ℕ) (k n : ℕ) → k < 64 → n % 8 ≡ 1
      → Allows Rule slots id (stake lock k Fresh ∷ [], []) k (λ _. n)
      (λ _. opened (step slots k n 0 none) (stake lock k Fresh ∷ [], []) n)
  open_at slots id k n lt one s r sized at small =
      let fit = (r.each id _ at).0 in
      let zero_now : slice_index s.words k ≡ 0 = fit.suits in
      let got = r.unused k lt zero_now in
      let v = stake lock k Fresh ∷ [] in
      let w = stake lock k Owns ∷ [] in
      let there : k < length s.words = omega (arith, r.sized) in (
        w,
        takes k got.0,
        got.1,
        moved BringsOf lock s r id k n v w r.lent (set s.homes k none) (λ p. owns k p ≡ 0) at lt (λ j ne. refl)
            (λ j ne. set_else s.homes k j none ne)
            (alone (owns k) s.views id v at (let h = same_one k k refl in omega arith) (r.owners k))
            (λ p free e h. no_owner k (slice_index s.words k) n (r.lent k) (r.lent k)
            (λ two. let z : slice_index s.words k % 8 ≡ 0 = ap (λ (x : ℕ). x % 8) zero_now in omega arith) p.place p.part e free h)
            (record { serves = fit.serves; within = lt; suits = subst (λ x. x % 8 ≡ 1) (sym (index_here s.words k n there)) one }, tt)
            (λ j. refl)
            (helped s r id v w at (λ j. omega arith))
            (λ z. absurd (omega (arith, ap (λ (x : ℕ). x % 8) z)))
            (λ three. absurd (omega arith)),
        (got.0, refl),
      )

  -- what is brought back of one seat and lock is so of the same ones
  same_brings : (a b : TableId) (t u : ℕ) (g h : Holder C R) (y : Content C R) → a ≡ b → t ≡ u → g ≡ h
      → BringsOf b u h y → BringsOf a t g y
  same_brings a b t u g h y e i f brings = subst (λ x. BringsOf x t g y) (sym e)
      (subst (λ x. BringsOf b x g y) (sym i) (subst (λ x. BringsOf b u x y) (sym f) brings))

  -- step post
  post_at : (slots id : ℕ) (of : TableId) (k n : ℕ) (h : Holder C R) → k < 64 → k < slots → n % 8 ≡ 3
      → h.lock_id ≡ of → IsSome h.pending → HasTicket h (n / 8)
      → Allows Rule slots id (stake of k Owns ∷ [], (k, Lent h) ∷ []) k (λ _. n)
      (λ _. posted (step slots k n 0 none) (stake of k Owns ∷ [], (k, Lent h) ∷ []) n)
  post_at slots id of k n h lt in_slots three belongs pending has s r sized at small =
      let fit = (r.each id _ at).0 in
      let one : slice_index s.words k % 8 ≡ 1 = fit.suits in
      let v = stake of k Owns ∷ [] in
      let w = stake of k (Hints h) ∷ [] in
      let lent : ℕ → Holder C R = λ j. if j == k then h else r.lent j in
      let here : lent k ≡ h = ap (λ b. if b then h else r.lent k) (eq-eqb k k refl) in
      let there : k < length s.words = omega (arith, r.sized) in (
        w,
        gives,
        tt,
        moved BringsOf lock s r id k n v w lent (set s.homes k (some (Lent h))) (λ p. owns k p ≡ 0)
            at lt (λ j ne. ap (λ b. if b then h else r.lent j) (ne_eqb j k ne))
            (λ j ne. set_else s.homes k j (some (Lent h)) ne)
            (alone (owns k) s.views id v at (let e = same_one k k refl in omega arith) (r.owners k))
            (λ p free e was. no_owner k (slice_index s.words k) n (r.lent k) (lent k)
            (λ two. omega arith) p.place p.part e free was) (
              record {
                serves = fit.serves;
                within = lt;
                suits = (
                  subst (λ (x : ℕ). 2 ≤ x % 8) (sym (index_here s.words k n there)) (omega arith),
                  sym here,
                );
              },
              tt,
            )
            (λ j. refl)
            (helped s r id v w at (λ j. omega arith))
            (λ z. let e : n % 8 ≡ 0 = ap (λ (x : ℕ). x % 8) z in absurd (omega arith))
            (λ _. (
              Lent h,
              set_here s.homes k (some (Lent h)) (omega (arith, sized)),
              same_brings lock of n n (lent k) h (Lent h) (sym fit.serves) refl here (
                (belongs, pending, refl),
                has,
                subst (λ made. IsMade made (Lent h)) (sym (ap (λ (x : ℕ). x == 4) three)) tt,
              ),
            )),
        refl,
      )

  -- step take back
  take_back_at : (slots id : ℕ) (of : TableId) (k old n : ℕ) (h : Holder C R) → k < 64 → 3 ≤ old % 8
      → n % 8 ≡ 1
      → Allows Rule slots id (stake of k (Lends h) ∷ [], []) k (λ m. either (m == old) n m)
      (taken_back (step slots k old n none) (stake of k (Lends h) ∷ [], []))
  take_back_at slots id of k old n h lt home one s r sized at small =
      let v = stake of k (Lends h) ∷ [] in
      let w = stake of k Owns ∷ [] in
      let found : ℕ = slice_index s.words k in
      let fit = (r.each id v at).0 in
      let there : k < length s.words = omega (arith, r.sized) in
      exchanged found old n (λ m. (u : List (Stake TableId (Holder C R))) × (a : Act (Content C R)) × Valid s.homes [] a
      × Rule (stepped s k m id [] u a)
      × taken_back (step slots k old n none) (v, []) found (u, carried_after [] a))
      (λ (e : found ≡ old). let three : 3 ≤ found % 8 = subst (λ (x : ℕ). 3 ≤ x % 8) (sym e) home in
      let got = r.home k lt three in (
        w,
        takes k got.0,
        got.1,
        moved BringsOf lock s r id k n v w r.lent (set s.homes k none) (λ p. owns k p ≡ 0) at lt
            (λ j ne. refl) (λ j ne. set_else s.homes k j none ne)
            (alone (owns k) s.views id v at (let i = same_one k k refl in omega arith) (r.owners k))
            (λ p free i was. no_owner k found n (r.lent k) (r.lent k) (λ two. omega arith) p.place
            p.part i free was) (
              record {
                serves = fit.serves;
                within = lt;
                suits = subst (λ (x : ℕ). x % 8 ≡ 1) (sym (index_here s.words k n there)) one;
              },
              tt,
            )
            (λ j. refl)
            (helped s r id v w at (λ j. omega arith))
            (λ z. let i : n % 8 ≡ 0 = ap (λ (x : ℕ). x % 8) z in absurd (omega arith))
            (λ three. absurd (omega arith)),
        (
          (λ _. (
            got.0,
            refl,
            (
              same_brings of lock old found h (r.lent k) got.0 fit.serves (sym e) fit.suits.1
                  got.2,
              tt,
            ),
          )),
          (λ ne. absurd (ne e)),
        ),
      ))
      (λ (ne : found ≢ old). (v, keeps, tt, unmoved s id k v at r, ((λ e. absurd (ne e)), (λ _. refl))))

  -- step claim
  claim_at : (slots id : ℕ) (of : TableId) (mine k old n : ℕ) (c : List (ℕ × Content C R)) → k < 64
      → old % 8 ≡ 3 → n % 8 ≡ 2
      → Allows Rule slots id (stake of mine Owns ∷ [], c) k (λ m. either (m == old) n m)
      (claimed (step slots k old n none) (stake of mine Owns ∷ [], c))
  claim_at slots id of mine k old n c lt home two s r sized at small =
      let v = stake of mine Owns ∷ [] in
      let w = stake of k (Helps (r.lent k)) ∷ v in
      let found : ℕ = slice_index s.words k in
      let fit = (r.each id v at).0 in
      let there : k < length s.words = omega (arith, r.sized) in
      exchanged found old n (λ m. (u : List (Stake TableId (Holder C R))) × (a : Act (Content C R)) × Valid s.homes c a
      × Rule (stepped s k m id c u a)
      × claimed (step slots k old n none) (v, c) found (u, carried_after c a))
      (λ (e : found ≡ old). let three : 3 ≤ found % 8 = subst (λ (x : ℕ). 3 ≤ x % 8) (sym e) (omega arith) in
      let got = r.home k lt three in
      let brings = same_brings of lock old found (r.lent k) (r.lent k) got.0 fit.serves (sym e) refl got.2 in
      let none_yet = nobody_helps (Holder C R) lock s.words r.lent k three s.views r.each in (
        w,
        takes k got.0,
        got.1,
        moved BringsOf lock s r id k n v w r.lent (set s.homes k none) (λ p. Unit {0}) at lt
            (λ j ne. refl) (λ j ne. set_else s.homes k j none ne)
            (λ j u ne i. each_anything u)
            (λ p free i was. lent_stays found n (r.lent k) three two p.part was) (
              record {
                serves = fit.serves;
                within = lt;
                suits = (subst (λ (x : ℕ). x % 8 ≡ 2) (sym (index_here s.words k n there)) two, refl);
              },
              (
                fits_now BringsOf lock s.words k n r.lent r.lent (stake of mine Owns) there (λ j ne. refl)
                    (λ i was. lent_stays found n (r.lent k) three two Owns was) fit,
                tt,
              ),
            )
            (λ j. omega arith)
            (here_or_else (λ j. weigh_all (helps j) (set s.views id w) ≤ 1) k
            (let a = weigh_set (helps k) s.views id v w at in let b = same_one k k refl in omega arith)
            (λ j ne. let a = weigh_set (helps j) s.views id v w at in let b = r.helpers j in
            let c : one_if (k == j) ≡ 0 = ap one_if (ne_eqb k j (λ i. ne (sym i))) in omega arith))
            (λ z. let i : n % 8 ≡ 0 = ap (λ (x : ℕ). x % 8) z in absurd (omega arith))
            (λ three. absurd (omega arith)),
        (
          (λ _. (
            of,
            r.lent k,
            got.0,
            refl,
            brings.0,
            brings.1,
            subst (λ made. IsMade made got.0) (ap (λ (x : ℕ). x == 4) home) brings.2,
            (refl, tt),
          )),
          (λ ne. absurd (ne e)),
        ),
      ))
      (λ (ne : found ≢ old). (v, keeps, tt, unmoved s id k v at r, ((λ e. absurd (ne e)), (λ _. refl))))

  -- step give back
  give_back_at : (slots id : ℕ) (of : TableId) (k n : ℕ) (h : Holder C R) (z : Content C R) (ps : List (Stake TableId (Holder C R)))
      (c : List (ℕ × Content C R)) → k < 64 → k < slots → 3 ≤ n % 8 → BringsOf of n h z
      → Allows Rule slots id (stake of k (Helps h) ∷ ps, (k, z) ∷ c) k (λ _. n)
      (λ _. given_back (step slots k n 0 none) (stake of k (Helps h) ∷ ps, (k, z) ∷ c) n)
  give_back_at slots id of k n h z ps c lt in_slots three brings s r sized at small =
      let v = stake of k (Helps h) ∷ ps in
      let found : ℕ = slice_index s.words k in
      let fits = r.each id v at in
      let two : found % 8 ≡ 2 = fits.0.suits.0 in
      let one = same_one k k refl in
      let there : k < length s.words = omega (arith, r.sized) in
      let most = weigh_at (helps k) s.views id v at in
      let only = r.helpers k in
      let apart = each_zero (helps k) ps (omega arith) in (
        ps,
        gives,
        tt,
        moved BringsOf lock s r id k n v ps r.lent (set s.homes k (some z)) (λ p. helps k p ≡ 0) at lt
            (λ j ne. refl) (λ j ne. set_else s.homes k j (some z) ne)
            (alone (helps k) s.views id v at (omega arith) only)
            (λ p free e was. no_helper k found n (r.lent k) two three p.place p.part e free was)
            (each_with (λ p. helps k p ≡ 0) (Fits lock s.words r.lent)
            (Fits lock (set s.words k n) r.lent) ps
            (λ p free fit. fits_now BringsOf lock s.words k n r.lent r.lent p there (λ j ne. refl)
            (λ e was. no_helper k found n (r.lent k) two three p.place p.part e free was) fit)
            apart fits.1)
            (λ j. omega arith)
            (helped s r id v ps at (λ j. omega arith))
            (λ e. let i : n % 8 ≡ 0 = ap (λ (x : ℕ). x % 8) e in absurd (omega arith))
            (λ _. (
              z,
              set_here s.homes k (some z) (omega (arith, sized)),
              same_brings lock of n n (r.lent k) h z (sym fits.0.serves) refl
                  (sym fits.0.suits.1) brings,
            )),
        refl,
      )

  -- step hint
  hint_at : (slots id : ℕ) (of : TableId) (k t i n : ℕ) (h : Holder C R) → HasTicket h t
      → i ≡ hint_word t → n ≡ hint_for t k
      → Allows Rule slots id (stake of k (Hints h) ∷ [], []) i (λ _. n)
      (λ _. hinted (step slots i n 0 none) (stake of k (Hints h) ∷ [], []) n)
  hint_at slots id of k t i n h has word value s r sized at small =
      let v = stake of k (Hints h) ∷ [] in
      let w = stake of k (Lends h) ∷ [] in
      let far : 64 ≤ i = omega (arith, word) in
      let apart : (j : ℕ) → j < 64 → slice_index (set s.words i n) j ≡ slice_index s.words j =
      λ j lt. index_else s.words i j n (λ e. omega arith) in
      let F = Fits lock s.words r.lent in
      let G = Fits lock (set s.words i n) r.lent in
      let fit = (r.each id v at).0 in (
        w,
        keeps,
        tt,
        record {
          sized = length-set s.words i n ∙ r.sized;
          lent = r.lent;
          owners = λ j. let a = weigh_set (owns j) s.views id v w at in let b = r.owners j in
              omega arith;
          helpers = λ j. let a = weigh_set (helps j) s.views id v w at in let b = r.helpers j in
              omega arith;
          each = each_set F G s.views id w r.each
              (λ j u ne e all. each_with (λ p. Unit {0}) F G u
              (λ p _ fits. record {
                serves = fits.serves;
                within = fits.within;
                suits = subst (λ x. Suits x (r.lent p.place) p.part) (sym (apart p.place fits.within))
                    fits.suits;
              }) (each_anything u) all) (
                record {
                  serves = fit.serves;
                  within = fit.within;
                  suits = subst (λ x. Suits x (r.lent k) (Lends h)) (sym (apart k fit.within)) fit.suits;
                },
                tt,
              );
          unused = λ j lt e. r.unused j lt (sym (apart j lt) ∙ e);
          home = λ j lt three. let g = r.home j lt
              (subst (λ (x : ℕ). 3 ≤ x % 8) (apart j lt) three) in
              (g.0, g.1, subst (λ (x : ℕ). BringsOf lock x (r.lent j) g.0) (sym (apart j lt)) g.2);
        },
        (refl, ((t, has, word, value), tt)),
      )

  -- step split
  pub may_split : (id : ℕ) (v : List (Stake TableId (Holder C R))) → Splits Rule id v (others v) (first_one v)
  may_split id v s r at =
      let views = set s.views id (others v) ++ first_one v ∷ [] in
      let same : (g : Stake TableId (Holder C R) → ℕ) → weigh_all g views ≡ weigh_all g s.views = λ g.
      let a = weigh_set g s.views id v (others v) at in
      let b = weigh_snoc g (set s.views id (others v)) (first_one v) in let c = parted g v in
      omega arith in
      let F = Fits lock s.words r.lent in record {
        sized = r.sized;
        lent = r.lent;
        owners = λ k. let a = same (owns k) in let b = r.owners k in omega arith;
        helpers = λ k. let a = same (helps k) in let b = r.helpers k in omega arith;
        each = each_snoc F (set s.views id (others v)) (first_one v)
            (each_set F F s.views id (others v) r.each (λ j u ne e h. h) (each_other F v (r.each id v at)))
            (each_first F v (r.each id v at));
        unused = r.unused;
        home = r.home;
      }

  -- step make: a table of unused places
  pub may_make : (words : List ℕ) (contents : List (Content C R)) → words ≡ replicate 128 0 → length contents ≡ 64
      → Rule (opening words contents (stakes_from lock 0 64))
  may_make words contents zeros many =
      let zero_at : (k : ℕ) → slice_index words k ≡ 0 = λ k. ap (λ ws. slice_index ws k) zeros ∙ all_zero 128 k in
      let lent : ℕ → Holder C R = λ k. record { lock_id = lock; number = 0; calls_left = 0; reached = 0; own = []; pending = None } in record {
        sized = ap length zeros ∙ length-replicate {A = ℕ} 128 0;
        lent = lent;
        owners = λ k. let h = (once (Holder C R) lock k 0 64).0 in omega arith;
        helpers = λ k. let h = no_helpers (Holder C R) lock k 0 64 in omega arith;
        each = λ j u e. ⊎_elim (λ (t : get_elem? [] j ≡ some u). absurd (some-ne-none u (sym t)))
            (λ (t : stakes_from lock 0 64 ≡ u). subst (Each (Fits lock words lent)) t (all_fresh (Holder C R) lock words lent zero_at 0 64 (omega arith)))
            (at_snoc [] (stakes_from lock 0 64) u j e);
        unused = λ k lt e. some_there contents k (omega arith);
        home = λ k lt h. let e : slice_index words k % 8 ≡ 0 = ap (λ (x : ℕ). x % 8) (zero_at k) in absurd (omega arith);
      }

  -- the same for a seat that is known by an equation
  pub may_open : (slots id k n : ℕ) (me : Mine C R) → me ≡ (stake lock k Fresh ∷ [], [])
      → k < 64 → n % 8 ≡ 1
      → Allows Rule slots id me k (λ _. n) (λ _. opened (step slots k n 0 none) me n)
  may_open slots id k n me e lt one =
      subst (λ m. Allows Rule slots id m k (λ _. n) (λ _. opened (step slots k n 0 none) m n))
      (sym e) (open_at slots id k n lt one)

  pub may_post : (slots id : ℕ) (of : TableId) (k n : ℕ) (h : Holder C R) (me : Mine C R)
      → me ≡ (stake of k Owns ∷ [], (k, Lent h) ∷ []) → k < 64 → k < slots → n % 8 ≡ 3
      → h.lock_id ≡ of → IsSome h.pending → HasTicket h (n / 8)
      → Allows Rule slots id me k (λ _. n) (λ _. posted (step slots k n 0 none) me n)
  may_post slots id of k n h me e lt in_slots three belongs pending has =
      subst (λ m. Allows Rule slots id m k (λ _. n) (λ _. posted (step slots k n 0 none) m n))
      (sym e) (post_at slots id of k n h lt in_slots three belongs pending has)

  pub may_take_back : (slots id : ℕ) (of : TableId) (k old n : ℕ) (h : Holder C R) (me : Mine C R)
      → me ≡ (stake of k (Lends h) ∷ [], []) → k < 64 → 3 ≤ old % 8 → n % 8 ≡ 1
      → Allows Rule slots id me k (λ m. either (m == old) n m)
      (taken_back (step slots k old n none) me)
  may_take_back slots id of k old n h me e lt home one =
      subst (λ m. Allows Rule slots id m k (λ x. either (x == old) n x)
      (taken_back (step slots k old n none) m)) (sym e)
      (take_back_at slots id of k old n h lt home one)

  pub may_claim : (slots id : ℕ) (of : TableId) (mine k old n : ℕ) (c : List (ℕ × Content C R))
      (me : Mine C R) → me ≡ (stake of mine Owns ∷ [], c) → k < 64 → old % 8 ≡ 3 → n % 8 ≡ 2
      → Allows Rule slots id me k (λ m. either (m == old) n m)
      (claimed (step slots k old n none) me)
  may_claim slots id of mine k old n c me e lt home two =
      subst (λ m. Allows Rule slots id m k (λ x. either (x == old) n x)
      (claimed (step slots k old n none) m)) (sym e)
      (claim_at slots id of mine k old n c lt home two)

  pub may_give_back : (slots id : ℕ) (of : TableId) (k n : ℕ) (h : Holder C R) (z : Content C R)
      (ps : List (Stake TableId (Holder C R))) (c : List (ℕ × Content C R)) (me : Mine C R)
      → me ≡ (stake of k (Helps h) ∷ ps, (k, z) ∷ c) → k < 64 → k < slots → 3 ≤ n % 8
      → BringsOf of n h z
      → Allows Rule slots id me k (λ _. n) (λ _. given_back (step slots k n 0 none) me n)
  may_give_back slots id of k n h z ps c me e lt in_slots three brings =
      subst (λ m. Allows Rule slots id m k (λ _. n) (λ _. given_back (step slots k n 0 none) m n))
      (sym e) (give_back_at slots id of k n h z ps c lt in_slots three brings)

  pub may_hint : (slots id : ℕ) (of : TableId) (k t i n : ℕ) (h : Holder C R) (me : Mine C R)
      → me ≡ (stake of k (Hints h) ∷ [], []) → HasTicket h t → i ≡ hint_word t → n ≡ hint_for t k
      → Allows Rule slots id me i (λ _. n) (λ _. hinted (step slots i n 0 none) me n)
  may_hint slots id of k t i n h me e has word value =
      subst (λ m. Allows Rule slots id m i (λ _. n) (λ _. hinted (step slots i n 0 none) m n))
      (sym e) (hint_at slots id of k t i n h has word value)
