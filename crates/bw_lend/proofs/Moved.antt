-- A step on the state of one place keeps the rule.
use Rattle.std.proofs.Common.{◌≡◌, ◌≢◌, ℕ, ◌%◌, ◌<◌, ◌≤◌, List, length, set}
use Rattle.std.proofs.Common.{slice_index, refl, sym, ap, ◌∙◌, subst, arith}
use Rattle.std.proofs.lemmas.List.{length-set}
use mathlib.Core.Option.{Option, some}
use lib.ListN.{get_elem?}
use Rattle.atomic_table.specs.Seated.{TableId}
use Rattle.atomic_table.specs.Table.{State}
use Rattle.bw_wake.proofs.CallerLemmas.{same_one, index_here, index_else}
use Rattle.bw_lend.specs.declared.stake.Part.{Part}
use Rattle.bw_lend.specs.declared.stake.Part.TheVariants.{Fresh, Owns, Hints, Lends, Helps}
use Rattle.bw_lend.specs.declared.stake.Stake.{Stake}
use Rattle.bw_lend.specs.Rule.{weigh, weigh_all, Each, owner_at, helper_at, owns, helps, Suits}
use Rattle.bw_lend.specs.Rule.{Fits, Ruled}
use Rattle.bw_lend.proofs.Lists.{here_or_else, weigh_set, each_with, each_set}

module _ {S : Type 0} where
  -- beside the owner of a place only a helper has a part in it, while it is claimed
  pub no_owner : (k old n : ℕ) (a b : S) → ((old % 8 ≡ 2) → ⊥) → (place : ℕ) (part : Part S)
      → place ≡ k → owner_at k place part ≡ 0 → Suits old a part → Suits n b part
  no_owner k old n a b free place Fresh e none h =
      let one = same_one place k e in absurd (omega arith)
  no_owner k old n a b free place Owns e none h =
      let one = same_one place k e in absurd (omega arith)
  no_owner k old n a b free place (Hints seat) e none h =
      let one = same_one place k e in absurd (omega arith)
  no_owner k old n a b free place (Lends seat) e none h =
      let one = same_one place k e in absurd (omega arith)
  no_owner k old n a b free place (Helps seat) e none h = absurd (free h.0)

  -- a place that is at home has no part but its owner's, which has lent through it
  pub lent_stays : (old n : ℕ) (a : S) → 3 ≤ old % 8 → n % 8 ≡ 2 → (part : Part S)
      → Suits old a part → Suits n a part
  lent_stays old n a home two Fresh h =
      let z : old % 8 ≡ 0 = ap (λ (x : ℕ). x % 8) h in absurd (omega arith)
  lent_stays old n a home two Owns h = absurd (omega arith)
  lent_stays old n a home two (Hints seat) h = (omega arith, h.1)
  lent_stays old n a home two (Lends seat) h = (omega arith, h.1)
  lent_stays old n a home two (Helps seat) h = let z = h.0 in absurd (omega arith)

  -- beside its helper a claimed place has its owner, which has lent through it
  pub no_helper : (k old n : ℕ) (a : S) → old % 8 ≡ 2 → 3 ≤ n % 8 → (place : ℕ) (part : Part S)
      → place ≡ k → helper_at k place part ≡ 0 → Suits old a part → Suits n a part
  no_helper k old n a two home place Fresh e none h =
      let z : old % 8 ≡ 0 = ap (λ (x : ℕ). x % 8) h in absurd (omega arith)
  no_helper k old n a two home place Owns e none h = absurd (omega arith)
  no_helper k old n a two home place (Hints seat) e none h = (omega arith, h.1)
  no_helper k old n a two home place (Lends seat) e none h = (omega arith, h.1)
  no_helper k old n a two home place (Helps seat) e none h =
      let one = same_one place k e in absurd (omega arith)

module _ {S Y : Type 0} (Brings : TableId → ℕ → S → Y → Type 0) (lock : TableId) where
  -- a stake fits after the state of place k became n, if its part suits that
  pub fits_now : (ws : List ℕ) (k n : ℕ) (lent new : ℕ → S) (p : Stake TableId S) → k < length ws
      → ((j : ℕ) → j ≢ k → new j ≡ lent j)
      → (p.place ≡ k → Suits (slice_index ws k) (lent k) p.part → Suits n (new k) p.part)
      → Fits lock ws lent p → Fits lock (set ws k n) new p
  fits_now ws k n lent new p there same here fit = record {
    serves = fit.serves;
    within = fit.within;
    suits = here_or_else (λ j. p.place ≡ j → Suits (slice_index (set ws k n) j) (new j) p.part) k
        (λ e. subst (λ x. Suits x (new k) p.part) (sym (index_here ws k n there))
        (here e (subst (λ j. Suits (slice_index ws j) (lent j) p.part) e fit.suits)))
        (λ j ne e. subst (λ x. Suits x (new j) p.part) (sym (index_else ws k j n ne))
        (subst (λ h. Suits (slice_index ws j) h p.part) (sym (same j ne))
        (subst (λ i. Suits (slice_index ws i) (lent i) p.part) e fit.suits)))
        p.place refl;
  }

  -- the state of place k becomes n, and the seat `id` has the stakes w in place of v
  pub moved : (s : State Y (List (Stake TableId S))) (r : Ruled Brings lock s) (id k n : ℕ)
      (v w : List (Stake TableId S)) (lent : ℕ → S) (homes : List (Option Y)) (Free : Stake TableId S → Type 0)
      → get_elem? s.views id ≡ some v → k < 64
      → ((j : ℕ) → j ≢ k → lent j ≡ r.lent j)
      → ((j : ℕ) → j ≢ k → get_elem? homes j ≡ get_elem? s.homes j)
      → ((j : ℕ) (u : List (Stake TableId S)) → j ≢ id → get_elem? s.views j ≡ some u → Each Free u)
      → ((p : Stake TableId S) → Free p → p.place ≡ k → Suits (slice_index s.words k) (r.lent k) p.part
      → Suits n (lent k) p.part)
      → Each (Fits lock (set s.words k n) lent) w
      → ((j : ℕ) → weigh (owns j) w ≡ weigh (owns j) v)
      → ((j : ℕ) → weigh_all (helps j) (set s.views id w) ≤ 1)
      → (n ≡ 0 → (y : Y) × (get_elem? homes k ≡ some (some y)))
      → (3 ≤ n % 8 → (y : Y) × (get_elem? homes k ≡ some (some y))
      × Brings lock n (lent k) y)
      → Ruled Brings lock record {
        words = set s.words k n;
        homes = homes;
        views = set s.views id w;
      }
  moved s r id k n v w lent homes Free at low same still others suit fits owned helped bare full =
      let there : k < length s.words = omega (arith, r.sized) in record {
        sized = length-set s.words k n ∙ r.sized;
        lent = lent;
        owners = λ j. let a = weigh_set (owns j) s.views id v w at in let b = r.owners j in
            let c = owned j in omega arith;
        helpers = helped;
        each = each_set (Fits lock s.words r.lent) (Fits lock (set s.words k n) lent) s.views id w
            r.each
            (λ j u ne e each. each_with Free (Fits lock s.words r.lent)
            (Fits lock (set s.words k n) lent) u
            (λ p free fit. fits_now s.words k n r.lent lent p there same (suit p free) fit)
            (others j u ne e) each)
            fits;
        unused = here_or_else (λ j. j < 64 → slice_index (set s.words k n) j ≡ 0
            → (y : Y) × (get_elem? homes j ≡ some (some y))) k
            (λ lt e. bare (sym (index_here s.words k n there) ∙ e))
            (λ j ne lt e. let g = r.unused j lt (sym (index_else s.words k j n ne) ∙ e) in
            (g.0, still j ne ∙ g.1));
        home = here_or_else (λ j. j < 64 → 3 ≤ slice_index (set s.words k n) j % 8
            → (y : Y) × (get_elem? homes j ≡ some (some y))
            × Brings lock (slice_index (set s.words k n) j) (lent j) y) k
            (λ lt h. let here = index_here s.words k n there in
            let g = full (subst (λ (x : ℕ). 3 ≤ x % 8) here h) in
            (g.0, g.1, subst (λ (x : ℕ). Brings lock x (lent k) g.0) (sym here) g.2))
            (λ j ne lt h. let apart = index_else s.words k j n ne in
            let g = r.home j lt (subst (λ (x : ℕ). 3 ≤ x % 8) apart h) in (
              g.0,
              still j ne ∙ g.1,
              subst (λ x. Brings lock (slice_index (set s.words k n) j) x g.0) (sym (same j ne))
                  (subst (λ (x : ℕ). Brings lock x (r.lent j) g.0) (sym apart) g.2),
            ));
      }
