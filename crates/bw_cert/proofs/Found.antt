-- A text that is read is the one spelling of its value.
use Rattle.std.proofs.Common.{◌≡◌, ℕ, zero, suc, ◌<◌, ◌^◌, Bool, true, false, cond, ltb, eqb, List}
use Rattle.std.proofs.Common.{[], ◌∷◌, ◌++◌, length, Option, Some, None, Result, Ok, Err}
use Rattle.std.proofs.Common.{refl, sym, ap, subst, ◌∙◌, append_assoc}
use Rattle.std.specs.Prelude.{codes, IfSome, IfOk}
use Rattle.std.specs.List.{join_with_byte, AllByRecursion}
use Rattle.std.specs.Str.{bytes_eq}
use Rattle.std.proofs.lemmas.List.{append-nil}
use Rattle.std.proofs.lemmas.List.Elements.{All-from_recursion}
use Rattle.std.proofs.lemmas.List.Splits.{join_with_byte-slice_split}
use Rattle.std.proofs.lemmas.Slice.Eq.{bytes_eq-Decides}
use Rattle.bw_model.specs.declared.limits.TheConstants.{MAX_GROUPS}
use Rattle.bw_model.proofs.CallerLemmas.{accepted-IsInstance}
use Rattle.bw_model.specs.Host.{Shape, host_refusal}
use Rattle.bw_model.specs.Refusal.{refusal}
use Rattle.bw_model.specs.declared.host.HostFault.{HostFault}
use Rattle.bw_model.specs.declared.instance_fault.InstanceFault.{InstanceFault}
use Rattle.bw_model.specs.declared.instance_fault.InstanceFault.TheVariants.{TooMany}
use Rattle.bw_cert.specs.declared.fault.CertFault.{CertFault}
use Rattle.bw_cert.specs.declared.fault.CertFault.TheVariants as faults
use Rattle.bw_cert.specs.declared.groups.Certified.{Certified}
use Rattle.bw_model.specs.Marks.{MarkValue}
use Rattle.bw_cert.specs.Spelling.{groups_of, Columns, Value, text_lines, words_of, line}
use Rattle.bw_cert.specs.Spelling.{head_words, group_words, groups_text, spelling, IsSmallRow}
use Rattle.bw_cert.specs.Spelling.{IsSmallLevel, IsValue}
use Rattle.bw_cert.specs.Reading.{◌>>=◌, ReadsAs, number_at, parent_at, limit_at, flag_at}
use Rattle.bw_cert.specs.Reading.{level_in_word, line_at, word_is, host_unless, host_in, head_of}
use Rattle.bw_cert.specs.Reading.{Group, group_of, with_group, no_groups, groups_at, value_unless}
use Rattle.bw_cert.specs.Reading.{is_over, certified_of, certified_view}
use Rattle.bw_cert.proofs.WordsFound.{bind_ok, number_found, parent_found, limit_found, flag_found}
use Rattle.bw_cert.proofs.WordsFound.{level_found}

-- seven words read one after the other
seven_ok : {A B C D E F G R : Type 0} (a : Result A CertFault) (b : Result B CertFault)
    (c : Result C CertFault) (d : Result D CertFault)
    (e : Result E CertFault) (f : Result F CertFault) (g : Result G CertFault)
    (k : A → B → C → D → E → F → G → Result R CertFault) (y : R)
    → (a >>= λ x0. b >>= λ x1. c >>= λ x2. d >>= λ x3. e >>= λ x4. f >>= λ x5. g >>= λ x6.
    k x0 x1 x2 x3 x4 x5 x6) ≡ Ok y
    → (x0 : A) × (x1 : B) × (x2 : C) × (x3 : D) × (x4 : E) × (x5 : F) × (x6 : G) × (a ≡ Ok x0)
    × (b ≡ Ok x1) × (c ≡ Ok x2) × (d ≡ Ok x3) × (e ≡ Ok x4)
    × (f ≡ Ok x5) × (g ≡ Ok x6) × (k x0 x1 x2 x3 x4 x5 x6 ≡ Ok y)
seven_ok (Ok a) (Ok b) (Ok c) (Ok d) (Ok e) (Ok f) (Ok g) k y h =
    (a, b, c, d, e, f, g, refl, refl, refl, refl, refl, refl, refl, h)
seven_ok (Ok a) (Ok b) (Ok c) (Ok d) (Ok e) (Ok f) (Err x) k y h = absurd cc
seven_ok (Ok a) (Ok b) (Ok c) (Ok d) (Ok e) (Err x) g k y h = absurd cc
seven_ok (Ok a) (Ok b) (Ok c) (Ok d) (Err x) f g k y h = absurd cc
seven_ok (Ok a) (Ok b) (Ok c) (Err x) e f g k y h = absurd cc
seven_ok (Ok a) (Ok b) (Err x) d e f g k y h = absurd cc
seven_ok (Ok a) (Err x) c d e f g k y h = absurd cc
seven_ok (Err x) b c d e f g k y h = absurd cc

abbrev done : {A : Type 0} → A → Result A CertFault
done x = Ok x

ok_is : {A : Type 0} (x y : A) → done x ≡ done y → x ≡ y
ok_is x y e = cc

-- what a group's line says
pub record IsGroup (ws : List (List ℕ)) (g : Group) : Type 0 where
  pub words : ws ≡ group_words g.row g.amount g.flag g.level
  pub row : IsSmallRow g.row
  pub amount : g.amount < 2 ^ 64
  pub level : IfSome g.level IsSmallLevel

abbrev made : Option ℕ → ℕ → Option ℕ → ℕ → ℕ → Bool → Option MarkValue → Result Group CertFault
made p w l d a f m =
    Ok (record {
      row = record { parent = p; weight = w; limit = l; demand = d };
      amount = a;
      flag = f;
      level = m;
    })

same_seven : (a b c d e f g a' b' c' d' e' f' g' : List ℕ) → a ≡ a' → b ≡ b' → c ≡ c' → d ≡ d'
    → e ≡ e' → f ≡ f' → g ≡ g'
    → a ∷ b ∷ c ∷ d ∷ e ∷ f ∷ g ∷ [] ≡ a' ∷ b' ∷ c' ∷ d' ∷ e' ∷ f' ∷ g' ∷ []
same_seven a b c d e f g a' b' c' d' e' f' g' h0 h1 h2 h3 h4 h5 h6 = cc

group_found : (ws : List (List ℕ)) (g : Group) → group_of ws ≡ Ok g → IsGroup ws g
unfolding group_of
group_found [] g h = absurd cc
group_found (a ∷ []) g h = absurd cc
group_found (a ∷ b ∷ []) g h = absurd cc
group_found (a ∷ b ∷ c ∷ []) g h = absurd cc
group_found (a ∷ b ∷ c ∷ d ∷ []) g h = absurd cc
group_found (a ∷ b ∷ c ∷ d ∷ e ∷ []) g h = absurd cc
group_found (a ∷ b ∷ c ∷ d ∷ e ∷ f ∷ []) g h = absurd cc
group_found (parent ∷ weight ∷ limit ∷ demand ∷ amount ∷ flag ∷ level ∷ []) g h =
    let p = seven_ok (parent_at parent) (number_at weight) (limit_at limit) (number_at demand)
    (number_at amount) (flag_at flag)
    (level_in_word level) made g h in
    let r0 = parent_found parent p.0 p.7 in
    let r1 = number_found weight p.1 p.8 in
    let r2 = limit_found limit p.2 p.9 in
    let r3 = number_found demand p.3 p.10 in
    let r4 = number_found amount p.4 p.11 in
    let r5 = flag_found flag p.5 p.12 in
    let r6 = level_found level p.6 p.13 in
    let g' : Group =
    record {
      row = record { parent = p.0; weight = p.1; limit = p.2; demand = p.3 };
      amount = p.4;
      flag = p.5;
      level = p.6;
    } in
    subst (λ (x : Group). IsGroup (parent ∷ weight ∷ limit ∷ demand ∷ amount ∷ flag ∷ level ∷ []) x)
    (ok_is g' g p.14) (record {
      words = same_seven parent weight limit demand amount flag level _ _ _ _ _ _ _ r0.0 r1.0 r2.0
          r3.0 r4.0 r5 r6.0;
      row = record { parent = r0.1; weight = r1.1; limit = r2.1; demand = r3.1 };
      amount = r4.1;
      level = r6.1;
    })
group_found (a ∷ b ∷ c ∷ d ∷ e ∷ f ∷ i ∷ j ∷ ws) g h = absurd cc

line_parts : (b : Bool) (l l' : List ℕ) (after after' : List (List ℕ))
    → cond {A = Result (List ℕ × List (List ℕ)) CertFault} b (Err faults.CutShort) (done (l, after))
    ≡ Ok (l', after')
    → (b ≡ false) × (l ≡ l') × (after ≡ after')
line_parts true l l' after after' e = absurd cc
line_parts false l l' after after' e = (
  refl,
  ap (λ (p : List ℕ × List (List ℕ)). p.0) (ok_is (l, after) (l', after') e),
  ap (λ (p : List ℕ × List (List ℕ)). p.1) (ok_is (l, after) (l', after') e),
)

joined_more : (l : List ℕ) (after : List (List ℕ)) → eqb (length after) 0 ≡ false
    → join_with_byte 10 (l ∷ after) ≡ l ++ 10 ∷ join_with_byte 10 after
joined_more l [] h = absurd cc
joined_more l (x ∷ after) h = refl

line_found : (parts : List (List ℕ)) (l : List ℕ) (after : List (List ℕ))
    → line_at parts ≡ Ok (l, after)
    → join_with_byte 10 parts ≡ l ++ 10 ∷ join_with_byte 10 after
line_found [] l after e = absurd cc
line_found (x ∷ xs) l after e =
    let p = line_parts (eqb (length xs) 0) x l xs after e in
    rw (← p.1, ← p.2) (joined_more x xs p.0)

-- a line is its words with single spaces between them
line_text : (l : List ℕ) (ws : List (List ℕ)) → words_of l ≡ ws → l ≡ join_with_byte 32 ws
line_text l ws e = sym (join_with_byte-slice_split 32 l) ∙ ap (join_with_byte 32) e

-- what the groups' lines say, and what stands after them
pub record AreGroups (parts : List (List ℕ)) (n : ℕ) (c : Columns) (rest : List (List ℕ))
    : Type 0 where
  pub text : join_with_byte 10 parts ≡ groups_text c ++ join_with_byte 10 rest
  pub rows : length c.rows ≡ n
  pub amounts : length c.amounts ≡ n
  pub flags : length c.flags ≡ n
  pub levels : length c.levels ≡ n
  pub small_rows : AllByRecursion IsSmallRow c.rows
  pub small_amounts : AllByRecursion (λ a. a < 2 ^ 64) c.amounts
  pub small_levels : AllByRecursion (λ o. IfSome o IsSmallLevel) c.levels

regrouped : (a b c : List ℕ) → a ++ 10 ∷ (b ++ c) ≡ ((a ++ 10 ∷ []) ++ b) ++ c
regrouped a b c = simp append_assoc

one_more : (l : List ℕ) (ws : List (List ℕ)) (whole rest others after : List ℕ)
    → l ≡ join_with_byte 32 ws → whole ≡ l ++ 10 ∷ rest
    → rest ≡ others ++ after → whole ≡ (line ws ++ others) ++ after
one_more l ws whole rest others after e f g =
    f ∙ ap (λ (t : List ℕ). l ++ 10 ∷ t) g ∙ ap (λ (t : List ℕ). t ++ 10 ∷ (others ++ after)) e
    ∙ regrouped (join_with_byte 32 ws) others after

groups_found : (n : ℕ) (parts : List (List ℕ)) (x : Columns × List (List ℕ))
    → groups_at n parts ≡ Ok x → AreGroups parts n x.0 x.1
unfolding groups_at
groups_found zero parts x e =
    subst (λ (y : Columns × List (List ℕ)). AreGroups parts 0 y.0 y.1)
    (ok_is (no_groups, parts) x e)
    (record {
      text = refl;
      rows = refl;
      amounts = refl;
      flags = refl;
      levels = refl;
      small_rows = tt;
      small_amounts = tt;
      small_levels = tt;
    })
groups_found (suc n) parts x e =
    let a = bind_ok (line_at parts)
    (λ l. group_of (words_of l.0) >>= λ first. groups_at n l.1 >>= λ others.
    Ok (with_group first others.0, others.1)) x e in
    let b = bind_ok (group_of (words_of a.0.0))
    (λ first. groups_at n a.0.1 >>= λ others. Ok (with_group first others.0, others.1)) x a.2 in
    let c = bind_ok (groups_at n a.0.1) (λ others. Ok (with_group b.0 others.0, others.1)) x b.2 in
    let g = group_found (words_of a.0.0) b.0 b.1 in
    let others = groups_found n a.0.1 c.0 c.1 in
    let l = line_text a.0.0 (group_words b.0.row b.0.amount b.0.flag b.0.level) g.words in
    subst (λ (y : Columns × List (List ℕ)). AreGroups parts (suc n) y.0 y.1)
    (ok_is (with_group b.0 c.0.0, c.0.1) x c.2)
    (record {
      text = one_more a.0.0 (group_words b.0.row b.0.amount b.0.flag b.0.level)
          (join_with_byte 10 parts) (join_with_byte 10 a.0.1) (groups_text c.0.0)
          (join_with_byte 10 c.0.1) l (line_found parts a.0.0 a.0.1 a.1) others.text;
      rows = ap suc others.rows;
      amounts = ap suc others.amounts;
      flags = ap suc others.flags;
      levels = ap suc others.levels;
      small_rows = (g.row, others.small_rows);
      small_amounts = (g.amount, others.small_amounts);
      small_levels = (g.level, others.small_levels);
    })

word_parts : (b : Bool) (u : Unit {0}) → cond b (Ok tt) (Err faults.BadField) ≡ Ok u → b ≡ true
word_parts true u e = refl
word_parts false u e = absurd cc

word_found : (word wanted : List ℕ) (u : Unit {0}) → word_is word wanted ≡ Ok u → word ≡ wanted
word_found word wanted u e =
    (bytes_eq-Decides word wanted).0 (word_parts (bytes_eq word wanted) u e)

host_parts : (h h' : Shape) (o : Option HostFault) → host_unless h o ≡ Ok h' → (o ≡ None) × (h ≡ h')
host_parts h h' None e = (refl, cc)
host_parts h h' (Some f) e = absurd cc

count_parts : (b : Bool) (f : CertFault) (x y : Shape × ℕ) → cond b (Err f) (done x) ≡ Ok y → x ≡ y
count_parts true f x y e = absurd cc
count_parts false f x y e = ok_is x y e

pub record IsHead (ws : List (List ℕ)) (x : Shape × ℕ) : Type 0 where
  pub words : ws ≡ head_words x.0 x.1
  pub host : host_refusal x.0 ≡ None

same_six : (a b c d e f a' b' c' d' e' f' : List ℕ) → a ≡ a' → b ≡ b' → c ≡ c' → d ≡ d' → e ≡ e'
    → f ≡ f'
    → a ∷ b ∷ c ∷ d ∷ e ∷ f ∷ [] ≡ a' ∷ b' ∷ c' ∷ d' ∷ e' ∷ f' ∷ []
same_six a b c d e f a' b' c' d' e' f' h0 h1 h2 h3 h4 h5 = cc

six_ok : {A B C D E F R : Type 0} (a : Result A CertFault) (b : Result B CertFault)
    (c : Result C CertFault) (d : Result D CertFault)
    (e : Result E CertFault) (f : Result F CertFault)
    (k : A → B → C → D → E → F → Result R CertFault) (y : R)
    → (a >>= λ x0. b >>= λ x1. c >>= λ x2. d >>= λ x3. e >>= λ x4. f >>= λ x5. k x0 x1 x2 x3 x4 x5)
    ≡ Ok y
    → (x0 : A) × (x1 : B) × (x2 : C) × (x3 : D) × (x4 : E) × (x5 : F) × (a ≡ Ok x0) × (b ≡ Ok x1)
    × (c ≡ Ok x2) × (d ≡ Ok x3) × (e ≡ Ok x4) × (f ≡ Ok x5)
    × (k x0 x1 x2 x3 x4 x5 ≡ Ok y)
six_ok (Ok a) (Ok b) (Ok c) (Ok d) (Ok e) (Ok f) k y h =
    (a, b, c, d, e, f, refl, refl, refl, refl, refl, refl, h)
six_ok (Ok a) (Ok b) (Ok c) (Ok d) (Ok e) (Err x) k y h = absurd cc
six_ok (Ok a) (Ok b) (Ok c) (Ok d) (Err x) f k y h = absurd cc
six_ok (Ok a) (Ok b) (Ok c) (Err x) e f k y h = absurd cc
six_ok (Ok a) (Ok b) (Err x) d e f k y h = absurd cc
six_ok (Ok a) (Err x) c d e f k y h = absurd cc
six_ok (Err x) b c d e f k y h = absurd cc

abbrev host_of : ℕ → ℕ → ℕ → Shape
host_of p us s = record { processors = p; period_us = us; slice_us = s }

abbrev ends : Unit {0} → Unit {0} → ℕ → ℕ → ℕ → ℕ → Result (Shape × ℕ) CertFault
ends u v p us s n = host_in p us s >>= λ h. cond {A = Result (Shape × ℕ) CertFault}
    (ltb MAX_GROUPS n) (Err (faults.Instance TooMany)) (Ok (h, n))

head_found : (ws : List (List ℕ)) (x : Shape × ℕ) → head_of ws ≡ Ok x → IsHead ws x
unfolding head_of
head_found [] x h = absurd cc
head_found (a ∷ []) x h = absurd cc
head_found (a ∷ b ∷ []) x h = absurd cc
head_found (a ∷ b ∷ c ∷ []) x h = absurd cc
head_found (a ∷ b ∷ c ∷ d ∷ []) x h = absurd cc
head_found (a ∷ b ∷ c ∷ d ∷ e ∷ []) x h = absurd cc
head_found (name ∷ version ∷ processors ∷ period ∷ slice ∷ groups ∷ []) x h =
    let p = six_ok (word_is name (codes "bw")) (word_is version (codes "1")) (number_at processors)
    (number_at period) (number_at slice)
    (number_at groups) ends x h in
    let q = bind_ok (host_in p.2 p.3 p.4)
    (λ h. cond {A = Result (Shape × ℕ) CertFault} (ltb MAX_GROUPS p.5)
    (Err (faults.Instance TooMany)) (Ok (h, p.5))) x p.12 in
    let r = host_parts (host_of p.2 p.3 p.4) q.0 (host_refusal (host_of p.2 p.3 p.4)) q.1 in
    let e : (host_of p.2 p.3 p.4, p.5) ≡ x = ap (λ (h : Shape). (h, p.5)) r.1
    ∙ count_parts (ltb MAX_GROUPS p.5) (faults.Instance TooMany) (q.0, p.5) x q.2 in
    subst (λ (y : Shape × ℕ). IsHead (name ∷ version ∷ processors ∷ period ∷ slice ∷ groups ∷ []) y)
    e (record {
      words = same_six name version processors period slice groups _ _ _ _ _ _
          (word_found name (codes "bw") p.0 p.6) (word_found version (codes "1") p.1 p.7)
          (number_found processors p.2 p.8).0 (number_found period p.3 p.9).0
          (number_found slice p.4 p.10).0 (number_found groups p.5 p.11).0;
      host = r.0;
    })
head_found (a ∷ b ∷ c ∷ d ∷ e ∷ f ∷ g ∷ ws) x h = absurd cc

over_parts : (parts : List (List ℕ)) → is_over parts ≡ true → parts ≡ [] ∷ []
over_parts [] e = absurd cc
over_parts ([] ∷ []) e = refl
over_parts ([] ∷ p ∷ ps) e = absurd cc
over_parts ((x ∷ xs) ∷ []) e = absurd cc
over_parts ((x ∷ xs) ∷ p ∷ ps) e = absurd cc

abbrev whole : Value → Result Value CertFault
whole v = value_unless v (refusal v.groups.rows)

end_parts : (b : Bool) (r : Result Value CertFault) (v : Value)
    → cond b r (Err faults.Trailing) ≡ Ok v → (b ≡ true) × (r ≡ Ok v)
end_parts true r v e = (refl, e)
end_parts false r v e = absurd cc

value_parts : (v w : Value) (o : Option InstanceFault) → value_unless v o ≡ Ok w
    → (o ≡ None) × (v ≡ w)
value_parts v w None e = (refl, cc)
value_parts v w (Some f) e = absurd cc

pub certified_found : (text : List ℕ) (v : Value) → certified_of (text_lines text) ≡ Ok v
    → IsValue v × (text ≡ spelling v)
unfolding certified_of
certified_found text v e =
    let a = bind_ok (line_at (text_lines text))
    (λ l. head_of (words_of l.0) >>= λ head. groups_at head.1 l.1 >>= λ gs.
    cond (is_over gs.1) (whole (record { shape = head.0; groups = gs.0 }))
    (Err faults.Trailing)) v e in
    let b = bind_ok (head_of (words_of a.0.0))
    (λ head. groups_at head.1 a.0.1 >>= λ gs. cond (is_over gs.1)
    (whole (record { shape = head.0; groups = gs.0 })) (Err faults.Trailing)) v a.2 in
    let c = bind_ok (groups_at b.0.1 a.0.1)
    (λ gs. cond (is_over gs.1) (whole (record { shape = b.0.0; groups = gs.0 }))
    (Err faults.Trailing)) v b.2 in
    let v' : Value = record { shape = b.0.0; groups = c.0.0 } in
    let d = end_parts (is_over c.0.1) (whole v') v c.2 in
    let w = value_parts v' v (refusal c.0.0.rows) d.1 in
    let head = head_found (words_of a.0.0) b.0 b.1 in
    let g = groups_found b.0.1 a.0.1 c.0 c.1 in
    let nothing : join_with_byte 10 c.0.1 ≡ [] = ap (join_with_byte 10) (over_parts c.0.1 d.0) in
    let groups : join_with_byte 10 a.0.1 ≡ groups_text c.0.0 ++ [] =
    g.text ∙ ap (λ (t : List ℕ). groups_text c.0.0 ++ t) nothing in
    let words : words_of a.0.0 ≡ head_words b.0.0 (length c.0.0.rows) =
    head.words ∙ ap (head_words b.0.0) (sym g.rows) in
    let l = line_text a.0.0 (head_words b.0.0 (length c.0.0.rows)) words in
    let joined : text ≡ join_with_byte 10 (text_lines text) =
    sym (join_with_byte-slice_split 10 text) in
    let shown : text ≡ (line (head_words b.0.0 (length c.0.0.rows)) ++ groups_text c.0.0) ++ [] =
    joined ∙ one_more a.0.0 (head_words b.0.0 (length c.0.0.rows))
    (join_with_byte 10 (text_lines text)) (join_with_byte 10 a.0.1) (groups_text c.0.0) [] l
    (line_found (text_lines text) a.0.0 a.0.1 a.1) groups in
    subst (λ (x : Value). IsValue x × (text ≡ spelling x)) w.1 (
      record {
        instance = accepted-IsInstance (groups_of v') head.host w.0;
        amounts = g.amounts ∙ sym g.rows;
        flags = g.flags ∙ sym g.rows;
        levels = g.levels ∙ sym g.rows;
        small_rows = All-from_recursion IsSmallRow c.0.0.rows g.small_rows;
        small_amounts = All-from_recursion (λ a. a < 2 ^ 64) c.0.0.amounts g.small_amounts;
        small_levels = All-from_recursion (λ o. IfSome o IsSmallLevel) c.0.0.levels g.small_levels;
      },
      shown ∙ append-nil (line (head_words b.0.0 (length c.0.0.rows)) ++ groups_text c.0.0),
    )

pub is_found : {X : Type 0} (view : X → Value) (text : List ℕ) (r : Result X CertFault)
    → ReadsAs view r (certified_of (text_lines text))
    → IfOk r (λ c. IsValue (view c) × (text ≡ spelling (view c)))
is_found view text (Ok c) given = certified_found text (view c) given
is_found view text (Err e) given = tt
