-- The whole of a spelled text is read.
use Rattle.std.proofs.Common.{◌≡◌, ℕ, ◌<◌, ◌≤◌, ◌^◌, Bool, true, false, List, [], ◌∷◌, ◌++◌, length}
use Rattle.std.proofs.Common.{Option, Some, None, Result, Ok, refl, sym, ap, subst, ◌∙◌}
use Rattle.std.proofs.Common.{arith}
use Rattle.std.specs.Prelude.{codes, IfSome}
use Rattle.std.specs.List.{join_with_byte, AllByRecursion}
use Rattle.std.specs.Fmt.{decimal}
use Rattle.std.proofs.lemmas.Bool.{le-ltb}
use Rattle.std.proofs.lemmas.List.Elements.{All-append, All-from_recursion, recursion_from_All}
use Rattle.bw_model.specs.declared.limits.TheConstants.{MAX_GROUPS}
use Rattle.bw_model.specs.Host.{Shape, IsHost}
use Rattle.bw_model.proofs.CallerLemmas.{IsHost-accepted, IsInstance-accepted}
use Rattle.bw_model.specs.declared.row.Row.{Row}
use Rattle.bw_cert.specs.declared.fault.CertFault.{CertFault}
use Rattle.bw_cert.specs.declared.groups.Certified.{Certified}
use Rattle.bw_model.specs.Marks.{MarkValue}
use Rattle.bw_cert.specs.Spelling.{groups_of, Value, text_lines, line, parent_word, limit_word}
use Rattle.bw_cert.specs.Spelling.{flag_word, level_word, head_words, group_words, groups_text}
use Rattle.bw_cert.specs.Spelling.{spelling, IsSmallRow, IsSmallLevel, IsValue}
use Rattle.bw_cert.specs.Reading.{ReadsAs, line_at, head_of, group_of, group_at, groups_at}
use Rattle.bw_cert.specs.Reading.{certified_of, certified_view}
use Rattle.bw_cert.proofs.Lines.{line_there}
use Rattle.bw_cert.proofs.WordsAgain.{IsPlain, digits_plain, number_again, parent_again}
use Rattle.bw_cert.proofs.WordsAgain.{limit_again, flag_again, level_again, words_again, line_again}

plain_code : (b : ℕ) → 33 ≤ b → IsPlain (b ∷ [])
plain_code b h = All-from_recursion (λ b. 33 ≤ b) (b ∷ []) (h, tt)

plain_parent : (o : Option ℕ) → IfSome o (λ n. n < 2 ^ 32) → IsPlain (parent_word o)
plain_parent None h = plain_code 45 (omega arith)
plain_parent (Some n) h = digits_plain n (omega arith)

plain_limit : (o : Option ℕ) → IfSome o (λ n. n < 2 ^ 64) → IsPlain (limit_word o)
plain_limit None h =
    All-from_recursion (λ b. 33 ≤ b) (codes "max") (omega arith, (omega arith, (omega arith, tt)))
plain_limit (Some n) h = digits_plain n h

plain_flag : (flag : Bool) → IsPlain (flag_word flag)
plain_flag true = plain_code 49 (omega arith)
plain_flag false = plain_code 48 (omega arith)

plain_level : (o : Option MarkValue) → IfSome o IsSmallLevel → IsPlain (level_word o)
plain_level None h = plain_code 45 (omega arith)
plain_level (Some l) h =
    let a = All-append (λ b. 33 ≤ b) (decimal l.num) (codes "/") (digits_plain l.num h.num)
    (plain_code 47 (omega arith)) in
    let b = All-append (λ b. 33 ≤ b) (decimal l.num ++ codes "/") (decimal l.den) a
    (digits_plain l.den h.den) in
    let c = All-append (λ b. 33 ≤ b) (decimal l.num ++ codes "/" ++ decimal l.den) (codes "@") b
    (plain_code 64 (omega arith)) in
    All-append (λ b. 33 ≤ b) (decimal l.num ++ codes "/" ++ decimal l.den ++ codes "@")
    (decimal l.place) c (digits_plain l.place (omega (arith, h.place)))

plain_group : (r : Row) (a : ℕ) (f : Bool) (m : Option MarkValue) → IsSmallRow r → a < 2 ^ 64
    → IfSome m IsSmallLevel
    → AllByRecursion IsPlain (group_words r a f m)
plain_group r a f m row amount level = (
  plain_parent r.parent row.parent,
  (
    digits_plain r.weight row.weight,
    (
      plain_limit r.limit row.limit,
      (
        digits_plain r.demand row.demand,
        (digits_plain a amount, (plain_flag f, (plain_level m level, tt))),
      ),
    ),
  ),
)

group_again : (r : Row) (a : ℕ) (f : Bool) (m : Option MarkValue) → IsSmallRow r → a < 2 ^ 64
    → IfSome m IsSmallLevel
    → group_of (group_words r a f m) ≡ Ok (record { row = r; amount = a; flag = f; level = m })
unfolding group_of
group_again r a f m row amount level =
    rw (
      parent_again r.parent row.parent,
      number_again r.weight row.weight,
      limit_again r.limit row.limit,
      number_again r.demand row.demand,
      number_again a amount,
      flag_again f,
      level_again m level,
    ) refl

one_line : (first : List ℕ) (others : List (List ℕ)) (rest : List ℕ)
    → AllByRecursion IsPlain (first ∷ others)
    → line_at (text_lines (line (first ∷ others) ++ rest))
    ≡ Ok (join_with_byte 32 (first ∷ others), text_lines rest)
one_line first others rest h =
    line_there (line (first ∷ others) ++ rest) (join_with_byte 32 (first ∷ others)) rest
    (line_again first others rest h)

-- the line of a group is read as its values
pub group_line_again : (text rest : List ℕ) (r : Row) (a : ℕ) (f : Bool) (m : Option MarkValue)
    → text ≡ line (group_words r a f m) ++ rest → IsSmallRow r → a < 2 ^ 64
    → IfSome m IsSmallLevel
    → group_at (text_lines text)
    ≡ Ok (record { row = r; amount = a; flag = f; level = m }, text_lines rest)
group_line_again text rest r a f m e row amount level =
    let plain = plain_group r a f m row amount level in
    rw (
      e,
      one_line (parent_word r.parent)
          (decimal r.weight ∷ limit_word r.limit ∷ decimal r.demand ∷ decimal a ∷ flag_word f
          ∷ level_word m ∷ []) rest plain,
      words_again (parent_word r.parent)
          (decimal r.weight ∷ limit_word r.limit ∷ decimal r.demand ∷ decimal a ∷ flag_word f
          ∷ level_word m ∷ []) plain,
      group_again r a f m row amount level,
    ) refl

groups_again : (rows : List Row) (amounts : List ℕ) (flags : List Bool)
    (levels : List (Option MarkValue))
    → length amounts ≡ length rows → length flags ≡ length rows → length levels ≡ length rows
    → AllByRecursion IsSmallRow rows → AllByRecursion (λ a. a < 2 ^ 64) amounts
    → AllByRecursion (λ o. IfSome o IsSmallLevel) levels
    → groups_at (length rows)
    (text_lines (groups_text
    (record { rows = rows; amounts = amounts; flags = flags; levels = levels })))
    ≡ Ok (record { rows = rows; amounts = amounts; flags = flags; levels = levels }, [] ∷ [])
unfolding groups_at
groups_again [] [] [] [] e1 e2 e3 h1 h2 h3 = refl
groups_again [] [] [] (l ∷ ls) e1 e2 e3 h1 h2 h3 = absurd (omega arith)
groups_again [] [] (f ∷ fs) ls e1 e2 e3 h1 h2 h3 = absurd (omega arith)
groups_again [] (a ∷ as') fs ls e1 e2 e3 h1 h2 h3 = absurd (omega arith)
groups_again (r ∷ rs) [] fs ls e1 e2 e3 h1 h2 h3 = absurd (omega arith)
groups_again (r ∷ rs) (a ∷ as') [] ls e1 e2 e3 h1 h2 h3 = absurd (omega arith)
groups_again (r ∷ rs) (a ∷ as') (f ∷ fs) [] e1 e2 e3 h1 h2 h3 = absurd (omega arith)
groups_again (r ∷ rs) (a ∷ as') (f ∷ fs) (l ∷ ls) e1 e2 e3 h1 h2 h3 =
    let plain = plain_group r a f l h1.0 h2.0 h3.0 in
    let rest = groups_text (record { rows = rs; amounts = as'; flags = fs; levels = ls }) in
    let others = decimal r.weight ∷ limit_word r.limit ∷ decimal r.demand ∷ decimal a ∷ flag_word f
    ∷ level_word l ∷ [] in
    rw (
      one_line (parent_word r.parent)
          (decimal r.weight ∷ limit_word r.limit ∷ decimal r.demand ∷ decimal a ∷ flag_word f
          ∷ level_word l ∷ [])
          (groups_text (record { rows = rs; amounts = as'; flags = fs; levels = ls })) plain,
      words_again (parent_word r.parent)
          (decimal r.weight ∷ limit_word r.limit ∷ decimal r.demand ∷ decimal a ∷ flag_word f
          ∷ level_word l ∷ []) plain,
      group_again r a f l h1.0 h2.0 h3.0,
      groups_again rs as' fs ls (omega arith) (omega arith) (omega arith) h1.1 h2.1 h3.1,
    ) refl

plain_head : (h : Shape) (n : ℕ) → IsHost h → n ≤ MAX_GROUPS
    → AllByRecursion IsPlain (head_words h n)
plain_head h n host few = (
  All-from_recursion (λ b. 33 ≤ b) (codes "bw") (omega arith, (omega arith, tt)),
  (
    plain_code 49 (omega arith),
    (
      digits_plain h.processors (omega (arith, host.few_processors)),
      (
        digits_plain h.period_us (omega (arith, host.short_period)),
        (
          digits_plain h.slice_us (omega (arith, host.short_slice, host.short_period)),
          (digits_plain n (omega arith), tt),
        ),
      ),
    ),
  ),
)

head_again : (h : Shape) (n : ℕ) → IsHost h → n ≤ MAX_GROUPS → head_of (head_words h n) ≡ Ok (h, n)
unfolding head_of
head_again h n host few =
    rw (
      number_again h.processors (omega (arith, host.few_processors)),
      number_again h.period_us (omega (arith, host.short_period)),
      number_again h.slice_us (omega (arith, host.short_slice, host.short_period)),
      number_again n (omega arith),
      IsHost-accepted h host,
      le-ltb MAX_GROUPS n few,
    ) refl

pub certified_again : (v : Value) → IsValue v → certified_of (text_lines (spelling v)) ≡ Ok v
unfolding certified_of
certified_again v h =
    let host = h.instance.host in
    let few : length v.groups.rows ≤ MAX_GROUPS = h.instance.few in
    let plain = plain_head v.shape (length v.groups.rows) host few in
    let others = codes "1" ∷ decimal v.shape.processors ∷ decimal v.shape.period_us
    ∷ decimal v.shape.slice_us ∷ decimal (length v.groups.rows) ∷ [] in
    rw (
      one_line (codes "bw")
          (codes "1" ∷ decimal v.shape.processors ∷ decimal v.shape.period_us
          ∷ decimal v.shape.slice_us ∷ decimal (length v.groups.rows)
          ∷ []) (groups_text v.groups) plain,
      words_again (codes "bw")
          (codes "1" ∷ decimal v.shape.processors ∷ decimal v.shape.period_us
          ∷ decimal v.shape.slice_us ∷ decimal (length v.groups.rows) ∷ []) plain,
      head_again v.shape (length v.groups.rows) host few,
      groups_again v.groups.rows v.groups.amounts v.groups.flags v.groups.levels h.amounts h.flags
          h.levels
          (recursion_from_All IsSmallRow v.groups.rows h.small_rows)
          (recursion_from_All (λ a. a < 2 ^ 64) v.groups.amounts h.small_amounts)
          (recursion_from_All (λ o. IfSome o IsSmallLevel) v.groups.levels h.small_levels),
      IsInstance-accepted (groups_of v) h.instance,
    ) refl

pub is_only : {X : Type 0} (view : X → Value) (text : List ℕ) (r : Result X CertFault)
    → ReadsAs view r (certified_of (text_lines text)) → (v : Value) → IsValue v
    → text ≡ spelling v → ReadsAs view r (Ok v)
is_only view text r given v h e =
    subst (λ (x : Result Value CertFault). ReadsAs view r x)
    (ap (λ (t : List ℕ). certified_of (text_lines t)) e ∙ certified_again v h) given

abbrev read : Value → Result Value CertFault
read v = Ok v

read_is : (v w : Value) → read v ≡ read w → v ≡ w
read_is v w e = cc

pub one_value : (v w : Value) → IsValue v → IsValue w → spelling v ≡ spelling w → v ≡ w
one_value v w hv hw e =
    read_is v w (sym (certified_again v hv) ∙ ap (λ (t : List ℕ). certified_of (text_lines t)) e
    ∙ certified_again w hw)
