-- Reading from the first line to the last, with the first refusal that is met.
use Rattle.std.specs.Prelude.{◌≡◌, ℕ, zero, suc, ◌^◌, Bool, true, false, ◌&&◌, ◌==◌, nat_lt, List}
use Rattle.std.specs.Prelude.{[], ◌∷◌, length, map, Option, Some, None, Result, Ok, Err}
use Rattle.std.specs.Prelude.{codes, if◌then◌else◌}
use Rattle.std.specs.Option.{option_map}
use Rattle.std.specs.List.{slice_split}
use Rattle.std.specs.Str.{bytes_eq}
use Rattle.bw_text.specs.Number.{number_read}
use Rattle.bw_model.specs.Groups.{Groups}
use Rattle.bw_model.specs.Host.{Shape, host_refusal}
use Rattle.bw_model.specs.Refusal.{refusal}
use Rattle.bw_model.specs.declared.host.HostFault.{HostFault}
use Rattle.bw_model.specs.declared.row.Row.{Row}
use Rattle.bw_model.specs.declared.instance_fault.InstanceFault.{InstanceFault}
use Rattle.bw_model.specs.declared.instance_fault.InstanceFault.TheVariants.{TooMany}
use Rattle.bw_model.specs.Marks.{MarkValue, price_of}
use Rattle.bw_model.specs.declared.limits.TheConstants.{MAX_GROUPS}
use Rattle.bw_cert.specs.declared.fault.CertFault.{CertFault}
use Rattle.bw_cert.specs.declared.fault.CertFault.TheVariants as faults
use Rattle.bw_cert.specs.declared.groups.GroupLine.{GroupLine}
use Rattle.bw_cert.specs.declared.groups.Certified.{Certified}
use Rattle.bw_cert.specs.declared.groups.CertifiedRows.{CertifiedRows}
use Rattle.bw_cert.specs.declared.groups.Columns as declared
use Rattle.bw_cert.specs.Spelling.{Columns, Value, certified_value, words_of}

infixl 10 ◌>>=◌
abbrev pub ◌>>=◌ : {A B : Type 0} → Result A CertFault → (A → Result B CertFault)
    → Result B CertFault
(Ok x) >>= f = f x
(Err e) >>= f = Err e

-- a function's result with its value seen by view
abbrev pub seen : {X Y : Type 0} → (X → Y) → Result X CertFault → Result Y CertFault
seen view (Ok x) = Ok (view x)
seen view (Err e) = Err e

-- A function's result, seen by view, is the result of reading, unless memory ran out.
abbrev pub Fails : {Y : Type 0} → CertFault → Result Y CertFault → Type 0
Fails faults.OutOfMemory read = Unit {0}
Fails fault read = read ≡ Err fault

abbrev pub ReadsAs : {X Y : Type 0} → (X → Y) → Result X CertFault → Result Y CertFault → Type 0
ReadsAs view (Ok x) read = read ≡ Ok (view x)
ReadsAs view (Err e) read = Fails e read

-- ---- words

abbrev pub or_field : {E : Type 0} → Result ℕ E → Result ℕ CertFault
or_field (Ok n) = Ok n
or_field (Err e) = Err faults.BadField

abbrev pub number_at : List ℕ → Result ℕ CertFault
number_at word = or_field (number_read word)

-- a number that fits 32 bits
abbrev pub u32_in : ℕ → Result ℕ CertFault
u32_in n = if nat_lt n (2 ^ 32) then Ok n else Err faults.BadField

-- the number of 32 bits that a word spells
abbrev pub u32_at : List ℕ → Result ℕ CertFault
u32_at word = number_at word >>= u32_in

abbrev pub parent_at : List ℕ → Result (Option ℕ) CertFault
parent_at word = if bytes_eq word (codes "-") then Ok None else (u32_at word >>= λ n. Ok (Some n))

abbrev pub limit_at : List ℕ → Result (Option ℕ) CertFault
limit_at word = if bytes_eq word (codes "max") then Ok None
    else (number_at word >>= λ n. Ok (Some n))

abbrev pub flag_at : List ℕ → Result Bool CertFault
flag_at word = if bytes_eq word (codes "0") then Ok false
    else if bytes_eq word (codes "1") then Ok true else Err faults.BadField

-- the two parts of what is split in two
abbrev pub in_two : List (List ℕ) → Result (List ℕ × List ℕ) CertFault
in_two (a ∷ b ∷ []) = Ok (a, b)
in_two _ = Err faults.BadField

abbrev pub level_in : ℕ → ℕ → ℕ → Result (Option MarkValue) CertFault
level_in num den place = if nat_lt 0 num && nat_lt 0 den
    then Ok (Some (record { num = num; den = den; place = place })) else Err faults.BadField

-- NUM/DEN@PLACE
unfoldable pub mark_at : List ℕ → Result (Option MarkValue) CertFault
mark_at word = do
  outer ← in_two (slice_split (λ b. b == 47) word)
  inner ← in_two (slice_split (λ b. b == 64) outer.1)
  num ← number_at outer.0
  den ← number_at inner.0
  place ← u32_at inner.1
  level_in num den place

abbrev pub level_in_word : List ℕ → Result (Option MarkValue) CertFault
level_in_word word = if bytes_eq word (codes "-") then Ok None else mark_at word

-- ---- lines

-- a line, and the parts after it
abbrev pub line_at : List (List ℕ) → Result (List ℕ × List (List ℕ)) CertFault
line_at [] = Err faults.CutShort
line_at (line ∷ parts) = if length parts == 0 then Err faults.CutShort else Ok (line, parts)

abbrev pub word_is : List ℕ → List ℕ → Result (Unit {0}) CertFault
word_is word wanted = if bytes_eq word wanted then Ok tt else Err faults.BadField

abbrev pub host_unless : Shape → Option HostFault → Result Shape CertFault
host_unless h None = Ok h
host_unless h (Some f) = Err (faults.Host f)

abbrev pub host_in : ℕ → ℕ → ℕ → Result Shape CertFault
host_in processors period slice =
    let h : Shape = record { processors = processors; period_us = period; slice_us = slice } in
    host_unless h (host_refusal h)

-- the host, and how many groups follow
unfoldable pub head_of : List (List ℕ) → Result (Shape × ℕ) CertFault
head_of (name ∷ version ∷ processors ∷ period ∷ slice ∷ groups ∷ []) = do
  _ ← word_is name (codes "bw")
  _ ← word_is version (codes "1")
  p ← number_at processors
  us ← number_at period
  s ← number_at slice
  count ← number_at groups
  h ← host_in p us s
  if nat_lt MAX_GROUPS count then Err (faults.Instance TooMany) else Ok (h, count)
head_of _ = Err faults.BadLine

-- the contents of a group's line
pub record Group : Type 0 where
  pub row : Row
  pub amount : ℕ
  pub flag : Bool
  pub level : Option MarkValue

unfoldable pub group_of : List (List ℕ) → Result Group CertFault
group_of (parent ∷ weight ∷ limit ∷ demand ∷ amount ∷ flag ∷ level ∷ []) = do
  p ← parent_at parent
  w ← number_at weight
  l ← limit_at limit
  d ← number_at demand
  a ← number_at amount
  f ← flag_at flag
  m ← level_in_word level
  Ok (record {
    row = record { parent = p; weight = w; limit = l; demand = d };
    amount = a;
    flag = f;
    level = m;
  })
group_of _ = Err faults.BadLine

-- the contents of the first line, and the parts after it
abbrev pub group_at : List (List ℕ) → Result (Group × List (List ℕ)) CertFault
group_at parts = do
  l ← line_at parts
  g ← group_of (words_of l.0)
  Ok (g, l.1)

-- a group in front of others
abbrev pub with_group : Group → Columns → Columns
with_group g c =
    record {
      rows = g.row ∷ c.rows;
      amounts = g.amount ∷ c.amounts;
      flags = g.flag ∷ c.flags;
      levels = g.level ∷ c.levels;
    }

abbrev pub no_groups : Columns
no_groups = record { rows = []; amounts = []; flags = []; levels = [] }

-- the first n groups, and the parts after their lines
unfoldable pub groups_at : ℕ → List (List ℕ) → Result (Columns × List (List ℕ)) CertFault
groups_at zero parts = Ok (no_groups, parts)
groups_at (suc n) parts = do
  l ← line_at parts
  first ← group_of (words_of l.0)
  others ← groups_at n l.1
  Ok (with_group first others.0, others.1)

abbrev pub value_unless : Value → Option InstanceFault → Result Value CertFault
value_unless v None = Ok v
value_unless v (Some f) = Err (faults.Instance f)

-- nothing stands after the last newline
abbrev pub is_over : List (List ℕ) → Bool
is_over ([] ∷ []) = true
is_over _ = false

-- all of the text
unfoldable pub certified_of : List (List ℕ) → Result Value CertFault
certified_of parts = do
  l ← line_at parts
  head ← head_of (words_of l.0)
  gs ← groups_at head.1 l.1
  if is_over gs.1 then value_unless (record { shape = head.0; groups = gs.0 }) (refusal gs.0.rows)
      else Err faults.Trailing

-- ---- what the program holds

abbrev pub group_view : GroupLine → Group
group_view g =
    record { row = g.row; amount = g.amount; flag = g.flag; level = option_map price_of g.level }

abbrev pub columns_view : declared.Columns → Columns
columns_view c =
    record {
      rows = c.rows.items;
      amounts = c.amounts.items;
      flags = c.tight.items;
      levels = map (option_map price_of) c.levels.items;
    }

abbrev pub certified_view : Certified → Value
certified_view c = certified_value c.instance c.amounts.items c.certificate

-- the groups of rows that were read
abbrev pub groups_read : CertifiedRows → Groups
groups_read c = record { shape = c.shape; rows = c.rows.items }

abbrev pub rows_view : CertifiedRows → Value
rows_view c = certified_value (groups_read c) c.amounts.items c.certificate
