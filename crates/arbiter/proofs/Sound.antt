-- Words that clap takes name a job.
use Rattle.std.proofs.Common.{◌≡◌, ◌∙◌, ap, ap₂, sym, subst, refl, ℕ, ◌==◌, ◌&&◌, ◌||◌, not, List}
use Rattle.std.proofs.Common.{[], ◌∷◌, ◌++◌, Bool, true, false, Option, Some, None, codes}
use Rattle.std.proofs.Common.{cond, pos, true≢false, length}
use Rattle.std.specs.Prelude.{fold, slice_get}
use Rattle.std.specs.Option.{option_map_or}
use Rattle.std.specs.Str.{bytes_eq, chars, chars_after}
use Rattle.std.proofs.Common.{arith, ◌≤◌, ◌-◌, nat_lt}
use Rattle.std.specs.Prelude.{option_and_then, unwrap_or}
use Rattle.std.specs.List.{list_all}
use Rattle.std.specs.Char.{digit_value}
use Rattle.std.specs.Int.{IsInRange}
use Rattle.std.specs.Str.Parse.{without_leading_plus, without_leading_sign}
use Rattle.std.proofs.lemmas.Bool.{ltb-true, lt-ltb, ne_eqb}
use Rattle.std.proofs.lemmas.Str.Parse.{digit_from_value}
use Rattle.std.proofs.lemmas.Slice.Eq.{bytes_eq-Decides}
use Rattle.clap.specs.Lexer.{short_of_rest}
use Rattle.arbiter.specs.Words.{are_digits}
use Rattle.clap.specs.Words.{Shape, Text}
use Rattle.clap.specs.Lexer.{long_of, short_of}
use Rattle.clap.specs.Walk.{Held, arg_by_id, arg_by_long, idle, option, next, trailing, settled}
use Rattle.clap.specs.Walk.{walked, word_met, long_or_other, plain_word, option_word}
use Rattle.clap.specs.Walk.{pushed, reacted, has_row, pending_count}
use Rattle.clap.specs.Faults.{settle_fault, react_fault, turn_fault, walk_fault, use_fault}
use Rattle.clap.specs.Faults.{long_fault, short_fault, step_fault, repeat_fault, values_fault}
use Rattle.clap.specs.Kinds.{or_else, Kinds}
use Rattle.clap.specs.ValueTests.{accepts}
use Rattle.clap.specs.Simple.{filled, help_rule}
use Rattle.clap.specs.declared.builder.ValueParser.TheVariants as parser
use Rattle.clap.proofs.WalkLemmas.{both}
use Rattle.arbiter.specs.Words.{Uses, is_setting, is_given, may_give, is_number, option_parts}
use Rattle.arbiter.specs.Words.{begins_with_dash, uses_after, after_parts, is_empty}
use Rattle.arbiter.proofs.RunWalk.{Reads, IsIdle, IsWaiting, state, rows_for, setting_rule, turned}
use Rattle.arbiter.proofs.RunWalk.{given_row, number_is, none≢some, parts_are, name_met}
use Rattle.arbiter.proofs.RunWalk.{name_turn, pair_met, pair_turn, paired, valued}
use Rattle.arbiter.proofs.RunFaults.{run_shape}
use Rattle.arbiter.proofs.Refused.{RefusesWords, is_fault, contra, or_none, fault_left}
use Rattle.arbiter.proofs.Refused.{fault_right, split, turn_of, trails, short_refused, fault_at}
use Rattle.arbiter.proofs.Refused.{long_fault_at, short_fault_at, met_at, met_other, met_empty}
use Rattle.arbiter.proofs.Refused.{idle_other}

-- the options of a run are all that the command takes
pub record Refuses (s : Shape) : Type 0 where
  pub words : RefusesWords s
  pub unknown : (name : List ℕ) (v : Option (List ℕ)) (h : Held) → is_setting name ≡ false
      → is_fault (long_fault s.rules s.args_override_self (arg_by_long s.rules name) v h) ≡ true

-- ---- the command of a run refuses the rest

help_use : (h : Held) (more : Kinds)
    → is_fault (or_else (react_fault run_shape.rules false (filled help_rule) [] h) more) ≡ true
help_use h more = fault_left (react_fault run_shape.rules false (filled help_rule) [] h) more
    (fault_right (settle_fault run_shape.rules false h) _ refl)

unknown_long : (p q r t : Bool) (v : Option (List ℕ)) (h : Held) → (p || (q || r)) ≡ false
    → is_fault (long_fault run_shape.rules false
    (cond (p || false) (Some (setting_rule (codes "processors") (codes "1")))
    (cond (q || false) (Some (setting_rule (codes "period") (codes "100000")))
    (cond (r || false) (Some (setting_rule (codes "slice") (codes "5000")))
    (cond (t || false) (Some (filled help_rule)) None)))) v h) ≡ true
unknown_long true q r t v h e = absurd (true≢false e)
unknown_long false true r t v h e = absurd (true≢false e)
unknown_long false false true t v h e = absurd (true≢false e)
unknown_long false false false false v h e = refl
unknown_long false false false true (Some v) h e = refl
unknown_long false false false true None h e =
    fault_right (settle_fault run_shape.rules false h) _ refl

unknown_short : (t : Bool) (rest : List ℕ) (h : Held) (more : Held → Kinds)
    → is_fault (short_fault run_shape.rules false (cond (t || false) (Some (filled help_rule)) None)
    rest h more) ≡ true
unknown_short false rest h more = refl
unknown_short true rest h more = help_use h _

pub run_refuses : Refuses run_shape
run_refuses = record {
  words = record {
    position = refl;
    stray = refl;
    short = λ x rest h more. unknown_short (104 == x) rest h more;
  };
  unknown = λ name v h e. unknown_long (bytes_eq (codes "processors") name)
      (bytes_eq (codes "period") name) (bytes_eq (codes "slice") name)
      (bytes_eq (codes "help") name) v h e;
}

-- ---- one use

values_need : (b : Bool) (k : Kinds) → is_fault k ≡ true → or_else (cond b [] k) [] ≡ [] → b ≡ true
values_need true k bad e = refl
values_need false k bad e = contra (or_else k []) _ (fault_left k [] bad) e

repeat_needs : (b again : Bool) → again ≡ false
    → cond (b && not again)
    (Rattle.clap.specs.declared.error.kind.ErrorKind.TheVariants.ArgumentConflict ∷ []) [] ≡ []
    → not b ≡ true
repeat_needs false again once e = refl
repeat_needs true true once e = absurd (true≢false once)
repeat_needs true false once e = contra _ _ refl e

use_needs : (again : Bool) (name v default : List ℕ) (g : Uses) → again ≡ false
    → use_fault again (setting_rule name default) (v ∷ []) (rows_for g) ≡ []
    → may_give g name v ≡ true
use_needs again name v default g once e =
    let p = or_none (repeat_fault again name (rows_for g))
    (values_fault (setting_rule name default) (v ∷ [])) e in
    let new : not (is_given name g) ≡ true =
    subst (λ b. not b ≡ true) (given_row name g)
    (repeat_needs (has_row name (rows_for g)) again once p.0) in
    let number : is_number v ≡ true = number_is v
    ∙ values_need (accepts false (parser.Signed (pos 0) (pos 4294967295)) v) _ refl p.1 in
    ap₂ (λ x y. x && y) new number

-- ---- a number begins with no dash

first_digit : (b : ℕ) (bs : List ℕ) → are_digits (b ∷ bs) ≡ true → IsInRange 48 57 b
first_digit b bs e =
    let d = both (nat_lt 0 (length (b ∷ bs))) (list_all (λ x. nat_lt (digit_value x) 10) (b ∷ bs))
    e in
    let first = both (nat_lt (digit_value b) 10) (list_all (λ x. nat_lt (digit_value x) 10) bs)
    d.1 in
    digit_from_value b (ltb-true _ _ first.0)

tail_digits : (a : ℕ) (bs : List ℕ) → (a == 45) ≡ true → is_number (a ∷ bs) ≡ true
    → are_digits bs ≡ true
tail_digits a bs e number =
    let p = both (are_digits (without_leading_sign (a ∷ bs))) _ number in
    subst (λ ds. are_digits ds ≡ true) (ap (λ x. cond x bs (without_leading_plus (a ∷ bs))) e) p.0

one_char : (b : ℕ) (bs : List ℕ) (X : Type 0) → b ≤ 57 → slice_get (chars (b ∷ bs)) 0 ≡ None → X
unfolding chars
one_char b [] X low e =
    let small : nat_lt b 128 ≡ true = lt-ltb b 128 (omega arith) in
    none≢some b (sym e ∙ ap (λ x. slice_get
    (chars_after (cond x 0 (cond (nat_lt b 224) 1 (cond (nat_lt b 240) 2 3)))
    (cond x b (cond (nat_lt b 224) (b - 192) (cond (nat_lt b 240) (b - 224) (b - 240)))) []) 0)
    small)
one_char b (c ∷ cs) X low e =
    let small : nat_lt b 128 ≡ true = lt-ltb b 128 (omega arith) in
    none≢some b (sym e ∙ ap (λ x. slice_get
    (chars_after (cond x 0 (cond (nat_lt b 224) 1 (cond (nat_lt b 240) 2 3)))
    (cond x b (cond (nat_lt b 224) (b - 192) (cond (nat_lt b 240) (b - 224) (b - 240)))) (c ∷ cs))
    0) small)

-- a dash before digits would be a dash before flags
digit_flags : (a b : ℕ) (bs : List ℕ) → (a == 45) ≡ true → is_number (a ∷ b ∷ bs) ≡ true
    → (b ≤ 57) × (short_of (a ∷ b ∷ bs) ≡ Some (b ∷ bs))
digit_flags a b bs is number =
    let range = first_digit b bs (tail_digits a (b ∷ bs) is number) in
    let low : 48 ≤ b = range.0 in
    let other : (b == 45) ≡ false = ne_eqb b 45 (λ e. omega arith) in (
      range.1,
      ap (λ x. option_and_then short_of_rest (cond x (Some (b ∷ bs)) None)) is
          ∙ ap (λ x. cond x None (Some (b ∷ bs))) other,
    )

not_flag : (word : List ℕ) → short_of word ≡ None → is_number word ≡ true
    → begins_with_dash word ≡ false
not_flag [] e number = refl
not_flag (a ∷ bs) e number = go (a == 45) refl bs e number
  where
    go : (p : Bool) → (a == 45) ≡ p → (bs : List ℕ) → short_of (a ∷ bs) ≡ None
        → is_number (a ∷ bs) ≡ true → p ≡ false
    go false is bs e number = refl
    go true is [] e number = absurd (true≢false (sym (tail_digits a [] is number)))
    go true is (b ∷ bs) e number =
        none≢some (b ∷ bs) (sym e ∙ (digit_flags a b bs is number).1)

no_flag : (word flags : List ℕ) → short_of word ≡ Some flags → slice_get (chars flags) 0 ≡ None
    → is_number word ≡ true → begins_with_dash word ≡ false
no_flag [] flags e none number = refl
no_flag (a ∷ bs) flags e none number = go (a == 45) refl bs e number
  where
    go : (p : Bool) → (a == 45) ≡ p → (bs : List ℕ) → short_of (a ∷ bs) ≡ Some flags
        → is_number (a ∷ bs) ≡ true → p ≡ false
    go false is bs e number = refl
    go true is [] e number = absurd (true≢false (sym (tail_digits a [] is number)))
    go true is (b ∷ bs) e number =
        let as_flags = digit_flags a b bs is number in
        let same : Some flags ≡ Some (b ∷ bs) = sym e ∙ as_flags.1 in
        one_char b bs _ as_flags.0
        (ap (λ x. slice_get (chars (unwrap_or x flags)) 0) (sym same) ∙ none)

-- ---- the walk

module _ (s : Shape) (r : Reads s) (f : Refuses s) where
  -- an option that waits for its value is no use of it
  waits_fault : (name : List ℕ) (h : Held) (g : Uses) → IsWaiting name h g
      → is_fault (settle_fault s.rules s.args_override_self h) ≡ true
  waits_fault name h g at =
      let found = r.long name at.setting in
      ap is_fault (ap (λ p. option_map_or
      (λ q. option_map_or (λ a. use_fault s.args_override_self a q.1 h.rows)
      (arg_by_id s.rules q.0) []) p []) at.pending
      ∙ ap (λ p. option_map_or (λ a. use_fault s.args_override_self a [] h.rows) p []) found.2)

  abbrev Sounds : Option (List ℕ) → Held → Uses → List Text → Type 0
  Sounds None h g words = h.skip ≡ 0 → walk_fault s [] (state None h) words ≡ []
      → settle_fault s.rules s.args_override_self
      (fold (walked s.rules []) (state None h) words).held ≡ []
      → (settle_fault s.rules s.args_override_self h ≡ [])
      × (IsIdle s h g → (end : Uses) × (uses_after g None words ≡ Some end))
  Sounds (Some name) h g words = h.skip ≡ 0 → walk_fault s [] (state (Some name) h) words ≡ []
      → settle_fault s.rules s.args_override_self
      (fold (walked s.rules []) (state (Some name) h) words).held ≡ []
      → IsWaiting name h g → (end : Uses) × (uses_after g (Some name) words ≡ Some end)

  abbrev Rest : List Text → Type 0
  Rest words = (o : Option (List ℕ)) (h : Held) (g : Uses) → Sounds o h g words

  plain_pushed : (name word : List ℕ) (h : Held) (g : Uses) → IsWaiting name h g
      → plain_word s.rules (option name) word h
      ≡ (record h { pending = Some (name, word ∷ []) }, next idle)
  plain_pushed name word h g at =
      let found = r.long name at.setting in
      ap (λ a. ((option_word a name word h).0, next (option_word a name word h).1)) found.2
      ∙ ap (λ q. (
        pushed name word (record h { pending = q }),
        next (cond (nat_lt
            (pending_count (setting_rule name found.0)
            (pushed name word (record h { pending = q })).pending) 1)
            (option name) idle),
      )) at.pending
      ∙ ap (λ p. (
        record h { pending = Some (name, word ∷ []) },
        next
            (cond (nat_lt (cond p 1 0) 1) (option name) idle),
      )) ((bytes_eq-Decides name name).1 refl)

  -- a word that an option takes as its value
  takes_value : (name word : List ℕ) (h after : Held) (g : Uses) (rest : List Text) → Rest rest
      → IsWaiting name after g → after.skip ≡ 0
      → word_met s.rules [] false (option name) 1 word h
      ≡ (record after { pending = Some (name, word ∷ []) }, next idle)
      → (is_number word ≡ true → begins_with_dash word ≡ false)
      → walk_fault s [] (state (Some name) h) (word ∷ rest) ≡ []
      → settle_fault s.rules s.args_override_self
      (fold (walked s.rules []) (state (Some name) h) (word ∷ rest)).held ≡ []
      → (end : Uses) × (uses_after g (Some name) (word ∷ rest) ≡ Some end)
  unfolding uses_after
  takes_value name word h after g rest more at skip met bare passes settles =
      let found = r.long name at.setting in
      let p = split s [] f.words (state (Some name) h)
      (state None (record after { pending = Some (name, word ∷ []) })) word rest
      (turned s (Some name) h _ word _ _ met refl) passes settles in
      let q = more None (record after { pending = Some (name, word ∷ []) }) (g ++ (name, word) ∷ [])
      skip p.1 p.2 in
      let fine : use_fault s.args_override_self (setting_rule name found.0) (word ∷ []) (rows_for g)
      ≡ [] =
      sym (ap (λ a. option_map_or (λ x. use_fault s.args_override_self x (word ∷ []) after.rows) a
      []) found.2
      ∙ ap (use_fault s.args_override_self (setting_rule name found.0) (word ∷ [])) at.rows)
      ∙ q.0 in
      let may = use_needs s.args_override_self name word found.0 g r.once fine in
      let number = (both (not (is_given name g)) (is_number word) may).1 in
      let e = q.1 (valued s r after g name word found.0 at.rows found.2 at.numbers may) in (
        e.0,
        ap (λ b. cond (not b && may_give g name word)
            (uses_after (g ++ (name, word) ∷ []) None rest) None) (bare number)
            ∙ ap (λ b. cond b (uses_after (g ++ (name, word) ∷ []) None rest) None) may ∙ e.1,
      )

  -- a word after an option that waits
  module _ (name word : List ℕ) (h : Held) (g : Uses) (rest : List Text) (more : Rest rest)
      (at : IsWaiting name h g) (skip : h.skip ≡ 0)
      (passes : walk_fault s [] (state (Some name) h) (word ∷ rest) ≡ [])
      (settles : settle_fault s.rules s.args_override_self
      (fold (walked s.rules []) (state (Some name) h) (word ∷ rest)).held ≡ []) where
    abbrev Taken : Type 0
    Taken = (end : Uses) × (uses_after g (Some name) (word ∷ rest) ≡ Some end)

    turn_parts : (fault_at s [] f.words h word ≡ [])
        × (step_fault s 1 (met_at s [] f.words (option name) h word).0
        (met_at s [] f.words (option name) h word).1 ≡ [])
    turn_parts = or_none (fault_at s [] f.words h word) _
        (turn_of s [] f.words (state (Some name) h) word rest passes)

    no_settle : settle_fault s.rules s.args_override_self h ≡ [] → Taken
    no_settle e = contra _ Taken (waits_fault name h g at) e

    after_long : (n : List ℕ) (v : Option (List ℕ)) (b : Bool) → is_setting n ≡ b
        → long_fault s.rules s.args_override_self (arg_by_long s.rules n) v h ≡ [] → Taken
    after_long n v false e fault = contra _ Taken (f.unknown n v h e) fault
    after_long n None true e fault =
        no_settle (sym (ap (λ a. long_fault s.rules s.args_override_self a None h) (r.long n e).1)
        ∙ fault)
    after_long n (Some v) true e fault =
        no_settle (or_none _ _
        (sym (ap (λ a. long_fault s.rules s.args_override_self a (Some v) h) (r.long n e).1)
        ∙ fault)).0

    after_char : (flags : Text) (o : Option ℕ) → bytes_eq word (45 ∷ 45 ∷ []) ≡ false
        → long_of word ≡ None → short_of word ≡ Some flags
        → slice_get (chars flags) 0 ≡ o → Taken
    after_char flags (Some ch) dash is short e =
        short_refused s [] f.words Taken flags (record h { skip = 0 }) h.skip ch skip e
        (sym (short_fault_at s [] f.words h word flags dash is short) ∙ turn_parts.0)
    after_char flags None dash is short e =
        takes_value name word h (record h { skip = 0 }) g rest more
        (record {
          pending = at.pending;
          rows = at.rows;
          setting = at.setting;
          numbers = at.numbers;
        }) refl
        (met_empty s [] f.words (option name) h word flags dash is short e
        ∙ plain_pushed name word (record h { skip = 0 }) g
        (record {
          pending = at.pending;
          rows = at.rows;
          setting = at.setting;
          numbers = at.numbers;
        }))
        (no_flag word flags short e) passes settles

    after_short : (o : Option Text) → bytes_eq word (45 ∷ 45 ∷ []) ≡ false → long_of word ≡ None
        → short_of word ≡ o → Taken
    after_short None dash is short =
        takes_value name word h h g rest more at skip
        (met_other s [] f.words (option name) h word dash is short
        ∙ plain_pushed name word h g at)
        (not_flag word short) passes settles
    after_short (Some flags) dash is short = after_char flags _ dash is short refl

    after_waiting : (o : Option (List ℕ × Option (List ℕ))) → bytes_eq word (45 ∷ 45 ∷ []) ≡ false
        → long_of word ≡ o → Taken
    after_waiting None dash is = after_short _ dash is refl
    after_waiting (Some p) dash is =
        after_long p.0 p.1 _ refl (sym (long_fault_at s [] f.words h word p dash is) ∙ turn_parts.0)

  waiting_end : (name word : List ℕ) (h : Held) (g : Uses) (rest : List Text) → IsWaiting name h g
      → bytes_eq word (45 ∷ 45 ∷ []) ≡ true
      → walk_fault s [] (state (Some name) h) (word ∷ rest) ≡ []
      → settle_fault s.rules s.args_override_self
      (fold (walked s.rules []) (state (Some name) h) (word ∷ rest)).held ≡ []
      → (end : Uses) × (uses_after g (Some name) (word ∷ rest) ≡ Some end)
  waiting_end name word h g rest at dash passes settles =
      go rest (split s [] f.words (state (Some name) h)
      (record (state (Some name) h) { is_trailing = true }) word rest
      (turned s (Some name) h h word (trailing 1) _
      (ap (λ p. cond p (h, trailing 1) (long_or_other s.rules (option name) word (long_of word) h))
      dash) refl) passes settles)
    where
      go : (rest : List Text) → (turn_fault s [] (state (Some name) h) word ≡ [])
          × (walk_fault s [] (record (state (Some name) h) { is_trailing = true }) rest ≡ [])
          × (settle_fault s.rules s.args_override_self
          (fold (walked s.rules []) (record (state (Some name) h) { is_trailing = true })
          rest).held ≡ [])
          → (end : Uses) × (uses_after g (Some name) (word ∷ rest) ≡ Some end)
      go [] p = contra _ _ (waits_fault name h g at) p.2
      go (y ∷ ys) p = trails s [] f.words _ (Some name) h y ys p.1

  -- a word where no option waits
  abbrev Idles : Held → Uses → List Text → Type 0
  Idles h g words = (settle_fault s.rules s.args_override_self h ≡ [])
      × (IsIdle s h g → (end : Uses) × (uses_after g None words ≡ Some end))

  idle_end : (word : List ℕ) (h : Held) (g : Uses) (rest : List Text)
      → bytes_eq word (45 ∷ 45 ∷ []) ≡ true
      → walk_fault s [] (state None h) (word ∷ rest) ≡ []
      → settle_fault s.rules s.args_override_self
      (fold (walked s.rules []) (state None h) (word ∷ rest)).held ≡ []
      → Idles h g (word ∷ rest)
  unfolding uses_after
  idle_end word h g rest dash passes settles =
      go rest (split s [] f.words (state None h) (record (state None h) { is_trailing = true }) word
      rest
      (turned s None h h word (trailing 1) _
      (ap (λ p. cond p (h, trailing 1) (long_or_other s.rules idle word (long_of word) h)) dash)
      refl) passes settles)
    where
      go : (rest : List Text) → (turn_fault s [] (state None h) word ≡ [])
          × (walk_fault s [] (record (state None h) { is_trailing = true }) rest ≡ [])
          × (settle_fault s.rules s.args_override_self
          (fold (walked s.rules []) (record (state None h) { is_trailing = true }) rest).held
          ≡ [])
          → Idles h g (word ∷ rest)
      go [] p = (
        p.2,
        λ at. (
          g,
          ap (λ b. cond b (Some g)
              (after_parts g (option_parts word) (λ x. uses_after x None [])
              (λ n. uses_after g (Some n) []))) dash,
        ),
      )
      go (y ∷ ys) p = trails s [] f.words _ None h y ys p.1

  module _ (word : List ℕ) (h : Held) (g : Uses) (rest : List Text) (more : Rest rest)
      (skip : h.skip ≡ 0) (dash : bytes_eq word (45 ∷ 45 ∷ []) ≡ false)
      (passes : walk_fault s [] (state None h) (word ∷ rest) ≡ [])
      (settles : settle_fault s.rules s.args_override_self
      (fold (walked s.rules []) (state None h) (word ∷ rest)).held ≡ []) where
    idle_turn : turn_fault s [] (state None h) word ≡ []
    idle_turn = turn_of s [] f.words (state None h) word rest passes

    named_by : (parts : Option (List ℕ × Option (List ℕ))) → long_of word ≡ parts
        → uses_after g None (word ∷ rest)
        ≡ after_parts g parts (λ x. uses_after x None rest) (λ n. uses_after g (Some n) rest)
    unfolding uses_after
    named_by parts is =
        ap (λ b. cond b (cond (is_empty rest) (Some g) None)
        (after_parts g (option_parts word) (λ x. uses_after x None rest)
        (λ n. uses_after g (Some n) rest))) dash
        ∙ ap (λ p. after_parts g p (λ x. uses_after x None rest) (λ n. uses_after g (Some n) rest))
        (sym (parts_are word) ∙ is)

    idle_long : (n : List ℕ) (v : Option (List ℕ)) (b : Bool) → long_of word ≡ Some (n, v)
        → is_setting n ≡ b → Idles h g (word ∷ rest)
    idle_long n v false is e =
        contra _ (Idles h g (word ∷ rest)) (f.unknown n v h e)
        (sym (long_fault_at s [] f.words h word (n, v) dash is)
        ∙ (or_none (fault_at s [] f.words h word) _ idle_turn).0)
    idle_long n None true is e =
        let found = r.long n e in
        let p = split s [] f.words (state None h) _ word rest
        (turned s None h _ word _ _ (name_met s h word n found.0 dash is found.1) refl) passes
        settles in
        let settled_now =
        (or_none _ [] (sym (name_turn s h word n found.0 dash is found.1) ∙ idle_turn)).0 in (
          settled_now,
          λ at.
              let q = more (Some n) (record (settled s.rules h) { pending = Some (n, []) }) g skip
              p.1 p.2
              (record { pending = refl; rows = at.rows; setting = e; numbers = at.numbers }) in (
                q.0,
                named_by (Some (n, None)) is
                    ∙ ap (λ b. cond b (uses_after g (Some n) rest) None) e ∙ q.1,
              ),
        )
    idle_long n (Some v) true is e =
        let found = r.long n e in
        let p = split s [] f.words (state None h) _ word rest
        (turned s None h _ word _ _ (pair_met s h word n v found.0 dash is found.1) refl) passes
        settles in
        let both_now = or_none (settle_fault s.rules s.args_override_self h) _
        (or_none _ [] (sym (pair_turn s h word n v found.0 dash is found.1) ∙ idle_turn)).0 in (
          both_now.0,
          λ at.
              let may = use_needs s.args_override_self n v found.0 g r.once
              (sym (ap (use_fault s.args_override_self (setting_rule n found.0) (v ∷ [])) at.rows)
              ∙ both_now.1) in
              let q = (more None (reacted s.rules (setting_rule n found.0) (v ∷ []) h)
              (g ++ (n, v) ∷ []) skip p.1 p.2).1
              (paired s r h g n v found.0 at may).1 in (
                q.0,
                named_by (Some (n, Some v)) is
                    ∙ ap₂ (λ x y. cond (x && y) (uses_after (g ++ (n, v) ∷ []) None rest) None) e
                    may
                    ∙ q.1,
              ),
        )

    idle_word : (parts : Option (List ℕ × Option (List ℕ))) → long_of word ≡ parts
        → Idles h g (word ∷ rest)
    idle_word None is =
        idle_other s [] f.words (Idles h g (word ∷ rest)) h word skip dash is idle_turn
    idle_word (Some p) is = idle_long p.0 p.1 _ is refl

  idle_case : (word : List ℕ) (h : Held) (g : Uses) (rest : List Text) (b : Bool)
      → bytes_eq word (45 ∷ 45 ∷ []) ≡ b → Rest rest → Sounds None h g (word ∷ rest)
  idle_case word h g rest true dash more =
      λ skip passes settles. idle_end word h g rest dash passes settles
  idle_case word h g rest false dash more = λ skip passes settles.
      idle_word word h g rest more skip dash passes settles (long_of word) refl

  waiting_case : (name word : List ℕ) (h : Held) (g : Uses) (rest : List Text) (b : Bool)
      → bytes_eq word (45 ∷ 45 ∷ []) ≡ b → Rest rest
      → Sounds (Some name) h g (word ∷ rest)
  waiting_case name word h g rest true dash more =
      λ skip passes settles at. waiting_end name word h g rest at dash passes settles
  waiting_case name word h g rest false dash more =
      λ skip passes settles at. after_waiting name word h g rest more at skip passes settles
      (long_of word) dash refl

  pub sounds : (words : List Text) → Rest words
  unfolding uses_after
  sounds [] None h g = λ skip passes settles. (settles, λ at. (g, refl))
  sounds [] (Some name) h g = λ skip passes settles at. contra _ _ (waits_fault name h g at) settles
  sounds (word ∷ rest) None h g = idle_case word h g rest _ refl (sounds rest)
  sounds (word ∷ rest) (Some name) h g = waiting_case name word h g rest _ refl (sounds rest)
