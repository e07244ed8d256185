-- What a command refuses that takes no words of its own.
use Rattle.std.proofs.Common.{◌≡◌, ◌∙◌, ap, ap₂, sym, subst, refl, ℕ, List, [], ◌∷◌, Bool, true}
use Rattle.std.proofs.Common.{false, Option, Some, None, cond, true≢false, length}
use Rattle.std.specs.Prelude.{fold, slice_get}
use Rattle.std.specs.Option.{option_map_or}
use Rattle.std.specs.Str.{bytes_eq, chars}
use Rattle.clap.specs.Words.{Shape, Text}
use Rattle.clap.specs.Lexer.{long_of, short_of}
use Rattle.clap.specs.Walk.{Held, Names, Outcome, Step, Waiting, Walk, arg_by_index, arg_by_long}
use Rattle.clap.specs.Walk.{arg_by_short, idle, trailing, value, walked, long_or_other}
use Rattle.clap.specs.Walk.{short_or_plain, plain_word, after_flag, plain}
use Rattle.clap.specs.Faults.{bundle_step_fault, positional_fault, settle_fault, turn_fault}
use Rattle.clap.specs.Faults.{walk_fault, flag_word_fault, flags_fault, long_fault, short_fault}
use Rattle.clap.specs.Faults.{step_fault, stray_fault, bundle_fault}
use Rattle.clap.specs.Kinds.{or_else, Kinds}
use Rattle.clap.proofs.WalkLemmas.{bundle_ends}
use Rattle.arbiter.proofs.RunWalk.{state, none≢some}

abbrev pub is_fault : Kinds → Bool
is_fault [] = false
is_fault (k ∷ ks) = true

pub contra : (a : Kinds) (X : Type 0) → is_fault a ≡ true → a ≡ [] → X
contra a X bad none = absurd (true≢false (sym bad ∙ ap is_fault none))

pub or_none : (a b : Kinds) → or_else a b ≡ [] → (a ≡ []) × (b ≡ [])
or_none [] b e = (refl, e)
or_none (k ∷ ks) b e = contra (k ∷ ks) _ refl e

pub fault_left : (a b : Kinds) → is_fault a ≡ true → is_fault (or_else a b) ≡ true
fault_left [] b e = absurd (true≢false (sym e))
fault_left (k ∷ ks) b e = refl

pub fault_right : (a b : Kinds) → is_fault b ≡ true → is_fault (or_else a b) ≡ true
fault_right [] b e = e
fault_right (k ∷ ks) b e = refl

-- the command takes no word as a value, and no flag of one letter
pub record RefusesWords (s : Shape) : Type 0 where
  pub position : arg_by_index s.rules 1 ≡ None
  pub stray : is_fault (stray_fault s) ≡ true
  pub short : (x : ℕ) (rest : List ℕ) (h : Held) (more : Held → Kinds)
      → is_fault (short_fault s.rules s.args_override_self (arg_by_short s.rules x) rest h more)
      ≡ true

-- ---- the walk

module _ (s : Shape) (names : Names) (f : RefusesWords s) where
  pub split : (w v : Walk) (word : Text) (rest : List Text) → walked s.rules names w word ≡ v
      → walk_fault s names w (word ∷ rest) ≡ []
      → settle_fault s.rules s.args_override_self (fold (walked s.rules names) w (word ∷ rest)).held
      ≡ []
      → (turn_fault s names w word ≡ []) × (walk_fault s names v rest ≡ [])
      × (settle_fault s.rules s.args_override_self (fold (walked s.rules names) v rest).held ≡ [])
  unfolding walk_fault
  split w v word rest is passes settles =
      let p = or_none (turn_fault s names w word)
      (walk_fault s names (walked s.rules names w word) rest) passes in (
        p.0,
        subst (λ x. walk_fault s names x rest ≡ []) is p.1,
        subst (λ x. settle_fault s.rules s.args_override_self
            (fold (walked s.rules names) x rest).held ≡ []) is settles,
      )

  pub turn_of : (w : Walk) (word : Text) (rest : List Text)
      → walk_fault s names w (word ∷ rest) ≡ [] → turn_fault s names w word ≡ []
  unfolding walk_fault
  turn_of w word rest passes =
      (or_none (turn_fault s names w word) (walk_fault s names (walked s.rules names w word) rest)
      passes).0

  pub strays : (X : Type 0) (h : Held) → step_fault s 1 h value ≡ [] → X
  strays X h e = contra (stray_fault s) X f.stray
      (sym (ap (λ o. option_map_or (λ a. positional_fault s.rules s.args_override_self a h) o
      (stray_fault s)) f.position) ∙ e)

  pub trails : (X : Type 0) (o : Option (List ℕ)) (h : Held) (word : Text) (rest : List Text)
      → walk_fault s names (record (state o h) { is_trailing = true }) (word ∷ rest) ≡ [] → X
  trails X o h word rest e =
      strays X h (turn_of (record (state o h) { is_trailing = true }) word rest e)

  pub short_refused : (X : Type 0) (flags : List ℕ) (h : Held) (skip ch : ℕ) → skip ≡ 0
      → slice_get (chars flags) 0 ≡ Some ch
      → flags_fault s.rules s.args_override_self (length flags) flags skip h ≡ [] → X
  unfolding flags_fault chars
  short_refused X [] h skip ch zero_skip is e = none≢some ch is
  short_refused X (c ∷ cs) h skip ch zero_skip is e =
      contra _ X (f.short ch _ h _)
      (sym (ap₂ (λ o n. bundle_step_fault s.rules s.args_override_self o (c ∷ cs) n h
      (flags_fault s.rules s.args_override_self (length cs))) is zero_skip) ∙ e)

  -- the fault of a word that is no subcommand
  abbrev pub fault_at : Held → Text → Kinds
  fault_at h word = cond (bytes_eq word (45 ∷ 45 ∷ [])) []
      (flag_word_fault s.rules s.args_override_self (long_of word) word h)

  pub long_fault_at : (h : Held) (word : Text) (parts : List ℕ × Option (List ℕ))
      → bytes_eq word (45 ∷ 45 ∷ []) ≡ false → long_of word ≡ Some parts
      → fault_at h word ≡ long_fault s.rules s.args_override_self (arg_by_long s.rules parts.0)
      parts.1 h
  long_fault_at h word parts dash is =
      ap (λ p. cond p [] (flag_word_fault s.rules s.args_override_self (long_of word) word h)) dash
      ∙ ap (λ p. flag_word_fault s.rules s.args_override_self p word h) is

  pub short_fault_at : (h : Held) (word flags : Text) → bytes_eq word (45 ∷ 45 ∷ []) ≡ false
      → long_of word ≡ None → short_of word ≡ Some flags
      → fault_at h word ≡ bundle_fault s.rules s.args_override_self flags h
  short_fault_at h word flags dash is short =
      ap (λ p. cond p [] (flag_word_fault s.rules s.args_override_self (long_of word) word h)) dash
      ∙ ap (λ p. flag_word_fault s.rules s.args_override_self p word h) is
      ∙ ap (λ p. option_map_or (λ x. bundle_fault s.rules s.args_override_self x h) p []) short

  abbrev pub met_at : Waiting → Held → Text → Held × Step
  met_at waiting h word = cond (bytes_eq word (45 ∷ 45 ∷ [])) (h, trailing 1)
      (long_or_other s.rules waiting word (long_of word) h)

  pub met_other : (waiting : Waiting) (h : Held) (word : Text)
      → bytes_eq word (45 ∷ 45 ∷ []) ≡ false → long_of word ≡ None → short_of word ≡ None
      → met_at waiting h word ≡ plain_word s.rules waiting word h
  met_other waiting h word dash is short =
      ap (λ p. cond p (h, trailing 1) (long_or_other s.rules waiting word (long_of word) h)) dash
      ∙ ap (λ p. long_or_other s.rules waiting word p h) is
      ∙ ap (λ p. short_or_plain s.rules waiting word p h) short

  pub met_empty : (waiting : Waiting) (h : Held) (word flags : Text)
      → bytes_eq word (45 ∷ 45 ∷ []) ≡ false → long_of word ≡ None
      → short_of word ≡ Some flags → slice_get (chars flags) 0 ≡ None
      → met_at waiting h word ≡ plain_word s.rules waiting word (record h { skip = 0 })
  met_empty waiting h word flags dash is short none =
      ap (λ p. cond p (h, trailing 1) (long_or_other s.rules waiting word (long_of word) h)) dash
      ∙ ap (λ p. long_or_other s.rules waiting word p h) is
      ∙ ap (λ p. short_or_plain s.rules waiting word p h) short
      ∙ ap (λ (q : Held × Outcome). after_flag s.rules waiting word q.0 q.1)
      (sym (bundle_ends s.rules (length flags) flags h.skip plain (record h { skip = 0 })
      (sym none)))

  -- a word that is no option stands for nothing
  pub idle_other : (X : Type 0) (h : Held) (word : Text) → h.skip ≡ 0
      → bytes_eq word (45 ∷ 45 ∷ []) ≡ false → long_of word ≡ None
      → turn_fault s [] (state None h) word ≡ [] → X
  idle_other X h word skip dash is turn = shorts (short_of word) refl
    where
      parts : (fault_at h word ≡ [])
          × (step_fault s 1 (met_at idle h word).0 (met_at idle h word).1 ≡ [])
      parts = or_none (fault_at h word) _ turn

      chars_of : (flags : Text) (o : Option ℕ) → short_of word ≡ Some flags
          → slice_get (chars flags) 0 ≡ o → X
      chars_of flags (Some ch) short e =
          short_refused X flags (record h { skip = 0 }) h.skip ch skip e
          (sym (short_fault_at h word flags dash is short) ∙ parts.0)
      chars_of flags None short e =
          strays X (record h { skip = 0 })
          (sym (ap (λ (q : Held × Step). step_fault s 1 q.0 q.1)
          (met_empty idle h word flags dash is short e)) ∙ parts.1)

      shorts : (o : Option Text) → short_of word ≡ o → X
      shorts None e =
          strays X h (sym (ap (λ (q : Held × Step). step_fault s 1 q.0 q.1)
          (met_other idle h word dash is e)) ∙ parts.1)
      shorts (Some flags) e = chars_of flags (slice_get (chars flags) 0) e refl
