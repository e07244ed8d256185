-- The number that refuses a question about a group, case by case.
use Rattle.std.proofs.Common.{◌≡◌, ℕ, ◌<◌, ◌≤◌, Bool, true, false, cond, length, refl, ap, sym}
use Rattle.std.proofs.Common.{◌∙◌, subst, inl, inr, arith}
use Rattle.std.specs.Prelude.{◌==◌, nat_lt}
use Rattle.std.proofs.lemmas.Bool.{cases_eq, ne_eqb, eq-eqb, lt-ltb, le-ltb}
use Rattle.bw_files.specs.declared.fault.FileFault.TheVariants.{BadNumber, WeightOutOfRange}
use Rattle.bw_files.specs.declared.fault.FileFault.TheVariants.{QuotaTooSmall, QuotaTooLarge}
use Rattle.bw_files.specs.declared.fault.FileFault.TheVariants.{PeriodOutOfRange, TooManyWords}
use Rattle.bw_files.specs.declared.fault.FileFault.TheVariants.{Empty}
use Rattle.bw_model.specs.declared.host.HostFault.TheVariants.{BadProcessors, BadPeriod, BadSlice}
use Rattle.bw_model.specs.declared.instance_fault.InstanceFault.TheVariants.{TooMany, BadParent}
use Rattle.bw_model.specs.declared.instance_fault.InstanceFault.TheVariants.{BadWeight, TooDeep}
use Rattle.bw_model.specs.declared.instance_fault.InstanceFault.TheVariants.{InnerDemand}
use Rattle.bw_model.specs.declared.instance_fault.InstanceFault.TheVariants.{DemandTooLarge}
use Rattle.bw_model.specs.declared.instance_fault.InstanceFault.TheVariants.{RootLimited}
use Rattle.bw_model.specs.declared.instance_fault.InstanceFault.TheVariants.{OutOfMemory}
use Rattle.bw_model.specs.Groups.{Groups}
use Rattle.bw_columns.specs.declared.asked_instance.Host.{Host}
use Rattle.bw_columns.specs.declared.columns.Columns.{Columns}
use Rattle.bw_columns.specs.declared.refusal.Refusal.{Refusal}
use Rattle.bw_columns.specs.declared.refusal.Refusal.TheVariants as of_refusal
use Rattle.bw_columns.specs.Asked.{Answers, IsAfterMemory}
use Rattle.bw_columns.specs.Numbers.{number_of_refusal}
use Rattle.bw_columns.specs.Questions.{group_number, root_number, first_refusal}
use Rattle.bw_columns.specs.declared.question.Question.{Question}
use Rattle.bw_columns.specs.declared.question.Question.TheVariants.{Guarantee, LeastWeight}
use Rattle.bw_columns.specs.declared.question.Question.TheVariants.{LeastLimit, LeastProcessors}
use Rattle.bw_columns.specs.Questions.{question_refusal_of, own_number, refusal_of_question}

-- nothing refuses first
pub first_none : (number next : ℕ) → number ≡ 0 → first_refusal number next ≡ next
unfolding first_refusal
first_none number next e = ap (λ (b : Bool). cond b next number) (eq-eqb number 0 e)

pub first_some : (number next : ℕ) → (number ≡ 0 → ⊥) → first_refusal number next ≡ number
unfolding first_refusal
first_some number next e = ap (λ (b : Bool). cond b next number) (ne_eqb number 0 e)

-- a refusal has a number above 0
pub refusal_positive : (refusal : Refusal) → 0 < number_of_refusal refusal
refusal_positive of_refusal.WrongLength = omega arith
refusal_positive (of_refusal.Host BadProcessors) = omega arith
refusal_positive (of_refusal.Host BadPeriod) = omega arith
refusal_positive (of_refusal.Host BadSlice) = omega arith
refusal_positive (of_refusal.Instance TooMany) = omega arith
refusal_positive (of_refusal.Instance BadParent) = omega arith
refusal_positive (of_refusal.Instance BadWeight) = omega arith
refusal_positive (of_refusal.Instance TooDeep) = omega arith
refusal_positive (of_refusal.Instance InnerDemand) = omega arith
refusal_positive (of_refusal.Instance DemandTooLarge) = omega arith
refusal_positive (of_refusal.Instance RootLimited) = omega arith
refusal_positive (of_refusal.Instance OutOfMemory) = omega arith
refusal_positive of_refusal.NotFound = omega arith
refusal_positive (of_refusal.Setting BadNumber) = omega arith
refusal_positive (of_refusal.Setting WeightOutOfRange) = omega arith
refusal_positive (of_refusal.Setting QuotaTooSmall) = omega arith
refusal_positive (of_refusal.Setting QuotaTooLarge) = omega arith
refusal_positive (of_refusal.Setting PeriodOutOfRange) = omega arith
refusal_positive (of_refusal.Setting TooManyWords) = omega arith
refusal_positive (of_refusal.Setting Empty) = omega arith

-- what refuses host and rows refuses a question, too
pub carried : (number next answer : ℕ) → 0 < answer → IsAfterMemory next → Answers number answer
    → Answers (first_refusal number next) answer
carried number next answer positive later answers = elim (cases_eq number 0) [
  | inl none ↦ elim answers [
    | inl same ↦ absurd (omega (arith, same, none, positive))
    | inr memory ↦
        inr (memory.0, subst IsAfterMemory (sym (first_none number next none)) later)
  ]
  | inr some ↦ subst (λ (n : ℕ). Answers n answer) (sym (first_some number next some)) answers
]

-- groups are refused after memory is asked for
row_later : (b : Bool) → IsAfterMemory (cond b 0 20)
row_later true = inl refl
row_later false = inr (omega arith, λ e. omega (arith, e))

root_later : (b : Bool) → IsAfterMemory (cond b 10 0)
root_later true = inr (omega arith, λ e. omega (arith, e))
root_later false = inl refl

pub question_carried : (number : ℕ) (groups : Groups) (group : ℕ) (refusal : Refusal)
    → Answers number (number_of_refusal refusal)
    → Answers (first_refusal number (group_number groups group)) (number_of_refusal refusal)
question_carried number groups group refusal answers =
    carried number (group_number groups group) (number_of_refusal refusal)
    (refusal_positive refusal) (row_later (nat_lt group (length groups.rows))) answers

-- a group that is a row, and one that is none
pub question_none : (number : ℕ) (groups : Groups) (group : ℕ) → number ≡ 0
    → group < length groups.rows → first_refusal number (group_number groups group) ≡ 0
question_none number groups group none within =
    first_none number (group_number groups group) none
    ∙ ap (λ (b : Bool). cond b 0 20) (lt-ltb group (length groups.rows) within)

pub question_past : (number : ℕ) (groups : Groups) (group : ℕ) → number ≡ 0
    → length groups.rows ≤ group → first_refusal number (group_number groups group) ≡ 20
question_past number groups group none past =
    first_none number (group_number groups group) none
    ∙ ap (λ (b : Bool). cond b 0 20) (le-ltb group (length groups.rows) past)

-- Where nothing else refuses, a question is refused by what refuses it alone.
pub asked_own : (host : Host) (columns : Columns) (group : ℕ) (question : Question)
    → question_refusal_of host columns group ≡ 0
    → refusal_of_question host columns group question ≡ own_number group question
asked_own host columns group Guarantee none = none
asked_own host columns group (LeastWeight amount) none = none
asked_own host columns group (LeastLimit amount) none =
    first_none (question_refusal_of host columns group) (root_number group) none
asked_own host columns group (LeastProcessors amount) none = none

-- What refuses host, rows and group refuses each question, too.
pub asked_carried : (host : Host) (columns : Columns) (group : ℕ) (question : Question)
    (refusal : Refusal)
    → Answers (question_refusal_of host columns group) (number_of_refusal refusal)
    → Answers (refusal_of_question host columns group question) (number_of_refusal refusal)
asked_carried host columns group Guarantee refusal answers = answers
asked_carried host columns group (LeastWeight amount) refusal answers = answers
asked_carried host columns group (LeastLimit amount) refusal answers =
    carried (question_refusal_of host columns group) (root_number group)
    (number_of_refusal refusal) (refusal_positive refusal) (root_later (group == 0)) answers
asked_carried host columns group (LeastProcessors amount) refusal answers = answers
