-- A question about one group, the number that refuses it, and its answer.
use Rattle.std.specs.Prelude.{◌≡◌, ℕ, ◌==◌, Option, length, nat_lt, unwrap_or}
use Rattle.std.specs.Prelude.{if◌then◌else◌}
use Rattle.bw_model.specs.declared.limits.TheConstants.{MIN_WEIGHT, MAX_WEIGHT, MAX_PROCESSORS}
use Rattle.bw_model.specs.Host.{Shape}
use Rattle.bw_model.specs.Groups.{Groups}
use Rattle.bw_questions.specs.Change.{with_weight, with_processors}
use Rattle.bw_questions.specs.Guarantee.{IsGuaranteed}
use Rattle.bw_questions.specs.Least.{Reaches, IsLeast, IsLeastLimit}
use Rattle.bw_columns.specs.declared.asked_instance.Host.{Host}
use Rattle.bw_columns.specs.declared.columns.Columns.{Columns}
use Rattle.bw_columns.specs.declared.question.Question.{Question}
use Rattle.bw_columns.specs.declared.question.Question.TheVariants.{Guarantee, LeastWeight}
use Rattle.bw_columns.specs.declared.question.Question.TheVariants.{LeastLimit, LeastProcessors}
use Rattle.bw_columns.specs.Asked.{Table, shape_of, table_of, groups_in, asked_number}
use Rattle.bw_columns.specs.Asked.{limit_number}

-- the number that refuses a group, 0 where none does: 20 where it is no row
abbrev pub group_number : Groups → ℕ → ℕ
group_number groups group = if nat_lt group (length groups.rows) then 0 else 20

-- the number that refuses a group whose limit is asked for: 10 for the root, which has none
abbrev pub root_number : ℕ → ℕ
root_number group = if group == 0 then 10 else 0

-- the first number that refuses, 0 where neither does
unfoldable pub first_refusal : ℕ → ℕ → ℕ
first_refusal number next = if number == 0 then next else number

-- the number that refuses a question about a group, 0 where none does: that of the host and the
-- rows, and then that of the group
abbrev pub question_number : Shape → Table → ℕ → ℕ
question_number shape table group =
    first_refusal (asked_number shape table) (group_number (groups_in shape table) group)

-- the number that refuses a question about a group's limit, 0 where none does
abbrev pub limit_question_number : Shape → Table → ℕ → ℕ
limit_question_number shape table group =
    first_refusal (question_number shape table group) (root_number group)

-- the number that refuses a question by the program's host and columns, 0 where none does
abbrev pub question_refusal_of : Host → Columns → ℕ → ℕ
question_refusal_of host columns group =
    question_number (shape_of host) (table_of columns) group

-- the number of the least weight of a group that reaches an amount, 0 where no weight does
abbrev pub IsLeastWeightNumber : Groups → ℕ → ℕ → ℕ → Type 0
IsLeastWeightNumber groups group amount number =
    (weight : Option ℕ)
    × IsLeast (λ w. Reaches (with_weight groups group w) group amount) MIN_WEIGHT MAX_WEIGHT weight
    × (number ≡ unwrap_or weight 0)

-- the number of the least limit of a group that reaches an amount, that of no limit where none does
abbrev pub IsLeastLimitNumber : Groups → ℕ → ℕ → ℕ → Type 0
IsLeastLimitNumber groups group amount number =
    (limit : Option ℕ) × IsLeastLimit groups group amount limit × (number ≡ limit_number limit)

-- the number of processors that is the least to reach an amount, 0 where none does
abbrev pub IsLeastProcessorsNumber : Groups → ℕ → ℕ → ℕ → Type 0
IsLeastProcessorsNumber groups group amount number =
    (processors : Option ℕ)
    × IsLeast (λ n. Reaches (with_processors groups n) group amount) 1 MAX_PROCESSORS processors
    × (number ≡ unwrap_or processors 0)

-- the number that refuses a question of a group that is a row, 0 where none does
abbrev pub own_number : ℕ → Question → ℕ
own_number group Guarantee = 0
own_number group (LeastWeight amount) = 0
own_number group (LeastLimit amount) = root_number group
own_number group (LeastProcessors amount) = 0

-- the number that refuses a question by the program's host and columns, 0 where none does
abbrev pub refusal_of_question : Host → Columns → ℕ → Question → ℕ
refusal_of_question host columns group Guarantee = question_refusal_of host columns group
refusal_of_question host columns group (LeastWeight amount) =
    question_refusal_of host columns group
refusal_of_question host columns group (LeastLimit amount) =
    limit_question_number (shape_of host) (table_of columns) group
refusal_of_question host columns group (LeastProcessors amount) =
    question_refusal_of host columns group

-- the number that answers a question
abbrev pub IsAnswer : Groups → ℕ → Question → ℕ → Type 0
IsAnswer groups group Guarantee number = IsGuaranteed groups group number
IsAnswer groups group (LeastWeight amount) number = IsLeastWeightNumber groups group amount number
IsAnswer groups group (LeastLimit amount) number = IsLeastLimitNumber groups group amount number
IsAnswer groups group (LeastProcessors amount) number =
    IsLeastProcessorsNumber groups group amount number
