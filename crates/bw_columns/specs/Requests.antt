-- A caller's request, and what answers it.
use Rattle.std.specs.Prelude.{◌≡◌, ℕ, true, length, Result, Ok, Err}
use Rattle.bw_model.specs.Groups.{Groups}
use Rattle.bw_columns.specs.Asked.{groups_asked, refusal_where, Answers}
use Rattle.bw_columns.specs.Numbers.{number_of_refusal}
use Rattle.bw_columns.specs.declared.asked_instance.Request.{Request}
use Rattle.bw_columns.specs.declared.refusal.Refusal.{Refusal}

-- the groups that a request stands for
abbrev pub groups_for : Request → Groups
groups_for request = groups_asked request.host request.columns

-- the number of rows of a request
abbrev pub row_count : Request → ℕ
row_count request = length request.columns.parents.now

-- the number that refuses a request, 0 where none does: 50 also where its other columns do not fit
abbrev pub refusal_for : Request → ℕ
refusal_for request = refusal_where request.fit request.host request.columns

-- The reply to a request: an answer only where nothing refuses it, else its first refusal.
abbrev pub IsReplyTo : {A : Type 0} → Request → Result A Refusal → Type 0
IsReplyTo request (Ok _) = (request.fit ≡ true) × (refusal_for request ≡ 0)
IsReplyTo request (Err e) = Answers (refusal_for request) (number_of_refusal e)
