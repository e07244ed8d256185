-- A script has one transcript, by its lines one after another.
use Rattle.std.proofs.Common.{◌≡◌, ◌+◌, ℕ, Bool, List, [], ◌∷◌, ◌++◌, Option, Some, None, inl, inr}
use Rattle.std.proofs.Common.{sym, ap, subst, ◌∙◌, eqb}
use Rattle.std.specs.Prelude.{Result, Ok, Err, IfOk, ⊤, codes, true, false, length, slice_index}
use Rattle.std.specs.Prelude.{unwrap_or}
use Rattle.std.specs.List.{range_with_len, join_with_byte}
use Rattle.std.specs.Map.{keys_of}
use Rattle.std.specs.Fmt.{decimal}
use Rattle.bw_model.specs.Demand.{limiting_groups, limited_total, demand_outside}
use Rattle.bw_model.specs.Groups.{Groups, limit_of}
use Rattle.bw_cert.specs.Spelling.{Value, head_words, groups_words}
use Rattle.bw_model.specs.declared.stat.Stat.{Stat}
use Rattle.bw_tree.specs.Groups.{GroupFields, TreeState, IsTree, group_at}
use Rattle.bw_tree.specs.Snapshot.{instance_of, left_over}
use Rattle.bw_tree.proofs.CallerLemmas.{carried_IsTree}
use Rattle.bw_files.specs.Writing.{stat_text, quota_word}
use Rattle.bw_files.specs.Writing.{line as key_line}
use Rattle.bw_stat.specs.Books.{stat_at, or_zeros}
use Rattle.bw_stat.specs.Report.{right_aligned, counter_columns}
use Rattle.bw_hierarchy.specs.Calls.{found_at, mkdir_of}
use Rattle.bw_hierarchy.specs.Files.{file_of, shown, text_of, read_of, write_of}
use Rattle.bw_hierarchy.specs.GroupFiles.{file_named}
use Rattle.bw_hierarchy.specs.State.{HierarchyState, with_tree, rmdir_of, demand_set_of}
use Rattle.bw_hierarchy.specs.declared.fault.Fault.{Fault}
use Rattle.bw_hierarchy.specs.declared.group_file.GroupFile.{GroupFile}
use Rattle.bw_hierarchy.specs.declared.group_file.GroupFile.TheVariants as file
use Rattle.bw_hierarchy.proofs.CallerLemmas.{any_ok}
use Rattle.bw_commands.specs.CertifiedPlan.{value_with}
use Rattle.bw_commands.specs.Command.{Command}
use Rattle.bw_commands.specs.Command as command
use Rattle.bw_commands.specs.Faults.{error_line}
use Rattle.bw_commands.specs.Lines.{lines_of}
use Rattle.bw_commands.specs.Planned.{amount_line}
use Rattle.bw_commands.specs.Reading.{LeadsTo, TakesLine, TakesLines}
use Rattle.bw_commands.specs.Reported.{counter_line}
use Rattle.bw_commands.specs.Script.{Outcome, Silent, Says, Prints, Total, Plan, Cert, Period}
use Rattle.bw_commands.specs.Script.{Report, change_outcome, call_outcome, mkdir_outcome}
use Rattle.bw_commands.specs.Script.{rmdir_outcome, demand_outcome, read_outcome, write_outcome}
use Rattle.bw_commands.specs.Script.{outcome_of_command, outcome_of_request, outcome_of_kept}
use Rattle.bw_commands.specs.Script.{request_of_kept, kept_of, outcome_of, ok_line, refused, Gives}
use Rattle.bw_commands.specs.Script.{IsAllowedFailure, IsOutcome}
use Rattle.bw_commands.specs.State.{State, start, with_hierarchy}
use Rattle.bw_commands.specs.Total.{limit_line}
use Rattle.bw_commands.specs.declared.fault.ScriptFault.{ScriptFault}
use Rattle.bw_commands.specs.declared.fault.ScriptFault.TheVariants.{OutOfMemory, NotStarted, BadNumber}
use Rattle.bw_commands.specs.declared.fault.ScriptFault.TheVariants.{Call}
use Rattle.bw_commands.specs.declared.reading.RefusedLine.{RefusedLine}
use Rattle.bw_shell.specs.Transcript.{Answers}
use Rattle.bw_laws.specs.Transcripts.{IsWithoutFailure, ThereIsOneTranscript}
use Rattle.bw_laws.specs.Transcripts.{ReadingFollowsTheTranscript}
use Rattle.bw_laws.proofs.OneAnswer.{total_same, plan_same, cert_same, period_same, report_same}
use Rattle.bw_laws.proofs.TreesKept.{HasTree, mkdir_IsTree, rmdir_IsTree, demand_set_IsTree}
use Rattle.bw_laws.proofs.TreesKept.{write_IsTree, alone_IsTree}
use Rattle.bw_laws.proofs.WholeLines.{IsWhole, none_whole, both_whole, line_whole, behind_whole}
use Rattle.bw_laws.proofs.WholeLines.{error_whole, number_whole, group_lines_whole, word_lines_whole}
use Rattle.bw_laws.proofs.WholeLines.{without_parts, memory_fails, start_fails}

-- ---- what an outcome prints is lines, and what it leaves is a tree

abbrev IsGood : Outcome → Type 0
IsGood (Says text after) = IsWhole text × IsTree after.hierarchy.tree
IsGood (Prints text after) = IsWhole text × IsTree after.hierarchy.tree
IsGood outcome = ⊤

refused_good : (s : State) (fault : ScriptFault) → IsTree s.hierarchy.tree
    → IsGood (refused s fault)
refused_good s fault ok = (error_whole fault, ok)

changes : {A : Type 0} (s : State) (after : A → State) (r : Result A Fault)
    → IsTree s.hierarchy.tree → IfOk r (λ x. IsTree (after x).hierarchy.tree)
    → IsGood (change_outcome s after r)
changes s after (Ok x) ok is = (line_whole (codes "ok"), is)
changes s after (Err f) ok is = refused_good s (Call f) ok

mkdir_good : (s : State) (path : List ℕ) → IsTree s.hierarchy.tree → IsGood (mkdir_outcome s path)
unfolding mkdir_outcome
mkdir_good s path ok = by (mkdir_of s.hierarchy.tree path) (mkdir_IsTree s.hierarchy.tree path ok)
  where
    by : (r : Result (ℕ × TreeState) Fault) → IfOk r (λ made. IsTree made.1)
        → IsGood (call_outcome s (λ made. ok_line)
        (λ made. with_hierarchy s (with_tree s.hierarchy made.1)) r)
    by (Ok made) is = (line_whole (codes "ok"), is)
    by (Err f) is = refused_good s (Call f) ok

rmdir_good : (s : State) (path : List ℕ) → IsTree s.hierarchy.tree → IsGood (rmdir_outcome s path)
unfolding rmdir_outcome
rmdir_good s path ok = changes s (with_hierarchy s) (rmdir_of s.hierarchy path) ok
    (rmdir_IsTree s.hierarchy path ok)

demand_good : (s : State) (path : List ℕ) (o : Option ℕ) → IsTree s.hierarchy.tree
    → IsGood (demand_outcome s path o)
unfolding demand_outcome
demand_good s path None ok = refused_good s BadNumber ok
demand_good s path (Some n) ok = changes s (with_hierarchy s) (demand_set_of s.hierarchy path n) ok
    (demand_set_IsTree s.hierarchy path n ok)

write_good : (s : State) (path file text : List ℕ) → IsTree s.hierarchy.tree
    → IsGood (write_outcome s path file text)
unfolding write_outcome
write_good s path file text ok =
    changes s (λ tree. with_hierarchy s (with_tree s.hierarchy tree))
    (write_of s.hierarchy.tree path file text) ok
    (write_IsTree s.hierarchy.tree path file text ok)

-- the text of a file
key_whole : (key : List ℕ) (n : ℕ) → IsWhole (key_line key n)
key_whole key n = line_whole (key ++ codes " " ++ decimal n)

stat_whole : (stat : Stat) (root : Bool) → IsWhole (stat_text stat root)
stat_whole stat true = key_whole (codes "usage_usec") stat.usage_usec
stat_whole stat false =
    both_whole _ _ (both_whole _ _ (both_whole _ _ (both_whole _ _ (both_whole _ _
    (key_whole (codes "usage_usec") stat.usage_usec)
    (key_whole (codes "nr_periods") stat.nr_periods))
    (key_whole (codes "nr_throttled") stat.nr_throttled))
    (key_whole (codes "throttled_usec") stat.throttled_usec))
    (key_whole (codes "nr_bursts") stat.nr_bursts))
    (key_whole (codes "burst_usec") stat.burst_usec)

shown_whole : (books : List (ℕ × Stat)) (id : ℕ) (g : GroupFields) (f : GroupFile)
    → IsWhole (shown books id g f)
shown_whole books id g file.Weight = line_whole (decimal g.weight)
shown_whole books id g file.Max = line_whole (quota_word g.quota ++ codes " " ++ decimal g.period)
shown_whole books id g file.MaxBurst = line_whole (decimal g.burst)
shown_whole books id g file.Stat = stat_whole (or_zeros (stat_at books id)) (eqb id 0)

text_whole : (books : List (ℕ × Stat)) (id : ℕ) (name : List ℕ) (o : Option GroupFields)
    → IfOk (text_of books id name o) IsWhole
text_whole books id name None = tt
text_whole books id name (Some g) = any_ok IsWhole (file_of id (file_named name))
    (λ f. Ok (shown books id g f)) (λ f. shown_whole books id g f)

read_whole : (h : HierarchyState) (path name : List ℕ) → IfOk (read_of h path name) IsWhole
read_whole h path name = any_ok IsWhole (found_at h.tree path)
    (λ id. text_of h.books id name (group_at h.tree.groups id))
    (λ id. text_whole h.books id name (group_at h.tree.groups id))

read_good : (s : State) (path name : List ℕ) → IsTree s.hierarchy.tree
    → IsGood (read_outcome s path name)
unfolding read_outcome
read_good s path name ok = by (read_of s.hierarchy path name) (read_whole s.hierarchy path name)
  where
    by : (r : Result (List ℕ) Fault) → IfOk r IsWhole
        → IsGood (call_outcome s (λ text. text) (λ text. s) r)
    by (Ok text) whole = (whole, ok)
    by (Err f) whole = refused_good s (Call f) ok

command_good : (s : State) (c : Command) → IsTree s.hierarchy.tree → IsGood (outcome_of_command s c)
command_good s command.Nothing ok = tt
command_good s (command.Mkdir path) ok = mkdir_good s path ok
command_good s (command.Rmdir path) ok = rmdir_good s path ok
command_good s (command.Demand path number) ok = demand_good s path _ ok
command_good s (command.Read path file) ok = read_good s path file ok
command_good s (command.Write path file text) ok = write_good s path file text ok
command_good s command.Total ok = tt
command_good s command.Plan ok = tt
command_good s command.Cert ok = tt
command_good s command.Period ok = tt
command_good s command.Report ok = tt

line_good : (s : State) (line : List ℕ) → IsTree s.hierarchy.tree → IsGood (outcome_of s line)
unfolding outcome_of_kept
line_good s line ok = by (request_of_kept (kept_of line))
  where
    by : (r : Result Command ScriptFault) → IsGood (outcome_of_request s r)
    by (Ok c) = command_good s c ok
    by (Err f) = refused_good s f ok

-- ---- answers

given_whole : (s next : State) (text : List ℕ) (o : Outcome) → IsGood o → Gives s o text next
    → IsWhole text
given_whole s next text Silent good is = subst IsWhole (sym is.0) none_whole
given_whole s next text (Says answer after) good is = subst IsWhole (sym is.0) good.0
given_whole s next text (Prints answer after) good is = subst IsWhole (sym is.0) good.0
given_whole s next text Total good is =
    let t = is.0 in
    let groups : Groups = instance_of s.hierarchy.tree s.hierarchy.shape in
    let limiting : List ℕ = limiting_groups groups t.most in
    subst IsWhole (sym t.is)
    (both_whole _ _ (both_whole _ _ (number_whole (codes "total ") (limited_total groups t.most))
    (group_lines_whole (limit_line groups)
    (λ g path. line_whole
    (codes "limit " ++ decimal (unwrap_or (limit_of groups g) 0) ++ codes " " ++ path))
    limiting t.paths))
    (number_whole (codes "demand ") (demand_outside groups.rows limiting)))
given_whole s next text Plan good is =
    let p = is.0 in
    subst IsWhole (sym p.is)
    (group_lines_whole (amount_line p.amounts)
    (λ g path. line_whole (decimal (slice_index p.amounts g) ++ codes " " ++ path))
    (range_with_len 0 (length (instance_of s.hierarchy.tree s.hierarchy.shape).rows)) p.paths)
given_whole s next text Cert good is =
    let c = is.0 in
    let v : Value =
    value_with (instance_of s.hierarchy.tree s.hierarchy.shape) c.amounts c.certificate in
    subst IsWhole (sym c.is)
    (both_whole _ _
    (line_whole (join_with_byte 32 (head_words v.shape (length v.groups.rows))))
    (word_lines_whole
    (groups_words v.groups.rows v.groups.amounts v.groups.flags v.groups.levels)))
given_whole s next text Period good is =
    let p = is.0 in
    subst IsWhole (sym p.is) (number_whole (codes "served ") (slice_index p.drawn 0))
given_whole s next text Report good is =
    let r = is.0 in
    let ids : List ℕ = keys_of s.hierarchy.tree.groups in
    subst IsWhole (sym r.is)
    (both_whole _ _
    (behind_whole (right_aligned 20 (codes "usage_usec") ++ codes " "
    ++ right_aligned 10 (codes "periods") ++ codes " " ++ right_aligned 10 (codes "throttled")
    ++ codes " " ++ right_aligned 20 (codes "throttled_usec")) (codes " group"))
    (group_lines_whole (counter_line s.hierarchy.books ids)
    (λ g path. line_whole
    (counter_columns (or_zeros (stat_at s.hierarchy.books (slice_index ids g))) ++ path))
    (range_with_len 0 (length ids)) r.paths))

failed_whole : (text : List ℕ) (o : Outcome) → IsAllowedFailure o text → IsWhole text
failed_whole text Silent failed = absurd failed
failed_whole text (Says answer after) failed = absurd failed
failed_whole text (Prints answer after) failed = subst IsWhole (sym failed) (error_whole OutOfMemory)
failed_whole text Total failed = subst IsWhole (sym failed) (error_whole OutOfMemory)
failed_whole text Plan failed = subst IsWhole (sym failed) (error_whole OutOfMemory)
failed_whole text Cert failed = subst IsWhole (sym failed) (error_whole OutOfMemory)
failed_whole text Period (inl failed) = subst IsWhole (sym failed) (error_whole OutOfMemory)
failed_whole text Period (inr failed) = subst IsWhole (sym failed) (error_whole NotStarted)
failed_whole text Report failed = subst IsWhole (sym failed) (error_whole OutOfMemory)

answer_whole : (s next : State) (text : List ℕ) (o : Outcome) → IsGood o → IsOutcome s o text next
    → IsWhole text
answer_whole s next text o good (inl is) = given_whole s next text o good is
answer_whole s next text o good (inr failed) = failed_whole text o failed.0

memory_out : (text : List ℕ) → IsWithoutFailure text → text ≡ error_line OutOfMemory → ⊥
memory_out text without is = memory_fails (subst IsWithoutFailure is without)

none_fails : (text : List ℕ) (o : Outcome) → IsWithoutFailure text → IsAllowedFailure o text → ⊥
none_fails text Silent without failed = failed
none_fails text (Says answer after) without failed = failed
none_fails text (Prints answer after) without failed = memory_out text without failed
none_fails text Total without failed = memory_out text without failed
none_fails text Plan without failed = memory_out text without failed
none_fails text Cert without failed = memory_out text without failed
none_fails text Period without (inl failed) = memory_out text without failed
none_fails text Period without (inr failed) = start_fails (subst IsWithoutFailure failed without)
none_fails text Report without failed = memory_out text without failed

-- an answer that is no failure is the meaning of its line
meant : (s next : State) (text : List ℕ) (o : Outcome) → IsWithoutFailure text
    → IsOutcome s o text next → Gives s o text next
meant s next text o without (inl is) = is
meant s next text o without (inr failed) = absurd (none_fails text o without failed.0)

stays : (s next : State) → IsTree s.hierarchy.tree → next ≡ s → IsTree next.hierarchy.tree
stays s next ok same = subst (λ (x : State). IsTree x.hierarchy.tree) (sym same) ok

-- what an outcome gives leaves a tree
given_tree : (s next : State) (text : List ℕ) (o : Outcome) → IsTree s.hierarchy.tree → IsGood o
    → Gives s o text next → IsTree next.hierarchy.tree
given_tree s next text Silent ok good is = stays s next ok is.1
given_tree s next text (Says answer after) ok good is = stays after next good.1 is.1
given_tree s next text (Prints answer after) ok good is = stays after next good.1 is.1
given_tree s next text Total ok good is = stays s next ok is.1
given_tree s next text Plan ok good is = stays s next ok is.1
given_tree s next text Cert ok good is = stays s next ok is.1
given_tree s next text Period ok good is = let p = is.0 in subst HasTree (sym p.state)
    (carried_IsTree s.hierarchy.tree
    (left_over (instance_of s.hierarchy.tree s.hierarchy.shape).rows p.drawn) ok)
given_tree s next text Report ok good is = stays s next ok is.1

states_same : (s t : State) → s.hierarchy ≡ t.hierarchy → s.uses ≡ t.uses → s ≡ t
states_same s t trees uses =
    ap (λ h. record { hierarchy = h; uses = s.uses }) trees
    ∙ ap (λ u. record { hierarchy = t.hierarchy; uses = u }) uses

-- an outcome gives one text and one state
given_same : (s : State) (o : Outcome) (one two : List ℕ) (t u : State) → IsTree s.hierarchy.tree
    → Gives s o one t → Gives s o two u → (one ≡ two) × (t ≡ u)
given_same s Silent one two t u ok a b = (a.0 ∙ sym b.0, a.1 ∙ sym b.1)
given_same s (Says answer after) one two t u ok a b = (a.0 ∙ sym b.0, a.1 ∙ sym b.1)
given_same s (Prints answer after) one two t u ok a b = (a.0 ∙ sym b.0, a.1 ∙ sym b.1)
given_same s Total one two t u ok a b =
    (total_same s.hierarchy one two ok a.0 b.0, a.1 ∙ sym b.1)
given_same s Plan one two t u ok a b = (plan_same s.hierarchy one two ok a.0 b.0, a.1 ∙ sym b.1)
given_same s Cert one two t u ok a b = (cert_same s.hierarchy one two ok a.0 b.0, a.1 ∙ sym b.1)
given_same s Period one two t u ok a b =
    let same = period_same s.hierarchy s.uses one two t.hierarchy u.hierarchy ok a.0 b.0 in
    (same.0, states_same t u same.1 (a.1 ∙ sym b.1))
given_same s Report one two t u ok a b =
    (report_same s.hierarchy one two ok a.0 b.0, a.1 ∙ sym b.1)

-- ---- all lines

-- the first answer of a transcript without failures: its text, its state, and the rest
pub record FirstOf (s : State) (line : List ℕ) (lines : List (List ℕ)) (text : List ℕ) (t : State)
    : Type 0 where
  pub answer : List ℕ
  pub rest : List ℕ
  pub mid : State
  pub given : Gives s (outcome_of s line) answer mid
  pub tree : IsTree mid.hierarchy.tree
  pub answers : Answers mid lines rest t
  pub without : IsWithoutFailure rest
  pub is : text ≡ answer ++ rest

first_of : (s : State) (line : List ℕ) (lines : List (List ℕ)) (text : List ℕ) (t : State)
    → IsTree s.hierarchy.tree → Answers s (line ∷ lines) text t → IsWithoutFailure text
    → FirstOf s line lines text t
unfolding Answers
first_of s line lines text t ok a without =
    let good = line_good s line ok in
    let whole = answer_whole s a.2 a.0 (outcome_of s line) good a.3 in
    let parts = without_parts a.0 a.1 whole (subst IsWithoutFailure a.5 without) in
    let given = meant s a.2 a.0 (outcome_of s line) parts.0 a.3 in
    record {
      answer = a.0;
      rest = a.1;
      mid = a.2;
      given = given;
      tree = given_tree s a.2 a.0 (outcome_of s line) ok good given;
      answers = a.4;
      without = parts.1;
      is = a.5;
    }

none_left : (s : State) (text : List ℕ) (t : State) → Answers s [] text t → (text ≡ []) × (t ≡ s)
unfolding Answers
none_left s text t a = a

all_same : (lines : List (List ℕ)) (s : State) (one two : List ℕ) (t u : State)
    → IsTree s.hierarchy.tree → Answers s lines one t → Answers s lines two u
    → IsWithoutFailure one → IsWithoutFailure two → (one ≡ two) × (t ≡ u)
all_same [] s one two t u ok a b clean_one clean_two =
    let x = none_left s one t a in let y = none_left s two u b in
    (x.0 ∙ sym y.0, x.1 ∙ sym y.1)
all_same (line ∷ lines) s one two t u ok a b clean_one clean_two =
    let x = first_of s line lines one t ok a clean_one in
    let y = first_of s line lines two u ok b clean_two in
    let here = given_same s (outcome_of s line) x.answer y.answer x.mid y.mid ok x.given y.given in
    let rest = all_same lines x.mid x.rest y.rest t u x.tree x.answers
    (subst (λ m. Answers m lines y.rest u) (sym here.1) y.answers) x.without y.without in (
      x.is ∙ ap (λ text. text ++ x.rest) here.0 ∙ ap (λ text. y.answer ++ text) rest.0 ∙ sym y.is,
      rest.1,
    )

pub one_transcript : ThereIsOneTranscript
one_transcript shape uses lines one two s t a b =
    all_same lines (start shape uses) one two s t alone_IsTree a b

-- ---- reading

-- where an outcome leads is the state that it gives
leads_same : (s : State) (o : Outcome) (text : List ℕ) (next t : State) → IsTree s.hierarchy.tree
    → LeadsTo s o next → Gives s o text t → t ≡ next
leads_same s Silent text next t ok leads is = is.1 ∙ sym leads
leads_same s (Says answer after) text next t ok leads is = is.1 ∙ sym leads.1
leads_same s (Prints answer after) text next t ok leads is = is.1 ∙ sym leads
leads_same s Total text next t ok leads is = is.1 ∙ sym leads
leads_same s Plan text next t ok leads is = is.1 ∙ sym leads
leads_same s Cert text next t ok leads is = is.1 ∙ sym leads
leads_same s Period text next t ok leads is =
    let same = period_same s.hierarchy s.uses text leads.0.0 t.hierarchy next.hierarchy ok is.0
    leads.0.1 in
    states_same t next same.1 (is.1 ∙ sym leads.1)
leads_same s Report text next t ok leads is = is.1 ∙ sym leads

taken_same : (s : State) (number : ℕ) (line text : List ℕ) (refusals : List RefusedLine)
    (next t : State) → IsTree s.hierarchy.tree → TakesLine s number line refusals next
    → Gives s (outcome_of s line) text t → t ≡ next
taken_same s number line text refusals next t ok (inl leads) is =
    leads_same s (outcome_of s line) text next t ok leads.1 is
taken_same s number line text refusals next t ok (inr out) is =
    let given : Gives s (refused s out.0) text t = subst (λ o. Gives s o text t) out.2 is in
    given.1 ∙ sym out.3

read_same : (lines : List (List ℕ)) (s : State) (number : ℕ) (refusals : List RefusedLine)
    (last : State) (printed : List ℕ) (t : State) → IsTree s.hierarchy.tree
    → TakesLines s number lines refusals last → Answers s lines printed t
    → IsWithoutFailure printed → t ≡ last
unfolding TakesLines
read_same [] s number refusals last printed t ok takes a clean =
    (none_left s printed t a).1 ∙ sym takes.1
read_same (line ∷ lines) s number refusals last printed t ok takes a clean =
    let x = first_of s line lines printed t ok a clean in
    let here = taken_same s number line x.answer takes.0 takes.2 x.mid ok takes.3 x.given in
    read_same lines x.mid (number + 1) takes.1 last x.rest t x.tree
    (subst (λ m. TakesLines m (number + 1) lines takes.1 last) (sym here) takes.4) x.answers
    x.without

pub reading_follows : ReadingFollowsTheTranscript
reading_follows shape script printed refusals last s read a clean =
    read_same (lines_of script) (start shape (λ leaf. true)) 1 refusals _ printed s alone_IsTree
    read a clean
