-- The command that a value of the program's enums stands for.
use Rattle.std.specs.Prelude.{ℕ, List, Result, Ok, Err}
use Rattle.bw_commands.specs.Command as spec
use Rattle.bw_commands.specs.declared.command.Change.{Change}
use Rattle.bw_commands.specs.declared.command.Change.TheVariants.{Mkdir, Rmdir, Demand, Write}
use Rattle.bw_commands.specs.declared.command.Question.{Question}
use Rattle.bw_commands.specs.declared.command.Question.TheVariants.{Read, Total, Plan, Cert, Period}
use Rattle.bw_commands.specs.declared.command.Question.TheVariants.{Report}
use Rattle.bw_commands.specs.declared.command.Command.{Command}
use Rattle.bw_commands.specs.declared.command.Command.TheVariants as line
use Rattle.bw_commands.specs.declared.fault.ScriptFault.{ScriptFault}
use Rattle.bw_commands.specs.declared.marked.Marked.{Marked}

-- the command of a change
abbrev pub change_of : Change → spec.Command
change_of (Mkdir path) = spec.Mkdir path.now
change_of (Rmdir path) = spec.Rmdir path.now
change_of (Demand path number) = spec.Demand path.now number.now
change_of (Write path file text) = spec.Write path.now file.now text.now

-- the command of a question
abbrev pub question_of : Question → spec.Command
question_of (Read path file) = spec.Read path.now file.now
question_of Total = spec.Total
question_of Plan = spec.Plan
question_of Cert = spec.Cert
question_of Period = spec.Period
question_of Report = spec.Report

-- the command that the value tells of
abbrev pub meaning_of : Command → spec.Command
meaning_of line.Nothing = spec.Nothing
meaning_of (line.Change change) = change_of change
meaning_of (line.Question question) = question_of question

-- the command that a line asks for, or its refusal
abbrev pub request_of : Result Command ScriptFault → Result spec.Command ScriptFault
request_of (Ok command) = Ok (meaning_of command)
request_of (Err fault) = Err fault

-- the text of a line whose blanks are marked
abbrev pub marked_text : Marked → List ℕ
marked_text line = line.text.now
