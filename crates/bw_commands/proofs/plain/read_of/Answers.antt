-- The goals of `read_of` that are answered by hand.
use Rattle.std.proofs.Common.{rules, ◌≡◌, ◌∙◌, ℕ, List, Ok, refl, sym, ap, subst}
use Rattle.std.proofs.lemmas.Bool.{false≢true}
use Rattle.bw_commands.specs.Command as command
use Rattle.bw_commands.specs.Plain.{IsWord}
use Rattle.bw_commands.proofs.PlainLines.{read_from, behind_is}
use Rattle.bw_commands.proofs.plain.read_of.Goals as goal

pub returns-in_err-path-clause-answers : goal.returns-in_err-path-clause-answers
returns-in_err-path-clause-answers c path word p w is =
    absurd (false≢true (c.in_err-path.ensures.only path word (p, (32, refl, is))))

pub returns-then-not-is_word-clause-answers : goal.returns-then-not-is_word-clause-answers
returns-then-not-is_word-clause-answers c path word p w is =
    let rest = c.args.rest.text.now in
    let file = c.in_ok-path.file.text.now in
    let same : file ≡ word =
    behind_is rest c.in_ok-path.path.now file path word c.in_ok-path.ensures.found p is in
    sym c.if-not-is_word.true ∙ c.is_word.ensures.only (subst IsWord (sym same) w)

pub returns-clause-known : goal.returns-clause-known
returns-clause-known c =
    let rest = c.args.rest.text.now in
    let path = c.in_ok-path.path.now in
    let file = c.in_ok-path.file.text.now in
    let is_word : IsWord file = search rules in
    read_from rest path file c.in_ok-path.ensures.found is_word
    ∙ ap (λ (l : List ℕ). Ok (command.Read path l)) (sym c.text.ensures)
