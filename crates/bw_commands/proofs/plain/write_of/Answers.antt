-- The goals of `write_of` that are answered by hand.
use Rattle.std.proofs.Common.{◌≡◌, ◌∷◌, ◌++◌, ◌∙◌, length, refl, arith, ap}
use Rattle.std.proofs.lemmas.Bool.{false≢true}
use Rattle.bw_commands.specs.Word.{word_len_of}
use Rattle.bw_commands.proofs.PlainLines.{write_from, behind_is, word_len-front}
use Rattle.bw_commands.proofs.plain.write_of.Goals as goal

pub returns-in_err-path-clause-answers : goal.returns-in_err-path-clause-answers
returns-in_err-path-clause-answers c path word text p w is =
    absurd (false≢true (c.in_err-path.ensures.only path (word ++ (32 ∷ text)) (p, (32, refl, is))))

pub returns-in_err-file-clause-answers : goal.returns-in_err-file-clause-answers
returns-in_err-file-clause-answers c path word text p w is =
    let behind = c.in_ok-path.rest.text.now in
    let same : behind ≡ word ++ (32 ∷ text) =
    behind_is c.args.rest.text.now c.in_ok-path.path.now behind path (word ++ (32 ∷ text))
    c.in_ok-path.ensures.found p is in
    let long : word_len_of behind ≡ length word =
    ap word_len_of same ∙ word_len-front word 32 text w refl in
    absurd (let clash : ⊥ = omega (arith, long, w.0, c.in_err-file.ensures) in clash)

pub returns-clause-known : goal.returns-clause-known
returns-clause-known c =
    let found = c.in_ok-file.ensures in
    write_from c.args.rest.text.now c.in_ok-path.path.now c.in_ok-path.rest.text.now
    c.in_ok-file.file.now c.in_ok-file.text.now c.in_ok-path.ensures.found found.0 found.1 found.2
