-- The goals of `Marked::behind` that are answered by hand.
use Rattle.std.proofs.Common.{rules, ◌≡◌, length, take, arith, subst}
use Rattle.std.specs.Str.{IsUtf8}
use Rattle.bw_commands.proofs.PlainLines.{cut_behind_space}
use Rattle.bw_commands.proofs.marked.Marked.behind.Goals as goal

pub split_at-requires : goal.split_at-requires
split_at-requires c =
    let text = c.args.self.text.now in
    let front = c.args.front.now in
    let begins : take (length front) text ≡ front = search rules in
    let utf8 : IsUtf8 text = subst IsUtf8 c.as_bytes.ensures.value c.as_bytes.ensures.utf8 in
    cut_behind_space text front utf8 begins (omega arith) (omega arith) c.requires.space
