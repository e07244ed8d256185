-- The goals of `Session::keep` that are answered by hand.
use Rattle.std.proofs.Common.{rules, ◌≡◌, ◌≤◌, ◌-◌, ◌++◌, min, ◌∙◌, ap, take, length}
use Rattle.bw_commands.specs.Script.{kept_of}
use Rattle.bw_shell.specs.Responder.{responder_state}
use Rattle.bw_shell.proofs.Scanning.{kept_of-cut}
use Rattle.bw_shell.proofs.session.Session.keep.Goals as goal

pub returns-clause-scan : goal.returns-clause-scan
returns-clause-scan g c =
    let old = c.args.self.now.line in
    let n = c.min-count.result in
    let items : c.extend_from_slice.new.self.items ≡ old.items ++ take n c.args.bytes.now =
    search rules in
    let fits : length old.items ≤ 65537 = search rules in
    let count : n ≡ min (length c.args.bytes.now) (65537 - length old.items) = search rules in
    ap (λ k. record { state = responder_state g.G.Gate.used c.args.self.now.responder; kept = k })
    (ap kept_of items ∙ kept_of-cut old.items c.args.bytes.now n count fits)
