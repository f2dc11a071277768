use Rattle.std.proofs.Common.{arith, refl, ◌-◌, ◌≤◌}
use Rattle.std.proofs.lemmas.Bool.{le-ltb}
use Rattle.art_epoch.proofs.stocks.around.Goals as goal

pub returns-else-passed-ahead : goal.returns-else-passed-ahead
returns-else-passed-ahead c =
    let past : c.args.words - c.args.first ≤ c.args.passed = omega (arith, c.saturating_sub-ahead.ensures, c.if-passed-ahead.false) in
    rw c.saturating_sub-ahead.ensures (rw (le-ltb c.args.passed (c.args.words - c.args.first) past) refl)
