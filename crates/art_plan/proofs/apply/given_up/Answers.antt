-- All that were locked are released again.
use Rattle.std.proofs.Common.{subst, arith, ℕ, ◌≡◌}
use Rattle.art_plan.specs.Apply.{GivesUp}
use Rattle.art_plan.proofs.Committing.{given_up_all}
use Rattle.art_plan.proofs.apply.given_up.Goals as goal

pub returns-else-count-locked-clause-fits : goal.returns-else-count-locked-clause-fits
returns-else-count-locked-clause-fits c ch u v few gives =
    let few-too = c.requires.few in
    let not = c.if-count-locked.false in
    let same : c.args.count ≡ c.args.locked = omega arith in
    given_up_all u ch c.args.locked c.args.fault v (subst (λ (i : ℕ). GivesUp u ch i c.args.locked c.args.fault v) same gives)
