use Rattle.std.proofs.Common.{rules}
use Rattle.art_plan.proofs.apply.Apply.asked.Goals as goal

pub returns-in_ok-top-in-Committing : goal.returns-in_ok-top-in-Committing
returns-in_ok-top-in-Committing c = rw (c.in-Committing.is, ← c.target-in-Committing.ensures, c.in_ok-top-in-Committing.was)

pub returns-in_ok-target-in-Releasing : goal.returns-in_ok-target-in-Releasing
returns-in_ok-target-in-Releasing c = rw (c.in-Releasing.is, ← c.target-in-Releasing.ensures, c.in_ok-target-in-Releasing.was)

pub returns-in_ok-target-in-Upgrading : goal.returns-in_ok-target-in-Upgrading
returns-in_ok-target-in-Upgrading c = rw (c.in-Upgrading.is, ← c.target.ensures, c.in_ok-target-in-Upgrading.was)

pub returns-in_err-target-in-Upgrading : goal.returns-in_err-target-in-Upgrading
returns-in_err-target-in-Upgrading c = search rules
