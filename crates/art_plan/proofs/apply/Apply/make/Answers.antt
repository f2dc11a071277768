-- The step that is made is the one that is asked for.
use Rattle.std.proofs.Common.{◌≡◌, ◌∙◌, Some, sym}
use Rattle.art_plan.proofs.Told.{allowed}
use Rattle.art_step.specs.declared.actions.Action.TheVariants.{Upgrade, Claim, Commit, Release}
use Rattle.art_plan.specs.Apply.{asks}
use Rattle.art_plan.proofs.apply.Apply.make.Goals as goal

pub perform-answer-requires-clause-allowed : goal.perform-answer-requires-clause-allowed
perform-answer-requires-clause-allowed g c =
    let is : asks c.args.change.now c.args.self.now ≡ Some (Upgrade c.in_ok-stamp-in-Upgrading.field-0.stamp) = rw (c.in-Upgrading.is, ← c.target.ensures, c.in_ok-stamp-in-Upgrading.was) in
    allowed _ _ _ _ _ _ c.requires.fits.1 is

pub perform-answer-requires-in-Claiming-clause-allowed : goal.perform-answer-requires-in-Claiming-clause-allowed
perform-answer-requires-in-Claiming-clause-allowed g c =
    let is : asks c.args.change.now c.args.self.now ≡ Some (Claim c.in_ok-node-in-Claiming.node) = rw (c.in-Claiming.is, ← c.made_at.ensures, c.in_ok-node-in-Claiming.was) in
    allowed _ _ _ _ _ _ c.requires.fits.1 is

pub perform-answer-requires-in-Releasing-clause-allowed : goal.perform-answer-requires-in-Releasing-clause-allowed
perform-answer-requires-in-Releasing-clause-allowed g c =
    let x = c.in_ok-target-in-Releasing.target in
    let is : asks c.args.change.now c.args.self.now ≡ Some (Release x.stamp.cell x.obsolete) = rw (c.in-Releasing.is, ← c.target-in-Releasing.ensures, c.in_ok-target-in-Releasing.was) in
    allowed _ _ _ _ _ _ c.requires.fits.1 is

pub perform-answer-requires-in_default : goal.perform-answer-requires-in_default
perform-answer-requires-in_default g c = record {
  allowed = allowed _ _ _ _ _ _ c.requires.fits.1 (sym c.asked.ensures ∙ c.in_ok-asked-in_default.was);
  admitted = c.requires.admitted;
}

pub returns-in_ok-stamp-in-Upgrading-clause-made : goal.returns-in_ok-stamp-in-Upgrading-clause-made
returns-in_ok-stamp-in-Upgrading-clause-made g c =
    let is : asks c.args.change.now c.args.self.now ≡ Some (Upgrade c.in_ok-stamp-in-Upgrading.field-0.stamp) = rw (c.in-Upgrading.is, ← c.target.ensures, c.in_ok-stamp-in-Upgrading.was) in
    (_, is, c.perform-answer.ensures.row)

pub returns-in_ok-node-in-Claiming-clause-made : goal.returns-in_ok-node-in-Claiming-clause-made
returns-in_ok-node-in-Claiming-clause-made g c =
    let is : asks c.args.change.now c.args.self.now ≡ Some (Claim c.in_ok-node-in-Claiming.node) = rw (c.in-Claiming.is, ← c.made_at.ensures, c.in_ok-node-in-Claiming.was) in
    (_, is, c.perform-answer-in-Claiming.ensures.row)

pub returns-in_ok-top-in-Committing-clause-made : goal.returns-in_ok-top-in-Committing-clause-made
returns-in_ok-top-in-Committing-clause-made g c =
    let x = c.in_ok-top-in-Committing.top in
    let is : asks c.args.change.now c.args.self.now ≡ Some (Commit x.stamp.cell x.obsolete) = rw (c.in-Committing.is, ← c.target-in-Committing.ensures, c.in_ok-top-in-Committing.was) in
    (_, is, c.perform-answer-in-Committing.ensures.row)

pub returns-in_ok-target-in-Releasing-clause-made : goal.returns-in_ok-target-in-Releasing-clause-made
returns-in_ok-target-in-Releasing-clause-made g c =
    let x = c.in_ok-target-in-Releasing.target in
    let is : asks c.args.change.now c.args.self.now ≡ Some (Release x.stamp.cell x.obsolete) = rw (c.in-Releasing.is, ← c.target-in-Releasing.ensures, c.in_ok-target-in-Releasing.was) in
    (_, is, c.perform-answer-in-Releasing.ensures.row)
