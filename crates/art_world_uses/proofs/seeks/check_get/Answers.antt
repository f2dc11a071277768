use Rattle.std.proofs.Common.{sym, subst}
use Rattle.art_change.specs.Calls.{Get, IsCaller}
use Rattle.art_step.specs.declared.views.Sizes.{Sizes}
use Rattle.art_world.specs.Stepper.{only_sizes, sizes_of, view_of}
use Rattle.art_world_uses.proofs.seeks.check_get.Goals as goal

pub run-outcome-requires : goal.run-outcome-requires
run-outcome-requires g c =
    let a = c.args.pass.now in
    (Get c.key_of-key.result, c.args.turns, c.args.turns, view_of a, c.begin_get.ensures.calling (sizes_of a) (view_of a) c.requires, tt)

pub returns-clause-may : goal.returns-clause-may
returns-clause-may g c =
    let a = c.args.pass.now in
    let b = c.run-outcome.new.steps in
    let e = c.run-outcome.ensures in
    let called = e.called (Get c.key_of-key.result) c.args.turns c.args.turns (view_of a) (c.begin_get.ensures.calling (sizes_of a) (view_of a) c.requires) in
    subst (λ (z : Sizes). IsCaller z (view_of b) c.run-outcome.new.self) (sym (only_sizes a b e.only)) called.caller
