use Rattle.std.proofs.Common.{rules, subst}
use Rattle.art_runs_uses.proofs.Ready.{writes_on}
use Rattle.art_runs_uses.proofs.clients.finds.Goals as goal
use Rattle.art_runs_uses.specs.Writes.{WritesFirst}
use Rattle.art_world.specs.Contents.{Contents}

pub returns : goal.returns
returns c =
    let at = c.at-stepper.ensures in
    subst (λ (w : Contents). WritesFirst w c.get.new.self) (search rules)
    (writes_on c.args.client.now.world c.at-stepper.result c.get.new.steps c.get.new.self c.requires.some at.world at.pass c.get.ensures.only c.get.ensures.called.1.caller)
