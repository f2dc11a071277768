use Rattle.std.proofs.Common.{rules, subst}
use Rattle.art_runs_uses.proofs.Ready.{writes_on}
use Rattle.art_runs_uses.proofs.clients.puts.Goals as goal
use Rattle.art_runs_uses.specs.Writes.{WritesFirst}
use Rattle.art_world.specs.Contents.{Contents}

pub returns : goal.returns
returns c =
    let at = c.at-stepper.ensures in
    subst (λ (w : Contents). WritesFirst w c.insert.new.self) (search rules)
    (writes_on c.args.client.now.world c.at-stepper.result c.insert.new.steps c.insert.new.self c.requires.some at.world at.pass c.insert.ensures.only c.insert.ensures.called.1.caller)
