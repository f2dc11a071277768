use Rattle.std.proofs.Common.{arith}
use Rattle.std.proofs.lemmas.Option.{slice_get_within}
use Rattle.art_runs.proofs.Alone.{goes_alone}
use Rattle.art_runs.proofs.Histories.{one_history, typed_history}
use Rattle.art_runs.proofs.CarriedOn.{carried_on}
use Rattle.art_runs.proofs.runs.run.Goals as goal

pub returns-clause-history : goal.returns-clause-history
returns-clause-history c = one_history c.args.turns.now c.args.world.now c.args.ops.now c.run.new.self c.run.new.actors c.run.ensures.run c.run.ensures.passes c.stays_sound-2.ensures.sound

pub returns-clause-typed : goal.returns-clause-typed
returns-clause-typed c schema typed =
    typed_history schema c.args.turns.now c.args.world.now c.args.ops.now c.run.new.self c.run.new.actors c.run.ensures.run typed c.run.ensures.passes c.stays_sound-2.ensures.sound
    c.histories_are_typed.ensures

pub returns-clause-each : goal.returns-clause-each
returns-clause-each c p op w given most u is calling =
    carried_on p c.args.turns.now c.args.world.now c.args.ops.now c.run.new.self c.run.new.actors c.run.ensures.run op w given most u is calling

pub returns-clause-alone : goal.returns-clause-alone
returns-clause-alone c p op w given most is calling turns alone =
    let k = c.args.world.now in
    let laws = c.calls_alone_do_not_fail.ensures in
    let world = c.stays_sound.ensures in
    let low = slice_get_within c.args.ops.now p op is in
    let few = c.requires.passes in
    goes_alone laws.begins laws.steps laws.restarts laws.ends p op w given most c.args.turns.now k c.args.ops.now c.run.new.self c.run.new.actors c.run.ensures.run world.sound world.lasting world.passes (omega (arith, low, few))
    is calling turns alone
