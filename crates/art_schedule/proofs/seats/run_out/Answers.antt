use Rattle.art_schedule.proofs.SeatLaws.{IsPassOf-finish}
use Rattle.art_schedule.proofs.StepLaws.{MakesFewer-all}
use Rattle.art_schedule.proofs.seats.run_out.Goals as goal

pub finish-pass-requires : goal.finish-pass-requires
finish-pass-requires c =
    let (p, going) = c.requires in
    let on = c.make_steps.ensures.goes_on p going in
    (on.command, on.turns, on.began, on.runs)

pub returns-clause-pass : goal.returns-clause-pass
returns-clause-pass c p going =
    IsPassOf-finish c.args.table.now p c.finish-pass.result.0 c.make_steps.new.running c.make_steps.new.room.items
    c.finish-pass.new.rows.items c.finish-pass.result.1
    (c.make_steps.ensures.goes_on p going) c.finish-pass.ensures.pass c.finish-pass.ensures.ends

pub returns-clause-ends : goal.returns-clause-ends
returns-clause-ends c =
    let (p, going) = c.requires in
    let on = c.make_steps.ensures.goes_on p going in
    record {
      command = on.command;
      turns = on.turns;
      began = on.began;
      pass = c.finish-pass.result.0;
      ends = c.finish-pass.ensures.ends on.command on.turns on.began on.runs;
    }

pub returns-clause-finishes : goal.returns-clause-finishes
returns-clause-finishes c =
    let (p, going) = c.requires in
    let fewer = MakesFewer-all _ p c.args.running c.make_steps.new.running c.args.room.now.items c.make_steps.new.room.items c.make_steps.result going
    c.make_steps.ensures.keeps c.make_steps.ensures.made in
    record {
      made = fewer.made;
      last = c.make_steps.new.running;
      between = c.make_steps.new.room.items;
      steps = fewer.steps;
      keeps = c.make_steps.ensures.keeps;
      none = fewer.none;
      restarted = c.restarts-restarts.ensures;
      of = c.finish-pass.ensures.pass;
      ends = λ command turns q runs. c.finish-pass.ensures.ends command turns q (c.make_steps.ensures.keeps.keeps command turns q runs);
    }
