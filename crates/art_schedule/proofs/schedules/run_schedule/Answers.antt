use Rattle.std.proofs.Common.{List, arith, subst, sym}
use Rattle.art_schedule.specs.Schedules.{RunsSchedule}
use Rattle.art_schedule.specs.declared.stops.ScheduleEnd.TheVariants.{NoMemory}
use Rattle.art_server.specs.Counted.{reader_of}
use Rattle.art_server.specs.ArtTable.declared.passes.Pass.{Pass}
use Rattle.art_schedule.proofs.DeskLaws.{eight_rooms}
use Rattle.art_schedule.proofs.WayLaws.{RunsSchedule-from, RunsSchedule-none}
use Rattle.art_schedule.proofs.schedules.run_schedule.Goals as goal

pub returns-in-Ok-clause-passes : goal.returns-in-Ok-clause-passes
returns-in-Ok-clause-passes g c =
    c.close.ensures.come c.args.passes (c.run_reads-end.ensures.keeps c.args.passes (c.in-Ok.ensures.desk c.args.table.now c.requires))

pub returns-in-Ok-clause-schedule : goal.returns-in-Ok-clause-schedule
returns-in-Ok-clause-schedule g c =
    let t = c.args.table.now in
    let desk = c.in-Ok.ensures.desk t c.requires in
    let eight = desk.eight in
    RunsSchedule-from _ _ _ _ _ c.args.passes c.close.result _ _ _ c.in-Ok.ensures.idle (omega (arith, eight_rooms t c.args.passes _ desk))
    c.run_reads-end.ensures.schedule c.close.ensures.settles

pub returns-in-Err-clause-schedule : goal.returns-in-Err-clause-schedule
returns-in-Err-clause-schedule g c =
    let left = g.R.Read.remaining (reader_of c.args.reader.now) in
    let held = g.W.Write.contents c.args.writer.now in
    subst (λ (back : List Pass). RunsSchedule left left held held c.args.table.now c.args.passes back NoMemory) (sym c.in-Err.ensures.back)
    (RunsSchedule-none c.args.table.now left held c.args.passes)
