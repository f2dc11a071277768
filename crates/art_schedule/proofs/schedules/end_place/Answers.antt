use Rattle.std.proofs.Common.{sym, ◌∙◌, arith}
use Rattle.art_schedule.proofs.DeskLaws.{eight_seats}
use Rattle.art_schedule.proofs.TaskLaws.{Tries-end, Tries-idle, never_bad}
use Rattle.art_schedule.proofs.schedules.end_place.Goals as goal

pub index-requires : goal.index-requires
index-requires g c = let (ps, desk) = c.requires.desk in omega (arith, eight_seats _ ps _ desk, c.args.desk.now.seats.ok.0, c.requires.place)

pub returns-then-is_idle-clause-ends : goal.returns-then-is_idle-clause-ends
returns-then-is_idle-clause-ends g c =
    Tries-idle c.args.table.now c.args.place _ _ _ c.index.result.now c.index.ensures (sym c.is_idle.ensures ∙ c.if-is_idle.true)

pub returns-clause-ends : goal.returns-clause-ends
returns-clause-ends g c =
    let (ps, desk) = c.requires.desk in
    Tries-end c.args.table.now c.args.place _ _ _ _ c.obey.result c.index.result.now c.index.ensures (sym c.is_idle.ensures ∙ c.if-is_idle.false)
    (omega (arith, eight_seats _ ps _ desk, c.requires.place)) c.obey.ensures.obeys

pub returns-clause-fit : goal.returns-clause-fit
returns-clause-fit g c = never_bad c.args.table.now c.args.place _ _ _ _ c.obey.result (returns-clause-ends g c)
