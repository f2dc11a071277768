use Rattle.std.proofs.Common.{refl}
use Rattle.art_schedule.proofs.StepLaws.{IsGoing-on, KeepsRunning-none, KeepsRunning-step, MakesMany-none, MakesMany-more, MakesFewer-stop}
use Rattle.art_schedule.proofs.steps.make_steps.Goals as goal

pub loop-init : goal.loop-init
loop-init c = record { keeps = KeepsRunning-none _ _ _; made = MakesMany-none _ _ }

pub step-requires : goal.step-requires
step-requires c =
    let (_, going) = c.requires in
    (going.command, going.turns, going.began, c.loop.invariant.keeps.keeps going.command going.turns going.began going.runs)

pub loop-preserved : goal.loop-preserved
loop-preserved c = record {
  keeps = KeepsRunning-step _ _ _ _ _ _ _ c.loop.invariant.keeps c.in-Made.ensures.goes_on;
  made = MakesMany-more _ _ _ _ _ _ c.loop.invariant.made c.in-Made.ensures.made;
}

pub returns-in-Ended-clause-goes_on : goal.returns-in-Ended-clause-goes_on
returns-in-Ended-clause-goes_on c p going =
    let stop = MakesFewer-stop _ _ c.args.count _ _ c.step.new.self c.step.new.rows.items c.loop.invariant.made c.loop-test.true
    c.in-Ended.ensures.made (c.in-Ended.ensures.ended refl) in
    IsGoing-on _ p _ _ _ _ stop.made stop.steps (KeepsRunning-step _ _ _ _ _ _ _ c.loop.invariant.keeps c.in-Ended.ensures.goes_on) going

pub returns-in-Ended-clause-made : goal.returns-in-Ended-clause-made
returns-in-Ended-clause-made c =
    MakesFewer-stop _ _ _ _ _ _ _ c.loop.invariant.made c.loop-test.true c.in-Ended.ensures.made (c.in-Ended.ensures.ended refl)

pub returns-clause-goes_on : goal.returns-clause-goes_on
returns-clause-goes_on c p going =
    let made = c.loop.invariant.made in
    IsGoing-on _ p _ _ _ _ made.made made.steps c.loop.invariant.keeps going

pub returns-in-Ended-clause-keeps : goal.returns-in-Ended-clause-keeps
returns-in-Ended-clause-keeps c = KeepsRunning-step _ _ _ _ _ _ _ c.loop.invariant.keeps c.in-Ended.ensures.goes_on
