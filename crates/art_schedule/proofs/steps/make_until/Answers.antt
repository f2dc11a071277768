use Rattle.std.proofs.Common.{refl, sym, ◌∙◌, arith}
use Rattle.art_schedule.proofs.StepLaws.{IsGoing-on, KeepsRunning-none, KeepsRunning-step, HasMarked-none, HasMarked-hit, HasMarked-miss, ReachesMark-hit, MissesMark-stop, never_marked}
use Rattle.art_schedule.proofs.steps.make_until.Goals as goal
use Rattle.art_schedule.proofs.steps.make_until.Goals.{then-is_on+else-found-times, else-is_on}

pub loop-init : goal.loop-init
loop-init c = record { keeps = KeepsRunning-none _ _ _; made = HasMarked-none _ _ _; few = c.requires.some }

pub step-requires : goal.step-requires
step-requires c =
    let (_, going) = c.requires.going in
    (going.command, going.turns, going.began, c.loop.invariant.keeps.keeps going.command going.turns going.began going.runs)

pub returns-then-found-times-clause-goes_on : goal.returns-then-found-times-clause-goes_on
returns-then-found-times-clause-goes_on c p going =
    let made = HasMarked-hit _ c.args.mark _ _ c.args.running.now c.loop.running c.step.new.self (record { kind = c.in-Made.kind; event = c.in-Made.event }) c.loop.invariant.made c.in-Made.ensures.made (sym c.is_on.ensures ∙ c.if-is_on.true) in
    IsGoing-on _ p _ _ _ _ made.made made.all (KeepsRunning-step _ _ _ _ _ _ _ c.loop.invariant.keeps c.in-Made.ensures.goes_on) going

pub returns-then-found-times-clause-made : goal.returns-then-found-times-clause-made
returns-then-found-times-clause-made c =
    ReachesMark-hit _ _ _ _ _ _ _ _ _ c.loop.invariant.made c.in-Made.ensures.made (sym c.is_on.ensures ∙ c.if-is_on.true)
    c.if-found-times.true

pub returns-in_default-clause-goes_on : goal.returns-in_default-clause-goes_on
returns-in_default-clause-goes_on c p going =
    let on = c.loop.invariant in
    let stop = MissesMark-stop _ _ _ _ c.args.times _ _ c.step.new.self c.step.new.rows.items on.made on.few c.in_default.ensures.made
    (c.in_default.ensures.ended refl) in
    IsGoing-on _ p _ _ _ _ stop.made stop.steps (KeepsRunning-step _ _ _ _ _ _ _ on.keeps c.in_default.ensures.goes_on) going

pub returns-in_default-clause-made : goal.returns-in_default-clause-made
returns-in_default-clause-made c =
    MissesMark-stop _ _ _ _ _ _ _ _ _ c.loop.invariant.made c.loop.invariant.few c.in_default.ensures.made (c.in_default.ensures.ended refl)

pub loop-preserved : goal.loop-preserved
loop-preserved c =
    let on = c.loop.invariant in
    let keeps = KeepsRunning-step _ _ _ _ _ _ _ on.keeps c.in-Made.ensures.goes_on in
    elim c.if-is_on.branch [
      | then-is_on+else-found-times w ↦ record {
        keeps = keeps;
        made = rw w.found-is (HasMarked-hit _ _ _ _ _ _ _ _ on.made c.in-Made.ensures.made (sym c.is_on.ensures ∙ w.if-is_on.true));
        few = omega arith;
      }
      | else-is_on w ↦ record {
        keeps = keeps;
        made = rw w.found-is (HasMarked-miss _ _ _ _ _ _ _ _ on.made c.in-Made.ensures.made (sym c.is_on.ensures ∙ w.if-is_on.false));
        few = omega arith;
      }
    ]

pub unreachable-requires : goal.unreachable-requires
unreachable-requires c =
    let (p, going) = c.requires.going in
    never_marked _ p _ _ _ _ _ _ _ going c.loop.invariant.keeps c.loop.invariant.made c.loop-test.false

pub returns-then-found-times-clause-keeps : goal.returns-then-found-times-clause-keeps
returns-then-found-times-clause-keeps c = KeepsRunning-step _ _ _ _ _ _ _ c.loop.invariant.keeps c.in-Made.ensures.goes_on

pub returns-in_default-clause-keeps : goal.returns-in_default-clause-keeps
returns-in_default-clause-keeps c = KeepsRunning-step _ _ _ _ _ _ _ c.loop.invariant.keeps c.in_default.ensures.goes_on
