-- A version word more, whatever the lower end and the path buffer are.
use Rattle.std.proofs.Common.{sym, subst, arith}
use Rattle.art_look.specs.Driven.{LookFits}
use Rattle.art_look.proofs.Driven.{stepped}
use Rattle.art_step.specs.declared.views.Sizes.{Sizes}
use Rattle.art_look.proofs.straight.look_on.Goals as goal

pub loop-tally-smaller-in-Start : goal.loop-tally-smaller-in-Start
loop-tally-smaller-in-Start g c =
    let left = (c.begin_or_check.ensures.gone c.args.lo.now c.loop-tally.path_buffer).left in
    omega (arith, left)

pub loop-tally-preserved-in-Start : goal.loop-tally-preserved-in-Start
loop-tally-preserved-in-Start g c =
    let l = c.loop-tally in
    let i = l.invariant in
    let n = c.begin_or_check.new in
    let z = g.S.Steps.sizes c.args.steps.now in
    let v = g.S.Steps.view l.steps in
    let w = g.S.Steps.view n.steps in
    let lo = c.args.lo.now in
    let t = l.path_buffer in
    let gone = c.begin_or_check.ensures.gone lo t in
    let more = c.loop-tally-test.true in
    let left = gone.left in
    let few = gone.few in
    let one = gone.one in
    let same = g.met.S.Steps.only_sizes c.args.steps.now l.steps i.only in
    let still = g.met.S.Steps.only_sizes l.steps n.steps c.begin_or_check.ensures.only in
    record {
      only = g.met.S.Steps.only_then c.args.steps.now l.steps n.steps i.only c.begin_or_check.ensures.only;
      some = omega (arith, left, more);
      less = omega (arith, left, i.less);
      few = omega (arith, few, i.few);
      made = omega (arith, left, one, i.made);
      going = gone.going;
      here = (i.here.0, i.here.1, subst (λ (y : Sizes). LookFits y lo i.here.0 i.here.1 w n.look t n.tally.restarts) (sym still) (gone.fits i.here.0 i.here.1 i.here.2));
      fits = λ hi u first. stepped (g.S.Steps.sizes l.steps) z same lo hi u v w l.look n.look t t l.tally.restarts n.tally.restarts (gone.fits hi u) (i.fits hi u first);
    }
