use Rattle.art_look.proofs.SeekGoes.{goes_none, goes_then, still_on}
use Rattle.art_look.proofs.seeks.Seek.pin.Goals as goal

pub loop-self-init : goal.loop-self-init
loop-self-init g c = record {
  only = g.met.S.Steps.only_same c.args.steps.now;
  goes = λ k hi t. goes_none (g.S.Steps.sizes c.args.steps.now) k hi c.args.self.now t (g.S.Steps.view c.args.steps.now);
}

pub pin_on-requires-clause-fits : goal.pin_on-requires-clause-fits
pin_on-requires-clause-fits g c =
    let s = c.args.steps.now in
    let l = c.loop-self in
    let q = c.requires.fits in (
      q.0,
      q.1,
      q.2,
      still_on (g.S.Steps.sizes s) (g.S.Steps.sizes l.steps) (g.met.S.Steps.only_sizes s l.steps l.invariant.only) q.0 q.1 c.args.self.now q.2 (g.S.Steps.view s) l.self q.2 (g.S.Steps.view l.steps)
          (l.invariant.goes q.0 q.1 q.2) q.3,
    )

pub loop-self-preserved : goal.loop-self-preserved
loop-self-preserved g c =
    let s = c.args.steps.now in
    let l = c.loop-self in
    let w = c.pin_on.new in
    record {
      only = g.met.S.Steps.only_then s l.steps w.steps l.invariant.only c.pin_on.ensures.only;
      goes = λ k hi t.
          goes_then (g.S.Steps.sizes s) (g.S.Steps.sizes l.steps) (g.met.S.Steps.only_sizes s l.steps l.invariant.only) k hi c.args.self.now t (g.S.Steps.view s) l.self t (g.S.Steps.view l.steps)
          (l.invariant.goes k hi t) w.self t (g.S.Steps.view w.steps) (c.pin_on.ensures.goes k hi t);
    }
