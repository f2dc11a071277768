use Rattle.std.proofs.Common.{◌∙◌, sym, arith}
use Rattle.art_look.proofs.SeekGoes.{goes_none, goes_then, still_on}
use Rattle.art_look.proofs.driver.finish.Goals as goal

pub loop-seek-init : goal.loop-seek-init
loop-seek-init g c = record {
  only = g.met.S.Steps.only_same c.args.steps.now;
  goes = goes_none (g.S.Steps.sizes c.args.steps.now) c.args.key.now c.args.hi.now c.args.seek.now c.args.path_buffer.now (g.S.Steps.view c.args.steps.now);
}

pub hurry-requires-clause-fits : goal.hurry-requires-clause-fits
hurry-requires-clause-fits g c =
    let s = c.args.steps.now in
    let l = c.loop-seek in
    let hi = c.args.hi.now in (
      hi,
      still_on (g.S.Steps.sizes s) (g.S.Steps.sizes l.steps) (g.met.S.Steps.only_sizes s l.steps l.invariant.only) c.args.key.now hi c.args.seek.now c.args.path_buffer.now (g.S.Steps.view s) l.seek l.path_buffer (g.S.Steps.view l.steps)
          l.invariant.goes c.requires.fits,
    )

pub returns-then-not-hurry : goal.returns-then-not-hurry
returns-then-not-hurry g c =
    let s = c.args.steps.now in
    let l = c.loop-seek in
    let h = c.hurry.new in
    let hi = c.args.hi.now in
    let k = c.args.key.now in
    let goes = goes_then (g.S.Steps.sizes s) (g.S.Steps.sizes l.steps) (g.met.S.Steps.only_sizes s l.steps l.invariant.only) k hi c.args.seek.now c.args.path_buffer.now (g.S.Steps.view s) l.seek l.path_buffer (g.S.Steps.view l.steps)
    l.invariant.goes h.self h.path_buffer (g.S.Steps.view h.steps) (c.hurry.ensures.goes hi) in
    record {
      only = g.met.S.Steps.only_then s l.steps h.steps l.invariant.only c.hurry.ensures.only;
      aim = goes.aim;
      turns = goes.turns;
      ended = c.hurry.ensures.ended c.if-not-hurry.true;
      refuses = goes.refuses;
      left = goes.left;
      fits = goes.fits;
    }

pub walk_by-requires-clause-admitted : goal.walk_by-requires-clause-admitted
walk_by-requires-clause-admitted g c = λ key.
    let s = c.args.steps.now in
    let l = c.loop-seek in
    let h = c.hurry.new in
    let only = g.met.S.Steps.only_then s l.steps h.steps l.invariant.only c.hurry.ensures.only in
    (g.met.S.Steps.only_admits s h.steps c.args.key.now only).1 (c.requires.admitted (sym l.invariant.goes.aim ∙ (sym (c.hurry.ensures.goes c.args.hi.now).aim ∙ key)))

pub walk_by-requires-clause-fits : goal.walk_by-requires-clause-fits
walk_by-requires-clause-fits g c =
    let s = c.args.steps.now in
    let l = c.loop-seek in
    let h = c.hurry.new in
    let hi = c.args.hi.now in
    let k = c.args.key.now in
    still_on (g.S.Steps.sizes l.steps) (g.S.Steps.sizes h.steps) (g.met.S.Steps.only_sizes l.steps h.steps c.hurry.ensures.only) k hi l.seek l.path_buffer (g.S.Steps.view l.steps) h.self h.path_buffer (g.S.Steps.view h.steps)
    (c.hurry.ensures.goes hi)
    (still_on (g.S.Steps.sizes s) (g.S.Steps.sizes l.steps) (g.met.S.Steps.only_sizes s l.steps l.invariant.only) k hi c.args.seek.now c.args.path_buffer.now (g.S.Steps.view s) l.seek l.path_buffer (g.S.Steps.view l.steps)
    l.invariant.goes c.requires.fits)

pub loop-seek-smaller : goal.loop-seek-smaller
loop-seek-smaller g c =
    let less = c.walk_by.ensures.less in
    let before = (c.hurry.ensures.goes c.args.hi.now).less in
    omega (arith, less, before)

pub loop-seek-preserved : goal.loop-seek-preserved
loop-seek-preserved g c =
    let s = c.args.steps.now in
    let l = c.loop-seek in
    let h = c.hurry.new in
    let w = c.walk_by.new in
    let hi = c.args.hi.now in
    let k = c.args.key.now in
    let v = g.S.Steps.view s in
    let only = g.met.S.Steps.only_then s l.steps h.steps l.invariant.only c.hurry.ensures.only in
    let goes = goes_then (g.S.Steps.sizes s) (g.S.Steps.sizes l.steps) (g.met.S.Steps.only_sizes s l.steps l.invariant.only) k hi c.args.seek.now c.args.path_buffer.now v l.seek l.path_buffer (g.S.Steps.view l.steps)
    l.invariant.goes h.self h.path_buffer (g.S.Steps.view h.steps) (c.hurry.ensures.goes hi) in
    record {
      only = g.met.S.Steps.only_then s h.steps w.steps only c.walk_by.ensures.only;
      goes = goes_then (g.S.Steps.sizes s) (g.S.Steps.sizes h.steps) (g.met.S.Steps.only_sizes s h.steps only) k hi c.args.seek.now c.args.path_buffer.now v h.self h.path_buffer (g.S.Steps.view h.steps)
          goes w.self w.path_buffer (g.S.Steps.view w.steps) c.walk_by.ensures.goes;
    }
