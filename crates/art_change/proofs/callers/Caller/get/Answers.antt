use Rattle.std.proofs.Common.{◌≤◌, ◌∙◌, List, None, length, arith, subst, sym}
use Rattle.art_change.proofs.Sought.{get_called}
use Rattle.art_change.proofs.callers.Caller.get.Goals as goal
use Rattle.art_change.specs.declared.callers.Caller.{Caller}
use Rattle.art_key.specs.declared.bounds.Bound.TheVariants.{End}
use Rattle.art_look.specs.Seeks.{Fits}

pub finish-requires-clause-fits : goal.finish-requires-clause-fits
finish-requires-clause-fits g c =
    let z = g.S.Steps.sizes c.args.steps.now in
    let u = g.S.Steps.view c.args.steps.now in
    let a = c.args.self.now in
    (u, c.new-seek.ensures.fits z c.as_slice.result.now End a.path_buffer u c.requires.caller.ready.frame.may)

pub returns-clause-called : goal.returns-clause-called
returns-clause-called g c =
    let z = g.S.Steps.sizes c.args.steps.now in
    let u = g.S.Steps.view c.args.steps.now in
    let v = g.S.Steps.view c.finish.new.steps in
    let a = c.args.self.now in
    let k = c.args.key.now in
    let m = c.finish.new.seek in
    let e = c.finish.ensures in
    let q = c.requires.caller in
    let n : Caller = record a { path_buffer = c.finish.new.path_buffer } in
    let value = c.as_slice.ensures.value in
    let short = c.as_slice.ensures.fits in
    let fits = e.fits u (c.new-seek.ensures.fits z c.as_slice.result.now End a.path_buffer u q.ready.frame.may) in
    let left = e.left in
    let most = c.new-seek.ensures.left in (
      m.restarts,
      get_called z u n m v c.unwrap.result (sym c.ended.ensures.at ∙ c.unwrap.ensures) k End c.args.turns
          (subst (λ (l : List _). length l ≤ 64) value (omega (arith, short)))
          (record { few = q.few; sizes = q.sizes; ready = q.ready })
          (e.turns ∙ c.new-seek.ensures.turns.0)
          (subst (λ (l : List _). Fits z l End u m n.path_buffer v) value fits)
          c.args.turns None (e.aim ∙ c.new-seek.ensures.aim) (omega (arith, left, most)),
    )
