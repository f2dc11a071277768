use Rattle.std.specs.Option.{option_map}
use Rattle.std.proofs.Common.{◌≡◌, ◌<◌, ◌≤◌, ◌∙◌, ℕ, List, Option, Some, get_or, length, refl, rules, ap, arith, subst, sym}
use Rattle.art_change.proofs.Sought.{look_called}
use Rattle.art_change.proofs.callers.Caller.look.Goals as goal
use Rattle.art_change.specs.Calls.{HasCalled, Look}
use Rattle.art_change.specs.Outcomes.{of_look}
use Rattle.art_change.specs.declared.callers.Call.TheVariants as call
use Rattle.art_change.specs.declared.callers.Caller.{Caller}
use Rattle.art_look.specs.declared.looks.Seen.{Seen}
use Rattle.art_look.proofs.SeekEnds.{seen_reached}
use Rattle.art_look.specs.Looks.{seen_to}
use Rattle.art_look.specs.Seeks.{Fits, reached_by, seen_by}
use Rattle.art_look.specs.declared.walks.Outcome.{Outcome}

pub finish-requires-clause-fits : goal.finish-requires-clause-fits
finish-requires-clause-fits g c =
    let z = g.S.Steps.sizes c.args.steps.now in
    let u = g.S.Steps.view c.args.steps.now in
    let a = c.args.self.now in
    (u, c.new-seek.ensures.fits z c.as_slice-bytes.result.now c.args.hi.now a.path_buffer u c.requires.caller.ready.frame.may)

pub returns-clause-called : goal.returns-clause-called
returns-clause-called g c =
    let z = g.S.Steps.sizes c.args.steps.now in
    let u = g.S.Steps.view c.args.steps.now in
    let v = g.S.Steps.view c.finish.new.steps in
    let a = c.args.self.now in
    let k = c.args.lo.now in
    let hi = c.args.hi.now in
    let m = c.finish.new.seek in
    let t = c.finish.new.path_buffer in
    let e = c.finish.ensures in
    let q = c.requires.caller in
    let n : Caller = record a { path_buffer = t; call = call.Seek m } in
    let value = c.as_slice-bytes.ensures.value in
    let short = c.as_slice-bytes.ensures.fits in
    let small : (i : ℕ) → get_or c.as_slice-bytes.result.now i 0 < 256 = search rules in
    let fits = e.fits u (c.new-seek.ensures.fits z c.as_slice-bytes.result.now hi a.path_buffer u q.ready.frame.may) in
    let left = e.left in
    let most = c.new-seek.ensures.left in
    let o = e.ended.0 in
    let seen : option_map (seen_to k.items hi t) c.reached.result ≡ seen_by (Some o) m.walk k.items hi t = ap (option_map (seen_to k.items hi t)) (c.reached.ensures ∙ ap (λ (p : Option Outcome). reached_by p m.walk) e.ended.1) ∙ seen_reached o m.walk k.items hi t in (
      m.restarts,
      subst (λ (s : Option Seen). HasCalled z (Look k hi) c.args.turns c.args.turns m.restarts u n (of_look s) v) (sym seen)
          (look_called z u n m v o e.ended.1 k hi c.args.turns
          (subst (λ (l : List ℕ). length l ≤ 64) value (omega (arith, short)))
          (record { few = q.few; sizes = q.sizes; ready = q.ready })
          (e.turns ∙ c.new-seek.ensures.turns.0)
          (subst (λ (l : List ℕ). Fits z l hi u m t v) value fits)
          c.args.turns (e.aim ∙ c.new-seek.ensures.aim) refl
          (subst (λ (l : List ℕ). (i : ℕ) → get_or l i 0 < 256) value small) c.requires.before (omega (arith, left, most))),
    )
