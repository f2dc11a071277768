-- The steps are those of the descent, or of the look.
use Rattle.std.proofs.Common.{◌≡◌, ℕ, ◌≤◌, List, length, Bool, None, Some, if◌then◌else◌, ap, subst, arith}
use Rattle.std.specs.Option.{option_map}
use Rattle.art_find.specs.Descents as descents
use Rattle.art_find.specs.Straight.{GetGoes}
use Rattle.art_find.specs.declared.descents.Descent.{Descent}
use Rattle.art_find.specs.declared.straight.Tally.{Tally}
use Rattle.art_key.specs.declared.bounds.Bound.{Bound as KeyBound}
use Rattle.art_look.specs.Looks as looks
use Rattle.art_look.specs.declared.looks.Look.{Look}
use Rattle.art_look.specs.declared.path_buffers.PathBuffer.{PathBuffer}
use Rattle.art_look.proofs.SeekEnds.{seen_going, value_going}
use Rattle.art_look.specs.Walks.{HasTurns, of_value}
use Rattle.art_look.specs.declared.walks.Outcome.TheVariants.{Seen}
use Rattle.art_look.specs.declared.walks.Walk.{Walk}
use Rattle.art_look.specs.declared.walks.Walk.TheVariants.{Key, Range}
use Rattle.art_step.specs.declared.views.Sizes.{Sizes}
use Rattle.art_step.specs.declared.views.View.{View}
use Rattle.art_look.proofs.walks.Walk.hurry.Goals as goal

module _ (z : Sizes) (k : List ℕ) (hi : KeyBound) (turns : ℕ) (u : View) (m : Walk) (t : PathBuffer) (c : Tally) (v : View) (has : HasTurns z k hi turns u m t c v) where
  -- a get has come as far as its descent has
  get_goes : (d : Descent) → m ≡ Key d → length k ≤ 64 → GetGoes z k turns u v d c
  get_goes d is short =
      let has = subst (λ (w : Walk). HasTurns z k hi turns u w t c v) is has in
      record { going = value_going (descents.ended_at d.stage) has.going; get = has.walk; made = has.made; few = has.few; short = short }

  at_look : (l : Look) → m ≡ Range l → HasTurns z k hi turns u (Range l) t c v
  at_look l is = subst (λ (w : Walk). HasTurns z k hi turns u w t c v) is has

pub go_down-requires-clause-goes : goal.go_down-requires-clause-goes
go_down-requires-clause-goes g c =
    let q = c.requires.goes in
    (q.1, q.2, get_goes (g.S.Steps.sizes c.args.steps.now) c.args.key.now q.0 q.1 q.2 c.args.self.now c.args.path_buffer.now c.args.tally.now (g.S.Steps.view c.args.steps.now) q.3 c.in-Key.descent c.in-Key.is c.requires.short)

pub returns-in-Key-clause-goes : goal.returns-in-Key-clause-goes
returns-in-Key-clause-goes g c hi turns u has =
    let s = c.args.steps.now in
    let z = g.S.Steps.sizes s in
    let k = c.args.key.now in
    let w = g.S.Steps.view c.go_down.new.steps in
    let d = c.go_down.new.descent in
    let tally = c.go_down.new.tally in
    let before = get_goes z k hi turns u c.args.self.now c.args.path_buffer.now c.args.tally.now (g.S.Steps.view s) has c.in-Key.descent c.in-Key.is c.requires.short in
    let same = g.met.S.Steps.only_sizes s c.go_down.new.steps c.go_down.ensures.only in
    let after = subst (λ (y : Sizes). GetGoes y k turns u w d tally) same (c.go_down.ensures.goes turns u before) in
    record { going = ap (option_map of_value) after.going; walk = after.get; made = after.made; few = after.few }

pub look_on-requires-clause-few : goal.look_on-requires-clause-few
look_on-requires-clause-few g c = c.requires.goes.3.few

pub look_on-requires-clause-going : goal.look_on-requires-clause-going
look_on-requires-clause-going g c =
    let q = c.requires.goes in
    let l = c.in-Range.look in
    seen_going (looks.has_ended l.stage) (at_look (g.S.Steps.sizes c.args.steps.now) c.args.key.now q.0 q.1 q.2 c.args.self.now c.args.path_buffer.now c.args.tally.now (g.S.Steps.view c.args.steps.now) q.3 l c.in-Range.is).going

pub look_on-requires-clause-fits : goal.look_on-requires-clause-fits
look_on-requires-clause-fits g c =
    let q = c.requires.goes in
    (q.0, q.2, (at_look (g.S.Steps.sizes c.args.steps.now) c.args.key.now q.0 q.1 q.2 c.args.self.now c.args.path_buffer.now c.args.tally.now (g.S.Steps.view c.args.steps.now) q.3 c.in-Range.look c.in-Range.is).walk)

pub returns-in-Range-clause-goes : goal.returns-in-Range-clause-goes
returns-in-Range-clause-goes g c hi turns u has =
    let h = at_look (g.S.Steps.sizes c.args.steps.now) c.args.key.now hi turns u c.args.self.now c.args.path_buffer.now c.args.tally.now (g.S.Steps.view c.args.steps.now) has c.in-Range.look c.in-Range.is in
    let before = h.made in
    let made = c.look_on.ensures.made in
    record {
      going = ap (λ (b : Bool). if b then Some Seen else None) c.look_on.ensures.going;
      walk = c.look_on.ensures.fits hi u h.walk;
      made = omega (arith, before, made);
      few = c.look_on.ensures.few;
    }
