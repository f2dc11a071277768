-- The steps are those of the walk.
use Rattle.std.proofs.Common.{◌≡◌, ◌≤◌, ℕ, ◌+◌, List, refl, sym, subst, arith}
use Rattle.art_key.specs.declared.bounds.Bound.{Bound as KeyBound}
use Rattle.art_look.specs.declared.path_buffers.PathBuffer.{PathBuffer as PathBufferOf}
use Rattle.art_look.specs.Seeks.{Fits, GoesOn, StageFits, busy_at, left_at}
use Rattle.art_look.specs.Walks.{Fits as WalkFits, HasTurns}
use Rattle.art_look.specs.declared.seeks.Seek.{Seek}
use Rattle.art_look.specs.declared.seeks.SeekStage.{SeekStage}
use Rattle.art_look.specs.declared.seeks.SeekStage.TheVariants.{Walking}
use Rattle.art_step.specs.declared.views.Sizes.{Sizes}
use Rattle.art_step.specs.declared.views.View.{View}
use Rattle.art_look.proofs.seeks.Seek.walk_on.Goals as goal

module _ (z : Sizes) (k : List ℕ) (hi : KeyBound) (u : View) (m : Seek) (t : PathBufferOf) (v : View) (at : m.stage ≡ Walking) (fits : Fits z k hi u m t v) where
  walks_on : GoesOn z k hi u m t v
  walks_on = subst (λ (s : SeekStage). StageFits z k hi u s m t v) at fits

  -- a seek that walks has as many turns as its walk
  turns_of : HasTurns z k hi m.turns walks_on.walking.opened m.walk t (record { left = m.left; restarts = m.restarts }) v
  turns_of = record {
    going = walks_on.going;
    walk = walks_on.walking.walk;
    made = walks_on.walking.counted;
    few = walks_on.walking.few;
  }

pub hurry-requires-clause-some : goal.hurry-requires-clause-some
hurry-requires-clause-some g c =
    let q = c.requires.fits in
    (walks_on (g.S.Steps.sizes c.args.steps.now) c.args.key.now q.0 q.1.0 c.args.self.now c.args.path_buffer.now (g.S.Steps.view c.args.steps.now) c.requires.stage q.1.1).turn

pub hurry-requires-clause-goes : goal.hurry-requires-clause-goes
hurry-requires-clause-goes g c =
    let q = c.requires.fits in
    let z = g.S.Steps.sizes c.args.steps.now in
    let v = g.S.Steps.view c.args.steps.now in
    let m = c.args.self.now in
    (q.0, m.turns, (walks_on z c.args.key.now q.0 q.1.0 m c.args.path_buffer.now v c.requires.stage q.1.1).walking.opened, turns_of z c.args.key.now q.0 q.1.0 m c.args.path_buffer.now v c.requires.stage q.1.1)

pub returns-clause-goes : goal.returns-clause-goes
returns-clause-goes g c = λ hi.
    let z = g.S.Steps.sizes c.args.steps.now in
    let k = c.args.key.now in
    let v = g.S.Steps.view c.args.steps.now in
    let w = g.S.Steps.view c.hurry.new.steps in
    let m = c.args.self.now in
    let t = c.args.path_buffer.now in
    let q = c.requires.fits in
    let at = c.requires.stage in
    let next : Seek = record m { walk = c.hurry.new.self; left = c.hurry.new.tally.left; restarts = c.from-self.result } in
    let less = c.hurry.ensures.less in
    let before = turns_of z k q.0 q.1.0 m t v at q.1.1 in
    let made = before.made in
    let then = (c.hurry.ensures.goes q.0 m.turns _ before).made in
    let now = c.from-self.ensures in
    record {
      aim = c.hurry.ensures.aim;
      turns = refl;
      refuses = λ busy. absurd (subst (λ (s : SeekStage). busy_at s m) at busy);
      less = subst (λ (s : SeekStage). left_at s next ≤ left_at s m) (sym at) (omega (arith, less));
      left = subst (λ (s : SeekStage). w.steps + left_at s next ≤ v.steps + left_at s m) (sym at) (omega (arith, made, then));
      fits = λ u fits.
          let walk = (walks_on z k hi u m t v at fits).walking in
          let after = c.hurry.ensures.goes hi m.turns walk.opened (turns_of z k hi u m t v at fits) in
          let within = walk.within in
          let few = after.few in
          let on : GoesOn z k hi u next c.hurry.new.path_buffer w = record {
            walking = record {
              opened = walk.opened;
              may = walk.may;
              pins_to = walk.pins_to;
              walk = subst (λ (n : ℕ). WalkFits z k hi walk.opened c.hurry.new.self c.hurry.new.path_buffer n w) (sym now) after.walk;
              counted = after.made;
              within = omega (arith, within, less);
              few = omega (arith, few, now);
            };
            going = after.going;
            turn = c.hurry.ensures.some;
          } in
          subst (λ (a : SeekStage). StageFits z k hi u a next c.hurry.new.path_buffer w) (sym at) on;
    }
