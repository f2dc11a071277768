use Rattle.std.proofs.Common.{◌≡◌, ◌+◌, ◌≤◌, ℕ, List, refl, sym, ap, subst, arith}
use Rattle.art_key.specs.declared.bounds.Bound.{Bound as KeyBound}
use Rattle.art_look.specs.declared.path_buffers.PathBuffer.{PathBuffer as PathBufferOf}
use Rattle.art_look.proofs.Closes.{over_free}
use Rattle.art_look.specs.Seeks.{Fits, IsOver, StageFits, WentIdle, busy_at, left_at}
use Rattle.art_look.specs.declared.seeks.Seek.{Seek}
use Rattle.art_look.specs.declared.seeks.SeekStage.{SeekStage}
use Rattle.art_look.specs.declared.seeks.SeekStage.TheVariants.{Closing, Ended}
use Rattle.art_step.specs.Steps.Pin as pin
use Rattle.art_step.specs.declared.views.Sizes.{Sizes}
use Rattle.art_step.specs.declared.views.View.{View}
use Rattle.art_look.proofs.seeks.Seek.go_idle.Goals as goal

module _ (z : Sizes) (k : List ℕ) (hi : KeyBound) (u : View) (m : Seek) (t : PathBufferOf) (v : View) (at : m.stage ≡ Closing) (fits : Fits z k hi u m t v) where
  over_at : IsOver z k hi u m t v
  over_at = subst (λ (s : SeekStage). StageFits z k hi u s m t v) at fits

  idle_then : (w : View) → w ≡ pin.view_after v 0 → WentIdle z k hi u (record m { stage = Ended }) t w
  idle_then w is =
      let walk = over_at.walking in
      record {
        before = v;
        over = record {
          walking = record {
            opened = walk.opened;
            may = walk.may;
            pins_to = walk.pins_to;
            walk = walk.walk;
            counted = walk.counted;
            within = walk.within;
            few = walk.few;
          };
          ends = over_at.ends;
        };
        is = is;
      }

pub unpin-requires : goal.unpin-requires
unpin-requires g c =
    let z = g.S.Steps.sizes c.args.steps.now in
    let v = g.S.Steps.view c.args.steps.now in
    let m = c.args.self.now in
    let q = c.requires.fits in
    over_free z q.0 q.1 q.3.0 m q.2 v (over_at z q.0 q.1 q.3.0 m q.2 v c.requires.stage q.3.1)

pub returns-clause-ended : goal.returns-clause-ended
returns-clause-ended g c = (c.args.self.now.outcome, refl)

pub returns-clause-goes : goal.returns-clause-goes
returns-clause-goes g c = λ k hi t.
    let z = g.S.Steps.sizes c.args.steps.now in
    let v = g.S.Steps.view c.args.steps.now in
    let w = g.S.Steps.view c.unpin.new.steps in
    let m = c.args.self.now in
    let at = c.requires.stage in
    let one : w.steps ≡ v.steps + 1 = ap (λ (a : View). a.steps) c.unpin.ensures.row in
    record {
      aim = refl;
      turns = refl;
      refuses = λ busy. subst (λ (s : SeekStage). busy_at s m) at busy;
      less = subst (λ (s : SeekStage). 0 ≤ left_at s m) (sym at) (omega arith);
      left = subst (λ (s : SeekStage). w.steps + 0 ≤ v.steps + left_at s m) (sym at) (omega (arith, one));
      fits = λ u fits. idle_then z k hi u m t v at fits w c.unpin.ensures.row;
    }
