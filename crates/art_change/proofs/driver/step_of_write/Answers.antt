use Rattle.std.proofs.Common.{◌≡◌, ℕ, suc, zero, true, List, ◌∙◌, inl, inr, refl, ap, sym, subst, arith}
use Rattle.std.specs.Option.{is_some}
use Rattle.std.specs.Prelude.{Option, None, Some}
use Rattle.arrayvec.specs.ArrayVec.{ArrayVec}
use Rattle.art_change.proofs.driver.step_of_write.Goals as goal
use Rattle.art_change.specs.AsAsked.{WriteMakes}
use Rattle.art_change.specs.Made.{MakesStep}
use Rattle.art_change.specs.ArtAttempt.declared.attempts.Room.{Room}
use Rattle.art_change.proofs.Overlaps.{none_overlaps, still_apart}
use Rattle.art_change.specs.Writes.{SameRow}
use Rattle.art_change.specs.Writes as writes
use Rattle.art_change.specs.Writes.{FindsOverlap, Fits, NoneOverlaps}
use Rattle.art_epoch.specs.Limbo.{places_of}
use Rattle.art_step.specs.declared.views.Sizes.{Sizes}
use Rattle.art_step.specs.declared.views.View.{View}

some_there : {A : Type 0} (o : Option A) → is_some o ≡ true → (x : A) × (o ≡ Some x)
some_there (Some x) some = (x, refl)
some_there None some = cc

same_then : (a b r : Room) → SameRow a b → SameRow b r → SameRow a r
same_then a b r first next = record { key = next.key ∙ first.key; value = next.value ∙ first.value }

-- where none overlaps before the steps that were none, none does after them
none_overlaps_at : (A B : List ℕ → Type 0) → ((k : List ℕ) → B k → A k) → (z y : Sizes) (k j : ArrayVec ℕ) (v u w : View) → y ≡ z → j ≡ k → u ≡ v → NoneOverlaps A z k.items v w → NoneOverlaps B y j.items u w
none_overlaps_at A B back z y k j v u w sizes key view (inl apart) = inl (still_apart A B back apart)
none_overlaps_at A B back z y k j v u w sizes key view (inr none) = inr (λ (o : FindsOverlap y j.items u w).
    none (subst (λ (x : View). FindsOverlap z k.items x w) view (subst (λ (b : ArrayVec ℕ). FindsOverlap z b.items u w) key (subst (λ (s : Sizes). FindsOverlap s j.items u w) sizes o))))

pub loop-steps-init : goal.loop-steps-init
loop-steps-init g c = record {
  only = g.met.S.Steps.only_same c.args.steps.now;
  same = refl;
  job = refl;
  turns = refl;
  key = record { key = refl; value = refl };
  refuses = λ r. r;
  apart = λ a. a;
  left = omega arith;
  waits = (zero, (refl, refl, refl));
  fits = λ u ps fits. fits;
}

-- it has ended

pub returns-then-is_some-clause-only : goal.returns-then-is_some-clause-only
returns-then-is_some-clause-only g c = c.loop-steps.invariant.only

pub returns-then-is_some-clause-job : goal.returns-then-is_some-clause-job
returns-then-is_some-clause-job g c = c.loop-steps.invariant.job

pub returns-then-is_some-clause-turns : goal.returns-then-is_some-clause-turns
returns-then-is_some-clause-turns g c = c.loop-steps.invariant.turns

pub returns-then-is_some-clause-key : goal.returns-then-is_some-clause-key
returns-then-is_some-clause-key g c = c.loop-steps.invariant.key

pub returns-then-is_some-clause-refuses : goal.returns-then-is_some-clause-refuses
returns-then-is_some-clause-refuses g c = c.loop-steps.invariant.refuses

pub returns-then-is_some-clause-apart : goal.returns-then-is_some-clause-apart
returns-then-is_some-clause-apart g c none = c.loop-steps.invariant.apart

pub returns-then-is_some-clause-left : goal.returns-then-is_some-clause-left
returns-then-is_some-clause-left g c =
    let same = ap (λ (a : View). a.steps) c.loop-steps.invariant.same in
    let left = c.loop-steps.invariant.left in
    omega (arith, same, left)

pub returns-then-is_some-clause-fits : goal.returns-then-is_some-clause-fits
returns-then-is_some-clause-fits g c = c.loop-steps.invariant.fits

pub returns-then-is_some-clause-none : goal.returns-then-is_some-clause-none
returns-then-is_some-clause-none g c =
    let some = some_there c.ended.result (sym c.is_some.ensures ∙ c.if-is_some.true) in
    (c.loop-steps.invariant.same, (some.0, sym c.ended.ensures.at ∙ some.1))

-- it goes on

pub step-stepped-requires-clause-admitted : goal.step-stepped-requires-clause-admitted
step-stepped-requires-clause-admitted g c =
    let l = c.loop-steps in
    let i = l.invariant in
    let m = c.args.write.now in
    subst (λ (k : ArrayVec ℕ). g.S.Steps.admits l.steps k.items) (sym i.key.key)
    ((g.met.S.Steps.only_admits c.args.steps.now l.steps c.args.room.now.row.key.items i.only).1 c.requires.admitted)

pub step-stepped-requires-clause-fits : goal.step-stepped-requires-clause-fits
step-stepped-requires-clause-fits g c =
    let l = c.loop-steps in
    let i = l.invariant in
    let q = c.requires.fits in (
      q.0,
      q.1,
      subst (λ (z : Sizes). Fits z q.0 q.1 l.write l.room (places_of l.limbo) (g.S.Steps.view l.steps))
          (sym (g.met.S.Steps.only_sizes c.args.steps.now l.steps i.only)) (i.fits q.0 q.1 q.2),
    )

-- a step was made

pub returns-in-Some-clause-only : goal.returns-in-Some-clause-only
returns-in-Some-clause-only g c =
    g.met.S.Steps.only_then c.args.steps.now c.loop-steps.steps c.step-stepped.new.steps c.loop-steps.invariant.only c.step-stepped.ensures.only

pub returns-in-Some-clause-some : goal.returns-in-Some-clause-some
returns-in-Some-clause-some g c =
    let l = c.loop-steps in
    let i = l.invariant in
    let e = c.step-stepped.ensures in
    let w = g.S.Steps.view c.step-stepped.new.steps in
    let made = c.in-Some.ensures.some (g.S.Steps.sizes l.steps) (writes.brings_at l.write.stage l.room c.step-stepped.result.action) (g.S.Steps.view l.steps) w e.allowed e.row in
    subst (λ (v : View). MakesStep (g.S.Steps.sizes c.args.steps.now) v w c.in-Some.made) i.same
    (subst (λ (z : Sizes). MakesStep z (g.S.Steps.view l.steps) w c.in-Some.made) (g.met.S.Steps.only_sizes c.args.steps.now l.steps i.only) made)

pub returns-in-Some-clause-asked : goal.returns-in-Some-clause-asked
returns-in-Some-clause-asked g c =
    let l = c.loop-steps in
    let i = l.invariant in
    let e = c.step-stepped.ensures in
    let new = c.step-stepped.new in
    let sizes = g.met.S.Steps.only_sizes c.args.steps.now l.steps i.only in
    let makes : WriteMakes (g.S.Steps.sizes l.steps) (g.S.Steps.view l.steps) l.write l.room (places_of l.limbo) (g.S.Steps.view new.steps) new.write new.room (places_of new.limbo) = record {
      asked = c.step-stepped.result.action;
      answer = c.step-stepped.result.answer;
      asks = e.asked;
      allowed = e.allowed;
      row = e.row;
      left = e.left;
      fits = e.fits;
    } in
    record {
      times = i.waits.0;
      between = l.write;
      room = l.room;
      waiting = places_of l.limbo;
      waits = i.waits.1;
      makes = subst (λ (v : View). WriteMakes (g.S.Steps.sizes c.args.steps.now) v l.write l.room (places_of l.limbo) (g.S.Steps.view new.steps) new.write new.room (places_of new.limbo)) i.same
          (subst (λ (z : Sizes). WriteMakes z (g.S.Steps.view l.steps) l.write l.room (places_of l.limbo) (g.S.Steps.view new.steps) new.write new.room (places_of new.limbo)) sizes makes);
    }

pub returns-in-Some-clause-job : goal.returns-in-Some-clause-job
returns-in-Some-clause-job g c = c.step-stepped.ensures.job ∙ c.loop-steps.invariant.job

pub returns-in-Some-clause-turns : goal.returns-in-Some-clause-turns
returns-in-Some-clause-turns g c = c.step-stepped.ensures.turns ∙ c.loop-steps.invariant.turns

pub returns-in-Some-clause-key : goal.returns-in-Some-clause-key
returns-in-Some-clause-key g c = same_then c.args.room.now c.loop-steps.room c.step-stepped.new.room c.loop-steps.invariant.key
    c.step-stepped.ensures.key

pub returns-in-Some-clause-refuses : goal.returns-in-Some-clause-refuses
returns-in-Some-clause-refuses g c refuses = c.step-stepped.ensures.refuses (c.loop-steps.invariant.refuses refuses)

pub returns-in-Some-clause-apart : goal.returns-in-Some-clause-apart
returns-in-Some-clause-apart g c none a =
    let l = c.loop-steps in
    let i = l.invariant in
    let s = c.args.steps.now in
    let w = g.S.Steps.view c.step-stepped.new.steps in
    let at = none_overlaps_at (g.S.Steps.admits s) (g.S.Steps.admits l.steps) (λ k. (g.met.S.Steps.only_admits s l.steps k i.only).0) in
    let key : l.room.row.key ≡ c.args.room.now.row.key = i.key.key in
    c.step-stepped.ensures.apart
    (at (g.S.Steps.sizes s) (g.S.Steps.sizes l.steps) c.args.room.now.row.key l.room.row.key (g.S.Steps.view s) (g.S.Steps.view l.steps) w
    (g.met.S.Steps.only_sizes s l.steps i.only) key i.same none)
    (i.apart a)

pub returns-in-Some-clause-left : goal.returns-in-Some-clause-left
returns-in-Some-clause-left g c =
    let same = ap (λ (a : View). a.steps) c.loop-steps.invariant.same in
    let left = c.loop-steps.invariant.left in
    let one = c.step-stepped.ensures.one in
    let less = c.step-stepped.ensures.left in
    omega (arith, same, left, one, less)

pub returns-in-Some-clause-fits : goal.returns-in-Some-clause-fits
returns-in-Some-clause-fits g c u ps fits =
    let l = c.loop-steps in
    let sizes = g.met.S.Steps.only_sizes c.args.steps.now l.steps l.invariant.only in
    let here = subst (λ (z : Sizes). Fits z u ps l.write l.room (places_of l.limbo) (g.S.Steps.view l.steps)) (sym sizes) (l.invariant.fits u ps fits) in
    subst (λ (z : Sizes). Fits z u ps c.step-stepped.new.write c.step-stepped.new.room (places_of c.step-stepped.new.limbo) (g.S.Steps.view c.step-stepped.new.steps))
    sizes (c.step-stepped.ensures.fits u ps here)

-- or none was, and it goes on

pub loop-steps-smaller : goal.loop-steps-smaller
loop-steps-smaller g c = c.step-stepped.ensures.left

pub loop-steps-preserved : goal.loop-steps-preserved
loop-steps-preserved g c =
    let l = c.loop-steps in
    let i = l.invariant in
    let e = c.step-stepped.ensures in
    let v = g.S.Steps.view l.steps in
    let w = g.S.Steps.view c.step-stepped.new.steps in
    let sizes = g.met.S.Steps.only_sizes c.args.steps.now l.steps i.only in
    let none = c.in_default.ensures.none (g.S.Steps.sizes l.steps) (writes.brings_at l.write.stage l.room c.step-stepped.result.action) v w e.row in
    let left = i.left in
    let less = e.left in
    record {
      only = g.met.S.Steps.only_then c.args.steps.now l.steps c.step-stepped.new.steps i.only e.only;
      same = none ∙ i.same;
      job = e.job ∙ i.job;
      turns = e.turns ∙ i.turns;
      key = same_then c.args.room.now l.room c.step-stepped.new.room i.key e.key;
      refuses = λ refuses. e.refuses (i.refuses refuses);
      apart = λ a. e.apart (none_overlaps (g.S.Steps.admits l.steps) (g.S.Steps.sizes l.steps) l.room.row.key.items v w none) (i.apart a);
      left = omega (arith, left, less);
      waits = (
        suc i.waits.0,
        (
          l.write,
          l.room,
          places_of l.limbo,
          i.waits.1,
          subst
              (λ (t : View). WriteMakes (g.S.Steps.sizes c.args.steps.now) t l.write l.room (places_of l.limbo) t c.step-stepped.new.write c.step-stepped.new.room (places_of c.step-stepped.new.limbo)) i.same
              (subst (λ (t : View). WriteMakes (g.S.Steps.sizes c.args.steps.now) v l.write l.room (places_of l.limbo) t c.step-stepped.new.write c.step-stepped.new.room (places_of c.step-stepped.new.limbo)) none
              (subst (λ (z : Sizes). WriteMakes z v l.write l.room (places_of l.limbo) w c.step-stepped.new.write c.step-stepped.new.room (places_of c.step-stepped.new.limbo)) sizes
              record { asked = c.step-stepped.result.action; answer = c.step-stepped.result.answer; asks = e.asked; allowed = e.allowed; row = e.row; left = e.left; fits = e.fits })),
        ),
      );
      fits = λ u ps fits. subst (λ (z : Sizes). Fits z u ps c.step-stepped.new.write c.step-stepped.new.room (places_of c.step-stepped.new.limbo) w) sizes
          (e.fits u ps (subst (λ (z : Sizes). Fits z u ps l.write l.room (places_of l.limbo) v) (sym sizes) (i.fits u ps fits)));
    }
