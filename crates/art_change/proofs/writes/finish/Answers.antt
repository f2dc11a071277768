use Rattle.std.proofs.Common.{◌≡◌, ◌∙◌, ℕ, true, Option, Some, inl, refl, sym, subst, arith}
use Rattle.std.specs.Option.{is_some}
use Rattle.std.specs.Prelude.{None}
use Rattle.arrayvec.specs.ArrayVec.{ArrayVec}
use Rattle.art_change.proofs.Overlaps.{still_apart}
use Rattle.art_change.proofs.writes.finish.Goals as goal
use Rattle.art_change.specs.Writes.{Fits}
use Rattle.art_epoch.specs.Limbo.{places_of}
use Rattle.art_step.specs.declared.views.Sizes.{Sizes}

some_there : {A : Type 0} (o : Option A) → is_some o ≡ true → (x : A) × (o ≡ Some x)
some_there (Some x) some = (x, refl)
some_there None some = cc

pub loop-steps-init : goal.loop-steps-init
loop-steps-init g c = record {
  only = g.met.S.Steps.only_same c.args.steps.now;
  sizes = refl;
  job = refl;
  turns = refl;
  key = record { key = refl; value = refl };
  refuses = λ r. r;
  apart = λ keys a. a;
  left = omega arith;
  fits = λ u ps fits. fits;
}

pub hurry-requires-clause-admitted : goal.hurry-requires-clause-admitted
hurry-requires-clause-admitted g c =
    let l = c.loop-steps in
    let i = l.invariant in
    subst (λ (k : ArrayVec ℕ). g.S.Steps.admits l.steps k.items) (sym i.key.key)
    ((g.met.S.Steps.only_admits c.args.steps.now l.steps c.args.room.now.row.key.items i.only).1 c.requires.admitted)

pub hurry-requires-clause-fits : goal.hurry-requires-clause-fits
hurry-requires-clause-fits g c =
    let l = c.loop-steps in
    let q = c.requires.fits in
    let here = l.invariant.fits q.0 q.1 q.2 in
    (q.0, q.1, subst (λ (z : Sizes). Fits z q.0 q.1 l.write l.room (places_of l.limbo) (g.S.Steps.view l.steps)) (sym l.invariant.sizes) here)

pub step-requires-clause-admitted : goal.step-requires-clause-admitted
step-requires-clause-admitted g c =
    let l = c.loop-steps in
    let i = l.invariant in
    let e = c.hurry.ensures in
    let same = e.same.key in
    subst (λ (k : ArrayVec ℕ). g.S.Steps.admits c.hurry.new.steps k.items) (sym (same.key ∙ i.key.key))
    ((g.met.S.Steps.only_admits l.steps c.hurry.new.steps c.args.room.now.row.key.items e.only).1
    ((g.met.S.Steps.only_admits c.args.steps.now l.steps c.args.room.now.row.key.items i.only).1 c.requires.admitted))

pub step-requires-clause-fits : goal.step-requires-clause-fits
step-requires-clause-fits g c =
    let l = c.loop-steps in
    let q = c.requires.fits in
    let e = c.hurry.ensures in
    let here = subst (λ (z : Sizes). Fits z q.0 q.1 l.write l.room (places_of l.limbo) (g.S.Steps.view l.steps)) (sym l.invariant.sizes) (l.invariant.fits q.0 q.1 q.2) in (
      q.0,
      q.1,
      subst (λ (z : Sizes). Fits z q.0 q.1 c.hurry.new.self c.hurry.new.room (places_of c.hurry.new.limbo) (g.S.Steps.view c.hurry.new.steps))
          (sym (g.met.S.Steps.only_sizes l.steps c.hurry.new.steps e.only)) (e.fits q.0 q.1 here),
    )

pub loop-steps-smaller : goal.loop-steps-smaller
loop-steps-smaller g c =
    let less = c.step.ensures.left in
    let later = c.hurry.ensures.later in
    let few = c.hurry.ensures.left in
    omega (arith, less, later, few)

pub loop-steps-preserved : goal.loop-steps-preserved
loop-steps-preserved g c =
    let l = c.loop-steps in
    let i = l.invariant in
    let h = c.hurry.ensures in
    let e = c.step.ensures in
    let w = g.S.Steps.view c.step.new.steps in
    let s = c.args.steps.now in
    let only = g.met.S.Steps.only_then s l.steps c.hurry.new.steps i.only h.only in
    let sizes = g.met.S.Steps.only_sizes l.steps c.hurry.new.steps h.only ∙ i.sizes in
    record {
      only = g.met.S.Steps.only_then s c.hurry.new.steps c.step.new.steps only e.only;
      sizes = g.met.S.Steps.only_sizes c.hurry.new.steps c.step.new.steps e.only ∙ sizes;
      job = e.job ∙ (h.same.job ∙ i.job);
      turns = e.turns ∙ (h.same.turns ∙ i.turns);
      key =
          let one = h.same.key in
          let two = e.key in
          record { key = two.key ∙ (one.key ∙ i.key.key); value = two.value ∙ (one.value ∙ i.key.value) };
      refuses = λ r. e.refuses (h.same.refuses (i.refuses r));
      apart = λ keys a. e.apart (inl (still_apart (g.S.Steps.admits s) (g.S.Steps.admits c.hurry.new.steps) (λ k. (g.met.S.Steps.only_admits s c.hurry.new.steps k only).0) keys)) (h.same.apart (i.apart keys a));
      left = let one = e.one in let less = e.left in let before = i.left in let few = h.left in omega (arith, one, less, before, few);
      fits = λ u ps fits. subst (λ (z : Sizes). Fits z u ps c.step.new.write c.step.new.room (places_of c.step.new.limbo) w) sizes
          (e.fits u ps (subst (λ (z : Sizes). Fits z u ps c.hurry.new.self c.hurry.new.room (places_of c.hurry.new.limbo) (g.S.Steps.view c.hurry.new.steps)) (sym (g.met.S.Steps.only_sizes l.steps c.hurry.new.steps h.only))
          (h.fits u ps (subst (λ (z : Sizes). Fits z u ps l.write l.room (places_of l.limbo) (g.S.Steps.view l.steps)) (sym i.sizes) (i.fits u ps fits)))));
    }

pub returns-then-is_some-clause-only : goal.returns-then-is_some-clause-only
returns-then-is_some-clause-only g c = g.met.S.Steps.only_then c.args.steps.now c.loop-steps.steps c.hurry.new.steps c.loop-steps.invariant.only c.hurry.ensures.only

pub returns-then-is_some-clause-key : goal.returns-then-is_some-clause-key
returns-then-is_some-clause-key g c =
    let l = c.loop-steps in
    let i = l.invariant in
    let one = c.hurry.ensures.same.key in
    record { key = one.key ∙ i.key.key; value = one.value ∙ i.key.value }

pub returns-then-is_some-clause-refuses : goal.returns-then-is_some-clause-refuses
returns-then-is_some-clause-refuses g c = λ will. c.hurry.ensures.same.refuses (c.loop-steps.invariant.refuses will)

pub returns-then-is_some-clause-apart : goal.returns-then-is_some-clause-apart
returns-then-is_some-clause-apart g c = λ keys is. c.hurry.ensures.same.apart (c.loop-steps.invariant.apart keys is)

pub returns-then-is_some-clause-left : goal.returns-then-is_some-clause-left
returns-then-is_some-clause-left g c =
    let before = c.loop-steps.invariant.left in
    let few = c.hurry.ensures.left in
    omega (arith, before, few)

pub returns-then-is_some-clause-fits : goal.returns-then-is_some-clause-fits
returns-then-is_some-clause-fits g c = λ u ps fits.
    let l = c.loop-steps in
    let i = l.invariant in
    let h = c.hurry.new in
    subst (λ (z : Sizes). Fits z u ps h.self h.room (places_of h.limbo) (g.S.Steps.view h.steps)) i.sizes
    (c.hurry.ensures.fits u ps (subst (λ (z : Sizes). Fits z u ps l.write l.room (places_of l.limbo) (g.S.Steps.view l.steps)) (sym i.sizes) (i.fits u ps fits)))

pub returns-then-is_some-clause-ended : goal.returns-then-is_some-clause-ended
returns-then-is_some-clause-ended g c =
    let some = some_there c.ended.result (sym c.is_some.ensures ∙ c.if-is_some.true) in
    (some.0, sym c.ended.ensures.at ∙ some.1)
