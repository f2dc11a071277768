-- Each step is one that the making asks for, and each is further on.
use Rattle.std.proofs.Common.{◌≡◌, ◌∙◌, ◌<◌, ℕ, List, Some, None, inl, refl, sym, ap, subst, true, false, arith}
use Rattle.std.proofs.lemmas.Bool.{ne_eqb}
use Rattle.std.specs.Prelude.{Option, Result, ⊤}
use Rattle.art_step.proofs.Counting.{steps_few, steps_made}
use Rattle.art_step.specs.Acting.{Answers}
use Rattle.art_step.specs.declared.actions.Action.{Action}
use Rattle.art_step.specs.declared.actions.Answer.{Answer}
use Rattle.art_plan.proofs.Keeping.{answer_keeps, keeps_then, writes_keep}
use Rattle.art_plan.proofs.Told.{allowed, few_steps, going}
use Rattle.art_plan.proofs.Written.{few_words_left, some_words, writes_steps}
use Rattle.art_plan.specs.Apply.{Fits, HasRun, Makes, Runs, asks, brings, ended_at, fault_of, is_begun, is_writing, most_steps}
use Rattle.art_plan.specs.declared.apply.Apply.{Apply}
use Rattle.art_plan.specs.declared.apply.Apply.TheVariants.{Upgrading, Claiming, Filling, Writing, Committing, Releasing, ReleasingNode, GivingUp, Ended}
use Rattle.art_plan.specs.declared.changes.Change.{Change}
use Rattle.art_step.specs.Deeds.{IsAdmitted}
use Rattle.art_step.specs.declared.deeds.Deed.{Deed}
use Rattle.art_step.specs.declared.deeds.Deed.TheVariants.{Done, Look}
use Rattle.art_step.specs.declared.faults.UpgradeFault.{UpgradeFault}
use Rattle.art_step.specs.declared.views.Sizes.{Sizes}
use Rattle.art_step.specs.declared.views.View.{View}
use Rattle.art_plan.proofs.apply.Apply.run.Goals as goal

-- what one admits the other admits
still_admitted : (A B : List ℕ → Type 0) → ((k : List ℕ) → A k → B k) → (d : Deed) → IsAdmitted A d → IsAdmitted B d
still_admitted A B more (Done a r) is = more _ is
still_admitted A B more (Look lo hi row) is = tt

-- one that has made a step holds a cell, or has ended
held : (m : Apply) → 0 < most_steps m → is_begun m ≡ false
held (Upgrading i) some = ne_eqb i 0 (λ e. absurd (omega (arith, e, some)))
held (Claiming b) some = refl
held (Filling b place) some = refl
held (Writing j) some = refl
held Committing some = refl
held (Releasing i) some = refl
held (ReleasingNode b) some = refl
held (GivingUp locked released e) some = refl
held (Ended r) some = refl

-- what asks for something has not ended
still_going : (c : Change) (m : Apply) (a : Action) → asks c m ≡ Some a → ended_at m ≡ None
still_going c (Upgrading i) a is = refl
still_going c (Claiming b) a is = refl
still_going c (Filling b place) a is = refl
still_going c (Writing j) a is = refl
still_going c Committing a is = refl
still_going c (Releasing i) a is = refl
still_going c (ReleasingNode b) a is = refl
still_going c (GivingUp locked released e) a is = refl
still_going c (Ended r) a is = absurd (cc)

-- no fault comes where words are to be written
writing_unfailing : {A : Type 0} (m : Apply) → is_writing m ≡ true → (e : UpgradeFault) → fault_of m ≡ Some e → A
writing_unfailing (Upgrading i) on e at = absurd (cc)
writing_unfailing (Claiming b) on e at = absurd (cc)
writing_unfailing (Filling b place) on e at = absurd (cc)
writing_unfailing (Writing j) on e at = absurd (cc)
writing_unfailing Committing on e at = absurd (cc)
writing_unfailing (Releasing i) on e at = absurd (cc)
writing_unfailing (ReleasingNode b) on e at = absurd (cc)
writing_unfailing (GivingUp locked released f) on e at = absurd (cc)
writing_unfailing (Ended r) on e at = absurd (cc)

-- the step was made that was asked for
made_next : (z : Sizes) (c : Change) (m : Apply) (o : Option Answer) (answer : Answer) (v w : View) → Makes z c m o v w → o ≡ Some answer →
    (asked : Action) × (asks c m ≡ Some asked) × Answers z (brings c) asked answer v w
made_next z c m o answer v w made is = subst (λ (p : Option Answer). Makes z c m p v w) is made

-- or nothing was
made_none : (z : Sizes) (c : Change) (m : Apply) (o : Option Answer) (v w : View) → Makes z c m o v w → o ≡ None →
    (asks c m ≡ None) × (w ≡ v)
made_none z c m o v w made is = subst (λ (p : Option Answer). Makes z c m p v w) is made

-- what asks for nothing has ended
pub returns-in_default : goal.returns-in_default
returns-in_default g c =
    let z = g.S.Steps.sizes c.args.steps.now in
    let o = g.S.Steps.view c.args.steps.now in
    let v = g.S.Steps.view c.loop-self.steps in
    let w = g.S.Steps.view c.make.new.steps in
    let i = c.loop-self.invariant in
    let m = c.loop-self.self in
    let change = c.args.change.now in
    let none = made_none (g.S.Steps.sizes c.loop-self.steps) change m c.make.result v w c.make.ensures.made c.in_default.is in
    record {
      only = g.met.S.Steps.only_then c.args.steps.now c.loop-self.steps c.make.new.steps i.only c.make.ensures.only;
      runs = subst (λ (y : View). Runs c.args.self.now m o y c.args.left.now c.loop-self.left) (sym none.1) i.runs;
      last = by_end (ended_at m) refl;
      fits = λ u fits. subst (λ (y : View). Fits z change m u y) (sym none.1) (i.fits u fits);
    }
  where
    by_end : (r : Option (Result ⊤ UpgradeFault)) → ended_at c.loop-self.self ≡ r → HasRun c.loop-self.self c.loop-self.left
    by_end (Some r) is = inl (r, is)
    by_end None is =
        let i = c.loop-self.invariant in
        let none = made_none (g.S.Steps.sizes c.loop-self.steps) c.args.change.now c.loop-self.self c.make.result (g.S.Steps.view c.loop-self.steps)
        (g.S.Steps.view c.make.new.steps) c.make.ensures.made c.in_default.is in
        let more = going (g.S.Steps.sizes c.args.steps.now) i.here.0 (g.S.Steps.view c.loop-self.steps) c.args.change.now c.loop-self.self i.here.1 is in
        let not = sym none.0 ∙ more.1 in
        absurd (cc)

pub make-requires : goal.make-requires
make-requires g c =
    let s = c.args.steps.now in
    let t = c.loop-self.steps in
    let i = c.loop-self.invariant in
    let change = c.args.change.now in
    record {
      admitted = still_admitted (g.S.Steps.admits s) (g.S.Steps.admits t) (λ k. (g.met.S.Steps.only_admits s t k i.only).1) change.effects.deed c.requires.admitted;
      fits = (i.here.0, subst (λ (y : Sizes). Fits y change c.loop-self.self i.here.0 (g.S.Steps.view t)) (sym i.sizes) i.here.1);
    }

pub told-requires : goal.told-requires
told-requires g c =
    let z = g.S.Steps.sizes c.args.steps.now in
    let v = g.S.Steps.view c.loop-self.steps in
    let w = g.S.Steps.view c.make.new.steps in
    let i = c.loop-self.invariant in
    let change = c.args.change.now in
    let made = made_next (g.S.Steps.sizes c.loop-self.steps) change c.loop-self.self c.make.result c.in-Some.answer v w c.make.ensures.made c.in-Some.is in
    let row = subst (λ (y : Sizes). Answers y (brings change) made.0 c.in-Some.answer v w) i.sizes made.2 in
    record { fits = (z, i.here.0, v, w, made.0, i.here.1, made.1, row) }

pub loop-self-preserved : goal.loop-self-preserved
loop-self-preserved g c =
    let s = c.args.steps.now in
    let t = c.loop-self.steps in
    let t' = c.make.new.steps in
    let z = g.S.Steps.sizes s in
    let o = g.S.Steps.view s in
    let v = g.S.Steps.view t in
    let w = g.S.Steps.view t' in
    let i = c.loop-self.invariant in
    let m = c.loop-self.self in
    let m' = c.told.new.self in
    let change = c.args.change.now in
    let answer = c.in-Some.answer in
    let made = made_next (g.S.Steps.sizes t) change m c.make.result answer v w c.make.ensures.made c.in-Some.is in
    let asked = made.0 in
    let is = made.1 in
    let row : Answers z (brings change) asked answer v w = subst (λ (y : Sizes). Answers y (brings change) asked answer v w) i.sizes made.2 in
    let may = allowed z i.here.0 v change m asked i.here.1 is in
    let one = steps_made z (brings change) asked answer v w may row in
    let few = steps_few answer in
    let keeps = answer_keeps z i.here.0 v w change m asked answer i.here.1 is row in
    let before = i.runs.turns in
    let so_far = i.runs.few in
    let since = i.runs.keeps.steps in
    let taken = c.saturating_sub-in-loop-self.ensures in
    let count = c.steps.ensures in
    let more = c.told.ensures.steps in
    let on : (u : View) → Fits z change m u v → Fits z change m' u w = λ u fits. c.told.ensures.fits z u v w asked fits is row in
    record {
      only = g.met.S.Steps.only_then s t t' i.only c.make.ensures.only;
      sizes = g.met.S.Steps.only_sizes t t' c.make.ensures.only ∙ i.sizes;
      runs = record {
        keeps = keeps_then o v w i.runs.keeps keeps;
        turns = omega (arith, before, taken, count, one, since);
        few = omega (arith, so_far, one, few, more);
        stays = λ e at. c.told.ensures.stays e (i.runs.stays e at);
      };
      some = λ begun. (let not = held m' (omega (arith, more)) in absurd (cc));
      here = (i.here.0, on i.here.0 i.here.1);
      fits = λ u fits. on u (i.fits u fits);
    }

pub loop-self-smaller : goal.loop-self-smaller
loop-self-smaller g c =
    let z = g.S.Steps.sizes c.args.steps.now in
    let i = c.loop-self.invariant in
    let v = g.S.Steps.view c.loop-self.steps in
    let w = g.S.Steps.view c.make.new.steps in
    let m = c.loop-self.self in
    let change = c.args.change.now in
    let more = c.told.ensures.steps in
    let made = made_next (g.S.Steps.sizes c.loop-self.steps) change m c.make.result c.in-Some.answer v w c.make.ensures.made c.in-Some.is in
    let low = few_steps z i.here.0 v change m i.here.1 (still_going change m made.0 made.1) in
    omega (arith, more, low)

-- ---- the words that are left are written

pub write_on-written-requires : goal.write_on-written-requires
write_on-written-requires g c =
    let i = c.loop-self.invariant in
    record { fits = (i.here.0, subst (λ (y : Sizes). Fits y c.args.change.now c.loop-self.self i.here.0 (g.S.Steps.view c.loop-self.steps)) (sym i.sizes) i.here.1) }

pub loop-self-smaller-then-is_writing : goal.loop-self-smaller-then-is_writing
loop-self-smaller-then-is_writing g c =
    let z = g.S.Steps.sizes c.args.steps.now in
    let i = c.loop-self.invariant in
    let v = g.S.Steps.view c.loop-self.steps in
    let m = c.loop-self.self in
    let change = c.args.change.now in
    let on = sym c.is_writing.ensures ∙ c.if-is_writing.true in
    let written = c.write_on-written.ensures.written in
    let some = some_words z i.here.0 v change m i.here.1 on in
    let count = written.count in
    let few = few_words_left z i.here.0 v change m i.here.1 on in
    let end = ap most_steps (written.some (omega (arith, count, some))) in
    omega (arith, some, few, end)

pub loop-self-preserved-then-is_writing : goal.loop-self-preserved-then-is_writing
loop-self-preserved-then-is_writing g c =
    let s = c.args.steps.now in
    let t = c.loop-self.steps in
    let t' = c.write_on-written.new.steps in
    let z = g.S.Steps.sizes s in
    let o = g.S.Steps.view s in
    let v = g.S.Steps.view t in
    let w = g.S.Steps.view t' in
    let i = c.loop-self.invariant in
    let m = c.loop-self.self in
    let m' = c.write_on-written.new.self in
    let n = c.write_on-written.result in
    let change = c.args.change.now in
    let k = c.write_on-written.ensures in
    let on = sym c.is_writing.ensures ∙ c.if-is_writing.true in
    let some = some_words z i.here.0 v change m i.here.1 on in
    let count = k.written.count in
    let few = few_words_left z i.here.0 v change m i.here.1 on in
    let next = k.written.some (omega (arith, count, some)) in
    let end = ap most_steps next in
    let steps = writes_steps v w n k.made in
    let before = i.runs.turns in
    let so_far = i.runs.few in
    let since = i.runs.keeps.steps in
    let taken = c.saturating_sub.ensures in
    record {
      only = g.met.S.Steps.only_then s t t' i.only k.only;
      sizes = g.met.S.Steps.only_sizes t t' k.only ∙ i.sizes;
      runs = record {
        keeps = keeps_then o v w i.runs.keeps (writes_keep v w n k.made);
        turns = omega (arith, before, taken, steps, since);
        few = omega (arith, so_far, steps, count, few, end);
        stays = λ e at. (let had = i.runs.stays e at in writing_unfailing m on e had);
      };
      some = λ begun. (let not = ap is_begun next in absurd (cc));
      here = (i.here.0, k.fits z i.here.0 i.here.1);
      fits = λ u fits. k.fits z u (i.fits u fits);
    }
