use Rattle.std.proofs.Common.{◌≡◌, ◌∙◌, ℕ, Option, Some, None, IfSome, inr, ap, subst, sym}
use Rattle.std.specs.Prelude.{IfNone}
use Rattle.art_change.specs.AsAsked.{GoesAsAsked}
use Rattle.art_change.specs.Calls.{FindsOverlap, IsCalling, StaysApart, Wish}
use Rattle.art_change.specs.Made.{MakesStep}
use Rattle.art_change.specs.declared.callers.Caller.{Caller}
use Rattle.art_change.specs.declared.driver.Made.{Made}
use Rattle.art_change.specs.declared.outcomes.Outcome.{Outcome}
use Rattle.art_runs.specs.Ops.{AsksLast, EndsAsCalled, Goes, MakesLast, caller_in, last_in}
use Rattle.art_runs.specs.declared.ops.Op.{Op}
use Rattle.art_step.specs.WordRows.{view_at}
use Rattle.art_step.specs.declared.views.Sizes.{Sizes}
use Rattle.art_step.specs.declared.views.View.{View}
use Rattle.art_world.specs.Stepper.{OnlyStepped, only_sizes, pass_of, sizes_of, view_of, world_of}
use Rattle.art_world.specs.declared.world.Stepper.{Stepper}
use Rattle.art_runs.proofs.ops.OpActor.turn.Goals as goal

made_by : (z : Sizes) (v w : View) (P : Type 0) (o : Option Made) → IfSome o (MakesStep z v w) → IfNone o ((w ≡ v) × P) → MakesLast z o v w
made_by z v w P None some none = none.0
made_by z v w P (Some made) some none = some

asked_by : (z : Sizes) (v w : View) (c d : Caller) (o : Option Made) → IfSome o (λ (made : Made). GoesAsAsked z v c w d) → AsksLast z o v c w d
asked_by z v w c d None some = tt
asked_by z v w c d (Some made) some = some

so_ended : (P : Outcome → Type 0) (r s : Option Outcome) → r ≡ s → IfSome r P → (o : Outcome) → s ≡ Some o → P o
so_ended P r s same told o is = subst (λ (x : Option Outcome). IfSome x P) (same ∙ is) told

-- it goes on at the stepper as it is now
goes_on : (s t : Stepper) (c : Caller) (w : Wish) (given turns : ℕ) (u : View) → OnlyStepped s t → IsCalling (sizes_of s) w given turns u c (view_of t) → IsCalling (sizes_of t) w given turns u c (view_of t)
goes_on s t c w given turns u only calling = subst (λ (z : Sizes). IsCalling z w given turns u c (view_of t)) (sym (only_sizes s t only)) calling

goes_at : (s t : Stepper) (a b : Op) → OnlyStepped s t → MakesLast (sizes_of s) (last_in b) (view_of s) (view_of t) → AsksLast (sizes_of s) (last_in b) (view_of s) (caller_in a) (view_of t) (caller_in b)
    → ((w : Wish) (given turns : ℕ) (u : View) → IsCalling (sizes_of s) w given turns u (caller_in a) (view_of s) → IsCalling (sizes_of s) w given turns u (caller_in b) (view_of t))
    → EndsAsCalled b → ((FindsOverlap (sizes_of s) (caller_in a) (view_of s) (view_of t) → ⊥) → StaysApart (caller_in a) → StaysApart (caller_in b)) → Goes (pass_of s) a (world_of s) b (world_of t)
goes_at s t a b only step asked calling ends apart =
    let same : view_of t ≡ view_at (world_of t).views (pass_of s) = ap (λ (p : ℕ). view_at (world_of t).views p) only.pass in
    record {
      last = subst (λ (x : View). MakesLast (sizes_of s) (last_in b) (view_of s) x) same step;
      asked = subst (λ (x : View). AsksLast (sizes_of s) (last_in b) (view_of s) (caller_in a) x (caller_in b)) same asked;
      calling = λ w given turns u goes. subst (λ (x : View). IsCalling (sizes_of t) w given turns u (caller_in b) x) same (goes_on s t (caller_in b) w given turns u only (calling w given turns u goes));
      ends = ends;
      apart = subst (λ (x : View). (FindsOverlap (sizes_of s) (caller_in a) (view_of s) x → ⊥) → StaysApart (caller_in a) → StaysApart (caller_in b)) same apart;
    }

pub returns-clause-fits : goal.returns-clause-fits
returns-clause-fits c =
    let f = c.requires.fits in
    let s = c.args.stepper.now in
    let t = c.step-self.new.steps in
    record {
      wish = f.wish;
      given = f.given;
      turns = f.turns;
      began = f.began;
      calling = goes_on s t c.step-self.new.self f.wish f.given f.turns f.began c.step-self.ensures.only
          (c.step-self.ensures.calling f.wish f.given f.turns f.began (subst (λ (a : Caller). IsCalling (sizes_of s) f.wish f.given f.turns f.began a (view_of s)) (sym c.deref_mut.ensures.value) f.calling));
    }

pub returns-clause-makes : goal.returns-clause-makes
returns-clause-makes c =
    let s = c.args.stepper.now in
    let t = c.step-self.new.steps in
    goes_at s t c.args.self.now _ c.step-self.ensures.only (made_by (sizes_of s) (view_of s) (view_of t) _ c.step-self.result c.step-self.ensures.some c.step-self.ensures.none)
    (subst (λ (a : Caller). AsksLast (sizes_of s) c.step-self.result (view_of s) a (view_of t) c.step-self.new.self) c.deref_mut.ensures.value
    (asked_by (sizes_of s) (view_of s) (view_of t) _ c.step-self.new.self c.step-self.result c.step-self.ensures.asked))
    (λ w given turns u calling. c.step-self.ensures.calling w given turns u (subst (λ (a : Caller). IsCalling (sizes_of s) w given turns u a (view_of s)) (sym c.deref_mut.ensures.value) calling))
    (λ o is. so_ended _ c.outcome-ended.result _ c.outcome-ended.ensures.at c.outcome-ended.ensures.called o is)
    (λ none apart. c.step-self.ensures.apart
    (inr (λ o. none (subst (λ (a : Caller). FindsOverlap (sizes_of s) a (view_of s) (view_of t)) c.deref_mut.ensures.value o)))
    (subst StaysApart (sym c.deref_mut.ensures.value) apart))
