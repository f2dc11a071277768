-- The node that takes the place of the one that goes is stamped, and that one is checked.
use Rattle.std.proofs.Common.{◌≡◌, ◌<◌, ◌≤◌, ℕ, true, false, List, Option, Some, refl, ap, ◌∙◌, subst, arith, ⊎_elim}
use Rattle.std.proofs.lemmas.Bool.{cases_Bool}
use Rattle.std.proofs.lemmas.Option.{same_Some}
use Rattle.art_attempt.proofs.CaseCells.{reading_so}
use Rattle.art_attempt.proofs.Finds.{within_so}
use Rattle.art_attempt.proofs.Looks.{no_fewer_named}
use Rattle.art_attempt.specs.Attempts.{EndsSo, EndsWithin, IsNaming}
use Rattle.art_attempt.specs.declared.attempts.Job.{Job}
use Rattle.art_attempt.specs.declared.attempts.Room.{Room}
use Rattle.art_cell.specs.declared.cells.Node.{Node}
use Rattle.art_find.specs.Descents.{IsReading}
use Rattle.art_find.specs.declared.findings.Position.{Position}
use Rattle.art_find.specs.declared.read_sets.ReadSet.{ReadSet}
use Rattle.art_attempt.proofs.Asked.{naming_asks_look}
use Rattle.art_attempt.specs.Naming as naming
use Rattle.art_attempt.specs.declared.naming.Named.{Named}
use Rattle.art_attempt.specs.declared.naming.Named.TheVariants.{Unchanged, Changed}
use Rattle.art_attempt.specs.declared.naming.Naming.{Naming}
use Rattle.art_attempt.specs.declared.naming.Naming.TheVariants as names
use Rattle.art_step.proofs.Counting.{Counted, look_counts}
use Rattle.art_step.specs.Acting.{Answers, goes_on, telling}
use Rattle.art_step.specs.declared.actions.Action.{Action}
use Rattle.art_step.specs.declared.actions.Answer.{Answer}
use Rattle.art_step.specs.declared.deeds.Deed.{Deed}
use Rattle.art_step.specs.declared.views.Sizes.{Sizes}
use Rattle.art_step.specs.declared.views.View.{View}

pub named_as : (m : Naming) (e : Named) → naming.ended_at m ≡ Some e → m ≡ names.Ended e
named_as (names.Ended r) e is = ap names.Ended (same_Some {A = Named} r e is)
named_as (names.Begin n) e is = cc
named_as (names.Check x) e is = cc

-- it only reads
naming_reads : (z : Sizes) (k : List ℕ) (t : Position) (n : Node) (m : Naming) (read_set : ReadSet) (lower : List (Option ℕ)) (u v : View) → naming.StageFits z k t n m read_set lower u v → IsReading u v
naming_reads z k t n (names.Begin m) read_set lower u v fits = fits.0.stands.reads
naming_reads z k t n (names.Check x) read_set lower u v fits = fits.0.stands.reads
naming_reads z k t n (names.Ended (Unchanged x)) read_set lower u v fits = fits.0.stands.reads
naming_reads z k t n (names.Ended Changed) read_set lower u v fits = fits

module _ (z : Sizes) (u : View) (j : Job) (t : Position) (byte : ℕ) (n : Node) (s : Naming) (r : Room) (v : View) (h : IsNaming z u j t byte n s r v) where
  pub naming_on : (w : View) (next : Naming) (lower : List (Option ℕ)) → v.steps ≤ w.steps → naming.Fits z r.row.key.items t n next r.read_set lower h.early w → IsNaming z u j t byte n next (record r { lower = lower }) w
  naming_on w next lower more fits =
      let before = h.later.steps in
      let same = fits.failures in
      let few = no_fewer_named next h.early.failures in
      record {
        early = h.early;
        base = h.base;
        later = record { steps = omega (arith, before, more); failures = omega (arith, same, few) };
        spent = h.spent;
        has = h.has;
        job = h.job;
        leaf = record { found = h.leaf.found; key = h.leaf.key };
        leaves = h.leaves;
        fits = fits;
      }

  pub naming_so : EndsWithin z u 21702 r v
  naming_so = reading_so z u h.early h.base r v h.later h.has (naming_reads z r.row.key.items t n s r.read_set r.lower h.early v h.fits.stage) 21702
      (λ limited. let spent = h.spent limited in let steps = h.fits.steps in let more = h.later.failures in omega (arith, spent, steps, more))

  pub naming_changed : naming.ended_at s ≡ Some Changed → EndsSo z u r v × (u.failures < v.failures)
  naming_changed is =
      let more = h.fits.failures ∙ ap (λ (q : Naming). naming.failures_of q h.early.failures) (named_as s Changed is) in
      let before = h.base.later.failures in
      (within_so z u 21702 r v (omega arith) naming_so, omega (arith, more, before))

-- a naming that has not ended met no failure
going_failures : (t : Position) (m : Naming) (a : Action) (n : ℕ) → naming.asks t m ≡ Some a → naming.failures_of m n ≡ n
going_failures t (names.Begin q) a n is = refl
going_failures t (names.Check x) a n is = refl
going_failures t (names.Ended e) a n is = cc

-- so where it ends as changed, it is the answer that does not go on
pub name_changed_by : (z : Sizes) (k : List ℕ) (t : Position) (n : Node) (m m' : Naming) (read_set : ReadSet) (lower lower' : List (Option ℕ)) (d : Deed) (a : Action) (r : Answer) (u v w : View)
    → naming.Fits z k t n m read_set lower u v → naming.Fits z k t n m' read_set lower' u w → naming.asks t m ≡ Some a → Answers z (telling d) a r v w → naming.ended_at m' ≡ Some Changed → goes_on r ≡ false
name_changed_by z k t n m m' read_set lower lower' d a r u v w before after is row ended = ⊎_elim
    (λ (on : goes_on r ≡ true).
    let step : Counted v w true = subst (Counted v w) on (look_counts z d a r v w (naming_asks_look t m a is) row) in
    let same = step.failures in
    let old = before.failures ∙ going_failures t m a u.failures is in
    let new = after.failures ∙ ap (λ (s : Naming). naming.failures_of s u.failures) (named_as m' Changed ended) in
    absurd (omega (arith, same, old, new)))
    (λ (off : goes_on r ≡ false). off)
    (cases_Bool (goes_on r))
