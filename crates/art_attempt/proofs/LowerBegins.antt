-- The node below is begun, and the node that names it is checked.
use Rattle.std.proofs.Common.{◌≡◌, ℕ, ◌+◌, ◌≤◌, arith, List, Option, Some, None, replicate, true, false, refl, sym, ap, ◌∙◌, subst}
use Rattle.std.specs.Prelude.{IfSome, Ok, Err, ⊤}
use Rattle.std.proofs.lemmas.Option.{same_Some}
use Rattle.art_cell.specs.declared.cells.Cell.TheVariants as cell
use Rattle.art_cell.specs.declared.cells.Node.{Node}
use Rattle.art_find.proofs.Keeping.{Grows, begun_grows, nothing_kept, passed_grows}
use Rattle.art_find.proofs.Stages.{reads_on}
use Rattle.art_find.specs.Asking.{MayLook}
use Rattle.art_find.specs.declared.findings.Position.{Position}
use Rattle.art_find.specs.declared.read_sets.ReadSet.{ReadSet}
use Rattle.art_attempt.proofs.LowerNames.{is_other, led_to, may_begin, parent, path_to}
use Rattle.art_attempt.proofs.Standing.{lower_grows, names_on, passed_later, stands_grows}
use Rattle.art_attempt.specs.Naming.{Fits, IsBelow, IsLower, StageFits, StillNames, WouldLead, asks}
use Rattle.art_attempt.specs.declared.naming.Naming.{Naming}
use Rattle.art_attempt.specs.declared.naming.Named.TheVariants.{Unchanged, Changed}
use Rattle.art_attempt.specs.declared.naming.Naming.TheVariants.{Begin, Check, Ended}
use Rattle.art_step.specs.Acting.{Answers, telling, passed}
use Rattle.art_step.specs.declared.actions.Action.{Action}
use Rattle.art_step.specs.declared.actions.Action.TheVariants as action
use Rattle.art_step.specs.declared.actions.Answer.{Answer}
use Rattle.art_step.specs.declared.actions.Answer.TheVariants.{Begun, Word, Checked, Upgraded, Done}
use Rattle.art_plan.proofs.WholeCells.{above_is}
use Rattle.art_step.proofs.Shows.{begun_clear, begun_rest, begun_stamp, failed_rest, passed_rest}
use Rattle.art_step.specs.Shows.{HasStamp, OnlyReads}
use Rattle.art_step.specs.Steps.Begin as begin
use Rattle.art_step.specs.Steps.Check as check
use Rattle.art_step.specs.declared.deeds.Deed.{Deed}
use Rattle.art_step.specs.declared.views.Sizes.{Sizes}
use Rattle.art_step.specs.declared.views.Stamp.{Stamp}
use Rattle.art_step.specs.declared.views.View.{View}

pub check_allowed : (z : Sizes) (v : View) (x : Stamp) → HasStamp z v x → MayLook z (λ s. ⊤) v (action.Check x)
check_allowed z v x has = (has.inside, record { stamp = has.stamp; tells = tt })

-- ---- what it asks for may be done

module _ (z : Sizes) (k : List ℕ) (t : Position) (n : Node) (read_set : ReadSet) (lower : List (Option ℕ)) (u v : View) where
  pub allowed : (m : Naming) → StageFits z k t n m read_set lower u v → IfSome (asks t m) (MayLook z (λ s. ⊤) v)
  allowed (Begin m) fits =
      let may = may_begin z k t n read_set u v fits.0 in
      subst (λ (o : Node). MayLook z (λ s. ⊤) v (action.Begin (cell.Node o))) (sym fits.1)
      (may.1, record { pinned = fits.0.stands.reads.pinned; named = may.0 })
  allowed (Check x) fits = check_allowed z v t.stamp fits.0.stands.standing.stamp
  allowed (Ended e) fits = tt

-- ---- the node below is begun

module _ (z : Sizes) (k : List ℕ) (t : Position) (n : Node) (read_set : ReadSet) (u v w : View) where
  names_grow : Grows v w → OnlyReads v w → v.steps ≤ w.steps → StillNames z k t n read_set u v → StillNames z k t n read_set u w
  names_grow grows only later names = names_on z k t n read_set read_set refl u v w (stands_grows z k t read_set u v w grows only later names.stands) names

  begun_on : (x : Stamp) → StillNames z k t n read_set u v → begin.Outcome z v w (cell.Node n) (Ok x) → StillNames z k t n read_set u w × IsLower z n x (replicate 266 None) w
  begun_on x names row = (
    names_grow (begun_grows z v w (cell.Node n) x.version row.1 row.2) (begun_rest z v w (cell.Node n) x.version row.2)
        (let step = ap (λ (s : View). s.steps) (row.2 ∙ begun_clear z v (cell.Node n) x.version row.1) in omega (arith, step)) names,
    record {
      cell = ap (λ (a : Stamp). a.cell) row.0;
      stamp = begun_stamp z v w (cell.Node n) x row.0 row.1 row.2 (may_begin z k t n read_set u v names).1;
      kept = nothing_kept z w x (replicate 266 None) refl;
    },
  )

pub begun_told : (z : Sizes) (k : List ℕ) (t : Position) (m n : Node) (read_set : ReadSet) (lower : List (Option ℕ)) (d : Deed) (asked : Action) (answer : Answer) (x : Stamp) (u v w : View)
    → Fits z k t n (Begin m) read_set lower u v → asks t (Begin m) ≡ Some asked → answer ≡ Begun (Ok x) → Answers z (telling d) asked answer v w → Fits z k t n (Check x) read_set (replicate 266 None) u w
begun_told z k t m n read_set lower d asked answer x u v w fits is told row =
    let at : action.Begin (cell.Node m) ≡ asked = same_Some {A = Action} (action.Begin (cell.Node m)) asked is in
    let begun : begin.Outcome z v w (cell.Node m) (Ok x) =
    subst (λ (r : Answer). Answers z (telling d) (action.Begin (cell.Node m)) r v w) told (subst (λ (a : Action). Answers z (telling d) a answer v w) (sym at) row) in
    let now : begin.Outcome z v w (cell.Node n) (Ok x) = subst (λ (o : Node). begin.Outcome z v w (cell.Node o) (Ok x)) fits.stage.1 begun in
    record {
      stage = begun_on z k t n read_set u v w x fits.stage.0 now;
      failures = ap (λ (s : View). s.failures) (now.2 ∙ begun_clear z v (cell.Node n) x.version now.1) ∙ fits.failures;
      steps = let step = ap (λ (s : View). s.steps) (now.2 ∙ begun_clear z v (cell.Node n) x.version now.1) in let few = fits.steps in omega (arith, step, few);
    }

-- ---- the node where the key stands was checked

module _ (z : Sizes) (k : List ℕ) (t : Position) (n : Node) (read_set : ReadSet) (u v w : View) (names : StillNames z k t n read_set u v) (passed : check.Unchanged z v w t.stamp None) where
  named_on : StillNames z k t n read_set u w
  named_on = names_grow z k t n read_set u v w (passed_grows z v w t.stamp None passed) (passed_rest z v w t.stamp passed) (passed_later z v w t.stamp passed) names

  named_below : (x : Stamp) (lower : List (Option ℕ)) → IsLower z n x lower v → IsBelow z k t read_set n x lower w
  named_below x lower on = record {
    on = lower_grows z n v w x lower (passed_grows z v w t.stamp None passed) on;
    parent = parent z k t n read_set u v names w passed;
    other = is_other z k t n read_set u v names w passed;
    path = path_to z k t n read_set u v names w passed x on.stamp.stamp on.cell;
    led = led_to z k t n read_set u v names w passed x on.stamp.stamp on.cell;
  }

  named_leads : WouldLead k t read_set n w
  named_leads a is at = led_to z k t n read_set u v names w passed a.stamp (above_is z k t read_set v names.stands.standing names.here names.is a is).on.stamp at

-- where it succeeded, and where it failed
module _ (z : Sizes) (k : List ℕ) (t : Position) (n : Node) (read_set : ReadSet) (lower : List (Option ℕ)) (d : Deed) (x : Stamp) (u v w : View) (fits : Fits z k t n (Check x) read_set lower u v) where
  name_passed : check.Unchanged z v w t.stamp None → Fits z k t n (Ended (Unchanged x)) read_set lower u w
  name_passed passed = record {
    stage = (
      named_on z k t n read_set u v w fits.stage.0 passed,
      named_below z k t n read_set u v w fits.stage.0 passed x lower fits.stage.1,
      named_leads z k t n read_set u v w fits.stage.0 passed,
    );
    failures = ap (λ (s : View). s.failures) passed.is ∙ fits.failures;
    steps = let step = ap (λ (s : View). s.steps) passed.is in let few = fits.steps in omega (arith, step, few);
  }

  pub name_told : (answer : Answer) (e : Naming) → (passed answer ≡ true → e ≡ Ended (Unchanged x)) → (passed answer ≡ false → e ≡ Ended Changed) → Answers z (telling d) (action.Check t.stamp) answer v w → Fits z k t n e read_set lower u w
  name_told (Begun r) e on off row = absurd row
  name_told (Word word) e on off row = absurd row
  name_told (Upgraded r) e on off row = absurd row
  name_told Done e on off row = absurd row
  name_told (Checked (Ok done)) e on off row = subst (λ (m : Naming). Fits z k t n m read_set lower u w) (sym (on refl)) (name_passed row)
  name_told (Checked (Err c)) e on off row = subst (λ (m : Naming). Fits z k t n m read_set lower u w) (sym (off refl)) (record {
    stage = reads_on u v w (failed_rest v w t.stamp c.found row.3) fits.stage.0.stands.reads;
    failures = ap (λ (s : View). s.failures) row.3.is ∙ ap (λ (i : ℕ). i + 1) fits.failures;
    steps = let step = ap (λ (s : View). s.steps) row.3.is in let few = fits.steps in omega (arith, step, few);
  })
