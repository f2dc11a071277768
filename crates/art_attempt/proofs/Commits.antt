-- The change is planned, and made or given up.
use Rattle.std.proofs.Common.{◌≡◌, ℕ, List, false, Option, Some, None, refl, sym, ap, ◌∙◌, subst, arith}
use Rattle.std.specs.Prelude.{Ok, Err, Result, ⊤}
use Rattle.std.specs.Option.{option_map}
use Rattle.arrayvec.specs.ArrayVec.{ArrayVec}
use Rattle.art_attempt.proofs.Chosen.{goes_later, goes_since, leaf_effects, leaf_way}
use Rattle.art_attempt.proofs.Tries.{event_since, limbo_committed, rest_committed, still_fails, still_later, stock_fails}
use Rattle.art_attempt.specs.Attempts.{EndsBy, EndsSo, HasMade, HasWritten, MayMake, given_up}
use Rattle.art_attempt.specs.Cases.{HasLeaf, IsCaseOf, IsTold, LocksChecked, leaves_by, locks_of, made_by}
use Rattle.art_attempt.specs.Rooms.{spent_by}
use Rattle.art_attempt.specs.Trying.{StoodAtCheck}
use Rattle.art_attempt.specs.declared.attempts.Job.{Job}
use Rattle.art_attempt.specs.declared.attempts.Job.TheVariants.{Insert, Remove}
use Rattle.art_attempt.specs.declared.attempts.Case.{Case}
use Rattle.art_attempt.specs.declared.attempts.Room.{Room}
use Rattle.art_cell.specs.declared.cells.Link.TheVariants.{Node as node}
use Rattle.art_cell.specs.declared.cells.Node.{Node}
use Rattle.art_find.specs.declared.findings.Position.{Position}
use Rattle.art_epoch.proofs.Stocked.{linked_are_in, stock_commits}
use Rattle.art_epoch.specs.Stocks.{IsIn}
use Rattle.art_step.specs.declared.actions.Effects.{Effects}
use Rattle.art_plan.proofs.Told.{ends_as}
use Rattle.art_plan.specs.Apply as apply
use Rattle.art_plan.specs.Apply.{HasFailed, IsOver, KeepsCheck}
use Rattle.art_plan.specs.declared.apply.Apply.{Apply}
use Rattle.art_model.specs.declared.commands.Answer.TheVariants as reply
use Rattle.art_plan.specs.Changes.{IsPlanned, node_made, targets}
use Rattle.art_plan.specs.ChooseInsert.Plans.{LocksOnly}
use Rattle.art_plan.specs.Remove.Removals.{remove_effects}
use Rattle.art_plan.specs.Whole.{twin_node}
use Rattle.art_plan.specs.declared.changes.Twin.{Twin}
use Rattle.art_plan.specs.declared.insert.NewLeaf.{NewLeaf as Row}
use Rattle.art_plan.specs.declared.remove.OldLeaf.{OldLeaf}
use Rattle.art_step.specs.Deeds.{IsAdmitted}
use Rattle.art_step.specs.Events.{MakesEvent}
use Rattle.art_step.specs.declared.deeds.Act.TheVariants as act
use Rattle.art_step.specs.declared.deeds.Deed.{Deed}
use Rattle.art_step.specs.declared.deeds.Deed.TheVariants.{Done}
use Rattle.art_step.specs.declared.faults.UpgradeFault.{UpgradeFault}
use Rattle.art_step.specs.declared.faults.UpgradeFault.TheVariants as fault
use Rattle.art_step.specs.declared.views.Sizes.{Sizes}
use Rattle.art_step.specs.declared.views.View.{View}

-- ---- a plan for a leaf that goes

module _ (z : Sizes) (u : View) (j : Job) (t : Position) (r : Room) (v : View) (job : j ≡ Remove) (leaf : HasLeaf t r) (stood : StoodAtCheck z u r.row.key.items t r.read_set v) where
  -- in this case
  module _ (c : Case) (goes : IsCaseOf Remove c) (effects : r.change.effects ≡ remove_effects r.gone (leaves_by c t)) where
    none_comes : (l : ℕ) → r.change.effects.leaf ≡ Some l → r.stock.leaf ≡ Some l
    none_comes l at = let no : None ≡ Some l = sym (ap (λ (e : Effects). e.leaf) effects) ∙ at in cc

    removes : r.change.effects.deed ≡ made_by j r.row r.gone
    removes = ap (λ (e : Effects). e.deed) effects ∙ (ap (λ (k : ArrayVec ℕ). Done (act.Remove k) (reply.Removed r.gone.value)) leaf.key ∙ sym (ap (λ (j : Job). made_by j r.row r.gone) job))

    pub leaf_may : IsPlanned z v r.change → IsTold z c t r.read_set r.gone u v → targets r.change ≡ locks_of c → LocksOnly (LocksChecked u c t v) r.change → MayMake z u j t c r v
    leaf_may planned told locks each = record {
      case = subst (λ (j : Job). IsCaseOf j c) (sym job) goes;
      planned = planned;
      leaf = none_comes;
      deed = removes;
      goes = record {
        told = leaf_way z u t r v c goes (record { leaf = leaf; stood = stood; told = told; locks = locks });
        effects = effects ∙ sym (leaf_effects z u t r v c goes);
      };
      locks = each;
    }

-- what is committed is of the row's key
pub made_admitted : (A : List ℕ → Type 0) (j : Job) (row : Row) (gone : OldLeaf) → A row.key.items → IsAdmitted A (made_by j row gone)
made_admitted A Insert row gone is = is
made_admitted A Remove row gone is = is

-- ---- it is made

module _ (z : Sizes) (u : View) (j : Job) (s : Apply) (r : Room) (v : View) (h : HasMade z u j s r v) where
  -- it goes on
  pub made_on : (w : View) (next : Apply) → KeepsCheck v w → apply.Fits z r.change next h.early w → HasMade z u j next r w
  made_on w next keeps fits =
      let before = h.later.steps in
      let failed = h.later.failures in
      let more = keeps.steps in
      let again = keeps.failures in
      record {
        position = h.position;
        chosen = h.chosen;
        early = h.early;
        base = h.base;
        later = record { steps = omega (arith, before, more); failures = omega (arith, failed, again) };
        spent = h.spent;
        case = h.case;
        locks = λ i x at.
            let lock = h.locks i x at in
            let done = lock.checked.done in
            record { by = lock.by; checked = record { step = lock.checked.step; after = lock.checked.after; done = omega (arith, done, more); found = keeps.found _ lock.checked.found } };
        goes = goes_later z u h.position h.chosen r v w keeps h.goes;
        has = h.has;
        plain = h.plain;
        leaf = h.leaf;
        deed = h.deed;
        fits = fits;
      }

  module _ (made : Result ⊤ UpgradeFault) (is : apply.ended_at s ≡ Some made) where
    over : IsOver h.early r.change made v
    over = (ends_as z h.early v r.change s made h.fits is).0

    -- it is made
    pub change_written : made ≡ Ok tt → HasWritten z u j h.position h.chosen (record r { stock = spent_by r.change r.stock }) v
    change_written ok =
        let done = over.done tt ok in
        let nodes : (n : Node) → node_made r.change ≡ Some n → IsIn r.stock (node n) =
        λ n at. let hand = (h.fits.planned.new false n at).hand in subst (IsIn r.stock) hand.2 (h.has.only hand.0 hand.1) in
        record {
          case = h.case;
          event = event_since u h.early h.base v (made_by j r.row r.gone) (subst (λ (d : Deed). MakesEvent h.early v d) h.deed done.event);
          goes = goes_since z u h.position u (record r { stock = spent_by r.change r.stock }) r.stock v v (omega arith) (omega arith) (λ x there. there) refl h.chosen h.goes;
          pins = done.pins;
          limbo = limbo_committed u h.early h.base v r.change done over.free;
          once = done.once;
          rest = rest_committed u h.early h.base v r.change done over.free;
          free = over.free;
          later = still_later u h.early h.base v h.later;
          has = stock_commits z r.row.key.items r.row.value h.early v r.change r.stock done (linked_are_in r.change r.stock (ap (λ (o : Option Twin). option_map twin_node o) h.plain) h.leaf nodes) h.has;
        }

    -- it was given up
    pub change_given_up : (e : UpgradeFault) → made ≡ Err e → EndsBy z u j h.position h.chosen r (given_up e) v
    change_given_up e err = by_fault e (over.failed e err)
      where
        so : (f : UpgradeFault) → HasFailed h.early r.change f v → EndsSo z u r v
        so f failed = record {
          still = still_fails u h.early h.base v h.later r.change f failed over.free;
          spent = λ limited.
              let spent = h.spent limited in
              let steps = (ends_as z h.early v r.change s made h.fits is).1 in
              let more = h.later.failures in
              omega (arith, spent, steps, more);
          has = stock_fails z r.row.key.items r.row.value h.early v r.stock r.change f failed h.has;
        }

        by_fault : (f : UpgradeFault) → HasFailed h.early r.change f v → EndsBy z u j h.position h.chosen r (given_up f) v
        by_fault (fault.Changed c) failed =
            let more = failed.fails.3 in
            let before = h.base.later.failures in
            (so (fault.Changed c) failed, omega (arith, more, before))
        by_fault (fault.Exhausted c) failed = (
          so (fault.Exhausted c) failed,
          record {
            case = h.case;
            deed = h.deed;
            goes = h.goes;
            index = failed.index;
            target = failed.target;
            is = failed.is;
            cell_is = failed.fails.0;
            at_end = failed.fails.1;
            locks = h.locks failed.index failed.target failed.is;
          },
        )
