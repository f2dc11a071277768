-- As long as nothing is held, an attempt may be given up with nothing told.
use Rattle.std.proofs.Common.{◌≡◌, ℕ, ◌<◌, ◌≤◌, length, Bool, true, false, List, [], ◌∷◌, None, inl, refl, sym, ap, ◌∙◌, subst, arith, ⊎_elim}
use Rattle.std.proofs.lemmas.Bool.{eqb-true}
use Rattle.art_attempt.proofs.CaseCells.{reading_so, validating_so}
use Rattle.art_attempt.proofs.Names.{naming_so}
use Rattle.art_attempt.proofs.Numbers.{supplies_so}
use Rattle.art_attempt.proofs.Finds.{ends_reading, within_so}
use Rattle.art_attempt.proofs.Tries.{later_first, still_later}
use Rattle.art_attempt.specs.Attempts.{EndsSo, HasMade, IsFinding, IsReadingOn, PartFits, StageFits, ending_at, free_at}
use Rattle.art_plan.specs.Apply.{is_begun}
use Rattle.art_attempt.specs.Trying.{StillTries}
use Rattle.art_attempt.specs.declared.attempts.Attempt.{Attempt}
use Rattle.art_attempt.specs.declared.attempts.Job.{Job}
use Rattle.art_attempt.specs.declared.attempts.Part.{Part}
use Rattle.art_attempt.specs.declared.attempts.Part.TheVariants as part
use Rattle.art_attempt.specs.declared.attempts.Stage.{Stage}
use Rattle.art_attempt.specs.declared.attempts.Stage.TheVariants as stage
use Rattle.art_attempt.specs.declared.attempts.Room.{Room}
use Rattle.art_find.proofs.Stages.{still_reading}
use Rattle.art_find.specs.declared.findings.Finding.{Finding}
use Rattle.art_find.specs.declared.findings.Position.{Position}
use Rattle.art_find.specs.declared.read_sets.Rereading.{Rereading}
use Rattle.art_epoch.proofs.Stocked.{stock_same}
use Rattle.art_plan.specs.Apply as apply
use Rattle.art_plan.specs.Apply.{IsLocking, so_many}
use Rattle.art_plan.specs.declared.apply.Apply.{Apply}
use Rattle.art_plan.specs.declared.apply.Apply.TheVariants.{Upgrading, Claiming, Filling, Writing, Committing, Releasing, ReleasingNode, GivingUp, Ended}
use Rattle.art_plan.specs.Changes.{IsTarget}
use Rattle.art_plan.specs.Whole.{IsNewBy}
use Rattle.art_plan.specs.declared.changes.Change.{Change}
use Rattle.art_step.specs.Shows.{Rest, rest_of}
use Rattle.art_step.specs.Views.{Member}
use Rattle.art_step.specs.declared.views.Holding.{Holding}
use Rattle.art_step.specs.declared.views.Sizes.{Sizes}
use Rattle.art_step.specs.declared.views.View.{View}

-- ---- before a cell is locked

none_held : (hs : List Holding) → ((h : Holding) → Member h hs → ⊥) → hs ≡ []
none_held [] none = refl
none_held (h ∷ hs) none = absurd (none h (inl refl))

none_new : (b : Bool) → 0 < so_many 0 0 b → ⊥
none_new true some = omega (arith, some)
none_new false some = omega (arith, some)

pub locking_none : (u : View) (c : Change) (v : View) → IsLocking u c 0 [] (so_many 0 0) v → v.held ≡ []
locking_none u c v p = none_held v.held (λ h m. ⊎_elim
    (λ (t : IsTarget u c 0 0 [] h). let low = t.below in absurd (omega (arith, low)))
    (λ (n : IsNewBy u c (so_many 0 0) h). absurd (none_new n.which n.some))
    (p.holds.only h m))

pub begun_locking : (c : Change) (m : Apply) (u v : View) → is_begun m ≡ true → apply.StageFits c m u v → IsLocking u c 0 [] (so_many 0 0) v
begun_locking c (Upgrading i) u v is fits = subst (λ (j : ℕ). IsLocking u c j [] (so_many 0 0) v) (eqb-true i 0 is) fits.1
begun_locking c (Claiming b) u v is fits = cc
begun_locking c (Filling b place) u v is fits = cc
begun_locking c (Writing j) u v is fits = cc
begun_locking c Committing u v is fits = cc
begun_locking c (Releasing i) u v is fits = cc
begun_locking c (ReleasingNode b) u v is fits = cc
begun_locking c (GivingUp locked released e) u v is fits = cc
begun_locking c (Ended r) u v is fits = cc

-- no step of the change was made
pub begun_made : (m : Apply) → is_begun m ≡ true → apply.most_steps m ≡ 0
begun_made (Upgrading i) is = eqb-true i 0 is
begun_made (Claiming b) is = cc
begun_made (Filling b place) is = cc
begun_made (Writing j) is = cc
begun_made Committing is = cc
begun_made (Releasing i) is = cc
begun_made (ReleasingNode b) is = cc
begun_made (GivingUp locked released e) is = cc
begun_made (Ended r) is = cc

-- ---- at each stage

module _ (z : Sizes) (u : View) (j : Job) (r : Room) (v : View) where
  finding_so : length r.row.key.items ≤ 64 → (m : Finding) → IsFinding z u j m r v → EndsSo z u r v
  finding_so short m f =
      let reads = still_reading z r.row.key.items _ m.descent.depth m.descent.stage f.early v f.going f.fits.descent in
      within_so z u 1201 r v (omega arith) (ends_reading z u j m r v v short f (later_first v) (omega arith) reads.only)

  apply_so : (s : Apply) → HasMade z u j s r v → is_begun s ≡ true → EndsSo z u r v
  apply_so s h is =
      let p = begun_locking r.change s h.early v is h.fits.stage in
      let free = locking_none h.early r.change v p in
      let base = h.base in
      let still : StillTries u v = record {
        rest = ap (λ (hs : List Holding). record (rest_of v) { held = hs; hand = u.hand; committed = u.committed }) (free ∙ sym base.free)
            ∙ (ap (λ (o : Rest). record o { hand = u.hand; committed = u.committed }) p.same.rest ∙ base.rest);
        free = free;
        pinned = λ zero. base.pinned (sym (ap (λ (o : Rest). o.pin) p.same.rest) ∙ zero);
        later = still_later u h.early base v h.later;
      } in
      record {
        still = still;
        spent = λ limited. (let spent = h.spent limited in let steps = h.fits.steps in let most = begun_made s is in let more = h.later.failures in omega (arith, spent, steps, most, more));
        has = stock_same z r.row.key.items r.row.value h.early v r.stock (ap (λ (o : Rest). o.hand) p.same.rest) h.has;
      }

  reading_ends : (t : Position) (q : Rereading) → IsReadingOn z u j t q r v → EndsSo z u r v
  reading_ends t q f = reading_so z u f.early f.base r v f.later f.has f.reads.reads 23100 (λ limited. let spent = f.spent limited in omega (arith, spent))

  part_ends : (t : Position) (p : Part) → PartFits z u j t p r v → EndsSo z u r v
  part_ends t (part.Reserve c s) fits = within_so z u 21700 r v (omega arith) (supplies_so z u j t c s r v fits.0)
  part_ends t (part.Reading q) fits = reading_ends t q fits.0
  part_ends t (part.Naming byte n s) fits = within_so z u 21702 r v (omega arith) (naming_so z u j t byte n s r v fits.0)
  part_ends t (part.Validate c s) fits = within_so z u 22500 r v (omega arith) (validating_so z u j t c s r v fits.0)

pub free_so : (z : Sizes) (u : View) (m : Attempt) (r : Room) (v : View) → length r.row.key.items ≤ 64 → (s : Stage) → free_at s ≡ true → ending_at s ≡ None → StageFits z u s m r v → EndsSo z u r v
free_so z u m r v short (stage.Finding f) is going fits = finding_so z u m.job r v short f fits
free_so z u m r v short (stage.Placed t p) is going fits = part_ends z u m.job r v t p fits
free_so z u m r v short (stage.Apply s) is going fits = apply_so z u m.job r v s fits.0 is
free_so z u m r v short (stage.Ended e) is going fits = cc
