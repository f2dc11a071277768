-- An attempt that alone makes steps: what it asks for is founded.
use Rattle.std.proofs.Common.{◌≡◌, ◌<◌, ◌≤◌, ℕ, Bool, true, false, List, [], length, Option, Some, None, IfSome, refl, sym, ap, ◌∙◌, subst, arith, ⊎_elim}
use Rattle.std.proofs.lemmas.Option.{same_Some}
use Rattle.std.specs.Option.{option_and_then, option_map}
use Rattle.art_change.proofs.ArtAttempt.Free.{free_so}
use Rattle.art_change.proofs.ArtAttempt.Finds.{finding_allowed}
use Rattle.art_change.proofs.ArtAttempt.Given.{ask_looks}
use Rattle.art_change.proofs.ArtAttempt.Asked.{naming_asks_look, reads_look, validate_asks_look}
use Rattle.art_change.specs.ArtAttempt.Asking.{IsAllowed}
use Rattle.art_change.specs.ArtAttempt.Attempts as attempts
use Rattle.art_change.specs.ArtAttempt.Cases.{cells_of, demand_of}
use Rattle.art_change.specs.ArtAttempt.declared.attempts.Job.{Job}
use Rattle.art_change.specs.ArtAttempt.Trying.{StillTries}
use Rattle.art_change.specs.ArtAttempt.declared.attempts.Attempt.{Attempt}
use Rattle.art_change.specs.ArtAttempt.declared.attempts.Stage.{Stage as AttemptStage}
use Rattle.art_change.specs.ArtAttempt.declared.attempts.Stage.TheVariants as attempt
use Rattle.art_change.specs.ArtAttempt.declared.attempts.Part.{Part}
use Rattle.art_change.specs.ArtAttempt.declared.attempts.Part.TheVariants as part
use Rattle.art_change.specs.ArtAttempt.declared.attempts.Room.{Room}
use Rattle.art_cell.specs.declared.cells.Cell.{Cell as CellOf}
use Rattle.art_cell.specs.declared.cells.Cell.TheVariants as cell
use Rattle.art_cell.specs.declared.cells.Node.{Node}
use Rattle.art_change.proofs.ArtFind.Allowed.{none_held}
use Rattle.art_change.specs.ArtFind.Descents as descents
use Rattle.art_change.specs.ArtAttempt.Reserve as reserve
use Rattle.art_change.specs.ArtAttempt.declared.reserve.Reserve.{Reserve}
use Rattle.art_change.specs.ArtAttempt.declared.reserve.Demand.{Demand}
use Rattle.art_change.proofs.ArtPlan.Told.{map_some}
use Rattle.art_change.specs.ArtPlan.Apply as apply
use Rattle.art_change.specs.ArtPlan.Apply.{put_into, releases, so_many}
use Rattle.art_change.specs.ArtPlan.declared.apply.Apply.{Apply}
use Rattle.art_change.specs.ArtPlan.declared.apply.Apply.TheVariants.{Upgrading, Claiming, Filling, Writing, Committing, Releasing, ReleasingNode, GivingUp, Ended}
use Rattle.art_change.specs.ArtFind.Findings.{position_at}
use Rattle.art_change.specs.ArtFind.declared.findings.Position.{Position}
use Rattle.art_change.specs.ArtPlan.Changes.{IsTarget, put_at, target_at}
use Rattle.art_change.specs.ArtPlan.Whole.{HoldsWhole, IsNewBy, IsWhole, made_at, made_word}
use Rattle.art_change.specs.ArtPlan.declared.changes.Change.{Change as ChangeOf}
use Rattle.art_change.specs.ArtPlan.declared.changes.Put.{Put}
use Rattle.art_change.specs.ArtPlan.declared.changes.Target.{Target}
use Rattle.art_step.specs.Acting.{IsLook}
use Rattle.art_step.specs.declared.actions.Action.{Action}
use Rattle.art_step.specs.declared.actions.Action.TheVariants.{Begin, Read, ReadLeaf, Check, Settle, Upgrade, Claim, Write, WriteLeaf, Commit, Release}
use Rattle.art_step.specs.declared.actions.Action.TheVariants.{ClearBit, GiveBack, Free, ReadEpoch, StorePin, RaiseEpoch, ReadPin}
use Rattle.art_runs.proofs.Calm.{IsCellFounded, IsFounded, IsLedTo}
use Rattle.art_runs.proofs.Cells.{descent_founded, naming_begins, reads_only, validate_begins_none}
use Rattle.art_runs.proofs.Numbers.{supply_founded}
use Rattle.art_runs.specs.OthersIdle.{HasFound}
use Rattle.art_step.specs.Shows.{Rest}
use Rattle.art_step.specs.Views.{IsNotHeld, Memory}
use Rattle.art_step.specs.declared.deeds.Deed.{Deed}
use Rattle.art_step.specs.declared.views.Holding.{Holding}
use Rattle.art_step.specs.declared.views.Sizes.{Sizes}
use Rattle.art_step.specs.declared.views.Stamp.{Stamp}
use Rattle.art_step.specs.declared.views.View.{View}
use Rattle.art_world.specs.Lasting.{IsTimely}

-- ---- the making of a change

none_new : (b : Bool) → 0 < so_many 0 0 b → ⊥
none_new true some = omega (arith, some)
none_new false some = omega (arith, some)

-- the targets above it are other cells
not_locked_yet : (z : Sizes) (u : View) (c : ChangeOf) (i : ℕ) (x : Target) (hs : List Holding) → IsWhole z u c → target_at c i ≡ Some x → HoldsWhole u c 0 i [] (so_many 0 0) hs → IsNotHeld hs x.stamp.cell
not_locked_yet z u c i x hs planned is holds h there same = ⊎_elim
    (λ (t : IsTarget u c 0 i [] h).
    let one = planned.apart t.index i t.target x t.is is (sym t.locked.cell ∙ same) in
    let below = t.below in
    absurd (omega (arith, one, below)))
    (λ (n : IsNewBy u c (so_many 0 0) h). absurd (none_new n.which n.some))
    (holds.only h there)

module _ (z : Sizes) (m : Memory) (d : Deed) (c : ChangeOf) (u v : View) (a : Action) (may : IsAllowed z d c v a) where
  asks_founded : {A : Type 0} (f : A → Action) (o : Option A) → option_map f o ≡ Some a → ((x : A) → IsFounded z m v (f x)) → IsFounded z m v a
  asks_founded f o is founded = let k = map_some f o a is in subst (IsFounded z m v) k.2 (founded k.0)

  puts_founded : (p : Option Put) → option_and_then (λ (q : Put). option_map (put_into q) (target_at c q.target)) p ≡ Some a → IsFounded z m v a
  puts_founded (Some q) is = asks_founded (put_into q) (target_at c q.target) is (λ x. tt)
  puts_founded None is = absurd (cc)

  upgrade_founded : (i : ℕ) → IsWhole z u c → HoldsWhole u c 0 i [] (so_many 0 0) v.held → (x : Target) → target_at c i ≡ Some x → Upgrade x.stamp ≡ a → IsFounded z m v a
  upgrade_founded i planned holds x is same =
      let allowed : IsAllowed z d c v (Upgrade x.stamp) = subst (IsAllowed z d c v) (sym same) may in
      subst (IsFounded z m v) same (allowed.stamp, not_locked_yet z u c i x v.held planned is holds)

  apply_founded : (n : Apply) → apply.Fits z c n u v → apply.asks c n ≡ Some a → IsFounded z m v a
  apply_founded (Upgrading i) fits is =
      let k = map_some (λ (x : Target). Upgrade x.stamp) (target_at c i) a is in
      upgrade_founded i fits.planned fits.stage.1.holds k.0 k.1 k.2
  apply_founded (Claiming b) fits is = asks_founded Claim (made_at b c) is (λ n. tt)
  apply_founded (Filling b place) fits is = asks_founded (λ (n : Node). Write (cell.Node n) place (made_word b c place)) (made_at b c) is (λ n. tt)
  apply_founded (Writing j) fits is = puts_founded (put_at c j) is
  apply_founded Committing fits is = asks_founded (λ (x : Target). Commit x.stamp.cell x.obsolete) (target_at c 0) is (λ x. tt)
  apply_founded (Releasing i) fits is = asks_founded releases (target_at c i) is (λ x. tt)
  apply_founded (ReleasingNode b) fits is = asks_founded (λ (n : Node). Release (cell.Node n) false) (made_at b c) is (λ n. tt)
  apply_founded (GivingUp locked released e) fits is = asks_founded (λ (x : Target). Release x.stamp.cell false) (target_at c released) is (λ x. tt)
  apply_founded (Ended r) fits is = absurd (cc)

-- ---- looks of an attempt, while nothing is held

-- a check is of a stamp; what is begun has to be shown
looks_founded : (z : Sizes) (m : Memory) (d : Deed) (c : ChangeOf) (v : View) → v.held ≡ [] → (a : Action) → IsLook a → IsAllowed z d c v a → ((b : CellOf) → a ≡ Begin b → IsLedTo z v b) → IsFounded z m v a
looks_founded z m d c v free (Begin b) is may led = (free, led b refl)
looks_founded z m d c v free (Read x i) is may led = tt
looks_founded z m d c v free (ReadLeaf x l i) is may led = tt
looks_founded z m d c v free (Check x) is may led = (may.1.stamp, none_held v x.cell free)
looks_founded z m d c v free (Settle x) is may led = (may.1.stamp, none_held v x.cell free)
looks_founded z m d c v free (Upgrade x) is may led = absurd is
looks_founded z m d c v free (Claim n) is may led = absurd is
looks_founded z m d c v free (Write b i word) is may led = absurd is
looks_founded z m d c v free (WriteLeaf l i word) is may led = absurd is
looks_founded z m d c v free (Commit b o) is may led = absurd is
looks_founded z m d c v free (Release b o) is may led = absurd is
looks_founded z m d c v free (ClearBit pool i bit) is may led = absurd is
looks_founded z m d c v free (GiveBack e) is may led = absurd is
looks_founded z m d c v free (Free e) is may led = absurd is
looks_founded z m d c v free ReadEpoch is may led = absurd is
looks_founded z m d c v free (StorePin y) is may led = absurd is
looks_founded z m d c v free RaiseEpoch is may led = absurd is
looks_founded z m d c v free (ReadPin q) is may led = absurd is

-- what a descent begins was led to
descent_led : (z : Sizes) (v : View) (o : Option Action) → IfSome o (IsCellFounded z v) → (c : CellOf) → o ≡ Some (Begin c) → IsLedTo z v c
descent_led z v (Some a) founded c is = (subst (IsCellFounded z v) (same_Some a (Begin c) is) founded).1
descent_led z v None founded c is = absurd (cc)

-- the check of a place begins nothing
check_only : (b : Bool) (x : Stamp) (c : CellOf) → attempts.check_as b x ≡ Begin c → ⊥
check_only true x c is = cc
check_only false x c is = cc

place_led : (z : Sizes) (v : View) (j : Job) (p : Option Position) (o : Option Action) → IfSome o (IsCellFounded z v) → (c : CellOf) → attempts.asks_place j p o ≡ Some (Begin c) → IsLedTo z v c
place_led z v j (Some t) o founded c is = absurd (check_only (attempts.settles j t.verdict) t.stamp c (same_Some (attempts.check_of j t) (Begin c) is))
place_led z v j None o founded c is = descent_led z v o founded c is

-- ---- an attempt, of a call that began with the view u, and that itself began with the view b

module _ (z : Sizes) (m : Memory) (u b v : View) (had : HasFound m u v) (timely : IsTimely u) (late : u.steps ≤ b.steps) (begun : b.own ≡ u.own) (d : Deed) (r : Room) (a : Action) (may : IsAllowed z d r.change v a) where
  -- it is a look
  cell_founded : (o : Option Action) → o ≡ Some a → IsLook a → v.held ≡ [] → ((c : CellOf) → o ≡ Some (Begin c) → IsLedTo z v c) → IsFounded z m v a
  cell_founded o is look free led = looks_founded z m d r.change v free a look may (λ c same. led c (is ∙ ap (λ (x : Action). Some x) same))

  -- or a supply, of an attempt that has told nothing
  supplies_founded : (demand : Demand) (k : List ℕ) (value : ℕ) (early : View) (s : Reserve) → StillTries b early → StillTries b v → reserve.StageFits z demand k value s r.stock early v
      → reserve.asks k value r.stock s ≡ Some a → IsFounded z m v a
  supplies_founded demand k value early s base still fits is =
      let first = base.later.steps in
      let own : v.own ≡ u.own = ap (λ (o : Rest). o.own) still.rest ∙ begun in
      supply_founded m u v had timely own z demand k value r.stock early a (omega (arith, late, first)) s fits is

  -- or a step of a change
  change_founded : (early : View) (n : Apply) → apply.Fits z r.change n early v → apply.asks r.change n ≡ Some a → IsFounded z m v a
  change_founded early n fits is = apply_founded z m d r.change early v a may n fits is

  -- a part has told nothing
  part_founded : (j : Job) (t : Position) (p : Part) → StillTries b v → attempts.PartFits z b j t p r v → attempts.part_asks p t r ≡ Some a → IsFounded z m v a
  part_founded j t (part.Reserve c s) still fits is =
      supplies_founded (demand_of z c t.verdict) r.row.key.items r.row.value fits.0.early s fits.0.base still fits.0.fits.stage is
  part_founded j t (part.Reading q) still fits is =
      cell_founded (attempts.reading_asks t q) is (reads_look t.stamp q a is) still.free (λ c asks. absurd (reads_only t.stamp q c asks))
  part_founded j t (part.Validate w s) still fits is =
      let o = cells_of w t.verdict in
      cell_founded (attempts.validate_asks t w s) is (validate_asks_look t o s a is) still.free (λ c asks. absurd (validate_begins_none t o s c asks))
  part_founded j t (part.Naming byte n s) still fits is =
      cell_founded (attempts.naming_asks t s) is (naming_asks_look t s a is) still.free (naming_begins z r.row.key.items t n s r.read_set r.lower fits.0.early v fits.0.fits.stage)

  pub attempt_founded : (i : Attempt) → length r.row.key.items ≤ 64 → (s : AttemptStage) → attempts.StageFits z b s i r v → attempts.asks_at s i r ≡ Some a → IsFounded z m v a
  attempt_founded i short (attempt.Finding f) fits is =
      let so = free_so z b i r v short (attempt.Finding f) refl refl fits in
      cell_founded (attempts.finding_asks i.job f) is (ask_looks z (attempts.deed_by i.job f r) v a (finding_allowed z b i.job f r v fits a is)) so.still.free (place_led z v i.job (position_at f) (descents.asks f.descent.stage)
      (descent_founded z r.row.key.items (attempts.settled_of i.job r.row) f.descent.depth f.descent.stage fits.early v so.still.free fits.fits.descent))
  attempt_founded i short (attempt.Placed t p) fits is = part_founded i.job t p (free_so z b i r v short (attempt.Placed t p) refl refl fits).still fits is
  attempt_founded i short (attempt.Apply s) fits is = change_founded fits.0.early s fits.0.fits is
  attempt_founded i short (attempt.Ended e) fits is = absurd (cc)
