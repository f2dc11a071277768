-- How far an attempt has come: while it looks at version words it has told nothing and many steps are left; and a cell is released
-- only after an event, after a failure, or where few steps are left.
use Rattle.std.proofs.Common.{◌≡◌, ◌<◌, ◌≤◌, ◌∷◌, ℕ, true, false, List, [], length, Option, Some, None, refl, sym, ap, ◌∙◌, subst, arith, ⊎_elim}
use Rattle.std.proofs.lemmas.Bool.{cases_Bool}
use Rattle.std.proofs.lemmas.List.{length-append}
use Rattle.std.specs.Option.{option_and_then, option_map}
use Rattle.std.specs.Prelude.{◌==◌, ◌++◌}
use Rattle.art_change.proofs.ArtAttempt.Free.{free_so}
use Rattle.art_change.proofs.ArtAttempt.Finds.{finding_allowed}
use Rattle.art_change.proofs.ArtAttempt.Given.{ask_looks}
use Rattle.art_change.proofs.ArtAttempt.Asked.{IsSupply, naming_asks_look, reads_look, supply_asks_supply, validate_asks_look}
use Rattle.art_change.specs.ArtAttempt.Cases.{cells_of}
use Rattle.art_plan.proofs.Keeping.{IsMade, asks_made}
use Rattle.art_change.proofs.ArtAttempt.Left.{tries_some}
use Rattle.art_change.specs.ArtAttempt.Attempts as attempts
use Rattle.art_change.specs.ArtAttempt.Attempts.{free_at, held_left, apply_left, tries_left}
use Rattle.art_plan.specs.Apply.{is_begun}
use Rattle.art_change.specs.ArtAttempt.Trying.{StillTries}
use Rattle.art_change.specs.ArtAttempt.declared.attempts.Attempt.{Attempt}
use Rattle.art_change.specs.ArtAttempt.declared.attempts.Stage.{Stage as AttemptStage}
use Rattle.art_change.specs.ArtAttempt.declared.attempts.Stage.TheVariants as attempt
use Rattle.art_change.specs.ArtAttempt.declared.attempts.Part.{Part}
use Rattle.art_change.specs.ArtAttempt.declared.attempts.Part.TheVariants as part
use Rattle.art_change.specs.ArtFind.declared.findings.Position.{Position}
use Rattle.art_change.specs.ArtAttempt.declared.attempts.Room.{Room}
use Rattle.art_cell.specs.declared.cells.Cell.{Cell as CellOf}
use Rattle.art_cell.specs.declared.cells.Cell.TheVariants as cell
use Rattle.art_cell.specs.declared.cells.Node.{Node}
use Rattle.art_change.proofs.ArtPlan.Told.{map_some}
use Rattle.art_change.specs.ArtPlan.Apply as apply
use Rattle.art_change.specs.ArtPlan.Apply.{Fails, put_into, releases}
use Rattle.art_change.specs.ArtPlan.declared.apply.Apply.{Apply}
use Rattle.art_change.specs.ArtPlan.declared.apply.Apply.TheVariants.{Upgrading, Claiming, Filling, Writing, Committing, Releasing, ReleasingNode, GivingUp, Ended}
use Rattle.art_change.specs.ArtPlan.Changes.{put_at, target_at}
use Rattle.art_change.specs.ArtPlan.Whole.{made_at, made_word}
use Rattle.art_change.specs.ArtPlan.declared.changes.Change.{Change as ChangeOf}
use Rattle.art_change.specs.ArtPlan.declared.changes.Put.{Put}
use Rattle.art_change.specs.ArtPlan.declared.changes.Target.{Target}
use Rattle.art_step.specs.Acting.{IsLook}
use Rattle.art_step.specs.declared.actions.Action.{Action}
use Rattle.art_step.specs.declared.actions.Action.TheVariants.{Begin, Read, ReadLeaf, Check, Settle, Upgrade, Claim, Write, WriteLeaf, Commit, Release}
use Rattle.art_step.specs.declared.actions.Action.TheVariants.{ClearBit, GiveBack, Free, ReadEpoch, StorePin, RaiseEpoch, ReadPin}
use Rattle.art_runs.proofs.Apply.{IsRelease, IsUpgrade, NeedsCurrent}
use Rattle.art_step.specs.Events.{MakesEvent}
use Rattle.art_step.specs.Shows.{Rest}
use Rattle.art_step.specs.declared.deeds.Deed.{Deed}
use Rattle.art_step.specs.declared.faults.UpgradeFault.{UpgradeFault}
use Rattle.art_step.specs.declared.faults.UpgradeFault.TheVariants as fault
use Rattle.art_step.specs.declared.views.Sizes.{Sizes}
use Rattle.art_step.specs.declared.views.View.{View}

-- ---- how many steps are left

-- more than 575 of them: an upgrade may come, and each step after those of a change that is given up
many_tries : (left : ℕ) → 0 < left → 575 < tries_left left
many_tries left some = let same = tries_some left some in omega (arith, same)

many_held : (left i : ℕ) → i ≤ 4 → 575 < held_left left (Upgrading i)
many_held left i few = ⊎_elim
    (λ (e : (left == 0) ≡ true). rw e (omega (arith, few)))
    (λ (e : (left == 0) ≡ false). rw e (omega arith))
    (cases_Bool (left == 0))

many_upgrades : (left i : ℕ) → i ≤ 4 → (is_begun (Upgrading i) ≡ true → 0 < left) → 575 < apply_left left (Upgrading i)
many_upgrades left i few some = ⊎_elim
    (λ (e : (i == 0) ≡ true). rw e (many_tries left (some e)))
    (λ (e : (i == 0) ≡ false). rw e (many_held left i few))
    (cases_Bool (i == 0))

-- at most so many are left of a change that is given up for a counter
few_given_up : (left locked released : ℕ) (c : CellOf) → held_left left (GivingUp locked released (fault.Exhausted c)) ≤ 575
few_given_up left locked released c = ⊎_elim
    (λ (e : (left == 0) ≡ true). rw e (omega arith))
    (λ (e : (left == 0) ≡ false). rw e (omega arith))
    (cases_Bool (left == 0))

-- ---- the making of a change

no_event : (v w : View) (what : Deed) → MakesEvent v w what → w.own ≡ v.own → ⊥
no_event v w what made own =
    let long = ap (λ (o : List ℕ). length o) made.own ∙ length-append v.own (length (v.seen ++ made.between) ∷ []) in
    let same = ap (λ (o : List ℕ). length o) own in
    absurd (omega (arith, long, same))

module _ (z : Sizes) (c : ChangeOf) (u v : View) (a : Action) where
  by_none : {A : Type 0} (P : Action → Type 0) (f : A → Action) (o : Option A) → option_map f o ≡ Some a → ((x : A) → P (f x)) → P a
  by_none P f o is each = let k = map_some f o a is in subst P k.2 (each k.0)

  by_put : (P : Action → Type 0) (o : Option Put) → option_and_then (λ (q : Put). option_map (put_into q) (target_at c q.target)) o ≡ Some a → ((q : Put) (x : Target) → P (put_into q x)) → P a
  by_put P (Some q) is each = by_none P (put_into q) (target_at c q.target) is (each q)
  by_put P None is each = absurd (cc)

  -- an upgrade comes while nothing is told
  abbrev IsEarly : ℕ → Apply → Type 0
  IsEarly left m = (v.own ≡ u.own) × (575 < apply_left left m)

  upgrade_early : (left : ℕ) (m : Apply) → apply.Fits z c m u v → (is_begun m ≡ true → 0 < left) → apply.asks c m ≡ Some a → IsUpgrade a → IsEarly left m
  upgrade_early left (Upgrading i) fits some is up =
      let few = fits.small.targets in
      let low = fits.stage.0 in
      (ap (λ (o : Rest). o.own) fits.stage.1.same.rest, many_upgrades left i (omega (arith, few, low)) some)
  upgrade_early left (Claiming b) fits some is up = absurd (by_none (λ q. IsUpgrade q → ⊥) Claim (made_at b c) is (λ n no. no) up)
  upgrade_early left (Filling b place) fits some is up = absurd (by_none (λ q. IsUpgrade q → ⊥) (λ (n : Node). Write (cell.Node n) place (made_word b c place)) (made_at b c) is (λ n no. no) up)
  upgrade_early left (Writing j) fits some is up = absurd (by_put (λ q. IsUpgrade q → ⊥) (put_at c j) is (λ q x no. no) up)
  upgrade_early left Committing fits some is up = absurd (by_none (λ q. IsUpgrade q → ⊥) (λ (x : Target). Commit x.stamp.cell x.obsolete) (target_at c 0) is (λ x no. no) up)
  upgrade_early left (Releasing i) fits some is up = absurd (by_none (λ q. IsUpgrade q → ⊥) releases (target_at c i) is (λ x no. no) up)
  upgrade_early left (ReleasingNode b) fits some is up = absurd (by_none (λ q. IsUpgrade q → ⊥) (λ (n : Node). Release (cell.Node n) false) (made_at b c) is (λ n no. no) up)
  upgrade_early left (GivingUp locked released e) fits some is up = absurd (by_none (λ q. IsUpgrade q → ⊥) (λ (x : Target). Release x.stamp.cell false) (target_at c released) is (λ x no. no) up)
  upgrade_early left (Ended r) fits some is up = absurd (cc)

  given_up_few : (left locked released : ℕ) (e : UpgradeFault) (x : Target) → Fails u x e v → v.failures ≤ u.failures → held_left left (GivingUp locked released e) ≤ 575
  given_up_few left locked released (fault.Changed e) x fails few = let more = fails.3 in absurd (omega (arith, more, few))
  given_up_few left locked released (fault.Exhausted d) x fails few = few_given_up left locked released d

  -- a release comes after an event, after a failure, or where few steps are left
  release_late : (left : ℕ) (m : Apply) → apply.Fits z c m u v → apply.asks c m ≡ Some a → IsRelease a → v.own ≡ u.own → v.failures ≤ u.failures → 575 < apply_left left m → ⊥
  release_late left (Releasing i) fits is up own few many = no_event u v c.effects.deed fits.stage.1.done.event own
  release_late left (ReleasingNode b) fits is up own few many = no_event u v c.effects.deed fits.stage.1.done.event own
  release_late left (GivingUp locked released e) fits is up own few many =
      let failed = fits.stage.2.failed in
      let low = given_up_few left locked released e failed.target failed.fails few in
      absurd (omega (arith, low, many))
  release_late left (Upgrading i) fits is up own few many = by_none (λ q. IsRelease q → ⊥) (λ (x : Target). Upgrade x.stamp) (target_at c i) is (λ x no. no) up
  release_late left (Claiming b) fits is up own few many = by_none (λ q. IsRelease q → ⊥) Claim (made_at b c) is (λ n no. no) up
  release_late left (Filling b place) fits is up own few many = by_none (λ q. IsRelease q → ⊥) (λ (n : Node). Write (cell.Node n) place (made_word b c place)) (made_at b c) is (λ n no. no) up
  release_late left (Writing j) fits is up own few many = by_put (λ q. IsRelease q → ⊥) (put_at c j) is (λ q x no. no) up
  release_late left Committing fits is up own few many = by_none (λ q. IsRelease q → ⊥) (λ (x : Target). Commit x.stamp.cell x.obsolete) (target_at c 0) is (λ x no. no) up
  release_late left (Ended r) fits is up own few many = absurd (cc)

-- ---- an attempt that began with the view b

look_upgrade : (a : Action) → IsMade a → NeedsCurrent a → IsUpgrade a
look_upgrade (Begin c) made needs = absurd made
look_upgrade (Read x i) made needs = absurd made
look_upgrade (ReadLeaf x l i) made needs = absurd made
look_upgrade (Check x) made needs = absurd made
look_upgrade (Settle x) made needs = absurd made
look_upgrade (Upgrade x) made needs = tt
look_upgrade (Claim n) made needs = absurd needs
look_upgrade (Write c i word) made needs = absurd needs
look_upgrade (WriteLeaf l i word) made needs = absurd made
look_upgrade (Commit c b) made needs = absurd needs
look_upgrade (Release c b) made needs = absurd needs
look_upgrade (ClearBit pool i bit) made needs = absurd made
look_upgrade (GiveBack d) made needs = absurd made
look_upgrade (Free d) made needs = absurd made
look_upgrade ReadEpoch made needs = absurd made
look_upgrade (StorePin y) made needs = absurd made
look_upgrade RaiseEpoch made needs = absurd made
look_upgrade (ReadPin q) made needs = absurd made

no_look_supply : (a : Action) → IsSupply a → NeedsCurrent a → ⊥
no_look_supply (Begin c) supply needs = absurd supply
no_look_supply (Read x i) supply needs = absurd supply
no_look_supply (ReadLeaf x l i) supply needs = absurd supply
no_look_supply (Check x) supply needs = absurd supply
no_look_supply (Settle x) supply needs = absurd supply
no_look_supply (Upgrade x) supply needs = absurd supply
no_look_supply (Claim n) supply needs = absurd supply
no_look_supply (Write c i word) supply needs = absurd supply
no_look_supply (WriteLeaf l i word) supply needs = absurd needs
no_look_supply (Commit c b) supply needs = absurd supply
no_look_supply (Release c b) supply needs = absurd supply
no_look_supply (ClearBit pool i bit) supply needs = absurd needs
no_look_supply (GiveBack d) supply needs = absurd supply
no_look_supply (Free d) supply needs = absurd supply
no_look_supply ReadEpoch supply needs = absurd supply
no_look_supply (StorePin y) supply needs = absurd supply
no_look_supply RaiseEpoch supply needs = absurd supply
no_look_supply (ReadPin q) supply needs = absurd supply

no_release_look : (a : Action) → IsLook a → IsRelease a → ⊥
no_release_look (Begin c) look up = absurd up
no_release_look (Read x i) look up = absurd up
no_release_look (ReadLeaf x l i) look up = absurd up
no_release_look (Check x) look up = absurd up
no_release_look (Settle x) look up = absurd up
no_release_look (Upgrade x) look up = absurd look
no_release_look (Claim n) look up = absurd look
no_release_look (Write c i word) look up = absurd look
no_release_look (WriteLeaf l i word) look up = absurd look
no_release_look (Commit c b) look up = absurd look
no_release_look (Release c b) look up = absurd look
no_release_look (ClearBit pool i bit) look up = absurd look
no_release_look (GiveBack d) look up = absurd look
no_release_look (Free d) look up = absurd look
no_release_look ReadEpoch look up = absurd look
no_release_look (StorePin y) look up = absurd look
no_release_look RaiseEpoch look up = absurd look
no_release_look (ReadPin q) look up = absurd look

no_release_supply : (a : Action) → IsSupply a → IsRelease a → ⊥
no_release_supply (Begin c) supply up = absurd supply
no_release_supply (Read x i) supply up = absurd supply
no_release_supply (ReadLeaf x l i) supply up = absurd supply
no_release_supply (Check x) supply up = absurd supply
no_release_supply (Settle x) supply up = absurd supply
no_release_supply (Upgrade x) supply up = absurd supply
no_release_supply (Claim n) supply up = absurd supply
no_release_supply (Write c i word) supply up = absurd supply
no_release_supply (WriteLeaf l i word) supply up = absurd up
no_release_supply (Commit c b) supply up = absurd supply
no_release_supply (Release c b) supply up = absurd supply
no_release_supply (ClearBit pool i bit) supply up = absurd up
no_release_supply (GiveBack d) supply up = absurd supply
no_release_supply (Free d) supply up = absurd supply
no_release_supply ReadEpoch supply up = absurd supply
no_release_supply (StorePin y) supply up = absurd supply
no_release_supply RaiseEpoch supply up = absurd supply
no_release_supply (ReadPin q) supply up = absurd supply

module _ (z : Sizes) (b v : View) (r : Room) (a : Action) (left : ℕ) where
  -- it has told nothing, and many steps are left
  abbrev IsEarlyBy : ℕ → Type 0
  IsEarlyBy n = (v.own ≡ b.own) × (575 < n)

  look_change : (early : View) (n : Apply) → StillTries b early → apply.Fits z r.change n early v → (is_begun n ≡ true → 0 < left) → apply.asks r.change n ≡ Some a → NeedsCurrent a → IsEarlyBy (apply_left left n)
  look_change early n base fits some is look =
      let e = upgrade_early z r.change early v a left n fits some is (look_upgrade a (asks_made r.change n a is) look) in
      (e.0 ∙ ap (λ (o : Rest). o.own) base.rest, e.1)

  release_change : (early : View) (n : Apply) → StillTries b early → apply.Fits z r.change n early v → apply.asks r.change n ≡ Some a → IsRelease a → v.own ≡ b.own → v.failures ≤ b.failures → 575 < apply_left left n → ⊥
  release_change early n base fits is up own few many =
      let later = base.later.failures in
      release_late z r.change early v a left n fits is up (own ∙ sym (ap (λ (o : Rest). o.own) base.rest)) (omega (arith, few, later)) many

  -- ---- of an attempt

  pub attempt_look : (i : Attempt) → length r.row.key.items ≤ 64 → (s : AttemptStage) → attempts.StageFits z b s i r v → (free_at s ≡ true → 0 < left) → attempts.asks_at s i r ≡ Some a → NeedsCurrent a
      → IsEarlyBy (attempts.left_at left s)
  attempt_look i short (attempt.Finding f) fits some is look = (ap (λ (o : Rest). o.own) (free_so z b i r v short (attempt.Finding f) refl refl fits).still.rest, many_tries left (some refl))
  attempt_look i short (attempt.Placed t p) fits some is look = (ap (λ (o : Rest). o.own) (free_so z b i r v short (attempt.Placed t p) refl refl fits).still.rest, many_tries left (some refl))
  attempt_look i short (attempt.Apply s) fits some is look = look_change fits.0.early s fits.0.base fits.0.fits some is look
  attempt_look i short (attempt.Ended e) fits some is look = absurd (cc)

  part_release : (t : Position) (p : Part) → attempts.part_asks p t r ≡ Some a → IsRelease a → ⊥
  part_release t (part.Reserve c s) is up = no_release_supply a (supply_asks_supply r.row.key.items r.row.value r.stock s a is) up
  part_release t (part.Reading q) is up = no_release_look a (reads_look t.stamp q a is) up
  part_release t (part.Validate c s) is up = no_release_look a (validate_asks_look t (cells_of c t.verdict) s a is) up
  part_release t (part.Naming byte n s) is up = no_release_look a (naming_asks_look t s a is) up

  pub attempt_release : (i : Attempt) (s : AttemptStage) → attempts.StageFits z b s i r v → attempts.asks_at s i r ≡ Some a → IsRelease a → v.own ≡ b.own → v.failures ≤ b.failures
      → 575 < attempts.left_at left s → ⊥
  attempt_release i (attempt.Finding f) fits is up own few many = no_release_look a (ask_looks z (attempts.deed_by i.job f r) v a (finding_allowed z b i.job f r v fits a is)) up
  attempt_release i (attempt.Placed t p) fits is up own few many = part_release t p is up
  attempt_release i (attempt.Apply s) fits is up own few many = release_change fits.0.early s fits.0.base fits.0.fits is up own few many
  attempt_release i (attempt.Ended e) fits is up own few many = absurd (cc)
