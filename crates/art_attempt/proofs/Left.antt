-- Each answer leaves fewer steps.
use Rattle.std.proofs.Common.{◌≡◌, ◌⊎◌, ℕ, ◌+◌, ◌-◌, ◌<◌, ◌≤◌, true, false, Option, Some, None, inl, inr, refl, ap, ◌∙◌, arith, ⊎_elim}
use Rattle.std.proofs.lemmas.Bool.{cases_Bool, eq-eqb, eqb-true, eqb-false}
use Rattle.std.specs.Prelude.{Result, Ok, Err, ⊤, ◌==◌}
use Rattle.art_attempt.specs.Attempts.{ended_left, ended_so, free_at, held_left, is_last, last_left, left_at, apply_left, tries_left}
use Rattle.art_attempt.specs.declared.attempts.Ending.TheVariants as ending
use Rattle.art_attempt.specs.declared.attempts.Ending.TheVariants.{Restart}
use Rattle.art_attempt.specs.declared.attempts.Job.{Job}
use Rattle.art_attempt.specs.declared.attempts.Job.TheVariants.{Insert, Remove}
use Rattle.art_attempt.specs.declared.attempts.Stage.{Stage}
use Rattle.art_attempt.specs.declared.attempts.Stage.TheVariants as stage
use Rattle.art_plan.specs.Apply.{Runs, asks, ended_at, fault_of, is_begun, most_steps}
use Rattle.art_step.specs.Acting.{steps_in}
use Rattle.art_step.specs.declared.actions.Action.{Action}
use Rattle.art_step.specs.declared.actions.Answer.{Answer}
use Rattle.art_step.specs.declared.actions.Answer.TheVariants.{Begun, Word, Checked, Upgraded, Done}
use Rattle.art_plan.specs.declared.apply.Apply.{Apply}
use Rattle.art_plan.specs.declared.apply.Apply.TheVariants.{Upgrading, Claiming, Filling, Writing, Committing, Releasing, ReleasingNode, GivingUp, Ended}
use Rattle.art_plan.specs.declared.changes.Change.{Change as ChangeOf}
use Rattle.art_step.specs.declared.faults.Changed.{Changed}
use Rattle.art_step.specs.declared.faults.UpgradeFault.{UpgradeFault}
use Rattle.art_step.specs.declared.faults.UpgradeFault.TheVariants as fault
use Rattle.art_step.specs.declared.views.View.{View}

-- ---- while nothing is held

pub tries_few : (left : ℕ) → tries_left left ≤ left + 581
tries_few left = ⊎_elim (λ (e : (left == 0) ≡ true). rw e (omega arith)) (λ (e : (left == 0) ≡ false). rw e (omega arith)) (cases_Bool (left == 0))

pub tries_some : (left : ℕ) → 0 < left → tries_left left ≡ left + 581
tries_some left some = ⊎_elim
    (λ (e : (left == 0) ≡ true). let zero = eqb-true left 0 e in absurd (omega (arith, zero, some)))
    (λ (e : (left == 0) ≡ false). rw e refl)
    (cases_Bool (left == 0))

apply_free : (left : ℕ) (m : Apply) → is_begun m ≡ true → apply_left left m ≡ tries_left left
apply_free left m is = rw is refl

-- at most as many as of attempts alone
pub free_few : (left : ℕ) (s : Stage) → free_at s ≡ true → left_at left s ≤ tries_left left
free_few left (stage.Finding f) is = omega arith
free_few left (stage.Placed t p) is = omega arith
free_few left (stage.Apply m) is = let same = apply_free left m is in omega arith
free_few left (stage.Ended ending.New) is = omega arith
free_few left (stage.Ended (ending.Present x)) is = omega arith
free_few left (stage.Ended (ending.Gone x)) is = omega arith
free_few left (stage.Ended ending.Absent) is = omega arith
free_few left (stage.Ended (ending.Full x)) is = omega arith
free_few left (stage.Ended (ending.Exhausted x)) is = omega arith
free_few left (stage.Ended ending.Overlaps) is = omega arith
free_few left (stage.Ended ending.Restart) is = omega arith

-- one step was made, and nothing is held after it
pub free_less : (left n : ℕ) (s : Stage) → 0 < left → n ≡ 1 → free_at s ≡ true → left_at (left - n) s < tries_left left
free_less left n s some one is =
    let few = free_few (left - n) s is in
    let all = tries_some left some in
    let then = tries_few (left - n) in
    omega arith

-- ---- while a change is made

pub not_begun : (m : Apply) → 0 < most_steps m → is_begun m ≡ false
not_begun (Upgrading i) some = ⊎_elim
    (λ (e : (i == 0) ≡ true). let zero = eqb-true i 0 e in absurd (omega (arith, zero, some)))
    (λ (e : (i == 0) ≡ false). e)
    (cases_Bool (i == 0))
not_begun (Claiming b) some = refl
not_begun (Filling b place) some = refl
not_begun (Writing j) some = refl
not_begun Committing some = refl
not_begun (Releasing i) some = refl
not_begun (ReleasingNode b) some = refl
not_begun (GivingUp locked released e) some = refl
not_begun (Ended r) some = refl

pub still_made : (c : ChangeOf) (m : Apply) (a : Action) → asks c m ≡ Some a → ended_at m ≡ None
still_made c (Upgrading i) a is = refl
still_made c (Claiming b) a is = refl
still_made c (Filling b place) a is = refl
still_made c (Writing j) a is = refl
still_made c Committing a is = refl
still_made c (Releasing i) a is = refl
still_made c (ReleasingNode b) a is = refl
still_made c (GivingUp locked released e) a is = refl
still_made c (Ended r) a is = absurd (cc)

pub fault_ended : (m : Apply) (e : UpgradeFault) → ended_at m ≡ Some (Err e) → fault_of m ≡ Some e
fault_ended (Upgrading i) e is = absurd (cc)
fault_ended (Claiming b) e is = absurd (cc)
fault_ended (Filling b place) e is = absurd (cc)
fault_ended (Writing j) e is = absurd (cc)
fault_ended Committing e is = absurd (cc)
fault_ended (Releasing i) e is = absurd (cc)
fault_ended (ReleasingNode b) e is = absurd (cc)
fault_ended (GivingUp locked released f) e is = absurd (cc)
fault_ended (Ended (Ok done)) e is = absurd (cc)
fault_ended (Ended (Err f)) e is = cc

-- it is tried anew where the change was given up for a cell that was changed
pub anew_fault : (j : Job) (value : ℕ) (r : Result ⊤ UpgradeFault) → ended_so j value r ≡ Restart → (e : Changed) × (r ≡ Err (fault.Changed e))
anew_fault Insert value (Ok done) is = absurd (cc)
anew_fault Remove value (Ok done) is = absurd (cc)
anew_fault j value (Err (fault.Exhausted c)) is = absurd (cc)
anew_fault j value (Err (fault.Changed e)) is = (e, refl)

pub last_stays : (o p : Option UpgradeFault) → ((e : UpgradeFault) → o ≡ Some e → p ≡ Some e) → is_last o ≡ true → is_last p ≡ true
last_stays None p stays is = cc
last_stays (Some e) p stays is = ap is_last (stays e refl) ∙ is

pub step_or_last : (answer : Answer) (p : Option UpgradeFault) → ((e : UpgradeFault) → answer ≡ Upgraded (Err e) → p ≡ Some e) → is_last p ≡ false → 0 < steps_in answer
step_or_last Done p refused is = omega arith
step_or_last (Begun r) p refused is = omega arith
step_or_last (Word x) p refused is = omega arith
step_or_last (Checked r) p refused is = omega arith
step_or_last (Upgraded (Ok done)) p refused is = omega arith
step_or_last (Upgraded (Err (fault.Changed e))) p refused is = omega arith
step_or_last (Upgraded (Err (fault.Exhausted e))) p refused is = let last = ap is_last (refused (fault.Exhausted e) refl) in absurd (cc)

-- what is left of a making that holds a cell: none comes after it, or others may
held_is : (left : ℕ) (m : Apply) → ((held_left left m ≡ last_left m) × ((left ≡ 0) ⊎ (is_last (fault_of m) ≡ true))) ⊎ ((held_left left m ≡ left + 581) × (0 < left) × (is_last (fault_of m) ≡ false))
held_is left m = ⊎_elim
    (λ (e : (left == 0) ≡ true). inl (rw e (refl, inl (eqb-true left 0 e))))
    (λ (e : (left == 0) ≡ false). ⊎_elim
    (λ (l : is_last (fault_of m) ≡ true). inl (rw e (rw l (refl, inr refl))))
    (λ (l : is_last (fault_of m) ≡ false). inr (rw e (rw l (refl, (let some = eqb-false left 0 e in omega arith), refl))))
    (cases_Bool (is_last (fault_of m))))
    (cases_Bool (left == 0))

apply_is : (left : ℕ) (m : Apply) → (is_begun m ≡ true → 0 < left) → ((apply_left left m ≡ last_left m) × ((left ≡ 0) ⊎ (is_last (fault_of m) ≡ true))) ⊎ ((apply_left left m ≡ left + 581) × (0 < left))
apply_is left m begun = ⊎_elim
    (λ (b : is_begun m ≡ true). inr (apply_free left m b ∙ tries_some left (begun b), begun b))
    (λ (b : is_begun m ≡ false). ⊎_elim
    (λ (k : (held_left left m ≡ last_left m) × ((left ≡ 0) ⊎ (is_last (fault_of m) ≡ true))). inl (rw b k))
    (λ (k : (held_left left m ≡ left + 581) × (0 < left) × (is_last (fault_of m) ≡ false)). inr (rw b (k.0, k.1)))
    (held_is left m))
    (cases_Bool (is_begun m))

module _ (left n : ℕ) (m then : Apply) (begun : is_begun m ≡ true → 0 < left) (few : most_steps m < 580) (stays : is_last (fault_of m) ≡ true → is_last (fault_of then) ≡ true) (some : is_last (fault_of then) ≡ false → 0 < n) where
  some_left : 0 < apply_left left m
  some_left = ⊎_elim
      (λ (k : (apply_left left m ≡ last_left m) × ((left ≡ 0) ⊎ (is_last (fault_of m) ≡ true))). let is = k.0 in omega (arith, is, few))
      (λ (k : (apply_left left m ≡ left + 581) × (0 < left)). let is = k.0 in omega (arith, is))
      (apply_is left m begun)

  again_less : 0 < left - n → is_last (fault_of then) ≡ false → (left - n) + 581 < apply_left left m
  again_less more other = ⊎_elim
      (λ (k : (apply_left left m ≡ last_left m) × ((left ≡ 0) ⊎ (is_last (fault_of m) ≡ true))). ⊎_elim
      (λ (zero : left ≡ 0). absurd (omega (arith, zero, more)))
      (λ (last : is_last (fault_of m) ≡ true). let now = stays last in absurd (cc))
      k.1)
      (λ (k : (apply_left left m ≡ left + 581) × (0 < left)). let is = k.0 in let one = some other in omega (arith, is, one, more))
      (apply_is left m begun)

  held_less : most_steps m < most_steps then → most_steps then < 580 → held_left (left - n) then < apply_left left m
  held_less more end = ⊎_elim
      (λ (h : (held_left (left - n) then ≡ last_left then) × ((left - n ≡ 0) ⊎ (is_last (fault_of then) ≡ true))). let now = h.0 in ⊎_elim
      (λ (k : (apply_left left m ≡ last_left m) × ((left ≡ 0) ⊎ (is_last (fault_of m) ≡ true))). let is = k.0 in omega (arith, now, is, more, end, few))
      (λ (k : (apply_left left m ≡ left + 581) × (0 < left)). let is = k.0 in omega (arith, now, is, more, end))
      (apply_is left m begun))
      (λ (h : (held_left (left - n) then ≡ left - n + 581) × (0 < left - n) × (is_last (fault_of then) ≡ false)). let now = h.0 in let less = again_less h.1 h.2 in omega (arith, now, less))
      (held_is (left - n) then)

  -- it goes on
  pub going_less : most_steps m < most_steps then → most_steps then < 580 → apply_left (left - n) then < apply_left left m
  going_less more end = let b = not_begun then (omega arith) in rw b (held_less more end)

  anew_less : is_last (fault_of then) ≡ false → tries_left (left - n) < apply_left left m
  anew_less other = ⊎_elim
      (λ (e : (left - n == 0) ≡ true). rw e some_left)
      (λ (e : (left - n == 0) ≡ false). let not = eqb-false (left - n) 0 e in rw e (again_less (omega arith) other))
      (cases_Bool (left - n == 0))

  -- it has ended
  pub ended_less : (j : Job) (value : ℕ) (r : Result ⊤ UpgradeFault) → ended_at then ≡ Some r → ended_left (left - n) (ended_so j value r) < apply_left left m
  ended_less Insert value (Ok done) is = some_left
  ended_less Remove value (Ok done) is = some_left
  ended_less j value (Err (fault.Exhausted e)) is = some_left
  ended_less j value (Err (fault.Changed e)) is = anew_less (ap is_last (fault_ended then (fault.Changed e) is))

-- ---- where more than one step was made

-- it has ended, or it has not
pub by_end : {A : Type 0} (m : Apply) → (ended_at m ≡ None → A) → ((r : Result ⊤ UpgradeFault) → ended_at m ≡ Some r → A) → A
by_end {A} m none some = by (ended_at m) refl
  where
    by : (o : Option (Result ⊤ UpgradeFault)) → ended_at m ≡ o → A
    by None is = none is
    by (Some r) is = some r is

-- no step was made where no cell is locked
begun_is : (m : Apply) → is_begun m ≡ true → most_steps m ≡ 0
begun_is (Upgrading i) is = eqb-true i 0 is
begun_is (Claiming b) is = absurd (cc)
begun_is (Filling b place) is = absurd (cc)
begun_is (Writing j) is = absurd (cc)
begun_is Committing is = absurd (cc)
begun_is (Releasing i) is = absurd (cc)
begun_is (ReleasingNode b) is = absurd (cc)
begun_is (GivingUp locked released e) is = absurd (cc)
begun_is (Ended r) is = absurd (cc)

none_begun : (m : Apply) → most_steps m ≡ 0 → is_begun m ≡ true
none_begun (Upgrading i) is = eq-eqb i 0 is
none_begun (Claiming false) is = absurd (omega (arith, is))
none_begun (Claiming true) is = absurd (omega (arith, is))
none_begun (Filling false place) is = absurd (omega (arith, is))
none_begun (Filling true place) is = absurd (omega (arith, is))
none_begun (Writing j) is = absurd (omega (arith, is))
none_begun Committing is = absurd (omega (arith, is))
none_begun (Releasing i) is = absurd (omega (arith, is))
none_begun (ReleasingNode false) is = absurd (omega (arith, is))
none_begun (ReleasingNode true) is = absurd (omega (arith, is))
none_begun (GivingUp locked released e) is = absurd (omega (arith, is))
none_begun (Ended r) is = absurd (omega (arith, is))

most_ended : (m : Apply) (r : Result ⊤ UpgradeFault) → ended_at m ≡ Some r → most_steps m ≡ 580
most_ended (Ended e) r is = refl
most_ended (Upgrading i) r is = absurd (cc)
most_ended (Claiming b) r is = absurd (cc)
most_ended (Filling b place) r is = absurd (cc)
most_ended (Writing j) r is = absurd (cc)
most_ended Committing r is = absurd (cc)
most_ended (Releasing i) r is = absurd (cc)
most_ended (ReleasingNode b) r is = absurd (cc)
most_ended (GivingUp locked released e) r is = absurd (cc)

module _ (left left' : ℕ) (v w : View) (m m' : Apply) (begun : is_begun m ≡ true → 0 < left) (run : Runs m m' v w left left') where
  -- it has ended
  pub run_ended : (j : Job) (value : ℕ) (r : Result ⊤ UpgradeFault) → ended_at m' ≡ Some r → w.steps + ended_left left' (ended_so j value r) ≤ v.steps + apply_left left m
  run_ended j value r is = by j r is
    where
      few : w.steps + most_steps m ≤ v.steps + 580
      few = let end = most_ended m' r is in let all = run.few in omega (arith, all, end)

      none : w.steps ≤ v.steps + apply_left left m
      none = ⊎_elim
          (λ (k : (apply_left left m ≡ last_left m) × ((left ≡ 0) ⊎ (is_last (fault_of m) ≡ true))). let at = k.0 in let all = few in omega (arith, at, all))
          (λ (k : (apply_left left m ≡ left + 581) × (0 < left)). let at = k.0 in let all = few in omega (arith, at, all))
          (apply_is left m begun)

      again : is_last (fault_of m') ≡ false → 0 < left' → w.steps + (left' + 581) ≤ v.steps + apply_left left m
      again other more = let taken = run.turns in let later = run.keeps.steps in ⊎_elim
          (λ (k : (apply_left left m ≡ last_left m) × ((left ≡ 0) ⊎ (is_last (fault_of m) ≡ true))). ⊎_elim
          (λ (zero : left ≡ 0). absurd (omega (arith, zero, more, taken)))
          (λ (last : is_last (fault_of m) ≡ true). let now = last_stays (fault_of m) (fault_of m') run.stays last in absurd (cc))
          k.1)
          (λ (k : (apply_left left m ≡ left + 581) × (0 < left)). let at = k.0 in omega (arith, at, more, taken, later))
          (apply_is left m begun)

      by : (j : Job) (r : Result ⊤ UpgradeFault) → ended_at m' ≡ Some r → w.steps + ended_left left' (ended_so j value r) ≤ v.steps + apply_left left m
      by Insert (Ok done) at = let all = none in omega (arith, all)
      by Remove (Ok done) at = let all = none in omega (arith, all)
      by j (Err (fault.Exhausted e)) at = let all = none in omega (arith, all)
      by j (Err (fault.Changed e)) at = ⊎_elim
          (λ (z : (left' == 0) ≡ true). let all = none in rw z (omega (arith, all)))
          (λ (z : (left' == 0) ≡ false). let not = eqb-false left' 0 z in rw z (again (ap is_last (fault_ended m' (fault.Changed e) at)) (omega (arith, not))))
          (cases_Bool (left' == 0))

  -- or no step of it was made
  pub run_begun : is_begun m' ≡ true → w.steps + apply_left left' m' ≤ v.steps + apply_left left m
  run_begun is =
      let none = begun_is m' is in
      let few = run.few in
      let later = run.keeps.steps in
      let taken = run.turns in
      let before = none_begun m (omega (arith, none, few, later)) in
      let now = apply_free left' m' is in
      let was = apply_free left m before in
      let same : left' ≡ left = omega (arith, none, few, later, taken) in
      let left_same = ap tries_left same in
      omega (arith, now, was, left_same, none, few)
