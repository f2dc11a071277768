-- What is asked may be done, and each answer keeps what is known.
use Rattle.std.proofs.Common.{◌≡◌, ◌≢◌, Bool, ℕ, ◌+◌, ◌<◌, ◌≤◌, true, false, [], length, take, get_or, sym, refl, ap, ◌∙◌, subst, arith}
use Rattle.std.proofs.lemmas.Option.{same_Some, slice_get-get_or, slice_get_within}
use Rattle.std.specs.Prelude.{Option, Some, None, Result, Ok, Err, ⊤}
use Rattle.std.specs.Option.{option_map, option_and_then}
use Rattle.art_cell.specs.Words.{size}
use Rattle.art_cell.specs.declared.cells.Layout.{Layout}
use Rattle.art_cell.specs.declared.cells.Layout.TheVariants.{Node4, Node16, Node48, Node256}
use Rattle.art_cell.specs.declared.cells.Cell.TheVariants as cell
use Rattle.art_cell.specs.declared.cells.Node.{Node}
use Rattle.art_step.proofs.Counting.{steps_few, steps_made}
use Rattle.art_step.proofs.Words.{done_row}
use Rattle.art_step.specs.Acting.{Answers, IsAllowed}
use Rattle.art_plan.specs.Apply.{Fits, GivesUp, IsLocking, IsOver, IsReleasing, StageFits, asks, at_claim, at_fill, at_release, brings, claim_of, claimed_so, claims, ended_at, most_steps, put_into, released_so, releases}
use Rattle.art_step.specs.declared.actions.Answer.{Answer}
use Rattle.art_step.specs.declared.actions.Answer.TheVariants.{Upgraded, Done}
use Rattle.art_step.specs.declared.actions.Action.{Action}
use Rattle.art_step.specs.declared.actions.Action.TheVariants.{Begin, Read, ReadLeaf, Check, Settle, Upgrade, Claim, Write, WriteLeaf, Commit, Release, ClearBit, GiveBack, Free, ReadEpoch, StorePin, RaiseEpoch, ReadPin}
use Rattle.art_plan.specs.declared.apply.Apply.{Apply}
use Rattle.art_plan.specs.declared.apply.Apply.TheVariants.{Upgrading, Claiming, Filling, Writing, Committing, Releasing, ReleasingNode, GivingUp, Ended}
use Rattle.art_plan.proofs.Allowed.{may_claim, may_commit, may_fill, may_give_up, may_release, may_release_new, may_upgrade, may_write}
use Rattle.art_plan.proofs.Committing.{commit_on, give_on, release_new, release_on, some_words}
use Rattle.art_plan.proofs.Holding.{Fills}
use Rattle.art_plan.proofs.Locking.{claim_on, fill_on, write_on}
use Rattle.art_plan.specs.Changes.{filled_at, put_at, target_at, targets}
use Rattle.art_plan.specs.Whole.{IsWhole, filled_ends, made_at, made_word}
use Rattle.art_plan.specs.declared.changes.Change.{Change}
use Rattle.art_plan.specs.declared.changes.Put.{Put}
use Rattle.art_plan.specs.declared.changes.Target.{Target}
use Rattle.art_step.specs.Steps.Upgrade as upgrade
use Rattle.art_step.specs.declared.faults.UpgradeFault.{UpgradeFault}
use Rattle.art_step.specs.declared.faults.UpgradeFault.TheVariants as fault
use Rattle.art_step.specs.declared.views.Sizes.{Sizes}
use Rattle.art_step.specs.declared.views.Stamp.{Stamp}
use Rattle.art_step.specs.declared.views.View.{View}

-- ---- parts that there are

-- where something is made of a part, there is the part
pub map_some : {A B : Type 0} (f : A → B) (o : Option A) (y : B) → option_map f o ≡ Some y → (x : A) × (o ≡ Some x) × (f x ≡ y)
map_some f None y e = absurd (cc)
map_some f (Some x) y e = (x, refl, same_Some (f x) y e)

pub then_some : {A B : Type 0} (f : A → Option B) (o : Option A) (y : B) → option_and_then f o ≡ Some y → (x : A) × (o ≡ Some x) × (f x ≡ Some y)
then_some f None y e = absurd (cc)
then_some f (Some x) y e = (x, refl, e)

-- a target below their number
there : (c : Change) (i : ℕ) → i < targets c → (x : Target) × (target_at c i ≡ Some x)
there c i low =
    let none : Target = record { stamp = record { cell = cell.Anchor; version = 0; first = 0 }; obsolete = false } in
    (get_or c.targets.items i none, slice_get-get_or c.targets.items i none low)

-- the node that is made has words
pub filled_some : (c : Change) (b : Bool) (n : Node) → made_at b c ≡ Some n → 0 < filled_ends c b
filled_some c b n made = subst (λ (o : Option Node). 0 < filled_at c o) (sym made) (some_words n.layout)

pub some_filled : (c : Change) (o : Option Node) → 0 < filled_at c o → (n : Node) × (o ≡ Some n)
some_filled c None low = absurd (omega arith)
some_filled c (Some n) low = (n, refl)

-- the word that it puts has a target
pub put_target : (z : Sizes) (u : View) (c : Change) → IsWhole z u c → (j : ℕ) (p : Put) → put_at c j ≡ Some p → (x : Target) × (target_at c p.target ≡ Some x)
put_target z u c planned j p at = let may = planned.puts j p at in (may.target, may.is)

-- ---- how many words are written

-- 1 of a node that there is
pub claim_some : (c : Change) (b : Bool) (n : Node) → made_at b c ≡ Some n → claims c b ≡ 1
claim_some c b n made = ap claim_of made

-- before the claim none is, and after it one
pub claim_none : (c : Change) (b : Bool) → at_claim c b b ≡ 0
claim_none c false = refl
claim_none c true = refl

pub claim_fills : (c : Change) (b : Bool) (n : Node) → made_at b c ≡ Some n → Fills (at_claim c b) b 1 (claimed_so c b)
claim_fills c false n made = record { here = claim_some c false n made; there = there }
  where
    there : (d : Bool) → d ≢ false → claimed_so c false d ≡ at_claim c false d
    there false other = absurd (other refl)
    there true other = refl
claim_fills c true n made = record { here = claim_some c true n made; there = there }
  where
    there : (d : Bool) → d ≢ true → claimed_so c true d ≡ at_claim c true d
    there true other = absurd (other refl)
    there false other = refl

pub fill_so : (c : Change) (b : Bool) (place : ℕ) → at_fill c b place b ≡ place
fill_so c false place = refl
fill_so c true place = refl

pub fill_fills : (c : Change) (b : Bool) (place : ℕ) → Fills (at_fill c b place) b (place + 1) (at_fill c b (place + 1))
fill_fills c false place = record { here = refl; there = there }
  where
    there : (d : Bool) → d ≢ false → at_fill c false (place + 1) d ≡ at_fill c false place d
    there false other = absurd (other refl)
    there true other = refl
fill_fills c true place = record { here = refl; there = there }
  where
    there : (d : Bool) → d ≢ true → at_fill c true (place + 1) d ≡ at_fill c true place d
    there true other = absurd (other refl)
    there false other = refl

pub release_fills : (c : Change) (b : Bool) → Fills (at_release c b) b 0 (released_so c b)
release_fills c false = record { here = refl; there = there }
  where
    there : (d : Bool) → d ≢ false → released_so c false d ≡ at_release c false d
    there false other = absurd (other refl)
    there true other = refl
release_fills c true = record { here = refl; there = there }
  where
    there : (d : Bool) → d ≢ true → released_so c true d ≡ at_release c true d
    there true other = absurd (other refl)
    there false other = refl

-- before the release its words are written
release_some : (c : Change) (b : Bool) (n : Node) → made_at b c ≡ Some n → 0 < at_release c b b
release_some c false n made = filled_some c false n made
release_some c true n made = filled_some c true n made

-- what is made of two numbers is what each of them is
pub two_are : (f g : Bool → ℕ) → f false ≡ g false → f true ≡ g true → f ≡ g
two_are f g a b = λ i d. each d i
  where
    each : (d : Bool) → f d ≡ g d
    each false = a
    each true = b

-- ---- it goes on

-- at each stage but the last there is something to do
pub going : (z : Sizes) (u v : View) (c : Change) (m : Apply) → Fits z c m u v → ended_at m ≡ None → (a : Action) × (asks c m ≡ Some a)
going z u v c (Upgrading i) fits on = let x = there c i fits.stage.0 in (Upgrade x.0.stamp, ap (option_map (λ (y : Target). Upgrade y.stamp)) x.1)
going z u v c (Claiming b) fits on = let n = fits.stage.0 in (Claim n.0, ap (option_map Claim) n.1)
going z u v c (Filling b place) fits on =
    let n = some_filled c (made_at b c) (let a = fits.stage.1 in omega arith) in
    (Write (cell.Node n.0) place (made_word b c place), ap (option_map (λ (m : Node). Write (cell.Node m) place (made_word b c place))) n.1)
going z u v c (Writing j) fits on =
    let p = fits.stage.0 in
    let x = put_target z u c fits.planned j p.0 p.1 in
    (put_into p.0 x.0, ap (option_and_then (λ (q : Put). option_map (put_into q) (target_at c q.target))) p.1 ∙ ap (option_map (put_into p.0)) x.1)
going z u v c Committing fits on = let x = there c 0 fits.planned.some in (Commit x.0.stamp.cell x.0.obsolete, ap (option_map (λ (y : Target). Commit y.stamp.cell y.obsolete)) x.1)
going z u v c (Releasing i) fits on = let x = there c i fits.stage.0 in (releases x.0, ap (option_map releases) x.1)
going z u v c (ReleasingNode b) fits on = let n = fits.stage.0 in (Release (cell.Node n.0) false, ap (option_map (λ (m : Node). Release (cell.Node m) false)) n.1)
going z u v c (GivingUp locked released e) fits on =
    let low = fits.stage.0 in
    let few = fits.stage.1 in
    let x = there c released (omega arith) in
    (Release x.0.stamp.cell false, ap (option_map (λ (y : Target). Release y.stamp.cell false)) x.1)
going z u v c (Ended r) fits on = absurd (cc)

-- what is asked may be done
pub allowed : (z : Sizes) (u v : View) (c : Change) (m : Apply) (a : Action) → Fits z c m u v → asks c m ≡ Some a → IsAllowed z (brings c) v a
allowed z u v c (Upgrading i) a fits is =
    let k = map_some (λ (y : Target). Upgrade y.stamp) (target_at c i) a is in
    subst (IsAllowed z (brings c) v) k.2 (may_upgrade z u c fits.planned i k.0 v k.1 fits.stage.1)
allowed z u v c (Claiming b) a fits is = let k = map_some Claim (made_at b c) a is in subst (IsAllowed z (brings c) v) k.2 (may_claim z u c fits.planned b (at_claim c b) k.0 v (claim_none c b) k.1 fits.stage.1)
allowed z u v c (Filling b place) a fits is =
    let k = map_some (λ (m : Node). Write (cell.Node m) place (made_word b c place)) (made_at b c) a is in
    let low : place < filled_at c (Some k.0) = subst (λ (o : Option Node). place < filled_at c o) k.1 fits.stage.1 in
    subst (IsAllowed z (brings c) v) k.2 (may_fill z u c fits.planned b place (at_fill c b place) k.0 v (fill_so c b place) k.1 fits.stage.0 low fits.stage.2)
allowed z u v c (Writing j) a fits is =
    let p = then_some (λ (q : Put). option_map (put_into q) (target_at c q.target)) (put_at c j) a is in
    let x = map_some (put_into p.0) (target_at c p.0.target) a p.2 in
    subst (IsAllowed z (brings c) v) x.2 (may_write z u c fits.planned j (filled_ends c) p.0 x.0 v p.1 x.1 fits.stage.1)
allowed z u v c Committing a fits is =
    let k = map_some (λ (y : Target). Commit y.stamp.cell y.obsolete) (target_at c 0) a is in
    subst (IsAllowed z (brings c) v) k.2 (may_commit z u c fits.planned k.0 v k.1 fits.stage)
allowed z u v c (Releasing i) a fits is =
    let k = map_some releases (target_at c i) a is in
    subst (IsAllowed z (brings c) v) k.2 (may_release z u c fits.planned i (filled_ends c) k.0 v k.1 fits.stage.1)
allowed z u v c (ReleasingNode b) a fits is =
    let k = map_some (λ (m : Node). Release (cell.Node m) false) (made_at b c) a is in
    subst (IsAllowed z (brings c) v) k.2 (may_release_new z u c fits.planned b (at_release c b) k.0 v k.1 (release_some c b k.0 k.1) fits.stage.1)
allowed z u v c (GivingUp locked released e) a fits is =
    let k = map_some (λ (y : Target). Release y.stamp.cell false) (target_at c released) a is in
    subst (IsAllowed z (brings c) v) k.2 (may_give_up z u c fits.planned released locked e k.0 v fits.stage.0 fits.stage.2 k.1)
allowed z u v c (Ended r) a fits is = absurd (cc)

-- ---- an upgrade alone is refused

upgrade_asked : (c : Change) (m : Apply) (x : Stamp) → asks c m ≡ Some (Upgrade x) → (i : ℕ) × (m ≡ Upgrading i)
upgrade_asked c (Upgrading i) x is = (i, refl)
upgrade_asked c (Claiming b) x is = let k = map_some Claim (made_at b c) (Upgrade x) is in absurd (cc)
upgrade_asked c (Filling b place) x is = let k = map_some (λ (n : Node). Write (cell.Node n) place (made_word b c place)) (made_at b c) (Upgrade x) is in absurd (cc)
upgrade_asked c (Writing j) x is =
    let k = then_some (λ (p : Put). option_map (put_into p) (target_at c p.target)) (put_at c j) (Upgrade x) is in
    let q = map_some (put_into k.0) (target_at c k.0.target) (Upgrade x) k.2 in
    absurd (cc)
upgrade_asked c Committing x is = let k = map_some (λ (y : Target). Commit y.stamp.cell y.obsolete) (target_at c 0) (Upgrade x) is in absurd (cc)
upgrade_asked c (Releasing i) x is = let k = map_some releases (target_at c i) (Upgrade x) is in absurd (cc)
upgrade_asked c (ReleasingNode b) x is = let k = map_some (λ (n : Node). Release (cell.Node n) false) (made_at b c) (Upgrade x) is in absurd (cc)
upgrade_asked c (GivingUp locked released e) x is = let k = map_some (λ (y : Target). Release y.stamp.cell false) (target_at c released) (Upgrade x) is in absurd (cc)
upgrade_asked c (Ended r) x is = absurd (cc)

-- what is refused was an upgrade
pub refused_upgrade : (z : Sizes) (c : Change) (m : Apply) (a : Action) (r : Result ⊤ UpgradeFault) (v w : View) → asks c m ≡ Some a → Answers z (brings c) a (Upgraded r) v w → (i : ℕ) × (m ≡ Upgrading i)
refused_upgrade z c m (Upgrade x) r v w is row = upgrade_asked c m x is
refused_upgrade z c m (Claim n) r v w is row = absurd row
refused_upgrade z c m (Write d i x) r v w is row = absurd row
refused_upgrade z c m (Commit d b) r v w is row = absurd row
refused_upgrade z c m (Release d b) r v w is row = absurd row
refused_upgrade z c m (Begin d) r v w is row = absurd row
refused_upgrade z c m (Read x i) r v w is row = absurd row
refused_upgrade z c m (ReadLeaf x l i) r v w is row = absurd row
refused_upgrade z c m (Check x) r v w is row = absurd row
refused_upgrade z c m (Settle x) r v w is row = absurd row
refused_upgrade z c m (WriteLeaf l i y) r v w is row = absurd row
refused_upgrade z c m (ClearBit p i b) r v w is row = absurd row
refused_upgrade z c m (GiveBack d) r v w is row = absurd row
refused_upgrade z c m (Free d) r v w is row = absurd row
refused_upgrade z c m ReadEpoch r v w is row = absurd row
refused_upgrade z c m (StorePin y) r v w is row = absurd row
refused_upgrade z c m RaiseEpoch r v w is row = absurd row
refused_upgrade z c m (ReadPin q) r v w is row = absurd row

-- ---- few steps

few_words : (k : Layout) → size k ≤ 266
few_words Node4 = omega arith
few_words Node16 = omega arith
few_words Node48 = omega arith
few_words Node256 = omega arith

pub few_filled : (c : Change) (o : Option Node) → filled_at c o ≤ 266
few_filled c None = omega arith
few_filled c (Some n) = few_words n.layout

-- until the end there are fewer than 580
pub few_steps : (z : Sizes) (u v : View) (c : Change) (m : Apply) → Fits z c m u v → ended_at m ≡ None → most_steps m < 580
few_steps z u v c (Upgrading i) fits on = let low = fits.stage.0 in let few = fits.small.targets in omega arith
few_steps z u v c (Claiming false) fits on = omega arith
few_steps z u v c (Claiming true) fits on = omega arith
few_steps z u v c (Filling false place) fits on = let low = fits.stage.1 in let few = few_filled c (made_at false c) in omega arith
few_steps z u v c (Filling true place) fits on = let low = fits.stage.1 in let few = few_filled c (made_at true c) in omega arith
few_steps z u v c (Writing j) fits on =
    let p = fits.stage.0 in
    let low : j < length c.puts.items = slice_get_within c.puts.items j p.0 p.1 in
    let few = fits.small.puts in
    omega arith
few_steps z u v c Committing fits on = omega arith
few_steps z u v c (Releasing i) fits on = let low = fits.stage.0 in let few = fits.small.targets in omega arith
few_steps z u v c (ReleasingNode false) fits on = omega arith
few_steps z u v c (ReleasingNode true) fits on = omega arith
few_steps z u v c (GivingUp locked released e) fits on = let low = fits.stage.0 in let more = fits.stage.1 in let few = fits.small.targets in omega arith
few_steps z u v c (Ended r) fits on = absurd (cc)

-- how it ended
pub ends_as : (z : Sizes) (u v : View) (c : Change) (m : Apply) (r : Result ⊤ UpgradeFault) → Fits z c m u v → ended_at m ≡ Some r → IsOver u c r v × (v.steps ≤ u.steps + 580)
ends_as z u v c (Ended e) r fits is = (subst (λ (a : Result ⊤ UpgradeFault). IsOver u c a v) (same_Some e r is) fits.stage, fits.steps)
ends_as z u v c (Upgrading i) r fits is = absurd (cc)
ends_as z u v c (Claiming b) r fits is = absurd (cc)
ends_as z u v c (Filling b place) r fits is = absurd (cc)
ends_as z u v c (Writing j) r fits is = absurd (cc)
ends_as z u v c Committing r fits is = absurd (cc)
ends_as z u v c (Releasing i) r fits is = absurd (cc)
ends_as z u v c (ReleasingNode b) r fits is = absurd (cc)
ends_as z u v c (GivingUp locked released e) r fits is = absurd (cc)

-- ---- from stage to stage

module _ (z : Sizes) (u v w : View) (c : Change) (a : Action) (answer : Answer) where
  -- where the next stage fits, and comes further, so does all that is known
  pub fits_on : (m n : Apply) → Fits z c m u v → asks c m ≡ Some a → Answers z (brings c) a answer v w → most_steps m < most_steps n → StageFits c n u w → Fits z c n u w
  fits_on m n fits is row more stage = record {
    planned = fits.planned;
    small = fits.small;
    stage = stage;
    steps =
        let made = steps_made z (brings c) a answer v w (allowed z u v c m a fits is) row in
        let one = steps_few answer in
        let before = fits.steps in
        omega (arith, made, one);
  }

  pub told_claim : (b : Bool) → Fits z c (Claiming b) u v → asks c (Claiming b) ≡ Some a → Answers z (brings c) a answer v w → IsLocking u c (targets c) [] (claimed_so c b) w
  told_claim b fits is row =
      let k = map_some Claim (made_at b c) a is in
      by_answer k.0 k.1 (done_row z (brings c) (Claim k.0) answer v w tt (subst (λ (d : Action). Answers z (brings c) d answer v w) (sym k.2) row))
    where
      by_answer : (n : Node) → made_at b c ≡ Some n → Answers z (brings c) (Claim n) Done v w → IsLocking u c (targets c) [] (claimed_so c b) w
      by_answer n made row = claim_on z u c fits.planned b (at_claim c b) (claimed_so c b) (claim_fills c b n made) (claim_none c b) n v w made fits.stage.1 row

  pub told_fill : (b : Bool) (place : ℕ) → Fits z c (Filling b place) u v → asks c (Filling b place) ≡ Some a → Answers z (brings c) a answer v w → IsLocking u c (targets c) [] (at_fill c b (place + 1)) w
  told_fill b place fits is row =
      let k = map_some (λ (m : Node). Write (cell.Node m) place (made_word b c place)) (made_at b c) a is in
      by_answer k.0 k.1 (done_row z (brings c) (Write (cell.Node k.0) place (made_word b c place)) answer v w tt (subst (λ (d : Action). Answers z (brings c) d answer v w) (sym k.2) row))
    where
      by_answer : (n : Node) → made_at b c ≡ Some n → Answers z (brings c) (Write (cell.Node n) place (made_word b c place)) Done v w → IsLocking u c (targets c) [] (at_fill c b (place + 1)) w
      by_answer n made row =
          let low : place < filled_at c (Some n) = subst (λ (o : Option Node). place < filled_at c o) made fits.stage.1 in
          fill_on z u c fits.planned b place (at_fill c b place) (at_fill c b (place + 1)) (fill_fills c b place) (fill_so c b place) n v w made fits.stage.0 low fits.stage.2 row

  pub told_write : (j : ℕ) → Fits z c (Writing j) u v → asks c (Writing j) ≡ Some a → Answers z (brings c) a answer v w → IsLocking u c (targets c) (take (j + 1) c.puts.items) (filled_ends c) w
  told_write j fits is row =
      let p = then_some (λ (q : Put). option_map (put_into q) (target_at c q.target)) (put_at c j) a is in
      let x = map_some (put_into p.0) (target_at c p.0.target) a p.2 in
      by_answer p.0 x.0 p.1 x.1 (done_row z (brings c) (put_into p.0 x.0) answer v w tt (subst (λ (b : Action). Answers z (brings c) b answer v w) (sym x.2) row))
    where
      by_answer : (p : Put) (x : Target) → put_at c j ≡ Some p → target_at c p.target ≡ Some x → Answers z (brings c) (put_into p x) Done v w → IsLocking u c (targets c) (take (j + 1) c.puts.items) (filled_ends c) w
      by_answer p x at is row = write_on z u c fits.planned j (filled_ends c) p x v w at is fits.stage.1 row

  pub told_commit : Fits z c Committing u v → asks c Committing ≡ Some a → Answers z (brings c) a answer v w → IsReleasing u c 1 (filled_ends c) w
  told_commit fits is row =
      let k = map_some (λ (y : Target). Commit y.stamp.cell y.obsolete) (target_at c 0) a is in
      by_answer k.0 k.1 (done_row z (brings c) (Commit k.0.stamp.cell k.0.obsolete) answer v w tt (subst (λ (b : Action). Answers z (brings c) b answer v w) (sym k.2) row))
    where
      by_answer : (x : Target) → target_at c 0 ≡ Some x → Answers z (brings c) (Commit x.stamp.cell x.obsolete) Done v w → IsReleasing u c 1 (filled_ends c) w
      by_answer x at row = commit_on z u c fits.planned v w x fits.stage at row.outcome row.once

  pub told_release : (i : ℕ) → Fits z c (Releasing i) u v → asks c (Releasing i) ≡ Some a → Answers z (brings c) a answer v w → IsReleasing u c (i + 1) (filled_ends c) w
  told_release i fits is row =
      let k = map_some releases (target_at c i) a is in
      by_answer k.0 k.1 (done_row z (brings c) (releases k.0) answer v w tt (subst (λ (b : Action). Answers z (brings c) b answer v w) (sym k.2) row))
    where
      by_answer : (x : Target) → target_at c i ≡ Some x → Answers z (brings c) (releases x) Done v w → IsReleasing u c (i + 1) (filled_ends c) w
      by_answer x at row = release_on z u c fits.planned i (filled_ends c) x v w fits.stage.1 at row

  pub told_release_new : (b : Bool) → Fits z c (ReleasingNode b) u v → asks c (ReleasingNode b) ≡ Some a → Answers z (brings c) a answer v w → IsReleasing u c (targets c) (released_so c b) w
  told_release_new b fits is row =
      let k = map_some (λ (m : Node). Release (cell.Node m) false) (made_at b c) a is in
      by_answer k.0 k.1 (done_row z (brings c) (Release (cell.Node k.0) false) answer v w tt (subst (λ (d : Action). Answers z (brings c) d answer v w) (sym k.2) row))
    where
      by_answer : (n : Node) → made_at b c ≡ Some n → Answers z (brings c) (Release (cell.Node n) false) Done v w → IsReleasing u c (targets c) (released_so c b) w
      by_answer n made row = release_new z u c fits.planned b (at_release c b) (released_so c b) (release_fills c b) (release_some c b n made) n v w fits.stage.1 made row

  pub told_give : (locked i : ℕ) (e : UpgradeFault) → Fits z c (GivingUp locked i e) u v → asks c (GivingUp locked i e) ≡ Some a → Answers z (brings c) a answer v w → GivesUp u c (i + 1) locked e w
  told_give locked i e fits is row =
      let k = map_some (λ (y : Target). Release y.stamp.cell false) (target_at c i) a is in
      by_answer k.0 k.1 (done_row z (brings c) (Release k.0.stamp.cell false) answer v w tt (subst (λ (b : Action). Answers z (brings c) b answer v w) (sym k.2) row))
    where
      by_answer : (x : Target) → target_at c i ≡ Some x → Answers z (brings c) (Release x.stamp.cell false) Done v w → GivesUp u c (i + 1) locked e w
      by_answer x at row = give_on z u c fits.planned i locked e x v w fits.stage.0 fits.stage.2 at row
