-- No step of a change takes back a step, a failure or a word that was found, nor does it touch the last check.
use Rattle.std.proofs.Common.{◌≡◌, ◌∙◌, ◌+◌, ◌≤◌, ℕ, Bool, false, Option, Some, inr, sym, ap, subst, List, ◌∷◌, arith}
use Rattle.std.specs.Prelude.{Result, Ok, Err, ⊤}
use Rattle.std.specs.Option.{option_and_then, option_map}
use Rattle.art_cell.specs.declared.cells.Cell.TheVariants as cell
use Rattle.art_cell.specs.declared.cells.Node.{Node}
use Rattle.art_step.specs.Acting.{Answers, IsAllowed}
use Rattle.art_step.specs.declared.actions.Action.{Action}
use Rattle.art_step.specs.declared.actions.Action.TheVariants.{Begin, Read, ReadLeaf, Check, Settle, Upgrade, Claim, Write, WriteLeaf, Commit, Release, ClearBit, GiveBack, Free, ReadEpoch, StorePin, RaiseEpoch, ReadPin}
use Rattle.art_step.specs.declared.actions.Answer.{Answer}
use Rattle.art_step.specs.declared.actions.Answer.TheVariants.{Begun, Word, Checked, Upgraded, Done}
use Rattle.art_step.specs.declared.actions.Effects.{Effects}
use Rattle.art_plan.proofs.Told.{allowed, map_some, then_some}
use Rattle.art_plan.specs.Apply.{Fits, KeepsCheck, OnlyWrites, asks, brings, put_into, releases}
use Rattle.art_plan.specs.declared.apply.Apply.{Apply}
use Rattle.art_plan.specs.declared.apply.Apply.TheVariants.{Upgrading, Claiming, Filling, Writing, Committing, Releasing, ReleasingNode, GivingUp, Ended}
use Rattle.art_plan.specs.Changes.{put_at, target_at}
use Rattle.art_plan.specs.Whole.{made_at, made_word}
use Rattle.art_plan.specs.declared.changes.Change.{Change}
use Rattle.art_plan.specs.declared.changes.Put.{Put}
use Rattle.art_plan.specs.declared.changes.Target.{Target}
use Rattle.art_step.specs.Steps.Upgrade as upgrade
use Rattle.art_step.specs.Views.{Member}
use Rattle.art_step.specs.declared.faults.UpgradeFault.{UpgradeFault}
use Rattle.art_step.specs.declared.faults.UpgradeFault.TheVariants as fault
use Rattle.art_step.specs.declared.views.Found.{Found}
use Rattle.art_step.specs.declared.views.LastCheck.{LastCheck}
use Rattle.art_step.specs.declared.views.Sizes.{Sizes}
use Rattle.art_step.specs.declared.views.Stamp.{Stamp}
use Rattle.art_step.specs.declared.views.View.{View}

same_found : (v w : View) → w.found ≡ v.found → (x : Found) → Member x v.found → Member x w.found
same_found v w is x there = subst (λ (xs : List Found). Member x xs) (sym is) there

more_found : (v w : View) (y : Found) → w.found ≡ y ∷ v.found → (x : Found) → Member x v.found → Member x w.found
more_found v w y is x there = subst (λ (xs : List Found). Member x xs) (sym is) (inr there)

-- a step that found nothing, one that found a word, and one that failed
silent_keeps : (v w : View) → w.steps ≡ v.steps + 1 → w.failures ≡ v.failures → w.found ≡ v.found → w.checked ≡ v.checked → KeepsCheck v w
silent_keeps v w step same found checked = record { steps = omega (arith, step); failures = omega (arith, same); found = same_found v w found; checked = checked }

finding_keeps : (v w : View) (y : Found) → w.steps ≡ v.steps + 1 → v.failures ≤ w.failures → w.found ≡ y ∷ v.found → w.checked ≡ v.checked → KeepsCheck v w
finding_keeps v w y step more found checked = record { steps = omega (arith, step); failures = more; found = more_found v w y found; checked = checked }

-- none was made
pub nothing_keeps : (v w : View) → w ≡ v → KeepsCheck v w
nothing_keeps v w is =
    let step = ap (λ (t : View). t.steps) is in
    let same = ap (λ (t : View). t.failures) is in
    record { steps = omega (arith, step); failures = omega (arith, same); found = same_found v w (ap (λ (t : View). t.found) is); checked = ap (λ (t : View). t.checked) is }

-- words were written alone
pub writes_keep : (v w : View) (n : ℕ) → OnlyWrites v w n → KeepsCheck v w
writes_keep v w n only =
    let step = ap (λ (t : View). t.steps) only in
    let same = ap (λ (t : View). t.failures) only in
    record { steps = omega (arith, step); failures = omega (arith, same); found = same_found v w (ap (λ (t : View). t.found) only); checked = ap (λ (t : View). t.checked) only }

-- one after another
pub keeps_then : (u v w : View) → KeepsCheck u v → KeepsCheck v w → KeepsCheck u w
keeps_then u v w first then =
    let a = first.steps in
    let b = then.steps in
    let c = first.failures in
    let d = then.failures in
    record { steps = omega (arith, a, b); failures = omega (arith, c, d); found = λ x there. then.found x (first.found x there); checked = then.checked ∙ first.checked }

-- ---- one step

refused_keeps : (v w : View) (x : Stamp) (e : UpgradeFault) → upgrade.Refused v w x e → KeepsCheck v w
refused_keeps v w x (fault.Changed e) row =
    let more = ap (λ (t : View). t.failures) row.3.is in
    finding_keeps v w _ (ap (λ (t : View). t.steps) row.3.is) (omega (arith, more)) (ap (λ (t : View). t.found) row.3.is) (ap (λ (t : View). t.checked) row.3.is)
refused_keeps v w x (fault.Exhausted e) row = nothing_keeps v w row.2

-- a step by which a change is made
abbrev pub IsMade : Action → Type 0
IsMade (Upgrade x) = ⊤
IsMade (Claim n) = ⊤
IsMade (Write b i word) = ⊤
IsMade (Commit b o) = ⊤
IsMade (Release b o) = ⊤
IsMade a = ⊥

pub step_keeps : (z : Sizes) (v w : View) (e : Effects) (a : Action) (answer : Answer) → IsMade a → IsAllowed z (Some e) v a → Answers z (Some e) a answer v w → KeepsCheck v w
step_keeps z v w e (Upgrade x) (Upgraded (Ok done)) is may row = let same = ap (λ (t : View). t.failures) row.is in finding_keeps v w _ (ap (λ (t : View). t.steps) row.is) (omega (arith, same)) (ap (λ (t : View). t.found) row.is) (ap (λ (t : View). t.checked) row.is)
step_keeps z v w e (Upgrade x) (Upgraded (Err f)) is may row = refused_keeps v w x f row
step_keeps z v w e (Upgrade x) (Begun s) is may row = absurd row
step_keeps z v w e (Upgrade x) (Word s) is may row = absurd row
step_keeps z v w e (Upgrade x) (Checked s) is may row = absurd row
step_keeps z v w e (Upgrade x) Done is may row = absurd row
step_keeps z v w e (Claim n) (Begun s) is may row = absurd row
step_keeps z v w e (Claim n) (Word s) is may row = absurd row
step_keeps z v w e (Claim n) (Checked s) is may row = absurd row
step_keeps z v w e (Claim n) (Upgraded s) is may row = absurd row
step_keeps z v w e (Claim n) Done is may row = silent_keeps v w (ap (λ (t : View). t.steps) row.is) (ap (λ (t : View). t.failures) row.is) (ap (λ (t : View). t.found) row.is) (ap (λ (t : View). t.checked) row.is)
step_keeps z v w e (Write d i x) (Begun s) is may row = absurd row
step_keeps z v w e (Write d i x) (Word s) is may row = absurd row
step_keeps z v w e (Write d i x) (Checked s) is may row = absurd row
step_keeps z v w e (Write d i x) (Upgraded s) is may row = absurd row
step_keeps z v w e (Write d i x) Done is may row = silent_keeps v w (ap (λ (t : View). t.steps) (row may.holding (may.may.held, may.cell)).is) (ap (λ (t : View). t.failures) (row may.holding (may.may.held, may.cell)).is) (ap (λ (t : View). t.found) (row may.holding (may.may.held, may.cell)).is) (ap (λ (t : View). t.checked) (row may.holding (may.may.held, may.cell)).is)
step_keeps z v w e (Commit d b) (Begun s) is may row = absurd row
step_keeps z v w e (Commit d b) (Word s) is may row = absurd row
step_keeps z v w e (Commit d b) (Checked s) is may row = absurd row
step_keeps z v w e (Commit d b) (Upgraded s) is may row = absurd row
step_keeps z v w e (Commit d b) Done is may row = silent_keeps v w (ap (λ (t : View). t.steps) (row.outcome may.holding (may.first.held, may.cell)).is) (ap (λ (t : View). t.failures) (row.outcome may.holding (may.first.held, may.cell)).is) (ap (λ (t : View). t.found) (row.outcome may.holding (may.first.held, may.cell)).is) (ap (λ (t : View). t.checked) (row.outcome may.holding (may.first.held, may.cell)).is)
step_keeps z v w e (Release d b) (Begun s) is may row = absurd row
step_keeps z v w e (Release d b) (Word s) is may row = absurd row
step_keeps z v w e (Release d b) (Checked s) is may row = absurd row
step_keeps z v w e (Release d b) (Upgraded s) is may row = absurd row
step_keeps z v w e (Release d b) Done is may row = silent_keeps v w (ap (λ (t : View). t.steps) (row may.holding (may.may.0, may.cell)).is) (ap (λ (t : View). t.failures) (row may.holding (may.may.0, may.cell)).is) (ap (λ (t : View). t.found) (row may.holding (may.may.0, may.cell)).is) (ap (λ (t : View). t.checked) (row may.holding (may.may.0, may.cell)).is)
step_keeps z v w e (Begin x) answer is may row = absurd is
step_keeps z v w e (Read x i) answer is may row = absurd is
step_keeps z v w e (ReadLeaf x l i) answer is may row = absurd is
step_keeps z v w e (Check x) answer is may row = absurd is
step_keeps z v w e (Settle x) answer is may row = absurd is
step_keeps z v w e (WriteLeaf l i x) answer is may row = absurd is
step_keeps z v w e (ClearBit p i o) answer is may row = absurd is
step_keeps z v w e (GiveBack x) answer is may row = absurd is
step_keeps z v w e (Free x) answer is may row = absurd is
step_keeps z v w e ReadEpoch answer is may row = absurd is
step_keeps z v w e (StorePin x) answer is may row = absurd is
step_keeps z v w e RaiseEpoch answer is may row = absurd is
step_keeps z v w e (ReadPin q) answer is may row = absurd is

-- it is all that a making asks for
pub asks_made : (c : Change) (m : Apply) (a : Action) → asks c m ≡ Some a → IsMade a
asks_made c (Upgrading i) a is = let k = map_some (λ (x : Target). Upgrade x.stamp) (target_at c i) a is in subst IsMade k.2 tt
asks_made c (Claiming b) a is = let k = map_some Claim (made_at b c) a is in subst IsMade k.2 tt
asks_made c (Filling b place) a is = let k = map_some (λ (n : Node). Write (cell.Node n) place (made_word b c place)) (made_at b c) a is in subst IsMade k.2 tt
asks_made c (Writing j) a is =
    let p = then_some (λ (q : Put). option_map (put_into q) (target_at c q.target)) (put_at c j) a is in
    let x = map_some (put_into p.0) (target_at c p.0.target) a p.2 in
    subst IsMade x.2 tt
asks_made c Committing a is = let k = map_some (λ (x : Target). Commit x.stamp.cell x.obsolete) (target_at c 0) a is in subst IsMade k.2 tt
asks_made c (Releasing i) a is = let k = map_some releases (target_at c i) a is in subst IsMade k.2 tt
asks_made c (ReleasingNode b) a is = let k = map_some (λ (n : Node). Release (cell.Node n) false) (made_at b c) a is in subst IsMade k.2 tt
asks_made c (GivingUp locked released e) a is = let k = map_some (λ (x : Target). Release x.stamp.cell false) (target_at c released) a is in subst IsMade k.2 tt
asks_made c (Ended r) a is = absurd (cc)

-- so is each answer to it
pub answer_keeps : (z : Sizes) (u v w : View) (c : Change) (m : Apply) (a : Action) (answer : Answer) → Fits z c m u v → asks c m ≡ Some a → Answers z (brings c) a answer v w → KeepsCheck v w
answer_keeps z u v w c m a answer fits is row = step_keeps z v w c.effects a answer (asks_made c m a is) (allowed z u v c m a fits is) row
