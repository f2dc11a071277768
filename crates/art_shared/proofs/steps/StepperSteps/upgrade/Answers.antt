-- A version word is found: the stamped one, which goes up, or another.
use Rattle.std.proofs.Common.{◌≡◌, ◌*◌, ◌<◌, ◌≤◌, ◌↔◌, ◌∙◌, ℕ, Bool, false, ⊎_elim, sym}
use Rattle.std.proofs.lemmas.Bool.{cases_lt, false≢true}
use Rattle.std.specs.Prelude.{IsTrue}
use Rattle.art_step.specs.Steps.Upgrade as upgrade
use Rattle.art_step.specs.Views.{last_counter}
use Rattle.art_shared.specs.Stepper.{basis_of, known_by, sizes_of, view_of}
use Rattle.art_shared.proofs.CellTurns.{turns_upgrade, version_low}
use Rattle.art_shared.proofs.Stamps.{stamp_at}
use Rattle.art_shared.proofs.steps.StepperSteps.upgrade.Goals as goal

-- a word of which it is found that it is not the last, is below it
not_last : (b : Bool) (x : ℕ) → (IsTrue b ↔ (4 * last_counter ≤ x)) → b ≡ false → x < 4 * last_counter
not_last b x says off = ⊎_elim
    (λ (low : x < 4 * last_counter). low)
    (λ (high : 4 * last_counter ≤ x). absurd (false≢true (sym off ∙ says.1 high)))
    (cases_lt x (4 * last_counter))

pub exchange-found-requires-clause-place : goal.exchange-found-requires-clause-place
exchange-found-requires-clause-place c = let s = c.args.self.now in rw (stamp_at s c.args.stamp c.requires.stamp) (version_low (sizes_of s) c.args.stamp.cell c.requires.inside)

pub exchange-found-requires-clause-may : goal.exchange-found-requires-clause-may
exchange-found-requires-clause-may c =
    let s = c.args.self.now in
    let may : upgrade.May (view_of s) c.args.stamp = record { stamp = c.requires.stamp; path = c.requires.path; limit = not_last _ _ c.is_last.ensures c.if-is_last.false; early = c.requires.early; unclaimed = c.requires.unclaimed } in
    turns_upgrade (basis_of s) (known_by s) c.args.stamp _ _ c.locked.ensures (stamp_at s c.args.stamp c.requires.stamp) c.requires.inside may
