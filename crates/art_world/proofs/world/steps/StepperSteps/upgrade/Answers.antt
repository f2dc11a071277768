-- A changed version word is found, or the stamped one, and the cell is locked.
use Rattle.art_world.specs.Stepper.{pass_of, view_of, world_of}
use Rattle.art_step.specs.WordRows.{views_of}
use Rattle.art_world.proofs.ViewLists.{at_view}
use Rattle.std.proofs.lemmas.Bool.{cases_lt, false≢true}
use Rattle.std.specs.Prelude.{IsTrue}
use Rattle.art_step.specs.Views.{last_counter}
use Rattle.std.proofs.Math.Nat.{add-zero}
use Rattle.std.proofs.Common.{set, get_or, ap, arith, subst, ◌+◌, Bool, false, ℕ, ◌*◌, ◌<◌, ◌≤◌, ◌↔◌, ⊎_elim, ◌≡◌, ◌∙◌, sym}
use Rattle.art_step.specs.Steps.Upgrade as upgrade
use Rattle.art_step.proofs.Moves.{Moves, moves_fails}
use Rattle.art_step.specs.Effects.{LocksStamped}
use Rattle.art_step.proofs.Changing.{moves_upgrades}
use Rattle.art_step.proofs.WordRows.{inside_of}
use Rattle.art_world.proofs.Moving.{stamp_low, stamp_place, version_at}
use Rattle.art_world.proofs.world.steps.StepperSteps.upgrade.Goals as goal

-- a word of which it is found that it is not the last, is below it
not_last : (b : Bool) (x : ℕ) → (IsTrue b ↔ (4 * last_counter ≤ x)) → b ≡ false → x < 4 * last_counter
not_last b x says off = ⊎_elim
    (λ (low : x < 4 * last_counter). low)
    (λ (high : 4 * last_counter ≤ x). absurd (false≢true (sym off ∙ says.1 high)))
    (cases_lt x (4 * last_counter))

pub load-found-requires : goal.load-found-requires
load-found-requires c =
    let s = c.args.self.now in
    let low = stamp_low (world_of s) (pass_of s) s.inside (record { long = c.stays_sound.ensures.words; count = c.stays_sound.ensures.passes; sound = c.stays_sound.ensures.sound; lasting = c.stays_sound.ensures.lasting }) c.args.stamp c.requires.stamp c.requires.inside in
    omega (arith, low)

pub find-requires-clause-moves : goal.find-requires-clause-moves
find-requires-clause-moves c i =
    let s = c.args.self.now in
    let k = world_of s in
    moves_fails k.sizes k.words (views_of k.views) (pass_of s) (view_of s) i.sound (at_view k.views (pass_of s) s.inside) i.long c.args.stamp c.load-found.result (version_at k c.args.stamp.cell c.args.stamp.first c.load-found.result c.requires.inside (stamp_place k (pass_of s) s.inside i c.args.stamp c.requires.stamp) (c.load-found.ensures ∙ ap (λ (i : ℕ). get_or k.words i 0) (add-zero c.args.stamp.first))) c.requires.stamp (λ e. c.if-stamp-found.true (sym e))

pub put-requires-clause-place : goal.put-requires-clause-place
put-requires-clause-place c i =
    let s = c.args.self.now in
    stamp_low (world_of s) (pass_of s) s.inside i c.args.stamp c.requires.stamp c.requires.inside

pub put-requires-clause-moves : goal.put-requires-clause-moves
put-requires-clause-moves c i =
    let s = c.args.self.now in
    let k = world_of s in
    let may : upgrade.May (view_of s) c.args.stamp = record { stamp = c.requires.stamp; path = c.requires.path; limit = not_last _ _ c.is_last.ensures c.if-is_last.false; early = c.requires.early; unclaimed = c.requires.unclaimed } in
    rw c.locked.ensures (subst (λ (place : ℕ). Moves k.sizes k.words (views_of k.views) (pass_of s) (view_of s) (set k.words place (c.args.stamp.version + 2)) (λ v w. upgrade.Locks v w c.args.stamp) (LocksStamped c.args.stamp))
    (sym (stamp_place k (pass_of s) s.inside i c.args.stamp c.requires.stamp))
    (moves_upgrades k.sizes k.words (views_of k.views) (pass_of s) (view_of s) i.sound (at_view k.views (pass_of s) s.inside) i.long c.args.stamp (inside_of k.sizes c.args.stamp.cell c.requires.inside) (sym (version_at k c.args.stamp.cell c.args.stamp.first c.load-found.result c.requires.inside (stamp_place k (pass_of s) s.inside i c.args.stamp c.requires.stamp) (c.load-found.ensures ∙ ap (λ (i : ℕ). get_or k.words i 0) (add-zero c.args.stamp.first))) ∙ sym c.if-stamp-found.false) may))
