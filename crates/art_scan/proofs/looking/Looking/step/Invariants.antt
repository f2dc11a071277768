-- No step was made yet, and any scan that went on so when the loop began goes on so now.
use Rattle.std.proofs.Common.{◌≡◌, ℕ}
use Rattle.art_model.specs.Rows.{Tuple}
use Rattle.art_scan.proofs.looking.Looking.step.Given as goal
use Rattle.art_scan.specs.Running.{IsLooking}
use Rattle.art_table.specs.Tables.{view_of}
use Rattle.art_table.specs.declared.passes.Pass.{Pass}

abbrev pub invariant-looks : goal.invariant-looks
invariant-looks l =
    (view_of l.self.attempt.pass ≡ view_of l.initial.self.attempt.pass)
    × ((lo hi : Tuple) (limit turns : ℕ) (p : Pass) → IsLooking l.table lo hi limit turns p l.initial.rows.items l.initial.self
    → IsLooking l.table lo hi limit turns p l.rows.items l.self)

abbrev pub decreases-looks : goal.decreases-looks
decreases-looks l = l.self.tiling.turns
