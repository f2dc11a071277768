-- Any scan that was made as far as this when the loop began is made so far now, and the list has the rows that it listed first.
use Rattle.std.proofs.Common.{ℕ, ◌≤◌, length, take}
use Rattle.art_model.specs.Rows.{Tuple}
use Rattle.art_scan.proofs.scans.look_to_the_end.Given as goal
use Rattle.art_scan.specs.Tilings.{IsScanning}
use Rattle.art_table.specs.declared.passes.Pass.{Pass}

abbrev pub invariant-loop-out : goal.invariant-loop-out
invariant-loop-out l =
    (l.listed ≤ length l.out.items)
    × ((lo hi : Tuple) (limit turns : ℕ) (p : Pass) → IsScanning l.table lo hi limit turns p l.initial.pass (take l.initial.listed l.initial.out.items) l.initial.tiling
    → IsScanning l.table lo hi limit turns p l.pass (take l.listed l.out.items) l.tiling)

abbrev pub decreases-loop-out : goal.decreases-loop-out
decreases-loop-out l = l.tiling.turns
