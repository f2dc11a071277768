use Rattle.std.proofs.Common.{◌≡◌, replicate, take, map}
use Rattle.art_index_c.specs.Columns.{over}
use Rattle.art_index_c.proofs.columns.Column.with.Given as goal

abbrev pub invariant-loop-place : goal.invariant-loop-place
invariant-loop-place l = l.text ≡ over (map (λ b. b) (take l.place l.bytes)) (replicate 24 0)
