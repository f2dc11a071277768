use Rattle.std.proofs.Common.{◌≡◌, ◌++◌, take}
use Rattle.art_plan.specs.Puts.{puts_of}
use Rattle.art_plan.proofs.changes.put_writes.Given as goal

abbrev pub invariant-loop-write : goal.invariant-loop-write
invariant-loop-write l = l.puts.items ≡ l.fn.change.puts.items ++ puts_of l.target (take l.write-index l.write-items)
