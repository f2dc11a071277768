use Rattle.std.proofs.Common.{◌≡◌, ◌++◌, take}
use Rattle.art_key.specs.Kinds.{complement}
use Rattle.art_key.proofs.columns.append_complements.Given as goal

abbrev pub invariant-loop-byte : goal.invariant-loop-byte
invariant-loop-byte l = l.key.items ≡ l.initial.key.items ++ complement (take l.byte-index l.bytes)
