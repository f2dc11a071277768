use Rattle.std.proofs.Common.{◌≡◌, ◌++◌, take}
use Rattle.art_key.proofs.kinds.append_bytes.Given as goal

abbrev pub invariant-loop-byte : goal.invariant-loop-byte
invariant-loop-byte l = l.key.items ≡ l.initial.key.items ++ take l.byte-index l.bytes
