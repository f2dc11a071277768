use Rattle.std.proofs.Common.{◌≡◌, ◌++◌, ◌+◌, ◌*◌, ◌≤◌, take, length, flat_map}
use Rattle.art_key.specs.Kinds.{escaped}
use Rattle.art_key.proofs.kinds.append_escaped.Given as goal

abbrev pub invariant-loop-byte : goal.invariant-loop-byte
invariant-loop-byte l = record {
  room : length l.key.items ≤ length l.initial.key.items + 2 * l.byte-index;
  bytes : l.key.items ≡ l.initial.key.items ++ flat_map escaped (take l.byte-index l.bytes);
}
