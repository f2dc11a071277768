use Rattle.std.proofs.Common.{◌≡◌, take}
use Rattle.art_key.specs.Kinds.{number_of}
use Rattle.art_key.proofs.kinds.number_of.Given as goal

abbrev pub invariant-loop-byte : goal.invariant-loop-byte
invariant-loop-byte l = l.number ≡ number_of (take l.byte-index l.bytes)
