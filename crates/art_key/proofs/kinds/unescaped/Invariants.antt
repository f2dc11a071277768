use Rattle.std.proofs.Common.{◌≡◌, length}
use Rattle.art_key.specs.Kinds.{unescaped}
use Rattle.art_key.proofs.Texts.{after_front}
use Rattle.art_key.proofs.kinds.unescaped.Given as goal

abbrev pub decreases-loop-rest : goal.decreases-loop-rest
decreases-loop-rest l = length l.rest

abbrev pub invariant-loop-rest : goal.invariant-loop-rest
invariant-loop-rest l = after_front l.text.items (unescaped l.rest) ≡ unescaped l.bytes
