use Rattle.art_key.proofs.Loops.{IsSpelledTo}
use Rattle.art_key.proofs.keys.spell.Given as goal

abbrev pub invariant-loop-place : goal.invariant-loop-place
invariant-loop-place l = IsSpelledTo l.columns l.values l.key.items l.place
