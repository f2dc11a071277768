use Rattle.std.proofs.Common.{refl, sym}
use Rattle.art_key.proofs.keys.decode_into.Goals as goal

pub returns-else-not-known-clause-read : goal.returns-else-not-known-clause-read
returns-else-not-known-clause-read c = rw (sym c.columns.ensures.items) (rw (sym c.read-known.ensures) (rw c.if-not-known.false refl))
