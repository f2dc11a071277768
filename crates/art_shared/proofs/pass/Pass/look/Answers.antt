-- The version word of the anchor is found.
use Rattle.art_shared.specs.Tables.{basis_in, known_to}
use Rattle.art_shared.proofs.CellTurns.{turns_look}
use Rattle.art_shared.proofs.pass.Pass.look.Goals as goal

pub load-requires-clause-may : goal.load-requires-clause-may
load-requires-clause-may c = turns_look (basis_in c.args.shared.now) (known_to c.args.self.now) _ c.place_of-place.ensures
