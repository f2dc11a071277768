use Rattle.std.proofs.Common.{arith}
use Rattle.art_cell.proofs.KnownLemmas.{no_bit_of_none, none_of_run}
use Rattle.art_cell.proofs.reads.Reads.unread_from.Goals as goal

pub returns-clause-unread : goal.returns-clause-unread
returns-clause-unread c i low =
    let within = c.zeros_from.ensures.within in
    none_of_run c.self.inside.known c.args.place i (omega (arith, low, within)) c.self.inside.words c.args.self.now c.self.view_is (c.zeros_from.ensures.zero i low)

pub returns-clause-some : goal.returns-clause-some
returns-clause-some c none = c.zeros_from.ensures.some (no_bit_of_none c.self.inside.words c.self.inside.known c.args.self.now c.args.place c.self.view_is c.requires none)
