use Rattle.std.proofs.Common.{rules}
use Rattle.art_table.proofs.Looked.{met}
use Rattle.art_table.proofs.marks.meet.Goals as goal

pub returns : goal.returns
returns c = search (rules, met)
