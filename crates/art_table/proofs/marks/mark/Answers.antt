use Rattle.std.proofs.Common.{refl}
use Rattle.art_table.proofs.Looked.{has_looked}
use Rattle.art_table.proofs.marks.mark.Goals as goal

pub returns-clause-looked : goal.returns-clause-looked
returns-clause-looked c =
    let p = c.args.pass.now in
    let row = c.mark.ensures.row in
    has_looked c.args.table.now p (record { seat = c.mark.new.pass; caller = p.caller }) c.requires c.mark.ensures.pass refl 1 row.is row.grows row.legal row.own
