use Rattle.std.proofs.Common.{refl}
use Rattle.art_shared.specs.Marks.{history_of}
use Rattle.art_shared.specs.Tables.{view_of_pass}
use Rattle.art_table.proofs.Looked.{has_looked, typed_starts}
use Rattle.art_table.proofs.marks.learn.Goals as goal

pub returns-clause-looked : goal.returns-clause-looked
returns-clause-looked c =
    let p = c.args.pass.now in
    let row = c.learn.ensures.row in
    has_looked c.args.table.now p (record { seat = c.learn.new.pass; caller = p.caller }) c.requires.pass c.learn.ensures.pass refl 1 row.is row.grows row.legal row.own

pub returns-clause-learnt : goal.returns-clause-learnt
returns-clause-learnt c = typed_starts c.args.table.now (view_of_pass c.learn.new.pass).seen (history_of c.args.mark.mark) c.learn.ensures.learnt
