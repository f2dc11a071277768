-- A seat takes in another, with no pass and one history.
use Rattle.std.proofs.Common.{◌∙◌, ap, arith}
use Rattle.art_shared.proofs.Closed.{no_items}
use Rattle.art_shared.proofs.Marking.{takes_in}
use Rattle.art_shared.proofs.Moving.{joins}
use Rattle.art_shared.proofs.pass.Pass.take_in.Goals as goal

pub join_seat-requires : goal.join_seat-requires
join_seat-requires c =
    let a = c.args.self.now.seat in
    let b = c.args.mark.seat in
    let t = c.args.shared.now in
    (c.requires.pass.table, c.requires.mark.table, no_items b.me.1 c.args.mark.empty, rw t.wide (omega arith), joins t.table.shared.key a.id b.id a.me.0 b.me.0)

pub returns-clause-told : goal.returns-clause-told
returns-clause-told c = ap (λ m. m.0) c.join_seat.ensures.2 ∙ takes_in c.args.self.now.seat.me.0 c.args.mark.seat.me.0 c.args.mark.none c.args.mark.one
