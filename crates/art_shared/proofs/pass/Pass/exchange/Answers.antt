-- The step keeps the rule.
use prog.Atomic.{either}
use Rattle.std.proofs.Common.{◌==◌}
use Rattle.art_shared.proofs.Turning.{allowed_at}
use Rattle.art_shared.proofs.pass.Pass.exchange.Goals as goal

pub compare_exchange-requires : goal.compare_exchange-requires
compare_exchange-requires g c =
    let me = c.args.self.now.seat in
    let t = c.args.shared.now in
    (c.requires.table, rw t.wide c.requires.place, allowed_at me.id c.args.place me.me t.table.shared.table_id.slots (λ n. either (n == c.args.old) c.args.new n) g.K.Shows.shown g.K.Shows.happens c.args.self.now.one t.key c.requires.basis c.requires.may)
