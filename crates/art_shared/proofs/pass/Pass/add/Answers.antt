-- The step keeps the rule.
use Rattle.std.proofs.Common.{◌+◌, ◌%◌, ◌^◌}
use Rattle.art_shared.proofs.Turning.{allowed_at}
use Rattle.art_shared.proofs.pass.Pass.add.Goals as goal

pub fetch_add-requires : goal.fetch_add-requires
fetch_add-requires g c =
    let me = c.args.self.now.seat in
    let t = c.args.shared.now in
    (c.requires.table, rw t.wide c.requires.place, allowed_at me.id c.args.place me.me t.table.shared.table_id.slots (λ n. (n + c.args.more) % 2 ^ 64) g.K.Shows.shown g.K.Shows.happens c.args.self.now.one t.key c.requires.basis c.requires.may)
