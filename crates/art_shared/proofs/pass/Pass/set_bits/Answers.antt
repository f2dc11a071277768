-- The step keeps the rule.
use Rattle.std.specs.Prelude.{bit_or}
use Rattle.art_shared.proofs.Turning.{allowed_at}
use Rattle.art_shared.proofs.pass.Pass.set_bits.Goals as goal

pub fetch_or-requires : goal.fetch_or-requires
fetch_or-requires g c =
    let me = c.args.self.now.seat in
    let t = c.args.shared.now in
    (c.requires.table, rw t.wide c.requires.place, allowed_at me.id c.args.place me.me t.table.shared.table_id.slots (λ n. bit_or n c.args.bits) g.K.Shows.shown g.K.Shows.happens c.args.self.now.one t.key c.requires.basis c.requires.may)
