-- All words are written.
use Rattle.std.proofs.Common.{◌≡◌, ℕ, arith, subst}
use Rattle.art_epoch.specs.LeafWriter.{IsPacked}
use Rattle.art_epoch.proofs.PackedLeaves.{packed_leaf}
use Rattle.art_epoch.proofs.leaf_writer.LeafWriter.next.Goals as goal

pub returns-else-self-lt10-clause-ended : goal.returns-else-self-lt10-clause-ended
returns-else-self-lt10-clause-ended c z u v fits none =
    let l = c.args.leaf in
    let k = c.args.key.now in
    let high = c.if-self-lt10.false in
    let low = fits.low in
    let all : c.args.self.now.place ≡ 10 = omega arith in
    packed_leaf z v l k c.args.value (λ i. omega (arith, c.type_inv.key i)) c.requires.few (subst (λ (n : ℕ). IsPacked z v l k c.args.value n) all fits.packed)
