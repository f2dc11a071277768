use Rattle.std.proofs.Common.{ℕ, ap, sym, subst, arith}
use Rattle.art_attempt.proofs.Left.{tries_few}
use Rattle.art_change.proofs.writes.Write.new.Goals as goal
use Rattle.art_epoch.specs.Enter.{MayOpen}
use Rattle.art_epoch.specs.Limbo.{places_of}
use Rattle.art_step.specs.declared.views.Sizes.{Sizes as SizesOf}

pub returns-clause-left : goal.returns-clause-left
returns-clause-left c z u may =
    let passes = ap (λ (y : SizesOf). y.passes) may.room.sizes in
    let ps = places_of c.args.limbo.now in
    let few = c.new.ensures.left z u (subst (λ (n : ℕ). MayOpen z u c.args.own n ps) (sym passes) may.frame) in
    let tries = tries_few c.args.turns in
    omega (arith, passes, few, tries)
