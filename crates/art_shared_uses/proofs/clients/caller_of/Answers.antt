use Rattle.std.proofs.Common.{◌<◌, ap, subst}
use Rattle.art_change.specs.Calls.{IsCaller, IsFresh}
use Rattle.art_shared.specs.declared.law.Basis.{Basis}
use Rattle.art_shared_uses.proofs.New.{writes_new}
use Rattle.art_shared_uses.proofs.clients.caller_of.Goals as goal
use Rattle.art_step.specs.declared.views.Sizes.{Sizes}
use Rattle.art_step.specs.declared.views.View.{View}

pub returns : goal.returns
returns g c =
    let t = c.args.shared.now in
    let a = c.args.pass.now in
    let inside = subst (λ (z : Sizes). c.number.result < z.passes) (ap (λ (b : Basis). b.sizes) c.requires.of.basis) c.number.ensures.inside in
    let new = subst (λ (z : Sizes). (u : View) → IsFresh z u c.number.result → IsCaller z u c.new.result) c.sizes-sizes.ensures c.new.ensures in
    writes_new t a c.new.result c.number.result c.requires c.number.ensures.is inside new
