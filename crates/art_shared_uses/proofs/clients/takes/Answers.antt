use Rattle.std.proofs.Common.{rules, subst}
use Rattle.art_shared.specs.declared.pass.Pass.{Pass}
use Rattle.art_shared_uses.specs.Clients.{Writes}
use Rattle.art_shared_uses.proofs.Lent.{writes_still}
use Rattle.art_shared_uses.proofs.clients.takes.Goals as goal

pub returns : goal.returns
returns g c =
    let t = c.args.shared.now in
    let at = c.at-stepper.ensures in
    subst (λ (a : Pass). Writes t a c.remove.new.self) (search rules)
    (writes_still t c.args.pass.now c.at-stepper.result c.remove.new.steps c.requires.of at.pass at.basis c.remove.ensures.only c.remove.new.self c.remove.ensures.called.1.caller)
