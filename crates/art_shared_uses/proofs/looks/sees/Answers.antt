use Rattle.std.proofs.Common.{rules, subst}
use Rattle.art_shared.specs.declared.pass.Pass.{Pass}
use Rattle.art_shared_uses.specs.Clients.{Writes}
use Rattle.art_shared_uses.proofs.Lent.{writes_still}
use Rattle.art_shared_uses.proofs.looks.sees.Goals as goal

pub returns : goal.returns
returns c =
    let t = c.args.shared.now in
    let at = c.at-stepper.ensures in
    subst (λ (a : Pass). Writes t a c.look-reached.new.self) (search rules)
    (writes_still t c.args.pass.now c.at-stepper.result c.look-reached.new.steps c.requires.of at.pass at.basis c.look-reached.ensures.only c.look-reached.new.self c.look-reached.ensures.called.1.caller)
