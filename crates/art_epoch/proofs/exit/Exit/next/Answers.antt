-- The first number in hand may go back, and the pass may go idle where there is none.
use Rattle.std.proofs.Common.{◌∙◌, None, refl, subst, sym}
use Rattle.std.proofs.lemmas.Option.{same_Some}
use Rattle.art_step.specs.Acting.{IsAllowed}
use Rattle.art_step.specs.declared.actions.Action.{Action}
use Rattle.art_step.specs.declared.actions.Action.TheVariants.{GiveBack}
use Rattle.art_epoch.specs.Exit.{ExitFits}
use Rattle.art_epoch.specs.Stocks.{first_in}
use Rattle.art_epoch.specs.declared.exit.Exit.{Exit}
use Rattle.art_epoch.proofs.Closes.{gives_first, may_give}
use Rattle.art_epoch.proofs.exit.Exit.next.Goals as goal

pub returns-in-Giving-clause-allowed : goal.returns-in-Giving-clause-allowed
returns-in-Giving-clause-allowed c z k value u v ps qs us fits =
    let s = c.args.stock.now in
    let g = subst (λ (m : Exit). ExitFits z k value u ps us m qs s v) c.in-Giving.is fits in
    subst (λ (a : Action). IsAllowed z None v a) (sym c.gives.ensures) (may_give z k value u v ps qs us s g (first_in s) refl)

pub returns-in-Giving-clause-order : goal.returns-in-Giving-clause-order
returns-in-Giving-clause-order c d is = let s = c.args.stock.now in gives_first s (first_in s) d refl (sym c.gives.ensures ∙ same_Some c.gives.result (GiveBack d) is)
