use Rattle.std.proofs.Common.{◌∙◌, refl, sym, subst}
use Rattle.std.specs.Prelude.{Ok}
use Rattle.art_cell.specs.declared.cells.Cell.TheVariants as cell
use Rattle.art_find.specs.Descents.{StageFits}
use Rattle.art_step.specs.declared.actions.Answer.TheVariants.{Begun}
use Rattle.art_step.specs.declared.actions.Action.TheVariants.{Begin}
use Rattle.art_find.specs.declared.descents.Stage.{Stage}
use Rattle.art_find.specs.declared.descents.Stage.TheVariants.{Start, Below}
use Rattle.art_find.proofs.Stages.{anchor_fits, at_stage, both_fits}
use Rattle.art_find.proofs.descents.Descent.began_at.Goals as goal
use Rattle.art_find.proofs.descents.Descent.began_at.Goals.{in-Start, in-Below}

pub returns-clause-fits : goal.returns-clause-fits
returns-clause-fits c = λ z k what u v w asked fits is row.
    let m = c.args.self.now in
    let x = c.args.stamp in
    elim c.match-stage.branch [
      | in-Start b ↦
          let both = at_stage z k what m.depth m.stage Start asked (Begun (Ok x)) u v w (c.requires.at ∙ b.in-Start.is) is fits row in
          subst (λ (t : Stage). StageFits z k what m.depth t u w) (sym b.self-is)
          (anchor_fits z k what m.depth u v w x both.0 (both.1 (Begin cell.Anchor) refl))
      | in-Below b ↦
          let both = at_stage z k what m.depth m.stage (Below b.in-Below.above b.in-Below.node) asked (Begun (Ok x)) u v w (c.requires.at ∙ b.in-Below.is) is fits row in
          subst (λ (t : Stage). StageFits z k what m.depth t u w) (sym b.self-is)
          (both_fits z k what m.depth u v w b.in-Below.above x b.in-Below.node both.0 (both.1 (Begin (cell.Node b.in-Below.node)) refl))
    ]
