use Rattle.std.proofs.Common.{◌∙◌, refl, sym, subst}
use Rattle.std.specs.Prelude.{Ok}
use Rattle.art_cell.specs.declared.cells.Cell.TheVariants as cell
use Rattle.art_step.specs.declared.actions.Answer.TheVariants.{Begun}
use Rattle.art_step.specs.declared.actions.Action.TheVariants.{Begin}
use Rattle.art_look.specs.Looks.{StageFits}
use Rattle.art_look.specs.declared.looks.LookStage.{LookStage}
use Rattle.art_look.specs.declared.looks.LookStage.TheVariants.{Start, Below}
use Rattle.art_look.proofs.Stages.{anchor_fits, at_stage, both_fits}
use Rattle.art_look.proofs.looks.Look.began_at.Goals as goal
use Rattle.art_look.proofs.looks.Look.began_at.Goals.{in-Start, in-Below}

pub returns-clause-fits : goal.returns-clause-fits
returns-clause-fits c = λ z lo hi t u v w asked fits is row.
    let m = c.args.self.now in
    let x = c.args.stamp in
    elim c.match-stage.branch [
      | in-Start b ↦
          let both = at_stage z lo hi m.depth t m.stage Start asked (Begun (Ok x)) u v w (c.requires.at ∙ b.in-Start.is) is fits row in
          subst (λ (g : LookStage). StageFits z lo hi m.depth g t u w) (sym b.self-is)
          (anchor_fits z lo hi m.depth t u v w x both.0 (both.1 (Begin cell.Anchor) refl))
      | in-Below b ↦
          let both = at_stage z lo hi m.depth t m.stage (Below b.in-Below.above b.in-Below.node) asked (Begun (Ok x)) u v w (c.requires.at ∙ b.in-Below.is) is fits row in
          subst (λ (g : LookStage). StageFits z lo hi m.depth g t u w) (sym b.self-is)
          (both_fits z lo hi m.depth t u v w b.in-Below.above x b.in-Below.node both.0 (both.1 (Begin (cell.Node b.in-Below.node)) refl))
    ]
