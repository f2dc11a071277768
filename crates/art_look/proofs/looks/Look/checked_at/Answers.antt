use Rattle.std.proofs.Common.{refl, sym, ◌∙◌, subst}
use Rattle.std.specs.Prelude.{Ok}
use Rattle.art_step.specs.declared.actions.Answer.TheVariants.{Checked}
use Rattle.art_step.specs.declared.actions.Action.TheVariants.{Check, Settle}
use Rattle.art_look.specs.Looks.{StageFits}
use Rattle.art_look.specs.declared.looks.LookStage.{LookStage}
use Rattle.art_look.specs.declared.looks.LookStage.TheVariants.{Child, Both, Decided}
use Rattle.art_look.proofs.Stages.{at_stage, ended_fits, header_fits, link_fits}
use Rattle.art_look.proofs.looks.Look.checked_at.Goals as goal
use Rattle.art_look.proofs.looks.Look.checked_at.Goals.{in-Child, in-Both, in-Decided}

pub returns-clause-fits : goal.returns-clause-fits
returns-clause-fits c = λ z lo hi t u v w asked fits is row.
    let m = c.args.self.now in
    elim c.match-stage.branch [
      | in-Child b ↦
          let x = b.in-Child.stamp in
          let both = at_stage z lo hi m.depth t m.stage (Child x b.in-Child.link) asked (Checked (Ok tt)) u v w (c.requires.at ∙ b.in-Child.is) is fits row in
          subst (λ (g : LookStage). StageFits z lo hi m.depth g t u w) (sym (b.self-is ∙ b.below-self.ensures))
          (link_fits z lo hi m.depth t u v w x b.in-Child.link both.0 (both.1 (Check x) refl))
      | in-Both b ↦
          let x = b.in-Both.above in
          let both = at_stage z lo hi m.depth t m.stage (Both x b.in-Both.stamp b.in-Both.node) asked (Checked (Ok tt)) u v w (c.requires.at ∙ b.in-Both.is) is fits row in
          subst (λ (g : LookStage). StageFits z lo hi m.depth g t u w) (sym b.self-is)
          (header_fits z lo hi m.depth t u v w x b.in-Both.stamp b.in-Both.node both.0 (both.1 (Check x) refl))
      | in-Decided b ↦
          let x = b.in-Decided.stamp in
          let both = at_stage z lo hi m.depth t m.stage (Decided x b.in-Decided.reach b.in-Decided.value) asked (Checked (Ok tt)) u v w (c.requires.at ∙ b.in-Decided.is) is fits row in
          subst (λ (g : LookStage). StageFits z lo hi m.depth g t u w) (sym b.self-is)
          (ended_fits z lo hi m.depth t u v w x b.in-Decided.reach b.in-Decided.value both.0 (both.1 (Settle x) refl))
    ]
