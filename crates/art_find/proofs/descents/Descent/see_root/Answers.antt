use Rattle.std.proofs.Common.{sym, subst}
use Rattle.art_find.specs.Descents.{StageFits}
use Rattle.art_find.specs.declared.descents.Stage.{Stage}
use Rattle.art_find.proofs.Stages.{no_root_fits, root_fits}
use Rattle.art_find.proofs.descents.Descent.see_root.Goals as goal
use Rattle.art_find.proofs.descents.Descent.see_root.Goals.{in-Some, in-None}

pub returns-clause-fits : goal.returns-clause-fits
returns-clause-fits c = λ z what u w reads stamp at shows noted.
    let k = c.args.key.now in
    elim c.match-named_by.branch [
      | in-Some b ↦ subst (λ (t : Stage). StageFits z k what 0 t u w) (sym b.self-is)
          (root_fits z k what u w c.args.stamp reads stamp c.args.word shows b.in-Some.link at noted (sym b.in-Some.ensures))
      | in-None b ↦ subst (λ (t : Stage). StageFits z k what 0 t u w) (sym b.self-is)
          (no_root_fits z k what u w c.args.stamp reads stamp c.args.word shows at (sym b.in-None.ensures))
    ]
