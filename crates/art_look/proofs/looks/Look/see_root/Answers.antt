use Rattle.std.proofs.Common.{sym, subst}
use Rattle.art_look.specs.Looks.{StageFits}
use Rattle.art_look.specs.declared.looks.LookStage.{LookStage}
use Rattle.art_look.specs.declared.path_buffers.PathBuffer.{PathBuffer}
use Rattle.art_look.proofs.Stages.{no_root_fits, root_fits}
use Rattle.art_look.proofs.looks.Look.see_root.Goals as goal
use Rattle.art_look.proofs.looks.Look.see_root.Goals.{in-Some, in-None}

pub returns-clause-fits : goal.returns-clause-fits
returns-clause-fits c = λ z lo hi u w reads stamp at shows noted.
    let t : PathBuffer = record { path = c.new-path_buffer.result; key = c.args.path_buffer.now.key } in
    elim c.match-named_by.branch [
      | in-Some b ↦ subst (λ (g : LookStage). StageFits z lo hi 0 g t u w) (sym b.self-is)
          (root_fits z lo hi t u w c.args.stamp c.new-path_buffer.ensures reads stamp c.args.word shows b.in-Some.link at noted (sym b.in-Some.ensures))
      | in-None b ↦ subst (λ (g : LookStage). StageFits z lo hi 0 g t u w) (sym b.self-is)
          (no_root_fits z lo hi t u w c.args.stamp c.new-path_buffer.ensures reads stamp c.args.word shows (sym b.in-None.ensures))
    ]
