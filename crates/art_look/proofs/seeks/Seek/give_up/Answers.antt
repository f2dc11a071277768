use Rattle.std.proofs.Common.{subst, refl, arith}
use Rattle.art_look.proofs.seeks.Seek.give_up.Goals as goal
use Rattle.art_look.specs.Seeks.{StageFits}
use Rattle.art_look.specs.declared.seeks.SeekStage.{SeekStage as StageOf}

pub returns-in-Walking-clause-fits : goal.returns-in-Walking-clause-fits
returns-in-Walking-clause-fits c z k hi u v t fits =
    let m = c.args.self.now in
    let on = subst (λ (s : StageOf). StageFits z k hi u s m t v) c.in-Walking.is fits in
    let w = on.walking in
    let counted = w.counted in
    let within = w.within in
    let few = w.few in
    let used = c.saturating_sub-self.ensures in
    c.close.ensures.fits z k hi u v t (record {
      opened = w.opened;
      may = w.may;
      pins_to = w.pins_to;
      walk = w.walk;
      counted = omega (arith, counted, used, within);
      within = omega arith;
      few = omega (arith, few);
    }) (on.going, refl)
