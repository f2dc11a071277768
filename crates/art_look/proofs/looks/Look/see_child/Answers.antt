use Rattle.std.proofs.Common.{◌<◌, ◌≤◌, ◌+◌, ◌*◌, sym, subst}
use Rattle.art_look.specs.Looks.{StageFits, least_steps, most_steps}
use Rattle.art_look.specs.declared.looks.LookStage.{LookStage}
use Rattle.art_look.proofs.Counting.{next_later, next_least}
use Rattle.art_look.proofs.Stages.{next_fits}
use Rattle.art_look.proofs.looks.Look.see_child.Goals as goal

pub returns-in-Some-clause-fits : goal.returns-in-Some-clause-fits
returns-in-Some-clause-fits c = λ z hi u w on shows is noted. c.follow.ensures.fits z hi u w c.args.word on shows is noted (sym c.in-Some.ensures)

pub returns-in-None-clause-steps : goal.returns-in-None-clause-steps
returns-in-None-clause-steps c =
    let m = c.args.self.now in
    subst (λ (g : LookStage). 320 * m.depth + 46 + c.args.sought.byte < most_steps m.depth g) (sym c.next_child-self.ensures) (next_later m.depth c.args.sought c.requires.byte)

pub returns-in-None-clause-fits : goal.returns-in-None-clause-fits
returns-in-None-clause-fits c = λ z hi u w on shows is noted.
    let m = c.args.self.now in
    let lo = c.args.lo.now in
    let t = c.args.path_buffer.now in
    subst (λ (g : LookStage). StageFits z lo hi m.depth g t u w) (sym c.next_child-self.ensures)
    (next_fits z lo hi m.depth t u w c.args.sought on c.requires.sought c.requires.low c.requires.byte c.args.word shows is (sym c.in-None.ensures))

pub returns-in-None-clause-least : goal.returns-in-None-clause-least
returns-in-None-clause-least c =
    subst (λ (g : LookStage). least_steps g ≤ 2) (sym c.next_child-self.ensures) (next_least c.args.sought)
