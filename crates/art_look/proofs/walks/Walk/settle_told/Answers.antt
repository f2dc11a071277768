use Rattle.std.proofs.Common.{◌∙◌, subst}
use Rattle.art_step.specs.Acting.{Answers, telling}
use Rattle.art_step.specs.declared.actions.Action.TheVariants.{Settle}
use Rattle.art_step.specs.declared.actions.Answer.TheVariants.{Checked}
use Rattle.art_look.proofs.Settlings.{settling_asks}
use Rattle.art_look.proofs.Walking.{range_on}
use Rattle.art_look.proofs.walks.Walk.settle_told.Goals as goal
use Rattle.art_look.specs.Settlings.{StandsAt, stamp_of}
use Rattle.art_look.specs.Walks.{Fits, deed_at}
use Rattle.art_look.specs.declared.walks.Settling.{Settling as SettlingOf}
use Rattle.art_look.specs.declared.walks.Settling.TheVariants.{Range}
use Rattle.art_look.specs.declared.walks.Walk.{Walk as WalkOf}
use Rattle.art_look.specs.declared.walks.Walk.TheVariants.{Range as RangeWalk}

pub returns-in-Range-self-clause-fits : goal.returns-in-Range-self-clause-fits
returns-in-Range-self-clause-fits c z k hi t u v w n short fits row =
    let here = c.args.self.now in
    let m = c.in-Range-self.look in
    let x = c.in-Range.stamp in
    let answer = Checked c.args.checked in
    let told = c.check_told-in-Range in
    let f = subst (λ (a : WalkOf). Fits z k hi u a t n v) c.in-Range-self.is fits in
    let at = subst (λ (a : WalkOf). StandsAt (Range x c.in-Range.reach c.in-Range.value) a) c.in-Range-self.is (subst (λ (s : SettlingOf). StandsAt s here) c.in-Range.is c.requires.stands) in
    let is = settling_asks (Range x c.in-Range.reach c.in-Range.value) (RangeWalk m) at in
    let r = subst (λ (a : WalkOf). Answers z (telling (deed_at a k hi t)) (Settle x) answer v w) c.in-Range-self.is
    (subst (λ (s : SettlingOf). Answers z (telling (deed_at here k hi t)) (Settle (stamp_of s)) answer v w) c.in-Range.is row) in
    range_on z k u v w n (Settle x) answer hi m told.new.self t t is r (λ on. told.ensures.steps (told.ensures.on ∙ on)) (told.ensures.fits z k hi t u v w (Settle x) f.fits is r) told.ensures.least f
