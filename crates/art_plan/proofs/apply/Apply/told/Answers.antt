-- Stage by stage.
use Rattle.std.proofs.Common.{ap, sym, subst, ◌≡◌, ◌∙◌, ◌+◌, ◌<◌, ◌≤◌, ℕ, Bool, true, false, Some, arith}
use Rattle.std.specs.Prelude.{Err}
use Rattle.art_step.specs.Acting.{Answers}
use Rattle.art_step.specs.declared.actions.Answer.{Answer}
use Rattle.art_step.specs.declared.actions.Action.{Action}
use Rattle.art_step.specs.declared.actions.Action.TheVariants.{Upgrade}
use Rattle.art_plan.specs.Changes.{target_at}
use Rattle.art_plan.specs.declared.changes.Target.{Target}
use Rattle.art_plan.specs.Apply.{Fits, asks, brings}
use Rattle.art_plan.specs.declared.apply.Apply.{Apply}
use Rattle.art_plan.specs.declared.apply.Apply.TheVariants.{Upgrading, Claiming, Filling, Writing, Committing, Releasing, ReleasingNode, GivingUp}
use Rattle.art_plan.proofs.Told.{fits_on, map_some, refused_upgrade, told_claim, told_commit, told_fill, told_give, told_release, told_release_new, told_write}
use Rattle.art_plan.specs.Apply.{most_steps}
use Rattle.art_plan.proofs.apply.Apply.told.Goals as goal

-- one word more is one step more
fills_more : (b : Bool) (place : ℕ) (m : Apply) → most_steps (Filling b (place + 1)) ≤ most_steps m → most_steps (Filling b place) < most_steps m
fills_more false place m more = omega (arith, more)
fills_more true place m more = omega (arith, more)

pub returns-in-Upgrading-clause-fits : goal.returns-in-Upgrading-clause-fits
returns-in-Upgrading-clause-fits c z u v w a fits is row =
    let ch = c.args.change.now in
    let b = c.in-Upgrading in
    let now : Fits z ch (Upgrading b.index) u v = subst (λ (m : Apply). Fits z ch m u v) b.is fits in
    let asked : asks ch (Upgrading b.index) ≡ Some a = sym (ap (asks ch) b.is) ∙ is in
    let k = map_some (λ (y : Target). Upgrade y.stamp) (target_at ch b.index) a asked in
    fits_on z u v w ch a c.args.answer (Upgrading b.index) c.upgraded.result now asked row c.upgraded.ensures.steps
    (c.upgraded.ensures.fits z u v w k.0 fits.planned k.1 now.stage.1 (subst (λ (d : Action). Answers z (brings ch) d c.args.answer v w) (sym k.2) row))

pub returns-in-Claiming-clause-fits : goal.returns-in-Claiming-clause-fits
returns-in-Claiming-clause-fits c z u v w a fits is row =
    let ch = c.args.change.now in
    let b = c.in-Claiming in
    let now : Fits z ch (Claiming b.copy) u v = subst (λ (m : Apply). Fits z ch m u v) b.is fits in
    let asked : asks ch (Claiming b.copy) ≡ Some a = sym (ap (asks ch) b.is) ∙ is in
    fits_on z u v w ch a c.args.answer (Claiming b.copy) c.claimed.result now asked row c.claimed.ensures.steps
    (c.claimed.ensures.fits u w (told_claim z u v w ch a c.args.answer b.copy now asked row))

pub returns-in-Filling-clause-fits : goal.returns-in-Filling-clause-fits
returns-in-Filling-clause-fits c z u v w a fits is row =
    let ch = c.args.change.now in
    let b = c.in-Filling in
    let now : Fits z ch (Filling b.copy b.place) u v = subst (λ (m : Apply). Fits z ch m u v) b.is fits in
    let asked : asks ch (Filling b.copy b.place) ≡ Some a = sym (ap (asks ch) b.is) ∙ is in
    fits_on z u v w ch a c.args.answer (Filling b.copy b.place) c.filled.result now asked row (fills_more b.copy b.place c.filled.result c.filled.ensures.steps)
    (c.filled.ensures.fits u w (told_fill z u v w ch a c.args.answer b.copy b.place now asked row))

pub returns-in-Writing-clause-fits : goal.returns-in-Writing-clause-fits
returns-in-Writing-clause-fits c z u v w a fits is row =
    let ch = c.args.change.now in
    let b = c.in-Writing in
    let now : Fits z ch (Writing b.index) u v = subst (λ (m : Apply). Fits z ch m u v) b.is fits in
    let asked : asks ch (Writing b.index) ≡ Some a = sym (ap (asks ch) b.is) ∙ is in
    fits_on z u v w ch a c.args.answer (Writing b.index) c.written.result now asked row (let more = c.written.ensures.steps in omega arith)
    (c.written.ensures.fits u w (told_write z u v w ch a c.args.answer b.index now asked row))

pub returns-in-Committing-clause-fits : goal.returns-in-Committing-clause-fits
returns-in-Committing-clause-fits c z u v w a fits is row =
    let ch = c.args.change.now in
    let b = c.in-Committing in
    let now : Fits z ch Committing u v = subst (λ (m : Apply). Fits z ch m u v) b.is fits in
    let asked : asks ch Committing ≡ Some a = sym (ap (asks ch) b.is) ∙ is in
    fits_on z u v w ch a c.args.answer Committing c.released.result now asked row (let more = c.released.ensures.steps in omega arith)
    (c.released.ensures.fits u w (told_commit z u v w ch a c.args.answer now asked row))

pub returns-in-Releasing-clause-fits : goal.returns-in-Releasing-clause-fits
returns-in-Releasing-clause-fits c z u v w a fits is row =
    let ch = c.args.change.now in
    let b = c.in-Releasing in
    let now : Fits z ch (Releasing b.index) u v = subst (λ (m : Apply). Fits z ch m u v) b.is fits in
    let asked : asks ch (Releasing b.index) ≡ Some a = sym (ap (asks ch) b.is) ∙ is in
    fits_on z u v w ch a c.args.answer (Releasing b.index) c.released-in-Releasing.result now asked row (let more = c.released-in-Releasing.ensures.steps in omega arith)
    (c.released-in-Releasing.ensures.fits u w (told_release z u v w ch a c.args.answer b.index now asked row))

pub returns-in-ReleasingNode-clause-fits : goal.returns-in-ReleasingNode-clause-fits
returns-in-ReleasingNode-clause-fits c z u v w a fits is row =
    let ch = c.args.change.now in
    let b = c.in-ReleasingNode in
    let now : Fits z ch (ReleasingNode b.copy) u v = subst (λ (m : Apply). Fits z ch m u v) b.is fits in
    let asked : asks ch (ReleasingNode b.copy) ≡ Some a = sym (ap (asks ch) b.is) ∙ is in
    fits_on z u v w ch a c.args.answer (ReleasingNode b.copy) c.released_node.result now asked row c.released_node.ensures.steps
    (c.released_node.ensures.fits u w (told_release_new z u v w ch a c.args.answer b.copy now asked row))

pub returns-in-GivingUp-clause-fits : goal.returns-in-GivingUp-clause-fits
returns-in-GivingUp-clause-fits c z u v w a fits is row =
    let ch = c.args.change.now in
    let b = c.in-GivingUp in
    let now : Fits z ch (GivingUp b.locked b.count b.fault) u v = subst (λ (m : Apply). Fits z ch m u v) b.is fits in
    let asked : asks ch (GivingUp b.locked b.count b.fault) ≡ Some a = sym (ap (asks ch) b.is) ∙ is in
    fits_on z u v w ch a c.args.answer (GivingUp b.locked b.count b.fault) c.given_up.result now asked row (let more = c.given_up.ensures.steps in omega arith)
    (c.given_up.ensures.fits ch u w now.stage.1 (told_give z u v w ch a c.args.answer b.locked b.count b.fault now asked row))

pub returns-in-Claiming-clause-refused : goal.returns-in-Claiming-clause-refused
returns-in-Claiming-clause-refused c e is =
    let q = c.requires.fits in
    let at = refused_upgrade q.0 c.args.change.now c.args.self.now q.4 (Err e) q.2 q.3 q.6 (subst (λ (r : Answer). Answers q.0 (brings c.args.change.now) q.4 r q.2 q.3) is q.7) in
    let now = c.in-Claiming.is in
    absurd (cc)

pub returns-in-Filling-clause-refused : goal.returns-in-Filling-clause-refused
returns-in-Filling-clause-refused c e is =
    let q = c.requires.fits in
    let at = refused_upgrade q.0 c.args.change.now c.args.self.now q.4 (Err e) q.2 q.3 q.6 (subst (λ (r : Answer). Answers q.0 (brings c.args.change.now) q.4 r q.2 q.3) is q.7) in
    let now = c.in-Filling.is in
    absurd (cc)

pub returns-in-Writing-clause-refused : goal.returns-in-Writing-clause-refused
returns-in-Writing-clause-refused c e is =
    let q = c.requires.fits in
    let at = refused_upgrade q.0 c.args.change.now c.args.self.now q.4 (Err e) q.2 q.3 q.6 (subst (λ (r : Answer). Answers q.0 (brings c.args.change.now) q.4 r q.2 q.3) is q.7) in
    let now = c.in-Writing.is in
    absurd (cc)

pub returns-in-Committing-clause-refused : goal.returns-in-Committing-clause-refused
returns-in-Committing-clause-refused c e is =
    let q = c.requires.fits in
    let at = refused_upgrade q.0 c.args.change.now c.args.self.now q.4 (Err e) q.2 q.3 q.6 (subst (λ (r : Answer). Answers q.0 (brings c.args.change.now) q.4 r q.2 q.3) is q.7) in
    let now = c.in-Committing.is in
    absurd (cc)

pub returns-in-Releasing-clause-refused : goal.returns-in-Releasing-clause-refused
returns-in-Releasing-clause-refused c e is =
    let q = c.requires.fits in
    let at = refused_upgrade q.0 c.args.change.now c.args.self.now q.4 (Err e) q.2 q.3 q.6 (subst (λ (r : Answer). Answers q.0 (brings c.args.change.now) q.4 r q.2 q.3) is q.7) in
    let now = c.in-Releasing.is in
    absurd (cc)

pub returns-in-ReleasingNode-clause-refused : goal.returns-in-ReleasingNode-clause-refused
returns-in-ReleasingNode-clause-refused c e is =
    let q = c.requires.fits in
    let at = refused_upgrade q.0 c.args.change.now c.args.self.now q.4 (Err e) q.2 q.3 q.6 (subst (λ (r : Answer). Answers q.0 (brings c.args.change.now) q.4 r q.2 q.3) is q.7) in
    let now = c.in-ReleasingNode.is in
    absurd (cc)

pub returns-in-GivingUp-clause-refused : goal.returns-in-GivingUp-clause-refused
returns-in-GivingUp-clause-refused c e is =
    let q = c.requires.fits in
    let at = refused_upgrade q.0 c.args.change.now c.args.self.now q.4 (Err e) q.2 q.3 q.6 (subst (λ (r : Answer). Answers q.0 (brings c.args.change.now) q.4 r q.2 q.3) is q.7) in
    let now = c.in-GivingUp.is in
    absurd (cc)
