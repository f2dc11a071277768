use Rattle.std.proofs.Common.{◌≡◌, ◌∙◌, false, ap, sym, subst, refl, arith}
use Rattle.art_attempt.proofs.Finds.{insert_settles_not, placed_comes, placed_ends, placed_standing, placed_within, within_more}
use Rattle.art_attempt.proofs.Overlaps.{overlap_there}
use Rattle.art_attempt.proofs.attempts.Attempt.enter.Goals as goal
use Rattle.art_attempt.specs.Attempts.{settles}
use Rattle.art_attempt.specs.Cases.{IsCaseOf}
use Rattle.art_attempt.specs.declared.attempts.Job.{Job}
use Rattle.art_attempt.specs.declared.attempts.Case.TheVariants.{NewLeaf}

pub supply-requires-clause-within : goal.supply-requires-clause-within
supply-requires-clause-within c =
    let m = c.args.self.now in
    let t = c.args.position.now in
    let r = c.args.room.now in
    let q = c.requires.placed in
    let none = sym c.entered_by.ensures ∙ c.in-None.is in
    let so : settles m.job t.verdict ≡ false = ap (λ (j : Job). settles j t.verdict) c.requires.job ∙ insert_settles_not t.verdict none in
    (q.0, q.1, q.3, q.4, within_more q.0 q.1 1201 1203 r q.3 (omega arith) (placed_within q.0 q.1 m.job t r q.2 q.3 q.4.key.short q.5 so))

pub returns-in-None-clause-fits : goal.returns-in-None-clause-fits
returns-in-None-clause-fits c z u v w room p =
    let m = c.args.self.now in
    let t = c.args.position.now in
    let r = c.args.room.now in
    let short = room.key.short in
    let none = sym c.entered_by.ensures ∙ c.in-None.is in
    let so : settles m.job t.verdict ≡ false = ap (λ (j : Job). settles j t.verdict) c.requires.job ∙ insert_settles_not t.verdict none in
    c.supply.ensures.fits z u w room (within_more z u 1201 1203 r w (omega arith) (placed_within z u m.job t r v w short p so)) (subst (λ (j : Job). IsCaseOf j NewLeaf) (sym c.requires.job) tt)
    (placed_standing z u m.job t r v w short p) (placed_comes z u m.job t r v w short p none)

pub returns-in-Some-clause-fits : goal.returns-in-Some-clause-fits
returns-in-Some-clause-fits c z u v w room p =
    let m = c.args.self.now in
    let t = c.args.position.now in
    let r = c.args.room.now in
    record { room = room; stage = record { position = t; case = NewLeaf; ends = placed_ends z u m.job t r v w room.key.short p c.requires.job t.verdict refl c.in-Some.ending (sym c.entered_by.ensures ∙ c.in-Some.is) } }

pub returns-in-Some-clause-overlaps : goal.returns-in-Some-clause-overlaps
returns-in-Some-clause-overlaps c is = overlap_there c.args.position.now.verdict (sym c.entered_by.ensures ∙ (c.in-Some.is ∙ is))

pub returns-in-None-clause-overlaps : goal.returns-in-None-clause-overlaps
returns-in-None-clause-overlaps c is = absurd (c.supply.ensures.not_overlaps is)
