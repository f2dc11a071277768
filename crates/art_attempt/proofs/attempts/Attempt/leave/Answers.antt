use Rattle.std.proofs.Common.{◌≡◌, ◌∙◌, true, false, ap, refl}
use Rattle.art_attempt.proofs.Finds.{placed_standing, placed_tells, placed_within, remove_settles_other}
use Rattle.art_attempt.proofs.attempts.Attempt.leave.Goals as goal
use Rattle.art_attempt.specs.Attempts.{absent, settled_by, settles, value_found}
use Rattle.art_attempt.specs.declared.attempts.Job.{Job}
use Rattle.art_attempt.specs.declared.attempts.Job.TheVariants.{Remove}
use Rattle.art_attempt.specs.declared.attempts.Case.TheVariants.{NewLeaf}
use Rattle.art_find.specs.Findings.{position_at}
use Rattle.art_find.specs.declared.descents.Verdict.{Verdict}

pub found-requires : goal.found-requires
found-requires c = c.requires.placed.4.key.short

pub choose-requires-clause-leaf : goal.choose-requires-clause-leaf
choose-requires-clause-leaf c =
    let m = c.args.self.now in
    let t = c.args.position.now in
    let r = c.args.room.now in
    let q = c.requires.placed in
    let none : settles m.job t.verdict ≡ false = ap (λ (j : Job). settles j t.verdict) c.requires.job ∙ ap (λ (found : Verdict). settles Remove found) c.in-Found.is in
    let so = placed_within q.0 q.1 m.job t r q.2 q.3 q.4.key.short q.5 none in
    rw c.found.ensures (
      q.0,
      q.1,
      q.3,
      record { sizes = q.4.sizes; key = q.4.key },
      record { still = so.still; spent = so.spent; has = so.has },
      record { found = c.in-Found.is; key = refl },
    )

pub returns-in-Found-clause-fits : goal.returns-in-Found-clause-fits
returns-in-Found-clause-fits c z u v w room p =
    let m = c.args.self.now in
    let t = c.args.position.now in
    let r = c.args.room.now in
    let none : settles m.job t.verdict ≡ false = ap (λ (j : Job). settles j t.verdict) c.requires.job ∙ ap (λ (found : Verdict). settles Remove found) c.in-Found.is in
    let so = placed_within z u m.job t r v w room.key.short p none in
    let standing = placed_standing z u m.job t r v w room.key.short p in
    c.choose.ensures.fits z u w (rw c.found.ensures (record { sizes = room.sizes; key = room.key })) (rw c.found.ensures (record { still = so.still; spent = so.spent; has = so.has })) c.requires.job
    (rw c.found.ensures (record { found = c.in-Found.is; key = refl })) (rw c.found.ensures standing)

pub returns-in_default-clause-fits : goal.returns-in_default-clause-fits
returns-in_default-clause-fits c z u v w room p =
    let m = c.args.self.now in
    let t = c.args.position.now in
    let r = c.args.room.now in
    let some : settles m.job t.verdict ≡ true = ap (λ (j : Job). settles j t.verdict) c.requires.job ∙ remove_settles_other t.verdict c.in_default.not-Found in
    record { room = room; stage = record { position = t; case = NewLeaf; ends = (c.requires.job, placed_tells z u m.job t r v w room.key.short p (absent r.row) some (ap (λ (j : Job). settled_by j r.row (value_found (position_at p.by))) c.requires.job)) } }
