use Rattle.std.proofs.Common.{◌≡◌, ◌∙◌, ◌&&◌, ℕ, true, false, ap, sym, subst, length, nat_lt}
use Rattle.std.specs.Prelude.{Result}
use Rattle.art_key.specs.Bounds.{is_before}
use Rattle.art_scan.proofs.LooksOn.{answer_seen, answered_as, between_looks, given_tiled, looked, refused_tiled}
use Rattle.art_scan.proofs.looking.Looking.abandon.Goals as goal
use Rattle.art_table.specs.Calls.{Ends, IsAttempt}
use Rattle.art_table.specs.declared.attempts.Attempt.{Attempt}
use Rattle.art_table.specs.declared.faults.Fault.{Fault}
use Rattle.art_table.specs.declared.jobs.Job.TheVariants.{Look}
use Rattle.art_table.specs.declared.jobs.Outcome.{Outcome}
use Rattle.art_scan.proofs.Ended.{listed_scans}
use Rattle.art_scan.specs.Scans.{more_at}

pub returns-in-Ok-clause-given : goal.returns-in-Ok-clause-given
returns-in-Ok-clause-given c lo hi limit turns p on =
    let l = c.args.self in
    given_tiled c.args.table.now lo hi limit turns p c.args.rows.now.items l on c.in-Ok.pass
    (c.in-Ok.ensures.given (Look l.tiling.from l.tiling.end) l.tiling.turns on.began on.look)

pub finish-pass-requires : goal.finish-pass-requires
finish-pass-requires c =
    let l = c.args.self in
    let on = c.requires.5 in
    let look = Look l.tiling.from l.tiling.end in
    (look, l.tiling.turns, on.began, subst (λ (a : Attempt). IsAttempt c.args.table.now look l.tiling.turns on.began a) (sym c.in-Err.ensures.back) on.look)

pub returns-in_default-clause-given : goal.returns-in_default-clause-given
returns-in_default-clause-given c lo hi limit turns p on =
    let t = c.args.table.now in
    let l = c.args.self in
    let look = Look l.tiling.from l.tiling.end in
    let q = c.finish-pass.result.0 in
    let back = subst (λ (a : Attempt). IsAttempt t look l.tiling.turns on.began a) (sym c.in-Err.ensures.back) on.look in
    let e = subst (λ (y : Result Outcome Fault). Ends t look l.tiling.turns on.began y q) c.in_default.is (c.finish-pass.ensures.ends look l.tiling.turns on.began back) in
    refused_tiled t lo hi limit turns p c.args.rows.now.items l on q c.in_default.field-0 e

pub seen_in-requires : goal.seen_in-requires
seen_in-requires c =
    let t = c.args.table.now in
    let l = c.args.self in
    let r = c.requires in
    let on = r.5 in
    let look = Look l.tiling.from l.tiling.end in
    let back = subst (λ (a : Attempt). IsAttempt t look l.tiling.turns on.began a) (sym c.in-Err.ensures.back) on.look in
    answer_seen t r.0 r.1 r.2 r.3 r.4 c.args.rows.now.items l on c.in-Ok-answer.outcome c.finish-pass.result.1 c.finish-pass.result.0 c.in-Ok-answer.is
    (c.finish-pass.ensures.ends look l.tiling.turns on.began back)

pub returns-then-goes_on-clause-given : goal.returns-then-goes_on-clause-given
returns-then-goes_on-clause-given c lo hi limit turns p on =
    let t = c.args.table.now in
    let l = c.args.self in
    let rows = c.args.rows.now.items in
    let told = c.told.ensures in
    let look = Look l.tiling.from l.tiling.end in
    let back = subst (λ (a : Attempt). IsAttempt t look l.tiling.turns on.began a) (sym c.in-Err.ensures.back) on.look in
    let e = answered_as t lo hi limit turns p rows l on c.in-Ok-answer.outcome c.seen_in.result c.finish-pass.result.1 c.finish-pass.result.0 c.in-Ok-answer.is c.seen_in.ensures
    (c.finish-pass.ensures.ends look l.tiling.turns on.began back) in
    let s = looked t lo hi limit turns p rows l on c.finish-pass.result.0 c.seen_in.result e c.told.new.self c.told.new.out.items told.from (told.turns ∙ c.turns_left.ensures) told.same told.rows in
    let g = c.told.new.self in
    let listed = c.told.new.out.items in
    let test : (nat_lt (length listed) g.limit && is_before g.from g.end) ≡ true =
    ap (λ (n : ℕ). nat_lt n g.limit && is_before g.from g.end) (sym c.len.ensures.value) ∙ (sym c.goes_on.ensures ∙ c.if-goes_on.true) in
    between_looks t lo hi limit turns p c.finish-pass.result.0 listed g s test

pub returns-clause-over : goal.returns-clause-over
returns-clause-over c lo hi limit turns p on =
    let t = c.args.table.now in
    let l = c.args.self in
    let g = c.told.new.self in
    let listed = c.told.new.out.items in
    let told = c.told.ensures in
    let look = Look l.tiling.from l.tiling.end in
    let back = subst (λ (a : Attempt). IsAttempt t look l.tiling.turns on.began a) (sym c.in-Err.ensures.back) on.look in
    let e = answered_as t lo hi limit turns p c.args.rows.now.items l on c.in-Ok-answer.outcome c.seen_in.result c.finish-pass.result.1 c.finish-pass.result.0 c.in-Ok-answer.is c.seen_in.ensures
    (c.finish-pass.ensures.ends look l.tiling.turns on.began back) in
    let s = looked t lo hi limit turns p c.args.rows.now.items l on c.finish-pass.result.0 c.seen_in.result e g listed told.from (told.turns ∙ c.turns_left.ensures) told.same told.rows in
    let test : (nat_lt (length listed) g.limit && is_before g.from g.end) ≡ false =
    ap (λ (n : ℕ). nat_lt n g.limit && is_before g.from g.end) (sym c.len.ensures.value) ∙ (sym c.goes_on.ensures ∙ c.if-goes_on.false) in
    record {
      pass = c.finish-pass.ensures.pass;
      scans = listed_scans t lo hi limit turns p c.finish-pass.result.0 listed g s test c.more-more.result
          (c.more-more.ensures ∙ (ap (λ (n : ℕ). more_at n g.limit) c.len-2.ensures.value ∙ ap (λ (n : ℕ). more_at (length listed) n) s.on.limit_is));
      at_once = λ f is. absurd (cc);
    }
