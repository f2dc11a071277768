use Rattle.std.proofs.Common.{◌≡◌, ◌∙◌, sym}
use Rattle.art_attempt.proofs.Finds.{check_look, fails_there, place_off, place_passed, stands_there}
use Rattle.art_attempt.proofs.Steps.{cell_later, cell_step}
use Rattle.art_attempt.proofs.attempts.Attempt.settled.Goals as goal
use Rattle.art_attempt.specs.Attempts.{IsFinding, WasPlaced, check_of, deed_by, settled_of, settles}
use Rattle.art_attempt.proofs.Ends.{anywhere}
use Rattle.art_attempt.specs.declared.attempts.Job.{Job}
use Rattle.art_attempt.specs.declared.attempts.Case.TheVariants.{NewLeaf}
use Rattle.art_find.specs.declared.findings.Finding.{Finding}
use Rattle.art_attempt.specs.declared.attempts.Room.{Room}
use Rattle.art_find.specs.Findings.{position_at}
use Rattle.art_find.specs.declared.findings.Position.{Position}
use Rattle.art_step.specs.Acting.{Answers, passed, telling}
use Rattle.art_step.specs.declared.actions.Answer.{Answer}
use Rattle.art_step.specs.declared.views.Sizes.{Sizes}
use Rattle.art_step.specs.declared.views.View.{View}
use Rattle.std.specs.Prelude.{true, Some}

-- the place is known, and its check succeeded
placed : (z : Sizes) (u : View) (j : Job) (f : Finding) (r : Room) (t : Position) (answer : Answer) (v w : View) → IsFinding z u j f r v → position_at f ≡ Some t
    → Answers z (telling (deed_by j f r)) (check_of j t) answer v w → passed answer ≡ true → WasPlaced z u j t r v w
placed z u j f r t answer v w seeks at row on = record {
  by = f;
  finding = seeks;
  there = at;
  checked = place_passed z (deed_by j f r) (settles j t.verdict) t.stamp answer v w row on;
  later = cell_later z (deed_by j f r) (check_of j t) answer v w (check_look (settles j t.verdict) t.stamp) row;
  step = cell_step z (deed_by j f r) (check_of j t) answer v w (check_look (settles j t.verdict) t.stamp) row;
}

pub returns-then-not-passed-clause-fits : goal.returns-then-not-passed-clause-fits
returns-then-not-passed-clause-fits c z u v w f room seeks at row =
    let m = c.args.self.now in
    let r = c.args.room.now in
    let t = c.args.position.now in
    let d = deed_by m.job f r in
    let b = settles m.job t.verdict in
    let later = cell_later z d (check_of m.job t) c.args.answer v w (check_look b t.stamp) row in
    let step = cell_step z d (check_of m.job t) c.args.answer v w (check_look b t.stamp) row in
    let s = stands_there z r.row.key.items (settled_of m.job r.row) f r.read_set seeks.early v seeks.fits t at in
    let so = fails_there z u m.job f r v w room.key.short seeks later step t s d b c.args.answer row (sym c.passed.ensures ∙ c.if-not-passed.true) in
    record { room = room; stage = record { position = anywhere; case = NewLeaf; ends = (record { still = so.0.still; spent = so.0.spent; has = so.0.has }, so.1) } }

pub returns-then-not-passed-clause-anew : goal.returns-then-not-passed-clause-anew
returns-then-not-passed-clause-anew c is =
    let q = c.requires.told in
    let m = c.args.self.now in
    let t = c.args.position.now in
    place_off q.0 (deed_by m.job q.4 c.args.room.now) (settles m.job t.verdict) t.stamp c.args.answer q.2 q.3 q.8 (sym c.passed.ensures ∙ c.if-not-passed.true)

pub returns-then-not-passed-clause-overlaps : goal.returns-then-not-passed-clause-overlaps
returns-then-not-passed-clause-overlaps c is = absurd (cc)

pub enter-requires-clause-placed : goal.enter-requires-clause-placed
enter-requires-clause-placed c =
    let q = c.requires.told in
    (q.0, q.1, q.2, q.3, q.5, placed q.0 q.1 c.args.self.now.job q.4 c.args.room.now c.args.position.now c.args.answer q.2 q.3 q.6 q.7 q.8 (sym c.passed.ensures ∙ c.if-not-passed.false))

pub leave-requires-clause-placed : goal.leave-requires-clause-placed
leave-requires-clause-placed c =
    let q = c.requires.told in
    (q.0, q.1, q.2, q.3, q.5, placed q.0 q.1 c.args.self.now.job q.4 c.args.room.now c.args.position.now c.args.answer q.2 q.3 q.6 q.7 q.8 (sym c.passed.ensures ∙ c.if-not-passed.false))

pub returns-in-Insert-clause-fits : goal.returns-in-Insert-clause-fits
returns-in-Insert-clause-fits c z u v w f room seeks at row =
    c.enter.ensures.fits z u v w room (placed z u c.args.self.now.job f c.args.room.now c.args.position.now c.args.answer v w seeks at row (sym c.passed.ensures ∙ c.if-not-passed.false))

pub returns-in-Remove-clause-fits : goal.returns-in-Remove-clause-fits
returns-in-Remove-clause-fits c z u v w f room seeks at row =
    c.leave.ensures.fits z u v w room (placed z u c.args.self.now.job f c.args.room.now c.args.position.now c.args.answer v w seeks at row (sym c.passed.ensures ∙ c.if-not-passed.false))

pub returns-in-Insert-clause-overlaps : goal.returns-in-Insert-clause-overlaps
returns-in-Insert-clause-overlaps c is = (c.in-Insert.is, c.enter.ensures.overlaps is, sym c.passed.ensures ∙ c.if-not-passed.false)

pub returns-in-Remove-clause-overlaps : goal.returns-in-Remove-clause-overlaps
returns-in-Remove-clause-overlaps c is = absurd (c.leave.ensures.not_overlaps is)
