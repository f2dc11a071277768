use Rattle.std.proofs.Common.{◌≡◌, ◌∙◌, ℕ, List, None, sym, subst, arith}
use Rattle.art_attempt.proofs.Finds.{any_deed, ends_reading, no_place, still_going, undecided, within_so, zero_going}
use Rattle.art_attempt.proofs.Stages.{asked_finding, is_finding, told_finding}
use Rattle.art_attempt.proofs.Steps.{cell_fails, cell_later, cell_step}
use Rattle.art_attempt.proofs.Tries.{later_then, still_later}
use Rattle.art_attempt.proofs.attempts.Attempt.find_on.Goals as goal
use Rattle.art_attempt.specs.Attempts.{IsFinding, deed_by, settled_of}
use Rattle.art_attempt.proofs.Ends.{anywhere}
use Rattle.art_attempt.specs.declared.attempts.Case.TheVariants.{NewLeaf}
use Rattle.art_attempt.specs.declared.attempts.Stage.{Stage}
use Rattle.art_attempt.specs.declared.attempts.Stage.TheVariants as stages
use Rattle.art_attempt.specs.declared.attempts.Room.{Room}
use Rattle.art_find.proofs.Counting.{asks_look}
use Rattle.art_find.proofs.Stages.{still_reading}
use Rattle.art_find.specs.Descents.{answer_at, asks}
use Rattle.art_find.specs.Findings.{FindingFits, position_at}
use Rattle.art_find.specs.declared.findings.Finding.{Finding}

abbrev IsNowhere : Stage → Type 0
IsNowhere (stages.Finding f) = position_at f ≡ None
IsNowhere s = ⊥

nowhere_at : (s : Stage) (f : Finding) → ((g : Finding) × (s ≡ stages.Finding g) × (position_at g ≡ None)) → s ≡ stages.Finding f → position_at f ≡ None
nowhere_at s f q is = subst IsNowhere (sym q.1 ∙ is) q.2

pub told-on-requires-clause-fits : goal.told-on-requires-clause-fits
told-on-requires-clause-fits c =
    let m = c.args.self.now in
    let r = c.args.room.now in
    let f = c.in-Finding.finding in
    let there = c.in-Finding.is in
    let q = c.requires.told in
    let s = f.descent.stage in
    let what = settled_of m.job r.row in
    let seeks = is_finding q.0 q.1 m r q.2 f there q.5 in
    let nowhere = nowhere_at m.stage f c.requires.stage there in
    let at = no_place m.job f (asks s) q.4 nowhere (asked_finding m f r there q.4 q.6) in
    let row = told_finding m f r there q.4 q.0 c.args.answer q.2 q.3 q.7 in
    (q.0, what, seeks.early, q.2, q.3, q.4, subst (λ (k : List ℕ). FindingFits q.0 k what f r.read_set seeks.early q.2) (sym c.as_slice.ensures.value) seeks.fits, at, any_deed q.0 (deed_by m.job f r) (what (answer_at s)) s q.4 c.args.answer q.2 q.3 (undecided f nowhere) at row)

pub returns-then-not-on-clause-fits : goal.returns-then-not-on-clause-fits
returns-then-not-on-clause-fits c z u v w asked fits is heard =
    let m = c.args.self.now in
    let r = c.args.room.now in
    let f = c.in-Finding.finding in
    let there = c.in-Finding.is in
    let room = fits.room in
    let seeks = is_finding z u m r v f there fits in
    let row = told_finding m f r there asked z c.args.answer v w heard in
    let nowhere = nowhere_at m.stage f c.requires.stage there in
    let s = f.descent.stage in
    let d = deed_by m.job f r in
    let what = settled_of m.job r.row in
    let at = no_place m.job f (asks s) asked nowhere (asked_finding m f r there asked is) in
    let heard = any_deed z d (what (answer_at s)) s asked c.args.answer v w (undecided f nowhere) at row in
    let slice : c.as_slice.result.now ≡ r.row.key.items = c.as_slice.ensures.value in
    let fits = c.told-on.ensures.fits z what seeks.early v w asked (subst (λ (k : List ℕ). FindingFits z k what f r.read_set seeks.early v) (sym slice) seeks.fits) at heard in
    let now = c.told-on.new.self.descent in
    let going = zero_going now.depth now.stage (c.told-on.ensures.anew c.if-not-on.true) in
    let reads = still_reading z c.as_slice.result.now what now.depth now.stage seeks.early w going fits.descent in
    let so = within_so z u 1201 r w (omega arith) (ends_reading z u m.job f r v w room.key.short seeks (cell_later z d asked c.args.answer v w (asks_look s asked at) row) (cell_step z d asked c.args.answer v w (asks_look s asked at) row) reads.only) in
    let off = sym c.told-on.ensures.on ∙ c.if-not-on.true in
    let more = cell_fails z d asked c.args.answer v w (asks_look s asked at) row off in
    let before = (still_later u seeks.early seeks.base v seeks.later).failures in
    record { room = record { sizes = room.sizes; key = room.key }; stage = record { position = anywhere; case = NewLeaf; ends = (record { still = so.still; spent = so.spent; has = so.has }, omega (arith, more, before)) } }

pub returns-else-not-on-clause-fits : goal.returns-else-not-on-clause-fits
returns-else-not-on-clause-fits c z u v w asked fits is heard =
    let m = c.args.self.now in
    let r = c.args.room.now in
    let f = c.in-Finding.finding in
    let there = c.in-Finding.is in
    let room = fits.room in
    let seeks = is_finding z u m r v f there fits in
    let row = told_finding m f r there asked z c.args.answer v w heard in
    let nowhere = nowhere_at m.stage f c.requires.stage there in
    let s = f.descent.stage in
    let d = deed_by m.job f r in
    let what = settled_of m.job r.row in
    let at = no_place m.job f (asks s) asked nowhere (asked_finding m f r there asked is) in
    let none = undecided f nowhere in
    let heard = any_deed z d (what (answer_at s)) s asked c.args.answer v w none at row in
    let slice : c.as_slice.result.now ≡ r.row.key.items = c.as_slice.ensures.value in
    let fits = c.told-on.ensures.fits z what seeks.early v w asked (subst (λ (k : List ℕ). FindingFits z k what f r.read_set seeks.early v) (sym slice) seeks.fits) at heard in
    let on = sym c.told-on.ensures.on ∙ c.if-not-on.false in
    let one = cell_later z d asked c.args.answer v w (asks_look s asked at) row in
    let step = cell_step z d asked c.args.answer v w (asks_look s asked at) row in
    let further = c.told-on.ensures.steps c.if-not-on.false in
    let then : Room = record r { read_set = c.told-on.new.read_set } in
    let found : IsFinding z u m.job c.told-on.new.self then w = record {
      early = seeks.early;
      base = seeks.base;
      later = later_then seeks.early v w seeks.later one;
      spent = λ limited. (let spent = seeks.spent limited in let more = one.failures in omega (arith, spent, step, further, more));
      has = seeks.has;
      fits = subst (λ (k : List ℕ). FindingFits z k what c.told-on.new.self c.told-on.new.read_set seeks.early w) slice fits;
      going = still_going z d asked c.args.answer v w f.descent c.told-on.new.self.descent c.told-on.ensures.stays at row none seeks.going on;
    } in
    record { room = record { sizes = room.sizes; key = room.key }; stage = found }

pub returns-then-not-on-clause-anew : goal.returns-then-not-on-clause-anew
returns-then-not-on-clause-anew c is = sym c.told-on.ensures.on ∙ c.if-not-on.true
