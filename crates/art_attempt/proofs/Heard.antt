-- A step of a finding was made and heard, beside the machine.
use Rattle.std.proofs.Common.{◌≡◌, false, sym, arith}
use Rattle.art_attempt.proofs.Finds.{ends_reading, within_so, zero_going}
use Rattle.art_attempt.proofs.Steps.{cell_fails, cell_later, cell_step}
use Rattle.art_attempt.proofs.Tries.{later_then, still_later}
use Rattle.art_attempt.proofs.Ends.{anywhere}
use Rattle.art_attempt.specs.declared.attempts.Case.TheVariants.{NewLeaf}
use Rattle.art_attempt.proofs.Stages.{is_finding}
use Rattle.art_attempt.specs.Attempts.{Fits, IsFinding, IsRoom, deed_by, settled_of}
use Rattle.art_attempt.specs.declared.attempts.Ending.TheVariants.{Restart}
use Rattle.art_attempt.specs.declared.attempts.Attempt.{Attempt}
use Rattle.art_attempt.specs.declared.attempts.Job.{Job}
use Rattle.art_attempt.specs.declared.attempts.Stage.TheVariants.{Finding, Ended}
use Rattle.art_attempt.specs.declared.attempts.Room.{Room}
use Rattle.art_find.proofs.Counting.{asks_look}
use Rattle.art_find.proofs.Stages.{still_reading}
use Rattle.art_step.specs.Acting.{Answers, IsLook, goes_on, telling}
use Rattle.art_step.specs.declared.actions.Action.{Action}
use Rattle.art_step.specs.declared.actions.Answer.{Answer}
use Rattle.art_find.specs.Findings.{CameBack, HasHeard, WasLooked, WentOn}
use Rattle.art_find.specs.declared.read_sets.ReadSet.{ReadSet}
use Rattle.art_find.specs.declared.findings.Finding.{Finding as FindingOf}
use Rattle.art_step.specs.declared.views.Sizes.{Sizes}
use Rattle.art_step.specs.declared.views.View.{View}

module _ (z : Sizes) (u : View) (m : Attempt) (f : FindingOf) (r : Room) (v w : View) (room : IsRoom z r) (seeks : IsFinding z u m.job f r v)
    (asked : Action) (answer : Answer) (looked : WasLooked z f asked answer v w)
    (n : FindingOf) (read_set : ReadSet) (heard : HasHeard z r.row.key.items answer f r.read_set v n read_set w) where
  abbrev then : Room
  then = record r { read_set = read_set }

  same_room : IsRoom z then
  same_room = record { sizes = room.sizes; key = room.key }

  one_look : IsLook asked
  one_look = asks_look f.descent.stage asked looked.asked_it

  one_more : Answers z (telling (deed_by m.job f r)) asked answer v w
  one_more = looked.row (deed_by m.job f r)

  -- its way was changed: nothing was told
  pub ends_anew : goes_on answer ≡ false → Fits z u (record m { stage = Ended Restart }) then w
  ends_anew off =
      let d = deed_by m.job f r in
      let what = settled_of m.job r.row in
      let fits = heard.fits what seeks.early seeks.fits in
      let going = zero_going n.descent.depth n.descent.stage (heard.anew off) in
      let reads = still_reading z r.row.key.items what n.descent.depth n.descent.stage seeks.early w going fits.descent in
      let so = within_so z u 1201 r w (omega arith) (ends_reading z u m.job f r v w room.key.short seeks (cell_later z d asked answer v w one_look one_more) (cell_step z d asked answer v w one_look one_more) reads.only) in
      let more = cell_fails z d asked answer v w one_look one_more off in
      let before = (still_later u seeks.early seeks.base v seeks.later).failures in
      record { room = same_room; stage = record { position = anywhere; case = NewLeaf; ends = (record { still = so.still; spent = so.spent; has = so.has }, omega (arith, more, before)) } }

module _ (z : Sizes) (u : View) (j : Job) (m : FindingOf) (r : Room) (v : View) (room : IsRoom z r) (f : IsFinding z u j m r v) (n : FindingOf) (read_set : ReadSet) (w : View) where
  -- it has gone on
  pub goes_on_so : WentOn z r.row.key.items m r.read_set v n read_set w → IsFinding z u j n (record r { read_set = read_set }) w
  goes_on_so on =
      let later = on.later in
      let failures = on.failures in
      let further = on.further in
      record {
        early = f.early;
        base = f.base;
        later = later_then f.early v w f.later (record { steps = later; failures = omega (arith, failures) });
        spent = λ limited. (let spent = f.spent limited in omega (arith, spent, further, failures));
        has = f.has;
        fits = on.fits (settled_of j r.row) f.early f.fits;
        going = on.going f.going;
      }

module _ (z : Sizes) (u : View) (m : Attempt) (at : FindingOf) (r : Room) (v : View) (n : FindingOf) (read_set : ReadSet) (w : View) (stage : m.stage ≡ Finding at) (fits : Fits z u m r v) where
  -- the place is sought still, or its way was changed
  pub descends_so : WentOn z r.row.key.items at r.read_set v n read_set w → Fits z u (record m { stage = Finding n }) (record r { read_set = read_set }) w
  descends_so on = record {
    room = record { sizes = fits.room.sizes; key = fits.room.key };
    stage = goes_on_so z u m.job at r v fits.room (is_finding z u m r v at stage fits) n read_set w on;
  }

  pub comes_back : CameBack z r.row.key.items at r.read_set v n read_set w → Fits z u (record m { stage = Ended Restart }) (record r { read_set = read_set }) w
  comes_back back =
      let there : Room = record r { read_set = back.kept } in
      let room : IsRoom z there = record { sizes = fits.room.sizes; key = fits.room.key } in
      let l = back.back in
      ends_anew z u m back.middle there back.view w room (goes_on_so z u m.job at r v fits.room (is_finding z u m r v at stage fits) back.middle back.kept back.view back.on) l.0 l.1 l.2 n read_set l.3 (sym l.4)
