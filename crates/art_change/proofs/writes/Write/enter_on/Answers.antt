-- The room is as it was but for where searches begin, so the opening goes on in it.
use Rattle.std.proofs.Common.{Some, arith}
use Rattle.art_change.proofs.Frames.{given_asks, given_fits, given_row, given_steps}
use Rattle.art_change.proofs.writes.Write.enter_on.Goals as goal
use Rattle.art_change.specs.Writes.{freed_by}
use Rattle.art_epoch.specs.Limbo.{places_of}

pub enter_told-requires-clause-told : goal.enter_told-requires-clause-told
enter_told-requires-clause-told c =
    let q = c.requires.told in
    let m = c.args.self.now in
    let r = c.args.room.now in
    let e = c.requires.stage in
    let a = c.args.asked in
    let qs = places_of c.args.limbo.now in
    let s = c.note_given.new.room in
    let same = c.note_given.ensures in (
      q.0,
      q.1,
      q.2,
      q.3,
      q.4,
      a,
      given_fits m e.0 e.1 (freed_by a) r s same q.0 q.1 q.4 qs q.2 q.5,
      given_asks m e.0 e.1 (freed_by a) r s same qs (Some a) c.requires.asks,
      given_row m e.0 e.1 (freed_by a) r s same q.0 a c.args.answer q.2 q.3 q.6,
    )

pub returns-clause-left : goal.returns-clause-left
returns-clause-left c =
    let e = c.requires.stage in
    let fewer = c.enter_told.ensures.left in
    let same = given_steps c.args.self.now e.0 e.1 (freed_by c.args.asked) c.args.room.now c.note_given.new.room c.note_given.ensures (places_of c.args.limbo.now) in
    omega (arith, fewer, same)

pub returns-clause-fits : goal.returns-clause-fits
returns-clause-fits c z u v w ps fits row =
    let m = c.args.self.now in
    let r = c.args.room.now in
    let e = c.requires.stage in
    let a = c.args.asked in
    let qs = places_of c.args.limbo.now in
    let s = c.note_given.new.room in
    let same = c.note_given.ensures in
    c.enter_told.ensures.fits z u v w ps a (given_fits m e.0 e.1 (freed_by a) r s same z u ps qs v fits) (given_asks m e.0 e.1 (freed_by a) r s same qs (Some a) c.requires.asks)
    (given_row m e.0 e.1 (freed_by a) r s same z a c.args.answer v w row)
