use Rattle.std.proofs.Common.{◌≡◌, ◌∙◌, ℕ, List, length, take, true, false, refl, ap, sym, subst, arith}
use Rattle.std.proofs.lemmas.List.{length-take-le}
use Rattle.std.specs.Prelude.{Err, Ok}
use Rattle.art_key.specs.Bounds.{is_before}
use Rattle.art_model.specs.declared.rows.Row.{Row}
use Rattle.art_scan.proofs.Ended.{goes_on, listed_scans, refused_scans}
use Rattle.art_scan.proofs.Over.{has_room, listed_over, one_more, still_few, wants_by_length}
use Rattle.art_scan.proofs.scans.look_to_the_end.Goals as goal
use Rattle.art_scan.specs.Scans.{Scans, more_at}
use Rattle.art_scan.specs.Tiles.{with_found}
use Rattle.art_scan.specs.declared.faults.ScanFault.TheVariants.{Busy}
use Rattle.art_table.specs.Looks.{found_row}

pub make_room-requires-clause-room : goal.make_room-requires-clause-room
make_room-requires-clause-room c =
    let r = c.requires.scanning in
    let inv = c.loop-out.invariant in
    has_room c.args.table.now r.0 r.1 r.2 r.3 r.4 c.loop-out.pass c.loop-out.out.items c.loop-out.tiling c.loop-out.listed inv.0 (inv.1 r.0 r.1 r.2 r.3 r.4 r.5) (sym c.goes_on.ensures ∙ c.loop-out-test.true)

pub look-requires-clause-pass : goal.look-requires-clause-pass
look-requires-clause-pass c = let r = c.requires.scanning in (c.loop-out.invariant.1 r.0 r.1 r.2 r.3 r.4 r.5).on.tiled.pass

pub returns-in_default-look-clause-scans : goal.returns-in_default-look-clause-scans
returns-in_default-look-clause-scans c lo hi limit turns p s =
    let t = c.args.table.now in
    let g = c.loop-out.tiling in
    let q = c.look.new.pass in
    let on = c.loop-out.invariant.1 lo hi limit turns p s in
    subst (λ (rows : List Row). Scans t lo hi limit turns p rows (Err Busy) q) (sym c.clear.ensures)
    (refused_scans t lo hi limit turns p c.loop-out.pass (take c.loop-out.listed c.loop-out.out.items) g on q c.in_default-look.field-0 (c.in_default-look.ensures.refused.ends.called refl))

pub overflow_add-listed : goal.overflow_add-listed
overflow_add-listed c =
    let r = c.requires.scanning in
    let inv = c.loop-out.invariant in
    let room = has_room c.args.table.now r.0 r.1 r.2 r.3 r.4 c.loop-out.pass c.loop-out.out.items c.loop-out.tiling c.loop-out.listed inv.0 (inv.1 r.0 r.1 r.2 r.3 r.4 r.5) (sym c.goes_on.ensures ∙ c.loop-out-test.true) in
    let one = one_more c.in-Ok.found c.from-listed.result c.from-listed.ensures in
    omega (arith, room, one)

pub loop-out-preserved : goal.loop-out-preserved
loop-out-preserved c =
    let t = c.args.table.now in
    let g = c.loop-out.tiling in
    let listed = c.loop-out.listed in
    let rows = c.loop-out.out.items in
    let room = c.make_room.new.out.items in
    let found = c.in-Ok.found in
    let row = c.look.new.row in
    let more = c.make_room.ensures.more in
    let n = c.from-listed.result in
    let many = c.from-listed.ensures in
    let a = c.in-Ok.ensures.answered in (
      still_few room listed row more found n many,
      λ lo hi limit turns p s.
          let on = c.loop-out.invariant.1 lo hi limit turns p s in
          let test = wants_by_length rows listed g.limit (is_before g.from g.end) true c.loop-out.invariant.0 (sym c.goes_on.ensures ∙ c.loop-out-test.true) in
          let lists = listed_over room listed row more found n many ∙ ap (λ (l : List Row). with_found l (found_row found row)) c.make_room.ensures.same in
          goes_on t lo hi limit turns p c.loop-out.pass (take listed rows) g on c.look.new.pass (record { lo = g.from; hi = c.look.new.from; row = found_row found row }) test (a.ends.called refl)
          (record g { from = c.look.new.from; turns = c.turns_left.result }) _ refl c.turns_left.ensures (refl, refl) lists,
    )

pub returns-clause-pass : goal.returns-clause-pass
returns-clause-pass c = let r = c.requires.scanning in (c.loop-out.invariant.1 r.0 r.1 r.2 r.3 r.4 r.5).on.tiled.pass

pub returns-clause-scans : goal.returns-clause-scans
returns-clause-scans c lo hi limit turns p s =
    let t = c.args.table.now in
    let g = c.loop-out.tiling in
    let listed = c.loop-out.listed in
    let rows = c.loop-out.out.items in
    let few = c.loop-out.invariant.0 in
    let on = c.loop-out.invariant.1 lo hi limit turns p s in
    let test = wants_by_length rows listed g.limit (is_before g.from g.end) false few (sym c.goes_on.ensures ∙ c.loop-out-test.false) in
    let more : c.more.result ≡ more_at (length (take listed rows)) limit =
    c.more.ensures ∙ (ap (λ (n : ℕ). more_at n g.limit) (sym (length-take-le listed rows few)) ∙ ap (λ (n : ℕ). more_at (length (take listed rows)) n) on.on.limit_is) in
    subst (λ (l : List Row). Scans t lo hi limit turns p l (Ok c.more.result) c.loop-out.pass) (sym c.truncate.ensures.items)
    (listed_scans t lo hi limit turns p c.loop-out.pass (take listed rows) g on test c.more.result more)
