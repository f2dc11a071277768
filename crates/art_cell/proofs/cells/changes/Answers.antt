use Rattle.std.proofs.Common.{◌++◌, [], ◌∙◌, ap, sym, arith, length, append-nil}
use Rattle.std.specs.List.{cons_option}
use Rattle.art_cell.specs.Reads.{word_of}
use Rattle.art_cell.proofs.ChangedWords.{goes_on, change_where, no_change_where}
use Rattle.art_cell.proofs.cells.changes.Goals as goal
use Rattle.art_cell.proofs.cells.changes.Goals.{then-body-place, else-body-place}

pub loop-place-preserved : goal.loop-place-preserved
loop-place-preserved c =
    let before = word_of c.args.body.now in
    let after = word_of c.args.after.now in
    let place = c.loop-place.place in
    elim c.if-body-place.branch [
      | then-body-place w ↦
          let change = change_where before after place w.if-body-place.true in
          record {
            room = omega (arith, ap (λ v. length v.items) w.writes-is, w.push.ensures.len, c.loop-place.invariant.room, c.loop-place.auto.place);
            items = goes_on before after place c.loop-place.writes.items c.if-body-place.writes.items c.loop-place.auto.place c.loop-place.invariant.items (
                ap (λ v. v.items) w.writes-is ∙ w.push.ensures.items ∙ sym (ap (λ o. c.loop-place.writes.items ++ cons_option o []) change)
                );
          }
      | else-body-place w ↦
          let change = no_change_where before after place w.if-body-place.false in
          record {
            room = omega (arith, ap (λ v. length v.items) w.writes-is, c.loop-place.invariant.room, c.loop-place.auto.place);
            items = goes_on before after place c.loop-place.writes.items c.if-body-place.writes.items c.loop-place.auto.place c.loop-place.invariant.items (
                ap (λ v. v.items) w.writes-is ∙ sym (append-nil c.loop-place.writes.items) ∙ sym (ap (λ o. c.loop-place.writes.items ++ cons_option o []) change)
                );
          }
    ]
