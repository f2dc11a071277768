use Rattle.std.proofs.Common.{◌≡◌, ◌∙◌, ℕ, Bool, true, false, ap, sym, arith, cond}
use Rattle.std.proofs.lemmas.List.FromFn.{sum_by-map-range_with_len_more}
use Rattle.art_cell.specs.declared.cells.Link.{Link}
use Rattle.art_cell.specs.Children.{link_in_pool}
use Rattle.art_step.specs.Views.{is_free}
use Rattle.art_closed.specs.Cells.{memory_in}
use Rattle.art_closed.proofs.counts.free_numbers.Goals as goal
use Rattle.art_closed.proofs.counts.free_numbers.Goals.{then-is_free, else-is_free}

-- 1 where it is so
abbrev bit : Bool → ℕ
bit b = cond b 1 0

pub loop-number-preserved : goal.loop-number-preserved
loop-number-preserved c =
    let r = c.args.reader.now in
    let m = memory_in r.sizes r.words.now in
    let l = c.loop-number in
    let d = link_in_pool c.args.pool l.number in
    let more = sum_by-map-range_with_len_more (λ (e : Link). cond (is_free m e) 1 0) (link_in_pool c.args.pool) 0 l.number l.number (omega arith) in
    elim c.if-is_free.branch [
      | then-is_free w ↦
          let one : bit (is_free m d) ≡ bit true = ap bit (sym c.is_free.ensures ∙ w.if-is_free.true) in
          record { few = omega (arith, w.free-is, l.invariant.few); counted = omega (arith, w.free-is, l.invariant.counted, more, one) }
      | else-is_free w ↦
          let none : bit (is_free m d) ≡ bit false = ap bit (sym c.is_free.ensures ∙ w.if-is_free.false) in
          record { few = omega (arith, w.free-is, l.invariant.few); counted = omega (arith, w.free-is, l.invariant.counted, more, none) }
    ]
