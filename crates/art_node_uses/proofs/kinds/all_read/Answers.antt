use Rattle.std.proofs.Common.{refl, sym, subst}
use Rattle.std.specs.Prelude.{List, Option, ℕ}
use Rattle.art_cell.specs.Reads.{Agrees, word_of}
use Rattle.art_cell.specs.Lemmas.ReadWords.{none_read, one_read}
use Rattle.art_node_uses.proofs.kinds.all_read.Goals as goal

pub loop-place-init : goal.loop-place-init
loop-place-init c = subst (λ (reads : List (Option ℕ)). Agrees reads (word_of c.args.body.now)) (sym c.new-reads.ensures) (none_read 266 (word_of c.args.body.now))

pub loop-place-preserved : goal.loop-place-preserved
loop-place-preserved c =
    subst (λ (reads : List (Option ℕ)). Agrees reads (word_of c.args.body.now)) (sym c.note.ensures)
    (one_read c.loop-place.reads (word_of c.args.body.now) c.loop-place.place _ refl c.loop-place.invariant)
