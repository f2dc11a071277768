-- One change of the tree, and two deeds that say the same of the rows.
use Rattle.std.specs.Prelude.{◌≡◌, List}
use Rattle.art_cell.specs.declared.cells.Link.{Link}
use Rattle.art_step.specs.Histories.{IsAnswered, becomes}
use Rattle.art_step.specs.Steps.Commit.{Commits}
use Rattle.art_step.specs.declared.deeds.Deed.{Deed}
use Rattle.art_step.specs.declared.views.Sizes.{Sizes}
use Rattle.art_step.specs.declared.views.View.{View}
use Rattle.art_tree.specs.Heaps.{Cells, heap_of}
use Rattle.art_tree.specs.Rows.{ByteMap, HasRows}

-- of the rows that stand, where the one deed is answered so, so is the other, and it leaves the same rows
abbrev pub SaysAlike : Cells → Deed → Deed → Type 0
SaysAlike s what other = (f : ByteMap) → HasRows (heap_of s) f → IsAnswered f what → IsAnswered f other × (becomes f other ≡ becomes f what)

-- a commit of the one is a commit of the other
abbrev pub AlikeCommits : Type 0
AlikeCommits = (z : Sizes) (v : View) (what other : Deed) (us ls : List Link) (s s' : Cells) → SaysAlike s what other →
    Commits z v what us ls s s' → Commits z v other us ls s s'
