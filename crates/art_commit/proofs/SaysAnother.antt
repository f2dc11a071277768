-- A commit of one deed is one of another that says the same of the rows.
use Rattle.std.proofs.Common.{sym, subst}
use Rattle.art_commit.specs.OtherDeeds.{AlikeCommits}
use Rattle.art_tree.specs.Heaps.{heap_of}
use Rattle.art_tree.specs.Rows.{HasRows}

pub alike_commits : AlikeCommits
alike_commits z v what what' us ls s s' k c = record {
  shape = c.shape;
  rows = λ f rows. let o = c.rows f rows in let j = k f rows o.0 in (j.0, subst (HasRows (heap_of s')) (sym j.1) o.1);
  others = c.others;
  leaves = c.leaves;
  comes = c.comes;
  once = c.once;
  stays = c.stays;
  linked = c.linked;
  held = c.held;
  claimed = c.claimed;
}
