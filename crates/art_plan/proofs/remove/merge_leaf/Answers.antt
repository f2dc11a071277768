use Rattle.std.proofs.Common.{◌≡◌, true, false, [], ◌∷◌, ℕ, List, None, ap, arith, subst, sym, ◌∙◌}
use Rattle.art_cell.specs.Children.{child_word}
use Rattle.art_cell.specs.declared.cells.Link.TheVariants.{Leaf as leaf}
use Rattle.art_plan.proofs.MadeChanges.{WordsFit, taken_meaning, with_puts_of, with_target, with_unlinked}
use Rattle.art_plan.specs.Changes.{IsPlanned}
use Rattle.art_plan.specs.Puts.{IsSitePlan, change_of, puts_of}
use Rattle.art_plan.specs.Seen.{gone, kept, site_stamp}
use Rattle.art_plan.specs.declared.changes.Change.{Change}
use Rattle.art_plan.proofs.GoneNodes.{both_words, words_are}
use Rattle.art_plan.proofs.PlannedMerges.{merge_leaf_planned}
use Rattle.art_plan.specs.Remove.Removals.{removed}
use Rattle.art_step.specs.declared.views.Stamp.{Stamp}
use Rattle.art_plan.proofs.remove.merge_leaf.Goals as goal
use Rattle.art_plan.proofs.remove.merge_leaf.Goals.{After-unlink-2}

-- the child word is that of the other leaf
site_plan : (c : After-unlink-2) → IsSitePlan c.args.site.now (child_word (leaf c.args.other)) c.replaced.new.writes.items
site_plan c = subst (λ (w : ℕ). IsSitePlan c.args.site.now w c.replaced.new.writes.items) c.child_word.ensures c.replaced.ensures.plan

-- all but the words are filled in
filled : (c : After-unlink-2) → c.unlink-2.new.change
    ≡ change_of (kept (site_stamp c.args.site.now) ∷ gone c.args.below.now.stamp ∷ []) [] c.replaced.new.writes.items None c.args.change.now.body None (both_words c.args.old.now.number c.args.below.now.node) (removed c.args.old.now)
filled c =
    let body = c.args.change.now.body in
    let upper = c.lock.ensures ∙ ap (with_target c.stamp.result false) c.begin.ensures in
    let both = c.lock-2.ensures ∙ ap (with_target c.args.below.now.stamp true) upper in
    c.unlink-2.ensures
    ∙ ap (with_unlinked c.child_word-old_node.result) (c.unlink.ensures ∙ ap (with_unlinked c.child_word-old_leaf.result) both)
    ∙ ap (λ (x : Stamp). change_of (kept x ∷ gone c.args.below.now.stamp ∷ []) [] c.replaced.new.writes.items None body None (c.child_word-old_leaf.result ∷ c.child_word-old_node.result ∷ []) (removed c.args.old.now)) c.stamp.ensures
    ∙ ap (λ (us : List ℕ). change_of (kept (site_stamp c.args.site.now) ∷ gone c.args.below.now.stamp ∷ []) [] c.replaced.new.writes.items None body None us (removed c.args.old.now))
    (words_are c.args.old.now.number c.args.below.now.node c.child_word-old_leaf.result c.child_word-old_node.result c.child_word-old_leaf.ensures c.child_word-old_node.ensures)

pub put_writes-requires : goal.put_writes-requires
put_writes-requires c = subst WordsFit (sym (filled (goal.at.put_writes-requires c).After-unlink-2)) (omega (arith, c.replaced.ensures.one))

pub returns-clause-planned : goal.returns-clause-planned
returns-clause-planned c = λ z u depth byte beside knows.
    let before = (goal.at.returns-clause-planned c).After-unlink-2 in
    let site = c.args.site.now in
    let old = c.args.old.now in
    let below = c.args.below.now in
    let body = c.args.change.now.body in
    let writes = c.replaced.new.writes.items in
    let us = both_words old.number below.node in
    let ts = kept (site_stamp site) ∷ gone below.stamp ∷ [] in
    let is : c.put_writes.new.change ≡ change_of ts (puts_of 0 writes) writes None body None us (removed old) =
    c.put_writes.ensures ∙ ap (with_puts_of 0) (filled before) in
    subst (IsPlanned z u) (sym is) (merge_leaf_planned z u site old depth below byte beside c.args.other body writes knows (site_plan before) (taken_meaning site c.requires))

pub returns-clause-effects : goal.returns-clause-effects
returns-clause-effects c = ap (λ (ch : Change). ch.effects) (c.put_writes.ensures ∙ ap (with_puts_of 0) (filled (goal.at.returns-clause-effects c).After-unlink-2))

pub returns-clause-locks : goal.returns-clause-locks
returns-clause-locks c = ap (λ (ch : Change). ch.targets.items) (c.put_writes.ensures ∙ ap (with_puts_of 0) (filled (goal.at.returns-clause-locks c).After-unlink-2))

pub returns-clause-puts : goal.returns-clause-puts
returns-clause-puts c = (
  c.replaced.new.writes.items,
  site_plan (goal.at.returns-clause-puts c).After-unlink-2,
  ap (λ (ch : Change). ch.puts.items) (c.put_writes.ensures ∙ ap (with_puts_of 0) (filled (goal.at.returns-clause-puts c).After-unlink-2)),
)
