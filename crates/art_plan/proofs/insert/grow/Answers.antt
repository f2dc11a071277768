use Rattle.std.proofs.Common.{◌≡◌, true, false, [], ◌∷◌, ℕ, Some, ap, ap₂, arith, subst, sym, ◌∙◌}
use Rattle.art_cell.specs.Children.{child_word}
use Rattle.art_cell.specs.Reads.{with_child, word_of}
use Rattle.art_cell.specs.Words.{child_of, prefix_of}
use Rattle.art_cell.specs.declared.cells.Link.TheVariants.{Leaf as leaf, Node as node}
use Rattle.art_cell.specs.declared.cells.Layout.{Layout}
use Rattle.art_plan.specs.Insert.Puts.{inserted, larger_node}
use Rattle.art_plan.specs.Puts.{IsSitePlan, change_of, puts_of}
use Rattle.art_plan.proofs.MadeChanges.{WordsFit, taken_meaning, with_made, with_puts_of, with_target, with_unlinked}
use Rattle.art_plan.proofs.PlannedGrows.{grow_planned}
use Rattle.art_node.specs.Prefixes.{IsNodeOf}
use Rattle.art_node.specs.Sizes.{larger}
use Rattle.art_plan.specs.Changes.{IsPlanned}
use Rattle.art_plan.specs.Seen.{gone, kept, site_stamp}
use Rattle.art_plan.specs.declared.changes.Change.{Change}
use Rattle.art_step.specs.declared.views.Stamp.{Stamp}
use Rattle.art_plan.proofs.insert.grow.Goals as goal
use Rattle.art_plan.proofs.insert.grow.Goals.{After-make}

-- the child word is that of the larger node
site_plan : (c : After-make) → IsSitePlan c.args.site.now (child_word (node (larger_node c.args.below.now.body.now c.args.made))) c.replaced.new.writes.items
site_plan c =
    let is : c.child_word-new_node.result ≡ child_word (node (larger_node c.args.below.now.body.now c.args.made)) =
    c.child_word-new_node.ensures ∙ ap (λ (l : Layout). child_word (node (record { layout = l; number = c.args.made }))) c.grown.ensures.layout in
    subst (λ (w : ℕ). IsSitePlan c.args.site.now w c.replaced.new.writes.items) is c.replaced.ensures.plan

-- all but the words are filled in
filled : (c : After-make) → c.make.new.change ≡ change_of (kept (site_stamp c.args.site.now) ∷ gone c.args.below.now.stamp ∷ []) [] c.replaced.new.writes.items (Some c.args.made) c.grown.new.more (Some c.args.new.now.number) (child_word (node c.args.below.now.node) ∷ []) (inserted c.args.new.now)
filled c =
    let body = c.grown.new.more in
    let upper = c.lock.ensures ∙ ap (with_target c.stamp.result false) c.begin.ensures in
    let both = c.lock-2.ensures ∙ ap (with_target c.args.below.now.stamp true) upper in
    c.make.ensures
    ∙ ap (with_made c.args.made) (c.unlink.ensures ∙ ap (with_unlinked c.child_word-old_node.result) both)
    ∙ ap₂ (λ (x : Stamp) (w : ℕ). change_of (kept x ∷ gone c.args.below.now.stamp ∷ []) [] c.replaced.new.writes.items (Some c.args.made) body (Some c.args.new.now.number) (w ∷ []) (inserted c.args.new.now)) c.stamp.ensures c.child_word-old_node.ensures

pub put_writes-requires : goal.put_writes-requires
put_writes-requires c = subst WordsFit (sym (filled (goal.at.put_writes-requires c).After-make)) (omega (arith, c.replaced.ensures.one))

pub returns-clause-planned : goal.returns-clause-planned
returns-clause-planned c = λ z u depth knows.
    let before = (goal.at.returns-clause-planned c).After-make in
    let site = c.args.site.now in
    let new = c.args.new.now in
    let below = c.args.below.now in
    let body = c.grown.new.more in
    let writes = c.replaced.new.writes.items in
    let us = child_word (node below.node) ∷ [] in
    let ts = kept (site_stamp site) ∷ gone below.stamp ∷ [] in
    let is : c.put_writes.new.change ≡ change_of ts (puts_of 0 writes) writes (Some c.args.made) body (Some new.number) us (inserted new) =
    c.put_writes.ensures ∙ ap (with_puts_of 0) (filled before) in
    let grown : IsNodeOf (larger below.body.now.layout) (word_of body) (prefix_of (word_of below.body.now)) (with_child (child_of below.body.now.layout (word_of below.body.now)) c.args.byte (child_word (leaf new.number))) =
    subst (λ (w : ℕ). IsNodeOf (larger below.body.now.layout) (word_of body) (prefix_of (word_of below.body.now)) (with_child (child_of below.body.now.layout (word_of below.body.now)) c.args.byte w))
    c.child_word-new_leaf.ensures c.grown.ensures.node in
    subst (IsPlanned z u) (sym is)
    (grow_planned z u site new depth below c.args.byte c.args.made body writes knows (site_plan before) c.requires.crowded (omega (arith, c.ranges.byte.fits)) c.grown.ensures.layout grown (taken_meaning site c.requires.taken))

pub returns-clause-effects : goal.returns-clause-effects
returns-clause-effects c = ap (λ (ch : Change). ch.effects) (c.put_writes.ensures ∙ ap (with_puts_of 0) (filled (goal.at.returns-clause-effects c).After-make))

pub returns-clause-locks : goal.returns-clause-locks
returns-clause-locks c = ap (λ (ch : Change). ch.targets.items) (c.put_writes.ensures ∙ ap (with_puts_of 0) (filled (goal.at.returns-clause-locks c).After-make))

pub returns-clause-puts : goal.returns-clause-puts
returns-clause-puts c = (
  c.replaced.new.writes.items,
  site_plan (goal.at.returns-clause-puts c).After-make,
  ap (λ (ch : Change). ch.puts.items) (c.put_writes.ensures ∙ ap (with_puts_of 0) (filled (goal.at.returns-clause-puts c).After-make)),
)
