use Rattle.std.proofs.Common.{◌≡◌, ◌≢◌, false, List, [], ◌∷◌, ◌++◌, ◌+◌, ℕ, Some, ap, arith, get_or, subst, sym, ◌∙◌}
use Rattle.std.proofs.lemmas.List.{length-map}
use Rattle.art_cell.specs.Children.{child_word}
use Rattle.art_cell.specs.Reads.{word_of}
use Rattle.art_cell.specs.declared.cells.Link.TheVariants.{Leaf as leaf, Node as node}
use Rattle.art_cell.specs.declared.cells.Write.{Write}
use Rattle.art_plan.specs.Insert.Puts.{inserted, node4}
use Rattle.art_plan.specs.Puts.{IsSitePlan, change_of, put_of, puts_of}
use Rattle.art_plan.proofs.MadeChanges.{WordsFit, taken_meaning, with_made, with_puts_of, with_target, with_writes}
use Rattle.art_plan.proofs.ForkNodes.{fork_node}
use Rattle.art_plan.proofs.PlannedPrefixes.{IsSplit, fork_prefix_planned, split_is}
use Rattle.art_node.specs.Prefixes.{IsPrefixPlan}
use Rattle.art_plan.specs.Changes.{IsPlanned}
use Rattle.art_plan.specs.Seen.{kept, site_stamp}
use Rattle.art_plan.specs.declared.changes.Change.{Change}
use Rattle.art_plan.specs.declared.changes.Put.{Put}
use Rattle.art_step.specs.declared.views.Stamp.{Stamp}
use Rattle.art_plan.proofs.insert.fork_prefix.Goals as goal
use Rattle.art_plan.proofs.insert.fork_prefix.Goals.{After-make, After-plan_prefix}

-- the child word is that of the new node
site_plan : (c : After-plan_prefix) → IsSitePlan c.args.site.now (child_word (node (node4 c.args.made))) c.replaced.new.writes.items
site_plan c = subst (λ (w : ℕ). IsSitePlan c.args.site.now w c.replaced.new.writes.items) c.child_word-new_node.ensures c.replaced.ensures.plan

-- the parts of the prefix
parts : (c : After-plan_prefix) → IsSplit c.split-parts.result.front.items c.split-parts.result.byte c.split-parts.result.rest.items c.args.prefix.now c.args.parting.common
parts c = split_is c.split-parts.result.front.items c.split-parts.result.byte c.split-parts.result.rest.items c.args.prefix.now c.args.parting.common c.split-parts.ensures.whole c.split-parts.ensures.front

-- the writes that cut it
cut : (c : After-plan_prefix) → IsPrefixPlan c.args.below.now.body.now.layout (word_of c.args.below.now.body.now) c.plan_prefix.new.writes.items c.split-parts.result.rest.items
cut c = subst (IsPrefixPlan c.args.below.now.body.now.layout (word_of c.args.below.now.body.now) c.plan_prefix.new.writes.items) c.as_slice-2.ensures.value c.plan_prefix.ensures.plan

-- all but the words are filled in
filled : (c : After-make) → c.make.new.change ≡ change_of (kept (site_stamp c.args.site.now) ∷ kept c.args.below.now.stamp ∷ []) [] c.replaced.new.writes.items (Some c.args.made) c.fork.new.forked (Some c.args.new.now.number) [] (inserted c.args.new.now)
filled c =
    let body = c.fork.new.forked in
    let upper = c.lock.ensures ∙ ap (with_target c.stamp.result false) c.begin.ensures in
    c.make.ensures
    ∙ ap (with_made c.args.made) (c.lock-2.ensures ∙ ap (with_target c.args.below.now.stamp false) upper)
    ∙ ap (λ (x : Stamp). change_of (kept x ∷ kept c.args.below.now.stamp ∷ []) [] c.replaced.new.writes.items (Some c.args.made) body (Some c.args.new.now.number) [] (inserted c.args.new.now)) c.stamp.ensures

-- the change that puts these words, with such words planned last
abbrev change_with : After-plan_prefix → List Put → List Write → Change
change_with c ps ws = change_of (kept (site_stamp c.args.site.now) ∷ kept c.args.below.now.stamp ∷ []) ps ws (Some c.args.made) c.fork.new.forked (Some c.args.new.now.number) [] (inserted c.args.new.now)

-- the first words are put, and those that cut the prefix are planned
both_planned : (c : After-plan_prefix) → c.make.new.change ≡ change_with c [] c.replaced.new.writes.items
    → with_writes c.plan_prefix.new.writes.items c.put_writes.new.change ≡ change_with c (puts_of 0 c.replaced.new.writes.items) c.plan_prefix.new.writes.items
both_planned c is = ap (with_writes c.plan_prefix.new.writes.items) (c.put_writes.ensures ∙ ap (with_puts_of 0) is)

-- all is filled in
both_put : (c : After-plan_prefix) → c.make.new.change ≡ change_with c [] c.replaced.new.writes.items → (now : Change) → now ≡ with_puts_of 1 (with_writes c.plan_prefix.new.writes.items c.put_writes.new.change)
    → now ≡ change_with c (puts_of 0 c.replaced.new.writes.items ++ puts_of 1 c.plan_prefix.new.writes.items) c.plan_prefix.new.writes.items
both_put c is now last = last ∙ ap (with_puts_of 1) (both_planned c is)

pub put_writes-requires : goal.put_writes-requires
put_writes-requires c = subst WordsFit (sym (filled (goal.at.put_writes-requires c).After-make)) (omega (arith, c.replaced.ensures.one))

pub put_writes-requires-2 : goal.put_writes-requires-2
put_writes-requires-2 c =
    let had = length-map c.replaced.new.writes.items (put_of 0) in
    subst WordsFit (sym (both_planned (goal.at.put_writes-requires-2 c).After-plan_prefix (filled (goal.at.put_writes-requires-2 c).After-make))) (omega (arith, had, c.replaced.ensures.one, c.plan_prefix.ensures.few))

pub returns-clause-planned : goal.returns-clause-planned
returns-clause-planned c = λ z u knows.
    let after = (goal.at.returns-clause-planned c).After-plan_prefix in
    let site = c.args.site.now in
    let new = c.args.new.now in
    let below = c.args.below.now in
    let parting = c.args.parting in
    let body = c.fork.new.forked in
    let writes = c.replaced.new.writes.items in
    let others = c.plan_prefix.new.writes.items in
    let key = c.as_slice-key.result.now in
    let split = c.split-parts.result in
    let forked = fork_node (word_of body) c.as_slice.result.now split.front.items key new.key.items (parting.depth + parting.common) split.byte c.child_word-old_node.result c.child_word-new_leaf.result
    (child_word (node below.node)) (child_word (leaf new.number)) c.as_slice.ensures.value c.as_slice-key.ensures.value c.child_word-old_node.ensures c.child_word-new_leaf.ensures c.fork.ensures.node in
    let apart : split.byte ≢ get_or new.key.items (parting.depth + parting.common) 0 = (λ e. c.requires.apart (sym (parts after).byte ∙ e)) in
    subst (IsPlanned z u) (sym (both_put after (filled (goal.at.returns-clause-planned c).After-make) c.put_writes-2.new.change c.put_writes-2.ensures))
    (fork_prefix_planned z u site new parting below c.args.prefix.now c.args.made body writes others knows split.front.items split.byte split.rest.items c.split-parts.ensures.whole c.split-parts.ensures.front
    (site_plan after) (cut after) c.requires.meaning c.requires.inside apart c.fork.ensures.layout forked (taken_meaning site c.requires.taken))

pub returns-clause-effects : goal.returns-clause-effects
returns-clause-effects c = ap (λ (ch : Change). ch.effects) (both_put (goal.at.returns-clause-effects c).After-plan_prefix (filled (goal.at.returns-clause-effects c).After-make) c.put_writes-2.new.change c.put_writes-2.ensures)

pub returns-clause-locks : goal.returns-clause-locks
returns-clause-locks c = ap (λ (ch : Change). ch.targets.items) (both_put (goal.at.returns-clause-locks c).After-plan_prefix (filled (goal.at.returns-clause-locks c).After-make) c.put_writes-2.new.change c.put_writes-2.ensures)

pub returns-clause-puts : goal.returns-clause-puts
returns-clause-puts c =
    let after = (goal.at.returns-clause-puts c).After-plan_prefix in
    let below = c.args.below.now.body.now in (
      c.replaced.new.writes.items,
      c.plan_prefix.new.writes.items,
      site_plan after,
      subst (IsPrefixPlan below.layout (word_of below) c.plan_prefix.new.writes.items) (parts after).rest (cut after),
      ap (λ (ch : Change). ch.puts.items)
          (both_put after (filled (goal.at.returns-clause-puts c).After-make) c.put_writes-2.new.change c.put_writes-2.ensures),
    )
