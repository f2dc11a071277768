use Rattle.std.proofs.Common.{◌≡◌, ◌++◌, true, false, [], ◌∷◌, ℕ, List, None, ap, ap₂, arith, subst, sym, ◌∙◌}
use Rattle.std.proofs.lemmas.List.{length-map}
use Rattle.art_cell.specs.Children.{child_word}
use Rattle.art_cell.specs.Reads.{word_of}
use Rattle.art_cell.specs.declared.cells.Link.TheVariants.{Node as node}
use Rattle.art_cell.specs.declared.cells.Write.{Write}
use Rattle.art_node.specs.Prefixes.{IsPrefixPlan}
use Rattle.art_plan.proofs.MadeChanges.{WordsFit, taken_meaning, with_puts_of, with_target, with_unlinked, with_writes}
use Rattle.art_plan.specs.Changes.{IsPlanned}
use Rattle.art_plan.specs.Puts.{IsSitePlan, change_of, put_of, puts_of}
use Rattle.art_plan.specs.Seen.{gone, kept, site_stamp}
use Rattle.art_plan.specs.declared.changes.Change.{Change}
use Rattle.art_plan.specs.declared.changes.Put.{Put}
use Rattle.art_plan.proofs.GoneNodes.{both_words, words_are}
use Rattle.art_plan.proofs.PlannedMerges.{merge_node_planned}
use Rattle.art_plan.specs.Remove.Removals.{joined, removed}
use Rattle.art_step.specs.declared.views.Stamp.{Stamp}
use Rattle.art_plan.proofs.remove.merge_node.Goals as goal
use Rattle.art_plan.proofs.remove.merge_node.Goals.{After-plan_prefix, After-replaced}

-- the child word is that of the lower node
site_plan : (c : After-plan_prefix) → IsSitePlan c.args.site.now (child_word (node c.args.lower.now.node)) c.replaced.new.writes.items
site_plan c = subst (λ (w : ℕ). IsSitePlan c.args.site.now w c.replaced.new.writes.items) c.child_word.ensures c.replaced.ensures.plan

-- the prefix is the parts, one after another
gain : (c : After-plan_prefix) → IsPrefixPlan c.args.lower.now.body.now.layout (word_of c.args.lower.now.body.now) c.plan_prefix.new.writes.items (joined c.args.parts.now)
gain c =
    let parts = c.args.parts.now in
    let whole = c.as_slice-3.ensures.value ∙ c.join-prefix.ensures ∙ ap₂ (λ (p q : List ℕ). p ++ parts.byte ∷ q) c.as_slice.ensures.value c.as_slice-2.ensures.value in
    subst (IsPrefixPlan c.args.lower.now.body.now.layout (word_of c.args.lower.now.body.now) c.plan_prefix.new.writes.items) whole c.plan_prefix.ensures.plan

-- all but the words are filled in
filled : (c : After-replaced) → with_writes c.replaced.new.writes.items c.unlink-2.new.change
    ≡ change_of (kept (site_stamp c.args.site.now) ∷ gone c.args.below.now.stamp ∷ kept c.args.lower.now.stamp ∷ []) [] c.replaced.new.writes.items None c.args.change.now.body None (both_words c.args.old.now.number c.args.below.now.node) (removed c.args.old.now)
filled c =
    let ws = c.replaced.new.writes.items in
    let body = c.args.change.now.body in
    let below = gone c.args.below.now.stamp in
    let lower = kept c.args.lower.now.stamp in
    let upper = c.lock.ensures ∙ ap (with_target c.stamp.result false) c.begin.ensures in
    let both = c.lock-2.ensures ∙ ap (with_target c.args.below.now.stamp true) upper in
    let all = c.lock-3.ensures ∙ ap (with_target c.args.lower.now.stamp false) both in
    ap (with_writes ws) (c.unlink-2.ensures ∙ ap (with_unlinked c.child_word-old_node.result) (c.unlink.ensures ∙ ap (with_unlinked c.child_word-old_leaf.result) all))
    ∙ ap (λ (x : Stamp). change_of (kept x ∷ below ∷ lower ∷ []) [] ws None body None (c.child_word-old_leaf.result ∷ c.child_word-old_node.result ∷ []) (removed c.args.old.now)) c.stamp.ensures
    ∙ ap (λ (us : List ℕ). change_of (kept (site_stamp c.args.site.now) ∷ below ∷ lower ∷ []) [] ws None body None us (removed c.args.old.now))
    (words_are c.args.old.now.number c.args.below.now.node c.child_word-old_leaf.result c.child_word-old_node.result c.child_word-old_leaf.ensures c.child_word-old_node.ensures)

-- the change that puts these words, with such words planned last
abbrev change_with : After-plan_prefix → List Put → List Write → Change
change_with c ps ws = change_of (kept (site_stamp c.args.site.now) ∷ gone c.args.below.now.stamp ∷ kept c.args.lower.now.stamp ∷ []) ps ws None c.args.change.now.body None (both_words c.args.old.now.number c.args.below.now.node) (removed c.args.old.now)

-- the first words are put, and those of the longer prefix are planned
both_planned : (c : After-plan_prefix) → with_writes c.replaced.new.writes.items c.unlink-2.new.change ≡ change_with c [] c.replaced.new.writes.items
    → with_writes c.plan_prefix.new.writes.items c.put_writes.new.change ≡ change_with c (puts_of 0 c.replaced.new.writes.items) c.plan_prefix.new.writes.items
both_planned c is = ap (with_writes c.plan_prefix.new.writes.items) (c.put_writes.ensures ∙ ap (with_puts_of 0) is)

-- all is filled in
both_put : (c : After-plan_prefix) → with_writes c.replaced.new.writes.items c.unlink-2.new.change ≡ change_with c [] c.replaced.new.writes.items
    → (now : Change) → now ≡ with_puts_of 2 (with_writes c.plan_prefix.new.writes.items c.put_writes.new.change)
    → now ≡ change_with c (puts_of 0 c.replaced.new.writes.items ++ puts_of 2 c.plan_prefix.new.writes.items) c.plan_prefix.new.writes.items
both_put c is now last = last ∙ ap (with_puts_of 2) (both_planned c is)

pub put_writes-requires : goal.put_writes-requires
put_writes-requires c = subst WordsFit (sym (filled (goal.at.put_writes-requires c).After-replaced)) (omega (arith, c.replaced.ensures.one))

pub put_writes-requires-2 : goal.put_writes-requires-2
put_writes-requires-2 c =
    let had = length-map c.replaced.new.writes.items (put_of 0) in
    subst WordsFit (sym (both_planned (goal.at.put_writes-requires-2 c).After-plan_prefix (filled (goal.at.put_writes-requires-2 c).After-replaced))) (omega (arith, had, c.replaced.ensures.one, c.plan_prefix.ensures.few))

pub returns-clause-planned : goal.returns-clause-planned
returns-clause-planned c = λ done z u depth byte knows.
    let after = (goal.at.returns-clause-planned c).After-plan_prefix in
    let site = c.args.site.now in
    subst (IsPlanned z u) (sym (both_put after (filled (goal.at.returns-clause-planned c).After-replaced) c.put_writes-2.new.change c.put_writes-2.ensures))
    (merge_node_planned z u site c.args.old.now depth c.args.below.now byte c.args.lower.now c.args.parts.now c.args.change.now.body c.replaced.new.writes.items c.plan_prefix.new.writes.items knows
    (site_plan after) (gain after) c.requires.meaning (taken_meaning site c.requires.taken))

pub returns-clause-deed : goal.returns-clause-deed
returns-clause-deed c = ap (λ (ch : Change). ch.effects.deed) (both_put (goal.at.returns-clause-deed c).After-plan_prefix (filled (goal.at.returns-clause-deed c).After-replaced) c.put_writes-2.new.change c.put_writes-2.ensures)

pub returns-clause-leaf : goal.returns-clause-leaf
returns-clause-leaf c = ap (λ (ch : Change). ch.effects.leaf) (both_put (goal.at.returns-clause-leaf c).After-plan_prefix (filled (goal.at.returns-clause-leaf c).After-replaced) c.put_writes-2.new.change c.put_writes-2.ensures)

pub returns-clause-effects : goal.returns-clause-effects
returns-clause-effects c = λ done. ap (λ (ch : Change). ch.effects) (both_put (goal.at.returns-clause-effects c).After-plan_prefix (filled (goal.at.returns-clause-effects c).After-replaced) c.put_writes-2.new.change c.put_writes-2.ensures)

pub returns-clause-locks : goal.returns-clause-locks
returns-clause-locks c = λ done. ap (λ (ch : Change). ch.targets.items) (both_put (goal.at.returns-clause-locks c).After-plan_prefix (filled (goal.at.returns-clause-locks c).After-replaced) c.put_writes-2.new.change c.put_writes-2.ensures)

pub returns-clause-puts : goal.returns-clause-puts
returns-clause-puts c = λ done.
    let after = (goal.at.returns-clause-puts c).After-plan_prefix in (
      c.replaced.new.writes.items,
      c.plan_prefix.new.writes.items,
      site_plan after,
      gain after,
      ap (λ (ch : Change). ch.puts.items)
          (both_put after (filled (goal.at.returns-clause-puts c).After-replaced) c.put_writes-2.new.change c.put_writes-2.ensures),
    )
