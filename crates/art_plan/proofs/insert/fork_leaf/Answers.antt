use Rattle.std.proofs.Common.{◌≡◌, false, [], ◌∷◌, ◌+◌, ◌-◌, ℕ, Some, ap, arith, drop, take, subst, sym, ◌∙◌}
use Rattle.art_cell.specs.Children.{child_word}
use Rattle.art_cell.specs.Reads.{word_of}
use Rattle.art_cell.specs.declared.cells.Link.TheVariants.{Leaf as leaf}
use Rattle.art_plan.specs.Insert.Puts.{inserted}
use Rattle.art_plan.specs.Puts.{IsSitePlan, change_of, puts_of}
use Rattle.art_plan.proofs.MadeChanges.{WordsFit, taken_meaning, with_made, with_puts_of, with_target}
use Rattle.art_plan.proofs.ForkNodes.{between, fork_node}
use Rattle.art_plan.proofs.PlannedForks.{fork_leaf_planned}
use Rattle.art_plan.specs.Changes.{IsPlanned}
use Rattle.art_plan.specs.Seen.{kept, site_stamp}
use Rattle.art_plan.specs.declared.changes.Change.{Change}
use Rattle.art_step.specs.declared.views.Stamp.{Stamp}
use Rattle.art_plan.proofs.insert.fork_leaf.Goals as goal
use Rattle.art_plan.proofs.insert.fork_leaf.Goals.{After-make}

-- all but the words are filled in
filled : (c : After-make) → c.make.new.change ≡ change_of (kept (site_stamp c.args.site.now) ∷ []) [] c.replaced.new.writes.items (Some c.args.made) c.fork.new.forked (Some c.args.new.now.number) [] (inserted c.args.new.now)
filled c =
    c.make.ensures
    ∙ ap (with_made c.args.made) (c.lock.ensures ∙ ap (with_target c.stamp.result false) c.begin.ensures)
    ∙ ap (λ (x : Stamp). change_of (kept x ∷ []) [] c.replaced.new.writes.items (Some c.args.made) c.fork.new.forked (Some c.args.new.now.number) [] (inserted c.args.new.now)) c.stamp.ensures

pub put_writes-requires : goal.put_writes-requires
put_writes-requires c = subst WordsFit (sym (filled (goal.at.put_writes-requires c).After-make)) (omega (arith, c.replaced.ensures.one))

pub returns-clause-planned : goal.returns-clause-planned
returns-clause-planned c = λ z u knows.
    let site = c.args.site.now in
    let new = c.args.new.now in
    let parting = c.args.parting in
    let body = c.fork.new.forked in
    let writes = c.replaced.new.writes.items in
    let key = c.as_slice-key.result.now in
    let forked = fork_node (word_of body) (take (parting.depth + parting.common - parting.depth) (drop parting.depth key)) (take parting.common (drop parting.depth new.key.items)) key new.key.items (parting.depth + parting.common) c.args.byte
    c.child_word-old_leaf.result c.child_word-new_leaf.result (child_word (leaf c.args.other)) (child_word (leaf new.number))
    (between key new.key.items parting.depth parting.common c.as_slice-key.ensures.value) c.as_slice-key.ensures.value c.child_word-old_leaf.ensures c.child_word-new_leaf.ensures c.fork.ensures.node in
    let is : c.put_writes.new.change ≡ change_of (kept (site_stamp site) ∷ []) (puts_of 0 writes) writes (Some c.args.made) body (Some new.number) [] (inserted new) =
    c.put_writes.ensures ∙ ap (with_puts_of 0) (filled (goal.at.returns-clause-planned c).After-make) in
    subst (IsPlanned z u) (sym is)
    (fork_leaf_planned z u site new parting c.args.other c.args.byte c.args.made body writes knows (subst (λ (w : ℕ). IsSitePlan site w writes) c.child_word-new_node.ensures c.replaced.ensures.plan)
    c.requires.inside (omega (arith, c.ranges.other.fits)) (omega (arith, c.ranges.byte.fits)) c.requires.apart c.fork.ensures.layout forked (taken_meaning site c.requires.taken))

pub returns-clause-effects : goal.returns-clause-effects
returns-clause-effects c = ap (λ (ch : Change). ch.effects) (c.put_writes.ensures ∙ ap (with_puts_of 0) (filled (goal.at.returns-clause-effects c).After-make))

pub returns-clause-locks : goal.returns-clause-locks
returns-clause-locks c = ap (λ (ch : Change). ch.targets.items) (c.put_writes.ensures ∙ ap (with_puts_of 0) (filled (goal.at.returns-clause-locks c).After-make))

pub returns-clause-puts : goal.returns-clause-puts
returns-clause-puts c = (
  c.replaced.new.writes.items,
  subst (λ (w : ℕ). IsSitePlan c.args.site.now w c.replaced.new.writes.items) c.child_word-new_node.ensures c.replaced.ensures.plan,
  ap (λ (ch : Change). ch.puts.items) (c.put_writes.ensures ∙ ap (with_puts_of 0) (filled (goal.at.returns-clause-puts c).After-make)),
)
