use Rattle.std.proofs.Common.{◌≡◌, false, [], ◌∷◌, ℕ, None, ap, ap₂, arith, subst, sym, ◌∙◌}
use Rattle.art_cell.specs.Children.{child_word}
use Rattle.art_cell.specs.declared.cells.Link.TheVariants.{Leaf as leaf}
use Rattle.art_plan.proofs.MadeChanges.{WordsFit, with_puts_of, with_target, with_unlinked}
use Rattle.art_plan.specs.Changes.{IsPlanned}
use Rattle.art_plan.specs.Puts.{change_of, puts_of}
use Rattle.art_plan.specs.Seen.{kept, site_stamp}
use Rattle.art_plan.specs.declared.changes.Change.{Change}
use Rattle.art_plan.proofs.PlannedDrops.{drop_planned}
use Rattle.art_plan.specs.Remove.Removals.{removed}
use Rattle.art_step.specs.declared.views.Stamp.{Stamp}
use Rattle.art_plan.proofs.remove.drop.Goals as goal
use Rattle.art_plan.proofs.remove.drop.Goals.{After-unlink}

-- all but the words are filled in
filled : (c : After-unlink) → c.unlink.new.change ≡ change_of (kept (site_stamp c.args.site.now) ∷ []) [] c.dropped.new.writes.items None c.args.change.now.body None (child_word (leaf c.args.old.now.number) ∷ []) (removed c.args.old.now)
filled c =
    c.unlink.ensures
    ∙ ap (with_unlinked c.child_word-old_leaf.result) (c.lock.ensures ∙ ap (with_target c.stamp.result false) c.begin.ensures)
    ∙ ap₂ (λ (x : Stamp) (w : ℕ). change_of (kept x ∷ []) [] c.dropped.new.writes.items None c.args.change.now.body None (w ∷ []) (removed c.args.old.now)) c.stamp.ensures c.child_word-old_leaf.ensures

pub put_writes-requires : goal.put_writes-requires
put_writes-requires c = subst WordsFit (sym (filled (goal.at.put_writes-requires c).After-unlink)) (omega (arith, c.dropped.ensures.few))

pub returns-clause-planned : goal.returns-clause-planned
returns-clause-planned c = λ z u depth knows.
    let site = c.args.site.now in
    let old = c.args.old.now in
    let body = c.args.change.now.body in
    let writes = c.dropped.new.writes.items in
    let us = child_word (leaf old.number) ∷ [] in
    let is : c.put_writes.new.change ≡ change_of (kept (site_stamp site) ∷ []) (puts_of 0 writes) writes None body None us (removed old) =
    c.put_writes.ensures ∙ ap (with_puts_of 0) (filled (goal.at.returns-clause-planned c).After-unlink) in
    subst (IsPlanned z u) (sym is) (drop_planned z u old depth body writes site knows c.dropped.ensures.plan c.requires.taken c.requires.two)

pub returns-clause-effects : goal.returns-clause-effects
returns-clause-effects c = ap (λ (ch : Change). ch.effects) (c.put_writes.ensures ∙ ap (with_puts_of 0) (filled (goal.at.returns-clause-effects c).After-unlink))

pub returns-clause-locks : goal.returns-clause-locks
returns-clause-locks c = ap (λ (ch : Change). ch.targets.items) (c.put_writes.ensures ∙ ap (with_puts_of 0) (filled (goal.at.returns-clause-locks c).After-unlink))

pub returns-clause-puts : goal.returns-clause-puts
returns-clause-puts c = (
  c.dropped.new.writes.items,
  c.dropped.ensures.plan,
  ap (λ (ch : Change). ch.puts.items) (c.put_writes.ensures ∙ ap (with_puts_of 0) (filled (goal.at.returns-clause-puts c).After-unlink)),
)
