use Rattle.std.proofs.Common.{◌≡◌, false, [], ◌∷◌, Some, None, ap, arith, subst, sym, ◌∙◌}
use Rattle.art_plan.specs.Insert.Puts.{inserted}
use Rattle.art_plan.specs.Puts.{IsSitePlan, change_of, puts_of}
use Rattle.art_plan.proofs.MadeChanges.{WordsFit, free_meaning, with_puts_of, with_target}
use Rattle.art_plan.proofs.PlannedAdds.{add_planned}
use Rattle.art_plan.specs.Changes.{IsPlanned}
use Rattle.art_plan.specs.Seen.{kept, site_stamp}
use Rattle.art_plan.specs.declared.changes.Change.{Change}
use Rattle.art_step.specs.declared.views.Stamp.{Stamp}
use Rattle.art_plan.proofs.insert.add.Goals as goal
use Rattle.art_plan.proofs.insert.add.Goals.{After-lock}

-- all but the words are filled in
filled : (c : After-lock) → c.lock.new.change ≡ change_of (kept (site_stamp c.args.site.now) ∷ []) [] c.added.new.writes.items None c.args.change.now.body (Some c.args.new.now.number) [] (inserted c.args.new.now)
filled c =
    c.lock.ensures
    ∙ ap (with_target c.stamp.result false) c.begin.ensures
    ∙ ap (λ (x : Stamp). change_of (kept x ∷ []) [] c.added.new.writes.items None c.args.change.now.body (Some c.args.new.now.number) [] (inserted c.args.new.now)) c.stamp.ensures

pub put_writes-requires : goal.put_writes-requires
put_writes-requires c = subst WordsFit (sym (filled (goal.at.put_writes-requires c).After-lock)) (omega (arith, c.added.ensures.few))

pub returns-clause-planned : goal.returns-clause-planned
returns-clause-planned c = λ z u depth knows.
    let site = c.args.site.now in
    let new = c.args.new.now in
    let body = c.args.change.now.body in
    let writes = c.added.new.writes.items in
    let is : c.put_writes.new.change ≡ change_of (kept (site_stamp site) ∷ []) (puts_of 0 writes) writes None body (Some new.number) [] (inserted new) =
    c.put_writes.ensures ∙ ap (with_puts_of 0) (filled (goal.at.returns-clause-planned c).After-lock) in
    subst (IsPlanned z u) (sym is) (add_planned z u site new depth body writes knows (subst (λ w. IsSitePlan site w writes) c.child_word.ensures c.added.ensures.plan) (free_meaning site c.requires))

pub returns-clause-effects : goal.returns-clause-effects
returns-clause-effects c = ap (λ (ch : Change). ch.effects) (c.put_writes.ensures ∙ ap (with_puts_of 0) (filled (goal.at.returns-clause-effects c).After-lock))

pub returns-clause-locks : goal.returns-clause-locks
returns-clause-locks c = ap (λ (ch : Change). ch.targets.items) (c.put_writes.ensures ∙ ap (with_puts_of 0) (filled (goal.at.returns-clause-locks c).After-lock))

pub returns-clause-puts : goal.returns-clause-puts
returns-clause-puts c = (
  c.added.new.writes.items,
  subst (λ w. IsSitePlan c.args.site.now w c.added.new.writes.items) c.child_word.ensures c.added.ensures.plan,
  ap (λ (ch : Change). ch.puts.items) (c.put_writes.ensures ∙ ap (with_puts_of 0) (filled (goal.at.returns-clause-puts c).After-lock)),
)
