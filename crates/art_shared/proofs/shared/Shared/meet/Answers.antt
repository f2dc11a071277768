-- The one learns what the other had seen, and the other what the one has.
use Rattle.std.proofs.Common.{List, subst}
use Rattle.art_step.specs.declared.views.Event.{Event}
use Rattle.art_step.specs.Histories.{StartsWith}
use Rattle.art_shared.specs.Tables.{view_of_pass}
use Rattle.art_shared.proofs.Marking.{meets}
use Rattle.art_shared.proofs.shared.Shared.meet.Goals as goal

pub returns-clause-meets : goal.returns-clause-meets
returns-clause-meets c =
    let u = view_of_pass c.learn.new.pass in
    let w = view_of_pass c.learn-2.new.pass in
    meets (view_of_pass c.args.one.now) u (view_of_pass c.mark-ours.new.pass) (view_of_pass c.args.other.now) (view_of_pass c.mark-theirs.new.pass) w
    c.mark-theirs.ensures.row c.learn.ensures.row (subst (λ (l : List Event). StartsWith u.seen l) c.mark-theirs.ensures.history c.learn.ensures.learnt)
    c.mark-ours.ensures.row c.learn-2.ensures.row (subst (λ (l : List Event). StartsWith w.seen l) c.mark-ours.ensures.history c.learn-2.ensures.learnt)
