use Rattle.std.proofs.Common.{◌∙◌, refl, ap, sym, subst}
use Rattle.art_attempt.proofs.CaseCells.{leaf_ready, node_ready, seen_new, validated_locks, validated_so, validated_standing, validated_stood}
use Rattle.art_attempt.proofs.Chosen.{comes_insert}
use Rattle.art_attempt.proofs.attempts.Attempt.plan_new.Goals as goal
use Rattle.art_attempt.specs.Cases.{made_by}
use Rattle.art_attempt.specs.Rooms.{number_for}
use Rattle.art_attempt.specs.declared.attempts.Job.{Job}
use Rattle.art_attempt.specs.declared.attempts.Case.TheVariants.{NewLeaf}
use Rattle.art_attempt.specs.declared.attempts.Room.{Room}
use Rattle.art_step.specs.declared.actions.Effects.{Effects}
use Rattle.art_plan.specs.ChooseInsert.Plans.{HasNeeded}
use Rattle.art_plan.specs.declared.choose_insert.Needs.{Needs}

pub plan_insert-requires-clause-seen : goal.plan_insert-requires-clause-seen
plan_insert-requires-clause-seen c =
    let q = c.requires in
    (q.0, seen_new q.0 q.1 c.args.self.now.job c.args.position.now NewLeaf c.args.room.now q.2 q.4 refl)

pub returns-clause-fits : goal.returns-clause-fits
returns-clause-fits c z u v room h =
    let m = c.args.self.now in
    let t = c.args.position.now in
    let r = c.args.room.now in
    let so = validated_so z u m.job t NewLeaf r v h in
    let plan = c.plan_insert.ensures in
    let known = h.known in
    let at = sym c.leaf.ensures ∙ c.in-Some.is in
    let number = c.number_for-made.ensures ∙ ap (λ (n : Needs). number_for r.stock n.node) c.needed.ensures in
    let needed : HasNeeded z v t.verdict c.number_for-made.result = subst (HasNeeded z v t.verdict) (sym number) (node_ready z v r t so.has known.1) in
    let then : Room = record r {
      row = record r.row { number = c.in-Some.leaf };
      bodies = c.plan_insert.new.bodies;
      change = c.plan_insert.new.change;
    } in
    c.begin.ensures.fits z u v t NewLeaf (record { sizes = room.sizes; key = room.key }) (record { still = so.still; spent = so.spent; has = so.has }) (record {
      case = h.case;
      planned = plan.planned z v (seen_new z u m.job t NewLeaf r v h refl) (validated_standing z u m.job t NewLeaf r v h) (leaf_ready z v r t so.has known.1 room.key c.in-Some.leaf at) needed;
      leaf = λ l comes. at ∙ (sym (ap (λ (e : Effects). e.leaf) plan.effects) ∙ comes);
      deed = ap (λ (e : Effects). e.deed) plan.effects ∙ sym (ap (λ (j : Job). made_by j then.row then.gone) (comes_insert m.job NewLeaf refl h.case));
      goes = record { told = record { stood = validated_stood z u m.job t NewLeaf r v h; comes = known.0 }; effects = plan.effects };
      locks = validated_locks z u m.job t NewLeaf r v h then.change plan.locks;
    })
