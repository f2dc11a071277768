use Rattle.std.proofs.Common.{refl}
use Rattle.art_attempt.proofs.CaseCells.{gone_standing, seen_both, smaller_ready, validated_locks, validated_so, validated_stood}
use Rattle.art_attempt.proofs.Commits.{leaf_may}
use Rattle.art_attempt.proofs.Chosen.{goes_remove}
use Rattle.art_attempt.proofs.attempts.Attempt.plan_shrinks.Goals as goal
use Rattle.art_attempt.specs.declared.attempts.Case.TheVariants.{Shrink}
use Rattle.art_attempt.specs.declared.attempts.Room.{Room}

pub plan_shrink-requires-clause-seen : goal.plan_shrink-requires-clause-seen
plan_shrink-requires-clause-seen c =
    let q = c.requires in
    let m = c.args.self.now in
    let t = c.args.position.now in
    let r = c.args.room.now in
    let known = q.4.known in
    (q.0, seen_both q.0 q.1 m.job t (Shrink c.args.layout) r q.2 q.4 known.0 refl)

pub plan_shrink-requires-clause-found : goal.plan_shrink-requires-clause-found
plan_shrink-requires-clause-found c =
    let q = c.requires in
    let known = q.4.known in
    known.0.found

pub returns-clause-fits : goal.returns-clause-fits
returns-clause-fits c z u v room h =
    let m = c.args.self.now in
    let t = c.args.position.now in
    let r = c.args.room.now in
    let so = validated_so z u m.job t (Shrink c.args.layout) r v h in
    let plan = c.plan_shrink.ensures in
    let known = h.known in
    let leaf = known.0 in
    let then : Room = record r { bodies = c.plan_shrink.new.bodies; change = c.plan_shrink.new.change } in
    let job = goes_remove m.job (Shrink c.args.layout) tt h.case in
    let ready = smaller_ready z v t r c.args.layout c.number_for-made.result so.has known.1.0 known.1.1 c.number_for-made.ensures in
    c.begin.ensures.fits z u v t (Shrink c.args.layout) (record { sizes = room.sizes; key = room.key }) (record { still = so.still; spent = so.spent; has = so.has })
    (leaf_may z u m.job t then v job (record { found = leaf.found; key = leaf.key }) (validated_stood z u m.job t (Shrink c.args.layout) r v h) (Shrink c.args.layout) tt plan.effects
    (plan.planned z v (seen_both z u m.job t (Shrink c.args.layout) r v h leaf refl) (gone_standing z u m.job t (Shrink c.args.layout) r v h leaf) ready) (known.1.0) plan.targets (validated_locks z u m.job t (Shrink c.args.layout) r v h then.change plan.locks))
