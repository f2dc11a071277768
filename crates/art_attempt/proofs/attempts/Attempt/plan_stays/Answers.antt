use Rattle.art_attempt.proofs.CaseCells.{gone_standing, seen_here, validated_locks, validated_so, validated_stood}
use Rattle.art_attempt.proofs.Commits.{leaf_may}
use Rattle.art_attempt.proofs.Chosen.{goes_remove}
use Rattle.art_attempt.proofs.attempts.Attempt.plan_stays.Goals as goal
use Rattle.art_attempt.specs.declared.attempts.Case.TheVariants.{DropLeaf}
use Rattle.art_attempt.specs.declared.attempts.Room.{Room}

pub plan_drop-requires-clause-seen : goal.plan_drop-requires-clause-seen
plan_drop-requires-clause-seen c =
    let q = c.requires in
    let m = c.args.self.now in
    let t = c.args.position.now in
    let r = c.args.room.now in
    let known = q.4.known in
    (q.0, seen_here q.0 q.1 m.job t DropLeaf r q.2 q.4 known.0)

pub plan_drop-requires-clause-found : goal.plan_drop-requires-clause-found
plan_drop-requires-clause-found c =
    let q = c.requires in
    let known = q.4.known in
    known.0.found

pub returns-clause-fits : goal.returns-clause-fits
returns-clause-fits c z u v room h =
    let m = c.args.self.now in
    let t = c.args.position.now in
    let r = c.args.room.now in
    let so = validated_so z u m.job t DropLeaf r v h in
    let plan = c.plan_drop.ensures in
    let known = h.known in
    let leaf = known.0 in
    let then : Room = record r { bodies = c.plan_drop.new.bodies; change = c.plan_drop.new.change } in
    let job = goes_remove m.job DropLeaf tt h.case in
    c.begin.ensures.fits z u v t DropLeaf (record { sizes = room.sizes; key = room.key }) (record { still = so.still; spent = so.spent; has = so.has })
    (leaf_may z u m.job t then v job (record { found = leaf.found; key = leaf.key }) (validated_stood z u m.job t DropLeaf r v h) DropLeaf tt plan.effects
    (plan.planned z v (seen_here z u m.job t DropLeaf r v h leaf) (gone_standing z u m.job t DropLeaf r v h leaf)) (known.1) plan.targets (validated_locks z u m.job t DropLeaf r v h then.change plan.locks))
