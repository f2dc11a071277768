use Rattle.std.proofs.Common.{refl}
use Rattle.art_attempt.proofs.CaseCells.{gone_standing, seen_both, seen_here, validated_locks, validated_so, validated_stood}
use Rattle.art_attempt.proofs.Commits.{leaf_may}
use Rattle.art_attempt.proofs.Chosen.{goes_remove}
use Rattle.art_attempt.proofs.attempts.Attempt.plan_merges.Goals as goal
use Rattle.art_attempt.specs.declared.attempts.Case.TheVariants.{MergeLeaf}
use Rattle.art_attempt.specs.declared.attempts.Room.{Room}

pub plan_merge_leaf-requires-clause-seen : goal.plan_merge_leaf-requires-clause-seen
plan_merge_leaf-requires-clause-seen c =
    let q = c.requires in
    let m = c.args.self.now in
    let t = c.args.position.now in
    let r = c.args.room.now in
    let known = q.4.known in
    (q.0, seen_both q.0 q.1 m.job t (MergeLeaf c.args.other) r q.2 q.4 known.0 refl)

pub plan_merge_leaf-requires-clause-found : goal.plan_merge_leaf-requires-clause-found
plan_merge_leaf-requires-clause-found c =
    let q = c.requires in
    let known = q.4.known in
    known.0.found

pub plan_merge_leaf-requires-clause-other : goal.plan_merge_leaf-requires-clause-other
plan_merge_leaf-requires-clause-other c =
    let q = c.requires in
    let m = c.args.self.now in
    let t = c.args.position.now in
    let r = c.args.room.now in
    let known = q.4.known in
    (known.1.1.0, known.1.1.1 r.read_set refl (seen_here q.0 q.1 m.job t (MergeLeaf c.args.other) r q.2 q.4 known.0))

pub returns-clause-fits : goal.returns-clause-fits
returns-clause-fits c z u v room h =
    let m = c.args.self.now in
    let t = c.args.position.now in
    let r = c.args.room.now in
    let so = validated_so z u m.job t (MergeLeaf c.args.other) r v h in
    let plan = c.plan_merge_leaf.ensures in
    let known = h.known in
    let leaf = known.0 in
    let then : Room = record r { bodies = c.plan_merge_leaf.new.bodies; change = c.plan_merge_leaf.new.change } in
    let job = goes_remove m.job (MergeLeaf c.args.other) tt h.case in
    c.begin.ensures.fits z u v t (MergeLeaf c.args.other) (record { sizes = room.sizes; key = room.key }) (record { still = so.still; spent = so.spent; has = so.has })
    (leaf_may z u m.job t then v job (record { found = leaf.found; key = leaf.key }) (validated_stood z u m.job t (MergeLeaf c.args.other) r v h) (MergeLeaf c.args.other) tt plan.effects
    (plan.planned z v (seen_both z u m.job t (MergeLeaf c.args.other) r v h leaf refl) (gone_standing z u m.job t (MergeLeaf c.args.other) r v h leaf)) (known.1.1.0, known.1.1.1 r.read_set refl (seen_here z u m.job t (MergeLeaf c.args.other) r v h leaf)) plan.targets (validated_locks z u m.job t (MergeLeaf c.args.other) r v h then.change plan.locks))
