use Rattle.std.proofs.Common.{refl}
use Rattle.art_attempt.proofs.CaseCells.{below_merges, below_seen, below_still, gone_standing, seen_both, seen_here, validated_locks, validated_so, validated_stood}
use Rattle.art_attempt.proofs.Chosen.{goes_remove}
use Rattle.art_attempt.proofs.Commits.{leaf_may}
use Rattle.art_attempt.proofs.attempts.Attempt.plan_lowers.Goals as goal
use Rattle.art_attempt.specs.declared.attempts.Case.TheVariants.{MergeNode}
use Rattle.art_attempt.specs.declared.attempts.Room.{Room}

pub plan_merge_node-requires-clause-found : goal.plan_merge_node-requires-clause-found
plan_merge_node-requires-clause-found c =
    let q = c.requires in
    let known = q.4.known in
    known.0.found

pub plan_merge_node-requires-clause-other : goal.plan_merge_node-requires-clause-other
plan_merge_node-requires-clause-other c =
    let q = c.requires in
    let m = c.args.self.now in
    let t = c.args.position.now in
    let r = c.args.room.now in
    let known = q.4.known in
    known.1.1 r.read_set refl (seen_here q.0 q.1 m.job t (MergeNode c.args.child) r q.2 q.4 known.0)

pub plan_merge_node-requires-clause-seen : goal.plan_merge_node-requires-clause-seen
plan_merge_node-requires-clause-seen c =
    let q = c.requires in
    let m = c.args.self.now in
    let t = c.args.position.now in
    let r = c.args.room.now in
    let known = q.4.known in
    (q.0, seen_both q.0 q.1 m.job t (MergeNode c.args.child) r q.2 q.4 known.0 refl, below_seen q.0 q.1 m.job t (MergeNode c.args.child) r q.2 q.4 c.args.child refl)

pub unreachable-requires : goal.unreachable-requires
unreachable-requires c =
    let q = c.requires in
    below_merges q.0 q.1 c.args.self.now.job c.args.position.now (MergeNode c.args.child) c.args.room.now q.2 q.4 c.args.child refl (c.plan_merge_node.ensures.refused c.if-not-plan_merge_node.true)

pub returns-clause-fits : goal.returns-clause-fits
returns-clause-fits c z u v room h =
    let m = c.args.self.now in
    let t = c.args.position.now in
    let r = c.args.room.now in
    let l = c.args.child in
    let so = validated_so z u m.job t (MergeNode c.args.child) r v h in
    let made = c.if-not-plan_merge_node.false in
    let known = h.known in
    let leaf = known.0 in
    let plan = c.plan_merge_node.ensures in
    let job = goes_remove m.job (MergeNode c.args.child) tt h.case in
    let then : Room = record r {
      bodies = c.plan_merge_node.new.bodies;
      lower_body = c.plan_merge_node.new.lower_body;
      change = c.plan_merge_node.new.change;
    } in
    c.begin.ensures.fits z u v t (MergeNode c.args.child) (record { sizes = room.sizes; key = room.key }) (record { still = so.still; spent = so.spent; has = so.has })
    (leaf_may z u m.job t then v job (record { found = leaf.found; key = leaf.key }) (validated_stood z u m.job t (MergeNode c.args.child) r v h) (MergeNode l) tt (plan.effects made)
    (plan.planned made z v (seen_both z u m.job t (MergeNode c.args.child) r v h leaf refl) (gone_standing z u m.job t (MergeNode c.args.child) r v h leaf) (below_still z u m.job t (MergeNode c.args.child) r v h l refl))
    (known.1.1 r.read_set refl (seen_here z u m.job t (MergeNode c.args.child) r v h leaf)) (plan.targets made) (validated_locks z u m.job t (MergeNode c.args.child) r v h then.change (plan.locks made)))
