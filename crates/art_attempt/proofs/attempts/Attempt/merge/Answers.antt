use Rattle.std.proofs.Common.{subst, sym, arith}
use Rattle.art_attempt.proofs.Finds.{within_more}
use Rattle.art_cell.specs.declared.cells.Link.{Link}
use Rattle.art_plan.specs.ChooseRemove.Others.{NamesChild}
use Rattle.art_attempt.proofs.CaseCells.{stands_begins}
use Rattle.art_attempt.proofs.Chosen.{merges_node, none_left, one_left}
use Rattle.art_attempt.proofs.Stages.{goes_on_at}
use Rattle.art_attempt.proofs.Tries.{later_first}
use Rattle.art_attempt.specs.declared.attempts.Part.TheVariants as parts
use Rattle.art_attempt.proofs.attempts.Attempt.merge.Goals as goal
use Rattle.art_attempt.specs.Cases.{IsCaseOf, LeavesOther}
use Rattle.art_attempt.specs.declared.attempts.Job.{Job}
use Rattle.art_attempt.specs.declared.attempts.Case.TheVariants.{MergeLeaf, Torn}

pub returns-in_default-clause-fits : goal.returns-in_default-clause-fits
returns-in_default-clause-fits c z u v room so job standing known merges =
    let t = c.args.position.now in
    let r = c.args.room.now in
    c.validate.ensures.fits z u v room (within_more z u 21700 21702 r v (omega arith) so) (subst (λ (j : Job). IsCaseOf j Torn) (sym job) tt) standing (c.requires.leaf, (known, none_left z t r.read_set r.gone merges c.other_child.result c.in_default.is (c.other_child.ensures.other z))) tt

pub returns-in-Leaf-clause-fits : goal.returns-in-Leaf-clause-fits
returns-in-Leaf-clause-fits c z u v room so job standing known merges =
    let t = c.args.position.now in
    let r = c.args.room.now in
    let leaves = one_left z t r.read_set r.gone merges c.other_child.result c.in-Some.byte c.in-Some.link c.in-Some.is (c.other_child.ensures.other z) in
    c.validate-in-Leaf.ensures.fits z u v room (within_more z u 21700 21702 r v (omega arith) so) (subst (λ (j : Job). IsCaseOf j (MergeLeaf c.in-Leaf.other)) (sym job) tt) standing (c.requires.leaf, (known, (c.in-Some.byte, subst (λ (d : Link). LeavesOther z t r.read_set r.gone c.in-Some.byte d) c.in-Leaf.is leaves))) tt

pub returns-in-Node-clause-fits : goal.returns-in-Node-clause-fits
returns-in-Node-clause-fits c z u v room so job standing known merges =
    let m = c.args.self.now in
    let t = c.args.position.now in
    let r = c.args.room.now in
    let n = c.in-Node.node in
    let byte = c.in-Some.byte in
    let leaves = one_left z t r.read_set r.gone merges c.other_child.result byte c.in-Some.link c.in-Some.is (c.other_child.ensures.other z) in
    let at = merges_node t r.read_set merges in
    goes_on_at z u m c.go_on.new.self t (parts.Naming byte n c.new-naming.result) r v c.go_on.ensures room (
      record {
        early = v;
        base = so.still;
        later = later_first v;
        spent = so.spent;
        has = so.has;
        job = job;
        leaf = c.requires.leaf;
        leaves = subst (λ (d : Link). LeavesOther z t r.read_set r.gone byte d) c.in-Node.is leaves;
        fits = c.new-naming.ensures.fits z r.row.key.items t r.read_set r.lower v
            (record { stands = stands_begins z u 21700 t r v so standing; whole = known; here = at.0; is = at.1; named = subst (λ (d : Link). NamesChild t r.read_set d) c.in-Node.is c.in-Some.ensures.named });
      },
      c.new-naming.ensures.going,
    )
