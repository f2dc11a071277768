use Rattle.std.proofs.Common.{◌∙◌, ap, inl, sym, subst, arith}
use Rattle.art_attempt.proofs.Tries.{later_first}
use Rattle.art_attempt.proofs.Finds.{within_more}
use Rattle.art_attempt.proofs.CaseCells.{stands_begins}
use Rattle.art_attempt.proofs.attempts.Attempt.choose.Goals as goal
use Rattle.art_attempt.specs.Cases.{IsCaseOf}
use Rattle.art_attempt.specs.Parts.{PartKnows}
use Rattle.art_attempt.specs.declared.attempts.Attempt.{Attempt}
use Rattle.art_attempt.specs.declared.attempts.Job.{Job}
use Rattle.art_attempt.specs.declared.attempts.Case.TheVariants.{DropLeaf, Shrink}
use Rattle.art_attempt.proofs.Validates.{here_begins}

pub read_on-requires : goal.read_on-requires
read_on-requires c = record { stage = (c.args.position.now, c.new-rereading.result, ap (λ (a : Attempt). a.stage) c.go_on.ensures, c.requires.leaf.5) }

pub returns-in-Merges-clause-fits : goal.returns-in-Merges-clause-fits
returns-in-Merges-clause-fits c z u v room so job leaf standing =
    let m = c.args.self.now in
    let t = c.args.position.now in
    let r = c.args.room.now in
    let p = stands_begins z u 1201 t r v so standing in
    c.read_on.ensures.fits z u v room (subst (λ (a : Attempt). PartKnows z u a.stage a.job r v) (sym c.go_on.ensures) (record {
      early = v;
      base = so.still;
      later = later_first v;
      spent = λ limited. (let spent = so.spent limited in omega (arith, spent));
      has = so.has;
      job = job;
      leaf = leaf;
      reads = p;
      merges = sym c.loss.ensures ∙ c.in-Merges.is;
      fits = here_begins z r.row.key.items t r.read_set v v c.new-rereading.result c.node.result.now p c.node.ensures (c.new-rereading.ensures.fits z v t.stamp);
    }))

pub supply-requires-clause-within : goal.supply-requires-clause-within
supply-requires-clause-within c =
    let q = c.requires.leaf in
    (q.0, q.1, q.2, q.3, within_more q.0 q.1 1201 1203 c.args.room.now q.2 (omega arith) q.4)

pub returns-in-Shrinks-clause-fits : goal.returns-in-Shrinks-clause-fits
returns-in-Shrinks-clause-fits c z u v room so job leaf standing =
    let r = c.args.room.now in
    c.supply.ensures.fits z u v room (within_more z u 1201 1203 r v (omega arith) so) (subst (λ (j : Job). IsCaseOf j (Shrink c.in-Shrinks.layout)) (sym job) tt) standing (leaf, sym c.loss.ensures ∙ c.in-Shrinks.is)

pub returns-in-Leaf-clause-fits : goal.returns-in-Leaf-clause-fits
returns-in-Leaf-clause-fits c z u v room so job leaf standing =
    let r = c.args.room.now in
    c.validate.ensures.fits z u v room (within_more z u 1201 21702 r v (omega arith) so) (subst (λ (j : Job). IsCaseOf j DropLeaf) (sym job) tt) standing (leaf, inl (sym c.loss.ensures ∙ c.in-Leaf.is)) tt
