use Rattle.std.proofs.Common.{◌∙◌, refl, sym, subst, arith}
use Rattle.art_attempt.proofs.CaseCells.{reading_so}
use Rattle.art_attempt.proofs.RereadsGoOn.{reads_more}
use Rattle.art_attempt.proofs.Stages.{knows_at, stays_at}
use Rattle.art_attempt.specs.Attempts.{StandsAt}
use Rattle.art_attempt.specs.Cases.{HasLeaf}
use Rattle.art_attempt.specs.declared.attempts.Part.TheVariants as parts
use Rattle.art_attempt.specs.declared.attempts.Stage.{Stage}
use Rattle.art_attempt.specs.declared.attempts.Stage.TheVariants as stages
use Rattle.art_attempt.specs.declared.attempts.Room.{Room}
use Rattle.art_attempt.proofs.attempts.Attempt.read_on.Goals as goal
use Rattle.art_find.specs.ReadSets.{node_of}

abbrev LeafAt : Room → Stage → Type 0
LeafAt r (stages.Placed t p) = HasLeaf t r
LeafAt r s = ⊥

pub merge-requires-clause-at : goal.merge-requires-clause-at
merge-requires-clause-at c = subst (StandsAt c.in-Placed.position) (sym c.in-Placed.is) refl

pub merge-requires-clause-leaf : goal.merge-requires-clause-leaf
merge-requires-clause-leaf c = let q = c.requires.stage in subst (LeafAt c.args.room.now) (sym q.2 ∙ c.in-Placed.is) q.3

pub returns-in-Some-clause-fits : goal.returns-in-Some-clause-fits
returns-in-Some-clause-fits c z u v room h =
    let m = c.args.self.now in
    let r = c.args.room.now in
    let t = c.in-Placed.position in
    let p = c.in-Placed.part in
    let q = c.in-Reading.rereading in
    stays_at z u m r v t p (parts.Reading q) c.in-Placed.is c.in-Reading.is room
    (knows_at z u m r v t p (parts.Reading q) c.in-Placed.is c.in-Reading.is h, reads_more t.stamp q c.in-Some.field-0 (sym c.next.ensures.asks ∙ c.in-Some.is))

pub returns-in-None-clause-fits : goal.returns-in-None-clause-fits
returns-in-None-clause-fits c z u v room so =
    let m = c.args.self.now in
    let r = c.args.room.now in
    let h = knows_at z u m r v c.in-Placed.position c.in-Placed.part (parts.Reading c.in-Reading.rereading) c.in-Placed.is c.in-Reading.is so in
    c.merge.ensures.fits z u v room (reading_so z u h.early h.base r v h.later h.has h.reads.reads 21700 (λ limited. let spent = h.spent limited in omega (arith, spent))) h.job h.reads.standing
    (c.next.ensures.all c.in-None.is z v (node_of r.read_set) h.fits) h.merges
