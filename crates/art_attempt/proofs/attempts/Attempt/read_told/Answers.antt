use Rattle.std.proofs.Common.{◌∙◌, Some, inl, refl, sym, subst, arith}
use Rattle.art_attempt.proofs.Rereads.{IsNotedBy, reread_on, reread_shrinks, reread_so, reread_standing}
use Rattle.art_attempt.proofs.attempts.Attempt.read_told.Goals.{After-reread_node}
use Rattle.art_attempt.proofs.attempts.Attempt.read_told.Goals as goal
use Rattle.art_attempt.proofs.Stages.{asked_part, at_part}
use Rattle.art_attempt.specs.Attempts.{deed_at}
use Rattle.art_attempt.specs.declared.attempts.Part.TheVariants as parts
use Rattle.art_attempt.specs.Cases.{IsCaseOf}
use Rattle.art_attempt.specs.declared.attempts.Job.{Job}
use Rattle.art_attempt.specs.declared.attempts.Case.TheVariants.{DropLeaf, Shrink}

-- the word that was read is noted
is_noted : (c : After-reread_node) → IsNotedBy c.in-Placed.position c.args.room.now c.in-Reading.rereading c.found.result c.reread_node.new.rereading c.reread_node.new.self
is_noted c = record {
  steps = c.reread_node.ensures.steps;
  above = c.reread_node.ensures.above;
  stays = c.reread_node.ensures.stays;
  fits = λ z v w. c.reread_node.ensures.fits z v w c.in-Placed.position.stamp;
}

pub supply-requires-clause-within : goal.supply-requires-clause-within
supply-requires-clause-within c =
    let p = c.requires.told in
    let m = c.args.self.now in
    let t = c.in-Placed.position in
    let q = c.in-Reading.rereading in
    let r = c.args.room.now in
    let here = at_part p.0 p.1 m r p.2 t c.in-Placed.part (parts.Reading q) c.in-Placed.is c.in-Reading.is p.5 in
    let at = asked_part m r t c.in-Placed.part (parts.Reading q) c.in-Placed.is c.in-Reading.is (Some p.4) p.6 in
    let read_set = c.reread_node.new.self in
    let noted = is_noted (goal.at.supply-requires-clause-within c).After-reread_node in
    let so = reread_shrinks p.0 p.1 m.job t (deed_at m r) q c.reread_node.new.rereading r p.2 p.3 read_set c.found.result p.4 c.args.answer here.0 here.1 at p.7 c.found.ensures noted
    c.in-Shrinks.layout (sym c.loss.ensures ∙ c.in-Shrinks.is) in
    (p.0, p.1, p.3, record { sizes = p.5.room.sizes; key = p.5.room.key }, record { still = so.still; spent = so.spent; has = so.has })

pub returns-in-Shrinks-clause-fits : goal.returns-in-Shrinks-clause-fits
returns-in-Shrinks-clause-fits c z u v w asked fits asks_it row =
    let m = c.args.self.now in
    let t = c.in-Placed.position in
    let q = c.in-Reading.rereading in
    let r = c.args.room.now in
    let here = at_part z u m r v t c.in-Placed.part (parts.Reading q) c.in-Placed.is c.in-Reading.is fits in
    let h = here.0 in
    let is = asked_part m r t c.in-Placed.part (parts.Reading q) c.in-Placed.is c.in-Reading.is (Some asked) asks_it in
    let read_set = c.reread_node.new.self in
    let noted = is_noted (goal.at.returns-in-Shrinks-clause-fits c).After-reread_node in
    let shrinks = sym c.loss.ensures ∙ c.in-Shrinks.is in
    let so = reread_shrinks z u m.job t (deed_at m r) q c.reread_node.new.rereading r v w read_set c.found.result asked c.args.answer h here.1 is row c.found.ensures noted c.in-Shrinks.layout shrinks in
    let standing = reread_standing z u m.job t (deed_at m r) q c.reread_node.new.rereading r v w read_set c.found.result asked c.args.answer h here.1 is row c.found.ensures noted in
    c.supply.ensures.fits z u w (record { sizes = fits.room.sizes; key = fits.room.key }) (record { still = so.still; spent = so.spent; has = so.has }) (subst (λ (j : Job). IsCaseOf j (Shrink c.in-Shrinks.layout)) (sym h.job) tt)
    standing (record { found = h.leaf.found; key = h.leaf.key }, shrinks)

pub returns-in-Leaf-clause-fits : goal.returns-in-Leaf-clause-fits
returns-in-Leaf-clause-fits c z u v w asked fits asks_it row =
    let m = c.args.self.now in
    let t = c.in-Placed.position in
    let q = c.in-Reading.rereading in
    let r = c.args.room.now in
    let here = at_part z u m r v t c.in-Placed.part (parts.Reading q) c.in-Placed.is c.in-Reading.is fits in
    let h = here.0 in
    let is = asked_part m r t c.in-Placed.part (parts.Reading q) c.in-Placed.is c.in-Reading.is (Some asked) asks_it in
    let read_set = c.reread_node.new.self in
    let noted = is_noted (goal.at.returns-in-Leaf-clause-fits c).After-reread_node in
    let so = reread_so z u m.job t (deed_at m r) q c.reread_node.new.rereading r v w read_set c.found.result asked c.args.answer h here.1 is row c.found.ensures noted in
    let standing = reread_standing z u m.job t (deed_at m r) q c.reread_node.new.rereading r v w read_set c.found.result asked c.args.answer h here.1 is row c.found.ensures noted in
    c.validate.ensures.fits z u w (record { sizes = fits.room.sizes; key = fits.room.key }) (record { still = so.still; spent = λ limited. (let spent = so.spent limited in omega (arith, spent)); has = so.has }) (subst (λ (j : Job). IsCaseOf j DropLeaf) (sym h.job) tt)
    standing (record { found = h.leaf.found; key = h.leaf.key }, inl (sym c.loss.ensures ∙ c.in-Leaf.is)) tt

pub returns-in-Merges-clause-fits : goal.returns-in-Merges-clause-fits
returns-in-Merges-clause-fits c z u v w asked fits asks_it row =
    let m = c.args.self.now in
    let t = c.in-Placed.position in
    let q = c.in-Reading.rereading in
    let r = c.args.room.now in
    let here = at_part z u m r v t c.in-Placed.part (parts.Reading q) c.in-Placed.is c.in-Reading.is fits in
    let h = here.0 in
    let is = asked_part m r t c.in-Placed.part (parts.Reading q) c.in-Placed.is c.in-Reading.is (Some asked) asks_it in
    let read_set = c.reread_node.new.self in
    let noted = is_noted (goal.at.returns-in-Merges-clause-fits c).After-reread_node in
    let on = reread_on z u m.job t (deed_at m r) q c.reread_node.new.rereading r v w read_set c.found.result asked c.args.answer h here.1 is row c.found.ensures noted (sym c.loss.ensures ∙ c.in-Merges.is) in
    c.read_on.ensures.fits z u w (record { sizes = fits.room.sizes; key = fits.room.key }) (record {
      early = on.early;
      base = on.base;
      later = on.later;
      spent = on.spent;
      has = on.has;
      job = on.job;
      leaf = record { found = on.leaf.found; key = on.leaf.key };
      reads = on.reads;
      merges = on.merges;
      fits = on.fits;
    })

pub read_on-requires : goal.read_on-requires
read_on-requires c =
    let p = c.requires.told in
    let t = c.in-Placed.position in
    let q = c.in-Reading.rereading in
    let h = (at_part p.0 p.1 c.args.self.now c.args.room.now p.2 t c.in-Placed.part (parts.Reading q) c.in-Placed.is c.in-Reading.is p.5).0 in
    record { stage = (t, c.reread_node.new.rereading, refl, record { found = h.leaf.found; key = h.leaf.key }) }

pub validate-requires : goal.validate-requires
validate-requires c = record { at = refl }

pub supply-requires-clause-at : goal.supply-requires-clause-at
supply-requires-clause-at c = refl
