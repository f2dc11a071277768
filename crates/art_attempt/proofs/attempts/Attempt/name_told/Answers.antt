use Rattle.std.proofs.Common.{◌∙◌, Some, ap, sym}
use Rattle.art_attempt.proofs.Asked.{naming_asks_look}
use Rattle.art_attempt.proofs.Names.{name_changed_by, naming_on}
use Rattle.art_attempt.proofs.Stages.{asked_part, at_part}
use Rattle.art_attempt.proofs.Steps.{cell_later}
use Rattle.art_attempt.specs.Attempts.{deed_at}
use Rattle.art_attempt.specs.declared.attempts.Part.TheVariants as parts
use Rattle.art_attempt.specs.declared.naming.Named.{Named}
use Rattle.art_attempt.proofs.attempts.Attempt.name_told.Goals as goal

pub returns-in-None-clause-fits : goal.returns-in-None-clause-fits
returns-in-None-clause-fits c z u v w asked fits asks_it row =
    let m = c.args.self.now in
    let r = c.args.room.now in
    let t = c.in-Placed.position in
    let b = c.in-Naming.byte in
    let n = c.in-Naming.node in
    let s = c.in-Naming.naming in
    let here = parts.Naming b n s in
    let h = (at_part z u m r v t c.in-Placed.part here c.in-Placed.is c.in-Naming.is fits).0 in
    let is = asked_part m r t c.in-Placed.part here c.in-Placed.is c.in-Naming.is (Some asked) asks_it in
    let d = deed_at m r in
    let one = cell_later z d asked c.args.answer v w (naming_asks_look t s asked is) row in
    let then = c.told.ensures.fits z r.row.key.items t n r.read_set d h.early v w asked h.fits is row in
    record {
      room = record { sizes = fits.room.sizes; key = fits.room.key };
      stage = (naming_on z u m.job t b n s r v h w c.told.new.self c.told.new.lower one.steps then, sym c.ended.ensures.at ∙ c.in-None.is);
    }

pub returns-in-Some-clause-fits : goal.returns-in-Some-clause-fits
returns-in-Some-clause-fits c z u v w asked fits asks_it row =
    let m = c.args.self.now in
    let r = c.args.room.now in
    let t = c.in-Placed.position in
    let b = c.in-Naming.byte in
    let n = c.in-Naming.node in
    let s = c.in-Naming.naming in
    let here = parts.Naming b n s in
    let h = (at_part z u m r v t c.in-Placed.part here c.in-Placed.is c.in-Naming.is fits).0 in
    let is = asked_part m r t c.in-Placed.part here c.in-Placed.is c.in-Naming.is (Some asked) asks_it in
    let d = deed_at m r in
    let one = cell_later z d asked c.args.answer v w (naming_asks_look t s asked is) row in
    let then = c.told.ensures.fits z r.row.key.items t n r.read_set d h.early v w asked h.fits is row in
    c.named.ensures.fits z u w c.told.new.self (record { sizes = fits.room.sizes; key = fits.room.key })
    (naming_on z u m.job t b n s r v h w c.told.new.self c.told.new.lower one.steps then) (sym c.ended.ensures.at ∙ c.in-Some.is)

pub returns-in-Some-clause-anew : goal.returns-in-Some-clause-anew
returns-in-Some-clause-anew c anew =
    let q = c.requires.told in
    let m = c.args.self.now in
    let r = c.args.room.now in
    let t = c.in-Placed.position in
    let n = c.in-Naming.node in
    let s = c.in-Naming.naming in
    let here = parts.Naming c.in-Naming.byte n s in
    let h = (at_part q.0 q.1 m r q.2 t c.in-Placed.part here c.in-Placed.is c.in-Naming.is q.5).0 in
    let is = asked_part m r t c.in-Placed.part here c.in-Placed.is c.in-Naming.is (Some q.4) q.6 in
    let k = r.row.key.items in
    let d = deed_at m r in
    let after = c.told.ensures.fits q.0 k t n r.read_set d h.early q.2 q.3 q.4 h.fits is q.7 in
    let ended = sym c.ended.ensures.at ∙ (c.in-Some.is ∙ ap (λ (e : Named). Some e) (c.named.ensures.anew anew)) in
    name_changed_by q.0 k t n s c.told.new.self r.read_set r.lower c.told.new.lower d q.4 c.args.answer h.early q.2 q.3 h.fits after is q.7 ended
