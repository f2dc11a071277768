use Rattle.std.proofs.Common.{◌∙◌, Some, ap}
use Rattle.art_attempt.proofs.Given.{look_row, plain_row, supply_plain}
use Rattle.art_attempt.proofs.Asked.{naming_asks_look, reads_look, supply_asks_supply, validate_asks_look}
use Rattle.art_attempt.proofs.Stages.{asked_part}
use Rattle.art_attempt.proofs.attempts.Attempt.part_told.Goals as goal
use Rattle.art_attempt.specs.Cases.{cells_of}
use Rattle.art_attempt.specs.Attempts.{deed_at}
use Rattle.art_attempt.specs.declared.attempts.Part.{Part as PartOf}
use Rattle.art_attempt.specs.declared.attempts.Part.TheVariants as parts
use Rattle.art_attempt.specs.declared.attempts.Stage.TheVariants as stages

pub supply_told-requires-clause-stage : goal.supply_told-requires-clause-stage
supply_told-requires-clause-stage c =
    let t = c.in-Placed.position in
    (t, c.in-Reserve.case, c.in-Reserve.reserve, c.in-Placed.is ∙ ap (λ (p : PartOf). stages.Placed t p) c.in-Reserve.is)

pub supply_told-requires-clause-told : goal.supply_told-requires-clause-told
supply_told-requires-clause-told c =
    let m = c.args.self.now in
    let r = c.args.room.now in
    let t = c.in-Placed.position in
    let q = c.requires.told in
    let at = asked_part m r t c.in-Placed.part (parts.Reserve c.in-Reserve.case c.in-Reserve.reserve) c.in-Placed.is c.in-Reserve.is (Some q.4) q.6 in
    (q.0, q.1, q.2, q.3, q.4, q.5, q.6, plain_row q.0 (deed_at m r) r.change q.4 c.args.answer q.2 q.3 (supply_plain q.4 (supply_asks_supply r.row.key.items r.row.value r.stock c.in-Reserve.reserve q.4 at)) q.7)

pub returns-in-Reserve-clause-fits : goal.returns-in-Reserve-clause-fits
returns-in-Reserve-clause-fits c z u v w asked fits is row =
    let m = c.args.self.now in
    let r = c.args.room.now in
    let t = c.in-Placed.position in
    let at = asked_part m r t c.in-Placed.part (parts.Reserve c.in-Reserve.case c.in-Reserve.reserve) c.in-Placed.is c.in-Reserve.is (Some asked) is in
    c.supply_told.ensures.fits z u v w asked fits is (plain_row z (deed_at m r) r.change asked c.args.answer v w (supply_plain asked (supply_asks_supply r.row.key.items r.row.value r.stock c.in-Reserve.reserve asked at)) row)

pub read_told-requires-clause-stage : goal.read_told-requires-clause-stage
read_told-requires-clause-stage c =
    let t = c.in-Placed.position in
    (t, c.in-Reading.field-0, c.in-Placed.is ∙ ap (λ (p : PartOf). stages.Placed t p) c.in-Reading.is)

pub read_told-requires-clause-told : goal.read_told-requires-clause-told
read_told-requires-clause-told c =
    let m = c.args.self.now in
    let r = c.args.room.now in
    let t = c.in-Placed.position in
    let q = c.requires.told in
    let at = asked_part m r t c.in-Placed.part (parts.Reading c.in-Reading.field-0) c.in-Placed.is c.in-Reading.is (Some q.4) q.6 in
    (q.0, q.1, q.2, q.3, q.4, q.5, q.6, look_row q.0 (deed_at m r) r.change q.4 c.args.answer q.2 q.3 (reads_look t.stamp c.in-Reading.field-0 q.4 at) q.7)

pub returns-in-Reading-clause-fits : goal.returns-in-Reading-clause-fits
returns-in-Reading-clause-fits c z u v w asked fits is row =
    let m = c.args.self.now in
    let r = c.args.room.now in
    let t = c.in-Placed.position in
    let at = asked_part m r t c.in-Placed.part (parts.Reading c.in-Reading.field-0) c.in-Placed.is c.in-Reading.is (Some asked) is in
    c.read_told.ensures.fits z u v w asked fits is (look_row z (deed_at m r) r.change asked c.args.answer v w (reads_look t.stamp c.in-Reading.field-0 asked at) row)

pub name_told-requires-clause-stage : goal.name_told-requires-clause-stage
name_told-requires-clause-stage c =
    let t = c.in-Placed.position in
    (t, c.in-Naming.byte, c.in-Naming.node, c.in-Naming.naming, c.in-Placed.is ∙ ap (λ (p : PartOf). stages.Placed t p) c.in-Naming.is)

pub name_told-requires-clause-told : goal.name_told-requires-clause-told
name_told-requires-clause-told c =
    let m = c.args.self.now in
    let r = c.args.room.now in
    let t = c.in-Placed.position in
    let q = c.requires.told in
    let at = asked_part m r t c.in-Placed.part (parts.Naming c.in-Naming.byte c.in-Naming.node c.in-Naming.naming) c.in-Placed.is c.in-Naming.is (Some q.4) q.6 in
    (q.0, q.1, q.2, q.3, q.4, q.5, q.6, look_row q.0 (deed_at m r) r.change q.4 c.args.answer q.2 q.3 (naming_asks_look t c.in-Naming.naming q.4 at) q.7)

pub returns-in-Naming-clause-fits : goal.returns-in-Naming-clause-fits
returns-in-Naming-clause-fits c z u v w asked fits is row =
    let m = c.args.self.now in
    let r = c.args.room.now in
    let t = c.in-Placed.position in
    let at = asked_part m r t c.in-Placed.part (parts.Naming c.in-Naming.byte c.in-Naming.node c.in-Naming.naming) c.in-Placed.is c.in-Naming.is (Some asked) is in
    c.name_told.ensures.fits z u v w asked fits is (look_row z (deed_at m r) r.change asked c.args.answer v w (naming_asks_look t c.in-Naming.naming asked at) row)

pub validate_told-requires-clause-stage : goal.validate_told-requires-clause-stage
validate_told-requires-clause-stage c =
    let t = c.in-Placed.position in
    (t, c.in-Validate.case, c.in-Validate.validate, c.in-Placed.is ∙ ap (λ (p : PartOf). stages.Placed t p) c.in-Validate.is)

pub validate_told-requires-clause-told : goal.validate_told-requires-clause-told
validate_told-requires-clause-told c =
    let m = c.args.self.now in
    let r = c.args.room.now in
    let t = c.in-Placed.position in
    let q = c.requires.told in
    let at = asked_part m r t c.in-Placed.part (parts.Validate c.in-Validate.case c.in-Validate.validate) c.in-Placed.is c.in-Validate.is (Some q.4) q.6 in
    (q.0, q.1, q.2, q.3, q.4, q.5, q.6, look_row q.0 (deed_at m r) r.change q.4 c.args.answer q.2 q.3 (validate_asks_look t (cells_of c.in-Validate.case t.verdict) c.in-Validate.validate q.4 at) q.7)

pub returns-in-Validate-clause-fits : goal.returns-in-Validate-clause-fits
returns-in-Validate-clause-fits c z u v w asked fits is row =
    let m = c.args.self.now in
    let r = c.args.room.now in
    let t = c.in-Placed.position in
    let at = asked_part m r t c.in-Placed.part (parts.Validate c.in-Validate.case c.in-Validate.validate) c.in-Placed.is c.in-Validate.is (Some asked) is in
    c.validate_told.ensures.fits z u v w asked fits is (look_row z (deed_at m r) r.change asked c.args.answer v w (validate_asks_look t (cells_of c.in-Validate.case t.verdict) c.in-Validate.validate asked at) row)
