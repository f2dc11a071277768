use Rattle.std.proofs.Common.{◌∙◌, ap, sym, subst}
use Rattle.art_attempt.proofs.attempts.Attempt.part_next.Goals as goal
use Rattle.art_attempt.specs.Attempts.{PartFits, part_asks}
use Rattle.art_attempt.specs.declared.attempts.Part.{Part as PartOf}

pub returns-in-Reserve-clause-asks : goal.returns-in-Reserve-clause-asks
returns-in-Reserve-clause-asks c = c.supply_next.ensures.asks ∙ sym (ap (λ (q : PartOf). part_asks q c.args.position.now c.args.room.now) c.in-Reserve.is)

pub returns-in-Reserve-clause-allowed : goal.returns-in-Reserve-clause-allowed
returns-in-Reserve-clause-allowed c z u v d fits =
    let r = c.args.room.now in
    let t = c.args.position.now in
    let here = subst (λ (q : PartOf). PartFits z u c.args.self.now.job t q r v) c.in-Reserve.is fits in
    c.supply_next.ensures.allowed z u v t c.in-Reserve.case d here.0

pub returns-in-Reserve-clause-going : goal.returns-in-Reserve-clause-going
returns-in-Reserve-clause-going c z u v fits =
    let r = c.args.room.now in
    let t = c.args.position.now in
    let here = subst (λ (q : PartOf). PartFits z u c.args.self.now.job t q r v) c.in-Reserve.is fits in
    c.supply_next.ensures.going z u v t c.in-Reserve.case here.0 here.1

pub returns-in-Reading-clause-asks : goal.returns-in-Reading-clause-asks
returns-in-Reading-clause-asks c = c.read_next.ensures.asks ∙ sym (ap (λ (q : PartOf). part_asks q c.args.position.now c.args.room.now) c.in-Reading.is)

pub returns-in-Reading-clause-allowed : goal.returns-in-Reading-clause-allowed
returns-in-Reading-clause-allowed c z u v d fits =
    let r = c.args.room.now in
    let t = c.args.position.now in
    let here = subst (λ (q : PartOf). PartFits z u c.args.self.now.job t q r v) c.in-Reading.is fits in
    c.read_next.ensures.allowed z u v r d here.0

pub returns-in-Reading-clause-going : goal.returns-in-Reading-clause-going
returns-in-Reading-clause-going c z u v fits =
    let r = c.args.room.now in
    let t = c.args.position.now in
    let here = subst (λ (q : PartOf). PartFits z u c.args.self.now.job t q r v) c.in-Reading.is fits in
    c.read_next.ensures.going z u v r here.0 here.1

pub returns-in-Naming-clause-asks : goal.returns-in-Naming-clause-asks
returns-in-Naming-clause-asks c = c.name_next.ensures.asks ∙ sym (ap (λ (q : PartOf). part_asks q c.args.position.now c.args.room.now) c.in-Naming.is)

pub returns-in-Naming-clause-allowed : goal.returns-in-Naming-clause-allowed
returns-in-Naming-clause-allowed c z u v d fits =
    let r = c.args.room.now in
    let t = c.args.position.now in
    let here = subst (λ (q : PartOf). PartFits z u c.args.self.now.job t q r v) c.in-Naming.is fits in
    c.name_next.ensures.allowed z u v c.in-Naming.byte c.in-Naming.node r d here.0

pub returns-in-Naming-clause-going : goal.returns-in-Naming-clause-going
returns-in-Naming-clause-going c z u v fits =
    let r = c.args.room.now in
    let t = c.args.position.now in
    let here = subst (λ (q : PartOf). PartFits z u c.args.self.now.job t q r v) c.in-Naming.is fits in
    c.name_next.ensures.going here.1

pub returns-in-Validate-clause-asks : goal.returns-in-Validate-clause-asks
returns-in-Validate-clause-asks c = c.validate_next.ensures.asks ∙ sym (ap (λ (q : PartOf). part_asks q c.args.position.now c.args.room.now) c.in-Validate.is)

pub returns-in-Validate-clause-allowed : goal.returns-in-Validate-clause-allowed
returns-in-Validate-clause-allowed c z u v d fits =
    let r = c.args.room.now in
    let t = c.args.position.now in
    let here = subst (λ (q : PartOf). PartFits z u c.args.self.now.job t q r v) c.in-Validate.is fits in
    c.validate_next.ensures.allowed z u v r d here.0

pub returns-in-Validate-clause-going : goal.returns-in-Validate-clause-going
returns-in-Validate-clause-going c z u v fits =
    let r = c.args.room.now in
    let t = c.args.position.now in
    let here = subst (λ (q : PartOf). PartFits z u c.args.self.now.job t q r v) c.in-Validate.is fits in
    c.validate_next.ensures.going z u v r here.0 here.1
