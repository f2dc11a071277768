use Rattle.std.proofs.Common.{sym, subst}
use Rattle.art_look.specs.Fronts.{IsFront}
use Rattle.art_look.specs.declared.fronts.Front.{Front}
use Rattle.art_look.proofs.Ends.{past_not_less, within_less}
use Rattle.art_look.proofs.looks.is_less.Goals as goal

pub returns-in-Some-Within : goal.returns-in-Some-Within
returns-in-Some-Within c = sym (within_less c.args.other.now c.args.one.now (subst (λ (f : Front). IsFront f c.args.other.now c.args.one.now) c.in-Some-Within.field-0-is c.in-Some-Within.ensures))

pub returns-in-Some-Beyond : goal.returns-in-Some-Beyond
returns-in-Some-Beyond c = sym (past_not_less c.args.other.now c.args.one.now (subst (λ (f : Front). IsFront f c.args.other.now c.args.one.now) c.in-Some-Beyond.field-0-is c.in-Some-Beyond.ensures))
