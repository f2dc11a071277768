use Rattle.std.proofs.Common.{refl, arith}
use Rattle.art_step.specs.declared.actions.Action.TheVariants.{ReadEpoch}
use Rattle.art_look.proofs.seeks.Seek.new.Goals as goal

pub returns-clause-fits : goal.returns-clause-fits
returns-clause-fits c z k hi t u may = record {
  may = may;
  pinning = c.new.ensures.fits z u may;
  going = (ReadEpoch, c.new.ensures.asks);
  fresh = c.new-2.ensures.fresh z k hi t;
  full = refl;
  none = refl;
  few = omega arith;
}
