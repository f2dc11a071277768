-- What waits gets the epoch as its label.
use Rattle.std.proofs.Common.{[], sym, subst, filter_map}
use Rattle.std.specs.Option.{option_map}
use Rattle.art_epoch.specs.Limbo.{IsLimbo, places_of}
use Rattle.art_epoch.specs.declared.limbo.Place.{Place}
use Rattle.art_step.specs.Tokens.{link_of_number}
use Rattle.art_step.specs.declared.views.View.{View}
use Rattle.std.specs.Prelude.{List, map}
use Rattle.art_step.specs.Steps.Epoch.{labelled}
use Rattle.art_epoch.proofs.Waiting.{limbo_labelled}
use Rattle.art_epoch.proofs.limbo.Retiring.told.Goals as goal

pub returns : goal.returns
returns c = λ z v w waits row.
    let us = filter_map (option_map link_of_number) c.args.numbers in
    let ps = places_of c.args.limbo.now in
    record {
      found = c.args.epoch;
      some = row.some;
      low = row.low;
      is = row.is;
      places = c.add_all.ensures;
      limbo = subst (λ (u : View). IsLimbo (places_of c.add_all.new.self) [] u.limbo) (sym row.is)
          (subst (λ (qs : List Place). IsLimbo qs [] (map (labelled c.args.epoch) v.limbo)) (sym c.add_all.ensures) (limbo_labelled c.args.epoch ps us v.limbo waits));
    }
