-- The rows that a legal history leaves stand in its schema.
use Rattle.std.proofs.Common.{List, [], ◌∷◌}
use Rattle.std.proofs.lemmas.List.Elements.{All-nil, recursion_from_All}
use Rattle.std.specs.List.{AllByRecursion}
use Rattle.art_key.specs.declared.columns.Column.{Column}
use Rattle.art_key.specs.declared.events.Event.{Event}
use Rattle.art_key.specs.Histories.{AllStandIn, IsLegal, IsLegalFrom, StandsIn, becomes, replay, run}
use Rattle.art_key.proofs.Legality.{become_standing}
use Rattle.art_model.specs.declared.rows.Row.{Row}

runs_stand : (schema : List Column) (log : List Event) (rows : List Row) → AllStandIn schema rows → IsLegalFrom schema rows log → AllStandIn schema (run schema rows log)
runs_stand schema [] rows stand legal = stand
runs_stand schema (e ∷ log) rows stand legal = runs_stand schema log (becomes schema rows e.what) (become_standing schema rows e.what stand legal.0) legal.1

pub replays_stand : (schema : List Column) (log : List Event) → IsLegal schema log → AllByRecursion (λ (row : Row). StandsIn schema row.tuple) (replay schema log)
replays_stand schema log legal = recursion_from_All (λ (row : Row). StandsIn schema row.tuple) (replay schema log) (runs_stand schema log [] (All-nil (λ (row : Row). StandsIn schema row.tuple)) legal)
