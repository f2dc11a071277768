-- A history, event by event: rows whose tuples stand in the schema, and what is left to be answered.
use Rattle.std.proofs.Common.{◌≡◌, ℕ, ◌+◌, ◌<◌, ◌↔◌, List, ◌∷◌, length, get_or, drop, Option, Some, None, sym, ap, subst, ◌∙◌}
use Rattle.std.proofs.lemmas.List.{drop_more}
use Rattle.std.proofs.lemmas.List.Elements.{All-append, All-filter, All-cons}
use Rattle.art_model.specs.declared.commands.Command.TheVariants.{Insert, Remove, Get, Scan}
use Rattle.art_model.specs.declared.rows.Row.{Row}
use Rattle.art_model.specs.Answers.{insert_answer, remove_answer, get_answer}
use Rattle.art_model.specs.Rows.{Order, Tuple, value_at, rows_before, rows_after}
use Rattle.art_key.specs.declared.columns.Column.{Column}
use Rattle.art_key.specs.declared.events.Deed.{Deed}
use Rattle.art_key.specs.declared.events.Deed.TheVariants.{Done, Look}
use Rattle.art_key.specs.declared.events.Event.{Event}
use Rattle.art_key.specs.Columns.{order_of}
use Rattle.art_key.specs.Histories.{StandsIn, AllStandIn, IsAnswered, IsLegalFrom, becomes}

module _ (schema : List Column) where
  abbrev RowStandsIn : Row → Type 0
  RowStandsIn row = StandsIn schema row.tuple

  abbrev order : Order
  order = order_of schema

  before_stand : (rows : List Row) (t : Tuple) → AllStandIn schema rows → AllStandIn schema (rows_before order rows t)
  before_stand rows t stand = All-filter _ RowStandsIn rows stand

  after_stand : (rows : List Row) (t : Tuple) → AllStandIn schema rows → AllStandIn schema (rows_after order rows t)
  after_stand rows t stand = All-filter _ RowStandsIn rows stand

  inserted_stand : (rows : List Row) (t : Tuple) (v : ℕ) (there : Option ℕ) → AllStandIn schema rows → StandsIn schema t → AllStandIn schema (insert_answer order rows t v there).1
  inserted_stand rows t v (Some u) stand stands = stand
  inserted_stand rows t v None stand stands =
      let row : Row = record { tuple = t; value = v } in
      All-append RowStandsIn (rows_before order rows t) (row ∷ rows_after order rows t) (before_stand rows t stand) (All-cons RowStandsIn row (rows_after order rows t) stands (after_stand rows t stand))

  removed_stand : (rows : List Row) (t : Tuple) (there : Option ℕ) → AllStandIn schema rows → AllStandIn schema (remove_answer order rows t there).1
  removed_stand rows t (Some u) stand = All-append RowStandsIn (rows_before order rows t) (rows_after order rows t) (before_stand rows t stand) (after_stand rows t stand)
  removed_stand rows t None stand = stand

  looked_up_stand : (rows : List Row) (there : Option ℕ) → AllStandIn schema rows → AllStandIn schema (get_answer rows there).1
  looked_up_stand rows (Some u) stand = stand
  looked_up_stand rows None stand = stand

  -- where the tuples of the rows stand in the schema, those after an event do that is answered
  pub become_standing : (rows : List Row) (what : Deed) → AllStandIn schema rows → IsAnswered schema rows what → AllStandIn schema (becomes schema rows what)
  become_standing rows (Done (Insert t v) reply) stand answered = inserted_stand rows t v (value_at rows t) stand answered.0
  become_standing rows (Done (Remove t) reply) stand answered = removed_stand rows t (value_at rows t) stand
  become_standing rows (Done (Get t) reply) stand answered = looked_up_stand rows (value_at rows t) stand
  become_standing rows (Done (Scan lo hi limit) reply) stand answered = absurd answered.0
  become_standing rows (Look lo hi found) stand answered = stand

  -- after an event that is answered, the events from there on say what all of them say
  pub goes_on : (events : List Event) (i : ℕ) (e : Event) (rows after : List Row) {Legal : Type 0} → i < length events → e ≡ get_or events i e → IsAnswered schema rows e.what → after ≡ becomes schema rows e.what
      → IsLegalFrom schema rows (drop i events) ↔ Legal → IsLegalFrom schema after (drop (i + 1) events) ↔ Legal
  goes_on events i e rows after {Legal} within is answered after-is so_far =
      let from_here : drop i events ≡ e ∷ drop (i + 1) events = drop_more events i e within ∙ ap (λ (x : Event). x ∷ drop (i + 1) events) (sym is) in
      let here : IsLegalFrom schema rows (e ∷ drop (i + 1) events) ↔ Legal = subst (λ (rest : List Event). IsLegalFrom schema rows rest ↔ Legal) from_here so_far in
      let later : IsLegalFrom schema (becomes schema rows e.what) (drop (i + 1) events) ↔ Legal = (λ l. here.0 (answered, l), λ l. (here.1 l).1) in
      subst (λ (r : List Row). IsLegalFrom schema r (drop (i + 1) events) ↔ Legal) (sym after-is) later
