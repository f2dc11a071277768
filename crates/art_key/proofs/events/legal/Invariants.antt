use Rattle.std.proofs.Common.{◌≡◌, ◌↔◌, drop}
use Rattle.art_key.specs.Columns.{order_of}
use Rattle.art_key.specs.Histories.{AllStandIn, IsLegalFrom, IsLegal}
use Rattle.art_key.proofs.events.legal.Given as goal

-- all events are a legal history where those from here on are one from these rows
abbrev pub invariant-loop-event : goal.invariant-loop-event
invariant-loop-event l = record {
  order : l.rows.order ≡ order_of l.schema;
  stand : AllStandIn l.schema l.rows.rows;
  rest : IsLegalFrom l.schema l.rows.rows (drop l.event-index l.events) ↔ IsLegal l.schema l.events;
}
