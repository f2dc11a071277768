use Rattle.std.proofs.Common.{◌≡◌, map, take}
use Rattle.serde_json.specs.View.{view}
use Rattle.art_server.specs.Replies.{value_data}
use Rattle.art_server.proofs.replies.tuple_json.Given as goal

abbrev pub invariant-loop-value : goal.invariant-loop-value
invariant-loop-value l = map view l.list.items ≡ map value_data (take l.value-index l.values)
