use Rattle.std.proofs.Common.{◌≡◌, map, take}
use Rattle.serde_json.specs.View.{view}
use Rattle.art_server.specs.Replies.{row_data}
use Rattle.art_server.proofs.replies.list_json.Given as goal

abbrev pub invariant-loop-row : goal.invariant-loop-row
invariant-loop-row l = map view l.list.items ≡ map row_data (take l.row-index l.rows)
