-- So many words were looked at.
use Rattle.std.proofs.Common.{◌≡◌, ◌≤◌, filter_map, length, take}
use Rattle.art_plan.specs.Renewing.{kept_put}
use Rattle.art_plan.proofs.renewals.kept_puts.Given as goal

abbrev pub invariant-loop-put : goal.invariant-loop-put
invariant-loop-put l = record {
  items : l.kept.items ≡ filter_map kept_put (take l.put-index l.fn.puts);
  few : length l.kept.items ≤ l.put-index;
}
