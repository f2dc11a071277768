-- So many words are moved.
use Rattle.std.proofs.Common.{◌≡◌, ◌+◌, ◌≤◌, ◌++◌, filter_map, length, take}
use Rattle.art_plan.specs.Puts.{puts_of}
use Rattle.art_plan.specs.Renewing.{moved_put}
use Rattle.art_plan.proofs.renewals.moved_puts.Given as goal

abbrev pub invariant-loop-write : goal.invariant-loop-write
invariant-loop-write l = record {
  items : l.moved.items ≡ puts_of 0 (take l.write-index l.fn.writes);
  few : length l.moved.items ≤ l.write-index;
}

abbrev pub invariant-loop-put : goal.invariant-loop-put
invariant-loop-put l = record {
  items : l.moved.items ≡ puts_of 0 l.fn.writes ++ filter_map (moved_put l.first) (take l.put-index l.fn.puts);
  few : length l.moved.items ≤ length l.fn.writes + l.put-index;
}
