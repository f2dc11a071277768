-- So many words are put.
use Rattle.std.proofs.Common.{◌≡◌, take}
use Rattle.art_plan.specs.Changes.{with_puts}
use Rattle.art_plan.proofs.renewals.written_body.Given as goal

abbrev pub invariant-loop-put : goal.invariant-loop-put
invariant-loop-put l = record {
  layout : l.twin.layout ≡ l.fn.body.layout;
  words : l.twin.words ≡ with_puts l.fn.target (take l.put-index l.fn.puts) l.fn.body.words;
}
