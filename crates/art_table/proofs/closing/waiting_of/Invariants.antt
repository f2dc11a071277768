use Rattle.std.proofs.Common.{◌≡◌, ◌≤◌, ◌*◌, take}
use Rattle.art_table.proofs.closing.waiting_of.Given as goal
use Rattle.art_table.specs.Closing.{waits}

-- those of the passes so far are counted, at most 64 each
abbrev pub invariant-loop-pass : goal.invariant-loop-pass
invariant-loop-pass l = record {
  counted : l.waiting ≡ waits l.pool (take l.pass-index l.passes);
  few : l.waiting ≤ 64 * l.pass-index;
}
