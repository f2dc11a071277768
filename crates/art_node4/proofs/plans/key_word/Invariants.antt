use Rattle.std.proofs.Common.{◌≡◌, ℕ, ◌<◌, ◌+◌, get_or}
use Rattle.art_cell.specs.Lemmas.Packed.{IsEight}
use Rattle.art_node4.specs.Sorted.{entry_or_none}
use Rattle.art_node4.proofs.plans.key_word.Given as goal

abbrev pub invariant-loop-index : goal.invariant-loop-index
invariant-loop-index l = record {
  eight : IsEight l.bytes;
  bytes : (i : ℕ) → i < l.index → get_or l.bytes i 0 ≡ (entry_or_none l.list.items (l.from + i)).byte;
}
