use Rattle.std.proofs.Common.{◌≡◌, ◌<◌, ℕ, zero, suc, List, [], ◌∷◌, get_or, sym, arith}
use Rattle.std.specs.Mem.Slots.{slots_counts, slots_items, slots_len}
use mathlib.Core.Option.{some, some-injective, some-ne-none}
use lib.ListN.{get_elem?}
use Rattle.art_shared.proofs.ended.Ended.word.Goals as goal

pub word-requires : goal.word-requires
word-requires c =
    let row = c.args.self.now.closed.words in
    let long = (slots_counts row).0 in
    let near : c.args.place < slots_len row = omega arith in
    (near, c.args.self.now.full)

element : (xs : List ℕ) (i x : ℕ) → get_elem? xs i ≡ some x → x ≡ get_or xs i 0
element [] i x e = absurd (some-ne-none x (sym e))
element (y ∷ xs) zero x e = sym (some-injective y x e)
element (y ∷ xs) (suc i) x e = element xs i x e

pub returns : goal.returns
returns c = element (slots_items c.args.self.now.closed.words) c.args.place c.word.result c.word.ensures
