-- The rows of a closed table.
use Rattle.std.specs.Prelude.{ℕ, List}
use Rattle.art_key.specs.declared.columns.Column.{Column}
use Rattle.art_key.specs.Spelling.{IsKeyOf}
use Rattle.art_model.specs.declared.rows.Row.{Row}
use Rattle.art_tree.specs.Rows.{ByteMap, HasRows}
use Rattle.art_tree.specs.Tree.{Heap}
use Rattle.art_tree.specs.Tree.{Row as LeafRow}
use Rattle.art_typed.specs.Typed.{Spells}

-- each key of the heap's rows spells a tuple of the schema
abbrev pub SpellsTuples : List Column → Heap → Type 0
SpellsTuples schema h = (k : List ℕ) (v : ℕ) → LeafRow h k v → IsKeyOf schema k

-- the rows are those of the heap: whatever map has the heap's rows has their spellings
abbrev pub AreRowsOf : List Column → Heap → List Row → Type 0
AreRowsOf schema h rows = (m : ByteMap) → HasRows h m → Spells schema m rows
