-- What a look of a range has seen: what the table of looks says, cut at the upper end.
use Rattle.std.specs.Prelude.{ℕ, List, if◌then◌else◌, Option, Some, None}
use Rattle.std.specs.Option.{option_map}
use Rattle.arrayvec.specs.ArrayVec.{ArrayVec}
use Rattle.art_key.specs.Bounds.{is_before}
use Rattle.art_key.specs.declared.bounds.Bound.{Bound as KeyBound}
use Rattle.art_key.specs.declared.bounds.Bound.TheVariants as key_bound
use Rattle.art_look.specs.Table.{IsRow, end_at}
use Rattle.art_look.specs.declared.looks.Reach.{Reach}
use Rattle.art_look.specs.declared.looks.Seen.{Seen}
use Rattle.art_step.specs.Deeds.{key_of}
use Rattle.art_step.specs.Knowledge.{IsShape}
use Rattle.art_step.specs.declared.deeds.Deed.{Deed}
use Rattle.art_step.specs.declared.deeds.Deed.TheVariants.{Look}
use Rattle.art_step.specs.declared.views.Sizes.{Sizes}
use Rattle.art_tree.specs.Heaps.{Cells, heap_of}
use Rattle.art_tree.specs.declared.bounds.Bound.{Bound}
use Rattle.art_tree.specs.declared.bounds.Bound.TheVariants.{To, End}

-- an end of a range, as keys have it
abbrev pub bound_at : Bound → KeyBound
bound_at (To k) = key_bound.At (key_of k)
bound_at End = key_bound.End

-- the nearer of two ends
abbrev pub nearer : KeyBound → KeyBound → KeyBound
nearer a b = if is_before a b then a else b

-- the row, where its key is not before lo and is before hi
abbrev pub row_within : List ℕ → KeyBound → List ℕ → ℕ → Option (ArrayVec ℕ × ℕ)
row_within lo hi k value =
    if is_before (key_bound.At (key_of k)) (key_bound.At (key_of lo)) then None
    else if is_before (key_bound.At (key_of k)) hi then Some (key_of k, value)
    else None

abbrev pub row_seen : List ℕ → KeyBound → List ℕ → Option ℕ → Option (ArrayVec ℕ × ℕ)
row_seen lo hi k (Some value) = row_within lo hi k value
row_seen lo hi k None = None

-- from lo on, where a look of [lo, hi) ends at the path q, and finds a leaf with the key k and this value, or none
abbrev pub seen_of : List ℕ → KeyBound → List ℕ → List ℕ → Reach → Option ℕ → Seen
seen_of lo hi q k reach o = record {
  lo = key_of lo;
  hi = nearer (bound_at (end_at reach q)) hi;
  row = row_seen lo hi k o;
}

-- a leaf's key with its value
abbrev pub with_key : List ℕ → Option ℕ → Option (List ℕ × ℕ)
with_key k o = option_map (λ (value : ℕ). (k, value)) o

-- what was found there stands in the table, in a tree
pub record Stood (z : Sizes) (lo q k : List ℕ) (reach : Reach) (o : Option ℕ) : Type 0 where
  pub cells : Cells
  pub shape : IsShape z cells
  pub row : IsRow (heap_of cells) lo q reach (with_key k o)

-- the look, as an event
abbrev pub look_done : Seen → Deed
look_done seen = Look seen.lo seen.hi seen.row
