-- What a deed says of keys.
use Rattle.std.specs.Prelude.{ℕ, List, ⊤}
use Rattle.art_key.specs.declared.bounds.Bound.{Bound as KeyBound}
use Rattle.art_key.specs.declared.bounds.Bound.TheVariants as key_bound
use Rattle.arrayvec.specs.ArrayVec.{ArrayVec}
use Rattle.art_step.specs.declared.deeds.Act.{Act}
use Rattle.art_step.specs.declared.deeds.Act.TheVariants.{Insert, Remove, Get}
use Rattle.art_step.specs.declared.deeds.Deed.{Deed}
use Rattle.art_step.specs.declared.deeds.Deed.TheVariants.{Done, Look}
use Rattle.art_tree.specs.declared.bounds.Bound.{Bound}
use Rattle.art_tree.specs.declared.bounds.Bound.TheVariants.{To, End}

-- these bytes, as a key
abbrev pub key_of : List ℕ → ArrayVec ℕ
key_of k = record { items = k }

-- the end of a range, as the tree's looks have it
abbrev pub bound_of : KeyBound → Bound
bound_of (key_bound.At k) = To k.items
bound_of key_bound.End = End

-- the key that a command has
abbrev pub key_asked : Act → List ℕ
key_asked (Insert k v) = k.items
key_asked (Remove k) = k.items
key_asked (Get k) = k.items

-- a command has a key that is admitted; a look has none
abbrev pub IsAdmitted : (List ℕ → Type 0) → Deed → Type 0
IsAdmitted A (Done a r) = A (key_asked a)
IsAdmitted A (Look lo hi row) = ⊤
