-- What waits in limbo: in code, and in the view of its pass.
use Rattle.std.specs.Prelude.{◌≡◌, ◌⊎◌, ℕ, suc, List, [], ◌∷◌, ◌++◌, map, nat_lt, if◌then◌else◌, Bool, true, Option, Some, None}
use Rattle.art_cell.specs.declared.cells.Link.{Link}
use Rattle.art_cell.specs.declared.cells.Link.TheVariants.{Leaf as leaf}
use Rattle.art_epoch.specs.declared.limbo.Limbo.{Limbo}
use Rattle.art_epoch.specs.declared.limbo.Place.{Place}
use Rattle.art_step.specs.declared.views.Retired.{Retired}
use Rattle.art_step.specs.Views.{IsOnce, Member}

abbrev pub places_of : Limbo → List Place
places_of l = l.places.items

abbrev pub links_waiting : List Place → List Link
links_waiting ps = map (λ x. x.link) ps

abbrev pub place_of_number : ℕ → Link → Place
place_of_number label d = record { link = d; label = label }

abbrev pub place_for : ℕ → Option Link → List Place
place_for label None = []
place_for label (Some d) = place_of_number label d ∷ []

abbrev pub places_for : ℕ → List Link → List Place
places_for label ds = map (place_of_number label) ds

-- a place of the code is a place of the view
pub record IsPlace (x : Place) (e : Retired) : Type 0 where
  pub link : e.link ≡ x.link
  pub label : e.label ≡ Some x.label

-- the limbo of the view has these places, each with its label, and the numbers of us, which came without one; none is there twice
pub record IsLimbo (ps : List Place) (us : List Link) (es : List Retired) : Type 0 where
  pub has : (x : Place) → Member x ps → (e : Retired) × Member e es × IsPlace x e
  pub new : (d : Link) → Member d us → (e : Retired) × Member e es × (e.link ≡ d) × (e.label ≡ None)
  pub only : (e : Retired) → Member e es → ((x : Place) × Member x ps × IsPlace x e) ⊎ (Member e.link us × (e.label ≡ None))
  pub once : IsOnce (us ++ links_waiting ps)

-- ---- what may go back

-- the label is below the word, if there is one
abbrev pub lets_go : Option ℕ → ℕ → Bool
lets_go None label = true
lets_go (Some word) label = nat_lt label word

abbrev pub no_place : Place
no_place = record { link = leaf 0; label = 0 }

-- the index of the first place that may go, and of none where that is past the last
abbrev pub open_index : Option ℕ → List Place → ℕ
open_index least [] = 0
open_index least (x ∷ xs) = if lets_go least x.label then 0 else suc (open_index least xs)
