-- What is said of one pass at a table.
use Rattle.std.specs.Prelude.{◌==◌, ◌&&◌, List, [], ◌∷◌, ◌++◌, Bool, true, ℕ, nat_lt}
use Rattle.art_cell.specs.declared.cells.Link.{Link}
use Rattle.art_cell.specs.Children.{number_of}
use Rattle.art_step.specs.declared.views.Event.{Event}
use Rattle.art_step.specs.declared.views.Sizes.{Sizes}
use Rattle.art_step.specs.declared.views.Stamp.{Stamp}
use Rattle.art_step.specs.declared.views.View.{View}
use Rattle.art_step.specs.Opening.{newcomer}
use Rattle.art_step.specs.Views.{links_in_hand, links_in_limbo, pool_of}
use Rattle.art_step.specs.WordPlaces.{place_of, pool_size}
use Rattle.art_step.specs.WordRows.{newcomers}
use Rattle.art_shared.specs.declared.law.Basis.{Basis}
use Rattle.art_shared.specs.declared.law.Known.{Known}

-- the first of some views, and the others
abbrev pub head_of : List View → View
head_of [] = newcomer 0
head_of (v ∷ vs) = v

abbrev pub tail_of : List View → List View
tail_of [] = []
tail_of (v ∷ vs) = vs

-- the first of some histories
abbrev pub first_told : List (List Event) → List Event
first_told [] = []
first_told (h ∷ hs) = h

-- the view of a seat's one pass
abbrev pub view_in : Known → View
view_in k = head_of k.views

-- each stamp has the place of its cell
abbrev pub all_placed : Sizes → List Stamp → Bool
all_placed z [] = true
all_placed z (x ∷ xs) = (x.first == place_of z x.cell) && all_placed z xs

-- each of the numbers is one that there is
abbrev pub are_numbers : Sizes → List Link → Bool
are_numbers z [] = true
are_numbers z (d ∷ ds) = nat_lt (number_of d) (pool_size z (pool_of d)) && are_numbers z ds

-- so are those that the pass has in hand and in limbo
abbrev pub has_numbers : Sizes → View → Bool
has_numbers z v = are_numbers z (links_in_hand v.hand) && are_numbers z (links_in_limbo v.limbo)

-- the seat that opens a table has all passes, which know nothing
abbrev pub newcomers_known : Basis → Known
newcomers_known b = record { basis = b; views = newcomers 0 b.sizes.passes; told = [] }

-- the seat of one of them
abbrev pub newcomer_known : Basis → ℕ → Known
newcomer_known b p = record { basis = b; views = newcomer p ∷ []; told = [] }

-- the first pass of a seat, and the others, as they get seats of their own
abbrev pub first_alone : Known → Known
first_alone k = record { basis = k.basis; views = head_of k.views ∷ []; told = [] }

abbrev pub without_first : Known → Known
without_first k = record { basis = k.basis; views = tail_of k.views; told = k.told }

-- a seat that was told what the pass of another has seen
abbrev pub marked : Known → Known
marked k = record { basis = k.basis; views = []; told = (view_in k).seen ∷ [] }

-- a seat with no pass, and one that takes in what another knows
abbrev pub no_basis : Basis
no_basis = record { sizes = record { leaves = 0; n4 = 0; n16 = 0; n48 = 0; n256 = 0; passes = 0 }; schema = []; counter_start = 0 }

abbrev pub nobody : Known
nobody = record { basis = no_basis; views = []; told = [] }

abbrev pub glued : Known → Known → Known
glued a b = record { basis = a.basis; views = a.views ++ b.views; told = a.told ++ b.told }
