-- The bound just above a path, by the path's last byte.
use Rattle.std.proofs.Common.{◌≡◌, ℕ, ◌+◌, ◌<◌, List, [], ◌∷◌, ◌++◌, length, get_or, take, refl, ap, ◌∙◌, Bool, cond}
use Rattle.std.proofs.lemmas.Bool.{lt-ltb}
use Rattle.std.proofs.lemmas.List.{take_more}
use Rattle.art_tree.specs.declared.bounds.Bound.TheVariants.{To, End}
use Rattle.art_tree.specs.Looks.{raise, after}

-- a byte of 255 at the end goes
top_goes : (p : List ℕ) → after (p ++ 255 ∷ []) ≡ after p
top_goes [] = refl
top_goes (a ∷ p) = ap (raise a) (top_goes p)

-- a lower one is raised
last_raised : (p : List ℕ) (b : ℕ) → b < 255 → after (p ++ b ∷ []) ≡ To (p ++ (b + 1) ∷ [])
last_raised [] b low = ap (λ (t : Bool). cond t (To ((b + 1) ∷ [])) End) (lt-ltb b 255 low)
last_raised (a ∷ p) b low = ap (raise a) (last_raised p b low)

pub after_top : (path : List ℕ) (at : ℕ) → at < length path → get_or path at 0 ≡ 255 → after (take (at + 1) path) ≡ after (take at path)
after_top path at low is = ap after (take_more path at 0 low ∙ ap (λ (b : ℕ). take at path ++ b ∷ []) is) ∙ top_goes (take at path)

pub after_raised : (path : List ℕ) (at : ℕ) → at < length path → get_or path at 0 < 255 → after (take (at + 1) path) ≡ To (take at path ++ (get_or path at 0 + 1) ∷ [])
after_raised path at low below = ap after (take_more path at 0 low) ∙ last_raised (take at path) (get_or path at 0) below
