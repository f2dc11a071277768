-- The node that a fork makes: its children, its words, and the bytes of its prefix.
use Rattle.std.proofs.Common.{◌≡◌, ℕ, suc, ◌+◌, ◌-◌, ◌<◌, List, [], ◌∷◌, ◌++◌, length, take, drop, get_or, Some, None, refl, sym, ap, ap₂, ◌∙◌, subst, subst₂, inl, inr, arith, append_assoc, eq-eqb, ne_eqb}
use Rattle.std.proofs.lemmas.Bool.{cases_eq}
use Rattle.std.proofs.lemmas.List.{take-append-drop}
use Rattle.std.proofs.lemmas.Option.{same_Some}
use Rattle.std.proofs.Math.Seq.{drop-cons}
use Rattle.art_cell.specs.Words.{Words}
use Rattle.art_cell.specs.declared.cells.Layout.TheVariants.{Node4}
use Rattle.art_node.specs.Prefixes.{IsNodeOf, two_of}
use Rattle.art_plan.proofs.ChildPlaces.{NameThere}
use Rattle.art_step.specs.Views.{IsChildWord}
use Rattle.art_step.specs.declared.views.Sizes.{Sizes}
use Rattle.art_tree.specs.Tree.{Begins}

-- the bytes of a key up to an index, and the byte there
pub begins_at : (k : List ℕ) (at : ℕ) → at < length k → Begins (take at k ++ get_or k at 0 ∷ []) k
begins_at k at low = (drop (suc at) k, append_assoc (take at k) (get_or k at 0 ∷ []) (drop (suc at) k) ∙ ap (λ (xs : List ℕ). take at k ++ xs) (sym (drop-cons k at 0 low)) ∙ take-append-drop at k)

-- the map of two children names what there is
pub two_there : (z : Sizes) (a c b d : ℕ) → IsChildWord z c → IsChildWord z d → NameThere z (two_of a c b d)
two_there z a c b d c-there d-there e word low is = elim (cases_eq e a) [
  | inl here ↦
      let one : two_of a c b d e ≡ Some c = rw (eq-eqb e a here) refl in
      subst (IsChildWord z) (same_Some c word (sym one ∙ is)) c-there
  | inr other ↦ elim (cases_eq e b) [
    | inl here ↦
        let two : two_of a c b d e ≡ Some d = rw (ne_eqb e a other, eq-eqb e b here) refl in
        subst (IsChildWord z) (same_Some d word (sym two ∙ is)) d-there
    | inr apart ↦
        let none : two_of a c b d e ≡ None = rw (ne_eqb e a other, ne_eqb e b apart) refl in
        absurd (cc)
  ]
]

-- the node that a fork makes, where its parts go by other names

pub fork_node : (w : Words) (p q key k : List ℕ) (at a x y x' y' : ℕ) → p ≡ q → key ≡ k → x ≡ x' → y ≡ y' → IsNodeOf Node4 w p (two_of a x (get_or key at 0) y) → IsNodeOf Node4 w q (two_of a x' (get_or k at 0) y')
fork_node w p q key k at a x y x' y' prefix same one two is =
    subst₂ (λ (i j : ℕ). IsNodeOf Node4 w q (two_of a i (get_or k at 0) j)) one two
    (subst₂ (λ (bytes all : List ℕ). IsNodeOf Node4 w bytes (two_of a x (get_or all at 0) y)) prefix same is)

-- the bytes of a key between two indices
pub between : (key k : List ℕ) (depth common : ℕ) → key ≡ k → take (depth + common - depth) (drop depth key) ≡ take common (drop depth k)
between key k depth common same = let size : depth + common - depth ≡ common = omega arith in ap₂ (λ (n : ℕ) (bytes : List ℕ). take n (drop depth bytes)) size same
