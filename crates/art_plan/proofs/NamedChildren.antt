-- A child word that was read of the cell: what it names is noted, and there is such a cell.
use Rattle.std.proofs.Common.{◌≡◌, ℕ, Some, None, sym, ap, ◌∙◌, subst, ⊎_elim}
use Rattle.art_cell.specs.Children.{link_of}
use Rattle.art_cell.specs.declared.cells.Link.{Link}
use Rattle.art_plan.specs.ChooseRemove.Others.{NamesChild}
use Rattle.art_plan.specs.ArtFind.Descents.{WasNamed}
use Rattle.art_plan.specs.ArtFind.ReadSets.{node_of}
use Rattle.art_plan.specs.ArtFind.Kept.{IsKept}
use Rattle.art_plan.specs.ArtFind.declared.read_sets.ReadSet.{ReadSet}
use Rattle.art_plan.specs.ArtFind.declared.findings.Position.{Position}
use Rattle.art_step.specs.Views.{IsChildWord, IsNumber}
use Rattle.art_step.specs.declared.views.Fact.TheVariants.{Word}
use Rattle.art_step.specs.declared.views.Sizes.{Sizes}
use Rattle.art_step.specs.declared.views.View.{View}
use Rattle.std.proofs.lemmas.Option.{same_Some}

-- a child word that names a link names one that there is
names_there : (z : Sizes) (word : ℕ) (d : Link) → IsChildWord z word → link_of word ≡ Some d → IsNumber z d
names_there z word d there names = ⊎_elim
    (λ (none : word ≡ 0).
    let no : None ≡ Some d = ap link_of (sym none) ∙ names in
    absurd (cc))
    (λ (some : (e : Link) × (link_of word ≡ Some e) × IsNumber z e). subst (IsNumber z) (same_Some some.0 d (sym some.1 ∙ names)) some.2)
    there

-- so the pass may begin it, if it is a node
pub named_there : (z : Sizes) (u : View) (t : Position) (read_set : ReadSet) (d : Link) → IsKept z u t.stamp (node_of read_set) → NamesChild t read_set d → WasNamed t.stamp d u × IsNumber z d
named_there z u t read_set d words child =
    let was = words.each child.place child.word child.read in (
      record { fact = Word child.place child.word; noted = was.noted; names = child.names },
      names_there z child.word d (was.form.child child.child) child.names,
    )
