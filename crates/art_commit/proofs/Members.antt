-- A commit looks at the members of what leaves and of what comes; and what comes.
use Rattle.std.proofs.Common.{◌≡◌, ℕ, List, [], ◌∷◌, Option, Some, None, inl, inr, ⊎_elim, sym, refl, ap, ◌∙◌, subst, subst₂}
use Rattle.std.proofs.lemmas.Option.{same_Some}
use Rattle.art_cell.specs.declared.cells.Node.{Node}
use Rattle.art_cell.specs.declared.cells.Cell.{Cell}
use Rattle.art_cell.specs.declared.cells.Cell.TheVariants as cell
use Rattle.art_cell.specs.declared.cells.Link.{Link}
use Rattle.art_cell.specs.declared.cells.Link.TheVariants.{Node as node}
use Rattle.art_step.specs.declared.views.Holding.{Holding}
use Rattle.art_step.specs.declared.views.View.{View}
use Rattle.art_commit.specs.CommitLaws.{SameCommits, ClaimedNodesCome}
use Rattle.art_step.specs.Steps.Commit.{claimed_node, claimed_nodes, IsLinked}
use Rattle.art_step.specs.Views.{Member}

pub same_commits : SameCommits
same_commits z v what us us' ls ls' s s' leaves once comes c = record {
  shape = c.shape;
  rows = c.rows;
  others = c.others;
  leaves = λ d i. c.leaves d ((leaves d).1 i);
  comes = λ d i. c.comes d ((comes d).1 i);
  once = once;
  stays = λ d o. ⊎_elim (λ (i : Member d us). inl ((leaves d).0 i)) (λ (e : IsLinked s' d). inr e) (c.stays d o);
  linked = λ d o. ⊎_elim (λ (i : Member d ls). inl ((comes d).0 i)) (λ (e : IsLinked s d). inr e) (c.linked d o);
  held = λ n i. c.held n ((leaves (node n)).1 i);
  claimed = λ h n i none is. (comes (node n)).0 (c.claimed h n i none is);
}

-- ---- what comes

-- the node of one of these cells, which was claimed
abbrev IsClaim : List Holding → Link → Type 0
IsClaim hs d = (n : Node) × (d ≡ node n) × ((h : Holding) × Member h hs × (h.stamped ≡ None) × (h.cell ≡ cell.Node n))

claimed_is : (hs : List Holding) (d : Link) → Member d (claimed_nodes hs) → IsClaim hs d
claimed_is [] d i = absurd i
claimed_is (h ∷ hs) d i = by_cell (λ j. claimed_is hs d j) h.cell h.stamped refl refl i
  where
    later : IsClaim hs d → IsClaim (h ∷ hs) d
    later k = (k.0, k.1, (k.2.0, inr k.2.1, k.2.2, k.2.3))

    by_cell : (Member d (claimed_nodes hs) → IsClaim hs d) → (c : Cell) (o : Option ℕ) → h.cell ≡ c → h.stamped ≡ o → Member d (claimed_node c o (claimed_nodes hs)) → IsClaim (h ∷ hs) d
    by_cell rest (cell.Node n) None e f j = ⊎_elim (λ (is : d ≡ node n). (n, is, (h, inl refl, f, e))) (λ (k : Member d (claimed_nodes hs)). later (rest k)) j
    by_cell rest (cell.Node n) (Some x) e f j = later (rest j)
    by_cell rest cell.Anchor o e f j = later (rest j)
    by_cell rest (cell.Leaf l) o e f j = later (rest j)

is_claimed : (hs : List Holding) (h : Holding) (n : Node) → Member h hs → h.cell ≡ cell.Node n → h.stamped ≡ None → Member (node n) (claimed_nodes hs)
is_claimed [] h n i e f = absurd i
is_claimed (k ∷ hs) h n i e f = ⊎_elim
    (λ (is : h ≡ k). subst₂ (λ (c : Cell) (o : Option ℕ). Member (node n) (claimed_node c o (claimed_nodes hs))) (sym e ∙ ap (λ (j : Holding). j.cell) is) (sym f ∙ ap (λ (j : Holding). j.stamped) is) (inl refl))
    (λ (j : Member h hs). over k.cell k.stamped (is_claimed hs h n j e f))
    i
  where
    over : (c : Cell) (o : Option ℕ) → Member (node n) (claimed_nodes hs) → Member (node n) (claimed_node c o (claimed_nodes hs))
    over (cell.Node m) None j = inr j
    over (cell.Node m) (Some x) j = j
    over cell.Anchor o j = j
    over (cell.Leaf l) o j = j

claim_comes : (v : View) (d : Link) → IsClaim v.held d → Member d (claimed_nodes v.held)
claim_comes v d k = subst (λ (e : Link). Member e (claimed_nodes v.held)) (sym k.1) (is_claimed v.held k.2.0 k.0 k.2.1 k.2.3 k.2.2)

pub claimed_nodes_come : ClaimedNodesCome
claimed_nodes_come v None d = (
  (λ i. inr (claimed_is v.held d i)),
  ⊎_elim (λ (e : None ≡ Some d). absurd (cc)) (claim_comes v d),
)
claimed_nodes_come v (Some c) d = (
  ⊎_elim (λ (e : d ≡ c). inl (ap Some (sym e))) (λ (i : Member d (claimed_nodes v.held)). inr (claimed_is v.held d i)),
  ⊎_elim (λ (e : Some c ≡ Some d). inl (sym (same_Some c d e))) (λ (k : IsClaim v.held d). inr (claim_comes v d k)),
)
