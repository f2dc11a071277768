use Rattle.std.proofs.Common.{◌≡◌, ◌≤◌, ℕ, ◌-◌, List, length, get_or, Option, Some, None, refl, subst, sym, ap, ◌∙◌}
use Rattle.std.proofs.lemmas.Option.{same_Some}
use Rattle.art_cell.specs.Words.{child_of}
use Rattle.art_cell.specs.declared.cells.Cell.TheVariants as cell
use Rattle.art_cell.specs.declared.node_kinds.Entry.{Entry}
use Rattle.art_plan.proofs.FoundLeaves.{found_deep}
use Rattle.art_plan.proofs.LedChildren.{child_led}
use Rattle.art_plan.proofs.WholeCells.{node_whole}
use Rattle.art_plan.specs.ArtFind.ReadSets.{node_of}
use Rattle.art_plan.proofs.OtherChildren.{beside_there, other_has, other_named, read_all}
use Rattle.art_plan.specs.ChooseRemove.Others.{IsBeside, IsReadOf}
use Rattle.art_plan.specs.ChooseRemove.Seen.{IsSeen}
use Rattle.art_plan.specs.ArtFind.declared.read_sets.ReadSet.{ReadSet}
use Rattle.art_step.specs.declared.views.Sizes.{Sizes}
use Rattle.art_plan.proofs.choose_remove.other_child.Goals as goal
use Rattle.art_plan.proofs.choose_remove.other_child.Goals.{After-beside, After-last_byte}

-- ---- the leaf's byte, where the cell was seen

byte_there : (c : After-last_byte) (z : Sizes) (read_set : ReadSet) → IsSeen z c.args.old.now.key.items c.args.position.now read_set
    → c.last_byte.result ≡ Some (get_or c.args.old.now.key.items (c.args.position.now.depth - 1) 0)
byte_there c z read_set seen =
    let t = c.args.position.now in
    let key = c.args.old.now.key.items in
    let deep : t.depth ≤ length c.as_slice.result.now = subst (λ (bytes : List ℕ). t.depth ≤ length bytes) (sym c.as_slice.ensures.value) seen.0.standing.deep in
    c.last_byte.ensures (found_deep z t read_set c.args.old.now c.requires.found seen c.in-Node.node c.in-Node.is) deep
    ∙ ap (λ (bytes : List ℕ). Some (get_or bytes (t.depth - 1) 0)) c.as_slice.ensures.value

pub returns-in_err-byte-clause-other : goal.returns-in_err-byte-clause-other
returns-in_err-byte-clause-other c = λ z read_set same seen goes.
    let no = sym c.in_err-byte.was ∙ byte_there (goal.at.returns-in_err-byte-clause-other c).After-last_byte z read_set seen in
    absurd (cc)

-- ---- the words that were read are those of a node of the tree

told : (c : After-beside) (z : Sizes) (read_set : ReadSet) (same : node_of read_set ≡ node_of c.args.read_set.now) (seen : IsSeen z c.args.old.now.key.items c.args.position.now read_set)
    → c.last_byte.result ≡ Some (get_or c.args.old.now.key.items (c.args.position.now.depth - 1) 0) → (r : Option Entry) → c.beside.result ≡ r
    → IsBeside (child_of c.in-Node.node.layout (seen.0.tree (cell.Node c.in-Node.node))) (get_or c.args.old.now.key.items (c.args.position.now.depth - 1) 0) r
told c z read_set same seen there r is =
    let t = c.args.position.now in
    let n = c.in-Node.node in
    let w = seen.0.tree (cell.Node n) in
    let last = get_or c.args.old.now.key.items (t.depth - 1) 0 in
    let all = read_all z t read_set c.args.old.now c.requires.found seen n c.in-Node.is in
    subst (IsBeside (child_of n.layout w) last) is
    (subst (λ (b : ℕ). IsBeside (child_of n.layout w) b c.beside.result) (same_Some c.in_ok-byte.byte last (sym c.in_ok-byte.was ∙ there))
    (c.beside.ensures.beside w (subst (λ (reads : List (Option ℕ)). IsReadOf n.layout reads w) (same ∙ sym c.node.ensures) all)))

pub returns-in_err-entry-clause-other : goal.returns-in_err-entry-clause-other
returns-in_err-entry-clause-other c = λ z read_set same seen goes.
    let at = goal.at.returns-in_err-entry-clause-other c in
    absurd (beside_there z c.args.position.now read_set c.args.old.now c.requires.found seen c.in-Node.node c.in-Node.is None
    (told at.After-beside z read_set same seen (byte_there at.After-last_byte z read_set seen) None c.in_err-entry.was) refl)

pub returns-in_err-link-clause-other : goal.returns-in_err-link-clause-other
returns-in_err-link-clause-other c = λ z read_set same seen goes.
    let at = goal.at.returns-in_err-link-clause-other c in
    let entry = c.in_ok-entry.entry in
    let beside = told at.After-beside z read_set same seen (byte_there at.After-last_byte z read_set seen) (Some entry) c.in_ok-entry.was in
    absurd (other_named z c.args.position.now read_set c.args.old.now c.requires.found seen c.in-Node.node c.in-Node.is entry.byte entry.child c.in_ok-entry.ensures.low beside.1
    (sym c.link_in.ensures ∙ c.in_err-link.was))

pub returns-clause-other : goal.returns-clause-other
returns-clause-other c = λ z read_set same seen goes.
    let at = goal.at.returns-clause-other c in
    let entry = c.in_ok-entry.entry in
    let beside = told at.After-beside z read_set same seen (byte_there at.After-last_byte z read_set seen) (Some entry) c.in_ok-entry.was in (
      entry.byte,
      c.in_ok-link.link,
      refl,
      other_has z c.args.position.now read_set c.args.old.now c.requires.found seen c.in-Node.node c.in-Node.is goes entry.byte entry.child c.in_ok-entry.ensures.low beside.0 beside.1
          c.in_ok-link.link (sym c.link_in.ensures ∙ c.in_ok-link.was),
    )

pub returns-clause-led : goal.returns-clause-led
returns-clause-led c = λ z v standing known.
    let at = goal.at.returns-clause-led c in
    let t = c.args.position.now in
    let key = c.args.old.now.key.items in
    let entry = c.in_ok-entry.entry in
    child_led z v t.stamp (node_of c.args.read_set.now) (node_whole z key t c.args.read_set.now v standing known) c.in-Node.node c.in-Node.is
    entry.byte entry.child c.in_ok-link.link c.in_ok-entry.ensures.low (sym c.link_in.ensures ∙ c.in_ok-link.was)
    (λ s shape holds.
    let seen : IsSeen z key t c.args.read_set.now = (record { view = v; standing = standing; tree = s; shape = shape; holds = holds }, known) in
    (told at.After-beside z c.args.read_set.now refl seen (byte_there at.After-last_byte z c.args.read_set.now seen) (Some entry) c.in_ok-entry.was).1)
