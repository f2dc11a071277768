use Rattle.std.proofs.Common.{◌≡◌, ◌+◌, ◌-◌, ◌∙◌, ℕ, List, [], Option, get_or, subst, sym, ap, arith, inl, refl}
use Rattle.art_cell.specs.declared.cells.Link.TheVariants.{Node as node}
use Rattle.art_plan.proofs.ChildSites.{site_named, stamp_in}
use Rattle.art_plan.proofs.LockedCells.{one_locked}
use Rattle.art_plan.proofs.NewWords.{child_puts}
use Rattle.art_plan.proofs.OtherLeaves.{leaf_apart, leaf_behind, leaf_deep, leaf_inside, leaf_knows, leaf_root, leaf_site, leaf_taken}
use Rattle.art_plan.specs.ChooseInsert.Bodies.{IsFilled}
use Rattle.art_plan.specs.ChooseInsert.Plans.{IsLockedAt, WasReadOf}
use Rattle.art_plan.specs.Insert.Cases.{IsForkLeaf}
use Rattle.art_plan.specs.Insert.Puts.{node4}
use Rattle.art_find.specs.ReadSets.{node_of}
use Rattle.art_plan.specs.Puts.{IsTaken}
use Rattle.art_plan.specs.Seen.{kept, site_stamp}
use Rattle.art_plan.specs.declared.changes.Site.{Site}
use Rattle.art_plan.proofs.choose_insert.beside_leaf.Goals as goal

pub site_at-site-requires-clause-some : goal.site_at-site-requires-clause-some
site_at-site-requires-clause-some c =
    leaf_deep c.requires.seen.0 c.args.new.now.key.items c.args.position.now c.args.read_set.now c.in-LeafMismatch.other c.in-LeafMismatch.at c.in-LeafMismatch.byte c.in-LeafMismatch.is c.requires.seen.1

pub overflow_sub-parting : goal.overflow_sub-parting
overflow_sub-parting c =
    leaf_behind c.requires.seen.0 c.args.new.now.key.items c.args.position.now c.args.read_set.now c.in-LeafMismatch.other c.in-LeafMismatch.at c.in-LeafMismatch.byte c.in-LeafMismatch.is c.requires.seen.1

pub fork_leaf-requires-clause-taken : goal.fork_leaf-requires-clause-taken
fork_leaf-requires-clause-taken c =
    let t = c.args.position.now in
    let key = c.args.new.now.key.items in
    let is = site_named t.stamp _ c.as_slice.result.now key t.depth c.site_at-site.result c.site_at-site.ensures.site c.as_slice.ensures.value in
    let filled = subst (λ (reads : List (Option ℕ)). IsFilled t.stamp.cell reads c.fill.new.body) c.node.ensures c.fill.ensures in
    subst IsTaken (sym is) (leaf_taken c.requires.seen.0 key t c.args.read_set.now c.in-LeafMismatch.other c.in-LeafMismatch.at c.in-LeafMismatch.byte c.in-LeafMismatch.is c.requires.seen.1 _ filled)

pub fork_leaf-requires-clause-inside : goal.fork_leaf-requires-clause-inside
fork_leaf-requires-clause-inside c =
    let t = c.args.position.now in
    let key = c.args.new.now.key.items in
    let behind = leaf_behind c.requires.seen.0 key t c.args.read_set.now c.in-LeafMismatch.other c.in-LeafMismatch.at c.in-LeafMismatch.byte c.in-LeafMismatch.is c.requires.seen.1 in
    let inside = leaf_inside c.requires.seen.0 key t c.args.read_set.now c.in-LeafMismatch.other c.in-LeafMismatch.at c.in-LeafMismatch.byte c.in-LeafMismatch.is c.requires.seen.1 in
    omega (arith, behind, inside)

pub fork_leaf-requires-clause-apart : goal.fork_leaf-requires-clause-apart
fork_leaf-requires-clause-apart c =
    let t = c.args.position.now in
    let key = c.args.new.now.key.items in
    let behind = leaf_behind c.requires.seen.0 key t c.args.read_set.now c.in-LeafMismatch.other c.in-LeafMismatch.at c.in-LeafMismatch.byte c.in-LeafMismatch.is c.requires.seen.1 in
    let all : t.depth + (c.in-LeafMismatch.at - t.depth) ≡ c.in-LeafMismatch.at = omega (arith, behind) in
    λ e. leaf_apart c.requires.seen.0 key t c.args.read_set.now c.in-LeafMismatch.other c.in-LeafMismatch.at c.in-LeafMismatch.byte c.in-LeafMismatch.is c.requires.seen.1 (e ∙ ap (λ (i : ℕ). get_or key i 0) all)

pub returns-clause-planned : goal.returns-clause-planned
returns-clause-planned c = λ z u seen standing hand needed.
    let t = c.args.position.now in
    let key = c.args.new.now.key.items in
    let is = site_named t.stamp _ c.as_slice.result.now key t.depth c.site_at-site.result c.site_at-site.ensures.site c.as_slice.ensures.value in
    let filled = subst (λ (reads : List (Option ℕ)). IsFilled t.stamp.cell reads c.fill.new.body) c.node.ensures c.fill.ensures in
    c.fork_leaf.ensures.planned z u (subst (λ (site : Site). IsForkLeaf z u site c.args.new.now (record { depth = t.depth; common = c.in-LeafMismatch.at - t.depth }) c.in-LeafMismatch.other c.in-LeafMismatch.byte c.args.made) (sym is)
    (leaf_knows z t c.args.read_set.now c.args.new.now c.in-LeafMismatch.other c.in-LeafMismatch.at c.in-LeafMismatch.byte c.args.made c.in-LeafMismatch.is _ filled u seen standing hand needed))

pub returns-clause-locks : goal.returns-clause-locks
returns-clause-locks c =
    let upper : site_stamp c.site_at-site.result ≡ c.args.position.now.stamp = ap site_stamp c.site_at-site.ensures.site ∙ stamp_in c.args.position.now.stamp _ _ in
    one_locked (IsLockedAt c.args.position.now) c.fork_leaf.new.change (kept (site_stamp c.site_at-site.result)) (inl upper) (c.fork_leaf.ensures.locks)

pub returns-clause-changes : goal.returns-clause-changes
returns-clause-changes c =
    let z = c.requires.seen.0 in
    let t = c.args.position.now in
    let key = c.args.new.now.key.items in
    let read_set = c.args.read_set.now in
    let seen = c.requires.seen.1 in
    let m = c.in-LeafMismatch in
    let site = c.site_at-site.result in
    let is = site_named t.stamp _ c.as_slice.result.now key t.depth site c.site_at-site.ensures.site c.as_slice.ensures.value in
    let filled = subst (λ (reads : List (Option ℕ)). IsFilled t.stamp.cell reads c.fill.new.body) c.node.ensures c.fill.ensures in
    let upper : site_stamp site ≡ t.stamp = ap site_stamp c.site_at-site.ensures.site ∙ stamp_in t.stamp _ _ in
    child_puts (WasReadOf t read_set) c.fork_leaf.new.change (kept (site_stamp site)) [] c.fork_leaf.ensures.locks t.stamp
    (node_of read_set) (inl (upper, refl)) seen.whole site
    (leaf_site z key t read_set m.other m.at m.byte m.is seen _ filled site is) (node (node4 c.args.made))
    (leaf_root z key t read_set m.other m.at m.byte m.is seen (node (node4 c.args.made)) (λ same. absurd (cc))) c.fork_leaf.ensures.puts
