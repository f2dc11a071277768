use Rattle.std.proofs.Common.{◌<◌, ◌-◌, ◌≡◌, ◌∙◌, ℕ, List, [], ◌∷◌, Option, get_or, subst, sym, ap, inl, inr, refl}
use Rattle.art_plan.proofs.OtherChildren.{merge_leaf_knows}
use Rattle.art_plan.specs.ChooseRemove.Plans.{IsEitherAt}
use Rattle.art_plan.proofs.AbovePuts.{above_puts}
use Rattle.art_plan.proofs.AboveSites.{above_deep, above_taken}
use Rattle.art_cell.specs.declared.cells.Link.TheVariants.{Leaf as leaf}
use Rattle.art_plan.specs.ChooseInsert.Plans.{WasReadOf}
use Rattle.art_plan.proofs.ChildSites.{site_named, stamp_in}
use Rattle.art_plan.proofs.LockedCells.{two_locked}
use Rattle.art_plan.specs.ChooseInsert.Bodies.{IsFilled}
use Rattle.art_plan.specs.Puts.{IsTaken}
use Rattle.art_plan.specs.Seen.{gone, kept, site_stamp}
use Rattle.art_plan.specs.ChooseRemove.Plans.{node_words}
use Rattle.art_plan.specs.Remove.Removals.{remove_effects}
use Rattle.art_cell.specs.declared.cells.Cell.{Cell}
use Rattle.art_plan.proofs.choose_remove.plan_merge_leaf.Goals as goal

pub site_at-site-requires-clause-some : goal.site_at-site-requires-clause-some
site_at-site-requires-clause-some c =
    above_deep c.requires.seen.0 c.args.old.now.key.items c.args.position.now c.args.read_set.now c.in-Node.node c.in-Node.is c.in-Some.above c.in-Some.is (c.requires.seen.1.above c.in-Some.above c.in-Some.is)

pub merge_leaf-requires : goal.merge_leaf-requires
merge_leaf-requires c =
    let a = c.in-Some.above in
    let is = site_named a.stamp _ c.as_slice-key.result.now c.args.old.now.key.items a.depth c.site_at-site.result c.site_at-site.ensures.site c.as_slice-key.ensures.value in
    let filled = subst (λ (reads : List (Option ℕ)). IsFilled a.stamp.cell reads c.fill-2.new.body) c.above.ensures c.fill-2.ensures in
    subst IsTaken (sym is)
    (above_taken c.requires.seen.0 c.args.old.now.key.items c.args.position.now c.args.read_set.now c.in-Node.node c.in-Node.is a c.in-Some.is (c.requires.seen.1.above a c.in-Some.is) _ filled)

pub returns-clause-planned : goal.returns-clause-planned
returns-clause-planned c = λ z u seen standing.
    let t = c.args.position.now in
    let a = c.in-Some.above in
    let old = c.args.old.now in
    let is = site_named a.stamp _ c.as_slice-key.result.now old.key.items a.depth c.site_at-site.result c.site_at-site.ensures.site c.as_slice-key.ensures.value in
    let upper = subst (λ (reads : List (Option ℕ)). IsFilled a.stamp.cell reads c.fill-2.new.body) c.above.ensures c.fill-2.ensures in
    let lower = subst (λ (reads : List (Option ℕ)). IsFilled t.stamp.cell reads c.fill.new.body) c.node.ensures c.fill.ensures in
    let low = subst (λ (bytes : List ℕ). get_or bytes (a.depth - 1) 0 < 256) c.as_slice-key.ensures.value c.site_at-site.ensures.low in
    c.merge_leaf.ensures.planned z u a.depth (get_or old.key.items (t.depth - 1) 0) c.requires.other.0
    (merge_leaf_knows t c.args.read_set.now old a c.in-Some.is _ upper c.site_at-site.result is z u c.requires.found c.in-Node.node c.in-Node.is c.requires.other.0 c.args.other c.requires.other.1 _ lower seen standing low)

pub returns-clause-locks : goal.returns-clause-locks
returns-clause-locks c =
    let t = c.args.position.now in
    let a = c.in-Some.above in
    let upper : site_stamp c.site_at-site.result ≡ a.stamp = ap site_stamp c.site_at-site.ensures.site ∙ stamp_in a.stamp _ _ in
    two_locked (IsEitherAt t) c.merge_leaf.new.change (kept (site_stamp c.site_at-site.result)) (inr (a, c.in-Some.is, upper)) (gone t.stamp) (inl refl) (c.merge_leaf.ensures.locks)

pub returns-clause-effects : goal.returns-clause-effects
returns-clause-effects c = c.merge_leaf.ensures.effects ∙ ap (λ (x : Cell). remove_effects c.args.old.now (node_words x)) (sym c.in-Node.is)

pub returns-clause-changes : goal.returns-clause-changes
returns-clause-changes c =
    let z = c.requires.seen.0 in
    let t = c.args.position.now in
    let a = c.in-Some.above in
    let old = c.args.old.now in
    let read_set = c.args.read_set.now in
    let seen = c.requires.seen.1 in
    let site = c.site_at-site.result in
    let is = site_named a.stamp _ c.as_slice-key.result.now old.key.items a.depth site c.site_at-site.ensures.site
    c.as_slice-key.ensures.value in
    let upper = subst (λ (reads : List (Option ℕ)). IsFilled a.stamp.cell reads c.fill-2.new.body) c.above.ensures c.fill-2.ensures in
    above_puts z old.key.items t read_set c.in-Node.node c.in-Node.is a c.in-Some.is (seen.above a c.in-Some.is) _ upper site is
    (WasReadOf t read_set) (inr (a, c.in-Some.is, refl, refl)) c.merge_leaf.new.change (gone t.stamp ∷ []) c.merge_leaf.ensures.locks
    (leaf c.args.other) (λ same. absurd (cc)) c.merge_leaf.ensures.puts
