use Rattle.std.proofs.Common.{◌<◌, ◌≤◌, ◌-◌, ◌∙◌, ◌≡◌, ℕ, List, [], ◌∷◌, Option, length, get_or, subst, sym, ap, arith, inl, inr, refl}
use Rattle.art_plan.proofs.FoundLeaves.{found_deep}
use Rattle.art_plan.proofs.SmallerNodes.{node_sparse, shrink_knows, smaller_apart}
use Rattle.art_plan.specs.ChooseRemove.Plans.{IsEitherAt}
use Rattle.art_plan.proofs.AbovePuts.{above_puts}
use Rattle.art_plan.proofs.AboveSites.{above_deep, above_taken}
use Rattle.art_cell.specs.declared.cells.Link.TheVariants.{Node as node}
use Rattle.art_plan.specs.ChooseInsert.Plans.{WasReadOf}
use Rattle.art_plan.proofs.ChildSites.{site_named, stamp_in}
use Rattle.art_plan.proofs.LockedCells.{two_locked}
use Rattle.art_plan.specs.ChooseInsert.Bodies.{IsFilled}
use Rattle.art_plan.specs.Puts.{IsTaken}
use Rattle.art_plan.specs.Seen.{gone, kept, site_stamp}
use Rattle.art_plan.specs.Remove.Removals.{IsSparse, smaller_node}
use Rattle.art_plan.specs.ChooseRemove.Plans.{node_words}
use Rattle.art_plan.specs.Remove.Removals.{remove_effects}
use Rattle.art_cell.specs.declared.cells.Cell.{Cell}
use Rattle.art_plan.proofs.choose_remove.plan_shrink.Goals as goal

pub site_at-site-requires-clause-some : goal.site_at-site-requires-clause-some
site_at-site-requires-clause-some c =
    above_deep c.requires.seen.0 c.args.old.now.key.items c.args.position.now c.args.read_set.now c.in-Node.node c.in-Node.is c.in-Some.above c.in-Some.is (c.requires.seen.1.above c.in-Some.above c.in-Some.is)

pub shrink-requires-clause-taken : goal.shrink-requires-clause-taken
shrink-requires-clause-taken c =
    let a = c.in-Some.above in
    let is = site_named a.stamp _ c.as_slice-key.result.now c.args.old.now.key.items a.depth c.site_at-site.result c.site_at-site.ensures.site c.as_slice-key.ensures.value in
    let filled = subst (λ (reads : List (Option ℕ)). IsFilled a.stamp.cell reads c.fill-2.new.body) c.above.ensures c.fill-2.ensures in
    subst IsTaken (sym is)
    (above_taken c.requires.seen.0 c.args.old.now.key.items c.args.position.now c.args.read_set.now c.in-Node.node c.in-Node.is a c.in-Some.is (c.requires.seen.1.above a c.in-Some.is) _ filled)

pub shrink-requires-clause-sparse : goal.shrink-requires-clause-sparse
shrink-requires-clause-sparse c =
    let t = c.args.position.now in
    let filled = subst (λ (reads : List (Option ℕ)). IsFilled t.stamp.cell reads c.fill.new.body) c.node.ensures c.fill.ensures in
    let byte = c.byte_at-byte.ensures.byte ∙ ap (λ (bytes : List ℕ). get_or bytes (t.depth - 1) 0) c.as_slice-key.ensures.value in
    subst (IsSparse c.fill.new.body) (sym byte)
    (node_sparse c.requires.seen.0 t c.args.read_set.now c.args.old.now c.requires.found c.requires.shrinks.0 c.requires.shrinks.1 c.in-Node.node c.in-Node.is c.requires.seen.1.node c.fill.new.body filled)

pub returns-clause-planned : goal.returns-clause-planned
returns-clause-planned c = λ z u seen standing hand.
    let t = c.args.position.now in
    let a = c.in-Some.above in
    let old = c.args.old.now in
    let is = site_named a.stamp _ c.as_slice-key.result.now old.key.items a.depth c.site_at-site.result c.site_at-site.ensures.site c.as_slice-key.ensures.value in
    let upper = subst (λ (reads : List (Option ℕ)). IsFilled a.stamp.cell reads c.fill-2.new.body) c.above.ensures c.fill-2.ensures in
    let lower = subst (λ (reads : List (Option ℕ)). IsFilled t.stamp.cell reads c.fill.new.body) c.node.ensures c.fill.ensures in
    let byte = c.byte_at-byte.ensures.byte ∙ ap (λ (bytes : List ℕ). get_or bytes (t.depth - 1) 0) c.as_slice-key.ensures.value in
    let low = subst (λ (bytes : List ℕ). get_or bytes (a.depth - 1) 0 < 256) c.as_slice-key.ensures.value c.site_at-site.ensures.low in
    c.shrink.ensures.planned z u a.depth
    (shrink_knows z t c.args.read_set.now old c.requires.found c.requires.shrinks.0 c.requires.shrinks.1 c.in-Node.node c.in-Node.is a c.in-Some.is _ _ upper lower c.args.made c.site_at-site.result is
    u seen standing hand low c.byte_at-byte.result byte)

pub overflow_sub-position : goal.overflow_sub-position
overflow_sub-position c = found_deep c.requires.seen.0 c.args.position.now c.args.read_set.now c.args.old.now c.requires.found c.requires.seen.1.node c.in-Node.node c.in-Node.is

pub byte_at-byte-requires : goal.byte_at-byte-requires
byte_at-byte-requires c =
    let some = found_deep c.requires.seen.0 c.args.position.now c.args.read_set.now c.args.old.now c.requires.found c.requires.seen.1.node c.in-Node.node c.in-Node.is in
    let deep : c.args.position.now.depth ≤ length c.as_slice-key.result.now = subst (λ (bytes : List ℕ). c.args.position.now.depth ≤ length bytes) (sym c.as_slice-key.ensures.value) c.requires.seen.1.node.0.standing.deep in
    omega (arith, some, deep)

pub returns-clause-locks : goal.returns-clause-locks
returns-clause-locks c =
    let t = c.args.position.now in
    let a = c.in-Some.above in
    let upper : site_stamp c.site_at-site.result ≡ a.stamp = ap site_stamp c.site_at-site.ensures.site ∙ stamp_in a.stamp _ _ in
    two_locked (IsEitherAt t) c.shrink.new.change (kept (site_stamp c.site_at-site.result)) (inr (a, c.in-Some.is, upper)) (gone t.stamp) (inl refl) (c.shrink.ensures.locks)

pub returns-clause-effects : goal.returns-clause-effects
returns-clause-effects c = c.shrink.ensures.effects ∙ ap (λ (x : Cell). remove_effects c.args.old.now (node_words x)) (sym c.in-Node.is)

pub returns-clause-changes : goal.returns-clause-changes
returns-clause-changes c =
    let z = c.requires.seen.0 in
    let t = c.args.position.now in
    let a = c.in-Some.above in
    let old = c.args.old.now in
    let read_set = c.args.read_set.now in
    let n = c.in-Node.node in
    let seen = c.requires.seen.1 in
    let site = c.site_at-site.result in
    let is = site_named a.stamp _ c.as_slice-key.result.now old.key.items a.depth site c.site_at-site.ensures.site
    c.as_slice-key.ensures.value in
    let upper = subst (λ (reads : List (Option ℕ)). IsFilled a.stamp.cell reads c.fill-2.new.body) c.above.ensures c.fill-2.ensures in
    let lower = subst (λ (reads : List (Option ℕ)). IsFilled t.stamp.cell reads c.fill.new.body) c.node.ensures c.fill.ensures in
    above_puts z old.key.items t read_set n c.in-Node.is a c.in-Some.is (seen.above a c.in-Some.is) _ upper site is
    (WasReadOf t read_set) (inr (a, c.in-Some.is, refl, refl)) c.shrink.new.change (gone t.stamp ∷ []) c.shrink.ensures.locks
    (node (smaller_node c.fill.new.body c.args.made))
    (smaller_apart z t read_set old c.requires.found c.requires.shrinks.0 c.requires.shrinks.1 n c.in-Node.is seen.node c.fill.new.body
    lower c.args.made) c.shrink.ensures.puts
