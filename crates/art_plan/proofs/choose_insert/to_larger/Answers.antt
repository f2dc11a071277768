use Rattle.std.proofs.Common.{◌<◌, ◌∙◌, ◌≡◌, ℕ, List, [], ◌∷◌, Option, get_or, subst, sym, ap, inl, inr, refl}
use Rattle.art_cell.specs.declared.cells.Link.TheVariants.{Node as node}
use Rattle.art_plan.proofs.AbovePuts.{above_puts}
use Rattle.art_plan.proofs.AboveSites.{above_deep, above_taken}
use Rattle.art_plan.proofs.ChildSites.{site_named, stamp_in}
use Rattle.art_plan.proofs.FreeBytes.{byte_crowded, free_on}
use Rattle.art_plan.proofs.FullNodes.{full_apart, full_knows}
use Rattle.art_plan.proofs.LockedCells.{two_locked}
use Rattle.art_plan.specs.ChooseInsert.Bodies.{IsFilled}
use Rattle.art_plan.specs.ChooseInsert.Plans.{IsLockedAt, WasReadOf}
use Rattle.art_plan.specs.Puts.{IsCrowded, IsTaken}
use Rattle.art_plan.specs.Seen.{gone, kept, site_stamp}
use Rattle.art_plan.specs.Insert.Puts.{insert_effects, larger_node}
use Rattle.art_plan.proofs.FullNodes.{full_gives_way}
use Rattle.art_plan.proofs.choose_insert.to_larger.Goals as goal

pub site_at-site-requires-clause-some : goal.site_at-site-requires-clause-some
site_at-site-requires-clause-some c =
    let z = c.requires.seen.0 in
    let t = c.args.position.now in
    let key = c.args.new.now.key.items in
    let read_set = c.args.read_set.now in
    above_deep z key t read_set c.in-NoChild.node (free_on z key t read_set c.in-NoChild.node c.in-NoChild.header c.in-NoChild.is c.requires.seen.1) c.in-Some.above c.in-Some.is (c.requires.seen.1.above c.in-Some.above c.in-Some.is c.requires.full)

pub grow-requires-clause-taken : goal.grow-requires-clause-taken
grow-requires-clause-taken c =
    let z = c.requires.seen.0 in
    let t = c.args.position.now in
    let a = c.in-Some.above in
    let key = c.args.new.now.key.items in
    let read_set = c.args.read_set.now in
    let is = site_named a.stamp _ c.as_slice-key.result.now key a.depth c.site_at-site.result c.site_at-site.ensures.site c.as_slice-key.ensures.value in
    let filled = subst (λ (reads : List (Option ℕ)). IsFilled a.stamp.cell reads c.fill-2.new.body) c.above.ensures c.fill-2.ensures in
    subst IsTaken (sym is)
    (above_taken z key t read_set c.in-NoChild.node (free_on z key t read_set c.in-NoChild.node c.in-NoChild.header c.in-NoChild.is c.requires.seen.1) a c.in-Some.is (c.requires.seen.1.above a c.in-Some.is c.requires.full) _ filled)

pub grow-requires-clause-crowded : goal.grow-requires-clause-crowded
grow-requires-clause-crowded c =
    let z = c.requires.seen.0 in
    let t = c.args.position.now in
    let key = c.args.new.now.key.items in
    let filled = subst (λ (reads : List (Option ℕ)). IsFilled t.stamp.cell reads c.fill.new.body) c.node.ensures c.fill.ensures in
    let byte = c.byte_at-byte.ensures.byte ∙ ap (λ (bytes : List ℕ). get_or bytes t.depth 0) c.as_slice-key.ensures.value in
    let low = subst (λ (b : ℕ). b < 256) byte c.byte_at-byte.ensures.low in
    subst (IsCrowded c.fill.new.body) (sym byte)
    (byte_crowded z key t c.args.read_set.now c.in-NoChild.node c.in-NoChild.header c.in-NoChild.is c.requires.seen.1 c.fill.new.body filled low c.requires.full)

pub returns-clause-planned : goal.returns-clause-planned
returns-clause-planned c = λ z u seen standing hand needed.
    let t = c.args.position.now in
    let a = c.in-Some.above in
    let new = c.args.new.now in
    let is = site_named a.stamp _ c.as_slice-key.result.now new.key.items a.depth c.site_at-site.result c.site_at-site.ensures.site c.as_slice-key.ensures.value in
    let upper = subst (λ (reads : List (Option ℕ)). IsFilled a.stamp.cell reads c.fill-2.new.body) c.above.ensures c.fill-2.ensures in
    let lower = subst (λ (reads : List (Option ℕ)). IsFilled t.stamp.cell reads c.fill.new.body) c.node.ensures c.fill.ensures in
    let byte = c.byte_at-byte.ensures.byte ∙ ap (λ (bytes : List ℕ). get_or bytes t.depth 0) c.as_slice-key.ensures.value in
    c.grow.ensures.planned z u a.depth
    (full_knows z t c.args.read_set.now new c.in-NoChild.node c.in-NoChild.header c.args.made c.in-NoChild.is a c.in-Some.is c.requires.full seen _ _ upper lower u c.site_at-site.result is standing hand needed
    c.byte_at-byte.result byte)

pub returns-clause-locks : goal.returns-clause-locks
returns-clause-locks c =
    let t = c.args.position.now in
    let a = c.in-Some.above in
    let upper : site_stamp c.site_at-site.result ≡ a.stamp = ap site_stamp c.site_at-site.ensures.site ∙ stamp_in a.stamp _ _ in
    two_locked (IsLockedAt t) c.grow.new.change (kept (site_stamp c.site_at-site.result)) (inr (a, c.in-Some.is, c.requires.full, upper)) (gone t.stamp) (inl refl) (c.grow.ensures.locks)

pub returns-clause-effects : goal.returns-clause-effects
returns-clause-effects c = c.grow.ensures.effects ∙ ap (insert_effects c.args.new.now) (
    sym (full_gives_way c.args.position.now c.in-NoChild.node c.in-NoChild.header c.in-NoChild.is c.requires.full))

pub returns-clause-changes : goal.returns-clause-changes
returns-clause-changes c =
    let z = c.requires.seen.0 in
    let t = c.args.position.now in
    let a = c.in-Some.above in
    let new = c.args.new.now in
    let read_set = c.args.read_set.now in
    let n = c.in-NoChild.node in
    let seen = c.requires.seen.1 in
    let site = c.site_at-site.result in
    let is = site_named a.stamp _ c.as_slice-key.result.now new.key.items a.depth site c.site_at-site.ensures.site
    c.as_slice-key.ensures.value in
    let upper = subst (λ (reads : List (Option ℕ)). IsFilled a.stamp.cell reads c.fill-2.new.body) c.above.ensures c.fill-2.ensures in
    let lower = subst (λ (reads : List (Option ℕ)). IsFilled t.stamp.cell reads c.fill.new.body) c.node.ensures c.fill.ensures in
    above_puts z new.key.items t read_set n (free_on z new.key.items t read_set n c.in-NoChild.header c.in-NoChild.is seen) a c.in-Some.is
    (seen.above a c.in-Some.is c.requires.full) _ upper site is
    (WasReadOf t read_set) (inr (a, c.in-Some.is, refl, refl)) c.grow.new.change (gone t.stamp ∷ []) c.grow.ensures.locks
    (node (larger_node c.fill.new.body c.args.made))
    (full_apart z t read_set new n c.in-NoChild.header c.args.made c.in-NoChild.is a c.in-Some.is c.requires.full seen c.fill.new.body
    lower) c.grow.ensures.puts
