use Rattle.std.proofs.Common.{◌<◌, ◌-◌, ◌≡◌, ◌∙◌, ℕ, List, [], Option, get_or, subst, sym, ap, inl, refl}
use Rattle.art_plan.proofs.FoundLeaves.{drop_knows, found_deep, found_root, found_site, found_taken}
use Rattle.art_plan.proofs.LeftChildren.{keeps_two}
use Rattle.art_plan.specs.ChooseRemove.Plans.{IsNodeAt}
use Rattle.art_plan.proofs.ChildSites.{site_named, stamp_in}
use Rattle.art_plan.proofs.LockedCells.{one_locked}
use Rattle.art_plan.proofs.NewWords.{none_puts}
use Rattle.art_plan.specs.ChooseInsert.Plans.{WasReadOf}
use Rattle.art_plan.specs.ChooseInsert.Bodies.{IsFilled}
use Rattle.art_plan.specs.ArtFind.ReadSets.{node_of}
use Rattle.art_plan.specs.Puts.{IsTaken}
use Rattle.art_plan.specs.Seen.{kept, site_stamp}
use Rattle.art_plan.specs.declared.changes.Site.{Site}
use Rattle.art_plan.specs.Remove.Cases.{IsDrop}
use Rattle.art_plan.specs.Remove.Removals.{KeepsTwo}
use Rattle.art_plan.proofs.choose_remove.plan_drop.Goals as goal

pub site_at-site-requires-clause-some : goal.site_at-site-requires-clause-some
site_at-site-requires-clause-some c = found_deep c.requires.seen.0 c.args.position.now c.args.read_set.now c.args.old.now c.requires.found c.requires.seen.1

pub drop-requires-clause-taken : goal.drop-requires-clause-taken
drop-requires-clause-taken c =
    let t = c.args.position.now in
    let is = site_named t.stamp _ c.as_slice.result.now c.args.old.now.key.items t.depth c.site_at-site.result c.site_at-site.ensures.site c.as_slice.ensures.value in
    let filled = subst (λ (reads : List (Option ℕ)). IsFilled t.stamp.cell reads c.fill.new.body) c.node.ensures c.fill.ensures in
    subst IsTaken (sym is) (found_taken c.requires.seen.0 t c.args.read_set.now c.args.old.now c.requires.found c.requires.seen.1 _ filled)

pub drop-requires-clause-two : goal.drop-requires-clause-two
drop-requires-clause-two c =
    let t = c.args.position.now in
    let filled = subst (λ (reads : List (Option ℕ)). IsFilled t.stamp.cell reads c.fill.new.body) c.node.ensures c.fill.ensures in
    subst KeepsTwo (sym c.site_at-site.ensures.site) (keeps_two t c.args.read_set.now _ _ filled c.requires.stays)

pub returns-clause-planned : goal.returns-clause-planned
returns-clause-planned c = λ z u seen standing.
    let t = c.args.position.now in
    let old = c.args.old.now in
    let is = site_named t.stamp _ c.as_slice.result.now old.key.items t.depth c.site_at-site.result c.site_at-site.ensures.site c.as_slice.ensures.value in
    let filled = subst (λ (reads : List (Option ℕ)). IsFilled t.stamp.cell reads c.fill.new.body) c.node.ensures c.fill.ensures in
    let low = subst (λ (bytes : List ℕ). get_or bytes (t.depth - 1) 0 < 256) c.as_slice.ensures.value c.site_at-site.ensures.low in
    c.drop.ensures.planned z u t.depth (subst (λ (site : Site). IsDrop z u site old t.depth) (sym is) (drop_knows z t c.args.read_set.now old c.requires.found _ filled u seen standing low))

pub returns-clause-locks : goal.returns-clause-locks
returns-clause-locks c =
    let t = c.args.position.now in
    let upper : site_stamp c.site_at-site.result ≡ t.stamp = ap site_stamp c.site_at-site.ensures.site ∙ stamp_in t.stamp _ _ in
    one_locked (IsNodeAt t) c.drop.new.change (kept (site_stamp c.site_at-site.result)) upper (c.drop.ensures.locks)

pub returns-clause-changes : goal.returns-clause-changes
returns-clause-changes c =
    let z = c.requires.seen.0 in
    let t = c.args.position.now in
    let old = c.args.old.now in
    let read_set = c.args.read_set.now in
    let seen = c.requires.seen.1 in
    let site = c.site_at-site.result in
    let is = site_named t.stamp _ c.as_slice.result.now old.key.items t.depth site c.site_at-site.ensures.site c.as_slice.ensures.value in
    let filled = subst (λ (reads : List (Option ℕ)). IsFilled t.stamp.cell reads c.fill.new.body) c.node.ensures c.fill.ensures in
    let upper : site_stamp site ≡ t.stamp = ap site_stamp c.site_at-site.ensures.site ∙ stamp_in t.stamp _ _ in
    none_puts (WasReadOf t read_set) c.drop.new.change (kept (site_stamp site)) [] c.drop.ensures.locks t.stamp (node_of read_set)
    (inl (upper, refl)) seen.1 site
    (found_site z t read_set old c.requires.found seen _ filled site is) (found_root z t read_set old c.requires.found seen)
    c.drop.ensures.puts
