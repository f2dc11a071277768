use Rattle.std.proofs.Common.{◌≡◌, ◌<◌, ◌+◌, ◌∙◌, ℕ, List, [], Option, get_or, subst, sym, ap, inl, refl}
use Rattle.art_cell.specs.declared.cells.Cell.TheVariants as cell
use Rattle.art_cell.specs.declared.cells.Link.TheVariants.{Leaf as leaf}
use Rattle.art_plan.proofs.FreeBytes.{byte_knows, byte_room, free_on, slot_named}
use Rattle.art_plan.proofs.LockedCells.{one_locked}
use Rattle.art_plan.proofs.NewWords.{IsSiteOf, child_puts}
use Rattle.art_plan.specs.ChooseInsert.Bodies.{IsFilled}
use Rattle.art_plan.specs.ChooseInsert.Plans.{IsLockedAt, WasReadOf}
use Rattle.art_plan.specs.Insert.Cases.{IsAdd}
use Rattle.art_find.specs.ReadSets.{node_of}
use Rattle.art_plan.specs.Puts.{IsFree}
use Rattle.art_plan.specs.Seen.{kept, site_stamp}
use Rattle.art_plan.specs.declared.changes.Site.{Site}
use Rattle.art_plan.proofs.choose_insert.to_byte.Goals as goal

pub add-requires : goal.add-requires
add-requires c =
    let t = c.args.position.now in
    let key = c.args.new.now.key.items in
    let is = slot_named t.stamp _ c.as_slice-key.result.now key t.depth c.slot_at-site.result c.slot_at-site.ensures.slot c.as_slice-key.ensures.value in
    let filled = subst (λ (reads : List (Option ℕ)). IsFilled t.stamp.cell reads c.fill.new.body) c.node.ensures c.fill.ensures in
    let low = subst (λ (bytes : List ℕ). get_or bytes t.depth 0 < 256) c.as_slice-key.ensures.value c.slot_at-site.ensures.byte in
    subst IsFree (sym is) (byte_room c.requires.seen.0 key t c.args.read_set.now c.requires.free.0 c.requires.free.1 c.requires.free.2 c.requires.seen.1 c.fill.new.body filled low c.requires.room)

pub returns-clause-planned : goal.returns-clause-planned
returns-clause-planned c = λ made z u seen standing hand needed.
    let t = c.args.position.now in
    let new = c.args.new.now in
    let is = slot_named t.stamp _ c.as_slice-key.result.now new.key.items t.depth c.slot_at-site.result c.slot_at-site.ensures.slot c.as_slice-key.ensures.value in
    let filled = subst (λ (reads : List (Option ℕ)). IsFilled t.stamp.cell reads c.fill.new.body) c.node.ensures c.fill.ensures in
    c.add.ensures.planned z u (t.depth + 1) (subst (λ (site : Site). IsAdd z u site new (t.depth + 1)) (sym is)
    (byte_knows z t c.args.read_set.now new c.requires.free.0 c.requires.free.1 c.requires.free.2 _ filled u seen standing hand))

pub returns-clause-locks : goal.returns-clause-locks
returns-clause-locks c =
    one_locked (IsLockedAt c.args.position.now) c.add.new.change (kept (site_stamp c.slot_at-site.result)) (inl (ap site_stamp c.slot_at-site.ensures.slot)) (c.add.ensures.locks)

pub returns-clause-changes : goal.returns-clause-changes
returns-clause-changes c =
    let t = c.args.position.now in
    let key = c.args.new.now.key.items in
    let read_set = c.args.read_set.now in
    let n = c.requires.free.0 in
    let site = c.slot_at-site.result in
    let seen = c.requires.seen.1 in
    let on = free_on c.requires.seen.0 key t read_set n c.requires.free.1 c.requires.free.2 seen in
    let filled = subst (λ (reads : List (Option ℕ)). IsFilled t.stamp.cell reads c.fill.new.body) c.node.ensures c.fill.ensures in
    child_puts (WasReadOf t read_set) c.add.new.change (kept (site_stamp site)) [] c.add.ensures.locks t.stamp (node_of read_set)
    (inl (ap site_stamp c.slot_at-site.ensures.slot, refl)) seen.whole site
    (subst (IsSiteOf t.stamp (node_of read_set)) (sym c.slot_at-site.ensures.slot) (n, on, filled n on))
    (leaf c.args.new.now.number) (λ at. let no : cell.Anchor ≡ cell.Node n = sym at ∙ on in absurd (cc)) c.add.ensures.puts
