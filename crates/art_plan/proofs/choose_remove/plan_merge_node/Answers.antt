use Rattle.std.proofs.Common.{◌<◌, ◌-◌, ◌≡◌, ◌≢◌, ◌∙◌, ℕ, true, false, List, [], ◌∷◌, Option, get_or, inl, arith, rules, subst, sym, ap, inr, refl}
use Rattle.art_plan.proofs.LowerNodes.{lower_bytes, lower_meaning, lower_other, merge_node_knows, node_bytes}
use Rattle.art_plan.specs.ChooseRemove.Plans.{IsAnyAt, WasReadOfAny}
use Rattle.art_plan.proofs.AbovePuts.{above_prefix}
use Rattle.art_plan.proofs.AboveSites.{above_deep, above_taken}
use Rattle.std.specs.List.{slice_get}
use Rattle.art_cell.specs.declared.cells.Link.TheVariants.{Node as node}
use Rattle.art_plan.specs.ArtFind.Rereadings.{AreKnown}
use Rattle.art_plan.specs.declared.changes.Target.{Target}
use Rattle.art_step.specs.Views.{size_of}
use Rattle.art_plan.proofs.ChildSites.{site_named, stamp_in}
use Rattle.art_plan.proofs.LockedCells.{three_locked}
use Rattle.art_plan.specs.ChooseInsert.Bodies.{IsFilled}
use Rattle.art_plan.specs.Puts.{IsTaken}
use Rattle.art_plan.specs.Seen.{gone, kept, site_stamp}
use Rattle.art_plan.specs.ChooseRemove.Plans.{node_words}
use Rattle.art_plan.specs.Remove.Removals.{remove_effects}
use Rattle.art_cell.specs.declared.cells.Cell.{Cell}
use Rattle.art_plan.proofs.choose_remove.plan_merge_node.Goals as goal
use Rattle.art_plan.proofs.choose_remove.plan_merge_node.Goals.{After-ne-apart}

pub site_at-site-requires-clause-some : goal.site_at-site-requires-clause-some
site_at-site-requires-clause-some c =
    above_deep c.requires.seen.0 c.args.old.now.key.items c.args.position.now c.args.read_set.now c.in-Node.node c.in-Node.is c.in-Some.above c.in-Some.is (c.requires.seen.1.above c.in-Some.above c.in-Some.is)

pub parts_of-parts-requires-clause-front : goal.parts_of-parts-requires-clause-front
parts_of-parts-requires-clause-front c =
    node_bytes c.requires.seen.0 c.args.position.now c.args.read_set.now c.args.old.now c.requires.found c.requires.seen.1.node c.in-Node.node c.in-Node.is

pub parts_of-parts-requires-clause-rest : goal.parts_of-parts-requires-clause-rest
parts_of-parts-requires-clause-rest c = lower_bytes c.requires.seen.0 c.args.lower.now c.args.reads.now c.requires.seen.2

pub merge_node-requires-clause-taken : goal.merge_node-requires-clause-taken
merge_node-requires-clause-taken c =
    let a = c.in-Some.above in
    let is = site_named a.stamp _ c.as_slice.result.now c.args.old.now.key.items a.depth c.site_at-site.result c.site_at-site.ensures.site c.as_slice.ensures.value in
    let filled = subst (λ (reads : List (Option ℕ)). IsFilled a.stamp.cell reads c.fill-2.new.body) c.above.ensures c.fill-2.ensures in
    subst IsTaken (sym is)
    (above_taken c.requires.seen.0 c.args.old.now.key.items c.args.position.now c.args.read_set.now c.in-Node.node c.in-Node.is a c.in-Some.is (c.requires.seen.1.above a c.in-Some.is) _ filled)

pub merge_node-requires-clause-meaning : goal.merge_node-requires-clause-meaning
merge_node-requires-clause-meaning c = lower_meaning c.requires.seen.0 c.args.lower.now c.args.reads.now c.requires.seen.2 c.fill-3.new.body c.fill-3.ensures

-- ---- whether the cell above is the lower node

is_apart : (c : After-ne-apart) → c.ne-apart.result ≡ true → c.in-Some.above.stamp.cell ≢ c.args.lower.now.stamp.cell
is_apart c apart = search rules

is_same : (c : After-ne-apart) → c.ne-apart.result ≡ false → c.in-Some.above.stamp.cell ≡ c.args.lower.now.stamp.cell
is_same c same = search rules

-- ---- the plan

pub returns-then-merge_node-clause-planned : goal.returns-then-merge_node-clause-planned
returns-then-merge_node-clause-planned c = λ apart z u seen standing still.
    let t = c.args.position.now in
    let a = c.in-Some.above in
    let old = c.args.old.now in
    let lower = c.args.lower.now in
    let is = site_named a.stamp _ c.as_slice.result.now old.key.items a.depth c.site_at-site.result c.site_at-site.ensures.site c.as_slice.ensures.value in
    let upper = subst (λ (reads : List (Option ℕ)). IsFilled a.stamp.cell reads c.fill-2.new.body) c.above.ensures c.fill-2.ensures in
    let filled = subst (λ (reads : List (Option ℕ)). IsFilled t.stamp.cell reads c.fill.new.body) c.node.ensures c.fill.ensures in
    let low = subst (λ (bytes : List ℕ). get_or bytes (a.depth - 1) 0 < 256) c.as_slice.ensures.value c.site_at-site.ensures.low in
    c.merge_node.ensures.planned c.if-merge_node.true z u a.depth (get_or old.key.items (t.depth - 1) 0)
    (merge_node_knows t c.args.read_set.now old a c.in-Some.is _ upper c.site_at-site.result is lower c.args.reads.now still.cell c.parts_of-parts.result c.parts_of-parts.ensures _ c.fill-3.ensures
    z u c.requires.found c.in-Node.node c.in-Node.is c.requires.other _ filled seen standing still c.requires.seen.2.whole low
    (is_apart (goal.at.returns-then-merge_node-clause-planned c).After-ne-apart apart))

pub returns-then-merge_node-clause-refused : goal.returns-then-merge_node-clause-refused
returns-then-merge_node-clause-refused c =
    λ same. inl
    (record {
      above = c.in-Some.above;
      is = c.in-Some.is;
      same = is_same (goal.at.returns-then-merge_node-clause-refused c).After-ne-apart
          same;
    })

pub returns-else-merge_node-clause-refused : goal.returns-else-merge_node-clause-refused
returns-else-merge_node-clause-refused c = λ refused. inr (c.parts_of-parts.result, c.parts_of-parts.ensures, c.merge_node.ensures.refused refused)

pub returns-then-merge_node-clause-locks : goal.returns-then-merge_node-clause-locks
returns-then-merge_node-clause-locks c = λ apart.
    let t = c.args.position.now in
    let a = c.in-Some.above in
    let lower = c.args.lower.now in
    let upper : site_stamp c.site_at-site.result ≡ a.stamp = ap site_stamp c.site_at-site.ensures.site ∙ stamp_in a.stamp _ _ in
    three_locked (IsAnyAt t lower) c.merge_node.new.change (kept (site_stamp c.site_at-site.result)) (inl (inr (a, c.in-Some.is, upper))) (gone t.stamp) (inl (inl refl)) (kept lower.stamp) (inr refl)
    (c.merge_node.ensures.locks c.if-merge_node.true)

pub returns-then-merge_node-clause-effects : goal.returns-then-merge_node-clause-effects
returns-then-merge_node-clause-effects c = λ done. c.merge_node.ensures.effects c.if-merge_node.true ∙ ap (λ (x : Cell). remove_effects c.args.old.now (node_words x)) (sym c.in-Node.is)

pub returns-then-merge_node-clause-changes : goal.returns-then-merge_node-clause-changes
returns-then-merge_node-clause-changes c = λ apart.
    let z = c.requires.seen.0 in
    let t = c.args.position.now in
    let a = c.in-Some.above in
    let old = c.args.old.now in
    let read_set = c.args.read_set.now in
    let lower = c.args.lower.now in
    let reads = c.args.reads.now in
    let n = c.in-Node.node in
    let seen = c.requires.seen.1 in
    let low = c.requires.seen.2 in
    let site = c.site_at-site.result in
    let is = site_named a.stamp _ c.as_slice.result.now old.key.items a.depth site c.site_at-site.ensures.site c.as_slice.ensures.value in
    let upper = subst (λ (rs : List (Option ℕ)). IsFilled a.stamp.cell rs c.fill-2.new.body) c.above.ensures c.fill-2.ensures in
    let filled = subst (λ (rs : List (Option ℕ)). IsFilled t.stamp.cell rs c.fill.new.body) c.node.ensures c.fill.ensures in
    let locks = c.merge_node.ensures.locks c.if-merge_node.true in
    above_prefix z old.key.items t read_set n c.in-Node.is a c.in-Some.is (seen.above a c.in-Some.is) _ upper site is
    (WasReadOfAny t read_set lower reads) (inl (inr (a, c.in-Some.is, refl, refl))) c.merge_node.new.change
    (gone t.stamp ∷ kept lower.stamp ∷ []) locks (node lower.node)
    (lower_other z t read_set old c.requires.found seen.node n c.in-Node.is c.fill.new.body filled lower.byte lower.node c.requires.other)
    lower.node c.fill-3.new.body reads (c.fill-3.ensures lower.node low.known.cell)
    (subst (λ (o : Cell). AreKnown reads 1 (size_of o)) low.known.cell low.whole) (kept lower.stamp) (inr (refl, refl))
    2 (omega arith) (ap (λ (ts : List Target). slice_get ts 2) locks) _ (c.merge_node.ensures.puts c.if-merge_node.true)
