use Rattle.std.proofs.Common.{◌≡◌, ◌∙◌, ℕ, List, [], ◌∷◌, Option, subst, sym, ap, arith, inl, inr, refl}
use Rattle.std.specs.List.{slice_get}
use Rattle.art_cell.specs.declared.cells.Cell.{Cell}
use Rattle.art_cell.specs.declared.cells.Link.TheVariants.{Node as node}
use Rattle.art_find.specs.Rereadings.{AreKnown}
use Rattle.art_plan.proofs.AbovePuts.{above_prefix}
use Rattle.art_cell.specs.Leaves.{prefix_read}
use Rattle.art_cell.specs.Reads.{Agrees, word_of}
use Rattle.art_cell.specs.Words.{prefix_of}
use Rattle.art_plan.proofs.AboveSites.{above_deep, above_taken}
use Rattle.art_plan.proofs.ChildSites.{site_named, stamp_in}
use Rattle.art_plan.proofs.LockedCells.{two_locked}
use Rattle.art_plan.proofs.PrefixMismatches.{prefix_apart, prefix_inside, prefix_knows, prefix_meaning, prefix_on, prefix_other, prefix_there, prefix_within, prefix_writes}
use Rattle.art_plan.proofs.WholeCells.{filled_agrees}
use Rattle.art_plan.specs.ChooseInsert.Bodies.{IsFilled}
use Rattle.art_plan.specs.ChooseInsert.Plans.{IsLockedAt, WasReadOf}
use Rattle.art_find.specs.ReadSets.{above_of, node_of}
use Rattle.art_plan.specs.Puts.{IsTaken}
use Rattle.art_plan.specs.Insert.Puts.{node4}
use Rattle.art_plan.specs.Seen.{kept, site_stamp}
use Rattle.art_plan.specs.declared.changes.Target.{Target}
use Rattle.art_step.specs.Views.{size_of}
use Rattle.art_plan.proofs.choose_insert.beside_node.Goals as goal
use Rattle.art_plan.proofs.choose_insert.beside_node.Goals.{After-as_slice-2}

pub unreachable-requires-in_default-prefix : goal.unreachable-requires-in_default-prefix
unreachable-requires-in_default-prefix c =
    prefix_there c.requires.seen.0 c.args.new.now.key.items c.args.position.now c.args.read_set.now c.in-PrefixMismatch.node c.in-PrefixMismatch.header c.in-PrefixMismatch.at c.in-PrefixMismatch.is c.requires.seen.1
    (sym (c.in_default-prefix.ensures.read ∙ ap prefix_read c.node.ensures))

pub site_at-site-requires-clause-some : goal.site_at-site-requires-clause-some
site_at-site-requires-clause-some c =
    let z = c.requires.seen.0 in
    let t = c.args.position.now in
    let key = c.args.new.now.key.items in
    let read_set = c.args.read_set.now in
    let n = c.in-PrefixMismatch.node in
    above_deep z key t read_set n (prefix_on z key t read_set n c.in-PrefixMismatch.header c.in-PrefixMismatch.at c.in-PrefixMismatch.is c.requires.seen.1) c.in-Some.above c.in-Some.is
    (c.requires.seen.1.above c.in-Some.above c.in-Some.is (prefix_writes z key t read_set n c.in-PrefixMismatch.header c.in-PrefixMismatch.at c.in-PrefixMismatch.is))

-- ---- the words of both cells, and the bytes of the prefix

upper_filled : (c : After-as_slice-2) → IsFilled c.in-Some.above.stamp.cell (above_of c.args.read_set.now) c.fill-2.new.body
upper_filled c = subst (λ (reads : List (Option ℕ)). IsFilled c.in-Some.above.stamp.cell reads c.fill-2.new.body) c.above.ensures c.fill-2.ensures

lower_filled : (c : After-as_slice-2) → IsFilled c.args.position.now.stamp.cell (node_of c.args.read_set.now) c.fill.new.body
lower_filled c = subst (λ (reads : List (Option ℕ)). IsFilled c.args.position.now.stamp.cell reads c.fill.new.body) c.node-2.ensures c.fill.ensures

bytes_are : (c : After-as_slice-2) → c.as_slice-2.result.now ≡ prefix_of (word_of c.fill.new.body)
bytes_are c =
    let z = c.requires.seen.0 in
    let t = c.args.position.now in
    let reads = node_of c.args.read_set.now in
    let n = c.in-PrefixMismatch.node in
    let old = c.requires.seen.1.vouched in
    let on = prefix_on z c.args.new.now.key.items t c.args.read_set.now n c.in-PrefixMismatch.header c.in-PrefixMismatch.at c.in-PrefixMismatch.is c.requires.seen.1 in
    c.as_slice-2.ensures.value
    ∙ c.in-Some-prefix.ensures.prefix (word_of c.fill.new.body)
    (subst (λ (xs : List (Option ℕ)). Agrees xs (word_of c.fill.new.body)) (sym c.node.ensures)
    (filled_agrees z old.view t.stamp reads old.standing.place.kept n on c.fill.new.body (lower_filled c n on)))

-- ---- the fork

pub fork_prefix-requires-clause-taken : goal.fork_prefix-requires-clause-taken
fork_prefix-requires-clause-taken c =
    let z = c.requires.seen.0 in
    let t = c.args.position.now in
    let a = c.in-Some.above in
    let key = c.args.new.now.key.items in
    let read_set = c.args.read_set.now in
    let n = c.in-PrefixMismatch.node in
    let is = site_named a.stamp _ c.as_slice.result.now key a.depth c.site_at-site.result c.site_at-site.ensures.site c.as_slice.ensures.value in
    subst IsTaken (sym is)
    (above_taken z key t read_set n (prefix_on z key t read_set n c.in-PrefixMismatch.header c.in-PrefixMismatch.at c.in-PrefixMismatch.is c.requires.seen.1) a c.in-Some.is
    (c.requires.seen.1.above a c.in-Some.is (prefix_writes z key t read_set n c.in-PrefixMismatch.header c.in-PrefixMismatch.at c.in-PrefixMismatch.is)) _ (upper_filled c))

pub fork_prefix-requires-clause-meaning : goal.fork_prefix-requires-clause-meaning
fork_prefix-requires-clause-meaning c =
    prefix_meaning c.requires.seen.0 c.args.new.now.key.items c.args.position.now c.args.read_set.now c.in-PrefixMismatch.node c.in-PrefixMismatch.header c.in-PrefixMismatch.at c.in-PrefixMismatch.is c.requires.seen.1
    c.in-Some.above c.in-Some.is c.fill.new.body (lower_filled c) c.as_slice-2.result.now (bytes_are c)

pub fork_prefix-requires-clause-within : goal.fork_prefix-requires-clause-within
fork_prefix-requires-clause-within c =
    prefix_within c.requires.seen.0 c.args.new.now.key.items c.args.position.now c.args.read_set.now c.in-PrefixMismatch.node c.in-PrefixMismatch.header c.in-PrefixMismatch.at c.in-PrefixMismatch.is c.requires.seen.1
    c.in-Some.above c.in-Some.is c.fill.new.body (lower_filled c) c.as_slice-2.result.now (bytes_are c)

pub fork_prefix-requires-clause-inside : goal.fork_prefix-requires-clause-inside
fork_prefix-requires-clause-inside c =
    prefix_inside c.requires.seen.0 c.args.new.now.key.items c.args.position.now c.args.read_set.now c.in-PrefixMismatch.node c.in-PrefixMismatch.header c.in-PrefixMismatch.at c.in-PrefixMismatch.is c.requires.seen.1
    c.in-Some.above c.in-Some.is

pub fork_prefix-requires-clause-apart : goal.fork_prefix-requires-clause-apart
fork_prefix-requires-clause-apart c =
    prefix_apart c.requires.seen.0 c.args.new.now.key.items c.args.position.now c.args.read_set.now c.in-PrefixMismatch.node c.in-PrefixMismatch.header c.in-PrefixMismatch.at c.in-PrefixMismatch.is c.requires.seen.1
    c.in-Some.above c.in-Some.is c.fill.new.body (lower_filled c) c.as_slice-2.result.now (bytes_are c)

pub returns-clause-planned : goal.returns-clause-planned
returns-clause-planned c = λ z u seen standing hand needed.
    let before = (goal.at.returns-clause-planned c).After-as_slice-2 in
    let t = c.args.position.now in
    let a = c.in-Some.above in
    let new = c.args.new.now in
    let is = site_named a.stamp _ c.as_slice.result.now new.key.items a.depth c.site_at-site.result c.site_at-site.ensures.site c.as_slice.ensures.value in
    c.fork_prefix.ensures.planned z u
    (prefix_knows z t c.args.read_set.now new c.in-PrefixMismatch.node c.in-PrefixMismatch.header c.in-PrefixMismatch.at c.args.made c.in-PrefixMismatch.is a c.in-Some.is seen _ _ (upper_filled before) (lower_filled before)
    u c.site_at-site.result is standing hand needed c.as_slice-2.result.now (bytes_are before))

-- ---- the words of both cells were read

-- ---- the cells that are locked

pub returns-clause-locks : goal.returns-clause-locks
returns-clause-locks c =
    let t = c.args.position.now in
    let a = c.in-Some.above in
    let upper : site_stamp c.site_at-site.result ≡ a.stamp = ap site_stamp c.site_at-site.ensures.site ∙ stamp_in a.stamp _ _ in
    let writes = prefix_writes c.requires.seen.0 c.args.new.now.key.items t c.args.read_set.now c.in-PrefixMismatch.node c.in-PrefixMismatch.header c.in-PrefixMismatch.at c.in-PrefixMismatch.is in
    two_locked (IsLockedAt t) c.fork_prefix.new.change (kept (site_stamp c.site_at-site.result)) (inr (a, c.in-Some.is, writes, upper)) (kept t.stamp) (inl refl) (c.fork_prefix.ensures.locks)

-- ---- the words that are put

pub returns-clause-changes : goal.returns-clause-changes
returns-clause-changes c = λ another.
    let after = (goal.at.returns-clause-changes c).After-as_slice-2 in
    let z = c.requires.seen.0 in
    let t = c.args.position.now in
    let a = c.in-Some.above in
    let new = c.args.new.now in
    let read_set = c.args.read_set.now in
    let m = c.in-PrefixMismatch in
    let seen = c.requires.seen.1 in
    let site = c.site_at-site.result in
    let is = site_named a.stamp _ c.as_slice.result.now new.key.items a.depth site c.site_at-site.ensures.site c.as_slice.ensures.value in
    let on = prefix_on z new.key.items t read_set m.node m.header m.at m.is seen in
    above_prefix z new.key.items t read_set m.node on a c.in-Some.is
    (seen.above a c.in-Some.is (prefix_writes z new.key.items t read_set m.node m.header m.at m.is)) _ (upper_filled after) site is
    (WasReadOf t read_set) (inr (a, c.in-Some.is, refl, refl)) c.fork_prefix.new.change (kept t.stamp ∷ []) c.fork_prefix.ensures.locks
    (node (node4 c.args.made))
    (prefix_other z t read_set new m.node m.header m.at c.args.made m.is a c.in-Some.is seen another)
    m.node c.fill.new.body (node_of read_set) (lower_filled after m.node on)
    (subst (λ (o : Cell). AreKnown (node_of read_set) 1 (size_of o)) on seen.whole) (kept t.stamp) (inl (refl, refl))
    1 (omega arith) (ap (λ (ts : List Target). slice_get ts 1) c.fork_prefix.ensures.locks) _ c.fork_prefix.ensures.puts
