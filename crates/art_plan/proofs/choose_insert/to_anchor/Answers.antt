use Rattle.std.proofs.Common.{[], inl, refl}
use Rattle.art_cell.specs.declared.cells.Link.TheVariants.{Leaf as leaf}
use Rattle.art_find.specs.ReadSets.{node_of}
use Rattle.art_plan.proofs.EmptyTrees.{root_at, root_empty, root_knows}
use Rattle.art_plan.proofs.LockedCells.{one_locked}
use Rattle.art_plan.proofs.NewWords.{child_puts}
use Rattle.art_plan.specs.ChooseInsert.Plans.{IsLockedAt, WasReadOf}
use Rattle.art_plan.specs.Seen.{kept}
use Rattle.art_plan.specs.declared.changes.Site.TheVariants.{Root}
use Rattle.art_plan.proofs.choose_insert.to_anchor.Goals as goal

pub returns-clause-planned : goal.returns-clause-planned
returns-clause-planned c = λ read_set made z u seen standing hand needed.
    c.add.ensures.planned z u 0 (root_knows z c.args.position.now read_set c.args.new.now u c.requires seen standing hand)

pub returns-clause-locks : goal.returns-clause-locks
returns-clause-locks c =
    let x = c.args.position.now.stamp in
    one_locked (IsLockedAt c.args.position.now) c.add.new.change (kept x) (inl refl) (c.add.ensures.locks)

pub returns-clause-changes : goal.returns-clause-changes
returns-clause-changes c = λ z read_set seen.
    let t = c.args.position.now in
    let new = c.args.new.now in
    child_puts (WasReadOf t read_set) c.add.new.change (kept t.stamp) [] c.add.ensures.locks t.stamp (node_of read_set) (inl (refl, refl))
    seen.whole (Root t.stamp) (root_at z new.key.items t read_set c.requires seen)
    (leaf new.number) (root_empty z new.key.items t read_set c.requires seen (leaf new.number)) c.add.ensures.puts
