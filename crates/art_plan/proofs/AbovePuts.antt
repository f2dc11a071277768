-- What is put into the cell above, where its child was the node, and into the node below it.
use Rattle.std.proofs.Common.{◌≡◌, ◌≢◌, ℕ, ◌-◌, ◌<◌, List, Option, ◌∷◌, get_or, Some, sym, ap, ◌∙◌, subst}
use Rattle.std.specs.Borrow.{Bor}
use Rattle.art_cell.specs.declared.cells.Body.{Body}
use Rattle.art_cell.specs.declared.cells.Cell.TheVariants as cell
use Rattle.art_cell.specs.declared.cells.Link.{Link}
use Rattle.art_cell.specs.declared.cells.Link.TheVariants.{Node as node}
use Rattle.art_cell.specs.declared.cells.Node.{Node}
use Rattle.art_cell.specs.Words.{size}
use Rattle.art_find.specs.ReadSets.{above_of}
use Rattle.art_find.specs.Rereadings.{AreKnown}
use Rattle.art_find.specs.declared.findings.Above.{Above}
use Rattle.art_find.specs.declared.findings.Position.{Position}
use Rattle.art_find.specs.declared.read_sets.ReadSet.{ReadSet}
use Rattle.art_plan.proofs.AboveSites.{above_root, above_site}
use Rattle.art_plan.proofs.ChildSites.{stamp_in}
use Rattle.art_plan.proofs.NewWords.{child_puts, prefix_puts}
use Rattle.art_plan.specs.Changes.{target_at}
use Rattle.art_plan.specs.ChooseInsert.Bodies.{HasWords, IsFilled, site_in}
use Rattle.art_plan.specs.ChooseInsert.Seen.{WasSeen}
use Rattle.art_plan.specs.NewWords.{PutsChanges, PutsChild, PutsPrefix}
use Rattle.art_plan.specs.Seen.{kept, site_stamp}
use Rattle.art_plan.specs.declared.changes.Change.{Change}
use Rattle.art_plan.specs.declared.changes.Target.{Target}
use Rattle.art_plan.specs.declared.changes.Site.{Site}
use Rattle.art_step.specs.declared.views.Sizes.{Sizes}
use Rattle.art_step.specs.declared.views.Stamp.{Stamp}

module _ (z : Sizes) (k : List ℕ) (t : Position) (read_set : ReadSet) (n : Node) (on : t.stamp.cell ≡ cell.Node n) (a : Above)
    (is : t.above ≡ Some a) (old : WasSeen z k t read_set a.stamp (above_of read_set))
    (body : Bor Body) (filled : IsFilled a.stamp.cell (above_of read_set) body.now) (site : Site)
    (named : site ≡ site_in a.stamp body (get_or k (a.depth - 1) 0))
    (read : Stamp → List (Option ℕ) → Type 0) (was : read a.stamp (above_of read_set)) (c : Change) (below : List Target)
    (locks : c.targets.items ≡ kept (site_stamp site) ∷ below)
    (d : Link) (other : node n ≢ d) where
  was_site : read (site_stamp site) (above_of read_set)
  was_site =
      subst (λ (x : Stamp). read x (above_of read_set)) (sym (ap site_stamp named ∙ stamp_in a.stamp body (get_or k (a.depth - 1) 0))) was

  -- another child
  pub above_puts : PutsChild site d c.puts.items → PutsChanges read c
  above_puts =
      child_puts read c (kept (site_stamp site)) below locks a.stamp (above_of read_set) was_site old.1 site
      (above_site z k t read_set n on a is old body filled site named)
      d (above_root z k t read_set n on a is old d other)

  -- and another prefix for a node
  pub above_prefix : (m : Node) (lower : Body) (reads : List (Option ℕ)) → HasWords m reads lower → AreKnown reads 1 (size m.layout)
      → (y : Target) → read y.stamp reads
      → (i : ℕ) → 0 < i → target_at c i ≡ Some y → (prefix : List ℕ) → PutsPrefix site d i lower prefix c.puts.items → PutsChanges read c
  above_prefix m lower reads has all y y-was i low there =
      prefix_puts read c (kept (site_stamp site)) below locks a.stamp (above_of read_set) was_site old.1 site
      (above_site z k t read_set n on a is old body filled site named)
      m lower reads has all y y-was i low there d (above_root z k t read_set n on a is old d other)
