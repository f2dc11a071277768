-- What a validation that ended unchanged gives a plan of a merge: the lower node was seen, and may take the place of the one above it.
use Rattle.std.proofs.Common.{◌≡◌, ℕ, ◌<◌, ◌+◌, ◌++◌, ◌∷◌, [], List, length, take, true, Option, Some, refl, sym, ap, ◌∙◌, subst, arith, ⊎_elim}
use Rattle.std.proofs.lemmas.List.{length-append, length-take-le}
use Rattle.std.specs.Option.{option_map}
use Rattle.art_cell.specs.Reads.{word_of}
use Rattle.art_cell.specs.Words.{prefix_of}
use Rattle.art_cell.specs.declared.cells.Body.{Body}
use Rattle.art_cell.specs.declared.cells.Cell.{Cell}
use Rattle.art_cell.specs.declared.cells.Cell.TheVariants as cell
use Rattle.art_cell.specs.declared.cells.Link.TheVariants.{Node as node}
use Rattle.art_cell.specs.declared.cells.Node.{Node}
use Rattle.art_find.specs.ReadSets.{node_of}
use Rattle.art_find.specs.Rereadings.{AreKnown}
use Rattle.art_find.specs.declared.findings.Above.{Above as CellAbove}
use Rattle.art_find.specs.declared.findings.Position.{Position}
use Rattle.art_find.specs.declared.read_sets.ReadSet.{ReadSet}
use Rattle.art_attempt.proofs.LowerNames.{has_over, is_third}
use Rattle.art_attempt.proofs.Validates.{over_stamp}
use Rattle.art_attempt.specs.Naming.{IsBelow, IsThird, StillNames, WouldLead}
use Rattle.art_attempt.specs.Validate.{BelowFits, CheckedSince, IsValidated, Knows, stamp_below}
use Rattle.art_attempt.specs.declared.validate.Cells.{Cells as CellsOf}
use Rattle.art_attempt.specs.declared.validate.Role.TheVariants.{Above, Lower as lower_role}
use Rattle.art_path.specs.declared.prefixes.Parts.{Parts}
use Rattle.art_plan.proofs.SeenBodies.{seen_prefix}
use Rattle.art_plan.proofs.WholeCells.{IsWhole, above_is, body_read, filled_agrees, has_read}
use Rattle.art_plan.specs.ChooseInsert.Bodies.{HasWords, IsFilled}
use Rattle.art_plan.specs.ChooseRemove.Plans.{ArePartsOf, IsAlsoAbove, MayNotMerge}
use Rattle.art_plan.specs.ChooseRemove.Seen.{IsLowerSeen, StillKnown}
use Rattle.art_plan.specs.Remove.Removals.{IsTooLong}
use Rattle.art_plan.specs.declared.choose_remove.Lower.{Lower}
use Rattle.art_step.specs.Knowledge.{CellAt}
use Rattle.art_step.specs.Views.{note_of, size_of}
use Rattle.art_step.specs.declared.views.Fact.TheVariants.{Starts}
use Rattle.art_step.specs.declared.views.Sizes.{Sizes}
use Rattle.art_step.specs.declared.views.View.{View}
use Rattle.art_tree.specs.Heaps.{Cells, heap_of}
use Rattle.art_tree.specs.Tree.{StandsAt}

module _ (z : Sizes) (k : List ℕ) (t : Position) (o : CellsOf) (read_set : ReadSet) (lower : List (Option ℕ)) (l : Lower) (is : o.lower ≡ Some l) (u v : View) (knows : Knows z k t o read_set lower u v)
    (done : IsValidated z k t o read_set lower u v) where
  -- what it is to the node where the key stands
  below_at : (w : View) → Knows z k t o read_set lower u w → StillNames z k t l.node read_set u w × IsBelow z k t read_set l.node l.stamp lower w × WouldLead k t read_set l.node w
  below_at w known = subst (λ (b : Option Lower). BelowFits z k t read_set b lower u w) is known.below

  -- all its words were known when it was checked
  whole : AreKnown lower 1 (size_of l.stamp.cell)
  whole = done.words lower_role l.stamp (ap (option_map stamp_below) is)

  was : CheckedSince z k t o read_set lower u l.stamp v
  was = done.checked lower_role l.stamp (ap (option_map stamp_below) is)

  -- what it was then
  then : StillNames z k t l.node read_set u was.before × IsBelow z k t read_set l.node l.stamp lower was.before × WouldLead k t read_set l.node was.before
  then = below_at was.before was.knows

  still_known : (w : View) → Knows z k t o read_set lower u w → StillKnown z w l lower
  still_known w known = let below = (below_at w known).1 in record { cell = below.on.cell; stamp = below.on.stamp; path = below.path; kept = below.on.kept }

  pub lower_still : StillKnown z v l lower
  lower_still = still_known v knows

  pub lower_seen : IsLowerSeen z l lower
  lower_seen = record { view = was.before; known = still_known was.before was.knows; tree = was.passed.vouched.0; shape = was.passed.vouched.1; holds = was.passed.vouched.2; whole = whole }

  -- it is not the cell above
  third : o.above ≡ true → IsThird t l.node
  third wide a at =
      let c = done.checked Above a.stamp (over_stamp t o a wide at) in
      let below = below_at c.before c.knows in
      is_third z k t l.node read_set u c.before below.0 c.after a at below.1.parent below.2 c.passed a at

  -- in the tree that its check showed it stands at its path, and has its prefix: so that joined to the one above is short
  joins_short : (here : Node) (a : CellAbove) (upper body : Body) → t.stamp.cell ≡ cell.Node here → t.above ≡ Some a → HasWords here (node_of read_set) upper → HasWords l.node lower body
      → a.depth + length (prefix_of (word_of upper)) + 1 + length (prefix_of (word_of body)) < 64
  joins_short here a upper body on is_over above has =
      let below = then.1 in
      let parent = below.parent in
      let one : cell.Node parent.here ≡ cell.Node here = sym parent.is ∙ on in
      let same : parent.here ≡ here = cc in
      let words : HasWords parent.here (node_of read_set) upper = subst (λ (m : Node). HasWords m (node_of read_set) upper) (sym same) above in
      let path : List ℕ = take a.depth k ++ prefix_of (word_of upper) ++ parent.byte ∷ [] in
      let tree : Cells = was.passed.vouched.0 in
      let shape = was.passed.vouched.1 in
      let holds = was.passed.vouched.2 in
      let at : StandsAt (heap_of tree) (node l.node) path =
      subst (λ (c : Cell). CellAt tree c path) below.on.cell (holds (note_of l.stamp (Starts path)) (below.led here a upper parent.byte on is_over above (parent.has upper words)) refl) in
      let short = shape.tree.short l.node path at in
      let filled : IsFilled l.stamp.cell lower body = (λ (m : Node) (here_is : l.stamp.cell ≡ cell.Node m).
      let equal : cell.Node l.node ≡ cell.Node m = sym below.on.cell ∙ here_is in
      let same_node : l.node ≡ m = cc in
      subst (λ (p : Node). HasWords p lower body) same_node has) in
      let read : IsWhole z was.before l.stamp lower = record { stamp = below.on.stamp; path = below.path; words = below.on.kept; known = whole } in
      let prefix = ap length (seen_prefix z was.before l.stamp lower read tree shape holds l.node below.on.cell body filled) in
      let deep = (above_is z k t read_set v knows.stands.standing here on a is_over).deep in
      let front = length-take-le a.depth k deep in
      omega (arith, short, prefix, front, length-append (take a.depth k ++ prefix_of (word_of upper)) (parent.byte ∷ []), length-append (take a.depth k) (prefix_of (word_of upper)))

  not_long : (parts : Parts) → ArePartsOf read_set l lower parts → IsTooLong parts → ⊥
  not_long parts are long =
      let names = (below_at v knows).0 in
      let still = lower_still in
      let over = has_over z k t l.node read_set u v names in
      let upper = body_read names.here (node_of read_set) in
      let has : HasWords names.here (node_of read_set) upper = has_read names.here (node_of read_set) in
      let body = body_read l.node lower in
      let body_has : HasWords l.node lower body = has_read l.node lower in
      let short = joins_short names.here over.0 upper body names.is over.1 has body_has in
      let front = ap length (are.front (word_of upper) (filled_agrees z v t.stamp (node_of read_set) names.stands.standing.place.kept names.here names.is upper has)) in
      let rest = ap length (are.rest (word_of body) (filled_agrees z v l.stamp lower still.kept l.node still.cell body body_has)) in
      omega (arith, short, front, rest, long)

  -- so it is not refused
  pub lower_may_merge : o.above ≡ true → MayNotMerge t read_set l lower → ⊥
  lower_may_merge wide refused = ⊎_elim
      (λ (q : IsAlsoAbove t l). third wide q.above q.is (q.same ∙ then.1.on.cell))
      (λ (q : (parts : Parts) × ArePartsOf read_set l lower parts × IsTooLong parts). not_long q.0 q.1 q.2)
      refused
