use Rattle.std.proofs.Common.{◌≡◌, ◌<◌, ◌+◌, ◌-◌, ℕ, get_or, length, refl, sym, subst, arith}
use Rattle.art_cell.specs.declared.cells.Cell.TheVariants as cell
use Rattle.art_cell.specs.Words.{packed}
use Rattle.art_find.proofs.Counting.{staged_first, staged_going}
use Rattle.art_find.proofs.NodeWords.{past_prefix}
use Rattle.art_find.proofs.Passing.{came_then, heard_on, staged_stands}
use Rattle.art_find.proofs.Stages.{node_on, node_still, node_word, staged_fits}
use Rattle.art_find.specs.Descents.{staged}
use Rattle.art_find.specs.Nodes.{Came, finding_at, moment}
use Rattle.art_find.specs.Ways.{HasHeader, IsPastPrefix, count_in}
use Rattle.art_find.specs.declared.descents.NodeSeen.{NodeSeen}
use Rattle.art_find.specs.declared.descents.Stage.TheVariants.{Header}
use Rattle.art_step.specs.declared.actions.Action.TheVariants.{Read}
use Rattle.art_step.specs.declared.actions.Answer.TheVariants.{Word as word_told}
use Rattle.art_node.specs.Searches.{IsHeader}
use Rattle.art_path.specs.Compared.{AreSame}
use Rattle.art_path.proofs.Comparing.{same_none}
use Rattle.art_step.specs.Shows.{Shows}
use Rattle.art_find.proofs.findings.Finding.search.Goals as goal

pub search_past-requires-clause-read : goal.search_past-requires-clause-read
search_past-requires-clause-read g c = (
  g.S.Steps.sizes c.args.steps.now,
  g.S.Steps.view c.args.steps.now,
  (g.met.S.Steps.only_sizes c.args.steps.now c.read_word-header.new.steps c.read_word-header.ensures.only, c.read_word-header.ensures.row),
  c.requires.found,
)

pub returns-then-read_header-gt0-clause-only : goal.returns-then-read_header-gt0-clause-only
returns-then-read_header-gt0-clause-only g c = g.met.S.Steps.only_then c.args.steps.now c.read_word-header.new.steps c.search_past.new.steps c.read_word-header.ensures.only c.search_past.ensures.only

pub returns-then-read_header-gt0-clause-goes : goal.returns-then-read_header-gt0-clause-goes
returns-then-read_header-gt0-clause-goes g c = λ m a came.
    let z = g.S.Steps.sizes c.args.steps.now in
    let v = g.S.Steps.view c.args.steps.now in
    let here = finding_at c.args.self.now.above c.args.depth (Header c.args.stamp c.args.node) in
    let same : c.args.left.now - 1 + 1 ≡ c.args.left.now = omega (arith, c.requires.left) in
    c.search_past.ensures.goes z v
    (g.met.S.Steps.only_sizes c.args.steps.now c.read_word-header.new.steps c.read_word-header.ensures.only, c.read_word-header.ensures.row) m a
    (subst (λ (i : ℕ). Came c.args.key.now m a here (moment z v (g.K.Sink.kept c.args.sink.now) i)) (sym same) came)

pub returns-clause-goes : goal.returns-clause-goes
returns-clause-goes g c =
    let z = g.S.Steps.sizes c.args.steps.now in
    let v = g.S.Steps.view c.args.steps.now in
    let w = g.S.Steps.view c.read_word-header.new.steps in
    let k = c.args.key.now in
    let depth = c.args.depth in
    let n = c.args.node in
    let y = c.args.stamp in
    let word = c.read_word-header.result in
    let row = c.read_word-header.ensures.row in
    let kept = (g.K.Sink.kept c.args.sink.now) in
    let seen : NodeSeen = record { stamp = y; node = n; header = word } in
    let r = c.first_word.result in
    let here = finding_at c.args.self.now.above depth (Header y n) in
    let next = finding_at c.args.self.now.above depth (staged r seen) in
    let deep : depth < length k = c.if-depth-key.false in
    let zero : count_in word ≡ 0 = omega (arith, c.if-read_header-gt0.false, c.read_header.ensures.prefix) in
    let small : get_or k depth 0 < 256 = omega (arith, c.type_inv.key depth) in
    came_then k here (moment z v kept c.args.left.now) next (moment (g.S.Steps.sizes c.read_word-header.new.steps) w (g.K.Sink.kept c.note.new.self) (c.args.left.now - 1))
    (g.met.S.Steps.only_sizes c.args.steps.now c.read_word-header.new.steps c.read_word-header.ensures.only) (omega (arith, c.requires.left))
    (heard_on z k v w here next kept (g.K.Sink.kept c.note.new.self) (Read y 1) (word_told word) refl (λ d. row) refl (staged_first depth r seen) (staged_stands r seen) (staged_going r seen)
    (λ what u fits.
    let there = node_word z u v w y 1 word (cell.Node n) fits.0.cell row in
    let still = node_still z u v w y 1 word _ row fits.2 in
    let past : Shows z w y (λ s. IsPastPrefix s n k depth word) = λ s shape holds.
    let on : HasHeader s n k depth word = record { at = still s shape holds; is_header = there s shape holds } in
    subst (λ (d : ℕ). IsPastPrefix s n k d word) (omega (arith, zero))
    (past_prefix z s n k depth word shape on (omega (arith, deep)) (subst (λ (i : ℕ). AreSame (packed (s (cell.Node n)) 2) i k depth) (sym zero) (same_none (packed (s (cell.Node n)) 2) k depth (omega (arith, deep))))) in
    staged_fits z k what depth u w seen (node_on z u v w y 1 word n fits.0 row) (IsHeader word) r deep small c.first_word.ensures past there)
    (refl, record { node = c.note.ensures.node; above = c.note.ensures.above }))
