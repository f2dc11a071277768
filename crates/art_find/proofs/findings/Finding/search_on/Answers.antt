use Rattle.std.proofs.Common.{◌≡◌, ◌∙◌, ◌+◌, ◌-◌, ◌<◌, ℕ, None, Some, get_or, refl, set, sym, subst, arith}
use Rattle.art_cell.specs.declared.cells.Cell.TheVariants as cell
use Rattle.art_find.proofs.Allowed.{allowed}
use Rattle.art_find.proofs.Counting.{staged_going, staged_later}
use Rattle.art_find.proofs.Passing.{came_now, came_then, found_on, heard_on, staged_stands}
use Rattle.art_find.proofs.Stages.{node_on, node_still, node_word, staged_fits}
use Rattle.art_find.specs.Descents.{staged}
use Rattle.art_find.specs.Nodes.{Came, FitsAt, finding_at, moment}
use Rattle.art_find.specs.ReadSets.{node_of}
use Rattle.art_find.specs.declared.descents.Stage.{Stage}
use Rattle.art_find.specs.declared.descents.Stage.TheVariants.{Keys}
use Rattle.art_step.specs.Acting.{IsAllowed}
use Rattle.art_step.specs.declared.actions.Action.TheVariants.{Read}
use Rattle.art_step.specs.declared.actions.Answer.TheVariants.{Word as word_told}
use Rattle.art_node.specs.Searches.{IsNextWord}
use Rattle.art_node.specs.declared.searches.Sought.{Sought}
use Rattle.art_step.specs.Steps.Read as read
use Rattle.art_find.proofs.findings.Finding.search_on.Goals as goal
use Rattle.art_find.proofs.findings.Finding.search_on.Goals.{in_default-via-in-Keys+else-left-ge5, in_default-via-in_default}

pub read_word-word-requires : goal.read_word-word-requires
read_word-word-requires g c =
    let l = c.loop-sought in
    let z = g.S.Steps.sizes l.steps in
    let v = g.S.Steps.view l.steps in
    let k = c.args.key.now in
    let depth = c.args.found.depth in
    let seen = c.args.found.seen in
    let now = moment z v (g.K.Sink.kept l.sink) l.left in
    let b = subst (λ (r : Sought). FitsAt k (finding_at l.self.above depth (staged r seen)) now) c.in-Keys.is l.invariant.found in
    record {
      allowed = subst (λ (i : ℕ). IsAllowed z None v (Read seen.stamp (10 + i))) (sym c.from-place.ensures) (allowed z k b.0 depth (Keys seen c.in-Keys.number) b.1 v b.2.descent);
    }

pub returns-in-Child-clause-goes : goal.returns-in-Child-clause-goes
returns-in-Child-clause-goes g c = λ m a came.
    let l = c.loop-sought in
    let now = moment (g.S.Steps.sizes l.steps) (g.S.Steps.view l.steps) (g.K.Sink.kept l.sink) l.left in
    subst (λ (r : Sought). Came c.args.key.now m a (finding_at l.self.above c.args.found.depth (staged r c.args.found.seen)) now) c.in-Child.is (l.invariant.goes m a came)

pub returns-in_default-clause-goes : goal.returns-in_default-clause-goes
returns-in_default-clause-goes g c = λ m a came.
    let l = c.loop-sought in
    let now = moment (g.S.Steps.sizes l.steps) (g.S.Steps.view l.steps) (g.K.Sink.kept l.sink) l.left in
    let is : l.sought ≡ c.in_default.sought = elim c.in_default.branch [ in_default-via-in-Keys+else-left-ge5 w ↦ w.in-Keys.is ∙ sym w.sought-is | in_default-via-in_default w ↦ sym w.sought-is ] in
    subst (λ (s : Stage). Came c.args.key.now m a (finding_at l.self.above c.args.found.depth s) now) (sym c.staged-stage.ensures)
    (subst (λ (r : Sought). Came c.args.key.now m a (finding_at l.self.above c.args.found.depth (staged r c.args.found.seen)) now) is (l.invariant.goes m a came))

pub loop-sought-preserved : goal.loop-sought-preserved
loop-sought-preserved g c =
    let l = c.loop-sought in
    let s = c.read_word-word.new.steps in
    let z = g.S.Steps.sizes l.steps in
    let v = g.S.Steps.view l.steps in
    let w = g.S.Steps.view s in
    let k = c.args.key.now in
    let depth = c.args.found.depth in
    let seen = c.args.found.seen in
    let n = seen.node in
    let y = seen.stamp in
    let i = c.in-Keys.number in
    let word = c.read_word-word.result in
    let r = c.next_word-sought.result in
    let above = l.self.above in
    let here = finding_at above depth (Keys seen i) in
    let next = finding_at above depth (staged r seen) in
    let now = moment z v (g.K.Sink.kept l.sink) l.left in
    let later = moment (g.S.Steps.sizes s) w (g.K.Sink.kept c.note.new.self) (l.left - 1) in
    let row = subst (λ (p : ℕ). read.Outcome z v w y (10 + p) word) c.from-place.ensures c.read_word-word.ensures.row in
    let noted = subst (λ (p : ℕ). node_of (g.K.Sink.kept c.note.new.self) ≡ set (node_of (g.K.Sink.kept l.sink)) (10 + p) (Some word)) c.from-place.ensures c.note.ensures.node in
    let small : get_or k depth 0 < 256 = omega (arith, c.type_inv.key depth) in
    let b = subst (λ (q : Sought). FitsAt k (finding_at above depth (staged q seen)) now) c.in-Keys.is l.invariant.found in
    let step = came_then k here now next later (g.met.S.Steps.only_sizes l.steps s c.read_word-word.ensures.only) (omega (arith, l.invariant.left))
    (heard_on z k v w here next (g.K.Sink.kept l.sink) (g.K.Sink.kept c.note.new.self) (Read y (10 + i)) (word_told word) refl (λ d. row) refl
    (staged_later depth i r seen b.2.descent.1.few c.next_word-sought.ensures.later) (staged_stands r seen) (staged_going r seen)
    (λ what u fits. staged_fits z k what depth u w seen (node_on z u v w y (10 + i) word n fits.0 row) (IsNextWord n.layout (get_or k depth 0) seen.header i word) r c.requires.deep small
    c.next_word-sought.ensures.tells
    (λ t shape holds. (node_still z u v w y (10 + i) word _ row fits.1.shows t shape holds).past)
    (λ t shape holds.
    let at = node_still z u v w y (10 + i) word _ row fits.1.shows t shape holds in
    record { is_header = at.past.is_header; is_word = node_word z u v w y (10 + i) word (cell.Node n) fits.0.cell row t shape holds; known = at.known }))
    (refl, record { node = noted; above = c.note.ensures.above })) in
    record {
      only = g.met.S.Steps.only_then c.args.steps.now l.steps s l.invariant.only c.read_word-word.ensures.only;
      left = omega (arith, c.if-left-ge5.true);
      less = omega (arith, l.invariant.less);
      found = found_on k here now next later (step here now (came_now k here now)) b;
      goes = λ m a came. step m a (subst (λ (q : Sought). Came k m a (finding_at above depth (staged q seen)) now) c.in-Keys.is (l.invariant.goes m a came));
    }
