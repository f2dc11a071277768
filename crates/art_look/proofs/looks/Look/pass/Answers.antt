use Rattle.std.proofs.Common.{◌≡◌, ◌<◌, ◌≤◌, ◌+◌, ◌*◌, ℕ, List, sym, ap, ◌∙◌, subst, arith}
use Rattle.art_look.specs.Fronts.{IsFront, low_at}
use Rattle.art_look.specs.Looks.{IsSought, StageFits, least_steps, most_steps}
use Rattle.art_look.specs.declared.looks.LookStage.{LookStage}
use Rattle.art_look.specs.declared.path_buffers.PathBuffer.{PathBuffer}
use Rattle.art_look.proofs.Counting.{staged_first, staged_least}
use Rattle.art_look.proofs.Stages.{before_fits, staged_fits}
use Rattle.art_node.specs.Searches.{IsHeader, SoughtFromTells}
use Rattle.art_tree.specs.Looks.{Before}
use Rattle.art_tree.specs.Tree.{Begins}
use Rattle.art_look.proofs.looks.Look.pass.Goals as goal

pub returns-in_default-clause-fits : goal.returns-in_default-clause-fits
returns-in_default-clause-fits c = λ z hi u w on shows.
    let m = c.args.self.now in
    let lo = c.args.lo.now in
    let found = subst (λ (p : List ℕ). Before p lo × (Begins p lo → ⊥)) c.as_slice.ensures.value c.in_default.ensures in
    let t : PathBuffer = record { path = c.truncate.new.self; key = c.args.path_buffer.now.key } in
    before_fits z lo hi m.depth c.args.path_buffer.now u w c.args.seen on t c.truncate.ensures.items (omega (arith, c.requires.short)) on.reads c.requires.front found.0 found.1 shows

pub returns-clause-steps : goal.returns-clause-steps
returns-clause-steps c =
    let m = c.args.self.now in
    subst (λ (g : LookStage). 320 * m.depth + 13 < most_steps m.depth g) (sym c.staged-self.ensures) (staged_first m.depth c.first_word_from.result c.args.seen c.in-Some.front)

pub returns-clause-fits : goal.returns-clause-fits
returns-clause-fits c = λ z hi u w on shows.
    let m = c.args.self.now in
    let lo = c.args.lo.now in
    let t = c.args.path_buffer.now in
    let seen = c.args.seen in
    let f = c.in-Some.front in
    let sought : IsSought lo m.depth t.path.items f = record {
      deep = omega (arith, c.requires.long);
      short = omega (arith, c.requires.long, c.requires.short);
      front = c.requires.front;
      side = subst (IsFront f lo) c.as_slice.ensures.value c.in-Some.ensures;
    } in
    let low : c.low_at-low.result ≡ low_at f lo t.path.items = c.low_at-low.ensures ∙ ap (low_at f lo) c.as_slice-2.ensures.value in
    let tells = subst (λ (b : ℕ). SoughtFromTells seen.node.layout b (IsHeader seen.header) c.first_word_from.result) low c.first_word_from.ensures in
    subst (λ (g : LookStage). StageFits z lo hi m.depth g t u w) (sym c.staged-self.ensures)
    (staged_fits z lo hi m.depth t u w seen on f sought (IsHeader seen.header) c.first_word_from.result tells shows (λ s shape holds. (shows s shape holds).is_header))

pub returns-clause-least : goal.returns-clause-least
returns-clause-least c =
    subst (λ (g : LookStage). least_steps g ≤ 2) (sym c.staged-self.ensures) (staged_least c.first_word_from.result c.args.seen c.in-Some.front)
