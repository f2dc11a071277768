use Rattle.std.proofs.Common.{◌≡◌, ◌<◌, ◌≤◌, ◌+◌, ◌*◌, ℕ, sym, ap, ◌∙◌, subst}
use Rattle.art_look.specs.Fronts.{low_at}
use Rattle.art_look.specs.Looks.{StageFits, least_steps, most_steps}
use Rattle.art_look.specs.declared.looks.LookStage.{LookStage}
use Rattle.art_look.proofs.Counting.{staged_later, staged_least}
use Rattle.art_look.proofs.Stages.{staged_fits}
use Rattle.art_node.specs.Searches.{IsNextWordFrom, SoughtFromTells}
use Rattle.art_look.proofs.looks.Look.see_keys.Goals as goal

pub returns-clause-steps : goal.returns-clause-steps
returns-clause-steps c =
    let m = c.args.self.now in
    subst (λ (g : LookStage). 320 * m.depth + 14 + c.args.number < most_steps m.depth g) (sym c.staged-self.ensures)
    (staged_later m.depth c.args.number c.next_word_from.result c.args.seen c.args.front c.requires.number c.next_word_from.ensures.later)

pub returns-clause-fits : goal.returns-clause-fits
returns-clause-fits c = λ z hi u w on shows is.
    let m = c.args.self.now in
    let lo = c.args.lo.now in
    let t = c.args.path_buffer.now in
    let seen = c.args.seen in
    let k = seen.node.layout in
    let low : c.low_at-low.result ≡ low_at c.args.front lo t.path.items = c.low_at-low.ensures ∙ ap (low_at c.args.front lo) c.as_slice.ensures.value in
    let tells = subst (λ (b : ℕ). SoughtFromTells k b (IsNextWordFrom k b seen.header c.args.number c.args.word) c.next_word_from.result) low c.next_word_from.ensures.tells in
    subst (λ (g : LookStage). StageFits z lo hi m.depth g t u w) (sym c.staged-self.ensures)
    (staged_fits z lo hi m.depth t u w seen on c.args.front c.requires.sought (IsNextWordFrom k (low_at c.args.front lo t.path.items) seen.header c.args.number c.args.word) c.next_word_from.result tells
    (λ s shape holds. (shows s shape holds).path)
    (λ s shape holds. let at = shows s shape holds in record { is_header = at.path.is_header; is_word = is s shape holds; known = at.known }))

pub returns-clause-least : goal.returns-clause-least
returns-clause-least c =
    subst (λ (g : LookStage). least_steps g ≤ 2) (sym c.staged-self.ensures) (staged_least c.next_word_from.result c.args.seen c.args.front)
