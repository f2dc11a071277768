use Rattle.std.proofs.Common.{◌<◌, ◌+◌, ◌*◌, get_or, sym, subst, arith}
use Rattle.art_find.specs.Descents.{StageFits, later_key, most_steps}
use Rattle.art_find.specs.declared.descents.Stage.{Stage}
use Rattle.art_find.proofs.Stages.{staged_fits}
use Rattle.art_find.proofs.Counting.{staged_later}
use Rattle.art_node.specs.Searches.{IsNextWord}
use Rattle.art_find.proofs.descents.Descent.see_keys.Goals as goal

pub returns-clause-steps : goal.returns-clause-steps
returns-clause-steps c =
    let m = c.args.self.now in
    subst (λ (t : Stage). 18 * m.depth + 14 + later_key c.args.number < most_steps m.depth t) (sym c.staged-self.ensures)
    (staged_later m.depth c.args.number c.next_word.result c.args.seen c.requires.number c.next_word.ensures.later)

pub returns-clause-fits : goal.returns-clause-fits
returns-clause-fits c = λ z what u w on shows is.
    let m = c.args.self.now in
    let k = c.args.key.now in
    let seen = c.args.seen in
    let small : get_or k m.depth 0 < 256 = omega (arith, c.type_inv.key m.depth) in
    subst (λ (t : Stage). StageFits z k what m.depth t u w) (sym c.staged-self.ensures)
    (staged_fits z k what m.depth u w seen on (IsNextWord seen.node.layout (get_or k m.depth 0) seen.header c.args.number c.args.word) c.next_word.result c.requires.deep small c.next_word.ensures.tells
    (λ s shape holds. (shows s shape holds).past)
    (λ s shape holds. let at = shows s shape holds in record { is_header = at.past.is_header; is_word = is s shape holds; known = at.known }))
