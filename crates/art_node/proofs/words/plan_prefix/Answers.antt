use Rattle.std.proofs.Common.{◌≡◌, ◌+◌, ◌-◌, List, ap, length, subst, sym, ◌∙◌, arith}
use Rattle.art_cell.specs.Lemmas.Differing.{first_differ}
use Rattle.art_cell.specs.Reads.{SameOutside, changes, word_of, written}
use Rattle.art_cell.specs.declared.cells.Write.{Write}
use Rattle.art_cell.specs.Words.{Words, child_of, size}
use Rattle.art_cell.proofs.ChangedWords.{written-changes}
use Rattle.art_node.specs.Prefixes.{IsNodeOf}
use Rattle.art_node.proofs.Prefixed.{past_prefix}
use Rattle.art_node.proofs.words.plan_prefix.Goals as goal

pub returns-clause-plan : goal.returns-clause-plan
returns-clause-plan c =
    let k = c.args.body.now.layout in
    let w = word_of c.args.body.now in
    let after = word_of c.set_prefix.new.body in
    let same : written w c.changes.new.writes.items ≡ after = ap (written w) c.changes.ensures ∙ (λ i p. written-changes k w after (omega (arith, past_prefix k)) c.set_prefix.ensures.outside p i) in
    record {
      node = subst (λ (x : Words). IsNodeOf k x c.args.prefix.now (child_of k w)) (sym same) c.set_prefix.ensures.node;
      exact = c.changes.ensures ∙ ap (changes k w) (sym same);
      outside = subst (SameOutside k w) (sym same) c.set_prefix.ensures.outside;
    }

pub returns-clause-few : goal.returns-clause-few
returns-clause-few c =
    let k = c.args.body.now.layout in
    let cell : size k ≡ 1 + 9 + (size k - 10) = omega (arith, past_prefix k) in
    let differ = first_differ (word_of c.args.body.now) (word_of c.set_prefix.new.body) k 9 (size k - 10) cell (λ place past. sym (c.set_prefix.ensures.rest place past)) in
    let all = ap (λ (xs : List Write). length xs) c.changes.ensures in
    omega (arith, differ, all)
