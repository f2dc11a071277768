use Rattle.std.proofs.Common.{◌≡◌, ◌-◌, length, take, drop, ap, ◌∙◌, arith, length-drop}
use Rattle.std.proofs.lemmas.List.{take_rest}
use Rattle.art_cell.specs.Words.{byte_of}
use Rattle.art_path.proofs.ComparedWords.{loaded_compared}
use Rattle.art_path.proofs.compared.compare_prefix.Goals as goal

pub returns-in-Some : goal.returns-in-Some
returns-in-Some c =
    let key = c.args.key.now in
    let from = c.args.from in
    let rest : take (length key - from) (drop from key) ≡ drop from key = take_rest key from in
    let cases = c.in-Some.ensures.cases in
    loaded_compared (byte_of c.args.word) c.args.count key from c.in-Some.eight.now c.from_be_bytes.result c.compare_words.result record {
      within = omega (arith, cases.enough, ap length rest, length-drop from key);
      are = cases.same ∙ ap (take 8) rest;
      small = λ i. omega (arith, c.type_inv.key i);
      is = c.from_be_bytes.ensures;
    } c.requires.few c.compare_words.ensures
