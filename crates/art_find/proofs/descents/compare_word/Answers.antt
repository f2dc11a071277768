use Rattle.std.proofs.Common.{◌≡◌, ℕ, ◌+◌, ◌-◌, ◌*◌, min, sym, ap, ◌∙◌, subst, arith}
use Rattle.art_cell.specs.Words.{byte_of}
use Rattle.art_find.specs.Compares.{ComparesWord}
use Rattle.art_find.proofs.ComparedWords.{goes_on_same}
use Rattle.art_path.specs.Compared.{IsCompared, behind}
use Rattle.art_path.specs.declared.compared.Compared.{Compared}
use Rattle.art_path.specs.declared.compared.Compared.TheVariants.{Same}
use Rattle.art_find.proofs.descents.compare_word.Goals as goal

pub returns-in-Same : goal.returns-in-Same
returns-in-Same c =
    let k = c.args.key.now in
    let n = c.args.number in
    let r = c.compare_prefix.result in
    let done : 8 * c.from-done.result ≡ 8 * n = omega (arith, c.from-done.ensures) in
    let compared : IsCompared (byte_of c.args.word) c.min.result k (c.args.from + 8 * n) r =
    subst (λ (i : ℕ). IsCompared (byte_of c.args.word) c.min.result k (c.args.from + i) r) done c.compare_prefix.ensures in
    let whole : c.min.result ≡ min c.args.count (8 * n + 8) - 8 * n = omega (arith, c.min.ensures, done, c.requires.more) in
    subst (λ (before : Compared). ComparesWord k c.args.from c.args.count n c.args.word before c.behind.result) (sym c.in-Same.is)
    (subst (ComparesWord k c.args.from c.args.count n c.args.word Same) (sym (c.behind.ensures ∙ ap (λ (i : ℕ). behind i r) done))
    (goes_on_same k c.args.from c.args.count n c.args.word c.min.result r whole c.requires.more compared))
