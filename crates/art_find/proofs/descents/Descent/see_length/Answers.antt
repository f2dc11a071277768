use Rattle.std.proofs.Common.{length, refl, sym, ◌∙◌, arith}
use Rattle.std.proofs.lemmas.Bool.{eqb-true, eqb-false}
use Rattle.art_find.proofs.Stages.{bytes_first, empty_begins, empty_found, length_torn}
use Rattle.art_find.proofs.descents.Descent.see_length.Goals as goal

pub returns-then-bytes-gt64-clause-fits : goal.returns-then-bytes-gt64-clause-fits
returns-then-bytes-gt64-clause-fits c = λ z what u w on shows is.
    length_torn z c.args.key.now what c.args.self.now.depth u w c.requires.deep c.args.stamp c.args.leaf on c.args.value c.args.bytes shows is c.if-bytes-gt64.true

pub returns-then-bytes-gt0-clause-fits : goal.returns-then-bytes-gt0-clause-fits
returns-then-bytes-gt0-clause-fits c = λ z what u w on shows is.
    bytes_first z c.args.key.now what c.args.self.now.depth u w c.requires.deep c.args.stamp c.args.leaf on c.args.value c.args.bytes shows is c.if-bytes-gt0.true c.if-bytes-gt64.false _ refl

pub returns-then-is_empty-clause-fits : goal.returns-then-is_empty-clause-fits
returns-then-is_empty-clause-fits c = λ z what u w on shows is.
    let k = c.args.key.now in
    empty_found z k what c.args.self.now.depth u w c.requires.deep c.args.stamp c.args.leaf on c.args.value c.args.bytes shows is (omega (arith, c.if-bytes-gt0.false))
    (eqb-true (length k) 0 (sym c.is_empty.ensures ∙ c.if-is_empty.true))

pub returns-else-is_empty-clause-fits : goal.returns-else-is_empty-clause-fits
returns-else-is_empty-clause-fits c = λ z what u w on shows is.
    let k = c.args.key.now in
    empty_begins z k what c.args.self.now.depth u w c.requires.deep c.args.stamp c.args.leaf on c.args.value c.args.bytes shows is (omega (arith, c.if-bytes-gt0.false))
    (λ same. eqb-false (length k) 0 (sym c.is_empty.ensures ∙ c.if-is_empty.false) (omega (arith, c.if-bytes-gt0.false, same)))
