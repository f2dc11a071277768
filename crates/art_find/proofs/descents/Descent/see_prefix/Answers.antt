use Rattle.std.proofs.Common.{ℕ, subst, arith}
use Rattle.art_find.specs.Compares.{ComparesWord}
use Rattle.art_find.proofs.Stages.{prefix_above, prefix_below, prefix_next, prefix_passed}
use Rattle.art_find.proofs.descents.Descent.see_prefix.Goals as goal

pub returns-then-from-count-clause-fits : goal.returns-then-from-count-clause-fits
returns-then-from-count-clause-fits c = λ z what u w on shows is.
    let m = c.args.self.now in
    let k = c.args.key.now in
    let counted = c.read_header-count.ensures.prefix in
    let tells = subst (λ (n : ℕ). ComparesWord k m.depth n c.args.number c.args.word c.args.before c.compare_word-compared.result) counted c.compare_word-compared.ensures in
    prefix_next z k what m.depth u w c.args.seen on c.args.number c.args.word c.args.before c.compare_word-compared.result c.requires.deep c.requires.more tells shows is
    (omega (arith, c.if-from-count.true, c.from.ensures, counted)) c.requires.short

pub returns-in-Same-clause-fits : goal.returns-in-Same-clause-fits
returns-in-Same-clause-fits c = λ z what u w on shows is.
    let m = c.args.self.now in
    let k = c.args.key.now in
    let counted = c.read_header-count.ensures.prefix in
    let tells = subst (λ (n : ℕ). ComparesWord k m.depth n c.args.number c.args.word c.args.before c.compare_word-compared.result) counted c.compare_word-compared.ensures in
    c.pass.ensures.fits z what u w on
    (prefix_passed z k what m.depth u w c.args.seen on c.args.number c.args.word c.args.before c.compare_word-compared.result c.requires.deep c.requires.more tells shows is
    (omega (arith, c.if-from-count.false, c.from.ensures, counted)) c.in-Same.is)

pub returns-in-Below-clause-fits : goal.returns-in-Below-clause-fits
returns-in-Below-clause-fits c = λ z what u w on shows is.
    let m = c.args.self.now in
    let k = c.args.key.now in
    let counted = c.read_header-count.ensures.prefix in
    let tells = subst (λ (n : ℕ). ComparesWord k m.depth n c.args.number c.args.word c.args.before c.compare_word-compared.result) counted c.compare_word-compared.ensures in
    prefix_below z k what m.depth u w c.args.seen on c.args.number c.args.word c.args.before c.compare_word-compared.result c.requires.deep c.requires.more tells shows is
    (omega (arith, c.if-from-count.false, c.from.ensures, counted)) c.in-Below.at c.in-Below.is

pub returns-in-Above-clause-fits : goal.returns-in-Above-clause-fits
returns-in-Above-clause-fits c = λ z what u w on shows is.
    let m = c.args.self.now in
    let k = c.args.key.now in
    let counted = c.read_header-count.ensures.prefix in
    let tells = subst (λ (n : ℕ). ComparesWord k m.depth n c.args.number c.args.word c.args.before c.compare_word-compared.result) counted c.compare_word-compared.ensures in
    prefix_above z k what m.depth u w c.args.seen on c.args.number c.args.word c.args.before c.compare_word-compared.result c.requires.deep c.requires.more tells shows is
    (omega (arith, c.if-from-count.false, c.from.ensures, counted)) c.in-Above.at c.within.result c.in-Above.is c.within.ensures.has c.within.ensures.ends
