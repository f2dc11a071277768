use Rattle.std.proofs.Common.{arith}
use Rattle.art_find.proofs.Stages.{bytes_above, bytes_below, bytes_begin, bytes_found, bytes_next}
use Rattle.art_find.proofs.descents.Descent.see_bytes.Goals as goal

pub returns-then-from-seen-clause-fits : goal.returns-then-from-seen-clause-fits
returns-then-from-seen-clause-fits c = λ z what u w on shows is.
    bytes_next z c.args.key.now what c.args.self.now.depth u w c.requires.deep c.args.seen on c.args.number c.args.word c.args.before c.beside_word-beside.result c.requires.more c.requires.few c.beside_word-beside.ensures shows is
    (omega (arith, c.if-from-seen.true, c.from.ensures))

pub returns-then-seen-key-clause-fits : goal.returns-then-seen-key-clause-fits
returns-then-seen-key-clause-fits c = λ z what u w on shows is.
    bytes_found z c.args.key.now what c.args.self.now.depth u w c.requires.deep c.args.seen on c.args.number c.args.word c.args.before c.beside_word-beside.result c.requires.more c.requires.few c.beside_word-beside.ensures shows is
    (omega (arith, c.if-from-seen.false, c.from.ensures)) c.in-Same.is c.if-seen-key.true

pub returns-else-seen-key-clause-fits : goal.returns-else-seen-key-clause-fits
returns-else-seen-key-clause-fits c = λ z what u w on shows is.
    bytes_begin z c.args.key.now what c.args.self.now.depth u w c.requires.deep c.args.seen on c.args.number c.args.word c.args.before c.beside_word-beside.result c.requires.more c.requires.few c.beside_word-beside.ensures shows is
    (omega (arith, c.if-from-seen.false, c.from.ensures)) c.in-Same.is c.if-seen-key.false

pub returns-in-Below-clause-fits : goal.returns-in-Below-clause-fits
returns-in-Below-clause-fits c = λ z what u w on shows is.
    bytes_below z c.args.key.now what c.args.self.now.depth u w c.requires.deep c.args.seen on c.args.number c.args.word c.args.before c.beside_word-beside.result c.requires.more c.requires.few c.beside_word-beside.ensures shows is
    (omega (arith, c.if-from-seen.false, c.from.ensures)) c.in-Below.at c.in-Below.is

pub returns-in-Above-clause-fits : goal.returns-in-Above-clause-fits
returns-in-Above-clause-fits c = λ z what u w on shows is.
    bytes_above z c.args.key.now what c.args.self.now.depth u w c.requires.deep c.args.seen on c.args.number c.args.word c.args.before c.beside_word-beside.result c.requires.more c.requires.few c.beside_word-beside.ensures shows is
    (omega (arith, c.if-from-seen.false, c.from.ensures)) c.in-Above.at c.within.result c.in-Above.is c.within.ensures.has c.within.ensures.ends
