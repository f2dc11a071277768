use Rattle.std.proofs.Common.{refl, arith}
use Rattle.art_path.proofs.ComparedWords.{words_same, words_below, words_above}
use Rattle.art_path.proofs.compared.compare_words.Goals as goal

pub returns-then-count-at : goal.returns-then-count-at
returns-then-count-at c = words_same c.args.word c.args.other c.args.count c.ranges.word.fits c.ranges.other.fits c.requires c.if-count-at.true

pub returns-then-word-other : goal.returns-then-word-other
returns-then-word-other c = words_below c.args.word c.args.other c.args.count _ c.ranges.word.fits c.ranges.other.fits c.requires refl (omega (arith, c.if-count-at.false)) c.if-word-other.true

pub returns-else-word-other : goal.returns-else-word-other
returns-else-word-other c = words_above c.args.word c.args.other c.args.count _ c.ranges.word.fits c.ranges.other.fits c.requires refl (omega (arith, c.if-count-at.false)) (omega (arith, c.if-word-other.false))
