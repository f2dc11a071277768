use Rattle.std.proofs.Common.{ℕ, sym, subst}
use Rattle.art_find.proofs.ComparedWords.{beside_goes_on}
use Rattle.art_find.specs.Compares.{TellsBeside}
use Rattle.art_find.proofs.descents.beside_word.Goals as goal

pub returns : goal.returns
returns c = subst (λ (byte : ℕ). TellsBeside c.args.key.now c.args.count c.args.number c.args.word c.args.before (record { compared = c.compare_word-compared.result; byte = byte }))
    (sym c.byte_after-byte.ensures)
    (beside_goes_on c.args.key.now c.args.count c.args.number c.args.word c.args.before c.compare_word-compared.result c.requires.more c.compare_word-compared.ensures)
