-- The search goes on as the word says.
use Rattle.std.proofs.Common.{arith, subst, ℕ}
use Rattle.art_epoch.specs.Taking.{Fits, search_after}
use Rattle.art_epoch.specs.declared.stocks.Search.{Search}
use Rattle.art_epoch.proofs.Searching.{hears_word, is_search, told_fits}
use Rattle.std.proofs.Common.{sym}
use Rattle.art_epoch.proofs.stocks.Taking.told.Goals as goal

pub after-self-requires : goal.after-self-requires
after-self-requires c = let k = c.requires in is_search k.0 k.1 c.args.self.now k.2 k.4 k.5 k.6

pub returns-clause-fits : goal.returns-clause-fits
returns-clause-fits c = λ z v0 v w a fits asked row.
    subst (λ (s : Search). Fits z v0 (record { pool = c.args.self.now.pool; words = c.args.self.now.words; first = c.args.self.now.first; search = s }) w) (sym c.after-self.ensures)
    (subst (λ (x : ℕ). Fits z v0 (record { pool = c.args.self.now.pool; words = c.args.self.now.words; first = c.args.self.now.first; search = search_after x c.args.self.now.search }) w) (sym c.word.ensures) (told_fits z v0 c.args.self.now v w a c.args.answer (let e = c.word.ensures in omega (arith, e)) fits asked row))

pub word-requires : goal.word-requires
word-requires c = let k = c.requires in hears_word k.0 c.args.self.now k.2 k.3 k.4 c.args.answer k.6 k.7
