use Rattle.std.proofs.Common.{◌∙◌, subst, sym}
use Rattle.std.proofs.lemmas.Bool.{eqb-false, eqb-true}
use Rattle.art_epoch.specs.Stocks.{HasStock}
use Rattle.art_epoch.specs.declared.stocks.Stock.{Stock}
use Rattle.art_attempt.proofs.Reserves.{asks_next, leaf_words, next_row, packed_all, packed_next, packed_soon}
use Rattle.art_attempt.proofs.reserve.leaf_packed.Goals as goal
use Rattle.art_attempt.specs.Reserve.{HasLeafWords, OnlySupplies}

pub node_wanted-requires : goal.node_wanted-requires
node_wanted-requires c =
    let demand = c.args.demand.now in
    let s = c.args.stock.now in
    let p = c.args.leaf_writer in
    let r = c.requires in
    let f = r.8 in
    let q = f.stage.1 in
    let packs = c.told.ensures.fits r.0 q.leaf r.1 r.2 q.early r.4 r.5 _ r.7 q.packs (asks_next r.0 demand r.1 r.2 s r.3 p r.4 r.5 f)
    (next_row r.0 demand r.1 r.2 s r.3 p r.4 r.5 f r.6 r.7 r.9 r.10) in
    let last = eqb-true c.told.new.self.place 10 (sym c.is_over.ensures ∙ c.if-is_over.true) in
    let only = packed_all r.0 demand r.1 r.2 s r.3 p r.4 r.5 f r.6 r.7 r.9 r.10 c.told.new.self packs last in
    (r.0, r.5, r.1, r.2, f.sizes, subst (HasStock r.0 r.1 r.2 r.5) (sym c.set_written.ensures) only.has)

pub returns-then-is_over-clause-fits : goal.returns-then-is_over-clause-fits
returns-then-is_over-clause-fits c z k value u v w asked answer fits is row =
    let demand = c.args.demand.now in
    let s = c.args.stock.now in
    let p = c.args.leaf_writer in
    let q = fits.stage.1 in
    let packs = c.told.ensures.fits z q.leaf k value q.early v w _ answer q.packs (asks_next z demand k value s u p v w fits) (next_row z demand k value s u p v w fits asked answer is row) in
    let last = eqb-true c.told.new.self.place 10 (sym c.is_over.ensures ∙ c.if-is_over.true) in
    let only = packed_all z demand k value s u p v w fits asked answer is row c.told.new.self packs last in
    c.node_wanted.ensures.fits z k value u w fits.sizes (subst (λ (t : Stock). OnlySupplies z k value t u w) (sym c.set_written.ensures) only)
    (packed_soon z demand k value s u p v w fits asked answer is row c.told.new.self packs)
    (λ want. subst HasLeafWords (sym c.set_written.ensures) (leaf_words s q.leaf q.is))

pub returns-clause-fits : goal.returns-clause-fits
returns-clause-fits c z k value u v w asked answer fits is row =
    let demand = c.args.demand.now in
    let s = c.args.stock.now in
    let p = c.args.leaf_writer in
    let q = fits.stage.1 in
    let packs = c.told.ensures.fits z q.leaf k value q.early v w _ answer q.packs (asks_next z demand k value s u p v w fits) (next_row z demand k value s u p v w fits asked answer is row) in
    let other = eqb-false c.told.new.self.place 10 (sym c.is_over.ensures ∙ c.if-is_over.false) in
    packed_next z demand k value s u p v w fits asked answer is row c.told.new.self packs other
