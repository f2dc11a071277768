use Rattle.std.proofs.Common.{◌≡◌, ◌∙◌, None, sym, subst}
use Rattle.std.proofs.lemmas.Option.{same_Some}
use Rattle.art_cell.specs.declared.cells.Layout.{Layout}
use Rattle.art_epoch.specs.Stocks.{node_in}
use Rattle.art_attempt.specs.Reserve.{IsSought}
use Rattle.art_step.specs.Views.{pool_of_layout}
use Rattle.art_attempt.proofs.Reserves.{told_sought}
use Rattle.art_attempt.proofs.reserve.node_told.Goals as goal

pub node_sought-requires : goal.node_sought-requires
node_sought-requires c =
    let r = c.requires in
    let p = r.7.stage.1.seeking.sought in
    (r.0, p.early, r.5, c.told.ensures.fits r.0 p.early r.4 r.5 r.6 p.seeks r.8 r.9)

pub returns-clause-fits : goal.returns-clause-fits
returns-clause-fits c z k value u v w asked fits is row =
    let demand = c.args.demand.now in
    let q = fits.stage.1 in
    let p = q.seeking.sought in
    let one : q.layout ≡ c.in-Some.layout = same_Some {A = Layout} q.layout c.in-Some.layout (sym q.wanted ∙ c.in-Some.is) in
    let then = told_sought z k value c.args.stock.now u c.args.taking c.told.new.self (pool_of_layout q.layout) v w p asked c.args.answer is row c.told.ensures.pool (c.told.ensures.fits z p.early v w asked p.seeks is row) in
    c.node_sought.ensures.fits z demand k value u w fits.sizes c.in-Some.is
    (subst (λ (b : Layout). node_in c.args.stock.now b ≡ None) one q.none)
    fits.stage.0
    (subst (λ (b : Layout). IsSought z k value c.args.stock.now u c.told.new.self (pool_of_layout b) w) one then)
