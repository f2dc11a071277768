use Rattle.std.proofs.Common.{◌≡◌, ◌∙◌, ap, sym, subst}
use Rattle.art_attempt.proofs.Chosen.{wants_same}
use Rattle.art_attempt.proofs.Stages.{goes_on_at}
use Rattle.art_attempt.proofs.attempts.Attempt.supply.Goals as goal
use Rattle.art_attempt.specs.Attempts.{EndsWithin, HasSupplies, IsRoom, WantsNumbers}
use Rattle.art_attempt.specs.Cases.{IsCaseOf, demand_of}
use Rattle.art_attempt.specs.declared.attempts.Job.{Job}
use Rattle.art_attempt.specs.declared.attempts.Part.TheVariants as parts
use Rattle.art_attempt.specs.declared.attempts.Case.{Case}
use Rattle.art_attempt.specs.declared.reserve.Reserve.{Reserve}
use Rattle.art_attempt.specs.declared.attempts.Room.{Room}
use Rattle.art_epoch.specs.declared.stocks.Stock.{Stock}
use Rattle.art_find.specs.Findings.{IsStanding}
use Rattle.art_find.specs.declared.findings.Position.{Position}
use Rattle.art_step.specs.declared.views.View.{View}
use Rattle.art_epoch.specs.Stocks.{HasStock}
use Rattle.art_attempt.specs.Reserve.{Fits as SupplyFits}
use Rattle.art_attempt.specs.declared.reserve.Demand.{Demand}
use Rattle.art_step.specs.declared.views.Sizes.{Sizes}

pub new-reserve-requires : goal.new-reserve-requires
new-reserve-requires c =
    let q = c.requires.within in
    let r = c.args.room.now in
    let k = r.row.key.items in
    let value = r.row.value in
    let found = c.args.position.now.verdict in
    let same : c.demand-demand.result ≡ demand_of q.0 c.args.case found = c.demand-demand.ensures ∙ ap (λ (y : Sizes). demand_of y c.args.case found) q.3.sizes in
    (k, value, q.2, subst (λ (x : Demand). HasStock x.sizes k value q.2 r.stock) (sym same) q.4.has)

-- all that is known when it begins, by the demand that it begins with
begins : (z : Sizes) (u : View) (j : Job) (t : Position) (k : Case) (s : Reserve) (r : Room) (stock : Stock) (v : View) (d : Demand) → d ≡ demand_of r.sizes k t.verdict → IsRoom z r → EndsWithin z u 1203 r v → IsCaseOf j k
    → IsStanding z r.row.key.items t r.read_set v → WantsNumbers z u k t r v
    → (HasStock d.sizes r.row.key.items r.row.value v r.stock → SupplyFits d.sizes d r.row.key.items r.row.value s stock v v) → HasSupplies z u j t k s (record r { stock = stock }) v
begins z u j t k s r stock v d wanted room so of standing wants begun =
    let l = r.row.key.items in
    let value = r.row.value in
    let same : d ≡ demand_of z k t.verdict = wanted ∙ ap (λ (y : Sizes). demand_of y k t.verdict) room.sizes in
    let fits = begun (subst (λ (x : Demand). HasStock x.sizes l value v r.stock) (sym same) so.has) in
    record {
      early = v;
      base = so.still;
      spent = so.spent;
      case = of;
      standing = standing;
      wants = wants_same z u t r v k stock wants;
      fits = subst (λ (x : Demand). SupplyFits x.sizes x l value s stock v v) same fits;
    }

pub returns-in-None-clause-fits : goal.returns-in-None-clause-fits
returns-in-None-clause-fits c z u v room so of standing wants =
    let m = c.args.self.now in
    let t = c.args.position.now in
    let r = c.args.room.now in
    let k = c.args.case in
    let s = c.new-reserve.result in
    let stock = c.new-reserve.new.stock in
    let h = begins z u m.job t k s r stock v c.demand-demand.result c.demand-demand.ensures room so of standing wants (c.new-reserve.ensures.fits r.row.key.items r.row.value v) in
    goes_on_at z u m c.go_on.new.self t (parts.Reserve k s) (record r { stock = stock }) v c.go_on.ensures (record { sizes = room.sizes; key = room.key }) (h, sym c.ended.ensures.at ∙ c.in-None.is)

pub returns-in-Some-clause-fits : goal.returns-in-Some-clause-fits
returns-in-Some-clause-fits c z u v room so of standing wants =
    let m = c.args.self.now in
    let t = c.args.position.now in
    let r = c.args.room.now in
    let k = c.args.case in
    let s = c.new-reserve.result in
    let stock = c.new-reserve.new.stock in
    let h = begins z u m.job t k s r stock v c.demand-demand.result c.demand-demand.ensures room so of standing wants (c.new-reserve.ensures.fits r.row.key.items r.row.value v) in
    c.supplied.ensures.fits z u v s (record { sizes = room.sizes; key = room.key }) h (sym c.ended.ensures.at ∙ c.in-Some.is)
