use Rattle.art_key.proofs.Wholes.{sum_fits, seen_sum, front_whole_is}
use Rattle.art_key.proofs.kinds.WholesCodes.front.Goals as goal

pub overflow_add-number : goal.overflow_add-number
overflow_add-number c = rw (c.from.ensures) (sum_fits c.args.self.least c.number_of.result c.args.self.low c.args.self.high c.number_of.type_inv)

pub returns : goal.returns
returns c =
    let parts = c.in_ok-front.ensures.cases in
    rw (c.from.ensures, seen_sum c.args.self.least c.number_of.result c.args.self.low c.args.self.high c.number_of.type_inv) (
    front_whole_is c.args.self.bytes c.args.self.least c.args.bytes.now c.in_ok-front.front.now c.in_ok-front.rest.now c.number_of.result parts.0 parts.1 parts.2 c.number_of.ensures.value
    )
