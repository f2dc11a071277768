use Rattle.std.proofs.Common.{◌≡◌, ◌++◌, ◌-◌, take, drop, rules, sym, ap, ◌∙◌, ℕ, nat_abs, List}
use Rattle.std.specs.Int.{bytes_high_first}
use mir.Val.{SFits}
use mir.Syntax.{w128}
use Rattle.art_model.specs.declared.values.Value.{Value}
use Rattle.art_key.specs.Kinds.{whole_fault, whole_spelling}
use Rattle.art_key.proofs.Wholes.{above_seen, sub_fits, seen_above, cast_fits, whole_stands, last_bytes}
use Rattle.art_key.proofs.kinds.WholesCodes.append.Goals as goal

pub overflow_sub-above : goal.overflow_sub-above
overflow_sub-above c =
    let z-fits : SFits w128 c.in-Int.number = search rules in
    let least-fits : SFits w128 c.args.self.least = search rules in
    let greatest-fits : SFits w128 c.args.self.greatest = search rules in
    sub_fits c.args.self.bytes c.args.self.least c.in-Int.number (
    above_seen c.args.self.bytes c.args.self.least c.args.self.greatest c.in-Int.number z-fits least-fits greatest-fits c.args.self.few c.if-number-self.false c.if-self-number.false c.args.self.all
    )

pub overflow_cast-above : goal.overflow_cast-above
overflow_cast-above c =
    let z-fits : SFits w128 c.in-Int.number = search rules in
    let least-fits : SFits w128 c.args.self.least = search rules in
    let greatest-fits : SFits w128 c.args.self.greatest = search rules in
    let above =
    above_seen c.args.self.bytes c.args.self.least c.args.self.greatest c.in-Int.number z-fits least-fits greatest-fits c.args.self.few c.if-number-self.false c.if-self-number.false c.args.self.all in
    cast_fits (seen_above c.args.self.bytes c.args.self.least c.in-Int.number above) above.wide

pub returns-clause-stands : goal.returns-clause-stands
returns-clause-stands c =
    let z-fits : SFits w128 c.in-Int.number = search rules in
    let least-fits : SFits w128 c.args.self.least = search rules in
    let greatest-fits : SFits w128 c.args.self.greatest = search rules in
    let above =
    above_seen c.args.self.bytes c.args.self.least c.args.self.greatest c.in-Int.number z-fits least-fits greatest-fits c.args.self.few c.if-number-self.false c.if-self-number.false c.args.self.all in
    ap (whole_fault c.args.self.bytes c.args.self.least c.args.place) c.in-Int.is ∙ whole_stands c.args.self.bytes c.args.place c.args.self.least c.in-Int.number above

pub returns-clause-bytes : goal.returns-clause-bytes
returns-clause-bytes c =
    let z-fits : SFits w128 c.in-Int.number = search rules in
    let least-fits : SFits w128 c.args.self.least = search rules in
    let greatest-fits : SFits w128 c.args.self.greatest = search rules in
    let above =
    above_seen c.args.self.bytes c.args.self.least c.args.self.greatest c.in-Int.number z-fits least-fits greatest-fits c.args.self.few c.if-number-self.false c.if-self-number.false c.args.self.all in
    let number = ap nat_abs (seen_above c.args.self.bytes c.args.self.least c.in-Int.number above) in
    let spelled : c.to_be_bytes.result ≡ bytes_high_first 8 above.number = c.to_be_bytes.ensures ∙ ap (bytes_high_first 8) number in
    let last = last_bytes c.args.self.bytes c.args.self.least c.in-Int.number above c.args.self.few in
    c.append_bytes.ensures
    ∙ ap (λ (bytes : List ℕ). c.args.key.now.items ++ take (8 - (8 - c.args.self.bytes)) (drop (8 - c.args.self.bytes) bytes)) spelled
    ∙ ap (λ (bytes : List ℕ). c.args.key.now.items ++ bytes) last
    ∙ ap (λ (v : Value). c.args.key.now.items ++ whole_spelling c.args.self.bytes c.args.self.least v) (sym c.in-Int.is)
