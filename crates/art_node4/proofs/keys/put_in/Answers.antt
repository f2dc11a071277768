use Rattle.std.proofs.Common.{ℕ, ◌-◌, ◌*◌, refl, ap, ◌∙◌, arith}
use Rattle.art_cell.specs.Words.{byte_of}
use Rattle.art_node4.proofs.Shifted.{put_fits, put_before, put_behind, put_code, put_here}
use Rattle.art_node4.proofs.keys.put_in.Goals as goal

pub returns-clause-here : goal.returns-clause-here
returns-clause-here c =
    ap (λ (m : ℕ). byte_of m c.args.at) (put_code c.args.word c.args.at (omega arith) c.requires (56 - 8 * c.args.at) refl c.args.byte (omega arith) c.from.result c.from.ensures)
    ∙ put_here c.args.word c.args.at (omega arith) c.requires (56 - 8 * c.args.at) refl c.args.byte (omega arith)

pub returns-clause-before : goal.returns-clause-before
returns-clause-before c i low =
    ap (λ (m : ℕ). byte_of m i) (put_code c.args.word c.args.at (omega arith) c.requires (56 - 8 * c.args.at) refl c.args.byte (omega arith) c.from.result c.from.ensures)
    ∙ put_before c.args.word c.args.at (omega arith) c.requires (56 - 8 * c.args.at) refl c.args.byte (omega arith) i low

pub returns-clause-behind : goal.returns-clause-behind
returns-clause-behind c i low high =
    ap (λ (m : ℕ). byte_of m i) (put_code c.args.word c.args.at (omega arith) c.requires (56 - 8 * c.args.at) refl c.args.byte (omega arith) c.from.result c.from.ensures)
    ∙ put_behind c.args.word c.args.at (omega arith) c.requires (56 - 8 * c.args.at) refl c.args.byte (omega arith) i low high

pub overflow_add-result-2 : goal.overflow_add-result-2
overflow_add-result-2 c =
    let code = put_code c.args.word c.args.at (omega arith) c.requires (56 - 8 * c.args.at) refl c.args.byte (omega arith) c.from.result c.from.ensures in
    let fits = put_fits c.args.word c.args.at (omega arith) c.requires (56 - 8 * c.args.at) refl c.args.byte (omega arith) in
    omega (arith, code, fits)
