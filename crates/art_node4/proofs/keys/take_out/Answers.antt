use Rattle.std.proofs.Common.{ℕ, ◌-◌, ◌*◌, refl, ap, ◌∙◌, arith}
use Rattle.art_cell.specs.Words.{byte_of}
use Rattle.art_node4.proofs.Shifted.{taken_before, taken_behind, taken_code, taken_last}
use Rattle.art_node4.proofs.keys.take_out.Goals as goal

pub returns-clause-last : goal.returns-clause-last
returns-clause-last c =
    ap (λ (m : ℕ). byte_of m 7) (taken_code c.args.word c.args.at (omega arith) c.requires (56 - 8 * c.args.at) refl c.args.last (omega arith) c.from.result c.from.ensures)
    ∙ taken_last c.args.word c.args.at (omega arith) c.requires (56 - 8 * c.args.at) refl c.args.last (omega arith)

pub returns-clause-before : goal.returns-clause-before
returns-clause-before c i low =
    ap (λ (m : ℕ). byte_of m i) (taken_code c.args.word c.args.at (omega arith) c.requires (56 - 8 * c.args.at) refl c.args.last (omega arith) c.from.result c.from.ensures)
    ∙ taken_before c.args.word c.args.at (omega arith) c.requires (56 - 8 * c.args.at) refl c.args.last (omega arith) i low

pub returns-clause-behind : goal.returns-clause-behind
returns-clause-behind c i low high =
    ap (λ (m : ℕ). byte_of m i) (taken_code c.args.word c.args.at (omega arith) c.requires (56 - 8 * c.args.at) refl c.args.last (omega arith) c.from.result c.from.ensures)
    ∙ taken_behind c.args.word c.args.at (omega arith) c.requires (56 - 8 * c.args.at) refl c.args.last (omega arith) i low high
