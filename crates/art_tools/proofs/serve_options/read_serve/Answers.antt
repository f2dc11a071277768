use Rattle.std.proofs.Common.{[], ◌∷◌, ◌++◌, codes}
use Rattle.clap.specs.Words.{first_value, found_of}
use Rattle.art_tools.proofs.Digits.{fault_at, fault_before, told_for}
use Rattle.art_tools.proofs.serve_options.read_serve.Goals as goal
use Rattle.art_tools.specs.Options.{own_serve_options, size_options}

pub returns-in_err-read_options : goal.returns-in_err-read_options
returns-in_err-read_options c =
    let given = first_value (found_of c.args.given.now) in
    told_for c.from_residual.result _ _ _ c.from_residual.ensures.1 (fault_before given size_options own_serve_options (c.in_err-read_options.ensures))

pub returns-in_err-number : goal.returns-in_err-number
returns-in_err-number c =
    let given = first_value (found_of c.args.given.now) in
    let r = c.from_residual-in_err-number in
    told_for r.result _ _ _ r.ensures.1 (fault_at given (size_options) (codes "workers" ∷ codes "sessions" ∷ []) (codes "port") c.in_err-number.ensures)

pub returns-in_err-number-2 : goal.returns-in_err-number-2
returns-in_err-number-2 c =
    let given = first_value (found_of c.args.given.now) in
    let r = c.from_residual-in_err-number-2 in
    told_for r.result _ _ _ r.ensures.1 (fault_at given (size_options ++ codes "port" ∷ []) (codes "sessions" ∷ []) (codes "workers") c.in_err-number-2.ensures)

pub returns-in_err-number-3 : goal.returns-in_err-number-3
returns-in_err-number-3 c =
    let given = first_value (found_of c.args.given.now) in
    let r = c.from_residual-in_err-number-3 in
    told_for r.result _ _ _ r.ensures.1 (fault_at given (size_options ++ codes "port" ∷ codes "workers" ∷ []) ([]) (codes "sessions") c.in_err-number-3.ensures)
