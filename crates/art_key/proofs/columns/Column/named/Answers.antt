use Rattle.std.proofs.Common.{Some, None, false, true, lit<, sym, ap, ◌∙◌}
use Rattle.std.proofs.lemmas.Str.Pattern.{strip_suffix_char}
use Rattle.std.specs.Option.{option_map}
use Rattle.art_key.proofs.Dashes.{ascending_named, column, descending_named}
use Rattle.art_key.proofs.columns.Column.named.Goals as goal

pub returns-in_err-named-in-Some-clause-column : goal.returns-in_err-named-in-Some-clause-column
returns-in_err-named-in-Some-clause-column c =
    let dash = strip_suffix_char 45 c.args.name.now (Some c.in-Some.kind) c.in-Some.ensures.cases (lit< tt) in
    c.from_residual.ensures ∙ ap (option_map (column true)) c.in_err-named-in-Some.ensures.kind ∙ sym (descending_named c.args.name.now c.in-Some.kind.now dash)

pub returns-in_ok-named-in-Some-clause-column : goal.returns-in_ok-named-in-Some-clause-column
returns-in_ok-named-in-Some-clause-column c =
    let dash = strip_suffix_char 45 c.args.name.now (Some c.in-Some.kind) c.in-Some.ensures.cases (lit< tt) in
    ap (option_map (column true)) c.in_ok-named-in-Some.ensures.kind ∙ sym (descending_named c.args.name.now c.in-Some.kind.now dash)

pub returns-in_err-named-in-None-clause-column : goal.returns-in_err-named-in-None-clause-column
returns-in_err-named-in-None-clause-column c =
    let plain = strip_suffix_char 45 c.args.name.now None c.in-None.ensures.cases (lit< tt) in
    c.from_residual-in_err-named-in-None.ensures ∙ ap (option_map (column false)) c.in_err-named-in-None.ensures.kind ∙ sym (ascending_named c.args.name.now plain)
