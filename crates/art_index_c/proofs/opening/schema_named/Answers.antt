use Rattle.std.proofs.Common.{◌∙◌, ap, sym}
use Rattle.art_key.specs.Schemas.{schema_of}
use Rattle.art_index_c.proofs.Texts.{schema_named-none, schema_named-text}
use Rattle.art_index_c.proofs.opening.schema_named.Goals as goal

pub returns-in-Ok : goal.returns-in-Ok
returns-in-Ok c =
    let told = c.in-Ok.ensures.cases in
    c.parse.ensures ∙ (ap schema_of told.0 ∙ sym (schema_named-text c.args.bytes.now told.1))

pub returns-in-Err : goal.returns-in-Err
returns-in-Err c = sym (schema_named-none c.args.bytes.now c.in-Err.ensures.cases.0)
