use Rattle.std.proofs.Common.{◌≡◌, ◌∙◌, ◌%◌, ◌<◌, ap, get_or, inl, inr, sym, arith}
use Rattle.art_cell.specs.Lemmas.Packed.{byte_of-to_be_bytes}
use Rattle.art_cell.specs.Words.{byte_of}
use Rattle.art_find.specs.Compares.{byte_in}
use Rattle.art_find.proofs.descents.byte_in.Goals as goal

pub returns-in-Below : goal.returns-in-Below
returns-in-Below c =
    let at = c.in-Below.at in
    let low : at % 8 < 8 = omega arith in
    let there : get_or c.to_be_bytes.result (at % 8) 0 ≡ byte_of c.args.word (at % 8) =
    ap (λ bytes. get_or bytes (at % 8) 0) c.to_be_bytes.ensures ∙ sym (byte_of-to_be_bytes c.args.word (at % 8) low) in
    elim c.in-Below.is [
      | inl below ↦ there ∙ sym (ap (λ r. byte_in r c.args.word) below)
      | inr above ↦ there ∙ sym (ap (λ r. byte_in r c.args.word) above)
    ]
