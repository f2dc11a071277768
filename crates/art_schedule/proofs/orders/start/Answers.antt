use Rattle.std.proofs.Common.{◌≡◌, ◌∙◌, ◌++◌, ◌∷◌, [], ℕ, List, refl, ap}
use Rattle.std.specs.Prelude.{Err}
use Rattle.art_schedule.proofs.Fronts.{front_of}
use Rattle.art_schedule.proofs.orders.start.Goals as goal
use Rattle.art_lines.specs.Refusals.{line_refusal}
use Rattle.art_server.specs.Replies.{reply_data, text_of_reply}
use Rattle.serde_json.specs.Written.{compact_text}
use Rattle.art_server.specs.ArtRefusal.declared.refusals.Refusal.{Refusal}

pub returns-in_ok-text-in_default : goal.returns-in_ok-text-in_default
returns-in_ok-text-in_default c =
    let text = c.in_ok-text-in_default.text in
    let fault = c.in-Err.fault in
    let front : List ℕ = compact_text (reply_data (Err (line_refusal fault))) in
    let is : text.items ≡ front ++ 10 ∷ [] = c.in_ok-text-in_default.ensures ∙ ap (λ (r : Refusal). text_of_reply (Err r)) c.from.ensures in
    record {
      keeps = λ p seat. seat;
      obeys = record {
        fault = fault;
        says = c.in-Err.ensures.said c.in_default.not-NoMemory;
        idle = (let fits = c.if-not-is_idle.false in let same = c.is_idle.ensures in cc);
        stays = refl;
        reply_is = ap (λ (l : List ℕ). l ++ 10 ∷ []) (c.without_feed.ensures ∙ front_of _ text.items front 10 text.ok.0 is);
        none = refl;
      };
      leaves = tt;
      bad = (λ e. cc, λ e. let idle = c.if-not-is_idle.false in let same = c.is_idle.ensures in cc);
    }
