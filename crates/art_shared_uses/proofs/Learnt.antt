-- A pass that has looked at the anchor may call as before.
use Rattle.std.proofs.Common.{◌∙◌, [], sym, ap, subst}
use Rattle.art_change.specs.declared.callers.Caller.{Caller}
use Rattle.art_epoch.specs.Limbo.{IsLimbo, places_of}
use Rattle.art_shared.specs.declared.pass.Pass.{Pass}
use Rattle.art_shared.specs.declared.shared.Shared.{Shared}
use Rattle.art_shared.specs.Tables.{IsPassOf, view_of_pass}
use Rattle.art_shared_uses.specs.Clients.{Writes}
use Rattle.art_step.specs.Steps.Anchor as anchor
use Rattle.art_step.specs.declared.views.View.{View}

pub writes_learnt : (t : Shared) (p q : Pass) (c : Caller) → Writes t p c → IsPassOf t q → anchor.Outcome (view_of_pass p) (view_of_pass q) → Writes t q c
writes_learnt t p q c writes of row =
    let r = writes.may.ready in
    record {
      of = of;
      may = record {
        few = writes.may.few;
        sizes = writes.may.sizes;
        ready = record {
          frame = record {
            own_is = r.frame.own_is ∙ sym (ap (λ (v : View). v.pass) row.is);
            inside = r.frame.inside;
            passes_are = r.frame.passes_are;
            may = record { idle = ap (λ (v : View). v.pin) row.is ∙ r.frame.may.idle; free = ap (λ (v : View). v.held) row.is ∙ r.frame.may.free };
            limbo = subst (λ (l : _). IsLimbo (places_of c.limbo) [] l) (sym (ap (λ (v : View). v.limbo) row.is)) r.frame.limbo;
          };
          hand = ap (λ (v : View). v.hand) row.is ∙ r.hand;
          stock = r.stock;
        };
      };
    }
