-- A pass that has looked at the anchor may call on.
use Rattle.std.proofs.Common.{◌≡◌, ◌∙◌, ◌+◌, ℕ, List, [], refl, sym, ap, subst}
use Rattle.art_change.specs.Calls.{IsCaller}
use Rattle.art_shared.specs.Marks.{Meets}
use Rattle.art_shared.specs.SamePass.{SameSeat}
use Rattle.art_shared.specs.Tables as shared
use Rattle.art_shared.specs.Tables.{view_of_pass}
use Rattle.art_shared.specs.declared.pass.Pass.{Pass as Seat}
use Rattle.art_step.specs.Histories as bytes
use Rattle.art_step.specs.Histories.{IsLegal, places}
use Rattle.art_step.specs.declared.views.Event.{Event as ByteEvent}
use Rattle.art_step.specs.declared.views.View.{View}
use Rattle.art_table.proofs.Ended.{typed_legal}
use Rattle.art_table.proofs.Histories.{map_both}
use Rattle.art_table.specs.Marks.{HasLooked, HasMet, StartsWith}
use Rattle.art_table.specs.Tables.{IsPassOf, caller_of, schema_in, sizes_in, view_of}
use Rattle.art_table.specs.declared.passes.Pass.{Pass}
use Rattle.art_table.specs.declared.tables.Table.{Table}
use Rattle.art_typed.specs.Typed.{event_of, typed}

-- what begins so does so in typed rows
pub typed_starts : (t : Table) (log seen : List ByteEvent) → bytes.StartsWith log seen → StartsWith (typed (schema_in t) log) (typed (schema_in t) seen)
typed_starts t log seen s = (typed (schema_in t) s.0, ap (typed (schema_in t)) s.1 ∙ map_both (event_of (schema_in t)) seen s.0)

-- so many steps were made, and another history was seen
module _ (t : Table) (p q : Pass) (is : IsPassOf t p) (of : shared.IsPassOf t.shared q.seat) (caller : caller_of q ≡ caller_of p) (looks : ℕ)
    (same : view_of q ≡ record (view_of p) { steps = (view_of p).steps + looks; seen = (view_of q).seen })
    (grows : bytes.StartsWith (view_of q).seen (view_of p).seen) (legal : IsLegal (view_of q).seen) (own : places (view_of p).pass (view_of q).seen ≡ (view_of p).own) where
  looked_caller : IsCaller (sizes_in t) (view_of q) (caller_of q)
  looked_caller =
      let r = is.caller.ready in
      let here : IsCaller (sizes_in t) (view_of q) (caller_of p) = record {
        few = is.caller.few;
        sizes = is.caller.sizes;
        ready = record {
          frame = record {
            own_is = r.frame.own_is ∙ sym (ap (λ (v : View). v.pass) same);
            inside = r.frame.inside;
            passes_are = r.frame.passes_are;
            may = record { idle = ap (λ (v : View). v.pin) same ∙ r.frame.may.idle; free = ap (λ (v : View). v.held) same ∙ r.frame.may.free };
            limbo = subst (λ (l : _). Rattle.art_epoch.specs.Limbo.IsLimbo (Rattle.art_epoch.specs.Limbo.places_of (caller_of p).limbo) [] l) (sym (ap (λ (v : View). v.limbo) same)) r.frame.limbo;
          };
          hand = ap (λ (v : View). v.hand) same ∙ r.hand;
          stock = r.stock;
        };
      } in
      subst (λ (c : _). IsCaller (sizes_in t) (view_of q) c) (sym caller) here

  is_pass : IsPassOf t q
  is_pass = record {
    of = of;
    limited = is.limited;
    caller = looked_caller;
    legal = legal;
    all = ap (λ (i : ℕ). places i (view_of q).seen) (ap (λ (v : View). v.pass) same) ∙ (own ∙ sym (ap (λ (v : View). v.own) same));
  }

  pub has_looked : HasLooked t looks p q
  has_looked = record {
    pass = is_pass;
    only = same;
    number = ap (λ (v : View). v.pass) same;
    grows = typed_starts t (view_of q).seen (view_of p).seen grows;
    legal = typed_legal t q is_pass;
    own = ap (λ (v : View). v.own) same;
  }

-- two passes have met whose seats have
pub met : (t : Table) (p o : Pass) (q r : Seat) → IsPassOf t p → IsPassOf t o
    → Meets (view_of p) (view_of_pass q) (view_of o) (view_of_pass r)
    → SameSeat p.seat q × shared.IsPassOf t.shared q → SameSeat o.seat r × shared.IsPassOf t.shared r
    → HasMet t p (record { seat = q; caller = p.caller }) o (record { seat = r; caller = o.caller })
met t p o q r one other m q_is r_is = record {
  one = has_looked t p (record { seat = q; caller = p.caller }) one q_is.1 refl
      2 m.one.is m.one.grows m.one.legal m.one.own;
  other = has_looked t o (record { seat = r; caller = o.caller }) other r_is.1 refl
      2 m.other.is m.other.grows m.other.legal m.other.own;
  learns = typed_starts t (view_of_pass q).seen (view_of o).seen m.learns;
  tells = typed_starts t (view_of_pass r).seen (view_of p).seen m.tells;
  begins = typed_starts t (view_of_pass r).seen (view_of_pass q).seen m.begins;
}
