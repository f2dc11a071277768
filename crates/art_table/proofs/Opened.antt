-- Passes of a table that just opened.
use Rattle.std.proofs.Common.{◌≡◌, ◌++◌, ◌<◌, ◌∙◌, ℕ, zero, suc, List, [], ◌∷◌, Some, length, inl, inr, refl, sym, ap, subst, append_assoc}
use Rattle.std.proofs.lemmas.Option.{same_Some}
use Rattle.std.specs.List.{slice_get}
use Rattle.art_change.specs.ArtAttempt.Trying.{IsLimited}
use Rattle.art_change.specs.Calls.{IsCaller, IsFresh}
use Rattle.art_key.specs.declared.columns.Column.{Column}
use Rattle.art_shared.specs.Opening.{OpensWith}
use Rattle.art_shared.specs.Passes.{newcomer_known, view_in}
use Rattle.art_shared.specs.Tables as shared
use Rattle.art_shared.specs.Tables.{basis_in, known_to}
use Rattle.art_shared.specs.declared.law.Basis.{Basis}
use Rattle.art_shared.specs.declared.law.Known.{Known}
use Rattle.art_shared.specs.declared.pass.Pass.{Pass as Seat}
use Rattle.art_shared.specs.declared.shared.Shared.{Shared}
use Rattle.art_step.specs.Views.{Member}
use Rattle.art_step.specs.declared.views.Sizes.{Sizes}
use Rattle.art_step.specs.declared.views.View.{View}
use Rattle.art_table.proofs.Histories.{as_long}
use Rattle.art_table.specs.Closing.{seats_of}
use Rattle.art_table.specs.Opening.{IsNew, IsOpened, sizes_of}
use Rattle.art_table.specs.Sizes.{IsConfig}
use Rattle.art_table.specs.Tables.{caller_of, number_of, schema_in, sizes_in, view_of}
use Rattle.art_table.specs.declared.configs.Config.{Config}
use Rattle.art_table.specs.declared.passes.Pass.{Pass}
use Rattle.art_table.specs.declared.tables.Table.{Table}

-- what its calls need is of the pass, whatever the pass knows, if it is fresh
abbrev pub HasCaller : Sizes → Pass → Type 0
HasCaller z p = (u : View) → IsFresh z u (number_of p) → IsCaller z u (caller_of p)

-- one more pass in front
pub one_more : (rest seats : List Seat) (x : Seat) (p : Pass) (old : List Pass) → p.seat ≡ x → seats ≡ rest ++ x ∷ [] → rest ++ seats_of (p ∷ old) ≡ seats ++ seats_of old
one_more rest seats x p old is items =
    ap (λ (s : Seat). rest ++ s ∷ seats_of old) is ∙ (sym (append_assoc rest (x ∷ []) (seats_of old)) ∙ ap (λ (l : List Seat). l ++ seats_of old) (sym items))

get_map : (passes : List Pass) (n : ℕ) (p : Pass) → slice_get passes n ≡ Some p → slice_get (seats_of passes) n ≡ Some p.seat
get_map [] n p e = cc
get_map (q ∷ passes) zero p e = ap (λ (x : Pass). Some x.seat) (same_Some q p e)
get_map (q ∷ passes) (suc n) p e = get_map passes n p e

get_member : (passes : List Pass) (n : ℕ) (p : Pass) → slice_get passes n ≡ Some p → Member p passes
get_member [] n p e = cc
get_member (q ∷ passes) zero p e = inl (sym (same_Some q p e))
get_member (q ∷ passes) (suc n) p e = inr (get_member passes n p e)

-- such pools are no larger than a table's may be
limited : (config : Config) → IsConfig config → IsLimited (sizes_of config)
limited config is = record { leaves = is.leaves.1; n4 = is.n4.1; n16 = is.n16.1; n48 = is.n48.1; n256 = is.n256.1 }

-- a pass that knows nothing
new_pass : (t : Table) (z : Sizes) (n : ℕ) (p : Pass) → z ≡ sizes_in t → IsLimited z → shared.IsPassOf t.shared p.seat → known_to p.seat ≡ newcomer_known (basis_in t.shared) n → HasCaller z p → IsNew t n p
new_pass t z n p sizes few of known has =
    let fresh : IsFresh (sizes_in t) (view_of p) (number_of p) = record {
      own_is = refl;
      inside = subst (λ (b : Basis). number_of p < b.sizes.passes) of.basis (subst (λ (i : ℕ). i < (known_to p.seat).basis.sizes.passes) p.seat.own p.seat.inside);
      may = record { idle = ap (λ (k : Known). (view_in k).pin) known; free = ap (λ (k : Known). (view_in k).held) known };
      hand = ap (λ (k : Known). (view_in k).hand) known;
      limbo = ap (λ (k : Known). (view_in k).limbo) known;
    } in
    let caller = subst (λ (y : Sizes). HasCaller y p) sizes has (view_of p) fresh in
    record {
      of = record {
        of = of;
        limited = subst IsLimited sizes few;
        caller = caller;
        legal = subst (λ (k : Known). Rattle.art_step.specs.Histories.IsLegal (view_in k).seen) (sym known) tt;
        all = subst (λ (k : Known). Rattle.art_step.specs.Histories.places (view_in k).pass (view_in k).seen ≡ (view_in k).own) (sym known) refl;
      };
      number_is = ap (λ (k : Known). (view_in k).pass) known;
      seen = ap (λ (k : Known). Rattle.art_typed.specs.Typed.typed (schema_in t) (view_in k).seen) known;
      own = ap (λ (k : Known). (view_in k).own) known;
      steps = ap (λ (k : Known). (view_in k).steps) known;
    }

pub opens : (schema : List Column) (config : Config) (z : Sizes) (s : Shared) (seats : List Seat) (passes : List Pass) → z ≡ sizes_of config → IsConfig config → OpensWith (record { sizes = z; schema = schema; counter_start = config.counter_start }) s seats → seats_of passes ≡ seats
    → ((p : Pass) → Member p passes → HasCaller z p) → IsOpened schema config (record { shared = s }) passes
opens schema config z s seats passes sizes is o same has = record {
  schema_is = ap (λ (b : Basis). b.schema) o.basis;
  sizes_are = ap (λ (b : Basis). b.sizes) o.basis ∙ sizes;
  counter_is = ap (λ (b : Basis). b.counter_start) o.basis;
  count = sym (as_long (λ (p : Pass). p.seat) passes) ∙ (ap length same ∙ (o.count ∙ ap (λ (y : Sizes). y.passes) sizes));
  each = λ n p e.
      let at = o.each n p.seat (subst (λ (l : List Seat). slice_get l n ≡ Some p.seat) same (get_map passes n p e)) in
      new_pass (record { shared = s }) z n p (sym (ap (λ (b : Basis). b.sizes) o.basis)) (subst IsLimited (sym sizes) (limited config is)) at.0 (at.1 ∙ ap (λ (b : Basis). newcomer_known b n) (sym o.basis)) (has p (get_member passes n p e));
}
