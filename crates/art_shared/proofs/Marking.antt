-- What is told by marks, and what two passes see that meet.
use Rattle.std.proofs.Common.{◌≡◌, ℕ, List, [], ◌∷◌, ◌++◌, length, inl, ⊎_elim, sym, refl, ap, ap₂, ◌∙◌, subst, arith, append-nil}
use mathlib.Core.Option.{some}
use lib.ListN.{get_elem?}
use Rattle.atomic_table.specs.Table.{Me}
use Rattle.art_step.specs.declared.views.Event.{Event}
use Rattle.art_step.specs.declared.views.View.{View}
use Rattle.art_step.specs.Histories.{places, StartsWith}
use Rattle.art_step.specs.Steps.Anchor as anchor
use Rattle.art_step.specs.Views.{Member}
use Rattle.art_step.proofs.SetsView.{member_back}
use Rattle.art_shared.specs.declared.law.Basis.{Basis}
use Rattle.art_shared.specs.declared.law.Known.{Known}
use Rattle.art_shared.specs.Marks.{LooksTwice, Meets, told_too}
use Rattle.art_shared.specs.Passes.{first_told, glued, marked, view_in}
use Rattle.art_shared.specs.Rule.{Kept, Words}
use Rattle.art_shared.proofs.Closed.{no_items}
use Rattle.art_shared.proofs.Turning.{stands, starts_then}

one_told : (hs : List (List Event)) → length hs ≡ 1 → hs ≡ first_told hs ∷ []
one_told [] e = absurd (omega arith)
one_told (h ∷ []) e = refl
one_told (h ∷ i ∷ hs) e = absurd (omega arith)

-- a seat that takes in a mark's is told its history, and no more
pub takes_in : (a b : Known) → length b.views ≡ 0 → length b.told ≡ 1 → glued a b ≡ told_too a (first_told b.told)
takes_in a b none one = ap₂ (λ (vs : List View) (hs : List (List Event)). record { basis = a.basis; views = vs; told = a.told ++ hs }) (ap (λ (l : List View). a.views ++ l) (no_items b.views none) ∙ append-nil a.views) (one_told b.told one)

pub told_last : (k : Known) (h : List Event) → Member h (told_too k h).told
told_last k h = member_back h k.told (h ∷ []) (inl refl)

-- what a seat's pass has seen is a beginning of the history
pub seen_begins : (b : Basis) (id : ℕ) (me : Me (Unit {0}) Known) → length me.0.views ≡ 1 → (s : Words) (k : Kept b s) → get_elem? s.views id ≡ some me.0 → (h : List Event) → Member h (marked me.0).told → StartsWith k.sound.log h
seen_begins b id me single s k at h i = ⊎_elim
    (λ (is : h ≡ (view_in me.0).seen). subst (StartsWith k.sound.log) (sym is) (k.sound.history.tells (view_in me.0).pass (view_in me.0) (stands b id 0 me single s k at).here).starts)
    (λ (none : Member h []). absurd none)
    i

-- two looks
twice : (v u w : View) → anchor.Outcome v u → anchor.Outcome u w → LooksTwice v w
twice v u w a b =
    let same : u.pass ≡ v.pass = ap (λ (x : View). x.pass) a.is in
    record {
      grows = starts_then w.seen u.seen v.seen b.grows a.grows;
      legal = b.legal;
      own = ap (λ (p : ℕ). places p w.seen) (sym same) ∙ (b.own ∙ ap (λ (x : View). x.own) a.is);
      is = b.is ∙ ap (λ (x : View). anchor.view_after x w.seen) a.is ∙ ap (λ (n : ℕ). record v { steps = n; seen = w.seen }) (omega arith);
    }

-- the other makes a mark, the one learns it and makes a mark, and the other learns that
pub meets : (v u w v' u' w' : View) → anchor.Outcome v' u' → anchor.Outcome v u → StartsWith u.seen u'.seen → anchor.Outcome u w → anchor.Outcome u' w' → StartsWith w'.seen w.seen → Meets v w v' w'
meets v u w v' u' w' marks learns told again back told_back =
    let one = twice v u w learns again in
    record {
      one = one;
      other = twice v' u' w' marks back;
      learns = starts_then w.seen u.seen v'.seen again.grows (starts_then u.seen u'.seen v'.seen told marks.grows);
      tells = starts_then w'.seen w.seen v.seen told_back one.grows;
      begins = told_back;
    }
