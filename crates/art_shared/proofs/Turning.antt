-- A step of one kind, whatever the table is when it is made, keeps the rule, and tells its seat what happened.
use Rattle.std.proofs.Common.{◌≡◌, ℕ, zero, suc, true, List, [], ◌∷◌, ◌++◌, length, map, set, slice_set, get_or, inl, inr, sym, refl, ap, ◌∙◌, subst, arith, append_assoc, eq-eqb, length-set}
use Rattle.std.proofs.lemmas.Bool.{lt-ltb}
use Rattle.std.proofs.lemmas.List.{map-set, set-get_or}
use Rattle.std.specs.Prelude.{Some}
use mathlib.Core.Option.{some, some-ne-none}
use lib.ListN.{get_elem?}
use Rattle.atomic_table.specs.Table.{Allows, Me, keeps, stepped}
use Rattle.atomic_table.proofs.Lists.{at_map, set_again}
use Rattle.art_cell.specs.declared.cells.Link.{Link}
use Rattle.art_cell.specs.Children.{number_of}
use Rattle.art_step.specs.declared.views.Event.{Event}
use Rattle.art_step.specs.declared.views.InHand.{InHand}
use Rattle.art_step.specs.declared.views.Retired.{Retired}
use Rattle.art_step.specs.declared.views.Sizes.{Sizes}
use Rattle.art_step.specs.declared.views.Stamp.{Stamp}
use Rattle.art_step.specs.declared.views.View.{View}
use Rattle.art_step.specs.Effects.{Instant}
use Rattle.art_step.specs.Sound.{InHandOf, InLimboOf, IsSound, Nowhere}
use Rattle.art_step.specs.Histories.{StartsWith}
use Rattle.art_step.specs.Views.{IsNumber, Member, Memory, SetsView, Views, pool_of}
use Rattle.art_step.specs.WordPlaces.{place_of, pool_size}
use Rattle.art_step.specs.WordRows.{memory_of}
use Rattle.art_step.proofs.Determined.{history_grows}
use Rattle.art_step.proofs.Moves.{Moves}
use Rattle.art_step.proofs.WordPlaces.{is_number}
use Rattle.art_shared.specs.declared.law.Basis.{Basis}
use Rattle.art_shared.specs.declared.law.Known.{Known}
use Rattle.art_shared.specs.Passes.{all_placed, are_numbers, has_numbers, head_of, view_in}
use Rattle.art_shared.specs.Rule.{Apart, Kept, Words, all_told, all_views, joined, passes_of, seated}
use Rattle.art_shared.specs.Turns.{AddsTyped, MayTurn, Stands, Turn}
use Rattle.art_shared.proofs.Counters.{still_begun}
use Rattle.art_shared.proofs.Lists.{joined_here}
use Rattle.art_shared.proofs.Moving.{told_in, views_in}
use Rattle.art_shared.proofs.Seated.{at_member, members, passes_set, standing, turns_member}
use Rattle.art_shared.proofs.Below.{seen_below}
use Rattle.art_shared.proofs.Typed.{still_typed, typed_start}

-- a step that writes nothing
pub looks : (z : Sizes) (ws : List ℕ) (f : Views) (p : ℕ) (v : View) (place : ℕ) (Row : View → View → Type 0) (so : Instant) → Moves z ws f p v ws Row so → Moves z ws f p v (slice_set ws place (get_or ws place 0)) Row so
looks z ws f p v place Row so t = subst (λ (us : List ℕ). Moves z ws f p v us Row so) (sym (set-get_or ws place 0)) t

-- ---- stamps have their places

pub placed_all : (z : Sizes) (xs : List Stamp) → ((x : Stamp) → Member x xs → x.first ≡ place_of z x.cell) → all_placed z xs ≡ true
placed_all z [] h = refl
placed_all z (x ∷ xs) h = rw (eq-eqb x.first (place_of z x.cell) (h x (inl refl)), placed_all z xs (λ y i. h y (inr i))) refl

-- ---- and numbers in hand and in limbo are numbers that there are

numbers_all : {A : Type 0} (z : Sizes) (link : A → Link) (xs : List A) → ((x : A) → Member x xs → IsNumber z (link x)) → are_numbers z (map link xs) ≡ true
numbers_all z link [] h = refl
numbers_all z link (x ∷ xs) h = rw (lt-ltb (number_of (link x)) (pool_size z (pool_of (link x))) ((is_number z (link x)).0 (h x (inl refl))), numbers_all z link xs (λ y i. h y (inr i))) refl

owned : (z : Sizes) (m : Memory) (f : Views) (p : ℕ) (v : View) → IsSound z m f → f p ≡ Some v → has_numbers z v ≡ true
owned z m f p v r is =
    let k = r.numbers.accounts p v is in
    rw (
      numbers_all z (λ (x : InHand). x.link) v.hand (λ x i. (r.numbers.numbers x.link).0 (λ e. let a : InHandOf p ≡ Nowhere = sym (k.hand x i) ∙ e in cc)),
      numbers_all z (λ (x : Retired). x.link) v.limbo (λ x i. (r.numbers.numbers x.link).0 (λ e. let a : InLimboOf p ≡ Nowhere = sym (k.limbo x i) ∙ e in cc)),
    ) refl

pub one_of : (l : List View) → length l ≡ 1 → l ≡ head_of l ∷ []
one_of [] e = absurd (omega arith)
one_of (v ∷ []) e = refl
one_of (v ∷ u ∷ vs) e = absurd (omega arith)

-- a list that is set at a place that there is, stands there
set_there : (ks : List Known) (id : ℕ) (k k' : Known) → get_elem? ks id ≡ some k → get_elem? (set ks id k') id ≡ some k'
set_there [] id k k' e = absurd (some-ne-none k (sym e))
set_there (x ∷ xs) zero k k' e = refl
set_there (x ∷ xs) (suc id) k k' e = set_there xs id k k' e

pub starts_then : (xs ys zs : List Event) → StartsWith xs ys → StartsWith ys zs → StartsWith xs zs
starts_then xs ys zs a b = (b.0 ++ a.0, a.1 ∙ (ap (λ (l : List Event). l ++ a.0) b.1 ∙ append_assoc zs b.0 a.0))

-- ---- one step

module _ (basis : Basis) (id place : ℕ) (me : Me (Unit {0}) Known) (single : length me.0.views ≡ 1) where
  abbrev z : Sizes
  z = basis.sizes

  abbrev v : View
  v = view_in me.0

  -- what the seat knows after it
  abbrev after : View → Known
  after w = record { basis = me.0.basis; views = w ∷ []; told = me.0.told }

  -- the word becomes x, so that the rule stands, and the seat is told of it
  record Done (s : Words) (x : ℕ) (so : Instant) (Row : View → View → Type 0) : Type 0 where
    known : Known
    kept : Kept basis (stepped s place x id me.1 known keeps)
    turn : Turn basis me.0 known so Row

  module _ (s : Words) (k : Kept basis s) (at : get_elem? s.views id ≡ some me.0) where
    abbrev vss : List (List View)
    vss = map views_in s.views

    here : get_elem? vss id ≡ some (v ∷ [])
    here = at_map views_in s.views id me.0 at ∙ ap (λ (l : List View). some l) (one_of me.0.views single)

    mine : seated s.views v.pass ≡ Some v
    mine = at_member vss id v here k.apart

    pub stands : Stands basis me.0 s.words (seated s.views)
    stands = record {
      long = k.long;
      sound = k.sound;
      here = mine;
      pins = standing (joined vss) k.apart;
      told = λ h i. k.told h (joined_here h (map told_in s.views) id me.0.told (at_map told_in s.views id me.0 at) i);
    }

    sets : (w : View) → w.pass ≡ v.pass → SetsView (seated s.views) v.pass w (seated (set s.views id (after w)))
    sets w same = subst (λ (l : List (List View)). SetsView (seated s.views) v.pass w (members l)) (sym (map-set views_in s.views id (after w))) (turns_member vss id v w here same k.apart)

    same_told : (w : View) → all_told (set s.views id (after w)) ≡ all_told s.views
    same_told w = ap joined (map-set told_in s.views id (after w) ∙ set_again (map told_in s.views) id me.0.told (at_map told_in s.views id me.0 at))

    same_passes : (w : View) → w.pass ≡ v.pass → passes_of (all_views (set s.views id (after w))) ≡ passes_of (all_views s.views)
    same_passes w same = ap (λ (l : List (List View)). passes_of (joined l)) (map-set views_in s.views id (after w)) ∙ passes_set vss id v w here same

    done : (x : ℕ) (so : Instant) (Row : View → View → Type 0) (t : Moves z s.words (seated s.views) v.pass v (set s.words place x) Row so) → AddsTyped basis.schema v t.view → Done s x so Row
    done x so Row t adds =
        let w : View = t.view in
        let g : Views = seated (set s.views id (after w)) in
        let turn = sets w t.pass in
        let sound = t.sound g turn in
        let step = t.step g turn in
        let kept : Kept basis (stepped s place x id me.1 (after w) keeps) = record {
          long = length-set s.words place x ∙ k.long;
          sound = sound;
          apart = subst Apart (sym (same_passes w t.pass)) k.apart;
          told = λ h i. starts_then _ _ h (history_grows z v.pass _ _ _ _ step k.sound sound) (k.told h (subst (Member h) (same_told w) i));
          typed = still_typed basis.schema z v.pass v w _ _ _ _ step k.sound sound mine turn k.typed adds;
          begins = still_begun basis.counter_start z v.pass v w _ _ _ _ step mine turn k.begins;
        } in
        record {
          known = after w;
          kept = kept;
          turn = record {
            made = record {
              words = memory_of z s.words;
              views = seated s.views;
              words_after = memory_of z (set s.words place x);
              views_after = g;
              instant = record {
                before = s;
                after = stepped s place x id me.1 (after w) keeps;
                kept = k;
                kept_after = kept;
                words = refl;
                views = refl;
                words_after = refl;
                views_after = refl;
                seat = id;
                here = at;
                here_after = set_there s.views id me.0 (after w) at;
              };
              pass = v.pass;
              before = mine;
              after = turn.here;
              step = step;
              was = t.was g turn;
            };
            row = t.row;
            one = refl;
            pass = t.pass;
            placed = placed_all z w.stamps (sound.unstamped.pinned v.pass w turn.here).placed;
            numbers = owned z (memory_of z (set s.words place x)) g v.pass w sound turn.here;
            typed = typed_start basis.schema sound.log w.seen (sound.history.tells v.pass w turn.here).starts kept.typed;
            below = seen_below z (memory_of z (set s.words place x)) g sound v.pass w turn.here;
            basis = refl;
            told = refl;
          };
        }

  pub allowed : (slots : ℕ) (change : ℕ → ℕ) (Row : ℕ → View → View → Type 0) (so : ℕ → Instant) → MayTurn basis me.0 place change Row so
      → Allows (Kept basis) slots id me place change (λ n w. Turn basis me.0 w.0 (so n) (Row n) × (w.1 ≡ me.1))
  allowed slots change Row so may s k homes at fits =
      let n : ℕ = get_or s.words place 0 in
      let t = may.moves s.words (seated s.views) (stands s k at) fits in
      let d = done s k at (change n) (so n) (Row n) t (may.adds n t.view t.row) in
      (d.known, keeps, tt, d.kept, (d.turn, refl))

-- the same of a table with this key, whose cells the pass knows
pub allowed_at : {basis key : Basis} (id place : ℕ) (me : Me (Unit {0}) Known) (slots : ℕ) (change : ℕ → ℕ) (Row : ℕ → View → View → Type 0) (so : ℕ → Instant) → length me.0.views ≡ 1 → key ≡ basis → me.0.basis ≡ basis → MayTurn basis me.0 place change Row so
    → Allows (Kept key) slots id me place change (λ n w. Turn me.0.basis me.0 w.0 (so n) (Row n) × (w.1 ≡ me.1))
allowed_at {basis} {key} id place me slots change Row so single is based may =
    subst (λ (k : Basis). Allows (Kept k) slots id me place change (λ n w. Turn me.0.basis me.0 w.0 (so n) (Row n) × (w.1 ≡ me.1))) (based ∙ sym is)
    (allowed me.0.basis id place me single slots change Row so (subst (λ (k : Basis). MayTurn k me.0 place change Row so) (sym based) may))
