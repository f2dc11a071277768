-- Words of one cell are read one after another, and noted at once.
use Rattle.std.proofs.Common.{◌≡◌, ◌+◌, ◌-◌, ◌<◌, ◌≤◌, ℕ, List, Option, Some, None, inl, inr, get_or, length, refl, sym, ap, ◌∙◌, subst, arith}
use Rattle.std.proofs.lemmas.Bool.{cases_lt}
use Rattle.std.proofs.lemmas.Option.{same_Some}
use Rattle.art_cell.specs.Reads.{AreNoted, word_read}
use Rattle.art_find.proofs.Keeping.{Grows, cell_fits, kept_grows, known_both, path_grows, read_grows, stamp_grows}
use Rattle.art_find.specs.Kept.{IsKept, StaysRead, WasReadAt}
use Rattle.art_find.specs.Rereadings.{AreKnown, RereadingFits}
use Rattle.art_find.specs.Runs.{HasReadOn, HasReadOnly, WereRead}
use Rattle.art_find.specs.declared.read_sets.Rereading.{Rereading}
use Rattle.art_step.proofs.Shows.{read_rest}
use Rattle.art_step.specs.Shows.{OnlyReads, Rest}
use Rattle.art_step.specs.Steps.Read as read
use Rattle.art_step.specs.Views.{IsNotHeld, Member, note_of, size_of}
use Rattle.art_step.specs.declared.views.Fact.TheVariants.{Word}
use Rattle.art_step.specs.declared.views.Holding.{Holding}
use Rattle.art_step.specs.declared.views.Sizes.{Sizes}
use Rattle.art_step.specs.declared.views.Stamp.{Stamp}
use Rattle.art_step.specs.declared.views.View.{View}

-- ---- views

pub none_made : (v : View) → HasReadOnly v v 0
none_made v = record { rest = refl; failures = refl; steps = omega arith; found = refl; grows = record { stamps = λ x i. i; notes = λ y i. i } }

pub reads_then : (u v w : View) (n k : ℕ) → HasReadOnly u v n → HasReadOnly v w k → HasReadOnly u w (n + k)
reads_then u v w n k first second = record {
  rest = second.rest ∙ first.rest;
  failures = second.failures ∙ first.failures;
  steps = let a = first.steps in let b = second.steps in omega (arith, a, b);
  found = second.found ∙ first.found;
  grows = record { stamps = λ x i. second.grows.stamps x (first.grows.stamps x i); notes = λ y i. second.grows.notes y (first.grows.notes y i) };
}

pub one_read : (z : Sizes) (v w : View) (x : Stamp) (place word : ℕ) → read.Outcome z v w x place word → HasReadOnly v w 1
one_read z v w x place word row = record {
  rest = read_rest v w x (Word place word) row.is;
  failures = ap (λ (y : View). y.failures) row.is;
  steps = ap (λ (y : View). y.steps) row.is;
  found = ap (λ (y : View). y.found) row.is;
  grows = read_grows v w x (Word place word) row.is;
}

-- what was not held is not held
pub still_free : (v w : View) (x : Stamp) → OnlyReads v w → IsNotHeld v.held x.cell → IsNotHeld w.held x.cell
still_free v w x rest free = subst (λ (held : List Holding). IsNotHeld held x.cell) (sym (ap (λ (r : Rest). r.held) rest)) free

-- ---- the words of a run

pub was_read : (z : Sizes) (v w : View) (x : Stamp) (place word : ℕ) → 0 < place → place < size_of x.cell → read.Outcome z v w x place word → WasReadAt z w x place word
was_read z v w x place word after inside row = record {
  after = after;
  inside = inside;
  noted = subst (λ (t : View). Member (note_of x (Word place word)) t.notes) (sym row.is) (inl refl);
  form = row.form;
}

pub read_stays : (z : Sizes) (v w : View) (x : Stamp) (place word : ℕ) → Grows v w → WasReadAt z v x place word → WasReadAt z w x place word
read_stays z v w x place word grows was = record { after = was.after; inside = was.inside; noted = grows.notes _ was.noted; form = was.form }

module _ (reads reads' : List (Option ℕ)) (place : ℕ) (words : List ℕ) (noted : AreNoted place words reads reads') where
  -- a place of the run
  in_run : (p : ℕ) → place ≤ p → p < place + length words → word_read reads' p ≡ Some (get_or words (p - place) 0)
  in_run p low high =
      let at : p ≡ place + (p - place) = omega (arith, low) in
      ap (word_read reads') at ∙ noted.here (p - place) (omega (arith, low, high))

  module _ (unread : (i : ℕ) → i < length words → word_read reads (place + i) ≡ None) where
    -- what was known stays
    pub stays_noted : StaysRead reads reads'
    stays_noted p word is = elim (cases_lt p place) [
      | inl low ↦ noted.below p low ∙ is
      | inr from ↦ elim (cases_lt p (place + length words)) [
        | inl inside ↦
            let at : p ≡ place + (p - place) = omega (arith, from) in
            let no : None ≡ Some word = sym (ap (word_read reads) at ∙ unread (p - place) (omega (arith, from, inside))) ∙ is in
            absurd (cc)
        | inr past ↦ noted.above p past ∙ is
      ]
    ]

  module _ (z : Sizes) (v w : View) (x : Stamp) (only : HasReadOnly v w (length words)) (were : WereRead z w x place words) where
    kept_run : IsKept z v x reads → IsKept z w x reads'
    kept_run kept =
        let still : IsKept z w x reads = kept_grows z v w x reads only.grows kept in
        record {
          room = noted.room ∙ kept.room;
          each = λ p word is. elim (cases_lt p place) [
            | inl low ↦ still.each p word (sym (noted.below p low) ∙ is)
            | inr from ↦ elim (cases_lt p (place + length words)) [
              | inl inside ↦
                  let at : place + (p - place) ≡ p = omega (arith, from) in
                  let same : get_or words (p - place) 0 ≡ word = same_Some {A = ℕ} (get_or words (p - place) 0) word (sym (in_run p from inside) ∙ is) in
                  subst (λ (q : ℕ). WasReadAt z w x q word) at (subst (WasReadAt z w x (place + (p - place))) same (were (p - place) (omega (arith, from, inside))))
              | inr past ↦ still.each p word (sym (noted.above p past) ∙ is)
            ]
          ];
        }

    -- the words before the run, and those of the run
    known_run : AreKnown reads 1 place → AreKnown reads' 1 (place + length words)
    known_run known p some before = elim (cases_lt p place) [
      | inl low ↦ let was = known p some low in (was.0, noted.below p low ∙ was.1)
      | inr from ↦ (get_or words (p - place) 0, in_run p from before)
    ]

    -- and then on to the next word that is not known
    pub fits_on : (m m' : Rereading) → m.place ≡ place → RereadingFits z v x m reads → place + length words ≤ m'.place → AreKnown reads' (place + length words) m'.place
        → (m'.place < 266 → word_read reads' m'.place ≡ None) → RereadingFits z w x m' reads'
    fits_on m m' at fits further known unknown = record {
      free = still_free v w x only.rest fits.free;
      stamp = stamp_grows z v w x only.grows fits.stamp;
      path = path_grows v w x only.grows fits.path;
      kept = kept_run fits.kept;
      after = let before = fits.after in omega (arith, at, before, further);
      known = known_both reads' 1 (place + length words) m'.place (known_run (subst (AreKnown reads 1) at fits.known)) known;
      unknown = unknown;
    }

-- ---- a rereading goes on

pub none_read_on : (z : Sizes) (x : Stamp) (v : View) (m : Rereading) (reads : List (Option ℕ)) → RereadingFits z v x m reads → HasReadOn z x 0 v m reads v m reads
none_read_on z x v m reads fits = record {
  only = none_made v;
  further = omega arith;
  few = λ few. few;
  stays = λ place word is. is;
  whole = λ known. refl;
  fits = fits;
}

-- it has read on, and reads one more run
pub read_on_then : (z : Sizes) (x : Stamp) (n k : ℕ) (u v w : View) (m m' m'' : Rereading) (reads reads' reads'' : List (Option ℕ)) → HasReadOn z x n u m reads v m' reads'
    → m'.place < size_of x.cell → HasReadOnly v w k → m'.place + k ≤ m''.place → m''.place ≤ 266 → StaysRead reads' reads'' → RereadingFits z w x m'' reads''
    → HasReadOn z x (n + k) u m reads w m'' reads''
read_on_then z x n k u v w m m' m'' reads reads' reads'' was more only further few stays fits = record {
  only = reads_then u v w n k was.only only;
  further = let before = was.further in omega (arith, before, further);
  few = λ low. few;
  stays = λ place word is. stays place word (was.stays place word is);
  whole = λ known.
      let now : AreKnown reads' 1 (size_of x.cell) = subst (λ (r : List (Option ℕ)). AreKnown r 1 (size_of x.cell)) (sym (was.whole known)) known in
      let one = now m'.place (let some = was.fits.after in omega (arith, some)) more in
      let none = was.fits.unknown (omega (arith, more, cell_fits x.cell)) in
      let no : None ≡ Some one.0 = sym none ∙ one.1 in absurd (cc);
  fits = fits;
}
