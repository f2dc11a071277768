-- Steps of epochs and pins: the epoch is noted or goes up, a pass is pinned or goes idle, and the word of another pass is found.
use Rattle.std.proofs.Common.{◌≡◌, ◌≢◌, ◌⊎◌, ℕ, zero, suc, ◌+◌, ◌^◌, ◌<◌, ◌≤◌, Bool, true, false, if◌then◌else◌, List, [], ◌∷◌, map, inl, inr, ⊎_elim, sym, refl, ap, ap₂, ◌∙◌, subst, arith, le_refl, ltb-true}
use Rattle.std.proofs.lemmas.Bool.{cases_eq, eq-eqb, ne_eqb}
use Rattle.std.proofs.lemmas.Option.{same_Some}
use Rattle.std.specs.Prelude.{Option, Some, None}
use Rattle.art_cell.specs.declared.cells.Cell.{Cell}
use Rattle.art_cell.specs.declared.cells.Cell.TheVariants as cell
use Rattle.art_cell.specs.declared.cells.Link.{Link}
use Rattle.art_step.specs.declared.views.EpochSeen.{EpochSeen}
use Rattle.art_step.specs.declared.views.Found.{Found}
use Rattle.art_step.specs.declared.views.Holding.{Holding}
use Rattle.art_step.specs.declared.views.Note.{Note}
use Rattle.art_step.specs.declared.views.Retired.{Retired}
use Rattle.art_step.specs.declared.views.Sizes.{Sizes}
use Rattle.art_step.specs.declared.views.Stamp.{Stamp}
use Rattle.art_step.specs.declared.views.View.{View}
use Rattle.art_step.specs.declared.views.Word.TheVariants.{Pass}
use Rattle.art_tree.specs.Heaps.{Cells}
use Rattle.art_step.specs.Effects.{SetsEpoch, SetsPassWord}
use Rattle.art_step.specs.Sound.{Accounts, Awaits, IsPinned, IsSound, IsUnder, MarkedUnstamped, Vouched, early_notes}
use Rattle.art_step.specs.Steps.Advance as advance
use Rattle.art_step.specs.Steps.Epoch as epoch
use Rattle.art_step.specs.Steps.Epoch.{label_or, labelled}
use Rattle.art_step.specs.Steps.Pin as pin
use Rattle.art_step.specs.Steps.Watch as watch
use Rattle.art_step.specs.Steps.Watch.{is_past, watched}
use Rattle.art_step.specs.Views.{HaveForms, IsClear, IsObsolete, IsOnce, IsVersion, Member, Memory, SetsView, Views, cell_named, links_in_limbo}
use Rattle.art_step.proofs.EpochBound.{bound_notes, bound_rests, bound_rises}
use Rattle.art_step.proofs.Gathered.{key_member, member_key}
use Rattle.art_step.proofs.Histories.{history_stays}
use Rattle.art_step.proofs.SetsView.{each_view, either_view}
use Rattle.art_step.proofs.SoundParts.{account_on, holder_same, numbers_turn}
use Rattle.art_step.proofs.StepNumbers.{holder_words, vouched_on}

-- no word of a cell changes, and no word of free numbers
pub record SameCells (m m' : Memory) : Type 0 where
  pub version : m'.version ≡ m.version
  pub words : m'.words ≡ m.words
  pub free : m'.free_word ≡ m.free_word

-- the view after one more step, with other pins, notes of the epoch, stamps and limbo
abbrev pub epoching : View → ℕ → ℕ → Option EpochSeen → List Stamp → List Note → List Found → List Retired → View
epoching v pins word noted xs ys fs es = record v { steps = v.steps + 1; pins = pins; pin = word; noted = noted; stamps = xs; notes = ys; found = fs; limbo = es }

-- the limbo has the same numbers
pub record SameNumbers (old new : List Retired) : Type 0 where
  pub back : (e : Retired) → Member e new → (d : Retired) × Member d old × (d.link ≡ e.link)
  pub forth : (d : Retired) → Member d old → (e : Retired) × Member e new × (e.link ≡ d.link)
  pub once : IsOnce (links_in_limbo old) → IsOnce (links_in_limbo new)

same_limbo : (es : List Retired) → SameNumbers es es
same_limbo es = record { back = λ e i. (e, i, refl); forth = λ e i. (e, i, refl); once = λ o. o }

module _ (k : Retired → Retired) (same : (e : Retired) → (k e).link ≡ e.link) where
  pub same_links : (es : List Retired) → links_in_limbo (map k es) ≡ links_in_limbo es
  same_links [] = refl
  same_links (e ∷ es) = ap₂ (λ (d : Link) (ds : List Link). d ∷ ds) (same e) (same_links es)

  mapped_limbo : (es : List Retired) → SameNumbers es (map k es)
  mapped_limbo es = record {
    back = λ e i. let o = key_member k es e i in (o.0, o.1, sym (same o.0) ∙ ap (λ (d : Retired). d.link) o.2);
    forth = λ d i. (k d, member_key k es d i, same d);
    once = subst IsOnce (sym (same_links es));
  }

module _ (z : Sizes) (m m' : Memory) (f g : Views) (p : ℕ) (v : View) (is : f p ≡ Some v) (r : IsSound z m f) (same : SameCells m m')
    (pins word : ℕ) (noted : Option EpochSeen) (xs : List Stamp) (ys : List Note) (fs : List Found) (es : List Retired) (t : SetsView f p (epoching v pins word noted xs ys fs es) g) where
  abbrev w : View
  w = epoching v pins word noted xs ys fs es

  -- what is to be shown of the step
  record Turns : Type 0 where
    -- stamps and notes stay or go, each note with its stamp
    stamps : (x : Stamp) → Member x xs → Member x v.stamps
    notes : (y : Note) → Member y ys → Member y v.notes
    goes : (y : Note) → Member y ys → Member y.stamp xs
    limbo : SameNumbers v.limbo es
    -- the epoch does not go down, and stays below its bound; the words of the other passes stay
    rises : m.epoch ≤ m'.epoch
    bound : m'.epoch + early_notes g z.passes < 2 ^ 62 + z.passes
    words : (q : ℕ) → q ≢ p → m'.pass_word q ≡ m.pass_word q
    pinned : IsPinned z m' r.at p w
    -- what each place in limbo says of the pass, and each place of the pass's limbo of the others
    awaited : (o : ℕ) (x : View) (e : Retired) → f o ≡ Some x → Member e x.limbo → Awaits p w e
    awaits : (q : ℕ) (u : View) (e : Retired) → q ≢ p → f q ≡ Some u → Member e es → Awaits q u e
    own : (e : Retired) → Member e es → Awaits p w e

  module _ (k : Turns) where
    vouched_now : Vouched m' r.logical w
    vouched_now = let o = vouched_on m m' r.logical v same.version (r.vouch p v is) in record {
      stamps = λ x i. o.stamps x (k.stamps x i);
      noted = k.goes;
      notes = λ y i. o.notes y (k.notes y i);
      kept = λ e h y i j at stamp. o.kept e h y i (k.notes y j) at stamp;
    }

    leaf_words : (l : ℕ) → m'.words (cell.Leaf l) ≡ m.words (cell.Leaf l)
    leaf_words l = ap (λ (s : Cells). s (cell.Leaf l)) same.words

    accounts_now : Accounts m' r.at p w
    accounts_now = let o = account_on m m' r.at p v leaf_words (r.numbers.accounts p v is) in record {
      hand = o.hand;
      in_hand = o.in_hand;
      leaves = o.leaves;
      limbo = λ e i. let d = k.limbo.back e i in ap r.at (sym d.2) ∙ o.limbo d.0 d.1;
      in_limbo = λ d e. let a = o.in_limbo d e in let b = k.limbo.forth a.0 a.1 in (b.0, b.1, b.2 ∙ a.2);
      held = o.held;
      hand_once = o.hand_once;
      limbo_once = k.limbo.once o.limbo_once;
    }

    pinned_on : (q : ℕ) (u : View) → q ≢ p → f q ≡ Some u → IsPinned z m' r.at q u
    pinned_on q u other at = let o = r.unstamped.pinned q u at in let up = k.rises in record {
      inside = o.inside;
      word = k.words q other ∙ o.word;
      low = let low = o.low in omega arith;
      noted = λ n e. let i = o.noted n e in let low = i.1 in (i.0, omega arith);
      pinned = o.pinned;
      placed = o.placed;
      stamped = o.stamped;
      idle = o.idle;
    }

    unstamped_now : MarkedUnstamped z m' g r.at
    unstamped_now = record {
      epoch = let low = r.unstamped.epoch in let up = k.rises in omega arith;
      clear = λ d clear. r.unstamped.clear d (subst (λ (a : Cell → ℕ). IsClear (a (cell_named d))) same.version clear);
      pinned = each_view f g p w t (λ q u. IsPinned z m' r.at q u) k.pinned pinned_on;
      awaits = λ q o u x e is-u is-x i. ⊎_elim
          (λ (a : (o ≡ p) × (x ≡ w)). let j : Member e es = subst (λ (y : View). Member e y.limbo) a.1 i in
          each_view f g p w t (λ q u. Awaits q u e) (k.own e j) (λ q u other at. k.awaits q u e other at j) q u is-u)
          (λ (a : (o ≢ p) × (f o ≡ Some x)). each_view f g p w t (λ q u. Awaits q u e) (k.awaited o x e a.1 i) (λ q u other at. r.unstamped.awaits q o u x e at a.1 i) q u is-u)
          (either_view f g p w t o x is-x);
    }

    turns : IsSound z m' g
    turns = record {
      log = r.log;
      logical = r.logical;
      at = r.at;
      history = history_stays f g p v w t is r.log r.history refl refl refl;
      shows = r.shows;
      holder = holder_words m m' g r.logical r.logical same.version (λ c _. (ap (λ (s : Cells). s c) same.words, refl))
          (λ c rests. r.holder.at_rest c rests ∙ sym (ap (λ (s : Cells). s c) same.words)) (holder_same m f g p v w r.logical t is refl refl r.holder);
      vouch = each_view f g p w t (λ q u. Vouched m' r.logical u) vouched_now (λ q u other at. vouched_on m m' r.logical u same.version (r.vouch q u at));
      numbers = numbers_turn z m m' f g p w r.logical r.logical r.at t r.numbers r.numbers same.free leaf_words accounts_now;
      unstamped = unstamped_now;
      formed = record {
        versions = λ c. subst (λ (a : Cell → ℕ). IsVersion (a c)) (sym same.version) (r.formed.versions c);
        leaves = λ l. subst (λ (a : Cell → ℕ). IsObsolete (a (cell.Leaf l))) (sym same.version) (r.formed.leaves l);
        words = subst (HaveForms z) (sym same.words) r.formed.words;
        epoch = k.bound;
      };
    }

-- ---- the laws

module _ (z : Sizes) (p : ℕ) (v : View) (m : Memory) (f : Views) (m' : Memory) (g : Views) (is : f p ≡ Some v) (r : IsSound z m f) where
  mine : IsPinned z m r.at p v
  mine = r.unstamped.pinned p v is

  no_words : SameCells m m
  no_words = record { version = refl; words = refl; free = refl }

  unmoved : m' ≡ m → IsSound z m g → IsSound z m' g
  unmoved words sound = subst (λ (k : Memory). IsSound z k g) (sym words) sound

  -- a place says the same of a view with the same stamps and pins
  awaits_on : {noted : Option EpochSeen} {fs : List Found} {es : List Retired} (e : Retired) → Awaits p v e → Awaits p (epoching v v.pins v.pin noted v.stamps v.notes fs es) e
  awaits_on e k = record { stamped = k.stamped; marked = k.marked; label = k.label; made = k.made }

  -- ---- the epoch is noted

  label_of : (o : Option ℕ) (x l : ℕ) → label_or o x ≡ Some l → (o ≡ Some l) ⊎ (x ≡ l)
  label_of None x l e = inr (same_Some x l e)
  label_of (Some j) x l e = inl e

  labels : (q : ℕ) (u : View) (d : Retired) → f q ≡ Some u → Awaits q u d → Awaits q u (labelled m.epoch d)
  labels q u d at k = record {
    stamped = k.stamped;
    marked = k.marked;
    label = λ l e under. ⊎_elim (λ (old : d.label ≡ Some l). k.label l old under) (λ (new : m.epoch ≡ l). let low = (r.unstamped.pinned q u at).low in omega arith) (label_of d.label m.epoch l e);
    made = k.made;
  }

  labels_each : (q : ℕ) (u : View) (e : Retired) → f q ≡ Some u → Member e (map (labelled m.epoch) v.limbo) → Awaits q u e
  labels_each q u e at i =
      let d = key_member (labelled m.epoch) v.limbo e i in
      subst (Awaits q u) d.2 (labels q u d.0 at (r.unstamped.awaits q p u v d.0 at is d.1))

  notes_epoch : SetsView f p (epoch.view_after v m.epoch) g → IsSound z m g
  notes_epoch t =
      let now : EpochSeen = record { epoch = m.epoch; step = v.steps + 1 } in
      turns z m m f g p v is r no_words v.pins v.pin (Some now) v.stamps v.notes v.found (map (labelled m.epoch) v.limbo) t record {
        stamps = λ x i. i;
        notes = λ y i. i;
        goes = (r.vouch p v is).noted;
        limbo = mapped_limbo (labelled m.epoch) (λ e. refl) v.limbo;
        rises = le_refl m.epoch;
        bound = bound_notes f g p (epoch.view_after v m.epoch) t z.passes v mine.inside is m.epoch r.formed.epoch now refl refl;
        words = λ q other. refl;
        pinned = record {
          inside = mine.inside;
          word = mine.word;
          low = mine.low;
          noted = λ n e. let same : m.epoch ≡ n.epoch = ap (λ (s : EpochSeen). s.epoch) (same_Some now n e) in let low = r.unstamped.epoch in (omega arith, omega arith);
          pinned = mine.pinned;
          placed = mine.placed;
          stamped = mine.stamped;
          idle = mine.idle;
        };
        awaited = λ o x e at i. awaits_on e (r.unstamped.awaits p o v x e is at i);
        awaits = λ q u e other at i. labels_each q u e at i;
        own = λ e i. awaits_on e (labels_each p v e is i);
      }

  -- ---- the word of another pass is found

  past : (o : Option ℕ) (x : ℕ) → is_past o x ≡ true → (x ≡ 0) ⊎ ((l : ℕ) × (o ≡ Some l) × (l < x))
  past None zero e = inl refl
  past None (suc x) e = cc
  past (Some l) zero e = inl refl
  past (Some l) (suc x) e = inr (l, refl, ltb-true l (suc x) e)

  module _ (found : ℕ) where
    abbrev word : ℕ
    word = m.pass_word found

    -- a pass that has gone past a place is under none of its pins
    beyond : (q : ℕ) (u : View) (d : Retired) → f q ≡ Some u → Awaits q u d → q ≡ found → is_past d.label word ≡ true → IsUnder q u d → ⊥
    beyond q u d at k same gone under =
        let own : word ≡ u.pin = ap m.pass_word (sym same) ∙ (r.unstamped.pinned q u at).word in
        ⊎_elim
        (λ (idle : word ≡ 0). under.0 (sym own ∙ idle))
        (λ (a : (l : ℕ) × (d.label ≡ Some l) × (l < word)). let low = k.label a.0 a.1 under in let high = a.2 in absurd (omega arith))
        (past d.label word gone)

    marks : (q : ℕ) (u : View) (d : Retired) (b : Bool) → f q ≡ Some u → Awaits q u d → is_past d.label word ≡ b → Member q (if b then found ∷ d.marked else d.marked) → IsUnder q u d → ⊥
    marks q u d true at k gone i under = ⊎_elim (λ (same : q ≡ found). beyond q u d at k same gone under) (λ (j : Member q d.marked). k.marked j under) i
    marks q u d false at k gone i under = k.marked i under

    watches_each : (q : ℕ) (u : View) (e : Retired) → f q ≡ Some u → Member e (map (watched found word) v.limbo) → Awaits q u e
    watches_each q u e at i =
        let d = key_member (watched found word) v.limbo e i in
        let k = r.unstamped.awaits q p u v d.0 at is d.1 in
        subst (Awaits q u) d.2 record { stamped = k.stamped; marked = marks q u d.0 (is_past d.0.label word) at k refl; label = k.label; made = k.made }

    watches : SetsView f p (watch.view_after v found word) g → IsSound z m g
    watches t = turns z m m f g p v is r no_words v.pins v.pin v.noted v.stamps v.notes (record { word = Pass found word; step = v.steps + 1 } ∷ v.found) (map (watched found word) v.limbo) t record {
      stamps = λ x i. i;
      notes = λ y i. i;
      goes = (r.vouch p v is).noted;
      limbo = mapped_limbo (watched found word) (λ e. refl) v.limbo;
      rises = le_refl m.epoch;
      bound = bound_rests f g p (watch.view_after v found word) t z.passes v mine.inside is m.epoch r.formed.epoch refl;
      words = λ q other. refl;
      pinned = record { inside = mine.inside; word = mine.word; low = mine.low; noted = mine.noted; pinned = mine.pinned; placed = mine.placed; stamped = mine.stamped; idle = mine.idle };
      awaited = λ o x e at i. awaits_on e (r.unstamped.awaits p o v x e is at i);
      awaits = λ q u e other at i. watches_each q u e at i;
      own = λ e i. awaits_on e (watches_each p v e is i);
    }

  -- ---- the epoch goes up

  advances : advance.May v → SetsEpoch m (m.epoch + 1) m' → SetsView f p (advance.view_after v) g → IsSound z m' g
  advances may sets t =
      let up : m'.epoch ≡ m.epoch + 1 = sets.here in
      turns z m m' f g p v is r record { version = sets.version; words = sets.words; free = sets.free } v.pins v.pin None v.stamps v.notes v.found v.limbo t record {
        stamps = λ x i. i;
        notes = λ y i. i;
        goes = (r.vouch p v is).noted;
        limbo = same_limbo v.limbo;
        rises = omega arith;
        bound = let bound = bound_rises f g p (advance.view_after v) t z.passes v mine.inside is m.epoch r.formed.epoch may.note may.noted may.early refl in omega (arith, up, bound);
        words = λ q other. ap (λ (a : ℕ → ℕ). a q) sets.pass_word;
        pinned = record {
          inside = mine.inside;
          word = ap (λ (a : ℕ → ℕ). a p) sets.pass_word ∙ mine.word;
          low = let low = mine.low in omega arith;
          noted = λ n e. absurd (cc);
          pinned = mine.pinned;
          placed = mine.placed;
          stamped = mine.stamped;
          idle = mine.idle;
        };
        awaited = λ o x e at i. awaits_on e (r.unstamped.awaits p o v x e is at i);
        awaits = λ q u e other at i. r.unstamped.awaits q p u v e at is i;
        own = λ e i. awaits_on e (r.unstamped.awaits p p v v e is is i);
      }

  -- ---- a pass is pinned, or goes idle

  module _ (x : ℕ) (free : v.held ≡ []) (sets : SetsPassWord m p x m') where
    same : SameCells m m'
    same = record { version = sets.version; words = sets.words; free = sets.free }

    stays : m.epoch ≤ m'.epoch
    stays = let e = sets.epoch in omega arith

    bound : (w : View) → SetsView f p w g → w.noted ≡ v.noted → m'.epoch + early_notes g z.passes < 2 ^ 62 + z.passes
    bound w t noted = let e = sets.epoch in let old = bound_rests f g p w t z.passes v mine.inside is m.epoch r.formed.epoch noted in omega (arith, e, old)

    none_held : (h : Holding) → Member h v.held → ⊥
    none_held h i = subst (Member h) free i

    seen_low : (n : EpochSeen) → v.noted ≡ Some n → (0 < n.epoch) × (n.epoch ≤ m'.epoch)
    seen_low n e = let o = mine.noted n e in let a = sets.epoch in let low = o.1 in (o.0, omega arith)

    -- all stamps go
    idle_awaits : (e : Retired) → Awaits p v e → Awaits p (epoching v v.pins 0 v.noted [] [] v.found v.limbo) e
    idle_awaits e k = record {
      stamped = λ n link y. absurd y.1;
      marked = λ i under. under.0 refl;
      label = λ l e under. absurd (under.0 refl);
      made = k.made;
    }

    idles : x ≡ 0 → SetsView f p (epoching v v.pins 0 v.noted [] [] v.found v.limbo) g → IsSound z m' g
    idles zero' t = turns z m m' f g p v is r same v.pins 0 v.noted [] [] v.found v.limbo t record {
      stamps = λ x i. absurd i;
      notes = λ y i. absurd i;
      goes = λ y i. absurd i;
      limbo = same_limbo v.limbo;
      rises = stays;
      bound = bound (epoching v v.pins 0 v.noted [] [] v.found v.limbo) t refl;
      words = sets.there;
      pinned = record {
        inside = mine.inside;
        word = sets.here ∙ zero';
        low = omega arith;
        noted = seen_low;
        pinned = λ x i. absurd i;
        placed = λ x i. absurd i;
        stamped = λ n y. absurd y.1;
        idle = λ e h i. absurd (none_held h i);
      };
      awaited = λ o x e at i. idle_awaits e (r.unstamped.awaits p o v x e is at i);
      awaits = λ q u e other at i. r.unstamped.awaits q p u v e at is i;
      own = λ e i. idle_awaits e (r.unstamped.awaits p p v v e is is i);
    }

    -- the pin is a new one, which no place holds yet; an idle pass has no stamps
    pin_awaits : v.pin ≡ 0 → (e : Retired) → Awaits p v e → Awaits p (epoching v (v.pins + 1) x v.noted v.stamps v.notes v.found v.limbo) e
    pin_awaits idle e k =
        let new : Member (record { pass = p; count = v.pins + 1 }) e.pins → ⊥ = λ i. let few = k.made (v.pins + 1) i in omega arith in
        record {
          stamped = λ n link y. absurd (mine.pinned y.0 y.1 idle);
          marked = λ i under. new under.1;
          label = λ l e under. absurd (new under.1);
          made = λ n i. let few = k.made n i in omega arith;
        }

    pins : v.pin ≡ 0 → pin.IsNoted v x → SetsView f p (epoching v (v.pins + 1) x v.noted v.stamps v.notes v.found v.limbo) g → IsSound z m' g
    pins idle seen t =
        let low = seen_low seen.0 seen.1 in
        turns z m m' f g p v is r same (v.pins + 1) x v.noted v.stamps v.notes v.found v.limbo t record {
          stamps = λ x i. i;
          notes = λ y i. i;
          goes = (r.vouch p v is).noted;
          limbo = same_limbo v.limbo;
          rises = stays;
          bound = bound (epoching v (v.pins + 1) x v.noted v.stamps v.notes v.found v.limbo) t refl;
          words = sets.there;
          pinned = record {
            inside = mine.inside;
            word = sets.here;
            low = subst (λ (n : ℕ). n ≤ m'.epoch) seen.2 low.1;
            noted = seen_low;
            pinned = λ y i. absurd (mine.pinned y i idle);
            placed = mine.placed;
            stamped = mine.stamped;
            idle = λ e h i. absurd (none_held h i);
          };
          awaited = λ o y e at i. pin_awaits idle e (r.unstamped.awaits p o v y e is at i);
          awaits = λ q u e other at i. r.unstamped.awaits q p u v e at is i;
          own = λ e i. pin_awaits idle e (r.unstamped.awaits p p v v e is is i);
        }

-- the epoch is found
pub epoch_law : epoch.Law
epoch_law z p v m f m' g is r row = unmoved z p v m f m' g is r row.words (notes_epoch z p v m f m' g is r row.view)

-- the word of another pass is found
pub watch_law : watch.Law
watch_law z p v m f m' g is r row = unmoved z p v m f m' g is r row.words (watches z p v m f m' g is r row.pass row.view)

-- the epoch goes up
pub advance_law : advance.Law
advance_law z p v m f m' g is r row = advances z p v m f m' g is r row.may row.sets row.view

-- the pass stores its word: an epoch that it noted, which is not 0, or 0
pub pin_law : pin.Law
pin_law z p v m f m' g is r row = ⊎_elim
    (λ (zero' : row.word ≡ 0). idles z p v m f m' g is r row.word row.may.free row.sets zero' (rw (eq-eqb row.word 0 zero') at row.view))
    (λ (other : row.word ≢ 0). ⊎_elim
    (λ (zero' : row.word ≡ 0). absurd (other zero'))
    (λ (a : (v.pin ≡ 0) × pin.IsNoted v row.word). pins z p v m f m' g is r row.word row.may.free row.sets a.0 a.1 (rw (ne_eqb row.word 0 other) at row.view))
    row.may.word)
    (cases_eq row.word 0)
