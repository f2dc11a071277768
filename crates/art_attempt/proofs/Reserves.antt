-- Numbers come into the hand one after another, and the leaf gets its words.
use Rattle.std.proofs.Common.{◌≡◌, ◌≢◌, ℕ, ◌+◌, ◌<◌, ◌≤◌, Bool, true, false, List, length, Option, Some, None, nat_lt, inr, refl, sym, ap, ◌∙◌, ◌==◌, subst, arith, ⊎_elim, if◌then◌else◌}
use Rattle.std.specs.Option.{option_and_then, option_map}
use Rattle.std.specs.Prelude.{IfSome}
use Rattle.std.proofs.lemmas.Bool.{cases_Bool, cases_eq, lt-ltb, ltb-true}
use Rattle.std.proofs.lemmas.Option.{same_Some}
use Rattle.art_cell.specs.Children.{number_of}
use Rattle.art_cell.specs.declared.cells.Link.{Link}
use Rattle.art_cell.specs.declared.cells.Link.TheVariants.{Leaf as leaf, Node as node}
use Rattle.art_cell.specs.declared.cells.Node.{Node}
use Rattle.art_cell.specs.Leaves.{leaf_word}
use Rattle.art_cell.specs.declared.cells.Layout.{Layout}
use Rattle.art_cell.specs.declared.cells.Layout.TheVariants.{Node4, Node16, Node48, Node256}
use Rattle.art_cell.specs.declared.cells.Pool.{Pool}
use Rattle.art_cell.specs.declared.cells.Pool.TheVariants.{Leaves}
use Rattle.art_plan.specs.ArtCommit.CommitLaws.{HasNode}
use Rattle.art_epoch.proofs.Searching.{around_inside, few_looks}
use Rattle.art_epoch.specs.Taking.{NoneBefore, OnlyTakes, SearchFits, Takes, TookLowest, TookNone}
use Rattle.art_epoch.specs.Taking as taking
use Rattle.art_step.specs.declared.actions.Action.{Action}
use Rattle.art_step.specs.declared.actions.Answer.{Answer}
use Rattle.art_step.specs.declared.actions.Action.TheVariants.{ClearBit, WriteLeaf}
use Rattle.art_epoch.specs.declared.stocks.Search.{Search}
use Rattle.art_epoch.specs.declared.stocks.Search.TheVariants.{Looking, Clearing, Took}
use Rattle.art_epoch.specs.declared.stocks.Taking.{Taking}
use Rattle.art_epoch.proofs.Stocked.{stock_same, stock_took_leaf, stock_took_node, taken_node}
use Rattle.art_epoch.specs.Stocks.{HasStock, IsIn, node_in, with_leaf, with_node, words_written}
use Rattle.art_epoch.specs.declared.stocks.Stock.{Stock}
use Rattle.art_step.proofs.Words.{done_row, word_row}
use Rattle.art_step.specs.Acting.{Answers, IsAllowed, word_in}
use Rattle.art_attempt.specs.Reserve.{Fits, HasLeafWords, HasNone, IsPacking, IsSoon, IsSought, IsWanted, OnlySupplies, StageFits, StayFound, asks, few_steps, leaf_asked, leaf_looks, leaf_steps, looks_before, most_steps, node_looks, node_steps, search_looks, search_steps, steps_before}
use Rattle.art_attempt.specs.declared.reserve.Reserve.{Reserve}
use Rattle.art_attempt.specs.declared.reserve.Reserve.TheVariants as stage
use Rattle.art_attempt.specs.declared.reserve.Demand.{Demand}
use Rattle.art_epoch.proofs.PackedLeaves.{word_form}
use Rattle.art_epoch.specs.LeafWriter.{IsPacked, OnlyPacks, LeafWriterFits, word_asked}
use Rattle.art_epoch.specs.declared.leaf_writer.LeafWriter.{LeafWriter}
use Rattle.art_step.specs.Steps.Take as take_free
use Rattle.art_step.specs.Steps.Write as write
use Rattle.art_step.specs.Tokens.{link_of_number}
use Rattle.art_step.specs.Views.{IsInHand, Member, bit_of, pool_of_layout}
use Rattle.art_step.specs.WordPlaces.{free_words, pool_size}
use Rattle.art_step.specs.declared.numbers.Number.{Number}
use Rattle.art_step.specs.declared.views.Found.{Found}
use Rattle.art_step.specs.declared.views.InHand.{InHand}
use Rattle.art_step.specs.declared.views.Sizes.{Sizes}
use Rattle.art_step.specs.declared.views.View.{View}

-- ---- a search

-- as long as it goes on, nothing came into the hand
searching_hand : (z : Sizes) (v0 v : View) (pool : Pool) (words first : ℕ) (s : Search) (a : Action) → SearchFits z v0 v pool words first s → taking.asks_at pool words first s ≡ Some a → v.hand ≡ v0.hand
searching_hand z v0 v pool words first (Looking i) a fits is = fits.2
searching_hand z v0 v pool words first (Clearing i k) a fits is = fits.hand
searching_hand z v0 v pool words first (Took i k) a fits is = cc

takes_then : (u v w : View) → OnlyTakes u v → OnlyTakes v w → OnlyTakes u w
takes_then u v w a b = b ∙ ap (λ (y : View). record y { steps = w.steps; failures = w.failures; found = w.found; hand = w.hand }) a

-- what it tells when it has ended
pub takes_some : (z : Sizes) (v w : View) (pool : Pool) (first : ℕ) (o : Option Number) (d : Link) → option_map link_of_number o ≡ Some d → Takes z v w pool first o → TookLowest z v w pool d
takes_some z v w pool first (Some n) d is takes = subst (TookLowest z v w pool) (same_Some {A = Link} (link_of_number n) d is) takes.took
takes_some z v w pool first None d is takes = cc

pub takes_none : (z : Sizes) (v w : View) (pool : Pool) (first : ℕ) (o : Option Number) → option_map link_of_number o ≡ None → Takes z v w pool first o → TookNone z v w pool
takes_none z v w pool first (Some n) is takes = cc
takes_none z v w pool first None is takes = takes

-- before a node is sought the leaf came
pub before_node : (z : Sizes) (layout : Layout) → steps_before z (pool_of_layout layout) ≡ leaf_steps z
before_node z Node4 = refl
before_node z Node16 = refl
before_node z Node48 = refl
before_node z Node256 = refl

pub looked_before_node : (z : Sizes) (layout : Layout) → looks_before z (pool_of_layout layout) ≡ leaf_looks z
looked_before_node z Node4 = refl
looked_before_node z Node16 = refl
looked_before_node z Node48 = refl
looked_before_node z Node256 = refl

pub soon_node : (z : Sizes) (layout : Layout) (u v : View) → IsSoon u v (leaf_steps z) (leaf_looks z) → IsSoon u v (steps_before z (pool_of_layout layout)) (looks_before z (pool_of_layout layout))
soon_node z layout u v soon = rw (before_node z layout, looked_before_node z layout) soon

module _ (z : Sizes) (k : List ℕ) (value : ℕ) (s : Stock) (u : View) (t : Taking) (pool : Pool) (v : View) (p : IsSought z k value s u t pool v) where
  only_sought : OnlyTakes u v
  only_sought = takes_then u p.early v p.base.only p.seeks.only

  found_sought : StayFound u v
  found_sought x m = p.found x (p.base.found x m)

  later_sought : u.steps ≤ v.steps
  later_sought = let a = p.base.later in let b = p.seeks.some in omega arith

  failures_sought : u.failures ≤ v.failures
  failures_sought = let a = p.base.failures in let b = p.seeks.failed in omega arith

  soon_sought : IsSoon u v (steps_before z pool + search_steps z pool) (looks_before z pool + search_looks z pool)
  soon_sought =
      let words : t.words ≡ free_words (pool_size z pool) = p.seeks.words ∙ ap (λ (q : Pool). free_words (pool_size z q)) p.pool_is in
      let most = p.soon.steps in
      let steps = p.seeks.steps in
      let few = p.soon.counted in
      let looks = few_looks z p.early t v p.seeks in
      record { steps = omega (arith, most, steps, words); counted = omega (arith, few, looks, words) }

  -- few steps were made
  pub leaf_soon : pool ≡ Leaves → IsSoon u v (search_steps z Leaves) (search_looks z Leaves)
  leaf_soon is =
      let a = subst (λ (q : Pool). IsSoon u v (steps_before z q + search_steps z q) (looks_before z q + search_looks z q)) is soon_sought in
      let most = a.steps in
      let few = a.counted in
      record { steps = omega (arith, most); counted = omega (arith, few) }

  pub leaf_few : (demand : Demand) → pool ≡ Leaves → IsSoon u v (most_steps z demand) (few_steps z demand)
  leaf_few demand is =
      let a = leaf_soon is in
      let most = a.steps in
      let few = a.counted in
      record { steps = omega (arith, most); counted = omega (arith, few) }

  pub node_few : (demand : Demand) (layout : Layout) → demand.node ≡ Some layout → pool ≡ pool_of_layout layout → IsSoon u v (most_steps z demand) (few_steps z demand)
  node_few demand layout want is =
      let a = subst (λ (q : Pool). IsSoon u v (steps_before z q + search_steps z q) (looks_before z q + search_looks z q)) is soon_sought in
      let most = a.steps in
      let few = a.counted in
      let before = before_node z layout in
      let looked = looked_before_node z layout in
      let steps : node_steps z demand.node ≡ search_steps z (pool_of_layout layout) = ap (node_steps z) want in
      let looks : node_looks z demand.node ≡ search_looks z (pool_of_layout layout) = ap (node_looks z) want in
      record { steps = omega (arith, most, before, steps); counted = omega (arith, few, looked, looks) }

  pub sought_on : (a : Action) → taking.asks t ≡ Some a → OnlySupplies z k value s u v
  sought_on a is = record {
    only = only_sought;
    found = found_sought;
    later = later_sought;
    failures = failures_sought;
    has = stock_same z k value p.early v s (searching_hand z p.early v t.pool t.words t.first t.search a p.seeks.search is) p.base.has;
  }

  pub sought_none : TookNone z p.early v t.pool → OnlySupplies z k value s u v
  sought_none none = record { only = only_sought; found = found_sought; later = later_sought; failures = failures_sought; has = stock_same z k value p.early v s none.hand p.base.has }

  -- and each word of the pool was found to give none
  pub none_sought : (demand : Demand) → IsWanted demand pool → TookNone z p.early v t.pool → HasNone z demand pool u v
  none_sought demand wanted none = record {
    wanted = wanted;
    since = p.early.steps;
    after = p.base.later;
    none = subst (λ (q : Pool). NoneBefore v p.early.steps q (free_words (pool_size z q))) p.pool_is none.none;
  }

  pub sought_leaf : (d : Link) → pool ≡ Leaves → TookLowest z p.early v t.pool d → s.leaf ≡ None → OnlySupplies z k value (with_leaf (number_of d) s) u v
  sought_leaf d is took none = record {
    only = only_sought;
    found = found_sought;
    later = later_sought;
    failures = failures_sought;
    has = stock_took_leaf z k value p.early v d s (subst (λ (q : Pool). TookLowest z p.early v q d) (p.pool_is ∙ is) took) none p.base.has;
  }

  pub sought_node : (layout : Layout) (d : Link) → pool ≡ pool_of_layout layout → TookLowest z p.early v t.pool d → node_in s layout ≡ None
      → OnlySupplies z k value (with_node (taken_node layout d) s) u v
  sought_node layout d is took none = record {
    only = only_sought;
    found = found_sought;
    later = later_sought;
    failures = failures_sought;
    has = stock_took_node z k value p.early v layout d s (subst (λ (q : Pool). TookLowest z p.early v q d) (p.pool_is ∙ is) took) none p.base.has;
  }

-- it begins
pub begins_sought : (z : Sizes) (k : List ℕ) (value : ℕ) (s : Stock) (u v : View) (t : Taking) (pool : Pool) → OnlySupplies z k value s u v → IsSoon u v (steps_before z pool) (looks_before z pool) → taking.Fits z v t v → t.pool ≡ pool
    → IsSought z k value s u t pool v
begins_sought z k value s u v t pool base soon fits is = record { early = v; base = base; found = λ x m. m; soon = soon; seeks = fits; pool_is = is }

-- no step was made
pub soon_first : (u : View) (most few : ℕ) → IsSoon u u most few
soon_first u most few = record { steps = omega arith; counted = omega arith }

pub begins_supplies : (z : Sizes) (k : List ℕ) (value : ℕ) (s : Stock) (u : View) → HasStock z k value u s → OnlySupplies z k value s u u
begins_supplies z k value s u has = record { only = refl; found = λ x m. m; later = omega arith; failures = omega arith; has = has }

-- a word was found, and those that were found before stay so
found_after : (v : View) (pool : Pool) (i : ℕ) (bit : Option ℕ) (x : ℕ) (ws : List ℕ) → (take_free.view_after v pool i bit x ws).found ≡ (take_free.view_noted v pool i x).found
found_after v pool i None x ws = refl
found_after v pool i (Some k) x ws = ⊎_elim
    (λ (e : (bit_of x k == 1) ≡ true). rw e refl)
    (λ (e : (bit_of x k == 1) ≡ false). rw e refl)
    (cases_Bool (bit_of x k == 1))

cleared_found : (z : Sizes) (pool : Pool) (i : ℕ) (bit : Option ℕ) (answer : Answer) (v w : View) → Answers z None (ClearBit pool i bit) answer v w → StayFound v w
cleared_found z pool i bit answer v w row x m =
    let o = word_row z None (ClearBit pool i bit) answer v w tt row in
    subst (λ (xs : List Found). Member x xs) (sym (ap (λ (t : View). t.found) o.is ∙ found_after v pool i bit (word_in answer) o.words)) (inr m)

taken_found : (z : Sizes) (t : Taking) (a : Action) (answer : Answer) (v w : View) → taking.asks t ≡ Some a → Answers z None a answer v w → StayFound v w
taken_found z t a answer v w is row = by_search t.search is
  where
    by_action : (b : Action) → b ≡ a → ((u : View) → Answers z None b answer v u → StayFound v u) → StayFound v w
    by_action b same stay = stay w (subst (λ (q : Action). Answers z None q answer v w) (sym same) row)

    by_test : (n : ℕ) (b : Bool) → nat_lt n t.words ≡ b → (if b then Some (ClearBit t.pool (taking.around t.words t.first n) None) else None) ≡ Some a → StayFound v w
    by_test n true low e = by_action (ClearBit t.pool (taking.around t.words t.first n) None) (same_Some {A = Action} _ a e) (λ u. cleared_found z t.pool (taking.around t.words t.first n) None answer v u)
    by_test n false low e = absurd (cc)

    by_search : (s : Search) → taking.asks_at t.pool t.words t.first s ≡ Some a → StayFound v w
    by_search (Looking n) e = by_test n (nat_lt n t.words) refl e
    by_search (Clearing n k) e = by_action (ClearBit t.pool (taking.around t.words t.first n) (Some k)) (same_Some {A = Action} _ a e) (λ u. cleared_found z t.pool (taking.around t.words t.first n) (Some k) answer v u)
    by_search (Took n k) e = absurd (cc)

module _ (z : Sizes) (k : List ℕ) (value : ℕ) (s : Stock) (u : View) (t t' : Taking) (pool : Pool) (v w : View) (p : IsSought z k value s u t pool v) where
  pub told_sought : (a : Action) (answer : Answer) → taking.asks t ≡ Some a → Answers z None a answer v w → t'.pool ≡ t.pool → taking.Fits z p.early t' w → IsSought z k value s u t' pool w
  told_sought a answer is row same fits =
      record { early = p.early; base = p.base; found = λ x m. taken_found z t a answer v w is row x (p.found x m); soon = p.soon; seeks = fits; pool_is = same ∙ p.pool_is }

-- ---- the leaf gets its words

node_written : (s : Stock) (b : Bool) (layout : Layout) → node_in (record s { written = b }) layout ≡ node_in s layout
node_written s b Node4 = refl
node_written s b Node16 = refl
node_written s b Node48 = refl
node_written s b Node256 = refl

same_leaf : (i j : ℕ) → leaf i ≡ leaf j → i ≡ j
same_leaf i j is = ap number_of is

-- with one more word, or with all of them
module _ (z : Sizes) (k : List ℕ) (value : ℕ) (s : Stock) (v w : View) (l : ℕ) (is : s.leaf ≡ Some l) (has : HasStock z k value v s) (only : OnlyPacks v w l) where
  node_packed : (n : Node) → HasNode z v n → HasNode z w n
  node_packed n o = record { hand = o.hand; has = (only.others o.hand (λ e. cc)).1 o.has; link = o.link; number = o.number; fits = o.fits }

  was_in : (x : InHand) (d : Link) → x.link ≡ d → Member x w.hand → IsIn s d
  was_in x (leaf i) at m = ⊎_elim
      (λ (e : i ≡ l). is ∙ ap (λ (j : ℕ). Some j) (sym e))
      (λ (other : i ≢ l). subst (IsIn s) at (has.only x ((only.others x (λ e. other (same_leaf i l (sym at ∙ e)))).0 m)))
      (cases_eq i l)
  was_in x (node n) at m = subst (IsIn s) at (has.only x ((only.others x (λ e. let no : node n ≡ leaf l = sym at ∙ e in cc)).0 m))

  pub stock_packed : (b : Bool) → IsPacked z w l k value (words_written (record s { written = b })) → HasStock z k value w (record s { written = b })
  stock_packed b packed = record {
    leaf = λ i at. subst (λ (j : ℕ). IsPacked z w j k value (words_written (record s { written = b }))) (same_Some {A = ℕ} l i (sym is ∙ at)) packed;
    nodes = λ n at. node_packed n (has.nodes n (sym (node_written s b n.layout) ∙ at));
    only = λ x m. on x.link (was_in x x.link refl m);
  }
    where
      on : (d : Link) → IsIn s d → IsIn (record s { written = b }) d
      on (leaf i) at = at
      on (node n) at = node_written s b n.layout ∙ at

packed_none : (z : Sizes) (w : View) (l : ℕ) (k : List ℕ) (value place : ℕ) → IsPacked z w l k value place → IsPacked z w l k value 0
packed_none z w l k value place p = record { is = p.is; words = λ i low. absurd (omega arith) }

-- its next word is asked for
pub asks_word : (k : List ℕ) (value : ℕ) (s : Stock) (p : LeafWriter) (l : ℕ) (a : Action) → s.leaf ≡ Some l → word_asked l k value p.place ≡ Some a
    → option_and_then (leaf_asked k value p) s.leaf ≡ Some a
asks_word k value s p l a at is = ap (option_and_then (leaf_asked k value p)) at ∙ is

-- a word of it was written
module _ (z : Sizes) (demand : Demand) (k : List ℕ) (value : ℕ) (s : Stock) (u : View) (p : LeafWriter) (v w : View) (f : Fits z demand k value (stage.LeafWriter p) s u v) where
  abbrev leaf_writer : IsPacking z k value s u p v
  leaf_writer = f.stage.1

  abbrev next_word : Action
  next_word = WriteLeaf leaf_writer.leaf p.place (leaf_word k value p.place)

  pub asks_next : word_asked leaf_writer.leaf k value p.place ≡ Some next_word
  asks_next = rw (lt-ltb p.place 10 leaf_writer.more) refl

  asked_word : (asked : Action) → option_and_then (leaf_asked k value p) s.leaf ≡ Some asked → next_word ≡ asked
  asked_word asked is = same_Some {A = Action} next_word asked (sym (asks_word k value s p leaf_writer.leaf next_word leaf_writer.is asks_next) ∙ is)

  module _ (asked : Action) (answer : Answer) (is : option_and_then (leaf_asked k value p) s.leaf ≡ Some asked) (row : Answers z None asked answer v w) where
    pub next_row : Answers z None next_word answer v w
    next_row = subst (λ (q : Action). Answers z None q answer v w) (sym (asked_word asked is)) row

    wrote_word : (y : InHand) → IsInHand v (leaf leaf_writer.leaf) y → write.LeafOutcome v w y p.place (leaf_word k value p.place)
    wrote_word = done_row z None next_word answer v w tt next_row

    wrote : write.LeafOutcome v w leaf_writer.packs.packed.is.hand p.place (leaf_word k value p.place)
    wrote = wrote_word leaf_writer.packs.packed.is.hand leaf_writer.packs.packed.is.has

    pub one_written : w.steps ≡ v.steps + 1
    one_written = ap (λ (t : View). t.steps) wrote.is

    found_written : StayFound u w
    found_written x m = subst (λ (t : View). Member x t.found) (sym wrote.is) (f.only.found x m)

    only_written : OnlyTakes u w
    only_written = takes_then u v w f.only.only (subst (OnlyTakes v) (sym wrote.is) refl)

    later_written : u.steps ≤ w.steps
    later_written = let a = ap (λ (t : View). t.steps) wrote.is in let b = f.only.later in omega arith

    failures_written : u.failures ≤ w.failures
    failures_written = let a = ap (λ (t : View). t.failures) wrote.is in let b = f.only.failures in omega arith

    module _ (p' : LeafWriter) (packs : LeafWriterFits z leaf_writer.leaf k value p' leaf_writer.early w) where
      -- few steps were made
      pub packed_soon : IsSoon u w (leaf_steps z) (leaf_looks z)
      packed_soon =
          let low = packs.low in
          let most = leaf_writer.soon.steps in
          let few = leaf_writer.soon.counted in
          let steps = packs.steps in
          let same = packs.only.failures in
          record { steps = omega (arith, most, steps, low); counted = omega (arith, few, steps, same, low) }

      pub packed_few : IsSoon u w (most_steps z demand) (few_steps z demand)
      packed_few =
          let soon = packed_soon in
          let most = soon.steps in
          let few = soon.counted in
          record { steps = omega (arith, most); counted = omega (arith, few) }

      -- one is still to be written
      pub packed_on : OnlySupplies z k value s u w
      packed_on = record {
        only = only_written;
        found = found_written;
        later = later_written;
        failures = failures_written;
        has = subst (λ (b : Bool). HasStock z k value w (record s { written = b })) (sym leaf_writer.blank)
            (stock_packed z k value s leaf_writer.early w leaf_writer.leaf leaf_writer.is leaf_writer.base.has packs.only false (packed_none z w leaf_writer.leaf k value p'.place packs.packed));
      }

      -- so the machine goes on
      pub packed_next : p'.place ≢ 10 → Fits z demand k value (stage.LeafWriter p') s u w
      packed_next other = record {
        sizes = f.sizes;
        only = packed_on;
        few = packed_few.steps;
        counted = packed_few.counted;
        stage = (
          f.stage.0,
          record {
            early = leaf_writer.early;
            base = leaf_writer.base;
            soon = leaf_writer.soon;
            leaf = leaf_writer.leaf;
            is = leaf_writer.is;
            blank = leaf_writer.blank;
            packs = packs;
            more = let low = packs.low in omega (arith, low, other);
          },
        );
      }

      -- all are
      pub packed_all : p'.place ≡ 10 → OnlySupplies z k value (record s { written = true }) u w
      packed_all is = record {
        only = only_written;
        found = found_written;
        later = later_written;
        failures = failures_written;
        has = stock_packed z k value s leaf_writer.early w leaf_writer.leaf leaf_writer.is leaf_writer.base.has packs.only true (subst (IsPacked z w leaf_writer.leaf k value) is packs.packed);
      }

-- the leaf is there, with its words
pub leaf_words : (s : Stock) (l : ℕ) → s.leaf ≡ Some l → HasLeafWords (record s { written = true })
leaf_words s l is = record { leaf = l; is = is; written = refl }

-- ---- what it asks for may be done

search_allowed : (z : Sizes) (v0 v : View) (pool : Pool) (words first : ℕ) (s : Search) → words ≡ free_words (pool_size z pool) → SearchFits z v0 v pool words first s
    → IfSome (taking.asks_at pool words first s) (IsAllowed z None v)
search_allowed z v0 v pool words first (Looking i) is fits = by_test (nat_lt i words) refl
  where
    by_test : (b : Bool) → nat_lt i words ≡ b → IfSome (if b then Some (ClearBit pool (taking.around words first i) None) else None) (IsAllowed z None v)
    by_test true low = record { word = subst (λ (n : ℕ). taking.around words first i < n) is (around_inside words first i (ltb-true i words low)); low = tt }
    by_test false low = tt
search_allowed z v0 v pool words first (Clearing i k) is fits = record { word = subst (λ (n : ℕ). taking.around words first i < n) is (around_inside words first i fits.inside); low = fits.lowest.low }
search_allowed z v0 v pool words first (Took i k) is fits = tt

taking_allowed : (z : Sizes) (v0 v : View) (t : Taking) → taking.Fits z v0 t v → IfSome (taking.asks t) (IsAllowed z None v)
taking_allowed z v0 v t fits = search_allowed z v0 v t.pool t.words t.first t.search fits.words fits.search

pub allowed : (z : Sizes) (demand : Demand) (k : List ℕ) (value : ℕ) (m : Reserve) (s : Stock) (u v : View) → length k ≤ 64 → StageFits z demand k value m s u v
    → IfSome (asks k value s m) (IsAllowed z None v)
allowed z demand k value (stage.Leaf t) s u v few fits = taking_allowed z fits.2.sought.early v t fits.2.sought.seeks
allowed z demand k value (stage.LeafWriter p) s u v few fits =
    let q = fits.1 in
    rw q.is rw (lt-ltb p.place 10 q.more) (q.packs.packed.is, q.more, word_form z q.leaf k value p.place few)
allowed z demand k value (stage.Node t) s u v few fits = taking_allowed z fits.1.seeking.sought.early v t fits.1.seeking.sought.seeks
allowed z demand k value (stage.Ended r) s u v few fits = tt

-- ---- a node came into the hand

pub node_there : (layout : Layout) (i : ℕ) (s : Stock) → node_in (with_node (record { layout = layout; number = i }) s) layout ≡ Some i
node_there Node4 i s = refl
node_there Node16 i s = refl
node_there Node48 i s = refl
node_there Node256 i s = refl

pub leaf_words_with_node : (layout : Layout) (i : ℕ) (s : Stock) → HasLeafWords s → HasLeafWords (with_node (record { layout = layout; number = i }) s)
leaf_words_with_node Node4 i s has = record { leaf = has.leaf; is = has.is; written = has.written }
leaf_words_with_node Node16 i s has = record { leaf = has.leaf; is = has.is; written = has.written }
leaf_words_with_node Node48 i s has = record { leaf = has.leaf; is = has.is; written = has.written }
leaf_words_with_node Node256 i s has = record { leaf = has.leaf; is = has.is; written = has.written }
