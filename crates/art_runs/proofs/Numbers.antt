-- A bit that is taken is set: nobody else took its number since its word was found, and the pass has it not in hand.
use Rattle.std.proofs.Common.{◌≡◌, ◌≤◌, ℕ, List, Option, Some, None, sym, ap, ◌∙◌, subst, arith, ⊎_elim}
use Rattle.std.proofs.lemmas.Bool.{cond_both}
use Rattle.std.proofs.lemmas.Option.{same_Some}
use Rattle.std.specs.Option.{option_and_then}
use Rattle.std.specs.Prelude.{nat_lt}
use Rattle.art_cell.specs.Leaves.{leaf_word}
use Rattle.art_cell.specs.declared.cells.Layout.{Layout}
use Rattle.art_cell.specs.declared.cells.Layout.TheVariants.{Node4, Node16, Node48, Node256}
use Rattle.art_cell.specs.declared.cells.Pool.{Pool}
use Rattle.art_cell.specs.declared.cells.Pool.TheVariants.{Leaves}
use Rattle.art_epoch.specs.Taking as taking
use Rattle.art_epoch.specs.Taking.{IsSeen, SearchFits, around}
use Rattle.art_epoch.specs.declared.stocks.Search.{Search}
use Rattle.art_epoch.specs.declared.stocks.Search.TheVariants.{Looking, Clearing, Took}
use Rattle.art_epoch.specs.declared.stocks.Taking.{Taking}
use Rattle.art_change.specs.ArtEpoch.Stocks.{IsIn, node_in}
use Rattle.art_change.specs.ArtEpoch.declared.stocks.Stock.{Stock}
use Rattle.art_change.specs.ArtAttempt.Reserve as reserve
use Rattle.art_change.specs.ArtAttempt.Reserve.{leaf_asked}
use Rattle.art_change.specs.ArtAttempt.declared.reserve.Reserve.{Reserve}
use Rattle.art_change.specs.ArtAttempt.declared.reserve.Reserve.TheVariants as supplies
use Rattle.art_change.specs.ArtAttempt.declared.reserve.Demand.{Demand}
use Rattle.art_change.proofs.ArtAttempt.Asked.{if_some}
use Rattle.art_step.specs.declared.actions.Action.{Action}
use Rattle.art_step.specs.declared.actions.Action.TheVariants.{ClearBit, WriteLeaf}
use Rattle.art_change.specs.ArtEpoch.declared.leaf_writer.LeafWriter.{LeafWriter}
use Rattle.art_runs.proofs.Calm.{IsFounded}
use Rattle.art_runs.proofs.Finding.{found_since}
use Rattle.art_runs.specs.OthersIdle.{HasFound}
use Rattle.art_step.specs.Views.{Member, Memory, bit_of, number_at, pool_of_layout}
use Rattle.art_step.specs.declared.views.InHand.{InHand}
use Rattle.art_step.specs.declared.views.Sizes.{Sizes}
use Rattle.art_step.specs.declared.views.View.{View}
use Rattle.art_world.specs.Lasting.{IsTimely}

-- no number of the pool is in hand
abbrev pub HasNoneOf : Pool → List InHand → Type 0
HasNoneOf pool hand = (i k : ℕ) (x : InHand) → Member x hand → x.link ≡ number_at pool i k → ⊥

-- ---- what is in hand of a stock

no_leaf : (s : Stock) (hand : List InHand) → ((x : InHand) → Member x hand → IsIn s x.link) → s.leaf ≡ None → HasNoneOf Leaves hand
no_leaf s hand only none i k x there same = let in_stock : IsIn s (number_at Leaves i k) = subst (IsIn s) same (only x there) in cc

layout_in : (s : Stock) (layout : Layout) (i k : ℕ) → IsIn s (number_at (pool_of_layout layout) i k) → (n : ℕ) × (node_in s layout ≡ Some n)
layout_in s Node4 i k there = (_, there)
layout_in s Node16 i k there = (_, there)
layout_in s Node48 i k there = (_, there)
layout_in s Node256 i k there = (_, there)

no_node : (s : Stock) (hand : List InHand) (layout : Layout) → ((x : InHand) → Member x hand → IsIn s x.link) → node_in s layout ≡ None → HasNoneOf (pool_of_layout layout) hand
no_node s hand layout only none i k x there same =
    let n = layout_in s layout i k (subst (IsIn s) same (only x there)) in
    let no : None ≡ Some n.0 = sym none ∙ n.1 in
    cc

-- ---- a search, of a call that began with the view u and made no event yet

module _ (m : Memory) (u v : View) (had : HasFound m u v) (timely : IsTimely u) (own : v.own ≡ u.own) where
  seen_set : (b : View) (pool : Pool) (words first n k : ℕ) → u.steps ≤ b.steps → HasNoneOf pool b.hand → IsSeen b v pool words first n k → bit_of (m.free_word pool (around words first n)) k ≡ 1
  seen_set b pool words first n k late none s =
      let i = around words first n in
      let later = s.found.later in
      let last = found_since m u v pool i s.word s.at had timely (omega (arith, late, later)) s.found.found ∙ s.last in
      ⊎_elim
      (λ (set : bit_of (m.free_word pool i) k ≡ 1). set)
      (λ (has : (x : InHand) × Member x v.hand × (x.link ≡ number_at pool i k)). absurd (none i k has.0 (subst (Member has.0) s.hand has.1) has.2))
      (had.free own pool i k s.lowest.low (ap (λ (x : ℕ). bit_of x k) last ∙ s.lowest.is))

  search_founded : (z : Sizes) (b : View) (pool : Pool) (words first : ℕ) (a : Action) → u.steps ≤ b.steps → HasNoneOf pool b.hand → (s : Search) → SearchFits z b v pool words first s
      → taking.asks_at pool words first s ≡ Some a → IsFounded z m v a
  search_founded z b pool words first a late none (Looking i) fits is =
      let Founds : Option Action → Type 0 = λ o. o ≡ Some a → IsFounded z m v a in
      cond_both (nat_lt i words) (Some (ClearBit pool (around words first i) None)) None Founds
      (λ e is. subst (IsFounded z m v) (same_Some (ClearBit pool (around words first i) None) a is) tt)
      (λ e is. absurd (cc))
      is
  search_founded z b pool words first a late none (Clearing i k) fits is = subst (IsFounded z m v) (same_Some (ClearBit pool (around words first i) (Some k)) a is) (seen_set b pool words first i k late none fits)
  search_founded z b pool words first a late none (Took i k) fits is = absurd (cc)

  taking_founded : (z : Sizes) (b : View) (t : Taking) (pool : Pool) (a : Action) → t.pool ≡ pool → u.steps ≤ b.steps → HasNoneOf pool b.hand → taking.Fits z b t v → taking.asks t ≡ Some a
      → IsFounded z m v a
  taking_founded z b t pool a same late none fits is = search_founded z b t.pool t.words t.first a late (subst (λ (q : Pool). HasNoneOf q b.hand) (sym same) none) t.search fits.search is

  -- ---- a supply

  leaf_writer_founded : (z : Sizes) (k : List ℕ) (value : ℕ) (p : LeafWriter) (a : Action) (o : Option ℕ) → option_and_then (leaf_asked k value p) o ≡ Some a → IsFounded z m v a
  leaf_writer_founded z k value p a (Some l) is = subst (IsFounded z m v) (if_some (nat_lt p.place 10) (WriteLeaf l p.place (leaf_word k value p.place)) a is) tt
  leaf_writer_founded z k value p a None is = absurd (cc)

  pub supply_founded : (z : Sizes) (demand : Demand) (k : List ℕ) (value : ℕ) (stock : Stock) (b : View) (a : Action) → u.steps ≤ b.steps → (s : Reserve) → reserve.StageFits z demand k value s stock b v
      → reserve.asks k value stock s ≡ Some a → IsFounded z m v a
  supply_founded z demand k value stock b a late (supplies.Leaf t) fits is =
      let q = fits.2.sought in
      let later = q.base.later in
      taking_founded z q.early t Leaves a q.pool_is (omega (arith, late, later)) (no_leaf stock q.early.hand q.base.has.only fits.1) q.seeks is
  supply_founded z demand k value stock b a late (supplies.LeafWriter p) fits is = leaf_writer_founded z k value p a stock.leaf is
  supply_founded z demand k value stock b a late (supplies.Node t) fits is =
      let s = fits.1 in
      let q = s.seeking.sought in
      let later = q.base.later in
      taking_founded z q.early t (pool_of_layout s.layout) a q.pool_is (omega (arith, late, later)) (no_node stock q.early.hand s.layout q.base.has.only s.none) q.seeks is
  supply_founded z demand k value stock b a late (supplies.Ended r) fits is = absurd (cc)
