-- How many children a node has, by what goes with a leaf of it.
use Rattle.std.proofs.Common.{◌≡◌, ◌≢◌, ℕ, ◌+◌, ◌<◌, ◌≤◌, Bool, true, false, cond, ltb, refl, sym, ap, ◌∙◌, subst, arith, inl, inr}
use Rattle.std.proofs.lemmas.Bool.{cases_lt, lt-ltb, ltb-false, ltb-true}
use Rattle.std.specs.Borrow.{Bor}
use Rattle.std.specs.Prelude.{unwrap_or}
use Rattle.art_cell.specs.Reads.{word_of, word_read}
use Rattle.art_cell.specs.Words.{count_of, places}
use Rattle.art_cell.specs.declared.cells.Body.{Body}
use Rattle.art_cell.specs.declared.cells.Cell.{Cell}
use Rattle.art_cell.specs.declared.cells.Cell.TheVariants as cell
use Rattle.art_cell.specs.declared.cells.Node.{Node}
use Rattle.art_cell.specs.declared.cells.Layout.{Layout}
use Rattle.art_cell.specs.declared.cells.Layout.TheVariants.{Node4, Node16, Node48, Node256}
use Rattle.art_plan.proofs.WordsWithin.{past_prefix}
use Rattle.art_plan.specs.ChooseRemove.Losses.{few_of, loss_at, loss_in, loss_of}
use Rattle.art_plan.specs.declared.choose_remove.Loss.TheVariants.{Leaf, Merges, Shrinks}
use Rattle.art_plan.specs.ChooseInsert.Bodies.{IsFilled, site_by, site_in}
use Rattle.art_node.specs.Sizes.{smaller}
use Rattle.art_plan.specs.ArtFind.ReadSets.{node_of}
use Rattle.art_plan.specs.ArtFind.declared.read_sets.ReadSet.{ReadSet}
use Rattle.art_plan.specs.ArtFind.declared.findings.Position.{Position}
use Rattle.art_plan.specs.Puts.{HasChild}
use Rattle.art_plan.specs.Remove.Removals.{IsSparse, KeepsTwo}

-- a node that stays has three children at least
stays_three : (k : Layout) (count : ℕ) → loss_in k count ≢ Merges → 3 ≤ count
stays_three k count other = elim (cases_lt count 3) [
  | inl low ↦ absurd (other (ap (λ (b : Bool). cond b Merges (cond (ltb (few_of k + 1) count) Leaf (Shrinks (smaller k)))) (lt-ltb count 3 low)))
  | inr high ↦ high
]

-- one that goes has two at most
goes_few : (k : Layout) (count : ℕ) → loss_in k count ≡ Merges → count < 3
goes_few k count e = by (ltb count 3) (ltb (few_of k + 1) count) refl e
  where
    by : (low many : Bool) → ltb count 3 ≡ low → cond low Merges (cond many Leaf (Shrinks (smaller k))) ≡ Merges → count < 3
    by true many is-low is = ltb-true count 3 is-low
    by false true is-low is = absurd (cc)
    by false false is-low is = absurd (cc)

-- one that gives way has three at least, and few
record GivesWay (k : Layout) (count : ℕ) (m : Layout) : Type 0 where
  three : 3 ≤ count
  few : count ≤ few_of k + 1
  is : m ≡ smaller k

gives_way : (k : Layout) (count : ℕ) (m : Layout) → loss_in k count ≡ Shrinks m → GivesWay k count m
gives_way k count m e = by (ltb count 3) (ltb (few_of k + 1) count) refl refl e
  where
    by : (low many : Bool) → ltb count 3 ≡ low → ltb (few_of k + 1) count ≡ many → cond low Merges (cond many Leaf (Shrinks (smaller k))) ≡ Shrinks m → GivesWay k count m
    by true many is-low is-many is = absurd (cc)
    by false true is-low is-many is = absurd (cc)
    by false false is-low is-many is = record { three = ltb-false count 3 is-low; few = ltb-false (few_of k + 1) count is-many; is = cc }

-- the smallest does not, and the next smaller layout has places for those that are left
not_smallest : (k : Layout) (count : ℕ) → 3 ≤ count → count ≤ few_of k + 1 → (k ≢ Node4) × (count ≤ places (smaller k) + 1)
not_smallest Node4 count three few = absurd (omega (arith, three, few))
not_smallest Node16 count three few = (λ e. absurd (cc), omega (arith, few))
not_smallest Node48 count three few = (λ e. absurd (cc), omega (arith, few))
not_smallest Node256 count three few = (λ e. absurd (cc), omega (arith, few))

module _ (t : Position) (read_set : ReadSet) where
  -- what the header says of the node's body
  pub loss_on : (n : Node) → t.stamp.cell ≡ cell.Node n → (body : Body) → IsFilled t.stamp.cell (node_of read_set) body → loss_at t read_set ≡ loss_in n.layout (count_of (word_of body))
  loss_on n on body filled =
      ap (λ (header : ℕ). loss_of t.stamp.cell header) (sym ((filled n on).words 1 (omega (arith, past_prefix n.layout))))
      ∙ ap (λ (c : Cell). loss_of c (word_of body 1)) on

  pub keeps_two : (body : Bor Body) (byte : ℕ) → IsFilled t.stamp.cell (node_of read_set) body.now → loss_at t read_set ≢ Merges → KeepsTwo (site_in t.stamp body byte)
  keeps_two body byte filled stays = by_cell t.stamp.cell refl
    where
      by_cell : (c : Cell) → t.stamp.cell ≡ c → KeepsTwo (site_by c t.stamp body byte)
      by_cell cell.Anchor on = tt
      by_cell (cell.Leaf l) on = tt
      by_cell (cell.Node n) on = stays_three n.layout (count_of (word_of body.now)) (λ e. stays (loss_on n on body.now filled ∙ e))

  module _ (goes : loss_at t read_set ≡ Merges) where
    -- only a node goes
    pub goes_node : (n : Node) × (t.stamp.cell ≡ cell.Node n)
    goes_node = by_cell t.stamp.cell refl
      where
        by_cell : (c : Cell) → t.stamp.cell ≡ c → (n : Node) × (t.stamp.cell ≡ cell.Node n)
        by_cell cell.Anchor at =
            let no : loss_at t read_set ≡ Leaf = ap (λ (c : Cell). loss_of c (unwrap_or (word_read (node_of read_set) 1) 0)) at in
            absurd (cc)
        by_cell (cell.Leaf l) at =
            let no : loss_at t read_set ≡ Leaf = ap (λ (c : Cell). loss_of c (unwrap_or (word_read (node_of read_set) 1) 0)) at in
            absurd (cc)
        by_cell (cell.Node n) at = (n, at)

    pub goes_two : (n : Node) → t.stamp.cell ≡ cell.Node n → (body : Body) → IsFilled t.stamp.cell (node_of read_set) body → count_of (word_of body) < 3
    goes_two n on body filled = goes_few n.layout (count_of (word_of body)) (sym (loss_on n on body filled) ∙ goes)

  module _ (m : Layout) (goes : loss_at t read_set ≡ Shrinks m) where
    module _ (n : Node) (on : t.stamp.cell ≡ cell.Node n) (body : Body) (filled : IsFilled t.stamp.cell (node_of read_set) body) where
      gives : GivesWay n.layout (count_of (word_of body)) m
      gives = gives_way n.layout (count_of (word_of body)) m (sym (loss_on n on body filled) ∙ goes)

      layout_is : body.layout ≡ n.layout
      layout_is = (filled n on).layout

      pub gives_to : m ≡ smaller body.layout
      gives_to = gives.is ∙ ap smaller (sym layout_is)

      pub gives_sparse : (byte : ℕ) → HasChild body byte → IsSparse body byte
      gives_sparse byte there =
          let small = not_smallest n.layout (count_of (word_of body)) gives.three gives.few in
          record {
            there = there;
            layout = λ e. small.0 (sym layout_is ∙ e);
            two = gives.three;
            few = subst (λ (k : Layout). count_of (word_of body) ≤ places (smaller k) + 1) (sym layout_is) small.1;
          }
