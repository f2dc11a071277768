-- How many children are left when one goes, that two are a node's two children, and that of two there is no third.
use Rattle.std.proofs.Common.{◌≡◌, ◌≢◌, ℕ, zero, suc, ◌+◌, ◌<◌, ◌≤◌, List, length, Option, Some, None, refl, sym, ap, ◌∙◌, inl, inr, arith, eq-eqb, ne_eqb}
use Rattle.std.proofs.lemmas.Bool.{cases_eq}
use Rattle.std.specs.List.{cons_option}
use Rattle.std.specs.Option.{option_map}
use Rattle.art_cell.specs.Bodies.{Becomes, IsBody}
use Rattle.art_cell.specs.Lemmas.Entries.{listed_some, one_less_listed, same_listed, without_elsewhere, without_here}
use Rattle.art_cell.specs.Reads.{without_child}
use Rattle.art_cell.specs.Words.{Words, child_of, count_of, listed}
use Rattle.art_cell.specs.declared.cells.Cell.TheVariants as cell
use Rattle.art_cell.specs.declared.cells.Link.{Link}
use Rattle.art_cell.specs.declared.cells.Node.{Node}
use Rattle.art_cell.specs.declared.cells.Layout.{Layout}
use Rattle.art_cell.specs.declared.node_kinds.Entry.{Entry}
use Rattle.art_step.proofs.Shows.{child_on}
use Rattle.art_step.specs.Knowledge.{IsNodeCell, NamesCell}
use Rattle.art_tree.specs.Heaps.{Cells, heap_of}
use Rattle.art_tree.specs.Tree.{HasTwo}

-- ---- the bytes of one child, and of two

-- a byte has a child
record OneOf (child : ℕ → Option ℕ) (from n : ℕ) : Type 0 where
  byte : ℕ
  word : ℕ
  low : from ≤ byte
  high : byte < from + n
  is : child byte ≡ Some word

-- so have two
record TwoOf (child : ℕ → Option ℕ) (from n : ℕ) : Type 0 where
  one : ℕ
  other : ℕ
  word : ℕ
  another : ℕ
  low : from ≤ one
  less : one < other
  high : other < from + n
  one_is : child one ≡ Some word
  other_is : child other ≡ Some another

-- the entries from a byte on, where it has this child
abbrev with_front : ℕ → Option ℕ → List Entry → List Entry
with_front b o xs = cons_option (option_map (λ c. record { byte = b; child = c }) o) xs

one_of : (child : ℕ → Option ℕ) (from n : ℕ) → 0 < length (listed child from n) → OneOf child from n
one_of child from zero some = absurd (omega (arith, some))
one_of child from (suc n) some = by (λ more. one_of child (from + 1) n more) (child from) refl some
  where
    by : (0 < length (listed child (from + 1) n) → OneOf child (from + 1) n) → (o : Option ℕ) → child from ≡ o → 0 < length (with_front from o (listed child (from + 1) n)) → OneOf child from (suc n)
    by rest None e more =
        let r = rest more in
        record { byte = r.byte; word = r.word; low = omega (arith, r.low); high = omega (arith, r.high); is = r.is }
    by rest (Some w) e more = record { byte = from; word = w; low = omega arith; high = omega arith; is = e }

two_of : (child : ℕ → Option ℕ) (from n : ℕ) → 1 < length (listed child from n) → TwoOf child from n
two_of child from zero some = absurd (omega (arith, some))
two_of child from (suc n) some = by (λ more. two_of child (from + 1) n more) (child from) refl some
  where
    by : (1 < length (listed child (from + 1) n) → TwoOf child (from + 1) n) → (o : Option ℕ) → child from ≡ o → 1 < length (with_front from o (listed child (from + 1) n)) → TwoOf child from (suc n)
    by rest None e more =
        let r = rest more in
        record { one = r.one; other = r.other; word = r.word; another = r.another; low = omega (arith, r.low); less = r.less; high = omega (arith, r.high); one_is = r.one_is; other_is = r.other_is }
    by rest (Some w) e more =
        let r = one_of child (from + 1) n (omega (arith, more)) in
        record { one = from; other = r.byte; word = w; another = r.word; low = omega arith; less = omega (arith, r.low); high = omega (arith, r.high); one_is = e; other_is = r.is }

-- a node whose words have two children at least, each of which names a cell, has two children
two_named : (s : Cells) (m : Node) (child : ℕ → Option ℕ) → ((b : ℕ) → b < 256 → child_of m.layout (s (cell.Node m)) b ≡ child b) → ((b word : ℕ) → b < 256 → child b ≡ Some word → NamesCell word) → 2 ≤ length (listed child 0 256) → HasTwo (heap_of s) m
two_named s m child same names enough =
    let t = two_of child 0 256 (omega (arith, enough)) in
    let less = t.less in
    let high = t.high in
    let low : t.one < 256 = omega (arith, less, high) in
    let high' : t.other < 256 = omega (arith, high) in
    let c = names t.one t.word low t.one_is in
    let d = names t.other t.another high' t.other_is in
    (t.one, t.other, c.0, d.0, t.less, child_on s m t.one (Some t.word) low (same t.one low ∙ t.one_is) ∙ c.1, child_on s m t.other (Some t.another) high' (same t.other high' ∙ t.other_is) ∙ d.1)

-- ---- a child goes

less_listed : (child : ℕ → Option ℕ) (byte word : ℕ) → byte < 256 → child byte ≡ Some word → suc (length (listed (without_child child byte) 0 256)) ≡ length (listed child 0 256)
less_listed child byte word low is = one_less_listed child (without_child child byte) byte word 0 256 (omega arith) low is (without_here child byte) (without_elsewhere child byte 0 256)

-- of three children at least two are left
two_without : (k : Layout) (w : Words) (byte word : ℕ) → IsBody k w → byte < 256 → child_of k w byte ≡ Some word → 3 ≤ count_of w → 2 ≤ length (listed (without_child (child_of k w) byte) 0 256)
two_without k w byte word body low is three =
    let less = less_listed (child_of k w) byte word low is in
    let counted = body.counted in
    omega (arith, less, counted, three)

-- the count of the words without it
pub count_without : (k : Layout) (w after : Words) (byte word : ℕ) → IsBody k w → byte < 256 → child_of k w byte ≡ Some word → Becomes k w after (without_child (child_of k w) byte) → count_of after + 1 ≡ count_of w
count_without k w after byte word body low is becomes =
    let less = less_listed (child_of k w) byte word low is in
    let same = ap length (same_listed (without_child (child_of k w) byte) (child_of k after) 0 256 (λ b from high. becomes.children b (omega (arith, high)))) in
    let counted = body.counted in
    let now = becomes.body.counted in
    omega (arith, less, same, counted, now)

-- so a node of a tree without one of three children, in its own words or in those of another node, has two
pub two_kept : (s s' : Cells) (n m : Node) (byte word : ℕ) → IsNodeCell n (s (cell.Node n)) → byte < 256 → child_of n.layout (s (cell.Node n)) byte ≡ Some word → 3 ≤ count_of (s (cell.Node n))
    → ((b : ℕ) → b < 256 → child_of m.layout (s' (cell.Node m)) b ≡ without_child (child_of n.layout (s (cell.Node n))) byte b) → HasTwo (heap_of s') m
two_kept s s' n m byte word form low is three same =
    two_named s' m (without_child (child_of n.layout (s (cell.Node n))) byte) same names (two_without n.layout (s (cell.Node n)) byte word form.body low is three)
  where
    names : (b word : ℕ) → b < 256 → without_child (child_of n.layout (s (cell.Node n))) byte b ≡ Some word → NamesCell word
    names b word low is = elim (cases_eq b byte) [
      | inl here ↦
          let none : without_child (child_of n.layout (s (cell.Node n))) byte b ≡ None = rw (eq-eqb b byte here) refl in
          absurd (cc)
      | inr other ↦
          let same_child : without_child (child_of n.layout (s (cell.Node n))) byte b ≡ child_of n.layout (s (cell.Node n)) b = rw (ne_eqb b byte other) refl in
          form.children b word low (sym same_child ∙ is)
    ]

-- a byte whose child is a cell has a child word
pub has_word : (s : Cells) (n : Node) (b : ℕ) (d : Link) → b < 256 → (heap_of s).child n b ≡ Some d → (word : ℕ) × (child_of n.layout (s (cell.Node n)) b ≡ Some word)
has_word s n b d low is = by (child_of n.layout (s (cell.Node n)) b) refl
  where
    by : (o : Option ℕ) → child_of n.layout (s (cell.Node n)) b ≡ o → (word : ℕ) × (child_of n.layout (s (cell.Node n)) b ≡ Some word)
    by None e = let none = child_on s n b None low e in absurd (cc)
    by (Some word) e = (word, e)

-- ---- two children are all

some_or : (o : Option ℕ) → ((w : ℕ) → o ≡ Some w → ⊥) → o ≡ None
some_or None none = refl
some_or (Some w) none = absurd (none w refl)

-- beside two children there is no third
pub no_third : (child : ℕ → Option ℕ) (a b c d : ℕ) → a < 256 → b < 256 → a ≢ b → child a ≡ Some c → child b ≡ Some d → length (listed child 0 256) ≡ 2 → (e : ℕ) → e < 256 → e ≢ a → e ≢ b → child e ≡ None
no_third child a b c d a-low b-low apart a-is b-is two e low not_a not_b = some_or (child e) (λ w is.
    let without_a = without_child child a in
    let one = less_listed child a c a-low a-is in
    let none = less_listed without_a b d b-low (without_elsewhere child a 0 256 b (omega arith) (omega (arith, b-low)) (λ f. apart (sym f)) ∙ b-is) in
    let third = listed_some (without_child without_a b) e w 0 256 (omega arith) low (without_elsewhere without_a b 0 256 e (omega arith) (omega (arith, low)) not_b ∙ without_elsewhere child a 0 256 e (omega arith) (omega (arith, low)) not_a ∙ is) in
    omega (arith, one, none, third, two))
