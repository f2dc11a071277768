-- The words of a plan are others than those that were read, and each of its places is put once.
use Rattle.std.proofs.Common.{◌≡◌, ◌≢◌, ◌⊎◌, ℕ, zero, suc, ◌+◌, ◌-◌, ◌<◌, ◌≤◌, List, [], ◌∷◌, ◌++◌, eqb, cond, true, false, Bool, Option, Some, None, refl, sym, ap, ◌∙◌, subst, inl, inr, ⊎_elim, arith, eq-eqb}
use Rattle.std.specs.Borrow.{Bor}
use Rattle.std.specs.List.{cons_option, filter_map, range_with_len, slice_get}
use Rattle.art_cell.specs.Children.{child_word}
use Rattle.art_cell.specs.Reads.{change_at, changes, word_of, word_read, written}
use Rattle.art_cell.specs.Words.{Words, size}
use Rattle.art_cell.specs.declared.cells.Body.{Body}
use Rattle.art_cell.specs.declared.cells.Cell.{Cell}
use Rattle.art_cell.specs.declared.cells.Cell.TheVariants as cell
use Rattle.art_cell.specs.declared.cells.Link.{Link}
use Rattle.art_cell.specs.declared.cells.Node.{Node}
use Rattle.art_cell.specs.declared.cells.Layout.{Layout}
use Rattle.art_cell.specs.declared.cells.Write.{Write}
use Rattle.art_find.specs.Rereadings.{AreKnown}
use Rattle.art_plan.proofs.PutWords.{put_is}
use Rattle.std.specs.Prelude.{unwrap_or}
use Rattle.art_plan.specs.Changes.{target_at}
use Rattle.art_plan.specs.ChooseInsert.Bodies.{HasWords, IsFilled, site_by, site_in}
use Rattle.art_plan.specs.NewWords.{EachOnce, PutsChanges, PutsChild, PutsNone, PutsPrefix, TakesAnother}
use Rattle.art_plan.specs.Puts.{IsDropPlan, IsSitePlan, put_of, puts_of}
use Rattle.art_plan.specs.declared.changes.Change.{Change}
use Rattle.art_plan.specs.declared.changes.Put.{Put}
use Rattle.art_plan.specs.declared.changes.Target.{Target}
use Rattle.art_plan.specs.declared.changes.Site.{Site}
use Rattle.art_plan.specs.declared.changes.Site.TheVariants.{Root, Slot}
use Rattle.art_step.proofs.SetsView.{member_append}
use Rattle.art_step.specs.Views.{Member, size_of}
use Rattle.art_step.specs.WordPlaces.{HasVersion}
use Rattle.art_step.specs.declared.views.Sizes.{Sizes}
use Rattle.art_step.specs.declared.views.Stamp.{Stamp}

-- ---- the words that differ

-- what a change at a place gives is another word
change_differs : (w after : Words) (place : ℕ) (others : List Write) (x : Write) → Member x (cons_option (change_at w after place) others)
    → ((x.place ≡ place) × (x.value ≢ w place)) ⊎ Member x others
change_differs w after place others x = by_change (eqb (w place) (after place)) refl
  where
    by_change : (same : Bool) → eqb (w place) (after place) ≡ same
        → Member x (cons_option (cond same None (Some (record { place = place; value = after place }))) others)
        → ((x.place ≡ place) × (x.value ≢ w place)) ⊎ Member x others
    by_change true is m = inr m
    by_change false is m = ⊎_elim
        (λ (e : x ≡ record { place = place; value = after place }). inl (
          ap (λ (y : Write). y.place) e,
          λ had. let no : true ≡ false = sym (eq-eqb (w place) (after place) (sym had ∙ ap (λ (y : Write). y.value) e)) ∙ is in absurd (cc),
        ))
        (λ (j : Member x others). inr j)
        m

differs_in : (w after : Words) (from n : ℕ) (x : Write) → Member x (filter_map (change_at w after) (range_with_len from n))
    → (from ≤ x.place) × (x.place < from + n) × (x.value ≢ w x.place)
differs_in w after from zero x m = absurd m
differs_in w after from (suc n) x m = ⊎_elim
    (λ (e : (x.place ≡ from) × (x.value ≢ w from)). (omega (arith, e.0), omega (arith, e.0), λ had. e.1 (had ∙ ap w e.0)))
    (λ (j : Member x (filter_map (change_at w after) (range_with_len (from + 1) n))).
    let rest = differs_in w after (from + 1) n x j in
    (omega (arith, rest.0), omega (arith, rest.1), rest.2))
    (change_differs w after from (filter_map (change_at w after) (range_with_len (from + 1) n)) x m)

-- each place comes once
once_in : (i : ℕ) (w after : Words) (from n : ℕ) → EachOnce (puts_of i (filter_map (change_at w after) (range_with_len from n)))
once_in i w after from zero = tt
once_in i w after from (suc n) = by_change (once_in i w after (from + 1) n) (eqb (w from) (after from))
  where
    others : List Write
    others = filter_map (change_at w after) (range_with_len (from + 1) n)

    later : (q : Put) → Member q (puts_of i others) → q.place ≢ from
    later q m e =
        let x = put_is i others q m in
        let low = (differs_in w after (from + 1) n x.0 x.1).0 in
        omega (arith, low, e, ap (λ (p : Put). p.place) x.2)

    by_change : EachOnce (puts_of i others) → (same : Bool)
        → EachOnce (puts_of i (cons_option (cond same None (Some (record { place = from; value = after from }))) others))
    by_change rest true = rest
    by_change rest false = ((λ q m same. later q m), rest)

pub changes_once : (i : ℕ) (k : Layout) (w after : Words) (writes : List Write) → writes ≡ changes k w after → EachOnce (puts_of i writes)
changes_once i k w after writes exact = subst (λ (xs : List Write). EachOnce (puts_of i xs)) (sym exact) (once_in i w after 1 (size k - 1))

-- the words of one target and those of another
once_append : (ps qs : List Put) → EachOnce ps → EachOnce qs → ((p q : Put) → Member p ps → Member q qs → q.target ≢ p.target)
    → EachOnce (ps ++ qs)
once_append [] qs one other apart = other
once_append (p ∷ ps) qs one other apart = (
  (λ q m same. ⊎_elim
      (λ (j : Member q ps). one.0 q j same)
      (λ (j : Member q qs). absurd (apart p q (inl refl) j same))
      (member_append q ps qs m)),
  once_append ps qs one.1 other (λ o q j m. apart o q (inr j) m),
)

-- ---- a node whose words were read

module _ (reads : List (Option ℕ)) (n : Node) (body : Body) (has : HasWords n reads body) (known : AreKnown reads 1 (size n.layout)) where
  pub node_takes : (after : Words) (writes : List Write) → writes ≡ changes body.layout (word_of body) after → (i : ℕ) (p : Put)
      → Member p (puts_of i writes) → TakesAnother reads p
  node_takes after writes exact i p m =
      let x = put_is i writes p m in
      let differs = differs_in (word_of body) after 1 (size body.layout - 1) x.0 (subst (Member x.0) exact x.1) in
      let high : x.0.place < size body.layout = omega (arith, differs.0, differs.1) in
      let inside = subst (λ (k : Layout). x.0.place < size k) has.layout high in
      let one = known x.0.place differs.0 inside in
      let is : word_of body x.0.place ≡ one.0 = has.words x.0.place inside ∙ ap (λ (o : Option ℕ). unwrap_or o 0) one.1 in
      subst (TakesAnother reads) (sym x.2) (one.0, one.1, λ same. differs.2 (sym same ∙ sym is))

-- ---- a site

-- the writes are the words that differ in the node, or this word of the anchor
abbrev AreExact : Site → ℕ → List Write → Type 0
AreExact (Root x) word writes = writes ≡ record { place = 1; value = word } ∷ []
AreExact (Slot x body byte) word writes = writes ≡ changes body.now.layout (word_of body.now) (written (word_of body.now) writes)

child_exact : (site : Site) (word : ℕ) (writes : List Write) → IsSitePlan site word writes → AreExact site word writes
child_exact (Root x) word writes plan = plan
child_exact (Slot x body byte) word writes plan = plan.exact

none_exact : (site : Site) (writes : List Write) → IsDropPlan site writes → AreExact site 0 writes
none_exact (Root x) writes plan = plan
none_exact (Slot x body byte) writes plan = plan.exact

site_once : (site : Site) (word : ℕ) (writes : List Write) → AreExact site word writes → (i : ℕ) → EachOnce (puts_of i writes)
site_once (Root x) word writes exact i = subst (λ (xs : List Write). EachOnce (puts_of i xs)) (sym exact) ((λ q m same. absurd m), tt)
site_once (Slot x body byte) word writes exact i =
    changes_once i body.now.layout (word_of body.now) (written (word_of body.now) writes) writes exact

-- in the anchor another word was read
abbrev pub IsOtherRoot : Stamp → List (Option ℕ) → ℕ → Type 0
IsOtherRoot x reads word = x.cell ≡ cell.Anchor → (had : ℕ) → word_read reads 1 ≡ Some had → had ≢ word

-- the site is of the stamp's cell, and has the words that were read of it
abbrev pub IsSiteOf : Stamp → List (Option ℕ) → Site → Type 0
IsSiteOf x reads (Root y) = x.cell ≡ cell.Anchor
IsSiteOf x reads (Slot y body byte) = (n : Node) × (x.cell ≡ cell.Node n) × HasWords n reads body.now

pub site_of : (z : Sizes) (x : Stamp) (reads : List (Option ℕ)) → HasVersion z x.cell → (body : Bor Body) (byte : ℕ)
    → IsFilled x.cell reads body.now → (site : Site) → site ≡ site_in x body byte → IsSiteOf x reads site
site_of z x reads inside body byte filled site named = subst (IsSiteOf x reads) (sym named) (by_cell x.cell refl)
  where
    by_cell : (c : Cell) → x.cell ≡ c → IsSiteOf x reads (site_by c x body byte)
    by_cell cell.Anchor at = at
    by_cell (cell.Leaf l) at = absurd (subst (HasVersion z) at inside)
    by_cell (cell.Node n) at = (n, at, filled n at)

module _ (x : Stamp) (reads : List (Option ℕ)) (known : AreKnown reads 1 (size_of x.cell)) where
  known_of : (c : Cell) → x.cell ≡ c → AreKnown reads 1 (size_of c)
  known_of c at = subst (λ (o : Cell). AreKnown reads 1 (size_of o)) at known

  site_takes : (word : ℕ) → IsOtherRoot x reads word → (site : Site) → IsSiteOf x reads site → (writes : List Write)
      → AreExact site word writes → (i : ℕ) (p : Put) → Member p (puts_of i writes) → TakesAnother reads p
  site_takes word other (Root y) at writes exact i p m =
      let q = put_is i writes p m in
      let one : q.0 ≡ record { place = 1; value = word } = ⊎_elim (λ e. e) (λ j. absurd j) (subst (Member q.0) exact q.1) in
      let had = known_of cell.Anchor at 1 (omega arith) (omega arith) in
      subst (TakesAnother reads) (sym (q.2 ∙ ap (put_of i) one)) (had.0, had.1, other at had.0 had.1)
  site_takes word other (Slot y body byte) of writes exact i p m =
      node_takes reads of.0 body.now of.2 (known_of (cell.Node of.0) of.1) (written (word_of body.now) writes) writes exact i p m

-- ---- a change

-- the puts are of the target with this index, which was read so, and take the place of other words
abbrev pub TakeAnother : List (Option ℕ) → ℕ → List Put → Type 0
TakeAnother reads i ps = (p : Put) → Member p ps → (p.target ≡ i) × TakesAnother reads p

pub of_target : (reads : List (Option ℕ)) (i : ℕ) (writes : List Write) → ((p : Put) → Member p (puts_of i writes) → TakesAnother reads p)
    → TakeAnother reads i (puts_of i writes)
of_target reads i writes takes p m = (ap (λ (q : Put). q.target) (put_is i writes p m).2, takes p m)

module _ (read : Stamp → List (Option ℕ) → Type 0) (c : Change) (x : Target) (reads : List (Option ℕ)) (i : ℕ)
    (there : target_at c i ≡ Some x) (was : read x.stamp reads) where
  -- so is one of them
  put_takes : (p : Put) → (p.target ≡ i) × TakesAnother reads p
      → (y : Target) × (rs : List (Option ℕ)) × (target_at c p.target ≡ Some y) × read y.stamp rs × TakesAnother rs p
  put_takes p takes = (x, reads, ap (target_at c) takes.0 ∙ there, was, takes.1)

  -- of one target
  pub one_puts : (ps : List Put) → TakeAnother reads i ps → EachOnce ps → c.puts.items ≡ ps → PutsChanges read c
  one_puts ps takes once are = record {
    another = λ p m. put_takes p (takes p (subst (Member p) are m));
    once = subst EachOnce (sym are) once;
  }

-- of two
pub two_puts : (read : Stamp → List (Option ℕ) → Type 0) (c : Change) (x y : Target) (xs ys : List (Option ℕ)) (i j : ℕ) → j ≢ i
    → target_at c i ≡ Some x → read x.stamp xs → target_at c j ≡ Some y → read y.stamp ys
    → (ps qs : List Put) → TakeAnother xs i ps → EachOnce ps → TakeAnother ys j qs → EachOnce qs → c.puts.items ≡ ps ++ qs
    → PutsChanges read c
two_puts read c x y xs ys i j other x-there x-was y-there y-was ps qs p-takes p-once q-takes q-once are = record {
  another = λ p m. ⊎_elim
      (λ (k : Member p ps). put_takes read c x xs i x-there x-was p (p-takes p k))
      (λ (k : Member p qs). put_takes read c y ys j y-there y-was p (q-takes p k))
      (member_append p ps qs (subst (Member p) are m));
  once = subst EachOnce (sym are)
      (once_append ps qs p-once q-once (λ p q k m same. other (sym (q-takes q m).0 ∙ same ∙ (p-takes p k).0)));
}

-- ---- by what a case puts

module _ (read : Stamp → List (Option ℕ) → Type 0) (c : Change) (t : Target) (below : List Target) (locks : c.targets.items ≡ t ∷ below)
    (x : Stamp) (reads : List (Option ℕ)) (was : read t.stamp reads)
    (known : AreKnown reads 1 (size_of x.cell)) (site : Site) (of : IsSiteOf x reads site) where
  -- the site's cell is the first target
  first : target_at c 0 ≡ Some t
  first = ap (λ (ts : List Target). slice_get ts 0) locks

  module _ (word : ℕ) (other : IsOtherRoot x reads word) (writes : List Write) (exact : AreExact site word writes) where
    takes : TakeAnother reads 0 (puts_of 0 writes)
    takes = of_target reads 0 writes (site_takes x reads known word other site of writes exact 0)

    once : EachOnce (puts_of 0 writes)
    once = site_once site word writes exact 0

  -- the site gets a child
  pub child_puts : (d : Link) → IsOtherRoot x reads (child_word d) → PutsChild site d c.puts.items → PutsChanges read c
  child_puts d other puts =
      let exact = child_exact site (child_word d) puts.0 puts.1 in
      one_puts read c t reads 0 first was (puts_of 0 puts.0) (takes (child_word d) other puts.0 exact)
      (once (child_word d) other puts.0 exact) puts.2

  -- it loses its child
  pub none_puts : IsOtherRoot x reads 0 → PutsNone site c.puts.items → PutsChanges read c
  none_puts other puts =
      let exact = none_exact site puts.0 puts.1 in
      one_puts read c t reads 0 first was (puts_of 0 puts.0) (takes 0 other puts.0 exact) (once 0 other puts.0 exact) puts.2

  -- it gets a child, and a node another prefix
  module _ (n : Node) (lower : Body) (lower_reads : List (Option ℕ)) (has : HasWords n lower_reads lower)
      (all : AreKnown lower_reads 1 (size n.layout)) (y : Target) (y-was : read y.stamp lower_reads) where
    pub prefix_puts : (i : ℕ) → 0 < i → target_at c i ≡ Some y → (d : Link) → IsOtherRoot x reads (child_word d) → (prefix : List ℕ)
        → PutsPrefix site d i lower prefix c.puts.items → PutsChanges read c
    prefix_puts i low y-there d other prefix puts =
        let exact = child_exact site (child_word d) puts.0 puts.2 in
        let w = word_of lower in
        two_puts read c t y reads lower_reads 0 i (λ e. omega (arith, e, low)) first was y-there y-was (puts_of 0 puts.0) (puts_of i puts.1)
        (takes (child_word d) other puts.0 exact) (once (child_word d) other puts.0 exact)
        (of_target lower_reads i puts.1 (node_takes lower_reads n lower has all (written w puts.1) puts.1 puts.3.exact i))
        (changes_once i lower.layout w (written w puts.1) puts.1 puts.3.exact) puts.4
