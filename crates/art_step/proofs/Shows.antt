-- What is shown under a stamp, from step to step, and what the words of a linked cell say.
use Rattle.std.proofs.Common.{◌≡◌, ℕ, ◌+◌, ◌%◌, ◌<◌, ◌≤◌, Bool, true, false, cond, eqb, List, [], ◌∷◌, ◌++◌, length, Option, Some, None, inl, inr, refl, sym, ap, ap₂, ◌∙◌, subst, arith}
use Rattle.std.specs.FinMap.{get}
use Rattle.std.specs.Option.{option_and_then}
use Rattle.std.proofs.lemmas.Bool.{eq-eqb}
use Rattle.art_cell.specs.declared.cells.Node.{Node}
use Rattle.art_cell.specs.declared.cells.Cell.{Cell}
use Rattle.art_cell.specs.declared.cells.Cell.TheVariants as cell
use Rattle.art_cell.specs.declared.cells.Link.{Link}
use Rattle.art_cell.specs.declared.cells.Link.TheVariants.{Leaf as leaf, Node as node}
use Rattle.art_model.specs.declared.commands.Answer.TheVariants.{Present, Absent, Found}
use Rattle.art_step.specs.Deeds.{key_of}
use Rattle.art_step.specs.declared.deeds.Act.TheVariants.{Insert, Remove, Get}
use Rattle.art_step.specs.declared.views.Event.{Event}
use Rattle.art_step.specs.declared.views.Fact.{Fact}
use Rattle.art_step.specs.declared.views.Fact.TheVariants.{Starts}
use Rattle.art_step.specs.declared.views.Holding.{Holding}
use Rattle.art_step.specs.declared.views.Note.{Note}
use Rattle.art_step.specs.declared.views.Sizes.{Sizes}
use Rattle.art_step.specs.declared.views.Stamp.{Stamp}
use Rattle.art_step.specs.declared.views.View.{View}
use Rattle.art_step.specs.declared.deeds.Deed.{Deed}
use Rattle.art_step.specs.declared.deeds.Deed.TheVariants.{Done}
use Rattle.art_cell.specs.Children.{link_of}
use Rattle.art_tree.specs.Heaps.{Cells, heap_of}
use Rattle.art_step.specs.Histories.{by_value, event, places}
use Rattle.art_step.specs.Knowledge.{IsLeafCell, IsShape, CellAt, Holds, HoldsAll, DecidesAnswer, KnowsPath, KnowsLeaf}
use Rattle.art_cell.specs.Leaves.{leaf_key}
use Rattle.art_tree.specs.Rows.{IsAbsent}
use Rattle.art_step.specs.Events.{MakesEvent}
use Rattle.art_step.specs.Steps.Check as check
use Rattle.art_step.specs.Shows.{Rest, rest_of, OnlyReads, OnlyTells, HasStamp, Shows, HasChild, HasValue}
use Rattle.art_step.specs.Steps.Commit.{Knows}
use Rattle.art_step.specs.Steps.Begin as begin
use Rattle.art_step.specs.Steps.Begin.{first_notes, stamp_of}
use Rattle.art_step.specs.Views.{found_version, note_of}
use Rattle.art_step.specs.Steps.Read as read
use Rattle.art_tree.specs.Tree.{StandsAt, top, down, path_past, Row}
use Rattle.art_step.specs.Views.{Member, IsClear, IsNumber}
use Rattle.art_cell.specs.Words.{prefix_of, child_of}
use Rattle.art_step.specs.WordPlaces.{HasVersion}
use Rattle.art_tree.proofs.Lookup.{absent_empty}
use Rattle.art_tree.proofs.Meanings.{words_mean}
use Rattle.art_step.proofs.SetsView.{member_front, member_back}

-- ---- what is shown

-- more notes show it too
pub shows_more : (z : Sizes) (v w : View) (x : Stamp) (so : Cells → Type 0) → ((y : Note) → Member y v.notes → Member y w.notes) → Shows z v x so → Shows z w x so
shows_more z v w x so more shows s shape holds = shows s shape (λ y i e. holds y (more y i) e)

-- and so do the same notes
pub shows_same : (z : Sizes) (v w : View) (x : Stamp) (so : Cells → Type 0) → w.notes ≡ v.notes → Shows z v x so → Shows z w x so
shows_same z v w x so same = shows_more z v w x so (λ y i. subst (Member y) (sym same) i)

-- what follows from what is shown is shown
pub shows_then : (z : Sizes) (v : View) (x : Stamp) (so then : Cells → Type 0) → ((s : Cells) → IsShape z s → so s → then s) → Shows z v x so → Shows z v x then
shows_then z v x so then go shows s shape holds = go s shape (shows s shape holds)

-- what is shown of a cell that is held goes on until the commit
pub shows_held : (z : Sizes) (v : View) (x : Stamp) (so : Cells → Type 0) (s : Cells) (h : Holding) → IsShape z s → Knows v s → Member h v.held → h.cell ≡ x.cell → h.stamped ≡ Some x.version → Shows z v x so → so s
shows_held z v x so s h shape knows held is stamped shows = shows s shape (λ y i e.
    subst (λ (c : Cell). Holds s c y.fact) is
    (knows.kept h y held i (ap (λ (a : Stamp). a.cell) e ∙ sym is) (stamped ∙ ap (λ (a : Stamp). Some a.version) (sym e))))

-- ---- a word is read

pub read_rest : (v w : View) (x : Stamp) (y : Fact) → w ≡ read.view_after v x y → OnlyReads v w
read_rest v w x y is = ap rest_of is

pub read_stamp : (z : Sizes) (v w : View) (x : Stamp) (y : Fact) (a : Stamp) → w ≡ read.view_after v x y → HasStamp z v a → HasStamp z w a
read_stamp z v w x y a is has = record { stamp = subst (λ (t : View). Member a t.stamps) (sym is) has.stamp; inside = has.inside }

-- what was shown, and the word
pub read_shows : (z : Sizes) (v w : View) (x : Stamp) (y : Fact) (so : Cells → Type 0) → w ≡ read.view_after v x y → Shows z v x so → Shows z w x (λ s. so s × Holds s x.cell y)
read_shows z v w x y so is shows s shape holds =
    let all : HoldsAll (read.view_after v x y) x s = subst (λ (t : View). HoldsAll t x s) is holds in
    (shows s shape (λ n i e. all n (inr i) e), all (note_of x y) (inl refl) refl)

-- under another stamp the same
pub read_others : (z : Sizes) (v w : View) (x a : Stamp) (y : Fact) (so : Cells → Type 0) → w ≡ read.view_after v x y → Shows z v a so → Shows z w a so
read_others z v w x a y so is = shows_more z v w a so (λ n i. subst (λ (t : View). Member n t.notes) (sym is) (inr i))

-- ---- the version word of a cell is found

pub begun_clear : (z : Sizes) (v : View) (c : Cell) (x : ℕ) → IsClear x → begin.view_after z v c x ≡ record v { steps = v.steps + 1; stamps = stamp_of z c x ∷ v.stamps; notes = first_notes z c x ++ v.notes; found = found_version v c x }
begun_clear z v c x clear = rw (eq-eqb (x % 4) 0 clear) refl

either_way : (b : Bool) (v w : View) (a : Rest) → rest_of v ≡ a → rest_of w ≡ a → rest_of (cond b v w) ≡ a
either_way true v w a e f = e
either_way false v w a e f = f

pub begun_rest : (z : Sizes) (v w : View) (c : Cell) (x : ℕ) → w ≡ begin.view_after z v c x → OnlyReads v w
begun_rest z v w c x is = ap rest_of is ∙ either_way (eqb (x % 4) 0) _ _ (rest_of v) refl refl

-- a clear one gives a stamp
pub begun_stamp : (z : Sizes) (v w : View) (c : Cell) (x : Stamp) → x ≡ stamp_of z c x.version → IsClear x.version → w ≡ begin.view_after z v c x.version → HasVersion z c → HasStamp z w x
begun_stamp z v w c x at clear is inside = record {
  stamp = subst (λ (t : View). Member x t.stamps) (sym (is ∙ begun_clear z v c x.version clear)) (inl at);
  inside = subst (λ (y : Stamp). HasVersion z y.cell) (sym at) inside;
}

-- and leaves the others, with what they show
pub begun_others : (z : Sizes) (v w : View) (c : Cell) (x : ℕ) (a : Stamp) → IsClear x → w ≡ begin.view_after z v c x → HasStamp z v a → HasStamp z w a
begun_others z v w c x a clear is has = record {
  stamp = subst (λ (t : View). Member a t.stamps) (sym (is ∙ begun_clear z v c x clear)) (inr has.stamp);
  inside = has.inside;
}

pub begun_shows : (z : Sizes) (v w : View) (c : Cell) (x : ℕ) (a : Stamp) (so : Cells → Type 0) → IsClear x → w ≡ begin.view_after z v c x → Shows z v a so → Shows z w a so
begun_shows z v w c x a so clear is = shows_more z v w a so (λ y i. subst (λ (t : View). Member y t.notes) (sym (is ∙ begun_clear z v c x clear)) (member_back y (first_notes z c x) v.notes i))

-- ---- a version word is unchanged

pub passed_rest : (z : Sizes) (v w : View) (x : Stamp) → check.Unchanged z v w x None → OnlyReads v w
passed_rest z v w x p = ap rest_of p.is ∙ ap₂ (λ (a : List Event) (b : List ℕ). rest_of (record v { seen = a; own = b })) p.told.0 p.told.1

pub passed_stamp : (z : Sizes) (v w : View) (x a : Stamp) (o : Option Deed) → check.Unchanged z v w x o → HasStamp z v a → HasStamp z w a
passed_stamp z v w x a o p has = record { stamp = subst (λ (t : View). Member a t.stamps) (sym p.is) has.stamp; inside = has.inside }

pub passed_shows : (z : Sizes) (v w : View) (x a : Stamp) (o : Option Deed) (so : Cells → Type 0) → check.Unchanged z v w x o → Shows z v a so → Shows z w a so
passed_shows z v w x a o so p = shows_more z v w a so (λ y i. subst (λ (t : View). Member y t.notes) (sym p.is) (member_back y p.paths v.notes i))

-- what is shown under the stamp is so in some shape
pub passed_so : (z : Sizes) (v w : View) (x : Stamp) (o : Option Deed) (so : Cells → Type 0) → check.Unchanged z v w x o → Shows z v x so → (s : Cells) × IsShape z s × so s
passed_so z v w x o so p shows = let s = p.vouched.0 in (s, p.vouched.1, shows s p.vouched.1 p.vouched.2)

-- there is such a cell as the child of the stamp's
pub passed_number : (z : Sizes) (v w : View) (x : Stamp) (o : Option Deed) (d : Link) (q : List ℕ) → check.Unchanged z v w x o → Shows z v x (λ s. HasChild s x.cell d q) → IsNumber z d
passed_number z v w x o d q p shows = let so = passed_so z v w x o _ p shows in so.1.numbers d q so.2.at

-- and where that is stamped too, its stamp shows its path
pub passed_path : (z : Sizes) (v w : View) (x y : Stamp) (o : Option Deed) (n : Node) (q : List ℕ) → check.Unchanged z v w x o → Member y v.stamps → y.cell ≡ cell.Node n → Shows z v x (λ s. HasChild s x.cell (node n) q) → Shows z w y (λ s. StandsAt (heap_of s) (node n) q)
passed_path z v w x y o n q p stamped is shows s shape holds =
    let led = p.led y q stamped (λ t shape' holds'. subst (λ (c : Cell). CellAt t c q) (sym is) ((shows t shape' holds').at)) in
    let noted : Member (note_of y (Starts q)) w.notes = subst (λ (t : View). Member (note_of y (Starts q)) t.notes) (sym p.is) (member_front (note_of y (Starts q)) p.paths v.notes led) in
    subst (λ (c : Cell). CellAt s c q) is (holds (note_of y (Starts q)) noted refl)

-- an event is made: of a pass that did nothing but read since it had the view u, it is the only one
pub told_rest : (z : Sizes) (u v w : View) (x : Stamp) (what : Deed) → OnlyReads u v → check.Unchanged z v w x (Some what) → MakesEvent u w what × OnlyTells u w
told_rest z u v w x what reads p =
    let m = p.told in
    let pass : v.pass ≡ u.pass = ap (λ (r : Rest). r.pass) reads in
    let seen : v.seen ≡ u.seen = ap (λ (r : Rest). r.seen) reads in
    let own : v.own ≡ u.own = ap (λ (r : Rest). r.own) reads in (
      record {
        between = m.between;
        seen = m.seen ∙ ap₂ (λ (l : List Event) (i : ℕ). (l ++ m.between) ++ event i what ∷ []) seen pass;
        own = m.own ∙ ap₂ (λ (l : List ℕ) (k : List Event). l ++ length (k ++ m.between) ∷ []) own seen;
        legal = m.legal;
        all = subst (λ (i : ℕ). places i w.seen ≡ w.own) pass m.all;
      },
      ap (λ (t : View). rest_of (record t { seen = u.seen; own = u.own })) p.is ∙ ap (λ (r : Rest). record r { seen = u.seen; own = u.own }) reads,
    )

-- ---- a changed word

pub failed_rest : (v w : View) (x : Stamp) (word : ℕ) → check.IsChanged v w x word → OnlyReads v w
failed_rest v w x word f = ap rest_of f.is

-- another stamp stays, with what it shows
pub failed_stamp : (z : Sizes) (v w : View) (x a : Stamp) (word : ℕ) → check.IsChanged v w x word → (a ≡ x → ⊥) → HasStamp z v a → HasStamp z w a
failed_stamp z v w x a word f other has = record { stamp = subst (λ (t : View). Member a t.stamps) (sym f.is) ((f.without.stamps a).1 (has.stamp, other)); inside = has.inside }

pub failed_shows : (z : Sizes) (v w : View) (x a : Stamp) (word : ℕ) (so : Cells → Type 0) → check.IsChanged v w x word → (a ≡ x → ⊥) → Shows z v a so → Shows z w a so
failed_shows z v w x a word so f other shows s shape holds = shows s shape (λ y i e.
    holds y (subst (λ (t : View). Member y t.notes) (sym f.is) ((f.without.notes y).1 (i, λ same. other (sym e ∙ same)))) e)

-- ---- what steps ask for

-- a shown child may be read, where it is a leaf
pub child_names : (z : Sizes) (v : View) (x : Stamp) (l : ℕ) (q : List ℕ) → Shows z v x (λ s. HasChild s x.cell (leaf l) q) → KnowsLeaf z v x l
child_names z v x l q shows s shape holds = let child = shows s shape holds in record { path = child.path; there = child.there; byte = child.byte; names = child.names }

-- and its path is shown, where it is a node
pub child_leads : (z : Sizes) (v : View) (x : Stamp) (n : Node) (q : List ℕ) → Shows z v x (λ s. HasChild s x.cell (node n) q) → KnowsPath z v x (cell.Node n) q
child_leads z v x n q shows s shape holds = (shows s shape holds).at

-- a shown value settles a get, an insert of a key that stands, and a removal of one that does not
pub get_settles : (z : Sizes) (v : View) (x : Stamp) (k : List ℕ) (o : Option ℕ) → Shows z v x (λ s. HasValue s k o) → DecidesAnswer z v x (Done (Get (key_of k)) (by_value o Found Absent))
get_settles z v x k o shows s m shape rows holds = (ap (λ (a : Option ℕ). by_value a Found Absent) (sym (shows s shape holds m rows)), refl)

pub insert_settles : (z : Sizes) (v : View) (x : Stamp) (k : List ℕ) (value stands : ℕ) → Shows z v x (λ s. HasValue s k (Some stands)) → DecidesAnswer z v x (Done (Insert (key_of k) value) (Present stands))
insert_settles z v x k value stands shows s m shape rows holds = let is = shows s shape holds m rows in (rw is refl, rw is refl)

pub remove_settles : (z : Sizes) (v : View) (x : Stamp) (k : List ℕ) → Shows z v x (λ s. HasValue s k None) → DecidesAnswer z v x (Done (Remove (key_of k)) Absent)
remove_settles z v x k shows s m shape rows holds = let is = shows s shape holds m rows in (rw is refl, rw is refl)

-- ---- what the words of a linked cell say

none_or : (o : Option ℕ) → ((v : ℕ) → o ≡ Some v → ⊥) → o ≡ None
none_or None h = refl
none_or (Some v) h = absurd (h v refl)

-- an absent key has no value, and that of a row has the row's
pub absent_value : (s : Cells) (k : List ℕ) → IsAbsent (heap_of s) k → HasValue s k None
absent_value s k absent m rows = none_or (get m k) (λ v is. absent v ((rows k v).1 is))

pub row_value : (s : Cells) (k : List ℕ) (v : ℕ) → Row (heap_of s) k v → HasValue s k (Some v)
row_value s k v row m rows = (rows k v).0 row

-- the anchor's word names its child, at the empty path, or there is no row
pub root_child : (s : Cells) (word : ℕ) (d : Link) → s cell.Anchor 1 ≡ word → link_of word ≡ Some d → HasChild s cell.Anchor d []
root_child s word d is names =
    let root : (heap_of s).root ≡ Some d = (words_mean s).root ∙ ap link_of is ∙ names in
    record { path = []; there = refl; byte = 0; names = root; at = top root refl }

pub root_none : (s : Cells) (word : ℕ) (k : List ℕ) → s cell.Anchor 1 ≡ word → link_of word ≡ None → HasValue s k None
root_none s word k is none = absent_value s k (absent_empty (heap_of s) k ((words_mean s).root ∙ ap link_of is ∙ none))

-- a node's prefix, and its child at a byte
pub prefix_on : (z : Sizes) (s : Cells) (n : Node) (p : List ℕ) → IsShape z s → StandsAt (heap_of s) (node n) p → (heap_of s).prefix n ≡ prefix_of (s (cell.Node n))
prefix_on z s n p shape at = (words_mean s).prefix n ((shape.nodes n p at).body.prefix.short)

pub child_on : (s : Cells) (n : Node) (b : ℕ) (o : Option ℕ) → b < 256 → child_of n.layout (s (cell.Node n)) b ≡ o → (heap_of s).child n b ≡ option_and_then link_of o
child_on s n b o low is = (words_mean s).child n b low ∙ ap (option_and_then link_of) is

pub node_child_there : (s : Cells) (n : Node) (p : List ℕ) (b word : ℕ) (d : Link) → StandsAt (heap_of s) (node n) p → b < 256 → child_of n.layout (s (cell.Node n)) b ≡ Some word → link_of word ≡ Some d → HasChild s (cell.Node n) d (path_past (heap_of s) n p b)
node_child_there s n p b word d at low is names =
    let child = child_on s n b (Some word) low is ∙ names in
    record { path = p; there = at; byte = b; names = child; at = down b at child refl }

-- a leaf's key, which has at most 64 bytes, and its value
pub key_on : (z : Sizes) (s : Cells) (l : ℕ) (p : List ℕ) → IsShape z s → StandsAt (heap_of s) (leaf l) p → (s (cell.Leaf l) 1 ≤ 64) × ((heap_of s).key l ≡ leaf_key (s (cell.Leaf l)))
key_on z s l p shape at =
    let is : IsLeafCell (s (cell.Leaf l)) = shape.leaves l p at in
    let short : s (cell.Leaf l) 1 ≤ 64 = omega (arith, is.2.len, is.3) in
    (short, (words_mean s).key l short)

pub value_on : (s : Cells) (l value : ℕ) → s (cell.Leaf l) 0 ≡ value → (heap_of s).value l ≡ value
value_on s l value is = (words_mean s).value l ∙ is
