-- From stage to stage: what a descent knows after a step, from what it knew before it.
use Rattle.std.proofs.Common.{◌≡◌, ◌≢◌, ℕ, ◌+◌, ◌*◌, ◌<◌, ◌≤◌, min, List, [], length, get_or, take, Option, Some, None, inl, inr, refl, sym, ap, ◌∙◌, subst, arith}
use Rattle.std.specs.Prelude.{Result, Ok}
use Rattle.std.proofs.lemmas.Bool.{cases_lt}
use Rattle.std.proofs.lemmas.Option.{same_Some}
use Rattle.art_cell.specs.declared.cells.Cell.{Cell}
use Rattle.art_cell.specs.declared.cells.Cell.TheVariants as cell
use Rattle.art_cell.specs.declared.cells.Link.{Link}
use Rattle.art_cell.specs.declared.cells.Link.TheVariants.{Leaf as leaf, Node as node}
use Rattle.art_cell.specs.declared.cells.Node.{Node}
use Rattle.art_cell.specs.Children.{link_of}
use Rattle.art_cell.specs.Words.{Words, packed}
use Rattle.art_step.proofs.AnswerKinds.{finds_word, is_begin, is_check}
use Rattle.art_find.specs.Asking.{WantsCheck, WantsVersion, WantsWord}
use Rattle.art_step.specs.Acting.{Answers, WasChecked, telling}
use Rattle.art_find.specs.Compares.{ComparesWord, HasByte, IsBeside, IsWithin, TellsBeside, at_first}
use Rattle.art_find.specs.declared.descents.Beside.{Beside}
use Rattle.art_find.specs.Descents.{IsAbove, IsChild, IsOn, IsReading, StageFits, WasNamed, WasNoted, answer_at, asks, ended_at, stage_below, staged}
use Rattle.art_step.specs.Events.{MakesEvent}
use Rattle.art_find.specs.Verdicts.{Says, value_of}
use Rattle.art_find.specs.Ways.{HasHeader, IsAtLeaf, IsAtSlot, IsInKey, IsInPrefix, IsPassed, IsPastPrefix, count_in}
use Rattle.art_step.specs.declared.actions.Answer.{Answer}
use Rattle.art_step.specs.declared.actions.Answer.TheVariants.{Begun, Word as word_told, Checked}
use Rattle.art_step.specs.declared.actions.Action.{Action}
use Rattle.art_find.specs.declared.descents.LeafSeen.{LeafSeen}
use Rattle.art_find.specs.declared.descents.NodeSeen.{NodeSeen}
use Rattle.art_find.specs.declared.descents.Stage.{Stage}
use Rattle.art_find.specs.declared.descents.Stage.TheVariants.{Start, Anchor, Child, Below, Both, Header, Prefix, Keys, Slot, Value, Length, Bytes, Decided, Ended}
use Rattle.art_find.specs.declared.descents.Verdict.{Verdict}
use Rattle.art_find.specs.declared.descents.Verdict.TheVariants as verdict
use Rattle.art_find.proofs.Keeping.{anchor_path, path_grows, path_passed, read_grows}
use Rattle.art_find.proofs.Judged.{KeyRead, PrefixRead, judged_above, judged_begins, judged_below, judged_empty, judged_ended, judged_found, judged_leaf_above, judged_leaf_below, judged_leaf_ended}
use Rattle.art_find.proofs.LeafKeys.{leaf_not_torn}
use Rattle.art_find.proofs.NodeWords.{body_of, child_there, names_none, no_child}
use Rattle.art_node.specs.Searches.{SoughtTells}
use Rattle.art_node.specs.declared.searches.Sought.{Sought}
use Rattle.art_node.specs.declared.searches.Sought.TheVariants as sought
use Rattle.art_path.specs.Compared.{AreSame, IsCompared}
use Rattle.art_path.specs.declared.compared.Compared.{Compared}
use Rattle.art_path.specs.declared.compared.Compared.TheVariants.{Same}
use Rattle.art_path.specs.declared.compared.Compared.TheVariants as compares
use Rattle.art_path.proofs.Comparing.{same_none}
use Rattle.art_step.specs.Shows.{HasChild, HasStamp, OnlyReads, OnlyTells, Rest, Shows}
use Rattle.art_step.specs.Steps.Begin as begin
use Rattle.art_step.specs.Steps.Check as check
use Rattle.art_step.specs.Steps.Read as read
use Rattle.art_step.specs.Views.{Member, NamesLink, note_of}
use Rattle.art_step.specs.declared.deeds.Deed.{Deed}
use Rattle.art_step.specs.declared.faults.Changed.{Changed}
use Rattle.art_step.specs.declared.faults.Locked.{Locked}
use Rattle.art_step.specs.declared.views.Fact.TheVariants.{Word, LeafWord}
use Rattle.art_step.specs.declared.views.Note.{Note}
use Rattle.art_step.specs.declared.views.Sizes.{Sizes}
use Rattle.art_step.specs.declared.views.Stamp.{Stamp}
use Rattle.art_step.specs.declared.views.View.{View}
use Rattle.art_step.specs.declared.views.Word.TheVariants.{Version}
use Rattle.art_step.proofs.SetsView.{member_back}
use Rattle.art_step.proofs.Shows.{begun_clear, begun_others, begun_rest, begun_shows, begun_stamp, passed_number, passed_path, passed_rest, passed_shows, passed_stamp, read_rest, read_shows, read_stamp, root_child, shows_then, told_rest}
use Rattle.art_tree.specs.Heaps.{Cells}

-- ---- reading goes on

pub reads_on : (u v w : View) → OnlyReads v w → IsReading u v → IsReading u w
reads_on u v w same reads = record {
  only = same ∙ reads.only;
  free = ap (λ (r : Rest). r.held) same ∙ reads.free;
  pinned = λ zero. reads.pinned (sym (ap (λ (r : Rest). r.pin) same) ∙ zero);
}

-- ---- a cell was checked

-- what was noted stays so
pub still_named : (z : Sizes) (v w : View) (x y : Stamp) (o : Option Deed) (d : Link) → WasNamed x d v → check.Unchanged z v w y o → WasNamed x d w
still_named z v w x y o d named p = record {
  fact = named.fact;
  noted = subst (λ (t : View). Member (note_of x named.fact) t.notes) (sym p.is) (member_back (note_of x named.fact) p.paths v.notes named.noted);
  names = named.names;
}

-- and was noted before the check, where it was noted under the stamp
pub passed_names : (z : Sizes) (v w : View) (x : Stamp) (o : Option Deed) (d : Link) → WasNamed x d v → check.Unchanged z v w x o → WasChecked x d w
passed_names z v w x o d named p = record {
  fact = named.fact;
  noted = subst (λ (t : View). Member (note_of x named.fact) t.checked.notes) (sym p.is) (member_back (note_of x named.fact) p.paths v.notes named.noted);
  names = named.names;
  found = subst (λ (t : View). Member (record { word = Version x.cell x.version; step = t.checked.step }) t.found) (sym p.is) (inl refl);
}

-- or before a version word was found clear
pub begun_names : (z : Sizes) (v w : View) (x y : Stamp) (n : Node) (d : Link) → WasNamed x d v → begin.Outcome z v w (cell.Node n) (Ok y) → WasNamed x d w
begun_names z v w x y n d named row = record {
  fact = named.fact;
  noted = subst (λ (t : View). Member (note_of x named.fact) t.notes) (sym (row.2 ∙ begun_clear z v (cell.Node n) y.version row.1)) named.noted;
  names = named.names;
}

-- it is a note of a word that names the cell
pub noted_names : (v : View) (x : Stamp) (d : Link) → WasNamed x d v → (y : Note) × Member y v.notes × NamesLink y.fact d
noted_names v x d named = (note_of x named.fact, named.noted, named.names)

module _ (z : Sizes) (k : List ℕ) (what : Option ℕ → Deed) (depth : ℕ) (u v w : View) where
  child_on : (x y : Stamp) (d : Link) → IsChild z k depth x d v → check.Unchanged z v w y None → IsChild z k depth x d w
  child_on x y d child p = record {
    stamp = passed_stamp z v w y x None p child.stamp;
    deep = child.deep;
    noted = still_named z v w x y None d child.noted p;
    shows = passed_shows z v w y x None _ p child.shows;
  }

  value_fits : (x : Stamp) (l : ℕ) → StageFits z k what depth (Child x (leaf l)) u v → check.Unchanged z v w x None → StageFits z k what depth (Value x l) u w
  value_fits x l fits p = (
    record {
      reads = reads_on u v w (passed_rest z v w x p) fits.0;
      stamp = passed_stamp z v w x x None p fits.1.stamp;
      inside = passed_number z v w x None (leaf l) (take depth k) p fits.1.shows;
      checked = passed_names z v w x None (leaf l) fits.1.noted p;
    },
    child_on x x (leaf l) fits.1 p,
  )

  below_fits : (x : Stamp) (n : Node) → StageFits z k what depth (Child x (node n)) u v → check.Unchanged z v w x None → StageFits z k what depth (Below x n) u w
  below_fits x n fits p = (
    reads_on u v w (passed_rest z v w x p) fits.0,
    child_on x x (node n) fits.1 p,
    passed_number z v w x None (node n) (take depth k) p fits.1.shows,
  )

  pub link_fits : (x : Stamp) (d : Link) → StageFits z k what depth (Child x d) u v → check.Unchanged z v w x None → StageFits z k what depth (stage_below x d) u w
  link_fits x (leaf l) fits p = value_fits x l fits p
  link_fits x (node n) fits p = below_fits x n fits p

  pub header_fits : (x y : Stamp) (n : Node) → StageFits z k what depth (Both x y n) u v → check.Unchanged z v w x None → StageFits z k what depth (Header y n) u w
  header_fits x y n fits p = (
    record {
      reads = reads_on u v w (passed_rest z v w x p) fits.0.reads;
      stamp = passed_stamp z v w x y None p fits.0.stamp;
      cell = fits.0.cell;
      path = (take depth k, path_passed z v w x y None n (take depth k) p fits.0.stamp.stamp fits.0.cell fits.1.shows);
    },
    fits.1.deep,
    passed_path z v w x y None n (take depth k) p fits.0.stamp.stamp fits.0.cell fits.1.shows,
  )

  pub ended_fits : (x : Stamp) (found : Verdict) → StageFits z k what depth (Decided x found) u v → check.Unchanged z v w x (Some (what (value_of found))) → StageFits z k what depth (Ended (value_of found)) u w
  ended_fits x found fits p = told_rest z u v w x (what (value_of found)) fits.0.only p

  -- ---- a version word was clear

  pub anchor_fits : (x : Stamp) → IsReading u v → begin.Outcome z v w cell.Anchor (Ok x) → StageFits z k what depth (Anchor x) u w
  anchor_fits x reads row = (
    reads_on u v w (begun_rest z v w cell.Anchor x.version row.2) reads,
    begun_stamp z v w cell.Anchor x row.0 row.1 row.2 tt,
    ap (λ (a : Stamp). a.cell) row.0,
    anchor_path z v w x x.version row.0 row.1 row.2,
  )

  pub both_fits : (x y : Stamp) (n : Node) → StageFits z k what depth (Below x n) u v → begin.Outcome z v w (cell.Node n) (Ok y) → StageFits z k what depth (Both x y n) u w
  both_fits x y n fits row =
      let child = fits.1 in (
        record {
          reads = reads_on u v w (begun_rest z v w (cell.Node n) y.version row.2) fits.0;
          stamp = begun_stamp z v w (cell.Node n) y row.0 row.1 row.2 fits.2;
          cell = ap (λ (a : Stamp). a.cell) row.0;
        },
        record {
          stamp = begun_others z v w (cell.Node n) y.version x row.1 row.2 child.stamp;
          deep = child.deep;
          noted = begun_names z v w x y n (node n) child.noted row;
          shows = begun_shows z v w (cell.Node n) y.version x _ row.1 row.2 child.shows;
        },
      )

-- ---- the word of the anchor

-- a word that was noted names what it names
pub note_names : (w : View) (x : Stamp) (word : ℕ) (d : Link) → WasNoted w x word → link_of word ≡ Some d → WasNamed x d w
note_names w x word d noted names = record { fact = Word noted.place word; noted = noted.noted; names = names }

module _ (z : Sizes) (k : List ℕ) (what : Option ℕ → Deed) (u w : View) (x : Stamp) (reads : IsReading u w) (stamp : HasStamp z w x) (word : ℕ) (shows : Shows z w x (λ s. s cell.Anchor 1 ≡ word)) where
  pub root_fits : (d : Link) → x.cell ≡ cell.Anchor → WasNoted w x word → link_of word ≡ Some d → StageFits z k what 0 (Child x d) u w
  root_fits d at noted names = (
    reads,
    record {
      stamp = stamp;
      deep = omega arith;
      noted = note_names w x word d noted names;
      shows = λ s shape holds. subst (λ (c : Cell). HasChild s c d []) (sym at) (root_child s word d (shows s shape holds) names);
    },
  )

  pub no_root_fits : x.cell ≡ cell.Anchor → link_of word ≡ None → StageFits z k what 0 (Decided x verdict.Empty) u w
  no_root_fits at none = (reads, omega arith, stamp, judged_empty z k 0 w x word at none shows)

-- ---- the words of a node

module _ (z : Sizes) (k : List ℕ) (what : Option ℕ → Deed) (depth : ℕ) (u w : View) where
  module _ (y : Stamp) (n : Node) (on : IsOn z u w y n) where
    pub node_decided : (found : Verdict) → depth ≤ length k → Says z k depth y found w → StageFits z k what depth (Decided y found) u w
    node_decided found deep says = (on.reads, deep, on.stamp, says)

    -- its child word
    module _ (header place word : ℕ) (deep : depth < length k) (small : get_or k depth 0 < 256) (shows : Shows z w y (λ s. IsAtSlot s n k depth header place)) (is : Shows z w y (λ s. s (cell.Node n) place ≡ word)) where
      pub slot_fits : (d : Link) → WasNoted w y word → link_of word ≡ Some d → StageFits z k what (depth + 1) (Child y d) u w
      slot_fits d noted names = (
        on.reads,
        record {
          stamp = on.stamp;
          deep = omega arith;
          noted = note_names w y word d noted names;
          shows = λ s shape holds.
              let at = shows s shape holds in
              subst (λ (c : Cell). HasChild s c d (take (depth + 1) k)) (sym on.cell) (child_there z s n k depth header shape at.past deep small place word d at.tells (is s shape holds) names);
        },
      )

      free_slot : link_of word ≡ None → Says z k depth y (verdict.NoChild n header) w
      free_slot none = (on.cell, deep, λ s shape holds. let at = shows s shape holds in names_none z s n k depth header shape at.past deep small place word at.tells (is s shape holds) none)

      pub free_slot_fits : link_of word ≡ None → StageFits z k what depth (Decided y (verdict.NoChild n header)) u w
      free_slot_fits none = node_decided (verdict.NoChild n header) (omega arith) (free_slot none)

  module _ (seen : NodeSeen) (on : IsOn z u w seen.stamp seen.node) where
    abbrev y : Stamp
    y = seen.stamp

    abbrev n : Node
    n = seen.node

    -- the first word of its prefix
    pub prefix_fits : depth ≤ length k → 0 < count_in seen.header → depth + count_in seen.header < 64 → Shows z w y (λ s. HasHeader s n k depth seen.header) → StageFits z k what depth (Prefix seen 0 Same) u w
    prefix_fits deep some short shows = (
      on,
      record {
        deep = deep;
        more = omega (arith, some);
        short = short;
        within = omega (arith, deep);
        shows = shows_then z w y _ _ (λ s shape h. record { on = h; compared = same_none (packed (s (cell.Node n)) 2) k depth deep }) shows;
      },
    )

    -- what a search says, of bodies of which this is so
    pub staged_fits : (so : Words → Type 0) (r : Sought) → depth < length k → get_or k depth 0 < 256 → SoughtTells n.layout (get_or k depth 0) so r
        → Shows z w y (λ s. IsPastPrefix s n k depth seen.header) → Shows z w y (λ s. so (s (cell.Node n))) → StageFits z k what depth (staged r seen) u w
    staged_fits so (sought.Keys i) deep small tells past is = (
      on,
      record {
        deep = deep;
        few = tells.0;
        inside = tells.1;
        shows = λ s shape holds. let p = past s shape holds in record { past = p; known = tells.2 (s (cell.Node n)) (body_of z s n k depth seen.header shape p) (is s shape holds) };
      },
    )
    staged_fits so (sought.Child place) deep small tells past is = (
      on,
      record {
        deep = deep;
        after = tells.0;
        inside = tells.1;
        shows = λ s shape holds. let p = past s shape holds in record { past = p; tells = tells.2 (s (cell.Node n)) (body_of z s n k depth seen.header shape p) (is s shape holds) };
      },
    )
    staged_fits so sought.Nothing deep small tells past is = (
      on.reads,
      omega arith,
      on.stamp,
      (
        on.cell,
        deep,
        λ s shape holds. let p = past s shape holds in no_child z s n k depth seen.header shape p deep small (tells (s (cell.Node n)) (body_of z s n k depth seen.header shape p) (is s shape holds)),
      ),
    )

    -- one word more of its prefix
    module _ (number word : ℕ) (before r : Compared) (deep : depth ≤ length k) (more : 8 * number < count_in seen.header) (tells : ComparesWord k depth (count_in seen.header) number word before r)
        (shows : Shows z w y (λ s. IsInPrefix s n k depth seen.header number before)) (is : Shows z w y (λ s. s (cell.Node n) (2 + number) ≡ word)) where
      compared : (to : ℕ) → to ≡ min (count_in seen.header) (8 * number + 8) → Shows z w y (λ s. IsCompared (packed (s (cell.Node n)) 2) to k depth r)
      compared to at s shape holds = subst (λ (i : ℕ). IsCompared (packed (s (cell.Node n)) 2) i k depth r) (sym at) (tells.tells (s (cell.Node n)) (is s shape holds) (shows s shape holds).compared)

      pub prefix_next : 8 * number + 8 < count_in seen.header → depth + count_in seen.header < 64 → StageFits z k what depth (Prefix seen (number + 1) r) u w
      prefix_next later short = (
        on,
        record {
          deep = deep;
          more = omega (arith, later);
          short = short;
          within = subst (λ (i : ℕ). IsWithin k depth i r) (omega (arith, later)) tells.within;
          shows = λ s shape holds. record { on = (shows s shape holds).on; compared = compared (8 * (number + 1)) (omega (arith, later)) s shape holds };
        },
      )

      -- its last word
      module _ (last : count_in seen.header ≤ 8 * number + 8) where
        pub prefix_passed : r ≡ Same → Shows z w y (λ s. IsPassed s n k depth seen.header)
        prefix_passed same s shape holds = record {
          on = (shows s shape holds).on;
          same = subst (IsCompared (packed (s (cell.Node n)) 2) (count_in seen.header) k depth) same (compared (count_in seen.header) (omega (arith, last, more)) s shape holds);
        }

        prefix_read : (t : Compared) → r ≡ t → Shows z w y (λ s. PrefixRead s n k depth seen.header t)
        prefix_read t e s shape holds = record {
          on = (shows s shape holds).on;
          compared = subst (IsCompared (packed (s (cell.Node n)) 2) (count_in seen.header) k depth) e (compared (count_in seen.header) (omega (arith, last, more)) s shape holds);
        }

        prefix_within : (t : Compared) → r ≡ t → IsWithin k depth (count_in seen.header) t
        prefix_within t e = subst (IsWithin k depth (count_in seen.header)) e (subst (λ (i : ℕ). IsWithin k depth i r) (omega (arith, last, more)) tells.within)

        pub prefix_below : (at : ℕ) → r ≡ compares.Below at → StageFits z k what depth (Decided y (verdict.PrefixMismatch n seen.header at)) u w
        prefix_below at e = (on.reads, deep, on.stamp, judged_below z k depth w y n seen.header deep at on.cell (prefix_within (compares.Below at) e) (prefix_read (compares.Below at) e))

        pub prefix_above : (at : ℕ) (found : Verdict) → r ≡ compares.Above at → (depth + at < length k → found ≡ verdict.PrefixMismatch n seen.header at) → (length k ≤ depth + at → found ≡ verdict.Overlaps)
            → StageFits z k what depth (Decided y found) u w
        prefix_above at found e has ends =
            let t = compares.Above at in
            let within = prefix_within t e in
            let read = prefix_read t e in
            let says : Says z k depth y found w = elim (cases_lt (depth + at) (length k)) [
              | inl low ↦ subst (λ (f : Verdict). Says z k depth y f w) (sym (has low)) (judged_above z k depth w y n seen.header deep at within read on.cell low)
              | inr high ↦ subst (λ (f : Verdict). Says z k depth y f w) (sym (ends high)) (judged_ended z k depth w y n seen.header deep at within read high)
            ] in
            (on.reads, deep, on.stamp, says)

-- ---- the words of a leaf

module _ (z : Sizes) (k : List ℕ) (what : Option ℕ → Deed) (depth : ℕ) (u w : View) (deep : depth ≤ length k) where
  module _ (x : Stamp) (l : ℕ) (on : IsAbove z u w x l) (value count : ℕ) (shows : Shows z w x (λ s. IsAtLeaf s x.cell l (take depth k) value)) (is : Shows z w x (λ s. s (cell.Leaf l) 1 ≡ count)) where
    pub length_torn : 64 < count → StageFits z k what depth (Decided x verdict.Torn) u w
    length_torn high = (on.reads, deep, on.stamp, λ s shape holds. absurd (omega (arith, high, leaf_not_torn z s x.cell l k depth value count shape (shows s shape holds) (is s shape holds))))

    pub bytes_first : 0 < count → count ≤ 64 → (seen : LeafSeen) → seen ≡ record { stamp = x; leaf = l; value = value; count = count } → StageFits z k what depth (Bytes seen 0 at_first) u w
    bytes_first some few seen e = subst (λ (t : LeafSeen). StageFits z k what depth (Bytes t 0 at_first) u w) (sym e) (
      on,
      deep,
      record {
        more = omega (arith, some);
        few = few;
        within = omega arith;
        shows = λ s shape holds. record { leaf = shows s shape holds; is_count = is s shape holds; beside = record { compared = same_none (packed (s (cell.Leaf l)) 2) k 0 (omega arith); byte = tt } };
      },
    )

    empty_read : count ≡ 0 → Shows z w x (λ s. KeyRead s x.cell l k depth value count Same 0)
    empty_read none s shape holds = record {
      leaf = shows s shape holds;
      is_count = is s shape holds;
      compared = subst (λ (i : ℕ). AreSame (packed (s (cell.Leaf l)) 2) i k 0) (sym none) (same_none (packed (s (cell.Leaf l)) 2) k 0 (omega arith));
      is_byte = tt;
    }

    pub empty_found : count ≡ 0 → length k ≡ 0 → StageFits z k what depth (Decided x (verdict.Found l value)) u w
    empty_found none empty = (on.reads, deep, on.stamp, judged_found z k depth w x l value count 0 on.inside (empty_read none) (none ∙ sym empty))

    pub empty_begins : count ≡ 0 → count ≢ length k → StageFits z k what depth (Decided x verdict.Overlaps) u w
    empty_begins none apart = (on.reads, deep, on.stamp, judged_begins z k depth w x l value count 0 on.inside (empty_read none) apart)

  module _ (seen : LeafSeen) (on : IsAbove z u w seen.stamp seen.leaf) (number word : ℕ) (before r : Beside) (more : 8 * number < seen.count) (few : seen.count ≤ 64) (tells : TellsBeside k seen.count number word before r)
      (shows : Shows z w seen.stamp (λ s. IsInKey s seen k (take depth k) number before)) (is : Shows z w seen.stamp (λ s. s (cell.Leaf seen.leaf) (2 + number) ≡ word)) where
    abbrev x : Stamp
    x = seen.stamp

    abbrev l : ℕ
    l = seen.leaf

    key_beside : (to : ℕ) → to ≡ min seen.count (8 * number + 8) → Shows z w x (λ s. IsBeside (packed (s (cell.Leaf l)) 2) to k r)
    key_beside to at s shape holds = subst (λ (i : ℕ). IsBeside (packed (s (cell.Leaf l)) 2) i k r) (sym at) (tells.tells (s (cell.Leaf l)) (is s shape holds) (shows s shape holds).beside)

    pub bytes_next : 8 * number + 8 < seen.count → StageFits z k what depth (Bytes seen (number + 1) r) u w
    bytes_next later = (
      on,
      deep,
      record {
        more = omega (arith, later);
        few = few;
        within = subst (λ (i : ℕ). IsWithin k 0 i r.compared) (omega (arith, later)) tells.within;
        shows = λ s shape holds.
            let at = shows s shape holds in
            record { leaf = at.leaf; is_count = at.is_count; beside = key_beside (8 * (number + 1)) (omega (arith, later)) s shape holds };
      },
    )

    -- the last word
    module _ (last : seen.count ≤ 8 * number + 8) where
      key_read : (t : Compared) → r.compared ≡ t → Shows z w x (λ s. KeyRead s x.cell l k depth seen.value seen.count t r.byte)
      key_read t e s shape holds =
          let at = shows s shape holds in
          let to = key_beside seen.count (omega (arith, last, more)) s shape holds in
          record {
            leaf = at.leaf;
            is_count = at.is_count;
            compared = subst (IsCompared (packed (s (cell.Leaf l)) 2) seen.count k 0) e to.compared;
            is_byte = subst (λ (c : Compared). HasByte (packed (s (cell.Leaf l)) 2) c r.byte) e to.byte;
          }

      key_within : (t : Compared) → r.compared ≡ t → IsWithin k 0 seen.count t
      key_within t e = subst (IsWithin k 0 seen.count) e (subst (λ (i : ℕ). IsWithin k 0 i r.compared) (omega (arith, last, more)) tells.within)

      pub bytes_found : r.compared ≡ Same → seen.count ≡ length k → StageFits z k what depth (Decided x (verdict.Found l seen.value)) u w
      bytes_found same whole = (on.reads, deep, on.stamp, judged_found z k depth w x l seen.value seen.count r.byte on.inside (key_read Same same) whole)

      pub bytes_begin : r.compared ≡ Same → seen.count ≢ length k → StageFits z k what depth (Decided x verdict.Overlaps) u w
      bytes_begin same apart = (on.reads, deep, on.stamp, judged_begins z k depth w x l seen.value seen.count r.byte on.inside (key_read Same same) apart)

      pub bytes_below : (at : ℕ) → r.compared ≡ compares.Below at → StageFits z k what depth (Decided x (verdict.LeafMismatch l at r.byte)) u w
      bytes_below at e =
          (on.reads, deep, on.stamp, judged_leaf_below z k depth w x l seen.value seen.count r.byte on.inside at deep (key_within (compares.Below at) e) (key_read (compares.Below at) e))

      pub bytes_above : (at : ℕ) (found : Verdict) → r.compared ≡ compares.Above at → (at < length k → found ≡ verdict.LeafMismatch l at r.byte) → (length k ≤ at → found ≡ verdict.Overlaps) → StageFits z k what depth (Decided x found) u w
      bytes_above at found e has ends =
          let t = compares.Above at in
          let within = key_within t e in
          let read = key_read t e in
          let says : Says z k depth x found w = elim (cases_lt at (length k)) [
            | inl low ↦ subst (λ (f : Verdict). Says z k depth x f w) (sym (has low)) (judged_leaf_above z k depth w x l seen.value seen.count r.byte on.inside at within read deep low)
            | inr high ↦ subst (λ (f : Verdict). Says z k depth x f w) (sym (ends high)) (judged_leaf_ended z k depth w x l seen.value seen.count r.byte on.inside at within read high)
          ] in
          (on.reads, deep, on.stamp, says)

-- ---- a word was read

module _ (z : Sizes) (u v w : View) (y : Stamp) (place word : ℕ) where
  pub node_on : (n : Node) → IsOn z u v y n → read.Outcome z v w y place word → IsOn z u w y n
  node_on n on row = record {
    reads = reads_on u v w (read_rest v w y (Word place word) row.is) on.reads;
    stamp = read_stamp z v w y (Word place word) y row.is on.stamp;
    cell = on.cell;
    path = path_grows v w y (read_grows v w y (Word place word) row.is) on.path;
  }

  pub node_word : (c : Cell) → y.cell ≡ c → read.Outcome z v w y place word → Shows z w y (λ s. s c place ≡ word)
  node_word c at row s shape holds = subst (λ (d : Cell). s d place ≡ word) at ((read_shows z v w y (Word place word) (λ t. Unit {0}) row.is (λ t shape' holds'. tt) s shape holds).1)

  pub node_still : (so : Cells → Type 0) → read.Outcome z v w y place word → Shows z v y so → Shows z w y so
  node_still so row shows s shape holds = (read_shows z v w y (Word place word) so row.is shows s shape holds).0

  pub node_noted : read.Outcome z v w y place word → WasNoted w y word
  node_noted row = record { place = place; noted = subst (λ (t : View). Member (note_of y (Word place word)) t.notes) (sym row.is) (inl refl) }

  pub leaf_on : (l : ℕ) → IsAbove z u v y l → read.LeafOutcome v w y l place word → IsAbove z u w y l
  leaf_on l on is = record {
    reads = reads_on u v w (read_rest v w y (LeafWord l place word) is) on.reads;
    stamp = read_stamp z v w y (LeafWord l place word) y is on.stamp;
    inside = on.inside;
    checked = record {
      fact = on.checked.fact;
      noted = subst (λ (t : View). Member (note_of y on.checked.fact) t.checked.notes) (sym is) on.checked.noted;
      names = on.checked.names;
      found = subst (λ (t : View). Member (record { word = Version y.cell y.version; step = t.checked.step }) t.found) (sym is) on.checked.found;
    };
  }

  pub leaf_word : (l : ℕ) → read.LeafOutcome v w y l place word → Shows z w y (λ s. s (cell.Leaf l) place ≡ word)
  leaf_word l is s shape holds = ((read_shows z v w y (LeafWord l place word) (λ t. Unit {0}) is (λ t shape' holds'. tt) s shape holds).1).1

  pub leaf_still : (l : ℕ) (so : Cells → Type 0) → read.LeafOutcome v w y l place word → Shows z v y so → Shows z w y so
  leaf_still l so is shows s shape holds = (read_shows z v w y (LeafWord l place word) so is shows s shape holds).0

-- ---- where the stage is known by an equation

-- what is asked there, and what it answered
pub at_stage : (z : Sizes) (k : List ℕ) (what : Option ℕ → Deed) (depth : ℕ) (stage now : Stage) (a : Action) (answer : Answer) (u v w : View) → stage ≡ now → asks stage ≡ Some a
    → StageFits z k what depth stage u v → Answers z (telling (what (answer_at stage))) a answer v w
    → StageFits z k what depth now u v × ((b : Action) → asks now ≡ Some b → Answers z (telling (what (answer_at now))) b answer v w)
at_stage z k what depth stage now a answer u v w is asked fits row = (
  subst (λ (t : Stage). StageFits z k what depth t u v) is fits,
  λ b e. subst (λ (c : Action). Answers z (telling (what (answer_at now))) c answer v w) (same_Some {A = Action} a b (sym asked ∙ ap asks is ∙ e)) (subst (λ (t : Stage). Answers z (telling (what (answer_at t))) a answer v w) is row),
)

-- ---- a version word that is not clear, or was changed

pub begun_again : (z : Sizes) (k : List ℕ) (what : Option ℕ → Deed) (depth : ℕ) (stage : Stage) (u v : View) → WantsVersion (asks stage) → StageFits z k what depth stage u v → IsReading u v
begun_again z k what depth Start u v wants fits = fits
begun_again z k what depth (Below x n) u v wants fits = fits.0
begun_again z k what depth (Anchor x) u v wants fits = absurd wants
begun_again z k what depth (Child x d) u v wants fits = absurd wants
begun_again z k what depth (Both x y n) u v wants fits = absurd wants
begun_again z k what depth (Header y n) u v wants fits = absurd wants
begun_again z k what depth (Prefix seen i r) u v wants fits = absurd wants
begun_again z k what depth (Keys seen i) u v wants fits = absurd wants
begun_again z k what depth (Slot seen place) u v wants fits = absurd wants
begun_again z k what depth (Value x l) u v wants fits = absurd wants
begun_again z k what depth (Length x l value) u v wants fits = absurd wants
begun_again z k what depth (Bytes seen i r) u v wants fits = absurd wants
begun_again z k what depth (Decided x found) u v wants fits = absurd wants
begun_again z k what depth (Ended o) u v wants fits = absurd wants

pub checked_again : (z : Sizes) (k : List ℕ) (what : Option ℕ → Deed) (depth : ℕ) (stage : Stage) (u v : View) → WantsCheck (asks stage) → StageFits z k what depth stage u v → IsReading u v
checked_again z k what depth (Child x d) u v wants fits = fits.0
checked_again z k what depth (Both x y n) u v wants fits = fits.0.reads
checked_again z k what depth (Decided x found) u v wants fits = fits.0
checked_again z k what depth Start u v wants fits = absurd wants
checked_again z k what depth (Anchor x) u v wants fits = absurd wants
checked_again z k what depth (Below x n) u v wants fits = absurd wants
checked_again z k what depth (Header y n) u v wants fits = absurd wants
checked_again z k what depth (Prefix seen i r) u v wants fits = absurd wants
checked_again z k what depth (Keys seen i) u v wants fits = absurd wants
checked_again z k what depth (Slot seen place) u v wants fits = absurd wants
checked_again z k what depth (Value x l) u v wants fits = absurd wants
checked_again z k what depth (Length x l value) u v wants fits = absurd wants
checked_again z k what depth (Bytes seen i r) u v wants fits = absurd wants
checked_again z k what depth (Ended o) u v wants fits = absurd wants

-- what was asked for has the kind of its answer
pub wants_version : (z : Sizes) (d : Deed) (a : Action) (r : Result Stamp Locked) (v w : View) → Answers z (telling d) a (Begun r) v w → WantsVersion (Some a)
wants_version z d a r v w row = is_begin z (telling d) a r v w row

pub wants_word : (z : Sizes) (d : Deed) (a : Action) (word : ℕ) (v w : View) → Answers z (telling d) a (word_told word) v w → WantsWord (Some a)
wants_word z d a word v w row = finds_word z (telling d) a word v w row

pub wants_check : (z : Sizes) (d : Deed) (a : Action) (r : Result (Unit {0}) Changed) (v w : View) → Answers z (telling d) a (Checked r) v w → WantsCheck (Some a)
wants_check z d a r v w row = is_check z (telling d) a r v w row

-- ---- until it has ended, and then

pub still_reading : (z : Sizes) (k : List ℕ) (what : Option ℕ → Deed) (depth : ℕ) (stage : Stage) (u v : View) → ended_at stage ≡ None → StageFits z k what depth stage u v → IsReading u v
still_reading z k what depth Start u v going fits = fits
still_reading z k what depth (Anchor x) u v going fits = fits.0
still_reading z k what depth (Child x d) u v going fits = fits.0
still_reading z k what depth (Below x n) u v going fits = fits.0
still_reading z k what depth (Both x y n) u v going fits = fits.0.reads
still_reading z k what depth (Header y n) u v going fits = fits.0.reads
still_reading z k what depth (Prefix seen i r) u v going fits = fits.0.reads
still_reading z k what depth (Keys seen i) u v going fits = fits.0.reads
still_reading z k what depth (Slot seen place) u v going fits = fits.0.reads
still_reading z k what depth (Value x l) u v going fits = fits.0.reads
still_reading z k what depth (Length x l value) u v going fits = fits.0.reads
still_reading z k what depth (Bytes seen i r) u v going fits = fits.0.reads
still_reading z k what depth (Decided x found) u v going fits = fits.0
still_reading z k what depth (Ended o) u v going fits = cc

-- what the pass holds and its pin are as before, where it told something
pub tells_free : (u w : View) → OnlyTells u w → u.held ≡ [] → w.held ≡ []
tells_free u w tells free = ap (λ (r : Rest). r.held) tells ∙ free

pub tells_pinned : (u w : View) → OnlyTells u w → u.pin ≢ 0 → w.pin ≢ 0
tells_pinned u w tells pinned zero = pinned (sym (ap (λ (r : Rest). r.pin) tells) ∙ zero)

pub has_ended : (z : Sizes) (k : List ℕ) (what : Option ℕ → Deed) (depth : ℕ) (stage : Stage) (o : Option ℕ) (u v : View) → ended_at stage ≡ Some o → StageFits z k what depth stage u v → MakesEvent u v (what o) × OnlyTells u v
has_ended z k what depth (Ended p) o u v is fits = subst (λ (q : Option ℕ). MakesEvent u v (what q) × OnlyTells u v) (same_Some {A = Option ℕ} p o is) fits
has_ended z k what depth Start o u v is fits = cc
has_ended z k what depth (Anchor x) o u v is fits = cc
has_ended z k what depth (Child x d) o u v is fits = cc
has_ended z k what depth (Below x n) o u v is fits = cc
has_ended z k what depth (Both x y n) o u v is fits = cc
has_ended z k what depth (Header y n) o u v is fits = cc
has_ended z k what depth (Prefix seen i r) o u v is fits = cc
has_ended z k what depth (Keys seen i) o u v is fits = cc
has_ended z k what depth (Slot seen place) o u v is fits = cc
has_ended z k what depth (Value x l) o u v is fits = cc
has_ended z k what depth (Length x l value) o u v is fits = cc
has_ended z k what depth (Bytes seen i r) o u v is fits = cc
has_ended z k what depth (Decided x found) o u v is fits = cc
