-- At opening all is sound: the anchor names no root, no cell is locked, and no pass knows anything.
use Rattle.std.proofs.Common.{◌≡◌, ◌≢◌, ◌↔◌, ℕ, zero, suc, ◌+◌, ◌*◌, ◌<◌, ◌≤◌, Bool, true, false, List, [], inl, inr, sym, refl, ap, ap₂, ◌∙◌, subst, ⊎_elim, arith}
use Rattle.std.specs.Prelude.{Option, Some, None}
use Rattle.art_cell.specs.declared.cells.Cell.{Cell}
use Rattle.art_cell.specs.declared.cells.Cell.TheVariants as cell
use Rattle.art_cell.specs.declared.cells.Link.{Link}
use Rattle.art_cell.specs.declared.cells.Link.TheVariants.{Leaf as leaf, Node as node}
use Rattle.art_step.specs.declared.views.Sizes.{Sizes}
use Rattle.art_step.specs.declared.views.View.{View}
use Rattle.art_cell.specs.Children.{link_of}
use Rattle.art_tree.specs.Heaps.{heap_of}
use Rattle.art_step.specs.Sound.{HoldsEach, Vouched, Whereabouts, InTree, IsFree, InHandOf, InLimboOf, Nowhere, Accounts, IsPinned, early_of, early_notes, IsSound, IsSeenBy}
use Rattle.art_step.specs.Opening.{newcomer, Opens, OpenLaw}
use Rattle.art_tree.specs.Tree.{StandsAt}
use Rattle.art_step.specs.Views.{Member, Memory, IsLocked, IsObsolete, last_counter, IsVersion, cell_named, is_free, Views}
use Rattle.art_tree.proofs.Places.{same_cell}
use Rattle.art_tree.proofs.Frame.{opened_unlinked, opened_sound, opened_rows}
use Rattle.art_step.proofs.WordForms.{no_word}

-- ---- numbers: the free ones and no others

abbrev place : Bool → Whereabouts
place true = IsFree
place false = Nowhere

place_free : (b : Bool) → (place b ≡ IsFree) ↔ (b ≡ true)
place_free true = (λ e. refl, λ e. refl)
place_free false = (λ e. cc, λ e. cc)

place_somewhere : (b : Bool) → (place b ≢ Nowhere) ↔ (b ≡ true)
place_somewhere true = (λ e. refl, λ e i. cc)
place_somewhere false = (λ e. absurd (e refl), λ e. cc)

place_else : (b : Bool) (w : Whereabouts) → w ≢ IsFree → w ≢ Nowhere → place b ≢ w
place_else true w free nowhere e = free (sym e)
place_else false w free nowhere e = nowhere (sym e)

-- ---- version words

clear_version : (x k : ℕ) → k ≤ last_counter → x ≡ 4 * k → IsVersion x
clear_version x k low is = record {
  form = inl (omega arith);
  clear = λ _. omega arith;
  locked = λ e. absurd (omega arith);
  obsolete = λ e. absurd (omega arith);
}

obsolete_version : (x k : ℕ) → k ≤ last_counter → x ≡ 4 * k + 1 → IsVersion x
obsolete_version x k low is = record {
  form = inr (inr (omega arith));
  clear = λ e. absurd (omega arith);
  locked = λ e. absurd (omega arith);
  obsolete = λ _. omega arith;
}

-- ---- all of it

module _ (z : Sizes) (m : Memory) (f : Views) (o : Opens z m f) where
  no_child : m.words cell.Anchor 1 ≡ 0
  no_child = o.words cell.Anchor 1 (omega arith)

  no_root : (heap_of m.words).root ≡ None
  unfolding heap_of
  no_root = ap link_of no_child

  no_path : (d : Link) (r : List ℕ) → StandsAt (heap_of m.words) d r → ⊥
  no_path d r at = opened_unlinked (heap_of m.words) d no_root r at

  -- what holds of newcomers holds of each view
  each_newcomer : (P : ℕ → View → Type 0) → ((p : ℕ) → p < z.passes → P p (newcomer p)) → (p : ℕ) (v : View) → f p ≡ Some v → P p v
  each_newcomer P new p v is = let k = o.views p v is in subst (P p) (sym k.1) (new p k.0)

  -- the anchor is clear, and all other cells are obsolete
  versions : (c : Cell) → IsVersion (m.version c)
  versions c = ⊎_elim
      (λ (is : c ≡ cell.Anchor). clear_version (m.version c) o.anchor.0 o.anchor.1 (ap m.version is ∙ o.anchor.2))
      (λ (other : c ≢ cell.Anchor). let k = o.cells c other in obsolete_version (m.version c) k.0 k.1 k.2)
      (same_cell c cell.Anchor)

  unlocked : (c : Cell) → IsLocked (m.version c) → ⊥
  unlocked c locked = ⊎_elim
      (λ (is : c ≡ cell.Anchor). let e : m.version c ≡ 4 * o.anchor.0 = ap m.version is ∙ o.anchor.2 in absurd (omega arith))
      (λ (other : c ≢ cell.Anchor). let k = o.cells c other in let e : m.version c ≡ 4 * k.0 + 1 = k.2 in absurd (omega arith))
      (same_cell c cell.Anchor)

  obsolete : (d : Link) → IsObsolete (m.version (cell_named d))
  obsolete (leaf l) = let k = o.cells (cell.Leaf l) (λ e. cc) in let e : m.version (cell.Leaf l) ≡ 4 * k.0 + 1 = k.2 in omega arith
  obsolete (node n) = let k = o.cells (cell.Node n) (λ e. cc) in let e : m.version (cell.Node n) ≡ 4 * k.0 + 1 = k.2 in omega arith

  no_pass : (d : Link) (p : ℕ) → (place (is_free m d) ≢ InHandOf p) × (place (is_free m d) ≢ InLimboOf p)
  no_pass d p = (place_else (is_free m d) (InHandOf p) (λ i. cc) (λ i. cc), place_else (is_free m d) (InLimboOf p) (λ i. cc) (λ i. cc))

  not_early : (n : ℕ) → early_notes f n ≡ 0
  not_early zero = refl
  not_early (suc n) = ap₂ (λ (a b : ℕ). a + b) (none (f n) refl) (not_early n)
    where
      none : (x : Option View) → f n ≡ x → early_of x ≡ 0
      none None is = refl
      none (Some v) is = ap (λ (u : View). early_of (Some u)) (o.views n v is).1

  opens : IsSound z m f
  opens = record {
    log = [];
    logical = m.words;
    at = λ d. place (is_free m d);
    history = record {
      legal = tt;
      tells = each_newcomer (λ p v. IsSeenBy [] p v) (λ p inside. record { pass = refl; starts = ([], refl); own = refl; all = refl });
      strangers = λ p is. refl;
    };
    shows = record {
      shape = record {
        tree = opened_sound (heap_of m.words) no_root;
        anchor = inl no_child;
        nodes = λ n p at. absurd (no_path (node n) p at);
        leaves = λ l p at. absurd (no_path (leaf l) p at);
        numbers = λ d p at. absurd (no_path d p at);
      };
      rows = opened_rows (heap_of m.words) no_root;
    };
    holder = record {
      at_rest = λ c rests. refl;
      holder = λ c locked. absurd (unlocked c locked);
      holds = each_newcomer (λ p v. HoldsEach m m.words v) (λ p inside. record { keeps = λ h i. absurd i; single = λ h k i. absurd i });
      apart = λ p q v u other is is-u h k i. absurd (each_newcomer (λ p v. Member h v.held → ⊥) (λ p inside i. i) p v is i);
    };
    vouch = each_newcomer (λ p v. Vouched m m.words v) (λ p inside. record { stamps = λ x i. absurd i; noted = λ y i. absurd i; notes = λ y i. absurd i; kept = λ e h y i. absurd i });
    numbers = record {
      tree = λ d. (λ e. absurd (place_else (is_free m d) InTree (λ i. cc) (λ i. cc) e), λ linked. absurd (no_path d linked.0 linked.1));
      free = λ d. place_free (is_free m d);
      numbers = λ d. (λ e. (o.free d).0 ((place_somewhere (is_free m d)).0 e), λ is. (place_somewhere (is_free m d)).1 ((o.free d).1 is));
      accounts = each_newcomer (λ p v. Accounts m (λ d. place (is_free m d)) p v) (λ p inside. record {
        hand = λ x i. absurd i;
        in_hand = λ d e. absurd ((no_pass d p).0 e);
        leaves = λ x l i. absurd i;
        limbo = λ e i. absurd i;
        in_limbo = λ d e. absurd ((no_pass d p).1 e);
        held = λ h n i. absurd i;
        hand_once = tt;
        limbo_once = tt;
      });
      strangers = λ p d is. no_pass d p;
    };
    unstamped = record {
      epoch = omega (arith, o.epoch);
      clear = λ d clear. absurd (let e = obsolete d in omega arith);
      pinned = each_newcomer (λ p v. IsPinned z m (λ d. place (is_free m d)) p v) (λ p inside. record {
        inside = inside;
        word = o.pass_word p inside;
        low = omega (arith, o.epoch);
        noted = λ t e. absurd (cc);
        pinned = λ x i. absurd i;
        placed = λ x i. absurd i;
        stamped = λ n i. absurd i.1;
        idle = λ e h i. absurd i;
      });
      awaits = λ q r v u e is is-u i. absurd (each_newcomer (λ r u. Member e u.limbo → ⊥) (λ r inside i. i) r u is-u i);
    };
    formed = record {
      versions = versions;
      leaves = λ l. obsolete (leaf l);
      words = λ c i. no_word z c i (m.words c i) (o.words c i);
      epoch = let k = not_early z.passes in omega (arith, o.epoch);
    };
  }

-- the words at opening are sound
pub open_law : OpenLaw
open_law z m f o = opens z m f o
