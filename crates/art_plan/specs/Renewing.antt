-- A change to which the renewal of a worn node is added, whose parent the change does not write.
use Rattle.std.specs.Prelude.{◌≡◌, ◌≢◌, ℕ, ◌+◌, ◌<◌, ◌≤◌, ◌==◌, if◌then◌else◌, Bool, true, false, List, [], ◌∷◌, ◌++◌, length, filter_map, Option, Some, None}
use Rattle.art_cell.specs.Children.{child_word}
use Rattle.art_cell.specs.Bodies.{IsBody}
use Rattle.art_cell.specs.Reads.{with_child, word_of}
use Rattle.art_cell.specs.Words.{child_of, prefix_of, size}
use Rattle.art_cell.specs.declared.cells.Body.{Body}
use Rattle.art_cell.specs.declared.cells.Layout.TheVariants.{Node4}
use Rattle.art_cell.specs.declared.cells.Link.TheVariants.{Node as node}
use Rattle.art_cell.specs.declared.cells.Node.{Node}
use Rattle.art_cell.specs.declared.cells.Write.{Write}
use Rattle.art_commit.specs.CommitLaws.{HasNode}
use Rattle.art_node.specs.Prefixes.{IsNodeOf}
use Rattle.art_plan.specs.Changes.{IsPlanned, node_made, target_at, unlinked, with_puts}
use Rattle.art_plan.specs.Puts.{IsSitePlan, IsTaken, puts_of}
use Rattle.art_plan.specs.Seen.{HasBelow, gone, kept, site_stamp}
use Rattle.art_plan.specs.Whole.{twin_node}
use Rattle.art_plan.specs.declared.changes.Change.{Change}
use Rattle.art_plan.specs.declared.changes.Put.{Put}
use Rattle.art_plan.specs.declared.changes.Target.{Target}
use Rattle.art_plan.specs.declared.changes.Twin.{Twin}
use Rattle.art_plan.specs.declared.changes.Below.{Below}
use Rattle.art_plan.specs.declared.changes.Site.{Site}
use Rattle.art_step.specs.Views.{Member}
use Rattle.art_step.specs.declared.views.Sizes.{Sizes}
use Rattle.art_step.specs.declared.views.Stamp.{Stamp}
use Rattle.art_step.specs.declared.views.View.{View}

-- the targets below the worn node: all of them, or all but the first, where that is the worn node itself
abbrev pub lower_targets : Bool → List Target → List Target
lower_targets false xs = xs
lower_targets true [] = []
lower_targets true (x ∷ xs) = xs

-- where a put of the change goes: the cell above the worn node and that node come before the others; the words of the worn node itself
-- are its copy's
abbrev pub moved_put : Bool → Put → Option Put
moved_put false p = Some (record p { target = p.target + 2 })
moved_put true p = if p.target == 0 then None else Some (record p { target = p.target + 1 })

-- the change, and the renewal of the node under the stamp: the site's cell is locked above it, the writes name the copy there, and the
-- worn node goes
abbrev pub renewed : Bool → Stamp → List Write → Stamp → Node → Twin → Change → Change
renewed first above writes worn n twin c = record c {
  targets = record { items = kept above ∷ gone worn ∷ lower_targets first c.targets.items };
  writes = record { items = writes };
  puts = record { items = puts_of 0 writes ++ filter_map (moved_put first) c.puts.items };
  copy = Some twin;
  effects = record c.effects { unlinked = record { items = c.effects.unlinked.items ++ child_word (node n) ∷ [] } };
}

-- the words of the worn node, after these puts where it is the first target
abbrev pub twin_words : Bool → List Put → List ℕ → List ℕ
twin_words true ps ws = with_puts 0 ps ws
twin_words false ps ws = ws

-- after the puts of the change
abbrev pub worn_words : Bool → Change → List ℕ → List ℕ
worn_words first c ws = twin_words first c.puts.items ws

-- whether the worn node is the first target of the change
abbrev pub IsFirst : Bool → Change → Stamp → Type 0
IsFirst true c worn = target_at c 0 ≡ Some (kept worn)
IsFirst false c worn = (i : ℕ) (x : Target) → target_at c i ≡ Some x → x.stamp.cell ≢ worn.cell

-- the worn node stands at the site, to which so many bytes of the key lead, and both were read whole; the copy's number is in hand, and no
-- other's, and it has the words that the node would have after the change; the change does not lock the site's cell, and the node stays
-- in the tree by it
pub record IsRenewal (z : Sizes) (u : View) (c : Change) (first : Bool) (site : Site) (writes : List Write) (below : Below) (twin : Twin)
    (k : List ℕ) (depth : ℕ) : Type 0 where
  pub planned : IsPlanned z u c
  pub place : HasBelow z u site k depth below
  pub taken : IsTaken site
  pub put : IsSitePlan site (child_word (node (twin_node twin))) writes
  pub hand : HasNode z u (twin_node twin)
  pub other : node_made c ≢ Some (twin_node twin)
  pub layout : twin.body.layout ≡ below.node.layout
  pub words : twin.body.words ≡ worn_words first c below.body.now.words
  pub long : size below.node.layout ≤ length below.body.now.words
  pub first_is : IsFirst first c below.stamp
  pub above : (i : ℕ) (x : Target) → target_at c i ≡ Some x → x.stamp.cell ≢ (site_stamp site).cell
  pub stays : Member (node below.node) (unlinked c) → ⊥

-- the same, as long as the words of the copy and those that name it are still to be made
pub record MayRenewAt (z : Sizes) (u : View) (c : Change) (first : Bool) (site : Site) (below : Below) (number : ℕ) (k : List ℕ) (depth : ℕ)
    : Type 0 where
  pub planned : IsPlanned z u c
  pub place : HasBelow z u site k depth below
  pub hand : HasNode z u (record { layout = below.body.now.layout; number = number })
  pub other : node_made c ≢ Some (record { layout = below.body.now.layout; number = number })
  pub first_is : IsFirst first c below.stamp
  pub above : (i : ℕ) (x : Target) → target_at c i ≡ Some x → x.stamp.cell ≢ (site_stamp site).cell
  pub stays : Member (node below.node) (unlinked c) → ⊥

-- what is made of the change: the renewal, by a copy with this number and the words that the node would have, which the site names
pub record IsRenewed (first : Bool) (site : Site) (below : Below) (number : ℕ) (c c' : Change) : Type 0 where
  pub twin : Twin
  pub numbered : twin.number ≡ number
  pub layout : twin.body.layout ≡ below.body.now.layout
  pub words : twin.body.words ≡ worn_words first c below.body.now.words
  pub put : IsSitePlan site (child_word (node (twin_node twin))) c'.writes.items
  pub is : c' ≡ renewed first (site_stamp site) c'.writes.items below.stamp below.node twin c

-- ---- where the new node of the change is the worn node's parent afterwards, as where the worn node's prefix is split

-- a put of the change that stays: the words of the worn node, the second target, are its copy's
abbrev pub kept_put : Put → Option Put
kept_put p = if p.target == 1 then None else Some p

-- the change, and the renewal of its second target: the new node has this body instead, which names the copy
abbrev pub renewed_below : Target → Stamp → Body → Node → Twin → Change → Change
renewed_below top worn body n twin c = record c {
  targets = record { items = top ∷ gone worn ∷ [] };
  puts = record { items = filter_map kept_put c.puts.items };
  body = body;
  copy = Some twin;
  effects = record c.effects { unlinked = record { items = c.effects.unlinked.items ++ child_word (node n) ∷ [] } };
}

-- what is asked beside the words that are made
pub record MayRenewBelow (z : Sizes) (u : View) (c : Change) (site : Site) (o : Node) (below : Below) (number : ℕ) (k : List ℕ) (depth : ℕ)
    : Type 0 where
  pub planned : IsPlanned z u c
  pub place : HasBelow z u site k depth below
  pub both : c.targets.items ≡ kept (site_stamp site) ∷ kept below.stamp ∷ []
  pub new : node_made c ≡ Some o
  pub hand : HasNode z u (record { layout = below.body.now.layout; number = number })
  pub apart : o ≢ record { layout = below.body.now.layout; number = number }
  pub stays : Member (node below.node) (unlinked c) → ⊥

-- what is made of the change: the renewal, by a copy with this number and the words that the node would have, which the new node, a
-- Node4, names at the byte
pub record IsRenewedBelow (byte : ℕ) (below : Below) (number : ℕ) (c c' : Change) : Type 0 where
  pub twin : Twin
  pub numbered : twin.number ≡ number
  pub layout : twin.body.layout ≡ below.body.now.layout
  pub words : twin.body.words ≡ with_puts 1 c.puts.items below.body.now.words
  pub body : IsNodeOf Node4 (word_of c'.body) (prefix_of (word_of c.body))
      (with_child (child_of Node4 (word_of c.body)) byte (child_word (node (twin_node twin))))
  pub is : (top : Target) (xs : List Target) → c.targets.items ≡ top ∷ xs → c' ≡ renewed_below top below.stamp c'.body below.node twin c

-- the new node o has the worn node at the byte a, and with the other body the copy
pub record IsRenewalBelow (z : Sizes) (u : View) (c : Change) (site : Site) (o : Node) (a : ℕ) (body : Body) (below : Below) (twin : Twin)
    (k : List ℕ) (depth : ℕ) : Type 0 where
  pub planned : IsPlanned z u c
  pub place : HasBelow z u site k depth below
  pub both : c.targets.items ≡ kept (site_stamp site) ∷ kept below.stamp ∷ []
  pub new : node_made c ≡ Some o
  pub byte : a < 256
  pub meaning : IsBody o.layout (word_of c.body)
  pub names : child_of o.layout (word_of c.body) a ≡ Some (child_word (node below.node))
  pub layout : body.layout ≡ c.body.layout
  pub other : IsNodeOf o.layout (word_of body) (prefix_of (word_of c.body))
      (with_child (child_of o.layout (word_of c.body)) a (child_word (node (twin_node twin))))
  pub hand : HasNode z u (twin_node twin)
  pub apart : o ≢ twin_node twin
  pub same : twin.body.layout ≡ below.node.layout
  pub words : twin.body.words ≡ with_puts 1 c.puts.items below.body.now.words
  pub long : size below.node.layout ≤ length below.body.now.words
  pub stays : Member (node below.node) (unlinked c) → ⊥
