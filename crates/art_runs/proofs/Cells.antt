-- What a look at a cell is founded on, of each machine that asks for one: where a node is begun, notes show that it is in the tree.
use Rattle.std.proofs.Common.{◌≡◌, ◌<◌, ℕ, List, [], Option, Some, None, refl, sym, ap, ◌∙◌, subst, take, ⊎_elim}
use Rattle.std.proofs.lemmas.Bool.{cond_both}
use Rattle.std.proofs.lemmas.Option.{same_Some}
use Rattle.std.specs.Option.{option_and_then, option_map}
use Rattle.std.specs.Prelude.{IfSome}
use Rattle.art_cell.specs.Children.{link_of}
use Rattle.art_cell.specs.Words.{child_of}
use Rattle.art_cell.specs.declared.cells.Cell.{Cell}
use Rattle.art_cell.specs.declared.cells.Cell.TheVariants as cell
use Rattle.art_cell.specs.declared.cells.Link.TheVariants.{Node as node}
use Rattle.art_cell.specs.declared.cells.Node.{Node}
use Rattle.art_change.proofs.ArtPlan.SeenBodies.{stands}
use Rattle.art_change.proofs.ArtPlan.WholeCells.{IsWhole, body_read, has_read, node_whole}
use Rattle.art_change.specs.ArtPlan.ChooseInsert.Bodies.{HasWords, IsFilled}
use Rattle.art_change.proofs.ArtFind.Allowed.{none_held}
use Rattle.art_change.specs.ArtFind.Descents as descents
use Rattle.art_step.specs.declared.actions.Action.{Action}
use Rattle.art_step.specs.declared.actions.Action.TheVariants.{Begin, Read}
use Rattle.art_change.specs.ArtFind.declared.descents.Stage.{Stage}
use Rattle.art_change.specs.ArtFind.declared.descents.Stage.TheVariants as descent
use Rattle.art_change.specs.ArtAttempt.Naming as naming
use Rattle.art_change.specs.ArtAttempt.Naming.{StillNames}
use Rattle.art_change.specs.ArtAttempt.Validate as validate
use Rattle.art_change.specs.ArtAttempt.Validate.{checks_of, reads_by}
use Rattle.art_change.specs.ArtAttempt.declared.naming.Naming.{Naming}
use Rattle.art_change.specs.ArtAttempt.declared.naming.Naming.TheVariants as names
use Rattle.art_change.specs.ArtAttempt.declared.validate.Cells.{Cells as CellsOf}
use Rattle.art_change.specs.ArtAttempt.declared.validate.Role.TheVariants.{Lower}
use Rattle.art_change.specs.ArtAttempt.declared.validate.Validate.{Validate}
use Rattle.art_change.specs.ArtAttempt.declared.validate.Validate.TheVariants as checks
use Rattle.art_key.specs.declared.bounds.Bound.{Bound}
use Rattle.art_change.specs.ArtLook.Looks as looks
use Rattle.art_change.specs.ArtLook.declared.looks.LookStage.{LookStage}
use Rattle.art_change.specs.ArtLook.declared.looks.LookStage.TheVariants as look
use Rattle.art_change.specs.ArtLook.declared.path_buffers.PathBuffer.{PathBuffer}
use Rattle.art_change.specs.ArtFind.ReadSets.{node_of}
use Rattle.art_change.specs.ArtFind.Rereadings.{reads_next}
use Rattle.art_change.specs.ArtFind.declared.read_sets.ReadSet.{ReadSet}
use Rattle.art_change.specs.ArtFind.declared.findings.Position.{Position}
use Rattle.art_change.specs.ArtFind.declared.read_sets.Rereading.{Rereading}
use Rattle.art_change.proofs.ArtPlan.ChildPlaces.{IsPlaceOf, place_byte}
use Rattle.art_runs.proofs.Calm.{IsCellFounded, IsLedTo}
use Rattle.art_step.proofs.Shows.{child_on}
use Rattle.art_step.specs.Knowledge.{HoldsAll, IsShape}
use Rattle.art_step.specs.Views.{IsChildPlace, note_of}
use Rattle.art_step.specs.declared.deeds.Deed.{Deed}
use Rattle.art_step.specs.declared.views.Fact.TheVariants.{Word}
use Rattle.art_step.specs.declared.views.Sizes.{Sizes}
use Rattle.art_step.specs.declared.views.Stamp.{Stamp}
use Rattle.art_step.specs.declared.views.View.{View}
use Rattle.art_tree.specs.Heaps.{Cells, heap_of}
use Rattle.art_tree.specs.Tree.{StandsAt, down, path_past}

-- ---- descents and looks

pub descent_founded : (z : Sizes) (k : List ℕ) (what : Option ℕ → Deed) (depth : ℕ) (s : Stage) (u v : View) → v.held ≡ [] → descents.StageFits z k what depth s u v
    → IfSome (descents.asks s) (IsCellFounded z v)
descent_founded z k what depth descent.Start u v free fits = (free, tt)
descent_founded z k what depth (descent.Anchor x) u v free fits = tt
descent_founded z k what depth (descent.Child x d) u v free fits = (fits.1.stamp.stamp, none_held v x.cell free)
descent_founded z k what depth (descent.Below x n) u v free fits = (free, (x, fits.1.stamp.stamp, λ s shape holds. (take depth k, (fits.1.shows s shape holds).at)))
descent_founded z k what depth (descent.Both x y n) u v free fits = (fits.1.stamp.stamp, none_held v x.cell free)
descent_founded z k what depth (descent.Header y n) u v free fits = tt
descent_founded z k what depth (descent.Prefix seen i r) u v free fits = tt
descent_founded z k what depth (descent.Keys seen i) u v free fits = tt
descent_founded z k what depth (descent.Slot seen place) u v free fits = tt
descent_founded z k what depth (descent.Value x l) u v free fits = tt
descent_founded z k what depth (descent.Length x l value) u v free fits = tt
descent_founded z k what depth (descent.Bytes seen i r) u v free fits = tt
descent_founded z k what depth (descent.Decided x found) u v free fits = (fits.2.stamp, none_held v x.cell free)
descent_founded z k what depth (descent.Ended o) u v free fits = tt

pub look_founded : (z : Sizes) (lo : List ℕ) (hi : Bound) (depth : ℕ) (s : LookStage) (t : PathBuffer) (u v : View) → v.held ≡ [] → looks.StageFits z lo hi depth s t u v
    → IfSome (looks.asks s) (IsCellFounded z v)
look_founded z lo hi depth look.Start t u v free fits = (free, tt)
look_founded z lo hi depth (look.Anchor x) t u v free fits = tt
look_founded z lo hi depth (look.Child x d) t u v free fits = (fits.1.stamp.stamp, none_held v x.cell free)
look_founded z lo hi depth (look.Below x n) t u v free fits = (free, (x, fits.1.stamp.stamp, λ s shape holds. (t.path.items, (fits.1.shows s shape holds).at)))
look_founded z lo hi depth (look.Both x y n) t u v free fits = (fits.1.stamp.stamp, none_held v x.cell free)
look_founded z lo hi depth (look.Header y n) t u v free fits = tt
look_founded z lo hi depth (look.Prefix seen i) t u v free fits = tt
look_founded z lo hi depth (look.Keys seen f i) t u v free fits = tt
look_founded z lo hi depth (look.Slot a) t u v free fits = tt
look_founded z lo hi depth (look.Value x l) t u v free fits = tt
look_founded z lo hi depth (look.Length x l value) t u v free fits = tt
look_founded z lo hi depth (look.Bytes seen i) t u v free fits = tt
look_founded z lo hi depth (look.Decided x r o) t u v free fits = (fits.2.stamp, none_held v x.cell free)
look_founded z lo hi depth (look.Ended r o) t u v free fits = tt

-- ---- what begins no cell

-- it is asked for nothing that begins a cell
abbrev pub BeginsNone : Option Action → Type 0
BeginsNone o = (c : Cell) → o ≡ Some (Begin c) → ⊥

pub reads_only : (x : Stamp) (r : Rereading) → BeginsNone (reads_next x r)
reads_only x r = cond_both _ (Some (Read x r.place)) None BeginsNone (λ e c is. cc) (λ e c is. cc)

stamp_reads_only : (r : Rereading) (x : Option Stamp) → BeginsNone (option_and_then (reads_by r) x)
stamp_reads_only r (Some x) = reads_only x r
stamp_reads_only r None = λ c is. cc

stamp_checks_only : (x : Option Stamp) → BeginsNone (option_map checks_of x)
stamp_checks_only (Some x) = λ c is. cc
stamp_checks_only None = λ c is. cc

pub validate_begins_none : (t : Position) (o : CellsOf) (s : Validate) → BeginsNone (validate.asks t o s)
validate_begins_none t o (checks.Read role r) = stamp_reads_only r (validate.stamp_of t o role)
validate_begins_none t o (checks.Header r) = stamp_reads_only r (validate.stamp_of t o Lower)
validate_begins_none t o (checks.Check role) = stamp_checks_only (validate.stamp_of t o role)
validate_begins_none t o checks.Torn = stamp_checks_only (validate.stamp_of t o Lower)
validate_begins_none t o (checks.Ended e) = λ c is. cc

-- ---- the lower node

module _ (z : Sizes) (k : List ℕ) (t : Position) (n : Node) (read_set : ReadSet) (u v : View) (fits : StillNames z k t n read_set u v) where
  abbrev here : Node
  here = fits.here

  whole : IsWhole z v t.stamp (node_of read_set)
  whole = node_whole z k t read_set v fits.stands.standing fits.whole

  filled : IsFilled t.stamp.cell (node_of read_set) (body_read here (node_of read_set))
  filled m at =
      let same : cell.Node here ≡ cell.Node m = sym fits.is ∙ at in
      let one : here ≡ m = cc in
      subst (λ (p : Node). HasWords p (node_of read_set) (body_read here (node_of read_set))) one (has_read here (node_of read_set))

  -- the word that was read of the node is that of a byte's child
  lower_stands : (s : Cells) → IsShape z s → HoldsAll v t.stamp s → (q : List ℕ) × StandsAt (heap_of s) (node n) q
  lower_stands s shape holds =
      let at : StandsAt (heap_of s) (node here) whole.path.0 = stands z v t.stamp (node_of read_set) whole s shape holds here fits.is (body_read here (node_of read_set)) filled in
      let name = fits.named in
      let word : s (cell.Node here) name.place ≡ name.word =
      subst (λ (c : Cell). s c name.place ≡ name.word) fits.is (holds (note_of t.stamp (Word name.place name.word)) (whole.words.each name.place name.word name.read).noted refl) in
      let place : IsPlaceOf here.layout name.place = subst (λ (c : Cell). IsChildPlace c name.place) fits.is name.child in
      ⊎_elim
      (λ (none : s (cell.Node here) name.place ≡ 0).
      let no : None ≡ Some (node n) = ap link_of (sym none ∙ word) ∙ name.names in
      absurd (cc))
      (λ (some : (b : ℕ) × (b < 256) × (child_of here.layout (s (cell.Node here)) b ≡ Some (s (cell.Node here) name.place))).
      let child : (heap_of s).child here some.0 ≡ Some (node n) = child_on s here some.0 (Some (s (cell.Node here) name.place)) some.1 some.2 ∙ (ap link_of word ∙ name.names) in
      (path_past (heap_of s) here whole.path.0 some.0, down some.0 at child refl))
      (place_byte here.layout (s (cell.Node here)) name.place (shape.nodes here whole.path.0 at).body place)

  lower_led : IsLedTo z v (cell.Node n)
  lower_led = (t.stamp, fits.stands.standing.stamp.stamp, λ s shape holds. lower_stands s shape holds)

pub naming_begins : (z : Sizes) (k : List ℕ) (t : Position) (n : Node) (m : Naming) (read_set : ReadSet) (reads : List (Option ℕ)) (u v : View) → naming.StageFits z k t n m read_set reads u v
    → (c : Cell) → naming.asks t m ≡ Some (Begin c) → IsLedTo z v c
naming_begins z k t n (names.Begin a) read_set reads u v fits c is =
    let same : Begin (cell.Node a) ≡ Begin c = same_Some _ _ is in
    let one : cell.Node a ≡ c = cc in
    subst (IsLedTo z v) one (subst (λ (b : Node). IsLedTo z v (cell.Node b)) (sym fits.1) (lower_led z k t n read_set u v fits.0))
naming_begins z k t n (names.Check x) read_set reads u v fits c is = absurd (cc)
naming_begins z k t n (names.Ended e) read_set reads u v fits c is = absurd (cc)
