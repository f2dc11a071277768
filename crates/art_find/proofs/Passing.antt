-- A finding that goes on from node to node.
use Rattle.std.proofs.Common.{◌≡◌, ◌+◌, ◌<◌, ℕ, Bool, true, false, List, Option, Some, None, refl, sym, subst, ◌∙◌, arith}
use Rattle.art_cell.specs.declared.cells.Link.{Link}
use Rattle.art_cell.specs.declared.cells.Link.TheVariants.{Leaf as leaf, Node as node}
use Rattle.art_find.proofs.Descending.{on_looked, on_still, on_then, one_made}
use Rattle.art_find.proofs.Hearing.{CameTo, heard, looked_on}
use Rattle.art_find.specs.Descents.{Fits, Stays, asks, ended_at, most_steps, stage_below, staged, stands_on}
use Rattle.art_find.specs.Findings.{Enters, FindingFits, Keeps, LookedOn}
use Rattle.art_find.specs.Nodes.{Arrives, Came, CameOff, FitsAt, Moment, moment}
use Rattle.art_find.specs.declared.descents.NodeSeen.{NodeSeen}
use Rattle.art_find.specs.declared.findings.Above.{Above}
use Rattle.art_find.specs.declared.findings.Finding.{Finding}
use Rattle.art_find.specs.declared.read_sets.ReadSet.{ReadSet}
use Rattle.art_step.specs.Acting.{Answers, goes_on, telling}
use Rattle.art_step.specs.declared.actions.Action.{Action}
use Rattle.art_step.specs.declared.actions.Action.TheVariants.{Check}
use Rattle.art_step.specs.declared.actions.Answer.{Answer}
use Rattle.art_node.specs.declared.searches.Sought.{Sought}
use Rattle.art_node.specs.declared.searches.Sought.TheVariants as sought
use Rattle.art_step.specs.declared.deeds.Deed.{Deed}
use Rattle.art_step.specs.declared.views.Sizes.{Sizes}
use Rattle.art_step.specs.declared.views.Stamp.{Stamp}
use Rattle.art_step.specs.declared.views.View.{View}

-- ---- stages

-- the search is one on the node's cell
pub staged_stands : (r : Sought) (seen : NodeSeen) → stands_on (staged r seen) ≡ Some seen.stamp
staged_stands (sought.Keys i) seen = refl
staged_stands (sought.Child p) seen = refl
staged_stands sought.Nothing seen = refl

-- no cell is entered at the check of the cell that names it
pub below_keeps : (x : Stamp) (d : Link) (depth : ℕ) (above : Option Above) (read_set : ReadSet) → Enters (Some (Check x)) (asks (stage_below x d)) depth above read_set above read_set
below_keeps x (leaf l) depth above read_set = (refl, refl)
below_keeps x (node n) depth above read_set = (refl, refl)

-- ---- steps

pub came_now : (k : List ℕ) (m : Finding) (a : Moment) → Came k m a m a
came_now k m a = record { sizes = refl; made = refl; on = on_still a.sizes k m a.kept a.view }

pub found_on : (k : List ℕ) (m : Finding) (a : Moment) (n : Finding) (b : Moment) → Came k m a n b → FitsAt k m a → FitsAt k n b
found_on k m a n b came f = (f.0, f.1, subst (λ (z : Sizes). FindingFits z k f.0 n b.kept f.1 b.view) (sym came.sizes) (came.on.fits f.0 f.1 f.2))

-- nothing more was done
pub came_still : (k : List ℕ) (m : Finding) (a : Moment) (n o : Finding) (z z' : Sizes) (v w : View) (kept kept' : ReadSet) (left : ℕ) → z' ≡ z → w ≡ v → kept' ≡ kept → o ≡ n
    → Came k m a n (moment z v kept left) → Came k m a o (moment z' w kept' left)
came_still k m a n o z z' v w kept kept' left sizes view same is came =
    subst (λ (f : Finding). Came k m a f (moment z' w kept' left)) (sym is)
    (subst (λ (r : ReadSet). Came k m a n (moment z' w r left)) (sym same)
    (subst (λ (t : View). Came k m a n (moment z' t kept left)) (sym view)
    (subst (λ (y : Sizes). Came k m a n (moment y v kept left)) (sym sizes) came)))

-- one step more
module _ (k : List ℕ) (n : Finding) (b : Moment) (o : Finding) (c : Moment) (same : c.sizes ≡ b.sizes) (one : c.left + 1 ≡ b.left) where
  -- which did not fail
  pub came_then : LookedOn b.sizes k true n b.kept b.view o c.kept c.view → (m : Finding) (a : Moment) → Came k m a n b → Came k m a o c
  came_then looked m a came =
      let here : LookedOn a.sizes k true n b.kept b.view o c.kept c.view = subst (λ (z : Sizes). LookedOn z k true n b.kept b.view o c.kept c.view) came.sizes looked in
      let step = one_made a.sizes k true n b.kept b.view o c.kept c.view here in
      let made = came.made in
      record {
        sizes = same ∙ came.sizes;
        made = omega (arith, step, made, one);
        on = on_then a.sizes k m a.kept a.view n b.kept b.view o c.kept c.view came.on (on_looked a.sizes k n b.kept b.view o c.kept c.view here);
      }

  pub came_off : LookedOn b.sizes k false n b.kept b.view o c.kept c.view → (m : Finding) (a : Moment) → Came k m a n b → CameOff k m a o c
  came_off looked m a came =
      let here : LookedOn a.sizes k false n b.kept b.view o c.kept c.view = subst (λ (z : Sizes). LookedOn z k false n b.kept b.view o c.kept c.view) came.sizes looked in
      let step = one_made a.sizes k false n b.kept b.view o c.kept c.view here in
      let made = came.made in
      record {
        made = omega (arith, step, made, one);
        back = record { middle = n; kept = b.kept; view = b.view; on = came.on; back = here };
      }

  -- which may have failed
  pub arrives : (on : Bool) → LookedOn b.sizes k on n b.kept b.view o c.kept c.view → (m : Finding) (a : Moment) → Came k m a n b → Arrives on k m a o c
  arrives true looked = came_then looked
  arrives false looked = came_off looked

-- a step that went on to another stage was made and heard
pub heard_on : (z : Sizes) (k : List ℕ) (v w : View) (m n : Finding) (read_set read_set' : ReadSet) (asked : Action) (answer : Answer) → asks m.descent.stage ≡ Some asked
    → ((d : Deed) → Answers z (telling d) asked answer v w) → goes_on answer ≡ true → most_steps m.descent.depth m.descent.stage < most_steps n.descent.depth n.descent.stage
    → Stays answer m.descent n.descent → ended_at n.descent.stage ≡ None
    → ((what : Option ℕ → Deed) (u : View) → Fits z k what m.descent u v → Fits z k what n.descent u w)
    → Keeps answer (asks m.descent.stage) (asks n.descent.stage) n.descent.depth m.above read_set n.above read_set' → LookedOn z k true m read_set v n read_set' w
heard_on z k v w m n read_set read_set' asked answer is row goes further stays going fits keeps =
    let came : CameTo z k asked answer m.descent n.descent v w = record {
      further = λ on. further;
      anew = λ off. let both : true ≡ false = sym goes ∙ off in absurd (cc);
      stays = stays;
      going = going;
      fits = fits;
    } in
    looked_on z k true m n read_set read_set' v w asked answer is row (sym goes)
    (heard z k true m n read_set read_set' v w asked answer is row n.descent refl came keeps)
