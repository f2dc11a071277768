-- What a list of turns makes of an op.
use Rattle.std.proofs.Common.{◌≡◌, ℕ, List, Some}
use Rattle.std.specs.List.{slice_get}
use Rattle.art_change.specs.Calls.{IsCalling, Wish, told_by}
use Rattle.art_runs.proofs.Apart.{run_apart}
use Rattle.art_runs.proofs.Endings.{turns_end}
use Rattle.art_runs.proofs.Told.{calling_tells}
use Rattle.art_runs.proofs.Turns.{carried, makes_so, op_makes, told_before}
use Rattle.art_runs.specs.Ops.{IsRunOfOps, caller_in}
use Rattle.art_runs.specs.Runs.{IsCarriedOn}
use Rattle.art_runs.specs.declared.ops.Op.{Op}
use Rattle.art_step.specs.WordRows.{view_at}
use Rattle.art_step.specs.declared.views.View.{View}
use Rattle.art_world.specs.Contents.{Contents}

pub carried_on : (p : ℕ) (ts : List ℕ) (k : Contents) (xs : List Op) (l : Contents) (ys : List Op) → IsRunOfOps ts k xs l ys → (a : Op) (w : Wish) (given most : ℕ) (u : View) → slice_get xs p ≡ Some a
    → IsCalling k.sizes w given most u (caller_in a) (view_at k.views p) → IsCarriedOn ts k xs l ys p a w given most u
carried_on p ts k xs l ys run a w given most u is calling =
    let c = carried p a w given most u ts k xs l ys run is calling in
    let tells = calling_tells l.sizes w given most u (caller_in c.op) (view_at l.views p) c.calling in
    record {
      now = c.op;
      is = c.is;
      calling = c.calling;
      once = op_makes p ts k xs l ys run a w given most u is calling;
      told = λ what made. told_before p ts k xs l ys run w u what made tells;
      called = λ fresh o at. c.ends fresh o at l.sizes w given most u (view_at l.views p) c.calling;
      answers = λ fresh none o at. makes_so p ts k xs l ys run u none.1 (told_by w o) (c.ends fresh o at l.sizes w given most u (view_at l.views p) c.calling).tells;
      ends = λ many. turns_end p ts k xs l ys run a c.op is c.is w given most u c.calling many;
      apart = λ schema typed apart. run_apart schema p ts k xs l ys run typed a c.op is c.is apart;
    }
