-- Upgrades, the claim, and writes: what the pass knows after each.
use Rattle.std.proofs.Common.{◌≡◌, Bool, ℕ, ◌+◌, ◌<◌, List, [], take, ⊎_elim, sym, refl, ap, ◌∙◌, subst, arith}
use Rattle.std.specs.Prelude.{Some, None}
use Rattle.art_cell.specs.Words.{size}
use Rattle.art_cell.specs.declared.cells.Cell.TheVariants as cell
use Rattle.art_cell.specs.declared.cells.Link.{Link}
use Rattle.art_cell.specs.declared.cells.Node.{Node}
use Rattle.art_plan.specs.Apply.{Fails, GivesUp, IsLocking, so_many}
use Rattle.art_plan.proofs.Holding.{Fills, claim_holds, fill_holds, lock_holds, none_filled, target_low, write_holds}
use Rattle.art_plan.specs.Changes.{IsLocked, IsTarget, OnlyLocks, put_at, target_at, targets}
use Rattle.art_plan.specs.Whole.{HoldsWhole, IsFilledBy, IsNewBy, IsWhole, made_at, made_word}
use Rattle.art_plan.specs.declared.changes.Change.{Change}
use Rattle.art_plan.specs.declared.changes.Put.{Put}
use Rattle.art_plan.specs.declared.changes.Target.{Target}
use Rattle.art_step.specs.Shows.{Rest, rest_of}
use Rattle.art_step.specs.Steps.Claim as claim
use Rattle.art_step.specs.Steps.Upgrade as upgrade
use Rattle.art_step.specs.Steps.Upgrade.{HasClaimedNone}
use Rattle.art_step.specs.Steps.Write as write
use Rattle.art_step.specs.Views.{IsHolding, IsInLimbo, IsNotInHand, Member, note_of}
use Rattle.art_step.specs.declared.faults.UpgradeFault.{UpgradeFault}
use Rattle.art_step.specs.declared.faults.UpgradeFault.TheVariants as fault
use Rattle.art_step.specs.declared.views.Fact.TheVariants.{Word}
use Rattle.art_step.specs.declared.views.Holding.{Holding}
use Rattle.art_step.specs.declared.views.InHand.{InHand}
use Rattle.art_step.specs.declared.views.Note.{Note}
use Rattle.art_step.specs.declared.views.Retired.{Retired}
use Rattle.art_step.specs.declared.views.Sizes.{Sizes}
use Rattle.art_step.specs.declared.views.View.{View}

-- ---- what stays

pub same_hand : (u v : View) → OnlyLocks u v → v.hand ≡ u.hand
same_hand u v same = ap (λ (r : Rest). r.hand) same.rest

pub same_limbo : (u v : View) → OnlyLocks u v → v.limbo ≡ u.limbo
same_limbo u v same = ap (λ (r : Rest). r.limbo) same.rest

-- a step that changes only what is held
pub locks_on : (u v w : View) → OnlyLocks u v → rest_of (record w { held = u.held; committed = u.committed }) ≡ rest_of (record v { held = u.held; committed = u.committed }) → w.stamps ≡ v.stamps → w.notes ≡ v.notes → w.failures ≡ v.failures → OnlyLocks u w
locks_on u v w same rest stamps notes failures = record {
  rest = rest ∙ same.rest;
  stamps = stamps ∙ same.stamps;
  notes = notes ∙ same.notes;
  failures = failures ∙ same.failures;
}

-- what is apart from the hand and the limbo of a view stays so
pub apart_on : (u v : View) (d : Link) → OnlyLocks u v → IsNotInHand v d × (IsInLimbo v d → ⊥) → IsNotInHand u d × (IsInLimbo u d → ⊥)
apart_on u v d same k = (
  λ i m. k.0 i (subst (λ (xs : List InHand). Member i xs) (sym (same_hand u v same)) m),
  λ e. k.1 (e.0, subst (λ (es : List Retired). Member e.0 es) (sym (same_limbo u v same)) e.1, e.2),
)

module _ (z : Sizes) (u : View) (c : Change) (planned : IsWhole z u c) where
  -- ---- a target is locked

  module _ (i : ℕ) (x : Target) (at : target_at c i ≡ Some x) (v w : View) (was : IsLocking u c i [] (so_many 0 0) v) where
    module _ (k : upgrade.Locks v w x.stamp) where
      abbrev now : Holding
      now = record { cell = x.stamp.cell; stamped = Some x.stamp.version; old = k.words; new = k.words }

      now_locked : IsLocked u i x [] now
      now_locked = record {
        cell = refl;
        stamped = refl;
        long = k.long;
        version = k.version;
        agrees = λ j value m. k.agrees j value (subst (λ (ns : List Note). Member (note_of x.stamp (Word j value)) ns) (sym was.same.notes) m);
        apart = λ d is. apart_on u v d was.same (k.apart d is);
        new = refl;
      }

      pub lock_on : IsLocking u c (i + 1) [] (so_many 0 0) w
      lock_on = record {
        same = locks_on u v w was.same (ap (λ (t : View). rest_of (record t { held = u.held; committed = u.committed })) k.is) (ap (λ (t : View). t.stamps) k.is) (ap (λ (t : View). t.notes) k.is) (ap (λ (t : View). t.failures) k.is);
        holds = subst (λ (hs : List Holding). HoldsWhole u c 0 (i + 1) [] (so_many 0 0) hs) (sym (ap (λ (t : View). t.held) k.is)) (lock_holds z u c planned i v.held was.holds x at now now_locked);
        early = λ low. ap (λ (t : View). t.committed) k.is;
      }

    -- or it is not
    refused_same : (e : UpgradeFault) → upgrade.Refused v w x.stamp e → (w.held ≡ v.held) × (w.committed ≡ v.committed) × (rest_of w ≡ rest_of v) × Fails u x e w
    refused_same (fault.Changed e) k = (
      ap (λ (t : View). t.held) k.3.is,
      ap (λ (t : View). t.committed) k.3.is,
      ap rest_of k.3.is,
      (k.0, k.1, k.2, ap (λ (t : View). t.failures) k.3.is ∙ ap (λ (n : ℕ). n + 1) was.same.failures),
    )
    refused_same (fault.Exhausted e) k = (
      ap (λ (t : View). t.held) k.2,
      ap (λ (t : View). t.committed) k.2,
      ap rest_of k.2,
      (k.0, k.1, ap (λ (t : View). t.failures) k.2 ∙ was.same.failures),
    )

    pub lock_fails : (e : UpgradeFault) → upgrade.Refused v w x.stamp e → GivesUp u c 0 i e w
    lock_fails e k =
        let o = refused_same e k in
        record {
          failed = record {
            index = i;
            target = x;
            is = at;
            fails = o.3;
            rest = ap (λ (r : Rest). record r { held = u.held; committed = u.committed }) o.2 ∙ was.same.rest;
          };
          holds = subst (λ (hs : List Holding). HoldsWhole u c 0 i [] (so_many 0 0) hs) (sym o.0) was.holds;
          early = λ low. o.1 ∙ was.early low;
        }

  -- nothing that is held was claimed
  pub none_claimed : (to : ℕ) (ps : List Put) (hs : List Holding) → HoldsWhole u c 0 to ps (so_many 0 0) hs → (h : Holding) → Member h hs → (x : ℕ) × (h.stamped ≡ Some x)
  none_claimed to ps hs holds h m = ⊎_elim
      (λ (t : IsTarget u c 0 to ps h). (t.target.stamp.version, t.locked.stamped))
      (λ (o : IsNewBy u c (so_many 0 0) h). let some = o.some in let none = none_filled o.which in absurd (omega arith))
      (holds.only h m)

  -- ---- a new node is claimed

  pub claim_on : (b : Bool) (filled filled' : Bool → ℕ) → Fills filled b 1 filled' → filled b ≡ 0 → (n : Node) (v w : View) → made_at b c ≡ Some n → IsLocking u c (targets c) [] filled v → claim.Outcome v w n
      → IsLocking u c (targets c) [] filled' w
  claim_on b filled filled' fills none n v w made was k = record {
    same = locks_on u v w was.same (ap (λ (t : View). rest_of (record t { held = u.held; committed = u.committed })) k.is) (ap (λ (t : View). t.stamps) k.is) (ap (λ (t : View). t.notes) k.is) (ap (λ (t : View). t.failures) k.is);
    holds = subst (λ (hs : List Holding). HoldsWhole u c 0 (targets c) [] filled' hs) (sym (ap (λ (t : View). t.held) k.is)) (claim_holds z u c planned b filled filled' fills none v.held was.holds n made now now_filled);
    early = λ low. ap (λ (t : View). t.committed) k.is;
  }
    where
      now : Holding
      now = record { cell = cell.Node n; stamped = None; old = k.words; new = k.words }

      now_filled : IsFilledBy u (made_word b c) n 1 now
      now_filled = record {
        cell = refl;
        stamped = refl;
        long = k.long;
        version = k.version;
        apart = λ e. k.apart (e.0, subst (λ (es : List Retired). Member e.0 es) (sym (same_limbo u v was.same)) e.1, e.2);
        words = λ i above below. absurd (omega arith);
      }

  -- ---- words are written

  write_same : (v w : View) (h : Holding) (i x : ℕ) → OnlyLocks u v → write.Outcome v w h i x → OnlyLocks u w
  write_same v w h i x same k = locks_on u v w same (ap (λ (t : View). rest_of (record t { held = u.held; committed = u.committed })) k.is) (ap (λ (t : View). t.stamps) k.is) (ap (λ (t : View). t.notes) k.is) (ap (λ (t : View). t.failures) k.is)

  pub fill_on : (b : Bool) (place : ℕ) (filled filled' : Bool → ℕ) → Fills filled b (place + 1) filled' → filled b ≡ place → (n : Node) (v w : View) → made_at b c ≡ Some n → 0 < place → place < size n.layout → IsLocking u c (targets c) [] filled v
      → ((h : Holding) → IsHolding v (cell.Node n) h → write.Outcome v w h place (made_word b c place)) → IsLocking u c (targets c) [] filled' w
  fill_on b place filled filled' fills so n v w made some low was row =
      let h = was.holds.new b n made (omega arith) in
      let at : IsFilledBy u (made_word b c) n place h.0 = subst (λ (p : ℕ). IsFilledBy u (made_word b c) n p h.0) so h.2 in
      let k = row h.0 (h.1, h.2.cell) in
      record {
        same = write_same v w h.0 place (made_word b c place) was.same k;
        holds = subst (λ (hs : List Holding). HoldsWhole u c 0 (targets c) [] filled' hs) (sym (ap (λ (t : View). t.held) k.is)) (fill_holds z u c planned b place filled filled' fills so v.held k.held was.holds n made low some h.0 h.1 at k.puts);
        early = λ above. ap (λ (t : View). t.committed) k.is ∙ was.early above;
      }

  pub write_on : (j : ℕ) (filled : Bool → ℕ) (p : Put) (x : Target) (v w : View) → put_at c j ≡ Some p → target_at c p.target ≡ Some x → IsLocking u c (targets c) (take j c.puts.items) filled v
      → ((h : Holding) → IsHolding v x.stamp.cell h → write.Outcome v w h p.place p.value) → IsLocking u c (targets c) (take (j + 1) c.puts.items) filled w
  write_on j filled p x v w at is was row =
      let low = target_low c p.target x is in
      let h = was.holds.each p.target x (omega arith) low is in
      let k = row h.0 (h.1, h.2.cell) in
      record {
        same = write_same v w h.0 p.place p.value was.same k;
        holds = subst (λ (hs : List Holding). HoldsWhole u c 0 (targets c) (take (j + 1) c.puts.items) filled hs) (sym (ap (λ (t : View). t.held) k.is)) (write_holds z u c planned j filled v.held k.held was.holds p at x is h.0 h.1 h.2 k.puts);
        early = λ above. ap (λ (t : View). t.committed) k.is ∙ was.early above;
      }

  -- ---- the beginning

  pub begins : u.held ≡ [] → IsLocking u c 0 [] (so_many 0 0) u
  begins free = record {
    same = record { rest = refl; stamps = refl; notes = refl; failures = refl };
    holds = subst (λ (hs : List Holding). HoldsWhole u c 0 0 [] (so_many 0 0) hs) (sym free) (record {
      each = λ i x above below at. absurd (omega arith);
      new = λ b n made some. let none = none_filled b in absurd (omega arith);
      only = λ h m. absurd m;
      single = λ h k m i e. absurd m;
    });
    early = λ low. absurd (omega arith);
  }
