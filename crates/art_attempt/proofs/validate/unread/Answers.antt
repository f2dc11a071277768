use Rattle.std.proofs.Common.{◌≡◌, ◌∙◌, ℕ, List, Option, Some, sym, subst}
use Rattle.std.proofs.lemmas.Option.{same_Some}
use Rattle.std.specs.Option.{IfNone}
use Rattle.art_find.specs.Rereadings.{AreKnown}
use Rattle.art_find.specs.declared.read_sets.Rereading.{Rereading}
use Rattle.art_attempt.proofs.RereadsGoOn.{reads_more}
use Rattle.art_attempt.proofs.Validates.{begins}
use Rattle.art_attempt.specs.Validate.{Knows, KnowsWords, reads_of, stamp_of}
use Rattle.art_step.specs.Views.{size_of}
use Rattle.art_step.specs.declared.views.Sizes.{Sizes}
use Rattle.art_step.specs.declared.views.Stamp.{Stamp}
use Rattle.art_step.specs.declared.views.View.{View}
use Rattle.art_attempt.proofs.validate.unread.Goals as goal

pub returns-clause-fits : goal.returns-clause-fits
returns-clause-fits c z k u v knows =
    let x = c.in_ok-stamp.stamp in
    let is = sym c.stamp.ensures ∙ c.in_ok-stamp.was in
    record {
      stamp = x;
      is = is;
      fits = begins z k c.args.position.now c.args.cells.now c.args.read_set.now c.args.lower.now u v knows c.args.role x c.new-rereading.result c.reads_of.result.now is c.reads_of.ensures (c.new-rereading.ensures.fits z v x);
      more = reads_more x c.new-rereading.result c.in_ok-next.field-0 (sym c.next.ensures.asks ∙ c.in_ok-next.was);
    }

pub returns-in_err-next-clause-whole : goal.returns-in_err-next-clause-whole
returns-in_err-next-clause-whole c =
    let t = c.args.position.now in
    let o = c.args.cells.now in
    let read_set = c.args.read_set.now in
    let lower = c.args.lower.now in
    let x = c.in_ok-stamp.stamp in
    let is : stamp_of t o c.args.role ≡ Some x = sym c.stamp.ensures ∙ c.in_ok-stamp.was in
    let reads = reads_of read_set lower c.args.role in
    let whole : (z : Sizes) (k : List ℕ) (u v : View) → Knows z k t o read_set lower u v → KnowsWords t o read_set lower c.args.role = λ z k u v knows y at.
    subst (λ (s : Stamp). AreKnown reads 1 (size_of s.cell)) (same_Some {A = Stamp} x y (sym is ∙ at))
    (c.next.ensures.all (c.in_err-next.was) z v reads
    (begins z k t o read_set lower u v knows c.args.role x c.new-rereading.result c.reads_of.result.now is c.reads_of.ensures (c.new-rereading.ensures.fits z v x))) in
    subst (λ (r : Option Rereading). IfNone r ((z : Sizes) (k : List ℕ) (u v : View) → Knows z k t o read_set lower u v → KnowsWords t o read_set lower c.args.role)) (sym c.from_residual-in_err-next.ensures) whole
