-- A word of the node was read: it is read on, or its header has told that the node stays, or gives way to a smaller one.
use Rattle.std.proofs.Common.{◌≡◌, ◌≢◌, ◌<◌, ◌≤◌, ℕ, nat_lt, true, false, Some, None, ⊎_elim, ◌∙◌, sym, subst, arith}
use Rattle.std.proofs.lemmas.Bool.{cases_Bool, ltb-true, ltb-false}
use Rattle.art_find.proofs.Runs.{one_read}
use Rattle.art_attempt.proofs.Standing.{here_after}
use Rattle.art_attempt.proofs.Validates.{read_told}
use Rattle.art_attempt.proofs.Asked.{reads_look}
use Rattle.art_attempt.proofs.Steps.{cell_later, cell_step}
use Rattle.art_attempt.proofs.Tries.{later_then}
use Rattle.art_attempt.specs.Naming.{StillStands}
use Rattle.art_attempt.specs.Trying.{HasSpent, IsLater}
use Rattle.art_attempt.specs.declared.attempts.Room.{Room}
use Rattle.art_cell.specs.Reads.{word_read}
use Rattle.art_cell.specs.declared.cells.Layout.{Layout}
use Rattle.art_attempt.proofs.Chosen.{loss_known}
use Rattle.art_attempt.proofs.CaseCells.{reading_so}
use Rattle.art_attempt.specs.Attempts.{EndsWithin, IsReadingOn, reading_asks, reading_most}
use Rattle.art_attempt.specs.Cases.{HasLeaf}
use Rattle.art_attempt.specs.declared.attempts.Job.{Job}
use Rattle.art_find.proofs.Keeping.{cell_fits}
use Rattle.art_find.specs.Findings.{IsStanding}
use Rattle.art_find.specs.declared.findings.Position.{Position}
use Rattle.art_find.specs.ReadSets.{above_of, node_of}
use Rattle.art_find.specs.Kept.{StaysRead}
use Rattle.art_find.specs.Rereadings.{RereadingFits}
use Rattle.art_find.specs.declared.read_sets.ReadSet.{ReadSet}
use Rattle.art_find.specs.declared.read_sets.Rereading.{Rereading}
use Rattle.art_plan.specs.ChooseRemove.Losses.{loss_at}
use Rattle.art_plan.specs.declared.choose_remove.Loss.TheVariants as loss
use Rattle.art_step.specs.Acting.{Answers, telling, word_in}
use Rattle.art_step.specs.declared.actions.Action.{Action}
use Rattle.art_step.specs.declared.actions.Answer.{Answer}
use Rattle.art_step.specs.Steps.Read.{Outcome}
use Rattle.art_step.specs.Views.{size_of}
use Rattle.art_step.specs.declared.deeds.Deed.{Deed}
use Rattle.art_step.specs.declared.views.Sizes.{Sizes}
use Rattle.art_step.specs.declared.views.View.{View}

-- the word was noted, and the rereading has come further
pub record IsNotedBy (t : Position) (r : Room) (q : Rereading) (word : ℕ) (q' : Rereading) (read_set : ReadSet) : Type 0 where
  pub steps : q.place < q'.place
  pub above : above_of read_set ≡ above_of r.read_set
  pub stays : word_read (node_of r.read_set) q.place ≡ None → StaysRead (node_of r.read_set) (node_of read_set)
  pub fits : (z : Sizes) (v w : View) → RereadingFits z v t.stamp q (node_of r.read_set) → q.place < size_of t.stamp.cell
      → Outcome z v w t.stamp q.place word → RereadingFits z w t.stamp q' (node_of read_set)

module _ (z : Sizes) (u : View) (j : Job) (t : Position) (d : Deed) (q q' : Rereading) (r : Room) (v w : View) (read_set : ReadSet) (word : ℕ) (asked : Action) (answer : Answer) (h : IsReadingOn z u j t q r v)
    (more : q.place < size_of t.stamp.cell) (is : reading_asks t q ≡ Some asked) (row : Answers z (telling d) asked answer v w) (at : word ≡ word_in answer)
    (noted : IsNotedBy t r q word q' read_set) where
  abbrev pub reread : Room
  reread = record r { read_set = read_set }

  got : Outcome z v w t.stamp q.place word
  got = subst (λ (n : ℕ). Outcome z v w t.stamp q.place n) (sym at) (read_told z d t.stamp q asked answer v w more is row)

  now : RereadingFits z w t.stamp q' (node_of read_set)
  now = noted.fits z v w h.fits more got

  later : IsLater v w
  later = cell_later z d asked answer v w (reads_look t.stamp q asked is) row

  past : IsLater h.early w
  past = later_then h.early v w h.later later

  reads : StillStands z r.row.key.items t read_set h.early w
  reads = here_after z r.row.key.items t r.read_set read_set h.early v w 1 (one_read z v w t.stamp q.place word got) h.reads noted.above now.kept

  spent : HasSpent z u (reading_most q') w
  spent limited =
      let spent = h.spent limited in
      let failed = later.failures in
      let step = cell_step z d asked answer v w (reads_look t.stamp q asked is) row in
      let further = noted.steps in
      let cell = cell_fits t.stamp.cell in
      omega (arith, spent, step, further, more, cell, failed)

  so : (n : ℕ) → HasSpent z u n w → EndsWithin z u n reread w
  so n few = reading_so z u h.early h.base reread w past h.has reads.reads n few

  -- the leaf stands there
  pub reread_standing : IsStanding z r.row.key.items t read_set w
  reread_standing = reads.standing

  pub reread_leaf : HasLeaf t reread
  reread_leaf = record { found = h.leaf.found; key = h.leaf.key }

  pub reread_so : EndsWithin z u 21700 reread w
  reread_so = so 21700 (λ limited. let few = spent limited in omega (arith, few))

  -- it goes as before
  pub reread_on : loss_at t read_set ≡ loss.Merges → IsReadingOn z u j t q' reread w
  reread_on merges = record {
    early = h.early;
    base = h.base;
    later = past;
    spent = spent;
    has = h.has;
    job = h.job;
    leaf = reread_leaf;
    reads = reads;
    merges = merges;
    fits = now;
  }

  -- the header was known before, and told that it goes
  header_known : 2 ≤ q.place → loss_at t read_set ≡ loss.Merges
  header_known high =
      let cell = cell_fits t.stamp.cell in
      let stays = noted.stays (h.fits.unknown (omega (arith, more, cell))) in
      let header = h.fits.known 1 (omega arith) (omega (arith, high)) in
      loss_known t r.read_set read_set header.0 header.1 stays ∙ h.merges

  -- so where it tells otherwise now, this was the first word that was read, and few steps were made
  pub reread_first : loss_at t read_set ≢ loss.Merges → EndsWithin z u 1203 reread w
  reread_first other = so 1203 (λ limited.
      let spent = h.spent limited in
      let failed = later.failures in
      let step = cell_step z d asked answer v w (reads_look t.stamp q asked is) row in
      ⊎_elim
      (λ (low : nat_lt q.place 2 ≡ true). let first = ltb-true q.place 2 low in omega (arith, spent, step, failed, first))
      (λ (high : nat_lt q.place 2 ≡ false). absurd (other (header_known (ltb-false q.place 2 high))))
      (cases_Bool (nat_lt q.place 2)))

  pub reread_shrinks : (layout : Layout) → loss_at t read_set ≡ loss.Shrinks layout → EndsWithin z u 1203 reread w
  reread_shrinks layout shrinks = reread_first (λ merges. let no : loss.Shrinks layout ≡ loss.Merges = sym shrinks ∙ merges in cc)
