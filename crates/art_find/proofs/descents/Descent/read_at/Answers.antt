use Rattle.std.proofs.Common.{◌≡◌, ◌+◌, ◌<◌, ◌∙◌, ap, refl, sym, subst}
use Rattle.art_cell.specs.declared.cells.Cell.TheVariants as cell
use Rattle.art_find.specs.Descents.{most_steps, stands_on}
use Rattle.art_step.specs.declared.actions.Answer.TheVariants.{Word as word_told}
use Rattle.art_step.specs.declared.actions.Action.TheVariants.{Read, ReadLeaf}
use Rattle.art_find.specs.declared.descents.Descent.{Descent}
use Rattle.art_find.specs.declared.descents.Stage.{Stage}
use Rattle.art_find.specs.declared.descents.Stage.TheVariants.{Anchor, Header, Prefix, Keys, Slot, Value, Length, Bytes}
use Rattle.art_step.specs.declared.views.Fact.TheVariants.{Word}
use Rattle.art_step.proofs.Shows.{read_rest, read_stamp}
use Rattle.art_find.proofs.Stages.{at_stage, leaf_on, leaf_still, leaf_word, node_noted, node_on, node_still, node_word, reads_on}
use Rattle.art_find.proofs.descents.Descent.read_at.Goals as goal

-- it stands at the stage that it is known to be at
module _ (m : Descent) (now : Stage) (is : m.stage ≡ now) (m' : Descent) where
  later : most_steps m.depth now < most_steps m'.depth m'.stage → most_steps m.depth m.stage < most_steps m'.depth m'.stage
  later steps = subst (λ (t : Stage). most_steps m.depth t < most_steps m'.depth m'.stage) (sym is) steps

  stays : stands_on m'.stage ≡ stands_on now → stands_on m'.stage ≡ stands_on m.stage
  stays same = same ∙ sym (ap stands_on is)

pub returns-in-Anchor-clause-fits : goal.returns-in-Anchor-clause-fits
returns-in-Anchor-clause-fits c = λ z what u v w asked fits is row.
    let m = c.args.self.now in
    let x = c.in-Anchor.stamp in
    let word = c.args.word in
    let both = at_stage z c.args.key.now what m.depth m.stage (Anchor x) asked (word_told word) u v w (c.requires.at ∙ c.in-Anchor.is) is fits row in
    let read = both.1 (Read x 1) refl in
    c.see_root.ensures.fits z what u w (reads_on u v w (read_rest v w x (Word 1 word) read.is) both.0.0) (read_stamp z v w x (Word 1 word) x read.is both.0.1) both.0.2
    (node_word z u v w x 1 word cell.Anchor both.0.2 read) (node_noted z u v w x 1 word read)

pub returns-in-Header-clause-fits : goal.returns-in-Header-clause-fits
returns-in-Header-clause-fits c = λ z what u v w asked fits is row.
    let m = c.args.self.now in
    let y = c.in-Header.stamp in
    let n = c.in-Header.node in
    let word = c.args.word in
    let both = at_stage z c.args.key.now what m.depth m.stage (Header y n) asked (word_told word) u v w (c.requires.at ∙ c.in-Header.is) is fits row in
    let read = both.1 (Read y 1) refl in
    let there = node_word z u v w y 1 word (cell.Node n) both.0.0.cell read in
    let still = node_still z u v w y 1 word _ read both.0.2 in
    c.see_header.ensures.fits z what u w (node_on z u v w y 1 word n both.0.0 read) (λ s shape holds. record { at = still s shape holds; is_header = there s shape holds })

pub returns-in-Prefix-clause-fits : goal.returns-in-Prefix-clause-fits
returns-in-Prefix-clause-fits c = λ z what u v w asked fits is row.
    let m = c.args.self.now in
    let seen = c.in-Prefix.seen in
    let word = c.args.word in
    let place = 2 + c.in-Prefix.number in
    let both = at_stage z c.args.key.now what m.depth m.stage (Prefix seen c.in-Prefix.number c.in-Prefix.before) asked (word_told word) u v w (c.requires.at ∙ c.in-Prefix.is) is fits row in
    let read = both.1 (Read seen.stamp place) refl in
    c.see_prefix.ensures.fits z what u w (node_on z u v w seen.stamp place word seen.node both.0.0 read) (node_still z u v w seen.stamp place word _ read both.0.1.shows)
    (node_word z u v w seen.stamp place word (cell.Node seen.node) both.0.0.cell read)

pub returns-in-Keys-clause-fits : goal.returns-in-Keys-clause-fits
returns-in-Keys-clause-fits c = λ z what u v w asked fits is row.
    let m = c.args.self.now in
    let seen = c.in-Keys.seen in
    let word = c.args.word in
    let place = 10 + c.in-Keys.number in
    let both = at_stage z c.args.key.now what m.depth m.stage (Keys seen c.in-Keys.number) asked (word_told word) u v w (c.requires.at ∙ c.in-Keys.is) is fits row in
    let read = both.1 (Read seen.stamp place) refl in
    c.see_keys.ensures.fits z what u w (node_on z u v w seen.stamp place word seen.node both.0.0 read) (node_still z u v w seen.stamp place word _ read both.0.1.shows)
    (node_word z u v w seen.stamp place word (cell.Node seen.node) both.0.0.cell read)

pub returns-in-Slot-clause-fits : goal.returns-in-Slot-clause-fits
returns-in-Slot-clause-fits c = λ z what u v w asked fits is row.
    let m = c.args.self.now in
    let seen = c.in-Slot.seen in
    let place = c.in-Slot.place in
    let word = c.args.word in
    let both = at_stage z c.args.key.now what m.depth m.stage (Slot seen place) asked (word_told word) u v w (c.requires.at ∙ c.in-Slot.is) is fits row in
    let read = both.1 (Read seen.stamp place) refl in
    c.see_slot.ensures.fits z what u w (node_on z u v w seen.stamp place word seen.node both.0.0 read) (node_still z u v w seen.stamp place word _ read both.0.1.shows)
    (node_word z u v w seen.stamp place word (cell.Node seen.node) both.0.0.cell read) (node_noted z u v w seen.stamp place word read)

pub returns-in-Value-clause-fits : goal.returns-in-Value-clause-fits
returns-in-Value-clause-fits c = λ z what u v w asked fits is row.
    let m = c.args.self.now in
    let x = c.in-Value.stamp in
    let l = c.in-Value.leaf in
    let word = c.args.word in
    let both = at_stage z c.args.key.now what m.depth m.stage (Value x l) asked (word_told word) u v w (c.requires.at ∙ c.in-Value.is) is fits row in
    let read = both.1 (ReadLeaf x l 0) refl in
    let there = leaf_word z u v w x 0 word l read in
    let still = leaf_still z u v w x 0 word l _ read both.0.1.shows in
    (leaf_on z u v w x 0 word l both.0.0 read, both.0.1.deep, λ s shape holds. record { child = still s shape holds; is_value = there s shape holds })

pub returns-in-Length-clause-fits : goal.returns-in-Length-clause-fits
returns-in-Length-clause-fits c = λ z what u v w asked fits is row.
    let m = c.args.self.now in
    let x = c.in-Length.stamp in
    let l = c.in-Length.leaf in
    let word = c.args.word in
    let both = at_stage z c.args.key.now what m.depth m.stage (Length x l c.in-Length.value) asked (word_told word) u v w (c.requires.at ∙ c.in-Length.is) is fits row in
    let read = both.1 (ReadLeaf x l 1) refl in
    c.see_length.ensures.fits z what u w (leaf_on z u v w x 1 word l both.0.0 read) (leaf_still z u v w x 1 word l _ read both.0.2) (leaf_word z u v w x 1 word l read)

pub returns-in-Bytes-clause-fits : goal.returns-in-Bytes-clause-fits
returns-in-Bytes-clause-fits c = λ z what u v w asked fits is row.
    let m = c.args.self.now in
    let seen = c.in-Bytes.seen in
    let word = c.args.word in
    let place = 2 + c.in-Bytes.number in
    let both = at_stage z c.args.key.now what m.depth m.stage (Bytes seen c.in-Bytes.number c.in-Bytes.before) asked (word_told word) u v w (c.requires.at ∙ c.in-Bytes.is) is fits row in
    let read = both.1 (ReadLeaf seen.stamp seen.leaf place) refl in
    c.see_bytes.ensures.fits z what u w (leaf_on z u v w seen.stamp place word seen.leaf both.0.0 read) (leaf_still z u v w seen.stamp place word seen.leaf _ read both.0.2.shows)
    (leaf_word z u v w seen.stamp place word seen.leaf read)

pub returns-in-Anchor-clause-steps : goal.returns-in-Anchor-clause-steps
returns-in-Anchor-clause-steps c =
    let a = c.in-Anchor in
    later c.args.self.now (Anchor a.stamp) (c.requires.at ∙ a.is) c.see_root.new.self c.see_root.ensures.steps

pub returns-in-Anchor-clause-stays : goal.returns-in-Anchor-clause-stays
returns-in-Anchor-clause-stays c =
    let a = c.in-Anchor in
    stays c.args.self.now (Anchor a.stamp) (c.requires.at ∙ a.is) c.see_root.new.self c.see_root.ensures.stays

pub returns-in-Anchor-clause-going : goal.returns-in-Anchor-clause-going
returns-in-Anchor-clause-going c = c.see_root.ensures.going

pub returns-in-Header-clause-steps : goal.returns-in-Header-clause-steps
returns-in-Header-clause-steps c =
    let a = c.in-Header in
    later c.args.self.now (Header a.stamp a.node) (c.requires.at ∙ a.is) c.see_header.new.self c.see_header.ensures.steps

pub returns-in-Header-clause-stays : goal.returns-in-Header-clause-stays
returns-in-Header-clause-stays c =
    let a = c.in-Header in
    stays c.args.self.now (Header a.stamp a.node) (c.requires.at ∙ a.is) c.see_header.new.self c.see_header.ensures.stays

pub returns-in-Header-clause-going : goal.returns-in-Header-clause-going
returns-in-Header-clause-going c = c.see_header.ensures.going

pub returns-in-Prefix-clause-steps : goal.returns-in-Prefix-clause-steps
returns-in-Prefix-clause-steps c =
    let a = c.in-Prefix in
    later c.args.self.now (Prefix a.seen a.number a.before) (c.requires.at ∙ a.is) c.see_prefix.new.self c.see_prefix.ensures.steps

pub returns-in-Prefix-clause-stays : goal.returns-in-Prefix-clause-stays
returns-in-Prefix-clause-stays c =
    let a = c.in-Prefix in
    stays c.args.self.now (Prefix a.seen a.number a.before) (c.requires.at ∙ a.is) c.see_prefix.new.self c.see_prefix.ensures.stays

pub returns-in-Prefix-clause-going : goal.returns-in-Prefix-clause-going
returns-in-Prefix-clause-going c = c.see_prefix.ensures.going

pub returns-in-Keys-clause-steps : goal.returns-in-Keys-clause-steps
returns-in-Keys-clause-steps c =
    let a = c.in-Keys in
    later c.args.self.now (Keys a.seen a.number) (c.requires.at ∙ a.is) c.see_keys.new.self c.see_keys.ensures.steps

pub returns-in-Keys-clause-stays : goal.returns-in-Keys-clause-stays
returns-in-Keys-clause-stays c =
    let a = c.in-Keys in
    stays c.args.self.now (Keys a.seen a.number) (c.requires.at ∙ a.is) c.see_keys.new.self c.see_keys.ensures.stays

pub returns-in-Keys-clause-going : goal.returns-in-Keys-clause-going
returns-in-Keys-clause-going c = c.see_keys.ensures.going

pub returns-in-Slot-clause-steps : goal.returns-in-Slot-clause-steps
returns-in-Slot-clause-steps c =
    let a = c.in-Slot in
    later c.args.self.now (Slot a.seen a.place) (c.requires.at ∙ a.is) c.see_slot.new.self c.see_slot.ensures.steps

pub returns-in-Slot-clause-stays : goal.returns-in-Slot-clause-stays
returns-in-Slot-clause-stays c =
    let a = c.in-Slot in
    stays c.args.self.now (Slot a.seen a.place) (c.requires.at ∙ a.is) c.see_slot.new.self c.see_slot.ensures.stays

pub returns-in-Slot-clause-going : goal.returns-in-Slot-clause-going
returns-in-Slot-clause-going c = c.see_slot.ensures.going

pub returns-in-Length-clause-steps : goal.returns-in-Length-clause-steps
returns-in-Length-clause-steps c =
    let a = c.in-Length in
    later c.args.self.now (Length a.stamp a.leaf a.value) (c.requires.at ∙ a.is) c.see_length.new.self c.see_length.ensures.steps

pub returns-in-Length-clause-stays : goal.returns-in-Length-clause-stays
returns-in-Length-clause-stays c =
    let a = c.in-Length in
    stays c.args.self.now (Length a.stamp a.leaf a.value) (c.requires.at ∙ a.is) c.see_length.new.self c.see_length.ensures.stays

pub returns-in-Length-clause-going : goal.returns-in-Length-clause-going
returns-in-Length-clause-going c = c.see_length.ensures.going

pub returns-in-Bytes-clause-steps : goal.returns-in-Bytes-clause-steps
returns-in-Bytes-clause-steps c =
    let a = c.in-Bytes in
    later c.args.self.now (Bytes a.seen a.number a.before) (c.requires.at ∙ a.is) c.see_bytes.new.self c.see_bytes.ensures.steps

pub returns-in-Bytes-clause-stays : goal.returns-in-Bytes-clause-stays
returns-in-Bytes-clause-stays c =
    let a = c.in-Bytes in
    stays c.args.self.now (Bytes a.seen a.number a.before) (c.requires.at ∙ a.is) c.see_bytes.new.self c.see_bytes.ensures.stays

pub returns-in-Bytes-clause-going : goal.returns-in-Bytes-clause-going
returns-in-Bytes-clause-going c = c.see_bytes.ensures.going
