use Rattle.std.proofs.Common.{◌+◌, ◌∙◌, refl}
use Rattle.art_cell.specs.declared.cells.Cell.TheVariants as cell
use Rattle.art_step.specs.declared.actions.Answer.TheVariants.{Word as word_told}
use Rattle.art_step.specs.declared.actions.Action.TheVariants.{Read, ReadLeaf}
use Rattle.art_find.proofs.Stages.{leaf_on, leaf_still, leaf_word, node_noted, node_on, node_still, node_word, reads_on}
use Rattle.art_look.specs.declared.looks.LookStage.TheVariants.{Anchor, Header, Prefix, Keys, Slot, Value, Length, Bytes}
use Rattle.art_look.proofs.Stages.{at_stage, entered_header}
use Rattle.art_step.specs.declared.views.Fact.TheVariants.{Word}
use Rattle.art_step.proofs.Shows.{read_rest, read_stamp}
use Rattle.art_look.proofs.looks.Look.read_at.Goals as goal

pub returns-in-Anchor-clause-fits : goal.returns-in-Anchor-clause-fits
returns-in-Anchor-clause-fits c = λ z hi u v w asked fits is row.
    let m = c.args.self.now in
    let x = c.in-Anchor.stamp in
    let word = c.args.word in
    let both = at_stage z c.args.lo.now hi m.depth c.args.path_buffer.now m.stage (Anchor x) asked (word_told word) u v w (c.requires.at ∙ c.in-Anchor.is) is fits row in
    let read = both.1 (Read x 1) refl in
    c.see_root.ensures.fits z c.args.lo.now hi u w (reads_on u v w (read_rest v w x (Word 1 word) read.is) both.0.0) (read_stamp z v w x (Word 1 word) x read.is both.0.1) both.0.2
    (node_word z u v w x 1 word cell.Anchor both.0.2 read) (node_noted z u v w x 1 word read)

pub returns-in-Header-clause-fits : goal.returns-in-Header-clause-fits
returns-in-Header-clause-fits c = λ z hi u v w asked fits is row.
    let m = c.args.self.now in
    let y = c.in-Header.stamp in
    let n = c.in-Header.node in
    let word = c.args.word in
    let t = c.args.path_buffer.now in
    let both = at_stage z c.args.lo.now hi m.depth t m.stage (Header y n) asked (word_told word) u v w (c.requires.at ∙ c.in-Header.is) is fits row in
    let read = both.1 (Read y 1) refl in
    let there = node_word z u v w y 1 word (cell.Node n) both.0.0.cell read in
    let still = node_still z u v w y 1 word _ read both.0.1.shows in
    c.see_header.ensures.fits z hi u w (node_on z u v w y 1 word n both.0.0 read) (λ s shape holds. entered_header s n word t.path.items (still s shape holds) (there s shape holds))

pub returns-in-Prefix-clause-fits : goal.returns-in-Prefix-clause-fits
returns-in-Prefix-clause-fits c = λ z hi u v w asked fits is row.
    let m = c.args.self.now in
    let seen = c.in-Prefix.seen in
    let word = c.args.word in
    let place = 2 + c.in-Prefix.number in
    let both = at_stage z c.args.lo.now hi m.depth c.args.path_buffer.now m.stage (Prefix seen c.in-Prefix.number) asked (word_told word) u v w (c.requires.at ∙ c.in-Prefix.is) is fits row in
    let read = both.1 (Read seen.stamp place) refl in
    c.see_prefix.ensures.fits z hi u w (node_on z u v w seen.stamp place word seen.node both.0.0 read) (node_still z u v w seen.stamp place word _ read both.0.1.shows)
    (node_word z u v w seen.stamp place word (cell.Node seen.node) both.0.0.cell read)

pub returns-in-Keys-clause-fits : goal.returns-in-Keys-clause-fits
returns-in-Keys-clause-fits c = λ z hi u v w asked fits is row.
    let m = c.args.self.now in
    let seen = c.in-Keys.seen in
    let word = c.args.word in
    let place = 10 + c.in-Keys.number in
    let both = at_stage z c.args.lo.now hi m.depth c.args.path_buffer.now m.stage (Keys seen c.in-Keys.front c.in-Keys.number) asked (word_told word) u v w (c.requires.at ∙ c.in-Keys.is) is fits row in
    let read = both.1 (Read seen.stamp place) refl in
    c.see_keys.ensures.fits z hi u w (node_on z u v w seen.stamp place word seen.node both.0.0 read) (node_still z u v w seen.stamp place word _ read both.0.1.shows)
    (node_word z u v w seen.stamp place word (cell.Node seen.node) both.0.0.cell read)

pub returns-in-Slot-clause-fits : goal.returns-in-Slot-clause-fits
returns-in-Slot-clause-fits c = λ z hi u v w asked fits is row.
    let m = c.args.self.now in
    let a = c.in-Slot.sought in
    let y = a.seen.stamp in
    let word = c.args.word in
    let both = at_stage z c.args.lo.now hi m.depth c.args.path_buffer.now m.stage (Slot a) asked (word_told word) u v w (c.requires.at ∙ c.in-Slot.is) is fits row in
    let read = both.1 (Read y a.place) refl in
    c.see_child.ensures.fits z hi u w (node_on z u v w y a.place word a.seen.node both.0.0 read) (node_still z u v w y a.place word _ read both.0.1.shows)
    (node_word z u v w y a.place word (cell.Node a.seen.node) both.0.0.cell read) (node_noted z u v w y a.place word read)

pub returns-in-Value-clause-fits : goal.returns-in-Value-clause-fits
returns-in-Value-clause-fits c = λ z hi u v w asked fits is row.
    let m = c.args.self.now in
    let x = c.in-Value.stamp in
    let l = c.in-Value.leaf in
    let word = c.args.word in
    let both = at_stage z c.args.lo.now hi m.depth c.args.path_buffer.now m.stage (Value x l) asked (word_told word) u v w (c.requires.at ∙ c.in-Value.is) is fits row in
    let read = both.1 (ReadLeaf x l 0) refl in
    let there = leaf_word z u v w x 0 word l read in
    let still = leaf_still z u v w x 0 word l _ read both.0.2 in
    (leaf_on z u v w x 0 word l both.0.0 read, both.0.1, λ s shape holds. record { leaf = still s shape holds; is_value = there s shape holds })

pub returns-in-Length-clause-fits : goal.returns-in-Length-clause-fits
returns-in-Length-clause-fits c = λ z hi u v w asked fits is row.
    let m = c.args.self.now in
    let x = c.in-Length.stamp in
    let l = c.in-Length.leaf in
    let word = c.args.word in
    let lo = c.args.lo.now in
    let both = at_stage z lo hi m.depth c.args.path_buffer.now m.stage (Length x l c.in-Length.value) asked (word_told word) u v w (c.requires.at ∙ c.in-Length.is) is fits row in
    let read = both.1 (ReadLeaf x l 1) refl in
    c.see_length.ensures.fits z lo hi u w (leaf_on z u v w x 1 word l both.0.0 read) (leaf_still z u v w x 1 word l _ read both.0.2) (leaf_word z u v w x 1 word l read)

pub returns-in-Bytes-clause-fits : goal.returns-in-Bytes-clause-fits
returns-in-Bytes-clause-fits c = λ z hi u v w asked fits is row.
    let m = c.args.self.now in
    let seen = c.in-Bytes.seen in
    let word = c.args.word in
    let lo = c.args.lo.now in
    let place = 2 + c.in-Bytes.number in
    let both = at_stage z lo hi m.depth c.args.path_buffer.now m.stage (Bytes seen c.in-Bytes.number) asked (word_told word) u v w (c.requires.at ∙ c.in-Bytes.is) is fits row in
    let read = both.1 (ReadLeaf seen.stamp seen.leaf place) refl in
    c.see_bytes.ensures.fits z lo hi u w (leaf_on z u v w seen.stamp place word seen.leaf both.0.0 read) (leaf_still z u v w seen.stamp place word seen.leaf _ read both.0.2.shows)
    (leaf_word z u v w seen.stamp place word seen.leaf read)
