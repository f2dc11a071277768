use Rattle.std.proofs.Common.{◌≡◌, ◌≢◌, ℕ, ◌+◌, Option, take, ap, subst, sym, ◌∙◌, arith}
use Rattle.art_cell.specs.declared.cells.Layout.TheVariants.{Node256}
use Rattle.art_cell.specs.Lemmas.Entries.{listed_without, nth_listed, no_nth_listed, nonzero_some}
use Rattle.art_cell.specs.Reads.{word_of}
use Rattle.art_cell.specs.Words.{child_of, entries, listed, nonzero}
use Rattle.art_node256.proofs.kind.Node256NodeKind.nth.Goals as goal

pub returns-then-child-ne0 : goal.returns-then-child-ne0
returns-then-child-ne0 c =
    let w = word_of c.args.body.now in
    let here : w (10 + c.loop-at.at) ≢ 0 = λ e. c.if-child-ne0.true (ap w c.place_of.ensures ∙ e) in
    ap (λ (n : ℕ). record { byte = c.loop-at.at; child = n }) (ap w c.place_of.ensures)
    ∙ nth_listed (child_of Node256 w) c.loop-at.at (w (10 + c.loop-at.at)) c.args._index (omega (arith, c.loop-at-test.true)) (nonzero_some (w (10 + c.loop-at.at)) (omega arith)) c.loop-at.invariant c.requires.there

pub loop-at-preserved : goal.loop-at-preserved
loop-at-preserved c =
    listed_without (child_of Node256 (word_of c.args.body.now)) 0 c.loop-at.at c.loop-at.at (omega arith) (ap nonzero (ap (word_of c.args.body.now) (sym c.place_of.ensures) ∙ c.if-child-ne0.false)) ∙ c.loop-at.invariant

pub unreachable-requires : goal.unreachable-requires
unreachable-requires c =
    let child : ℕ → Option ℕ = child_of Node256 (word_of c.args.body.now) in
    let all : c.loop-at.at ≡ 256 = omega (arith, c.loop-at-test.false, c.loop-at.auto.at-end, c.requires.within) in
    no_nth_listed child c.args._index (subst (λ (n : ℕ). listed child 0 n ≡ take c.args._index (entries Node256 (word_of c.args.body.now))) all c.loop-at.invariant) c.requires.there
