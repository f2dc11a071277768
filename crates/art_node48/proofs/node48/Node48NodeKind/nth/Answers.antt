use Rattle.std.proofs.Common.{◌≡◌, ℕ, Option, take, subst, sym, ◌∙◌, arith}
use Rattle.art_cell.specs.declared.cells.Layout.TheVariants.{Node48}
use Rattle.art_cell.specs.Lemmas.Entries.{listed_without, nth_listed, no_nth_listed}
use Rattle.art_cell.specs.Reads.{word_of}
use Rattle.art_cell.specs.Words.{child_of, entries, listed}
use Rattle.art_node48.proofs.node48.Node48NodeKind.nth.Goals as goal

pub returns-in-Some : goal.returns-in-Some
returns-in-Some c =
    nth_listed (child_of Node48 (word_of c.args.body.now)) c.loop-at.at c.in-Some.child c.args._index (omega (arith, c.loop-at-test.true)) (sym c.child_in.ensures ∙ c.in-Some.is) c.loop-at.invariant c.requires.there

pub loop-at-preserved : goal.loop-at-preserved
loop-at-preserved c =
    listed_without (child_of Node48 (word_of c.args.body.now)) 0 c.loop-at.at c.loop-at.at (omega arith) (sym c.child_in.ensures ∙ c.in_default.is) ∙ c.loop-at.invariant

pub unreachable-requires : goal.unreachable-requires
unreachable-requires c =
    let child : ℕ → Option ℕ = child_of Node48 (word_of c.args.body.now) in
    let all : c.loop-at.at ≡ 256 = omega (arith, c.loop-at-test.false, c.loop-at.auto.at-end, c.requires.within) in
    no_nth_listed child c.args._index (subst (λ (n : ℕ). listed child 0 n ≡ take c.args._index (entries Node48 (word_of c.args.body.now))) all c.loop-at.invariant) c.requires.there
