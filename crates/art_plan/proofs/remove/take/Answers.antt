use Rattle.std.proofs.Common.{◌≡◌, ℕ, Some, subst, sym}
use Rattle.art_cell.specs.declared.cells.Body.{Body}
use Rattle.art_cell.specs.declared.cells.Layout.{Layout}
use Rattle.art_cell.specs.Bodies.{Becomes}
use Rattle.art_cell.specs.Reads.{without_child, word_of}
use Rattle.art_cell.specs.Words.{child_of}
use Rattle.art_node.proofs.OfLayout.{body_of}
use Rattle.art_plan.specs.Puts.{HasChild}
use Rattle.art_plan.proofs.remove.take.Goals as goal

there_in : (k : Layout) (body : Body) (byte : ℕ) → body.layout ≡ k → HasChild body byte → (c : ℕ) × (child_of k (word_of body) byte ≡ Some c)
there_in k body byte is has = (has.child, subst (λ (l : Layout). child_of l (word_of body) byte ≡ Some has.child) is has.there)

less_in : (k : Layout) (body new : Body) (byte : ℕ) → body.layout ≡ k → Becomes k (word_of body) (word_of new) (without_child (child_of k (word_of body)) byte)
    → Becomes body.layout (word_of body) (word_of new) (without_child (child_of body.layout (word_of body)) byte)
less_in k body new byte is less = subst (λ (l : Layout). Becomes l (word_of body) (word_of new) (without_child (child_of l (word_of body)) byte)) (sym is) less

pub take-requires-clause-body : goal.take-requires-clause-body
take-requires-clause-body c = body_of _ c.args.body.now c.in-Node4.is c.requires.meaning

pub take-requires-clause-there : goal.take-requires-clause-there
take-requires-clause-there c = there_in _ c.args.body.now c.args.byte c.in-Node4.is c.requires

pub returns-in-Node4-clause-layout : goal.returns-in-Node4-clause-layout
returns-in-Node4-clause-layout c = c.take.ensures.layout

pub returns-in-Node4-clause-less : goal.returns-in-Node4-clause-less
returns-in-Node4-clause-less c = less_in _ c.args.body.now c.take.new.body c.args.byte c.in-Node4.is c.take.ensures.taken

pub take-requires-in-Node16-clause-body : goal.take-requires-in-Node16-clause-body
take-requires-in-Node16-clause-body c = body_of _ c.args.body.now c.in-Node16.is c.requires.meaning

pub take-requires-in-Node16-clause-there : goal.take-requires-in-Node16-clause-there
take-requires-in-Node16-clause-there c = there_in _ c.args.body.now c.args.byte c.in-Node16.is c.requires

pub returns-in-Node16-clause-layout : goal.returns-in-Node16-clause-layout
returns-in-Node16-clause-layout c = c.take-in-Node16.ensures.layout

pub returns-in-Node16-clause-less : goal.returns-in-Node16-clause-less
returns-in-Node16-clause-less c = less_in _ c.args.body.now c.take-in-Node16.new.body c.args.byte c.in-Node16.is c.take-in-Node16.ensures.taken

pub take-requires-in-Node48-clause-body : goal.take-requires-in-Node48-clause-body
take-requires-in-Node48-clause-body c = body_of _ c.args.body.now c.in-Node48.is c.requires.meaning

pub take-requires-in-Node48-clause-there : goal.take-requires-in-Node48-clause-there
take-requires-in-Node48-clause-there c = there_in _ c.args.body.now c.args.byte c.in-Node48.is c.requires

pub returns-in-Node48-clause-layout : goal.returns-in-Node48-clause-layout
returns-in-Node48-clause-layout c = c.take-in-Node48.ensures.layout

pub returns-in-Node48-clause-less : goal.returns-in-Node48-clause-less
returns-in-Node48-clause-less c = less_in _ c.args.body.now c.take-in-Node48.new.body c.args.byte c.in-Node48.is c.take-in-Node48.ensures.taken

pub take-requires-in-Node256-clause-body : goal.take-requires-in-Node256-clause-body
take-requires-in-Node256-clause-body c = body_of _ c.args.body.now c.in-Node256.is c.requires.meaning

pub take-requires-in-Node256-clause-there : goal.take-requires-in-Node256-clause-there
take-requires-in-Node256-clause-there c = there_in _ c.args.body.now c.args.byte c.in-Node256.is c.requires

pub returns-in-Node256-clause-layout : goal.returns-in-Node256-clause-layout
returns-in-Node256-clause-layout c = c.take-in-Node256.ensures.layout

pub returns-in-Node256-clause-less : goal.returns-in-Node256-clause-less
returns-in-Node256-clause-less c = less_in _ c.args.body.now c.take-in-Node256.new.body c.args.byte c.in-Node256.is c.take-in-Node256.ensures.taken
