-- A node without one of its children, and the same in the next smaller layout.
use Rattle.std.proofs.Common.{◌≡◌, ℕ, ◌<◌, ◌≤◌, sym, ap, ◌∙◌, subst, arith}
use Rattle.art_cell.specs.Bodies.{Becomes, IsRelaid}
use Rattle.art_cell.specs.Reads.{without_child, word_of}
use Rattle.art_cell.specs.Words.{Words, child_of, count_of, places, prefix_of}
use Rattle.art_cell.specs.declared.cells.Body.{Body}
use Rattle.art_cell.specs.declared.cells.Layout.{Layout}
use Rattle.art_node.specs.Prefixes.{IsNodeOf}
use Rattle.art_node.specs.Sizes.{smaller}
use Rattle.art_plan.specs.Remove.Removals.{IsSparse}
use Rattle.art_plan.proofs.FewChildren.{count_without}

-- the words of a body without one of its children
module _ (body less : Body) (byte : ℕ) (low : byte < 256) (sparse : IsSparse body byte) (layout : less.layout ≡ body.layout) (becomes : Becomes body.layout (word_of body) (word_of less) (without_child (child_of body.layout (word_of body)) byte)) where
  -- it has places for what is left
  pub less_fits : count_of (word_of less) ≤ places (smaller less.layout)
  less_fits =
      let count = count_without body.layout (word_of body) (word_of less) byte sparse.there.child sparse.there.meaning low sparse.there.there becomes in
      let few = sparse.few in
      subst (λ (i : Layout). count_of (word_of less) ≤ places (smaller i)) (sym layout) (omega (arith, count, few))

  -- and is then the node without the child
  pub less_node : (after : Words) → IsRelaid less.layout (smaller less.layout) (word_of less) after → IsNodeOf (smaller body.layout) after (prefix_of (word_of body)) (without_child (child_of body.layout (word_of body)) byte)
  less_node after relaid = subst (λ (i : Layout). IsNodeOf (smaller i) after (prefix_of (word_of body)) (without_child (child_of body.layout (word_of body)) byte)) layout (record {
    body = relaid.body;
    prefix = relaid.prefix ∙ becomes.prefix;
    children = λ b b-low. relaid.children b b-low ∙ ap (λ (i : Layout). child_of i (word_of less) b) layout ∙ becomes.children b b-low;
  })
