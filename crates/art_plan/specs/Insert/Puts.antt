-- The node that an insert makes, and what it does.
use Rattle.std.specs.Prelude.{ℕ, List, Some}
use Rattle.art_cell.specs.declared.cells.Body.{Body}
use Rattle.art_cell.specs.declared.cells.Node.{Node}
use Rattle.art_cell.specs.declared.cells.Layout.TheVariants.{Node4}
use Rattle.art_plan.specs.declared.insert.NewLeaf.{NewLeaf}
use Rattle.art_model.specs.declared.commands.Answer.TheVariants.{Inserted}
use Rattle.art_node.specs.Sizes.{larger}
use Rattle.art_step.specs.declared.deeds.Act.TheVariants.{Insert}
use Rattle.art_step.specs.declared.deeds.Deed.{Deed}
use Rattle.art_step.specs.declared.deeds.Deed.TheVariants.{Done}
use Rattle.art_step.specs.declared.actions.Effects.{Effects}

-- the node of four places with this number
abbrev pub node4 : ℕ → Node
node4 number = record { layout = Node4; number = number }

-- the node of the next larger layout with this number
abbrev pub larger_node : Body → ℕ → Node
larger_node body number = record { layout = larger body.layout; number = number }

-- the leaf comes
abbrev pub inserted : NewLeaf → Deed
inserted new = Done (Insert new.key new.value) Inserted

-- what its insert does: it comes, and what has these child words leaves, in this order
abbrev pub insert_effects : NewLeaf → List ℕ → Effects
insert_effects new words = record { deed = inserted new; leaf = Some new.number; unlinked = record { items = words } }
