-- The history of the mark is one that the seat was told.
use Rattle.art_key.specs.Spelling.{IsKeyOf}
use Rattle.art_step.specs.Histories.{AreAdmitted}
use Rattle.std.proofs.Common.{◌∙◌, sym, subst}
use Rattle.art_step.specs.Views.{Member}
use Rattle.art_shared.specs.declared.law.Known.{Known}
use Rattle.art_shared.specs.Marks.{history_of}
use Rattle.art_shared.specs.Passes.{view_in}
use Rattle.art_shared.specs.Rule.{AreBelow}
use Rattle.art_shared.specs.Tables.{known_to, schema_in, sizes_in}
use Rattle.art_shared.proofs.Marking.{told_last}
use Rattle.art_shared.proofs.shared.Shared.learn.Goals as goal

pub returns-clause-learnt : goal.returns-clause-learnt
returns-clause-learnt c =
    let h = history_of c.args.mark in
    c.look.ensures.turn.row.begins h (subst (λ (k : Known). Member h k.told) (sym c.take_in.ensures.told) (told_last (known_to c.args.pass.now) h))

pub look-requires : goal.look-requires
look-requires c = record {
  table = c.take_in.ensures.same.table ∙ c.requires.pass.table;
  basis = c.take_in.ensures.same.basis ∙ c.requires.pass.basis;
  typed = subst (λ (k : Known). AreAdmitted (IsKeyOf (schema_in c.args.self.now)) (view_in k).seen) (sym c.take_in.ensures.told) c.requires.pass.typed;
  below = subst (λ (k : Known). AreBelow (sizes_in c.args.self.now).passes (view_in k).seen) (sym c.take_in.ensures.told) c.requires.pass.below;
}
