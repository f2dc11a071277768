-- A new seat is told what the pass sees.
use Rattle.art_key.specs.Spelling.{IsKeyOf}
use Rattle.art_step.specs.Histories.{AreAdmitted}
use Rattle.std.proofs.Common.{◌∙◌, ap, arith, refl, subst, sym}
use Rattle.art_shared.specs.Passes.{first_told, marked, view_in}
use Rattle.art_step.specs.Steps.Anchor.{Outcome}
use Rattle.art_shared.specs.Marks.{LooksOnce}
use Rattle.art_shared.specs.Rule.{AreBelow}
use Rattle.art_shared.specs.Tables.{basis_in, known_to, schema_in, sizes_in, view_of_pass}
use Rattle.art_shared.proofs.Marking.{seen_begins}
use Rattle.art_shared.proofs.Moving.{splits}
use Rattle.art_shared.proofs.shared.Shared.mark.Goals as goal

pub split_seat-seat-requires : goal.split_seat-seat-requires
split_seat-seat-requires c =
    let a = c.look.new.self in
    let t = c.args.self.now in
    let z = t.table.shared.key in
    (c.look.ensures.same.table ∙ c.requires.table, rw t.wide (omega arith), splits z a.seat.id a.seat.me.0 a.seat.me.0 (marked a.seat.me.0) refl refl (seen_begins z a.seat.id a.seat.me a.one))

pub returns-clause-pass : goal.returns-clause-pass
returns-clause-pass c =
    let cut = c.split_seat-seat.ensures in
    record {
      table = cut.0 ∙ (c.look.ensures.same.table ∙ c.requires.table);
      basis = ap (λ m. m.0.basis) cut.2 ∙ (c.look.ensures.same.basis ∙ c.requires.basis);
      typed = subst (λ m. AreAdmitted (IsKeyOf (schema_in c.args.self.now)) (view_in m.0).seen) (sym cut.2) c.look.ensures.turn.typed;
      below = subst (λ m. AreBelow (sizes_in c.args.self.now).passes (view_in m.0).seen) (sym cut.2) c.look.ensures.turn.below;
    }

pub returns-clause-row : goal.returns-clause-row
returns-clause-row c = subst (λ m. Outcome (view_of_pass c.args.pass.now) (view_in m.0)) (sym c.split_seat-seat.ensures.2) c.look.ensures.turn.row.look

pub returns-clause-at_once : goal.returns-clause-at_once
returns-clause-at_once c = subst (λ m. LooksOnce (basis_in c.args.self.now) (known_to c.args.pass.now) m.0) (sym c.split_seat-seat.ensures.2) (record { found = c.look.result; at_once = c.look.ensures.turn.made })

pub returns-clause-history : goal.returns-clause-history
returns-clause-history c = ap (λ m. first_told m.0.told) c.split_seat-seat.ensures.4 ∙ sym (ap (λ m. (view_in m.0).seen) c.split_seat-seat.ensures.2)

pub look-requires : goal.look-requires
look-requires c = c.requires
