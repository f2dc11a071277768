-- The rows of a table have keys of its schema, when a check succeeds.
use Rattle.art_key.specs.Spelling.{IsKeyOf}
use Rattle.std.proofs.Common.{◌≡◌, ◌∙◌, ap, sym}
use Rattle.art_step.specs.declared.views.Stamp.{Stamp}
use Rattle.art_step.specs.Effects.{Instant}
use Rattle.art_step.specs.Knowledge.{HoldsAmong}
use Rattle.art_step.specs.Steps.{AtStep}
use Rattle.art_step.specs.Views.{Memory, Views}
use Rattle.art_step.specs.WordRows.{memory_of}
use Rattle.art_step.proofs.AdmittedRows.{holds_among}
use Rattle.art_shared.specs.declared.law.Basis.{Basis}
use Rattle.art_shared.specs.declared.law.Known.{Known}
use Rattle.art_shared.specs.Passes.{view_in}
use Rattle.art_shared.specs.Rule.{seated}
use Rattle.art_shared.specs.Turns.{Moment}

-- the stamped word was found: what was noted under the stamp held of a tree whose keys are of the schema
pub found_among : (b : Basis) (k k' : Known) (x : Stamp) (so : Instant) (t : AtStep b.sizes (view_in k) (view_in k') (Moment b k k') so) → x.version ≡ t.words.version x.cell
    → HoldsAmong (IsKeyOf b.schema) b.sizes (view_in k) x
found_among b k k' x so t found =
    let i = t.instant in
    holds_among (IsKeyOf b.schema) b.sizes t.pass (view_in k) (memory_of b.sizes i.before.words) (seated i.before.views) x (ap (λ (f : Views). f t.pass) (sym i.views) ∙ t.before) i.kept.sound i.kept.typed
    (sym (found ∙ ap (λ (m : Memory). m.version x.cell) i.words))
