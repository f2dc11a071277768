use Rattle.std.proofs.Common.{◌≡◌, Option, sym, ◌∙◌, subst}
use Rattle.std.specs.Prelude.{IfSome}
use Rattle.art_find.specs.Asking.{MayLook}
use Rattle.art_find.specs.Descents.{Fits, answer_at, asks, stands_on}
use Rattle.art_step.specs.declared.actions.Action.{Action}
use Rattle.art_find.specs.declared.descents.Descent.{Descent}
use Rattle.art_find.specs.Findings.{Keeps, PlaceFits}
use Rattle.art_find.proofs.Looks.{asks_place}
use Rattle.art_find.proofs.Placing.{told_fits}
use Rattle.art_step.specs.Shows.{HasValue}
use Rattle.art_tree.specs.Heaps.{Cells}
use Rattle.art_find.proofs.findings.Finding.told.Goals as goal

pub returns-clause-fits : goal.returns-clause-fits
returns-clause-fits c = λ z what u v w asked fits is row.
    let k = c.args.key.now in
    let m = c.args.self.now.descent in
    let m' = c.told-on.new.self in
    let so : Cells → Type 0 = λ s. HasValue s k (answer_at m.stage) in
    let may : MayLook z so v asked = subst (λ (o : Option Action). IfSome o (MayLook z so v)) (c.next-asked.ensures.asks ∙ is) (c.next-asked.ensures.allowed z k what u v fits.descent) in
    let keeps = subst (λ (o : Option Action). Keeps c.args.answer o (asks m'.stage) m'.depth c.args.self.now.above c.args.read_set.now c.keep.new.self.above c.keep.new.read_set) c.next-asked.ensures.asks c.keep.ensures.keeps in
    let same : c.keep.new.self.descent ≡ m' = c.keep.ensures.descent in
    record {
      descent = subst (λ (t : Descent). Fits z k what t u w) (sym same) (c.told-on.ensures.fits z what u v w asked fits.descent is row);
      place = subst (λ (t : Descent). PlaceFits z k c.keep.new.self.above c.keep.new.read_set w (stands_on t.stage)) (sym same)
          (told_fits z k what u v w c.args.self.now.above c.keep.new.self.above c.args.read_set.now c.keep.new.read_set m m' so asked is c.args.answer row may fits.descent
          c.told-on.ensures.stays (λ no. c.told-on.ensures.anew (c.told-on.ensures.on ∙ no)) keeps fits.place);
    }

pub keep-requires : goal.keep-requires
keep-requires c =
    let k = c.requires.fits in
    asks_place k.0 k.3 (λ s. HasValue s c.args.key.now (answer_at c.args.self.now.descent.stage)) c.next-asked.result
    (c.next-asked.ensures.allowed k.0 c.args.key.now k.1 k.2 k.3 k.6.descent)
