-- The machine goes on as the word says.
use Rattle.std.proofs.Common.{◌≡◌, ◌+◌, ◌<◌, ℕ, List, refl, subst, subst₂, sym}
use Rattle.std.proofs.lemmas.Option.{same_Some}
use Rattle.std.specs.Prelude.{None, Some}
use Rattle.art_step.proofs.Words.{is_word, word_row}
use Rattle.art_step.specs.Acting.{Answers}
use Rattle.art_step.specs.declared.actions.Answer.TheVariants.{Word}
use Rattle.art_epoch.specs.Limbo.{IsLimbo, places_of}
use Rattle.art_epoch.specs.Reclaiming.{Retires}
use Rattle.art_step.specs.declared.actions.Action.{Action}
use Rattle.art_step.specs.declared.actions.Action.TheVariants.{ReadEpoch}
use Rattle.art_epoch.specs.declared.limbo.Place.{Place}
use Rattle.art_epoch.specs.Exit.{ExitFits, asks, gives, stage_given, steps_left}
use Rattle.art_epoch.specs.Stocks.{count_in, first_in}
use Rattle.art_epoch.specs.declared.exit.Exit.{Exit}
use Rattle.art_epoch.specs.declared.stocks.Stock.{Stock}
use Rattle.art_epoch.proofs.Closes.{fewer_given, told_giving, told_labelling}
use Rattle.art_step.specs.Tokens.{links_of}
use Rattle.art_step.specs.declared.views.View.{View}
use Rattle.art_epoch.proofs.exit.Exit.told.Goals as goal

pub returns-in-Labelling-clause-fits : goal.returns-in-Labelling-clause-fits
returns-in-Labelling-clause-fits c z k value u v w ps a fits asked row =
    let us = links_of c.args.unlinked.now in
    let s = c.args.stock.now in
    let qs = places_of c.args.limbo.now in
    let rs = places_of c.labelled.new.limbo in
    let l = subst (λ (m : Exit). ExitFits z k value u ps us m qs s v) c.in-Labelling.is fits in
    let e = subst (λ (m : Exit). asks m s ≡ Some a) c.in-Labelling.is asked in
    let heard = word_row z None ReadEpoch c.args.answer v w tt (subst (λ (b : Action). Answers z None b c.args.answer v w) (sym (same_Some ReadEpoch a e)) row) in
    let step = subst₂ (λ (x : ℕ) (t : View). Answers z None ReadEpoch (Word x) t w) (sym c.word.ensures) l.is heard in
    let waits = subst (λ (xs : List Place). IsLimbo xs us u.limbo) (sym l.waiting) l.may.limbo in
    let retires = c.labelled.ensures.retires z u w waits step in
    subst (λ (m : Exit). ExitFits z k value u ps us m rs s w) (sym c.labelled.ensures.next)
    (told_labelling z k value u w ps rs us s l.may (subst (λ (xs : List Place). Retires z u w xs rs us) l.waiting retires))

pub returns-in-Giving-clause-fits : goal.returns-in-Giving-clause-fits
returns-in-Giving-clause-fits c z k value u v w ps a fits asked row =
    let us = links_of c.args.unlinked.now in
    let s = c.args.stock.now in
    let qs = places_of c.args.limbo.now in
    let g = subst (λ (m : Exit). ExitFits z k value u ps us m qs s v) c.in-Giving.is fits in
    let e = subst (λ (m : Exit). asks m s ≡ Some a) c.in-Giving.is asked in
    subst (λ (m : Exit). ExitFits z k value u ps us m qs c.given.new.stock w) (sym c.given.ensures.next)
    (subst (λ (t : Stock). ExitFits z k value u ps us (stage_given s) qs t w) (sym c.given.ensures.stock)
    (told_giving z k value u v ps qs us s g (first_in s) a c.args.answer w refl (same_Some (gives s) a e) row))

pub returns-in-Giving-clause-left : goal.returns-in-Giving-clause-left
returns-in-Giving-clause-left c =
    let s = c.args.stock.now in
    subst (λ (m : Exit). steps_left c.given.result c.given.new.stock < steps_left m s) (sym c.in-Giving.is)
    (subst (λ (m : Exit). steps_left m c.given.new.stock < 1 + count_in s) (sym c.given.ensures.next)
    (subst (λ (t : Stock). steps_left (stage_given s) t < 1 + count_in s) (sym c.given.ensures.stock) (fewer_given s (first_in s) refl)))

pub word-requires : goal.word-requires
word-requires c =
    let k = c.requires.fits in
    let s = c.args.stock.now in
    let e = subst (λ (m : Exit). asks m s ≡ Some k.7) c.in-Labelling.is k.9 in
    is_word k.0 None ReadEpoch c.args.answer k.4 k.5 tt (subst (λ (b : Action). Answers k.0 None b c.args.answer k.4 k.5) (sym (same_Some ReadEpoch k.7 e)) k.10)
