-- The word of a pass was found.
use Rattle.std.proofs.Common.{◌≡◌, ◌∙◌, ℕ, List, length, get_or, nat_lt, Option, Some, None, refl, sym, ap}
use Rattle.std.proofs.lemmas.Bool.{cond_both}
use Rattle.std.specs.Option.{option_and_then, option_map}
use Rattle.art_epoch.specs.Enter.{watched}
use Rattle.art_epoch.specs.Limbo.{no_place, open_index}
use Rattle.art_epoch.specs.Reclaiming.{HearsWord, asks_at, watches_at}
use Rattle.art_epoch.specs.declared.limbo.Place.{Place}
use Rattle.art_epoch.specs.declared.limbo.ReclaimStage.{ReclaimStage}
use Rattle.art_epoch.specs.declared.limbo.ReclaimStage.TheVariants.{Freeing, Noting, Raising, Watching}
use Rattle.art_step.specs.Acting.{word_in}
use Rattle.art_step.specs.declared.actions.Action.{Action}
use Rattle.art_step.specs.declared.actions.Action.TheVariants.{Free}
use Rattle.art_epoch.proofs.enter.watched.Goals as goal

-- the step that is asked for finds the word of a pass just where it is at one
asked : (s : ReclaimStage) (x : ℕ) (qs : List Place) → option_map (λ (q : ℕ). record { pass = q; epoch = x }) (watches_at s) ≡ option_and_then (watched x) (asks_at s qs)
asked Noting x qs = refl
asked Raising x qs = refl
asked (Watching q least) x qs = refl
asked (Freeing least n) x qs =
    let i = open_index least qs in
    cond_both (nat_lt i (length qs)) (Some (Free (get_or qs i no_place).link)) None (λ (o : Option Action). None ≡ option_and_then (watched x) o) (λ there. refl) (λ none. refl)

hears : (s : ReclaimStage) (q : ℕ) → watches_at s ≡ Some q → HearsWord s
hears Noting q is = tt
hears Raising q is = absurd (cc)
hears (Watching p least) q is = tt
hears (Freeing least n) q is = absurd (cc)

pub word-requires : goal.word-requires
word-requires c = c.requires (hears c.args.reclaiming.stage c.in_ok-pass.pass (sym c.in_ok-pass.ensures))

pub returns : goal.returns
returns c qs =
    let x = word_in c.args.answer in
    let heard = ap (λ (w : ℕ). Some (record { pass = c.in_ok-pass.pass; epoch = w })) c.word.ensures in
    heard ∙ (ap (option_map (λ (q : ℕ). record { pass = q; epoch = x })) c.in_ok-pass.ensures ∙ asked c.args.reclaiming.stage x qs)
