-- What was taken is in hand, and nothing is held.
use Rattle.std.proofs.Common.{◌≡◌, ◌∙◌, List, [], Option, refl, sym, ap, subst, inl, rules}
use Rattle.art_cell.specs.declared.cells.Cell.TheVariants as cell
use Rattle.art_cell.specs.declared.cells.Pool.{Pool}
use Rattle.art_cell.specs.declared.cells.Pool.TheVariants as pool
use Rattle.art_epoch.specs.Taking.{OnlyTakes, Takes, TookLowest}
use Rattle.art_step.specs.declared.numbers.Number.{Number}
use Rattle.art_step.specs.declared.views.Holding.{Holding}
use Rattle.art_step.specs.declared.views.InHand.{InHand}
use Rattle.art_step.specs.declared.views.Sizes.{Sizes}
use Rattle.art_step.specs.declared.views.View.{View}
use Rattle.art_step.specs.Steps.Give as give
use Rattle.art_step.specs.Tokens.{link_of_number}
use Rattle.art_step.specs.Views.{IsNotHeld, Member}
use Rattle.art_world.specs.Stepper.{sizes_of, view_of}
use Rattle.art_world_uses.proofs.free_numbers.a_number_in_hand_goes_back_and_the_epoch_rises.Goals as goal

-- a number that was taken by one that holds nothing may be given back
may_give : (z : Sizes) (v w : View) (pool : Pool) (n : Number) → v.held ≡ [] → OnlyTakes v w → TookLowest z v w pool (link_of_number n) →
    give.May w (link_of_number n)
may_give z v w pool n none only took = record {
  hand =
      let y : InHand = record { link = link_of_number n; words = took.words } in
      (y, subst (λ (xs : List InHand). Member y xs) (sym took.hand) (inl refl), refl);
  free = λ k is. subst (λ (hs : List Holding). IsNotHeld hs (cell.Node k)) (sym (ap (λ (u : View). u.held) only ∙ none)) (λ h i. absurd i);
}

pub give-requires : goal.give-requires
give-requires g c =
    let s = c.at-stepper.result in
    let took = subst (λ (o : Option Number). Takes (sizes_of s) (view_of s) (view_of c.take.new.steps) pool.N4 0 o) c.expect-taken.ensures c.take.ensures.takes in
    may_give (sizes_of s) (view_of s) (view_of c.take.new.steps) pool.N4 c.expect-taken.result none c.take.ensures.same took.took
  where
    none : (view_of c.at-stepper.result).held ≡ []
    none = search rules
