-- The words are those of a world that just opened, and what holds at opening is sound.
use Rattle.std.proofs.Common.{◌≡◌, ℕ, List, length, sym, refl, ap, ap₂, ◌∙◌, subst}
use Rattle.art_step.specs.declared.views.Sizes.{Sizes}
use Rattle.art_step.specs.declared.views.View.{View}
use Rattle.art_step.specs.OpeningWords.{opening_words}
use Rattle.art_step.specs.Views.{last_counter}
use Rattle.art_step.specs.WordRows.{newcomers}
use Rattle.art_step.proofs.OpeningWords.{anchor_version, node_version, opens, length-opening_words, length_newcomers}
use Rattle.art_step.proofs.StepOpens.{open_law}
use Rattle.art_world.specs.Opening.{OpensAt}
use Rattle.art_world.proofs.Lasting.{lasting_opens}
use Rattle.std.specs.Prelude.{◌≤◌}
use Rattle.art_world.proofs.world.World.open.Goals.{After-first_views}
use Rattle.art_world.proofs.world.World.open.Goals as goal

-- a world with these words and newcomers has just opened
opens_at : (z : Sizes) (k : ℕ) → k ≤ last_counter → (ws : List ℕ) (vs : List View) → ws ≡ opening_words z k → vs ≡ newcomers 0 z.passes → OpensAt z k (record { sizes = z; words = ws; views = vs })
opens_at z k low ws vs words views =
    let same = ap₂ (λ (us : List ℕ) (fs : List View). record { sizes = z; words = us; views = fs }) (sym words) (sym views) in
    subst (OpensAt z k) same (record { sizes = refl; words = refl; views = refl; opens = opens z k low; anchor = anchor_version z k; nodes = node_version z k })

opened : (c : After-first_views) → OpensAt c.args.sizes.now c.args.counter_start (record { sizes = c.args.sizes.now; words = c.in_ok-words.words.items; views = c.first_views.result.value })
opened c = opens_at c.args.sizes.now c.args.counter_start c.requires _ _ c.in_ok-words.ensures c.first_views.ensures

pub invariant_of-result : goal.invariant_of-result
invariant_of-result c =
    let o = opened c in
    record {
      long = ap length o.words ∙ length-opening_words c.args.sizes.now c.args.counter_start;
      count = ap length o.views ∙ length_newcomers 0 c.args.sizes.now.passes;
      sound = open_law _ _ _ o.opens;
      lasting = lasting_opens _ _ _ o.opens;
    }

pub returns : goal.returns
returns c = opened c
