-- Giving back what waits in limbo: the epoch goes up, the word of each other pass is found once, and what is labelled below each
-- of them that is not 0 is free again. Retiring: what waits gets its label.
use Rattle.std.specs.Prelude.{◌≡◌, ◌≢◌, ◌↔◌, ℕ, zero, suc, ◌+◌, ◌-◌, ◌^◌, ◌<◌, ◌≤◌, ◌==◌, List, [], ◌∷◌, ◌++◌, map, remove, length, get_or, nat_lt, if◌then◌else◌, false, Option, Some, None, ⊤}
use Rattle.art_cell.specs.declared.cells.Link.{Link}
use Rattle.art_epoch.specs.Limbo.{IsLimbo, lets_go, no_place, open_index, places_for}
use Rattle.art_epoch.specs.Pins.{view_advanced}
use Rattle.art_step.specs.declared.actions.Action.{Action}
use Rattle.art_step.specs.declared.actions.Action.TheVariants.{Free, ReadEpoch, RaiseEpoch, ReadPin}
use Rattle.art_epoch.specs.declared.limbo.Place.{Place}
use Rattle.art_epoch.specs.declared.limbo.ReclaimStage.{ReclaimStage}
use Rattle.art_epoch.specs.declared.limbo.ReclaimStage.TheVariants.{Noting, Raising, Watching, Freeing}
use Rattle.art_epoch.specs.declared.limbo.Reclaiming.{Reclaiming}
use Rattle.art_step.specs.declared.views.Retired.{Retired}
use Rattle.art_step.specs.declared.views.Sizes.{Sizes}
use Rattle.art_step.specs.declared.views.View.{View}
use Rattle.art_step.specs.Steps.Epoch as epoch
use Rattle.art_step.specs.Steps.Watch as watch
use Rattle.art_step.specs.Views.{Member}

-- ---- the words of the other passes

-- the passes below n but for the own one, in their order
abbrev pub others : ℕ → ℕ → List ℕ
others own zero = []
others own (suc n) = others own n ++ (if n == own then [] else n ∷ [])

-- a pass, and the word that was found of it
abbrev pub Look : Type 0
Look = ℕ × ℕ

-- the view after these words were found, one after the other
abbrev pub view_watched : View → List Look → View
view_watched v [] = v
view_watched v (l ∷ ls) = view_watched (watch.view_after v l.0 l.1) ls

-- the label is below each of these words that is not 0
abbrev pub IsBelowAll : ℕ → List Look → Type 0
IsBelowAll label ls = (l : Look) → Member l ls → l.1 ≢ 0 → label < l.1

-- ---- how a call ends

-- first the epoch is found and raised, then the word of each other pass is found once, and then as many numbers go back as are
-- labelled below all of them; the others wait on
pub record Reclaims (z : Sizes) (v w : View) (ps qs : List Place) (count : ℕ) : Type 0 where
  pub found : ℕ
  pub looks : List Look
  pub each : map (λ l. l.0) looks ≡ others v.pass z.passes
  pub watched : View
  pub seen : watched ≡ view_watched (view_advanced v found) looks
  pub is : w ≡ record watched { steps = watched.steps + count; limbo = w.limbo }
  pub limbo : IsLimbo qs [] w.limbo
  pub all : count + length qs ≡ length ps
  pub stays : (x : Place) → Member x qs ↔ (Member x ps × (IsBelowAll x.label looks → ⊥))

-- nothing changes but steps, the note of the epoch, what was found, and limbo
abbrev pub OnlyReclaims : View → View → Type 0
OnlyReclaims v w = w ≡ record v { steps = w.steps; noted = w.noted; found = w.found; limbo = w.limbo }

-- the epoch that is found labels these numbers, which wait now
pub record Retires (z : Sizes) (v w : View) (ps qs : List Place) (us : List Link) : Type 0 where
  pub found : ℕ
  pub some : 0 < found
  pub low : found < 2 ^ 62 + z.passes
  pub is : w ≡ epoch.view_after v found
  pub places : qs ≡ ps ++ places_for found us
  pub limbo : IsLimbo qs [] w.limbo

-- ---- what the machine knows between two steps

-- how a word lowers the least that was found and is not 0
abbrev pub lower : Option ℕ → ℕ → Option ℕ
lower None x = Some x
lower (Some w) x = if nat_lt w x then Some w else Some x

abbrev pub least_after : Option ℕ → ℕ → Option ℕ
least_after o x = if x == 0 then o else lower o x

-- the least word that is not 0
abbrev pub IsLeast : Option ℕ → List Look → Type 0
IsLeast None ls = (l : Look) → Member l ls → l.1 ≡ 0
IsLeast (Some w) ls = ((q : ℕ) × Member (q, w) ls) × (w ≢ 0) × ((l : Look) → Member l ls → l.1 ≢ 0 → w ≤ l.1)

-- the next pass that is another, from this one on; past the last, what waits goes back
abbrev pub skip : ℕ → ℕ → ℕ
skip own q = if q == own then q + 1 else q

abbrev pub watching : ℕ → ℕ → ℕ → Option ℕ → ReclaimStage
watching own passes q least = if nat_lt (skip own q) passes then Watching (skip own q) least else Freeing least 0

-- each pass that is watched is one that there is, and counts fit 32 bits
abbrev pub IsStage : ℕ → ℕ → ReclaimStage → Type 0
IsStage own passes Noting = own < passes
IsStage own passes Raising = own < passes
IsStage own passes (Watching q least) = (own < passes) × (q < passes)
IsStage own passes (Freeing least n) = n + 1 < 2 ^ 32

-- a word is found there
abbrev pub HearsWord : ReclaimStage → Type 0
HearsWord Noting = ⊤
HearsWord Raising = ⊥
HearsWord (Watching q least) = ⊤
HearsWord (Freeing least n) = ⊥

-- once a word was found
abbrev pub stage_after : ℕ → ℕ → ℕ → ReclaimStage → ReclaimStage
stage_after own passes x Noting = if nat_lt x (2 ^ 62) then Raising else watching own passes 0 None
stage_after own passes x Raising = watching own passes 0 None
stage_after own passes x (Watching q least) = watching own passes (q + 1) (least_after least x)
stage_after own passes x (Freeing least n) = Freeing least (n + 1)

-- what waits then
abbrev pub places_after : ReclaimStage → List Place → List Place
places_after Noting qs = qs
places_after Raising qs = qs
places_after (Watching q least) qs = qs
places_after (Freeing least n) qs = remove qs (open_index least qs)

-- there is one that may go, where one goes
abbrev pub MayGo : ReclaimStage → List Place → Type 0
MayGo Noting qs = ⊤
MayGo Raising qs = ⊤
MayGo (Watching q least) qs = ⊤
MayGo (Freeing least n) qs = open_index least qs < length qs

-- the next step
abbrev pub asks_at : ReclaimStage → List Place → Option Action
asks_at Noting qs = Some ReadEpoch
asks_at Raising qs = Some RaiseEpoch
asks_at (Watching q least) qs = Some (ReadPin q)
asks_at (Freeing least n) qs =
    if nat_lt (open_index least qs) (length qs) then Some (Free (get_or qs (open_index least qs) no_place).link) else None

-- the least word that was found so far and is not 0
abbrev pub least_at : ReclaimStage → Option ℕ
least_at Noting = None
least_at Raising = None
least_at (Watching q least) = least
least_at (Freeing least n) = least

-- the pass whose word is to be found, if it is at one
abbrev pub watches_at : ReclaimStage → Option ℕ
watches_at Noting = None
watches_at Raising = None
watches_at (Watching q least) = Some q
watches_at (Freeing least n) = None

abbrev pub freed_at : ReclaimStage → ℕ
freed_at Noting = 0
freed_at Raising = 0
freed_at (Watching q least) = 0
freed_at (Freeing least n) = n

-- how many steps it makes at most from here on
abbrev pub steps_left : ℕ → ReclaimStage → List Place → ℕ
steps_left passes Noting qs = 2 + passes + length qs
steps_left passes Raising qs = 1 + passes + length qs
steps_left passes (Watching q least) qs = passes - q + length qs
steps_left passes (Freeing least n) qs = length qs

-- the words of the other passes below q were found
pub record IsWatched (v0 v : View) (q : ℕ) (least : Option ℕ) : Type 0 where
  pub found : ℕ
  pub looks : List Look
  pub each : map (λ l. l.0) looks ≡ others v0.pass q
  pub lowest : IsLeast least looks
  pub is : v ≡ view_watched (view_advanced v0 found) looks

-- all were found, and so many numbers have gone back
pub record IsFreeing (z : Sizes) (v0 v : View) (ps qs : List Place) (least : Option ℕ) (n : ℕ) : Type 0 where
  pub watched : View
  pub all : IsWatched v0 watched z.passes least
  pub is : v ≡ record watched { steps = watched.steps + n; limbo = v.limbo }
  pub limbo : IsLimbo qs [] v.limbo
  pub marks : (e : Retired) → Member e v.limbo → Member e watched.limbo
  pub count : n + length qs ≡ length ps
  pub was : (x : Place) → Member x qs → Member x ps
  pub stays : (x : Place) → Member x ps → lets_go least x.label ≡ false → Member x qs

-- the epoch was found, from which it may be raised
pub record IsRaising (v0 v : View) (ps qs : List Place) : Type 0 where
  pub found : ℕ
  pub low : found < 2 ^ 62
  pub is : v ≡ epoch.view_after v0 found
  pub same : qs ≡ ps

-- the word of q is to be found
pub record IsWatching (z : Sizes) (v0 v : View) (ps qs : List Place) (q : ℕ) (least : Option ℕ) : Type 0 where
  pub there : q < z.passes
  pub other : q ≢ v0.pass
  pub seen : IsWatched v0 v q least
  pub same : qs ≡ ps

abbrev pub StageFits : Sizes → View → List Place → ReclaimStage → List Place → View → Type 0
StageFits z v0 ps Noting qs v = (v ≡ v0) × (qs ≡ ps)
StageFits z v0 ps Raising qs v = IsRaising v0 v ps qs
StageFits z v0 ps (Watching q least) qs v = IsWatching z v0 v ps qs q least
StageFits z v0 ps (Freeing least n) qs v = IsFreeing z v0 v ps qs least n

-- of an idle pass whose view was v0 when the machine began, where ps waited, and is v, where qs wait
pub record Fits (z : Sizes) (v0 : View) (ps : List Place) (m : Reclaiming) (qs : List Place) (v : View) : Type 0 where
  pub own : m.own ≡ v0.pass
  pub inside : m.own < m.passes
  pub passes : m.passes ≡ z.passes
  pub idle : v0.pin ≡ 0
  pub few : length ps ≤ 64
  pub start : IsLimbo ps [] v0.limbo
  pub stage : StageFits z v0 ps m.stage qs v
