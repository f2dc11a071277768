-- Part after part: what each needs is what the one before it left.
use Rattle.std.proofs.Common.{◌∙◌, ◌≤◌, ℕ, length, refl, subst, sym}
use Rattle.arrayvec.specs.ArrayVec.{ArrayVec}
use Rattle.art_attempt.proofs.Phases.{fits_on, prepares_none, prepares_on}
use Rattle.art_attempt.specs.Attempts.{Fits}
use Rattle.art_attempt.specs.declared.attempts.Attempt.{Attempt}
use Rattle.art_attempt.specs.declared.attempts.Room.{Room}
use Rattle.art_step.specs.declared.views.View.{View}
use Rattle.art_attempt.proofs.attempts.Attempt.prepare.Given.{Over}
use Rattle.art_attempt.proofs.attempts.Attempt.prepare.Goals.{After-find_all, After-name_all, After-read_all, After-settle_on, After-supply_all}
use Rattle.art_attempt.proofs.attempts.Attempt.prepare.Goals as goal

-- what is known between two parts
abbrev Known : (g : Over) → g.row.S.Denot → Attempt → Room → Type 0
Known g t m r = (u : View) × Fits (g.S.Steps.sizes t) u m r (g.S.Steps.view t)

after_find : (g : Over) (c : After-find_all g) → Known g c.find_all.new.steps c.find_all.new.self c.find_all.new.room
after_find g c = fits_on (g.met.S.Steps.only_sizes c.args.steps.now c.find_all.new.steps c.find_all.ensures.only) c.requires.fits c.find_all.ensures.fits

after_settle : (g : Over) (c : After-settle_on g) → Known g c.find_all.new.steps c.find_all.new.self c.find_all.new.room → Known g c.settle_on.new.steps c.settle_on.new.self c.settle_on.new.room
after_settle g c known = fits_on (g.met.S.Steps.only_sizes c.find_all.new.steps c.settle_on.new.steps c.settle_on.ensures.only) known c.settle_on.ensures.fits

after_read : (g : Over) (c : After-read_all g) → Known g c.settle_on.new.steps c.settle_on.new.self c.settle_on.new.room → Known g c.read_all.new.steps c.read_all.new.self c.read_all.new.room
after_read g c known = fits_on (g.met.S.Steps.only_sizes c.settle_on.new.steps c.read_all.new.steps c.read_all.ensures.only) known c.read_all.ensures.fits

after_name : (g : Over) (c : After-name_all g) → Known g c.read_all.new.steps c.read_all.new.self c.read_all.new.room → Known g c.name_all.new.steps c.name_all.new.self c.name_all.new.room
after_name g c known = fits_on (g.met.S.Steps.only_sizes c.read_all.new.steps c.name_all.new.steps c.name_all.ensures.only) known c.name_all.ensures.fits

after_supply : (g : Over) (c : After-supply_all g) → Known g c.name_all.new.steps c.name_all.new.self c.name_all.new.room → Known g c.supply_all.new.steps c.supply_all.new.self c.supply_all.new.room
after_supply g c known = fits_on (g.met.S.Steps.only_sizes c.name_all.new.steps c.supply_all.new.steps c.supply_all.ensures.only) known c.supply_all.ensures.fits

pub settle_on-requires-clause-fits : goal.settle_on-requires-clause-fits
settle_on-requires-clause-fits g c =
    let at = goal.at.settle_on-requires-clause-fits g c in
    after_find g at.After-find_all

pub read_all-requires-clause-fits : goal.read_all-requires-clause-fits
read_all-requires-clause-fits g c =
    let at = goal.at.read_all-requires-clause-fits g c in
    after_settle g at.After-settle_on (after_find g at.After-find_all)

pub name_all-requires-clause-fits : goal.name_all-requires-clause-fits
name_all-requires-clause-fits g c =
    let at = goal.at.name_all-requires-clause-fits g c in
    after_read g at.After-read_all (after_settle g at.After-settle_on (after_find g at.After-find_all))

pub supply_all-requires-clause-fits : goal.supply_all-requires-clause-fits
supply_all-requires-clause-fits g c =
    let at = goal.at.supply_all-requires-clause-fits g c in
    after_name g at.After-name_all (after_read g at.After-read_all (after_settle g at.After-settle_on (after_find g at.After-find_all)))

pub validate_all-requires-clause-fits : goal.validate_all-requires-clause-fits
validate_all-requires-clause-fits g c =
    let at = goal.at.validate_all-requires-clause-fits g c in
    after_supply g at.After-supply_all (after_name g at.After-name_all (after_read g at.After-read_all (after_settle g at.After-settle_on (after_find g at.After-find_all))))

pub supply_all-requires-clause-short : goal.supply_all-requires-clause-short
supply_all-requires-clause-short g c =
    let same = c.name_all.ensures.kept.key ∙ (c.read_all.ensures.kept.key ∙ (c.settle_on.ensures.kept.key ∙ c.find_all.ensures.kept.key)) in
    subst (λ (k : ArrayVec ℕ). length k.items ≤ 64) (sym same) c.requires.short

pub returns-clause-prepared : goal.returns-clause-prepared
returns-clause-prepared g c =
    let s = c.args.steps.now in
    let sizes = g.met.S.Steps.only_sizes in
    let same1 = sizes s c.find_all.new.steps c.find_all.ensures.only in
    let same2 = sizes c.find_all.new.steps c.settle_on.new.steps c.settle_on.ensures.only ∙ same1 in
    let same3 = sizes c.settle_on.new.steps c.read_all.new.steps c.read_all.ensures.only ∙ same2 in
    let same4 = sizes c.read_all.new.steps c.name_all.new.steps c.name_all.ensures.only ∙ same3 in
    let same5 = sizes c.name_all.new.steps c.supply_all.new.steps c.supply_all.ensures.only ∙ same4 in
    let none = prepares_none (g.S.Steps.sizes s) c.args.self.now c.args.room.now c.args.left.now (g.S.Steps.view s) c.requires.turn in
    let find = prepares_on none refl c.find_all.ensures.kept c.find_all.ensures.turn c.find_all.ensures.less c.find_all.ensures.made c.find_all.ensures.fits in
    let settle = prepares_on find same1 c.settle_on.ensures.kept c.settle_on.ensures.turn c.settle_on.ensures.less c.settle_on.ensures.made c.settle_on.ensures.fits in
    let read = prepares_on settle same2 c.read_all.ensures.kept c.read_all.ensures.turn c.read_all.ensures.less c.read_all.ensures.made c.read_all.ensures.fits in
    let name = prepares_on read same3 c.name_all.ensures.kept c.name_all.ensures.turn c.name_all.ensures.less c.name_all.ensures.made c.name_all.ensures.fits in
    let supply = prepares_on name same4 c.supply_all.ensures.kept c.supply_all.ensures.turn c.supply_all.ensures.less c.supply_all.ensures.made c.supply_all.ensures.fits in
    prepares_on supply same5 c.validate_all.ensures.kept c.validate_all.ensures.turn c.validate_all.ensures.less c.validate_all.ensures.made c.validate_all.ensures.fits

pub returns-clause-only : goal.returns-clause-only
returns-clause-only g c =
    let then = g.met.S.Steps.only_then in
    let s = c.args.steps.now in
    then s c.name_all.new.steps c.validate_all.new.steps
    (then s c.settle_on.new.steps c.name_all.new.steps
    (then s c.find_all.new.steps c.settle_on.new.steps c.find_all.ensures.only c.settle_on.ensures.only)
    (then c.settle_on.new.steps c.read_all.new.steps c.name_all.new.steps c.read_all.ensures.only c.name_all.ensures.only))
    (then c.name_all.new.steps c.supply_all.new.steps c.validate_all.new.steps c.supply_all.ensures.only c.validate_all.ensures.only)
