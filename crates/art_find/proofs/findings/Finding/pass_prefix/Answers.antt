use Rattle.std.proofs.Common.{◌≡◌, ◌+◌, ◌-◌, ◌<◌, ℕ, Bool, true, List, None, length, sym, subst, arith}
use Rattle.std.specs.Prelude.{IfOk, MatchResult, Ok, Err, Result}
use Rattle.art_find.proofs.Allowed.{allowed}
use Rattle.art_find.proofs.Passing.{came_now, came_then, found_on}
use Rattle.art_find.specs.Descents.{StageFits}
use Rattle.art_find.specs.Nodes.{Arrives, Came, FitsAt, Moment, Reaches, descent_search, finding_search, moment}
use Rattle.art_find.specs.declared.descents.Descent.{Descent}
use Rattle.art_find.specs.declared.descents.Stage.{Stage}
use Rattle.art_find.specs.declared.descents.Stage.TheVariants.{Prefix}
use Rattle.art_find.specs.declared.findings.Finding.{Finding}
use Rattle.art_find.specs.declared.nodes.NodeSearch.{NodeSearch}
use Rattle.art_step.specs.Acting.{IsAllowed}
use Rattle.art_step.specs.declared.actions.Action.TheVariants.{Read}
use Rattle.art_node.specs.declared.searches.Sought.{Sought}
use Rattle.art_node.specs.declared.searches.Sought.TheVariants as sought
use Rattle.art_step.specs.declared.views.Sizes.{Sizes}
use Rattle.art_step.specs.declared.views.View.{View}
use Rattle.art_find.proofs.findings.Finding.pass_prefix.Goals as goal

-- a node is searched for a byte of the key
deep_at : (z : Sizes) (k : List ℕ) (what : _) (u v : View) (depth : ℕ) (seen : _) (s : Sought) → StageFits z k what depth (descent_search (record { depth = depth; seen = seen; sought = s })).stage u v → depth < length k
deep_at z k what u v depth seen (sought.Keys i) fits = fits.1.deep
deep_at z k what u v depth seen (sought.Child place) fits = fits.1.deep
deep_at z k what u v depth seen sought.Nothing fits = fits.3.1

-- where it goes on so, its descent searches a node
module _ (k : List ℕ) (n : Finding) (b : Moment) where
  deep_of : (r : Result NodeSearch Bool) → MatchResult r (λ f. descent_search f ≡ n.descent) (λ on. on ≡ true) → FitsAt k n b → IfOk r (λ f. f.depth < length k)
  deep_of (Ok f) is fits = deep_at b.sizes k fits.0 fits.1 b.view f.depth f.seen f.sought (subst (λ (d : Descent). StageFits b.sizes k fits.0 d.depth d.stage fits.1 b.view) (sym is) fits.2.descent)
  deep_of (Err on) is fits = tt

  reaches : (r : Result NodeSearch Bool) → MatchResult r (λ f. descent_search f ≡ n.descent) (λ on. on ≡ true) → (m : Finding) (a : Moment) → Came k m a n b → Reaches (finding_search n.above) r k m a n b
  reaches (Ok f) is m a came = subst (λ (d : Descent). Came k m a (record { descent = d; above = n.above }) b) (sym is) came
  reaches (Err on) is m a came = subst (λ (e : Bool). Arrives e k m a n b) (sym is) came

pub returns-in_default : goal.returns-in_default
returns-in_default g c =
    let l = c.loop-seen in
    let i = l.invariant in
    let now = moment (g.S.Steps.sizes l.steps) (g.S.Steps.view l.steps) (g.K.Sink.kept l.sink) l.left in
    record {
      only = i.only;
      left = i.left;
      less = i.less;
      deep = deep_of c.args.key.now l.self now c.searched.result c.searched.ensures i.found;
      goes = λ m a came. reaches c.args.key.now l.self now c.searched.result c.searched.ensures m a (i.goes m a came);
    }

pub read_word-word-requires : goal.read_word-word-requires
read_word-word-requires g c =
    let l = c.loop-seen in
    let z = g.S.Steps.sizes l.steps in
    let v = g.S.Steps.view l.steps in
    let q = l.invariant.found in
    let k = c.args.key.now in
    let seen = c.in-Prefix.seen in
    let at : Stage = Prefix seen c.in-Prefix.number c.in-Prefix.before in
    let fits = subst (λ (s : Stage). StageFits z k q.0 l.self.descent.depth s q.1 v) c.in-Prefix.is q.2.descent in
    record {
      allowed = subst (λ (i : ℕ). IsAllowed z None v (Read seen.stamp (2 + i))) (sym c.from-place.ensures) (allowed z k q.0 l.self.descent.depth at q.1 v fits);
    }

pub loop-seen-preserved : goal.loop-seen-preserved
loop-seen-preserved g c =
    let l = c.loop-seen in
    let i = l.invariant in
    let s = c.read_word-word.new.steps in
    let z = g.S.Steps.sizes l.steps in
    let v = g.S.Steps.view l.steps in
    let w = g.S.Steps.view s in
    let k = c.args.key.now in
    let now = moment z v (g.K.Sink.kept l.sink) l.left in
    let n = c.hear_word.new.self in
    let later = moment (g.S.Steps.sizes s) w (g.K.Sink.kept c.hear_word.new.sink) (l.left - 1) in
    let step = came_then k l.self now n later (g.met.S.Steps.only_sizes l.steps s c.read_word-word.ensures.only) (omega (arith, i.left))
    (c.hear_word.ensures.looked z v w c.read_word-word.ensures.row) in
    record {
      only = g.met.S.Steps.only_then c.args.steps.now l.steps s i.only c.read_word-word.ensures.only;
      left = omega (arith, c.if-left-lt5.false);
      less = omega (arith, i.less);
      found = found_on k l.self now n later (step l.self now (came_now k l.self now)) i.found;
      goes = λ m a came. step m a (i.goes m a came);
    }
