-- The change and the renewal are a plan.
use Rattle.std.proofs.Common.{◌≡◌, ℕ, ◌≤◌, List, ◌++◌, ◌∷◌, [], filter_map, Some, refl, sym, ap, ◌∙◌, subst, arith}
use Rattle.art_cell.specs.Children.{child_word}
use Rattle.art_cell.specs.Words.{size}
use Rattle.art_cell.specs.declared.cells.Layout.{Layout}
use Rattle.art_cell.specs.declared.cells.Layout.TheVariants.{Node4, Node16, Node48, Node256}
use Rattle.art_cell.specs.declared.cells.Link.TheVariants.{Node as node}
use Rattle.art_cell.specs.declared.cells.Node.{Node}
use Rattle.art_cell.specs.declared.cells.Write.{Write}
use Rattle.art_plan.specs.Puts.{IsSitePlan, puts_of}
use Rattle.art_plan.specs.Renewing.{IsRenewal, lower_targets, moved_put, renewed, twin_words}
use Rattle.art_plan.specs.Seen.{gone, kept, site_stamp}
use Rattle.art_plan.specs.Whole.{IsWhole, twin_node}
use Rattle.art_plan.specs.declared.changes.Put.{Put}
use Rattle.art_plan.specs.declared.changes.Target.{Target}
use Rattle.art_plan.specs.declared.changes.Twin.{Twin}
use Rattle.art_plan.proofs.Renewing.{renewed_whole}
use Rattle.art_step.specs.Views.{Member}
use Rattle.art_step.specs.declared.views.Stamp.{Stamp}
use Rattle.art_plan.proofs.renewals.renew.Goals as goal

few_words : (k : Layout) → size k ≤ 266
few_words Node4 = omega arith
few_words Node16 = omega arith
few_words Node48 = omega arith
few_words Node256 = omega arith

pub twin_body-body-requires : goal.twin_body-body-requires
twin_body-body-requires c = record { small = λ p i. (c.requires.small p (subst (λ (ps : List Put). Member p ps) c.as_slice.ensures.value i)).1 }

pub moved_puts-puts-requires-clause-small : goal.moved_puts-puts-requires-clause-small
moved_puts-puts-requires-clause-small c p i = (c.requires.small p (subst (λ (ps : List Put). Member p ps) c.as_slice-4.ensures.value i)).0

pub returns-clause-renewed : goal.returns-clause-renewed
returns-clause-renewed c =
    let ch = c.args.change.now in
    let below = c.args.worn.now in
    let site = c.args.site.now in
    let first = c.args.first in
    let ws : List Write = c.replaced.new.writes.items in
    let twin : Twin = record { number = c.args.number; body = c.twin_body-body.result } in
    let layout : twin.body.layout ≡ below.body.now.layout = c.twin_body-body.ensures.layout in
    let same : twin_node twin ≡ record { layout = below.body.now.layout; number = c.args.number } = ap (λ (l : Layout). record { layout = l; number = c.args.number }) layout in
    let targets : c.moved_targets-targets.result.items ≡ kept (site_stamp site) ∷ gone below.stamp ∷ lower_targets first ch.targets.items =
    c.moved_targets-targets.ensures ∙ (ap (λ (x : Stamp). kept x ∷ gone below.stamp ∷ lower_targets first c.as_slice-2.result.now) c.stamp.ensures ∙ ap (λ (xs : List Target). kept (site_stamp site) ∷ gone below.stamp ∷ lower_targets first xs) c.as_slice-2.ensures.value) in
    let puts : c.moved_puts-puts.result.items ≡ puts_of 0 ws ++ filter_map (moved_put first) ch.puts.items =
    c.moved_puts-puts.ensures ∙ (ap (λ (xs : List Write). puts_of 0 xs ++ filter_map (moved_put first) c.as_slice-4.result.now) c.as_slice-3.ensures.value ∙ ap (λ (ps : List Put). puts_of 0 ws ++ filter_map (moved_put first) ps) c.as_slice-4.ensures.value) in
    let goes : c.push.new.self.items ≡ ch.effects.unlinked.items ++ child_word (node below.node) ∷ [] = c.push.ensures.items ∙ ap (λ (x : ℕ). ch.effects.unlinked.items ++ x ∷ []) c.child_word-2.ensures in
    record {
      twin = twin;
      numbered = refl;
      layout = layout;
      words = c.twin_body-body.ensures.words ∙ ap (λ (ps : List Put). twin_words first ps below.body.now.words) c.as_slice.ensures.value;
      put = subst (λ (n : Node). IsSitePlan site (child_word (node n)) ws) (sym same) (subst (λ (x : ℕ). IsSitePlan site x ws) c.child_word.ensures c.replaced.ensures.plan);
      is = λ i. record (renewed first (site_stamp site) ws below.stamp below.node twin ch) {
        targets = record { items = targets i };
        puts = record { items = puts i };
        effects = record ch.effects { unlinked = record { items = goes i } };
      };
    }

pub returns-clause-whole : goal.returns-clause-whole
returns-clause-whole c z u k depth may =
    let ch = c.args.change.now in
    let below = c.args.worn.now in
    let site = c.args.site.now in
    let first = c.args.first in
    let ws : List Write = c.replaced.new.writes.items in
    let made = returns-clause-renewed c in
    let same : twin_node made.twin ≡ record { layout = below.body.now.layout; number = c.args.number } = λ i. record { layout = made.layout i; number = made.numbered i } in
    let long = c.twin_body-body.ensures.long in
    let few = few_words below.node.layout in
    let r : IsRenewal z u ch first site ws below made.twin k depth = record {
      planned = may.planned;
      place = may.place;
      taken = c.requires.taken;
      put = made.put;
      hand = subst (Rattle.art_commit.specs.CommitLaws.HasNode z u) (sym same) may.hand;
      other = λ e. may.other (e ∙ ap Some same);
      layout = made.layout ∙ may.place.read.layout;
      words = made.words;
      long = omega arith;
      first_is = may.first_is;
      above = may.above;
      stays = may.stays;
    } in
    subst (IsWhole z u) (sym made.is) (renewed_whole z u ch first site ws below made.twin k depth r)
