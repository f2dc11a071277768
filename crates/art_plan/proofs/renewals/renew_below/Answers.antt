-- The change and the renewal of its second target are a plan.
use Rattle.std.proofs.Common.{◌≡◌, ℕ, ◌≤◌, List, ◌++◌, ◌∷◌, [], filter_map, Option, Some, None, refl, sym, ap, ◌∙◌, subst, arith}
use Rattle.std.specs.Option.{option_map}
use Rattle.std.proofs.lemmas.Option.{same_Some}
use Rattle.art_cell.specs.Bodies.{IsBody}
use Rattle.art_cell.specs.Children.{child_word}
use Rattle.art_cell.specs.Reads.{with_child, word_of}
use Rattle.art_cell.specs.Words.{child_of, prefix_of, size}
use Rattle.art_cell.specs.declared.cells.Layout.{Layout}
use Rattle.art_cell.specs.declared.cells.Layout.TheVariants.{Node4, Node16, Node48, Node256}
use Rattle.art_cell.specs.declared.cells.Link.TheVariants.{Node as node}
use Rattle.art_cell.specs.declared.cells.Node.{Node}
use Rattle.art_commit.specs.CommitLaws.{HasNode}
use Rattle.art_node.specs.Prefixes.{IsNodeOf}
use Rattle.art_plan.specs.Changes.{node_made, with_puts}
use Rattle.art_plan.specs.Renewing.{IsRenewalBelow, kept_put, renewed_below}
use Rattle.art_plan.specs.Seen.{gone, kept, site_stamp}
use Rattle.art_plan.specs.Whole.{IsWhole, twin_node}
use Rattle.art_plan.specs.declared.changes.Change.{Change}
use Rattle.art_plan.specs.declared.changes.Put.{Put}
use Rattle.art_plan.specs.declared.changes.Twin.{Twin}
use Rattle.art_plan.proofs.RenewingBelow.{renewed_below_whole}
use Rattle.art_step.specs.Views.{Member}
use Rattle.art_plan.proofs.renewals.renew_below.Goals as goal

few_words : (k : Layout) → size k ≤ 266
few_words Node4 = omega arith
few_words Node16 = omega arith
few_words Node48 = omega arith
few_words Node256 = omega arith

-- the new node has the layout of the body
layout_of : (c : Change) (o : Node) → node_made c ≡ Some o → c.body.layout ≡ o.layout
layout_of c o = make c.node
  where
    make : (y : Option ℕ) → option_map (λ (number : ℕ). record { layout = c.body.layout; number = number }) y ≡ Some o → c.body.layout ≡ o.layout
    make None e = absurd (cc)
    make (Some y) e = ap (λ (q : Node). q.layout) (same_Some (record { layout = c.body.layout; number = y }) o e)

pub written_body-body-requires : goal.written_body-body-requires
written_body-body-requires c = record { small = λ p i. c.requires.small p (subst (λ (ps : List Put). Member p ps) c.as_slice.ensures.value i) }

pub returns-clause-renewed : goal.returns-clause-renewed
returns-clause-renewed c =
    let ch = c.args.change.now in
    let below = c.args.worn.now in
    let body = c.set.new.body in
    let twin : Twin = record { number = c.args.number; body = c.written_body-body.result } in
    let same : twin_node twin ≡ record { layout = below.body.now.layout; number = c.args.number } = ap (λ (l : Layout). record { layout = l; number = c.args.number }) c.written_body-body.ensures.layout in
    let copy_word : c.child_word.result ≡ child_word (node (twin_node twin)) = c.child_word.ensures ∙ ap (λ (n : Node). child_word (node n)) (sym same) in
    let set = c.set.ensures.set in
    let puts : c.kept_puts-puts.result.items ≡ filter_map kept_put ch.puts.items = c.kept_puts-puts.ensures ∙ ap (filter_map kept_put) c.as_slice-3.ensures.value in
    let goes : c.push.new.self.items ≡ ch.effects.unlinked.items ++ child_word (node below.node) ∷ [] = c.push.ensures.items ∙ ap (λ (x : ℕ). ch.effects.unlinked.items ++ x ∷ []) c.child_word-2.ensures in
    record {
      twin = twin;
      numbered = refl;
      layout = c.written_body-body.ensures.layout;
      words = c.written_body-body.ensures.words ∙ ap (λ (ps : List Put). with_puts 1 ps below.body.now.words) c.as_slice.ensures.value;
      body = subst (λ (x : ℕ). IsNodeOf Node4 (word_of body) (prefix_of (word_of ch.body)) (with_child (child_of Node4 (word_of ch.body)) c.args.byte x)) copy_word
          (record { body = set.body; prefix = set.prefix; children = set.children });
      is = λ top xs first.
          let targets : c.two_targets-targets.result.items ≡ top ∷ gone below.stamp ∷ [] = c.two_targets-targets.ensures top xs (c.as_slice-2.ensures.value ∙ first) in
          λ i. record (renewed_below top below.stamp body below.node twin ch) {
            targets = record { items = targets i };
            puts = record { items = puts i };
            effects = record ch.effects { unlinked = record { items = goes i } };
          };
    }

pub returns-clause-whole : goal.returns-clause-whole
returns-clause-whole c z u site o k depth may =
    let ch = c.args.change.now in
    let below = c.args.worn.now in
    let body = c.set.new.body in
    let made = returns-clause-renewed c in
    let at : Node4 ≡ o.layout = sym c.requires.body.layout ∙ layout_of ch o may.new in
    let same : twin_node made.twin ≡ record { layout = below.body.now.layout; number = c.args.number } = λ i. record { layout = made.layout i; number = made.numbered i } in
    let long = c.written_body-body.ensures.long in
    let few = few_words below.node.layout in
    let r : IsRenewalBelow z u ch site o c.args.byte body below made.twin k depth = record {
      planned = may.planned;
      place = may.place;
      both = may.both;
      new = may.new;
      byte = c.ranges.byte.fits;
      meaning = subst (λ (l : Layout). IsBody l (word_of ch.body)) at c.requires.body.meaning;
      names = subst (λ (l : Layout). child_of l (word_of ch.body) c.args.byte ≡ Some (child_word (node below.node))) at c.requires.there;
      layout = c.set.ensures.layout;
      other = subst (λ (l : Layout). IsNodeOf l (word_of body) (prefix_of (word_of ch.body)) (with_child (child_of l (word_of ch.body)) c.args.byte (child_word (node (twin_node made.twin))))) at made.body;
      hand = subst (HasNode z u) (sym same) may.hand;
      apart = λ e. may.apart (e ∙ same);
      same = made.layout ∙ may.place.read.layout;
      words = made.words;
      long = omega arith;
      stays = may.stays;
    } in
    subst (IsWhole z u) (sym (made.is (kept (site_stamp site)) (kept below.stamp ∷ []) may.both))
    (renewed_below_whole z u ch site o c.args.byte body below made.twin k depth r)
