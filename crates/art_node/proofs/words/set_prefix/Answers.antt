use Rattle.std.proofs.Common.{◌≡◌, ◌∙◌, ◌+◌, ◌*◌, ◌<◌, ◌^◌, ◌≢◌, ℕ, List, ⊎_elim, arith, get_or, get_or-set_other, get_or-set_same, length, refl, rules, set, subst, sym}
use Rattle.std.proofs.lemmas.Bool.{cases_eq}
use Rattle.std.proofs.lemmas.List.{length-set}
use Rattle.art_cell.specs.Leaves.{word_of_bytes}
use Rattle.art_cell.specs.Reads.{word_of}
use Rattle.art_node4.proofs.Writing.{below_set}
use Rattle.art_node.proofs.Prefixed.{past_prefix, prefixed}
use Rattle.art_node.proofs.words.set_prefix.Goals as goal

words_more : (words prefix : List ℕ) (at word : ℕ) → 2 + at < length words → word ≡ word_of_bytes prefix (8 * at)
    → ((i : ℕ) → i < at → get_or words (2 + i) 0 ≡ word_of_bytes prefix (8 * i))
    → (i : ℕ) → i < at + 1 → get_or (set words (2 + at) word) (2 + i) 0 ≡ word_of_bytes prefix (8 * i)
words_more words prefix at word inside is before i low = ⊎_elim
    (λ (e : i ≡ at). subst (λ (j : ℕ). get_or (set words (2 + at) word) (2 + j) 0 ≡ word_of_bytes prefix (8 * j)) (sym e)
    (get_or-set_same words (2 + at) word 0 inside ∙ is))
    (λ (other : i ≢ at). get_or-set_other words (2 + at) (2 + i) word 0 (λ e. other (omega (arith, e)))
    ∙ before i (omega (arith, low, other)))
    (cases_eq i at)

pub returns-clause-node : goal.returns-clause-node
returns-clause-node c =
    let l = c.loop-at in
    let body = c.args.body.now in
    let all : l.at ≡ 8 = omega (arith, c.loop-at-test.false, l.auto.at-end) in
    prefixed (word_of body) (word_of l.body) c.args.prefix.now (record {
      header = l.invariant.header;
      words = λ i low. l.invariant.words i (omega (arith, all, low));
      rest = l.invariant.rest;
      fits = l.invariant.fits;
      short = c.requires.short;
      bytes = λ i. omega (arith, c.type_inv.prefix i);
    }) body.layout c.requires.body

pub returns-clause-outside : goal.returns-clause-outside
returns-clause-outside c = (
  sym c.loop-at.invariant.version,
  λ place past. let big = past_prefix c.args.body.now.layout in sym (c.loop-at.invariant.rest place (omega (arith, big, past))),
)

pub loop-at-init : goal.loop-at-init
loop-at-init c = record {
  all = search rules;
  layout = refl;
  header = get_or-set_same c.args.body.now.words 1 _ 0 (omega (arith, c.requires.body.words));
  words = λ i low. absurd (omega (arith, low));
  rest = search rules;
  version = search rules;
  fits = search rules;
}

pub loop-at-preserved : goal.loop-at-preserved
loop-at-preserved c =
    let l = c.loop-at in
    let i = l.invariant in
    let words = l.body.words in
    let word = c.key_word.result in
    let all = i.all in
    let low = c.loop-at-test.true in
    record {
      all = length-set words (2 + l.at) word ∙ all;
      layout = i.layout;
      header = get_or-set_other words (2 + l.at) 1 word 0 (λ e. omega (arith, e)) ∙ i.header;
      words = words_more words c.args.prefix.now l.at word (omega (arith, all, low)) c.key_word.ensures i.words;
      rest = λ p past. get_or-set_other words (2 + l.at) p word 0 (λ e. omega (arith, e, past, low)) ∙ i.rest p past;
      version = get_or-set_other words (2 + l.at) 0 word 0 (λ e. omega (arith, e)) ∙ i.version;
      fits = below_set (2 ^ 64) words (2 + l.at) word c.key_word.type_inv i.fits;
    }
