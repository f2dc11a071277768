use Rattle.std.proofs.Common.{◌∙◌, ◌*◌, ◌/◌, ◌%◌, ℕ, List, set, get_or, arith, get_or-set_other, get_or-set_same}
use Rattle.std.proofs.lemmas.List.{length-set}
use Rattle.art_node.proofs.relaid.emptied.Goals as goal

pub returns-clause-empty : goal.returns-clause-empty
returns-clause-empty c =
    let kept = c.clear.ensures.below in
    let was : List ℕ = c.args.after.now.words in
    let header : ℕ = 512 * (get_or c.args.body.now.words 1 0 / 512 % 128) in
    record {
      header = kept 1 (omega arith) ∙ c.copy_prefix.ensures.first 1 (omega arith) ∙ get_or-set_same (set was 0 0) 1 header 0 (omega (arith, length-set was 0 0));
      prefix = λ place low high. kept place (omega arith) ∙ c.copy_prefix.ensures.copied place low high;
      others = λ place low high. c.clear.ensures.here place low (omega arith);
      version = kept 0 (omega arith) ∙ c.copy_prefix.ensures.first 0 (omega arith) ∙ get_or-set_other (set was 0 0) 1 0 header 0 (λ e. omega arith) ∙ get_or-set_same was 0 0 0 (omega arith);
      past = λ place high. c.clear.ensures.fits place;
    }
