-- Numbers of options: what `parse` reads of digits, and what the fields of sizes hold of numbers.
use Rattle.std.proofs.Common.{◌≡◌, ◌∙◌, ℕ, ◌<◌, ◌≤◌, ◌-◌, ◌^◌, true, not, ◌&&◌, [], ◌∷◌, length, Result, Ok, Err, min, refl, sym, ap, subst, arith}
use Rattle.std.specs.Char.{is_ascii_digit}
use Rattle.std.specs.List.{list_all}
use Rattle.std.specs.Result.{OkIff, result_unwrap_or}
use Rattle.std.specs.Str.{all_ascii_digits}
use Rattle.std.specs.Str.Parse.{ParsesUnsigned, digits_value}
use Rattle.std.proofs.lemmas.Str.Parse.{numerals_by_value, parse_digits, tells_all_ascii_digits}
use Rattle.clap.specs.Walk.{is_empty}
use Rattle.clap.specs.Words.{Text}
use Rattle.clap.proofs.WalkLemmas.{both}
use Rattle.art_server.specs.ArtTable.declared.configs.Config.{Config}
use Rattle.art_server.specs.ArtTable.Sizes.{IsConfig}
use Rattle.art_tools.specs.declared.settings.TableSettings.{TableSettings}
use Rattle.art_tools.specs.Options.{Given, HasOptions, HasSaturated, is_digits, saturated, sizes_given}

-- ---- digits

all_digits : (text : Text) → list_all is_ascii_digit text ≡ all_ascii_digits text
all_digits [] = refl
all_digits (c ∷ cs) = ap (λ b. is_ascii_digit c && b) (all_digits cs)

-- digits are read as their number, or as the most that 128 bits hold
pub digits_read : {E : Type 0} (text : Text) (r : Result ℕ E) → ParsesUnsigned 128 10 text r → is_digits text ≡ true
    → result_unwrap_or r (2 ^ 128 - 1) ≡ min (digits_value 10 text) (2 ^ 128 - 1)
digits_read {E} [] r parses digits = cc
digits_read {E} (c ∷ cs) r parses digits =
    let parts = both (not (is_empty (c ∷ cs))) (list_all is_ascii_digit (c ∷ cs)) digits in
    go r (parse_digits (numerals_by_value _ tells_all_ascii_digits) 128 (c ∷ cs) r parses (sym (all_digits (c ∷ cs)) ∙ parts.1))
  where
    go : (r : Result ℕ E) → OkIff r ((0 < length (c ∷ cs)) × (digits_value 10 (c ∷ cs) < 2 ^ 128)) (digits_value 10 (c ∷ cs))
        → result_unwrap_or r (2 ^ 128 - 1) ≡ min (digits_value 10 (c ∷ cs)) (2 ^ 128 - 1)
    go (Ok n) h = let fits = h.0.1 in let same = h.1 in omega arith
    go (Err e) h = let wide : ¬ (digits_value 10 (c ∷ cs) < 2 ^ 128) = λ fits. h (omega arith, fits) in omega arith

-- ---- sizes

module _ (n cap : ℕ) where
  pub least_kept : 1 ≤ min n cap → 1 ≤ n
  least_kept h = omega arith

  pub most_kept : (most : ℕ) → most < cap → min n cap ≤ most → n ≤ most
  most_kept most below h = omega arith

  pub within_held : (most : ℕ) → most < cap → n ≤ most → min n cap ≡ n
  within_held most below h = omega arith

-- sizes that are valid as they are held are valid
pub valid_before : (sizes : Config) → IsConfig (saturated sizes) → IsConfig sizes
valid_before sizes valid = record {
  leaves = (least_kept sizes.leaves _ valid.leaves.0, most_kept sizes.leaves _ (2 ^ 20) (omega arith) valid.leaves.1);
  n4 = (least_kept sizes.n4 _ valid.n4.0, most_kept sizes.n4 _ (2 ^ 18) (omega arith) valid.n4.1);
  n16 = (least_kept sizes.n16 _ valid.n16.0, most_kept sizes.n16 _ (2 ^ 16) (omega arith) valid.n16.1);
  n48 = (least_kept sizes.n48 _ valid.n48.0, most_kept sizes.n48 _ (2 ^ 14) (omega arith) valid.n48.1);
  n256 = (least_kept sizes.n256 _ valid.n256.0, most_kept sizes.n256 _ (2 ^ 12) (omega arith) valid.n256.1);
  passes = valid.passes;
  counter_start = most_kept sizes.counter_start _ (2 ^ 62 - 8) (omega arith) valid.counter_start;
}

-- valid sizes are held as they are
pub held_whole : (sizes : Config) → IsConfig sizes → saturated sizes ≡ sizes
held_whole sizes valid = λ i. record {
  leaves = within_held sizes.leaves (2 ^ 32 - 1) (2 ^ 20) (omega arith) valid.leaves.1 i;
  n4 = within_held sizes.n4 (2 ^ 32 - 1) (2 ^ 18) (omega arith) valid.n4.1 i;
  n16 = within_held sizes.n16 (2 ^ 32 - 1) (2 ^ 16) (omega arith) valid.n16.1 i;
  n48 = within_held sizes.n48 (2 ^ 32 - 1) (2 ^ 14) (omega arith) valid.n48.1 i;
  n256 = within_held sizes.n256 (2 ^ 32 - 1) (2 ^ 12) (omega arith) valid.n256.1 i;
  passes = sizes.passes;
  counter_start = within_held sizes.counter_start (2 ^ 64 - 1) (2 ^ 62 - 8) (omega arith) valid.counter_start i;
}

-- options that are valid as they are held are those that are given, whose sizes are valid
module _ (given : Given) (options : TableSettings) (holds : HasSaturated given options) where
  pub given_valid : IsConfig options.sizes → IsConfig (sizes_given given)
  given_valid valid = valid_before (sizes_given given) (subst IsConfig holds.1 valid)

  pub given_whole : IsConfig options.sizes → HasOptions given options
  given_whole valid = (holds.0, holds.1 ∙ held_whole (sizes_given given) (given_valid valid))

  -- and else these sizes are not valid
  pub given_invalid : ¬ (IsConfig options.sizes) → ¬ (IsConfig (sizes_given given))
  given_invalid invalid valid = invalid (subst IsConfig (sym (holds.1 ∙ held_whole (sizes_given given) valid)) valid)
