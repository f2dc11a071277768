use Rattle.std.proofs.Common.{◌≡◌, codes, refl, rules, subst, sym, map, List, [], ◌∷◌, Some, None, IfOk, MatchResult, if◌then◌else◌, lit≤}
use Rattle.std.specs.Str.{bytes_eq}
use Rattle.clap.specs.Words.{Text}
use Rattle.clap.proofs.OnLiterals.{clap_on_literals}
use Rattle.art_server.specs.ArtTable.Sizes.{IsConfig}
use Rattle.art_tools.specs.Faults.{Explains}
use Rattle.art_tools.specs.Options.{Given, schema_given, sizes_given}
use Rattle.art_tools.specs.Settings.{AreInRange, IsAskedBy, Subcommand, asked, option_given, subcommand_given, words_fault}
use Rattle.art_tools.proofs.Known.{asks_for_run, only_memory, settings_known}
use Rattle.art_index.proofs.tests.chosen_settings.Goals as goal

abbrev words : List Text
words = codes "art_index" ∷ codes "run" ∷ codes "--schema=u16" ∷ codes "--n48=007" ∷ []

abbrev given : Given
given name = if bytes_eq name (codes "schema") then Some (codes "u16") else (if bytes_eq name (codes "n48") then Some (codes "007") else None)

schema_is : schema_given (option_given words) ≡ schema_given given
unfolding clap_on_literals
schema_is = refl

sizes_are : sizes_given (option_given words) ≡ sizes_given given
unfolding clap_on_literals
sizes_are = refl

runs : subcommand_given words ≡ Some (codes "run")
unfolding clap_on_literals
runs = refl

no_fault : words_fault words ≡ []
unfolding clap_on_literals
no_fault = refl

valid : IsConfig (sizes_given given)
valid = record {
  leaves = (lit≤ tt, lit≤ tt);
  n4 = (lit≤ tt, lit≤ tt);
  n16 = (lit≤ tt, lit≤ tt);
  n48 = (lit≤ tt, lit≤ tt);
  n256 = (lit≤ tt, lit≤ tt);
  passes = (lit≤ tt, lit≤ tt);
  counter_start = lit≤ tt;
}

in_range : AreInRange (asked words) (option_given words)
in_range = subst (λ (s : Subcommand). AreInRange s (option_given words)) (sym (asks_for_run words runs)) (subst IsConfig (sym sizes_are) valid)

pub returns-clause-ok : goal.returns-clause-ok
returns-clause-ok c =
    let words_are : map (λ s. s.now) c.as_slice.result.now ≡ words = search rules in
    settings_known words given c.settings.result runs schema_is sizes_are (subst (λ (w : List Text). IfOk c.settings.result (IsAskedBy w)) words_are c.settings.ensures.asked)

pub returns-clause-err : goal.returns-clause-err
returns-clause-err c =
    let words_are : map (λ s. s.now) c.as_slice.result.now ≡ words = search rules in
    only_memory (words_fault words) (AreInRange (asked words) (option_given words)) c.settings.result _ no_fault in_range
    (subst (λ (w : List Text). MatchResult c.settings.result (λ _. (words_fault w ≡ []) × AreInRange (asked w) (option_given w))
    (Explains (words_fault w) (AreInRange (asked w) (option_given w)))) words_are c.settings.ensures.refused)
