-- What the matches of `art_index` are, by the words.
use Rattle.std.proofs.Common.{◌≡◌, ◌∙◌, codes, true, false, refl, sym, ap, subst, true≢false, List, [], ◌∷◌, Option, Some, None, take, option_map, option_and_then}
use Rattle.std.specs.Str.{bytes_eq}
use Rattle.clap.specs.Words.{App, HasMatchesOf, Row, Text, fault_of, first_of, first_value, found_of, is_simple_and_free, rows_of, subcommand_name_of, subcommand_of, subcommand_rows_of}
use Rattle.clap.specs.Simple.{built, built_leaf, help_shape}
use Rattle.clap.specs.Kinds.{HasKind}
use Rattle.clap.specs.declared.error.Error.{Error}
use Rattle.clap.specs.declared.parser.matches.ArgMatches.{ArgMatches}
use Rattle.clap.specs.declared.parser.matches.ArgMatches.TheViews.{out-ArgMatches}
use Rattle.clap.proofs.WalkLemmas.{first_value-rows}
use Rattle.std.specs.Option.{option_map_or}
use Rattle.art_tools.proofs.Refused.{values_explain, values_right}
use Rattle.art_tools.proofs.Subcommands.{IsOneOf, names_own}
use Rattle.art_tools.specs.Faults.{Explains}
use Rattle.art_tools.specs.Options.{numbers_fault}
use Rattle.art_tools.specs.Settings.{AreInRange, IsAskedBy, IsSetting, Subcommand, art_index_app, asked, numbers_of, option_given, run, subcommand_given, subcommand_named, words_fault}
use Rattle.art_tools.specs.declared.settings.Settings.{Settings}
use Rattle.art_tools.specs.declared.settings.SettingsFault.{SettingsFault}

-- ---- what clap says, of the command that `art_index` is

module _ (a : App) (words : List Text) (is : a ≡ art_index_app) where
  pub no_fault : (is_simple_and_free a ≡ true → fault_of a words ≡ []) → fault_of art_index_app words ≡ []
  no_fault h = subst (λ (a : App). (is_simple_and_free a ≡ true → fault_of a words ≡ []) → fault_of art_index_app words ≡ []) (sym is) (λ h. h refl) h

  pub fault_of_kind : (e : Error) → (is_simple_and_free a ≡ true → HasKind (fault_of a words) e) → HasKind (fault_of art_index_app words) e
  fault_of_kind e h = subst (λ (a : App). (is_simple_and_free a ≡ true → HasKind (fault_of a words) e) → HasKind (fault_of art_index_app words) e) (sym is) (λ h. h refl) h

  pub same_subcommand : (m : ArgMatches) → HasMatchesOf a words m → subcommand_rows_of m ≡ subcommand_of art_index_app words
  same_subcommand m h = subst (λ (a : App). HasMatchesOf a words m → subcommand_rows_of m ≡ subcommand_of art_index_app words) (sym is) (λ h. (h refl).1) h

-- words without fault name one of the four
pub asks_for_one : (words : List Text) → fault_of art_index_app words ≡ []
    → (name : Text) × (subcommand_given words ≡ Some name)
    × IsOneOf name (codes "run" ∷ codes "step" ∷ codes "load" ∷ codes "serve" ∷ [])
asks_for_one words taken = names_own art_index_app (take 4 (built art_index_app).subs) (built_leaf help_shape) words refl refl refl refl taken

-- ---- what a subcommand asks for

module _ (words : List Text) (name : Text) (s : Subcommand) (given : subcommand_given words ≡ Some name) (is : subcommand_named name ≡ s) where
  pub asked_is : asked words ≡ s
  asked_is = ap (λ (o : Option Text). option_map_or subcommand_named o run) given ∙ is

  -- its settings are those that the words ask for
  pub setting_asked : (settings : Settings) → IsSetting s (option_given words) settings → IsAskedBy words settings
  setting_asked settings has = subst (λ (x : Subcommand). IsSetting x (option_given words) settings) (sym asked_is) has

  -- nothing is wrong with its words, and its numbers are in their ranges
  pub all_right : fault_of art_index_app words ≡ [] → numbers_fault (numbers_of s) (option_given words) ≡ []
      → AreInRange s (option_given words) → (words_fault words ≡ []) × AreInRange (asked words) (option_given words)
  all_right none right fits = (
    values_right (fault_of art_index_app words) (numbers_fault (numbers_of (asked words)) (option_given words)) none
        (ap (λ (x : Subcommand). numbers_fault (numbers_of x) (option_given words)) asked_is ∙ right),
    subst (λ (x : Subcommand). AreInRange x (option_given words)) (sym asked_is) fits,
  )

  -- what is wrong with its numbers is wrong with the words
  pub explained : (f : SettingsFault) → fault_of art_index_app words ≡ []
      → Explains (numbers_fault (numbers_of s) (option_given words)) (AreInRange s (option_given words)) f
      → Explains (words_fault words) (AreInRange (asked words) (option_given words)) f
  explained f none why = values_explain (fault_of art_index_app words) (numbers_fault (numbers_of (asked words)) (option_given words))
      (AreInRange (asked words) (option_given words)) f none
      (subst (λ (x : Subcommand). Explains (numbers_fault (numbers_of x) (option_given words)) (AreInRange x (option_given words)) f)
      (sym asked_is) why)

-- ---- what the matches say

-- the name of the subcommand that a parse met
pub met_name : (m : ArgMatches) (words : List Text) → subcommand_rows_of m ≡ subcommand_of art_index_app words → subcommand_name_of m ≡ subcommand_given words
met_name m words same = named (out-ArgMatches m).subcommand refl ∙ ap (option_map (λ s. s.0)) same
  where
    named : (o : _) → (out-ArgMatches m).subcommand ≡ o → subcommand_name_of m ≡ option_map (λ s. s.0) (subcommand_rows_of m)
    named None is = rw is refl
    named (Some b) is = rw is refl

-- the options of the subcommand that a parse met
met_options : (m options : ArgMatches) (words : List Text) → subcommand_rows_of m ≡ subcommand_of art_index_app words
    → Some (rows_of (found_of options)) ≡ option_map (λ s. s.1) (subcommand_rows_of m) → (name : Text) → first_value (found_of options) name ≡ option_given words name
met_options m options words same is name =
    first_value-rows (found_of options) name ∙ (ap (option_and_then (first_of name)) (is ∙ ap (option_map (λ s. s.1)) same) ∙ go (subcommand_of art_index_app words))
  where
    go : (o : Option (Text × List Row)) → option_and_then (first_of name) (option_map (λ s. s.1) o) ≡ option_and_then (λ s. first_of name s.1) o
    go None = refl
    go (Some s) = refl

-- what the matches give to each option is what the words give to it
pub given_by_words : (a : App) (words : List Text) → a ≡ art_index_app → (m options : ArgMatches) → HasMatchesOf a words m
    → Some (rows_of (found_of options)) ≡ option_map (λ s. s.1) (subcommand_rows_of m) → first_value (found_of options) ≡ option_given words
given_by_words a words is m options matches rows = λ i name. met_options m options words (same_subcommand a words is m matches) rows name i

-- the name that was met is the one that the words give
pub name_met : (met name : Text) (given : Option Text) → Some met ≡ given → given ≡ Some name → met ≡ name
name_met met name given is was = let same : Some met ≡ Some name = is ∙ was in cc

-- and then it is told from no text that is the same
pub not_other : (met name : Text) → met ≡ name → bytes_eq name name ≡ true → bytes_eq met name ≡ false → ⊥
not_other met name is same other = true≢false (sym same ∙ (ap (λ t. bytes_eq t name) (sym is) ∙ other))
