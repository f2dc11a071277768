-- Settings from words that are known.
use Rattle.std.proofs.Common.{◌≡◌, ◌∙◌, ap, codes, refl, subst, List, [], Option, Some, Result, Ok, Err, IfErr, IfOk, MatchResult}
use Rattle.std.specs.Option.{option_map_or}
use Rattle.clap.specs.Words.{Text}
use Rattle.clap.specs.Kinds.{Kinds}
use Rattle.art_tools.specs.declared.settings.Settings.{Settings}
use Rattle.art_tools.specs.declared.settings.Settings.TheVariants.{Run, Step, Load, Serve}
use Rattle.art_tools.specs.declared.settings.SettingsFault.{SettingsFault}
use Rattle.art_tools.specs.declared.settings.SettingsFault.TheVariants.{NoMemory, Range, Usage}
use Rattle.art_tools.specs.Faults.{Explains}
use Rattle.art_tools.specs.Options.{Given, schema_given, sizes_given}
use Rattle.art_tools.specs.Settings.{IsAskedBy, IsSetting, RunsWith, Subcommand, asked, option_given, run, subcommand_given, subcommand_named}

-- words that name `run` ask for it
pub asks_for_run : (words : List Text) → subcommand_given words ≡ Some (codes "run") → asked words ≡ run
asks_for_run words given = ap (λ (o : Option Text). option_map_or subcommand_named o run) given

known : (given own : Given) (settings : Settings) → schema_given own ≡ schema_given given → sizes_given own ≡ sizes_given given
    → IsSetting run own settings → RunsWith given settings
known given own (Run table) schemas sizes has = (has.0 ∙ schemas, has.1 ∙ sizes)
known given own (Step table) schemas sizes has = absurd has
known given own (Load load) schemas sizes has = absurd has
known given own (Serve server) schemas sizes has = absurd has

-- the settings that the words give are those of `run` with these options
pub settings_known : (words : List Text) (given : Given) (r : Result Settings SettingsFault) → subcommand_given words ≡ Some (codes "run")
    → schema_given (option_given words) ≡ schema_given given → sizes_given (option_given words) ≡ sizes_given given
    → IfOk r (IsAskedBy words) → IfOk r (RunsWith given)
settings_known words given (Err fault) runs schemas sizes has = has
settings_known words given (Ok settings) runs schemas sizes has =
    known given (option_given words) settings schemas sizes
    (subst (λ (s : Subcommand). IsSetting s (option_given words) settings) (asks_for_run words runs) has)

-- where nothing is wrong with the words, and their numbers fit, only memory can run out
pub only_memory : {T : Type 0} (kinds : Kinds) (fits : Type 0) (r : Result T SettingsFault) (P : T → Type 0) → kinds ≡ [] → fits
    → MatchResult r P (Explains kinds fits) → IfErr r (λ fault. fault ≡ NoMemory)
only_memory kinds fits (Ok x) P none valid h = tt
only_memory kinds fits (Err NoMemory) P none valid h = refl
only_memory kinds fits (Err Range) P none valid h = absurd (h.1 valid)
only_memory kinds fits (Err (Usage error)) P none valid h = absurd (subst (λ (k : Kinds). Explains k fits (Usage error)) none h)
