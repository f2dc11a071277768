-- What the words of the command line ask for, by clap's own account of the matches.
use Rattle.std.specs.Prelude.{◌≡◌, ◌⊎◌, List, Option, Result, true, codes, if◌then◌else◌, map, option_map, option_and_then}
use Rattle.std.specs.Option.{option_map_or}
use Rattle.std.specs.Str.{bytes_eq}
use Rattle.std.specs.Borrow.{Bor}
use Rattle.clap.specs.Kinds.{IsAmong, Kinds, or_else}
use Rattle.clap.specs.Simple.{on_top}
use Rattle.clap.specs.Words.{App, Text, fault_of, first_of, new_app, subcommand_of, with_subcommand}
use Rattle.clap.specs.declared.error.kind.ErrorKind.{ErrorKind}
use Rattle.clap.specs.declared.error.kind.ErrorKind.TheVariants.{DisplayHelp, DisplayVersion}
use Rattle.art_key.specs.declared.columns.Column.{Column}
use Rattle.art_key.specs.declared.faults.SchemaFault.{SchemaFault}
use Rattle.art_key.specs.Schemas.{schema_of}
use Rattle.art_server.specs.ArtTable.declared.configs.Config.{Config}
use Rattle.art_server.specs.ArtTable.Sizes.{IsConfig}
use Rattle.art_tools.specs.Options.{Given, HasOptions, load_options, numbers_fault, schema_given, serve_options, size_options, sizes_given, with_load_options, with_serve_options, with_table_options}
use Rattle.art_tools.specs.Ranges.{HasServe, IsLoad, IsServeGiven, load_given}
use Rattle.art_tools.specs.declared.settings.LoadSettings.{LoadSettings}
use Rattle.art_tools.specs.declared.settings.Settings.{Settings}
use Rattle.art_tools.specs.declared.settings.Settings.TheVariants.{Run, Step, Load, Serve}

-- the subcommands, each with its options
abbrev pub run_app : App
run_app = with_table_options (new_app (codes "run"))

abbrev pub step_app : App
step_app = with_table_options (new_app (codes "step"))

abbrev pub load_app : App
load_app = with_load_options (new_app (codes "load"))

abbrev pub serve_app : App
serve_app = with_serve_options (new_app (codes "serve"))

-- a command of which a subcommand is wanted
abbrev pub wanting_subcommand : App → App
wanting_subcommand = on_top (λ s. record s { subcommand_required = true })

-- a command that has a version
abbrev pub versioned : App → App
versioned = on_top (λ s. record s { has_version = true })

-- `art_index`, with its version and its subcommands
abbrev pub art_index_app : App
art_index_app =
    let program = wanting_subcommand (versioned (new_app (codes "art_index"))) in
    with_subcommand (with_subcommand (with_subcommand (with_subcommand program run_app.top) step_app.top) load_app.top) serve_app.top

-- the subcommand that the words name
abbrev pub subcommand_given : List Text → Option Text
subcommand_given words = option_map (λ s. s.0) (subcommand_of art_index_app words)

-- the value that the words give to an option of the subcommand
abbrev pub option_given : List Text → Given
option_given words name = option_and_then (λ s. first_of name s.1) (subcommand_of art_index_app words)

-- the four subcommands
pub data Subcommand : Type 0 where
  run : Subcommand
  step : Subcommand
  load : Subcommand
  serve : Subcommand

-- the subcommand of this name; words that name none are refused before it is asked
abbrev pub subcommand_named : Text → Subcommand
subcommand_named name =
    if bytes_eq name (codes "step") then step
    else if bytes_eq name (codes "load") then load
    else if bytes_eq name (codes "serve") then serve
    else run

-- the subcommand that the words ask for
abbrev pub asked : List Text → Subcommand
asked words = option_map_or subcommand_named (subcommand_given words) run

-- the options of a subcommand whose values are numbers
abbrev pub numbers_of : Subcommand → List Text
numbers_of run = size_options
numbers_of step = size_options
numbers_of load = load_options
numbers_of serve = serve_options

-- each number of a subcommand is in its range
abbrev pub AreInRange : Subcommand → Given → Type 0
AreInRange run given = IsConfig (sizes_given given)
AreInRange step given = IsConfig (sizes_given given)
AreInRange load given = IsLoad (load_given given)
AreInRange serve given = IsServeGiven given

-- what is wrong with the words: what clap finds, and else a value that should be a number and is none
abbrev pub words_fault : List Text → Kinds
words_fault words = or_else (fault_of art_index_app words) (numbers_fault (numbers_of (asked words)) (option_given words))

-- the settings are those of `run` with the options that are given
abbrev pub RunsWith : Given → Settings → Type 0
RunsWith given (Run table) = HasOptions given table
RunsWith given (Step table) = ⊥
RunsWith given (Load l) = ⊥
RunsWith given (Serve s) = ⊥

-- the settings are those of the subcommand with the options that are given
abbrev pub IsSetting : Subcommand → Given → Settings → Type 0
IsSetting run given (Run table) = HasOptions given table
IsSetting step given (Step table) = HasOptions given table
IsSetting load given (Load l) = l ≡ load_given given
IsSetting serve given (Serve s) = HasServe given s
IsSetting subcommand given settings = ⊥

-- the settings are those that the words ask for: of the subcommand that they name, with the options that they give
abbrev pub IsAskedBy : List Text → Settings → Type 0
IsAskedBy words settings = IsSetting (asked words) (option_given words) settings

-- ---- as the program is given them

-- the texts of the words
abbrev pub texts_of : List (Bor Text) → List Text
texts_of words = map (λ word. word.now) words

-- what is wrong with the words, and help where they ask for it
abbrev pub faults_of : List (Bor Text) → List ErrorKind
faults_of words = words_fault (texts_of words)

-- the words ask for help, or for the version
abbrev pub AsksToShow : List (Bor Text) → Type 0
AsksToShow words = IsAmong DisplayHelp (faults_of words) ⊎ IsAmong DisplayVersion (faults_of words)

-- the subcommand that the program is asked for
abbrev pub asked_of : List (Bor Text) → Subcommand
asked_of words = asked (texts_of words)

-- the words ask for this subcommand
abbrev pub AsksFor : List (Bor Text) → Subcommand → Type 0
AsksFor words subcommand = asked_of words ≡ subcommand

-- each number that the words give is in its range
abbrev pub IsInRange : List (Bor Text) → Type 0
IsInRange words = AreInRange (asked_of words) (option_given (texts_of words))

-- the columns that `--schema` names, or those of `u64`
abbrev pub schema_asked : List (Bor Text) → Result (List Column) SchemaFault
schema_asked words = schema_of (schema_given (option_given (texts_of words)))

-- the sizes of the table that the words ask for
abbrev pub sizes_asked : List (Bor Text) → Config
sizes_asked words = sizes_given (option_given (texts_of words))

-- the load that the words ask for
abbrev pub load_asked : List (Bor Text) → LoadSettings
load_asked words = load_given (option_given (texts_of words))
