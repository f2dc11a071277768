-- The options of each subcommand: what is given to them, and what stands where one is left out.
use Rattle.std.specs.Prelude.{◌≡◌, ℕ, ◌-◌, ◌^◌, min, Bool, true, not, ◌&&◌, List, [], ◌∷◌, ◌++◌, Option, Some, if◌then◌else◌, codes, fold, map, unwrap_or}
use Rattle.std.specs.Char.{is_ascii_digit}
use Rattle.std.specs.List.{list_all}
use Rattle.std.specs.Option.{option_map_or}
use Rattle.std.specs.Str.Parse.{digits_value}
use Rattle.clap.specs.Kinds.{Kinds}
use Rattle.clap.specs.Walk.{is_empty}
use Rattle.clap.specs.Words.{App, Rule, Text, new_rule, with_rule}
use Rattle.clap.specs.declared.error.kind.ErrorKind.TheVariants.{ValueValidation}
use Rattle.art_server.specs.ArtTable.declared.configs.Config.{Config}
use Rattle.art_tools.specs.declared.settings.TableSettings.{TableSettings}

-- the option `--name VALUE`, of any text, which may be left out
abbrev pub option_rule : Text → Rule
option_rule name = record (new_rule name) { long = Some name; value_names = 1 }

-- the same, which may not be left out
abbrev pub required_rule : Text → Rule
required_rule name = record (option_rule name) { required = true }

-- the options for the sizes of a table
abbrev pub size_options : List Text
size_options = codes "leaves" ∷ codes "n4" ∷ codes "n16" ∷ codes "n48" ∷ codes "n256" ∷ codes "counter-start" ∷ []

-- the other options of a load, and of a server
abbrev pub own_load_options : List Text
own_load_options = codes "threads" ∷ codes "ops" ∷ codes "seed" ∷ codes "keys" ∷ []

abbrev pub own_serve_options : List Text
own_serve_options = codes "port" ∷ codes "workers" ∷ codes "sessions" ∷ []

-- the options of each whose values are numbers
abbrev pub load_options : List Text
load_options = size_options ++ own_load_options

abbrev pub serve_options : List Text
serve_options = size_options ++ own_serve_options

-- a command with options added
abbrev pub with_options : List Rule → App → App
with_options rules app = fold with_rule app rules

abbrev pub with_size_options : App → App
with_size_options app = with_options (map option_rule size_options) app

abbrev pub with_table_options : App → App
with_table_options app = with_size_options (with_rule app (option_rule (codes "schema")))

abbrev pub with_load_options : App → App
with_load_options app = with_size_options (with_options (map option_rule own_load_options) app)

abbrev pub with_serve_options : App → App
with_serve_options app =
    with_table_options (with_options (required_rule (codes "port") ∷ map option_rule (codes "workers" ∷ codes "sessions" ∷ [])) app)

-- the value that is given to each option, by the option's name
abbrev pub Given : Type 0
Given = Text → Option Text

-- the text is a row of ASCII digits, one or more
abbrev pub is_digits : Text → Bool
is_digits text = not (is_empty text) && list_all is_ascii_digit text

-- the option's value is a row of digits, or it is left out
abbrev pub has_digits : Given → Text → Bool
has_digits given name = option_map_or is_digits (given name) true

-- the number that is given to the option, or its default
abbrev pub number_given : Given → Text → ℕ → ℕ
number_given given name default = option_map_or (digits_value 10) (given name) default

-- the value of one of these options should be a number, and is no row of digits
abbrev pub numbers_fault : List Text → Given → Kinds
numbers_fault names given = if list_all (has_digits given) names then [] else ValueValidation ∷ []

-- the schema that is given, or `u64`
abbrev pub schema_given : Given → Text
schema_given given = unwrap_or (given (codes "schema")) (codes "u64")

-- the sizes that are given, each or its default, of a table of one pass
abbrev pub sizes_given : Given → Config
sizes_given given = record {
  leaves = number_given given (codes "leaves") 4096;
  n4 = number_given given (codes "n4") 4096;
  n16 = number_given given (codes "n16") 1024;
  n48 = number_given given (codes "n48") 512;
  n256 = number_given given (codes "n256") 128;
  passes = 1;
  counter_start = number_given given (codes "counter-start") 0;
}

-- the options are those that are given
abbrev pub HasOptions : Given → TableSettings → Type 0
HasOptions given options = (options.schema.now ≡ schema_given given) × (options.sizes ≡ sizes_given given)

-- ---- for the reading of numbers

-- each size as its field holds it: one that does not fit is the most that does
abbrev pub saturated : Config → Config
saturated sizes = record {
  leaves = min sizes.leaves (2 ^ 32 - 1);
  n4 = min sizes.n4 (2 ^ 32 - 1);
  n16 = min sizes.n16 (2 ^ 32 - 1);
  n48 = min sizes.n48 (2 ^ 32 - 1);
  n256 = min sizes.n256 (2 ^ 32 - 1);
  passes = sizes.passes;
  counter_start = min sizes.counter_start (2 ^ 64 - 1);
}

-- the options are those that are given, each size as its field holds it
abbrev pub HasSaturated : Given → TableSettings → Type 0
HasSaturated given options = (options.schema.now ≡ schema_given given) × (options.sizes ≡ saturated (sizes_given given))
