-- The numbers of each subcommand, and their ranges.
use Rattle.std.specs.Prelude.{◌≡◌, ℕ, ◌≤◌, ◌-◌, ◌^◌, min, codes}
use Rattle.art_server.specs.ArtTable.Sizes.{IsConfig}
use Rattle.art_server.specs.ArtTable.declared.configs.Config.{Config}
use Rattle.art_tools.specs.Options.{Given, HasOptions, HasSaturated, number_given, saturated, sizes_given}
use Rattle.art_tools.specs.declared.load_options.LoadNumbers.{LoadNumbers}
use Rattle.art_tools.specs.declared.serve_options.ServeNumbers.{ServeNumbers}
use Rattle.art_tools.specs.declared.settings.LoadSettings.{LoadSettings}
use Rattle.art_tools.specs.declared.settings.ServeSettings.{ServeSettings}

-- the load that is asked for
abbrev pub load_given : Given → LoadSettings
load_given given = record {
  sizes = sizes_given given;
  threads = number_given given (codes "threads") 2;
  ops = number_given given (codes "ops") 1000;
  seed = number_given given (codes "seed") 1;
  keys = number_given given (codes "keys") 1000;
}

-- each number of a load is in its range
pub record IsLoad (load : LoadSettings) : Type 0 where
  pub sizes : IsConfig load.sizes
  pub threads : (1 ≤ load.threads) × (load.threads ≤ 32)
  pub ops : load.ops ≤ 1000000
  pub seed : load.seed ≤ 2 ^ 64 - 1
  pub keys : (1 ≤ load.keys) × (load.keys ≤ 2 ^ 64 - 1)

-- each number of a server is in its range
pub record IsServe (sizes : Config) (port workers sessions : ℕ) : Type 0 where
  pub table : IsConfig sizes
  pub ports : (1 ≤ port) × (port ≤ 2 ^ 16 - 1)
  pub staff : (1 ≤ workers) × (workers ≤ 32)
  pub most : sessions ≤ 2 ^ 32 - 1

-- the numbers of the server that is asked for
abbrev pub port_given : Given → ℕ
port_given given = number_given given (codes "port") 0

abbrev pub workers_given : Given → ℕ
workers_given given = number_given given (codes "workers") 2

abbrev pub sessions_given : Given → ℕ
sessions_given given = number_given given (codes "sessions") 1

abbrev pub IsServeGiven : Given → Type 0
IsServeGiven given = IsServe (sizes_given given) (port_given given) (workers_given given) (sessions_given given)

-- the server is the one that is asked for
pub record HasServe (given : Given) (serve : ServeSettings) : Type 0 where
  pub table : HasOptions given serve.table
  pub port : serve.port ≡ port_given given
  pub workers : serve.workers ≡ workers_given given
  pub sessions : serve.sessions ≡ sessions_given given

-- ---- for the reading of numbers

-- a number as it is read: one past 128 bits is the most that they hold
abbrev pub held : ℕ → ℕ
held number = min number (2 ^ 128 - 1)

-- the load with these numbers
abbrev pub load_of : LoadNumbers → LoadSettings
load_of n = record { sizes = n.sizes; threads = n.threads; ops = n.ops; seed = n.seed; keys = n.keys }

-- the numbers of a load as they are read
pub record HasLoadNumbers (given : Given) (n : LoadNumbers) : Type 0 where
  pub sizes_are : n.sizes ≡ saturated (sizes_given given)
  pub threads_are : n.threads ≡ held (load_given given).threads
  pub ops_are : n.ops ≡ held (load_given given).ops
  pub seed_is : n.seed ≡ held (load_given given).seed
  pub keys_are : n.keys ≡ held (load_given given).keys

-- the server with these numbers
abbrev pub serve_of : ServeNumbers → ServeSettings
serve_of n = record { table = n.table; port = n.port; workers = n.workers; sessions = n.sessions }

-- the numbers of a server as they are read
pub record HasServeNumbers (given : Given) (n : ServeNumbers) : Type 0 where
  pub table_is : HasSaturated given n.table
  pub port_is : n.port ≡ held (port_given given)
  pub workers_are : n.workers ≡ held (workers_given given)
  pub sessions_are : n.sessions ≡ held (sessions_given given)
