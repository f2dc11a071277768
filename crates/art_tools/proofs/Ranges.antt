-- Numbers that are in their ranges as they are read are in them as they are given, and are the same.
use Rattle.std.proofs.Common.{◌≡◌, ◌∙◌, ℕ, ◌≤◌, ◌-◌, ◌^◌, sym, subst, arith}
use Rattle.art_server.specs.ArtTable.Sizes.{IsConfig}
use Rattle.art_server.specs.ArtTable.declared.configs.Config.{Config}
use Rattle.art_tools.proofs.Numbers.{given_valid, given_whole, held_whole, least_kept, most_kept, valid_before, within_held}
use Rattle.art_tools.specs.Options.{Given, saturated, sizes_given}
use Rattle.art_tools.specs.Ranges.{HasLoadNumbers, HasServe, HasServeNumbers, IsLoad, IsServe, IsServeGiven, held, load_given, load_of, port_given, serve_of, sessions_given, workers_given}
use Rattle.art_tools.specs.declared.load_options.LoadNumbers.{LoadNumbers}
use Rattle.art_tools.specs.declared.serve_options.ServeNumbers.{ServeNumbers}

-- the most that 128 bits hold
abbrev cap : ℕ
cap = 2 ^ 128 - 1

module _ (given number : ℕ) (is : number ≡ held given) where
  at_least : 1 ≤ number → 1 ≤ given
  at_least some = least_kept given cap (subst (λ (n : ℕ). 1 ≤ n) is some)

  at_most : (most : ℕ) → most ≤ 2 ^ 64 → number ≤ most → given ≤ most
  at_most most below few = most_kept given cap most (omega arith) (subst (λ (n : ℕ). n ≤ most) is few)

  same : (most : ℕ) → most ≤ 2 ^ 64 → given ≤ most → number ≡ given
  same most below few = is ∙ within_held given cap most (omega arith) few

module _ (given : Given) (sizes : Config) (is : sizes ≡ saturated (sizes_given given)) where
  sizes_valid : IsConfig sizes → IsConfig (sizes_given given)
  sizes_valid valid = valid_before (sizes_given given) (subst IsConfig is valid)

  sizes_same : IsConfig (sizes_given given) → sizes ≡ sizes_given given
  sizes_same valid = is ∙ held_whole (sizes_given given) valid

-- ---- a load

module _ (given : Given) (n : LoadNumbers) (has : HasLoadNumbers given n) where
  pub load_fits : IsLoad (load_of n) → IsLoad (load_given given)
  load_fits valid = record {
    sizes = sizes_valid given n.sizes has.sizes_are valid.sizes;
    threads = (at_least _ _ has.threads_are valid.threads.0, at_most _ _ has.threads_are 32 (omega arith) valid.threads.1);
    ops = at_most _ _ has.ops_are 1000000 (omega arith) valid.ops;
    seed = at_most _ _ has.seed_is (2 ^ 64 - 1) (omega arith) valid.seed;
    keys = (at_least _ _ has.keys_are valid.keys.0, at_most _ _ has.keys_are (2 ^ 64 - 1) (omega arith) valid.keys.1);
  }

  load_same : IsLoad (load_given given) → load_of n ≡ load_given given
  load_same valid = λ i. record {
    sizes = sizes_same given n.sizes has.sizes_are valid.sizes i;
    threads = same _ _ has.threads_are 32 (omega arith) valid.threads.1 i;
    ops = same _ _ has.ops_are 1000000 (omega arith) valid.ops i;
    seed = same _ _ has.seed_is (2 ^ 64 - 1) (omega arith) valid.seed i;
    keys = same _ _ has.keys_are (2 ^ 64 - 1) (omega arith) valid.keys.1 i;
  }

  pub load_given_is : IsLoad (load_of n) → load_of n ≡ load_given given
  load_given_is valid = load_same (load_fits valid)

  pub load_unfit : ¬ (IsLoad (load_of n)) → ¬ (IsLoad (load_given given))
  load_unfit unfit valid = unfit (subst IsLoad (sym (load_same valid)) valid)

-- ---- a server

module _ (given : Given) (n : ServeNumbers) (has : HasServeNumbers given n) where
  abbrev Fits : Type 0
  Fits = IsServe n.table.sizes n.port n.workers n.sessions

  pub serve_fits : Fits → IsServeGiven given
  serve_fits valid = record {
    table = given_valid given n.table has.table_is valid.table;
    ports = (at_least _ _ has.port_is valid.ports.0, at_most _ _ has.port_is (2 ^ 16 - 1) (omega arith) valid.ports.1);
    staff = (at_least _ _ has.workers_are valid.staff.0, at_most _ _ has.workers_are 32 (omega arith) valid.staff.1);
    most = at_most _ _ has.sessions_are (2 ^ 32 - 1) (omega arith) valid.most;
  }

  pub serve_given_is : Fits → HasServe given (serve_of n)
  serve_given_is valid =
      let fits = serve_fits valid in
      record {
        table = given_whole given n.table has.table_is valid.table;
        port = same _ _ has.port_is (2 ^ 16 - 1) (omega arith) fits.ports.1;
        workers = same _ _ has.workers_are 32 (omega arith) fits.staff.1;
        sessions = same _ _ has.sessions_are (2 ^ 32 - 1) (omega arith) fits.most;
      }

  pub serve_unfit : ¬ Fits → ¬ (IsServeGiven given)
  serve_unfit unfit valid = unfit (record {
    table = subst IsConfig (sym (sizes_same given n.table.sizes has.table_is.1 valid.table)) valid.table;
    ports = (subst (λ (p : ℕ). 1 ≤ p) (sym port) valid.ports.0, subst (λ (p : ℕ). p ≤ 2 ^ 16 - 1) (sym port) valid.ports.1);
    staff = (subst (λ (w : ℕ). 1 ≤ w) (sym workers) valid.staff.0, subst (λ (w : ℕ). w ≤ 32) (sym workers) valid.staff.1);
    most = subst (λ (s : ℕ). s ≤ 2 ^ 32 - 1) (sym sessions) valid.most;
  })
    where
      port : n.port ≡ port_given given
      port = same _ _ has.port_is (2 ^ 16 - 1) (omega arith) valid.ports.1

      workers : n.workers ≡ workers_given given
      workers = same _ _ has.workers_are 32 (omega arith) valid.staff.1

      sessions : n.sessions ≡ sessions_given given
      sessions = same _ _ has.sessions_are (2 ^ 32 - 1) (omega arith) valid.most
