-- Which sizes a table may have.
use Rattle.std.specs.Prelude.{◌≤◌, ◌-◌, ◌^◌}
use Rattle.art_table.specs.declared.configs.Config.{Config}

-- each size is in its range
pub record IsConfig (sizes : Config) : Type 0 where
  pub leaves : (1 ≤ sizes.leaves) × (sizes.leaves ≤ 2 ^ 20)
  pub n4 : (1 ≤ sizes.n4) × (sizes.n4 ≤ 2 ^ 18)
  pub n16 : (1 ≤ sizes.n16) × (sizes.n16 ≤ 2 ^ 16)
  pub n48 : (1 ≤ sizes.n48) × (sizes.n48 ≤ 2 ^ 14)
  pub n256 : (1 ≤ sizes.n256) × (sizes.n256 ≤ 2 ^ 12)
  pub passes : (1 ≤ sizes.passes) × (sizes.passes ≤ 32)
  pub counter_start : sizes.counter_start ≤ 2 ^ 62 - 8
