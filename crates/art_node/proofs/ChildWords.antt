-- What a child word names, where 0 is none.
use Rattle.std.proofs.Common.{◌≡◌, ℕ, zero, suc, Bool, cond, Some, None, refl, ap, arith, ne_eqb}
use Rattle.std.specs.Option.{option_and_then}
use Rattle.art_cell.specs.Children.{link_of}
use Rattle.art_cell.specs.Words.{nonzero}

pub nonzero_link : (c : ℕ) → option_and_then link_of (nonzero c) ≡ link_of c
nonzero_link zero = refl
nonzero_link (suc c) = ap (λ (t : Bool). option_and_then link_of (cond t None (Some (suc c)))) (ne_eqb (suc c) 0 (λ e. absurd (omega (arith, e))))
