-- Affine values as expressions that are within the limits.
use Rattle.std.specs.Prelude.{◌≡◌, ℕ, List, Option, Some, None, true, false}
use Rattle.sd_range.specs.declared.affine.Affine.{Affine}
use Rattle.sd_graph.specs.PlainTree.{ValueTree}
use Rattle.sd_validity.specs.rules.WithinLimits.{affine_of, is_value_small}

-- an expression that is there where the value and each part of it are small, and is that of the value
abbrev pub IsSmallAs : Option Affine → (variables : List ℕ) → ValueTree → Type 0
IsSmallAs None variables value = is_value_small variables value ≡ false
IsSmallAs (Some a) variables value = (is_value_small variables value ≡ true) × (a ≡ affine_of variables value)
