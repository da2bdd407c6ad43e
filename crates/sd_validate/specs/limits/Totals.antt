-- How many elements and nodes there are so far.
use Rattle.std.specs.Prelude.{◌≡◌, ℕ, ◌+◌, Option, Some, None, Bool, true, false}
use Rattle.sd_validity.specs.rules.Places.{Place}
use Rattle.sd_validity.specs.rules.WithinLimits.{elements_at, nodes_at}
use Rattle.sd_validate.specs.declared.limits.totals.Totals.{Totals}

-- a sum, which is there where what is added is within the limits
abbrev pub IsSum : (is_small : Bool) → (sum : ℕ) → Option ℕ → Type 0
IsSum is_small sum None = is_small ≡ false
IsSum is_small sum (Some total) = (is_small ≡ true) × (total ≡ sum)

-- with those of a place, where that is within the limits
abbrev pub AreBehind : (is_small : Bool) → (before : Totals) → Place → Option Totals → Type 0
AreBehind is_small before place None = is_small ≡ false
AreBehind is_small before place (Some totals) =
    (is_small ≡ true)
    × (totals.elements ≡ before.elements + elements_at place.graph place.thing)
    × (totals.nodes ≡ before.nodes + nodes_at place.graph place.thing)
