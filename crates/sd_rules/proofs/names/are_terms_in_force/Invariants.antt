use Rattle.std.proofs.Common.{◌≡◌, drop, ℕ, ℤ}
use Rattle.std.specs.List.{list_all}
use Rattle.sd_places.specs.places.PlaceOf.{place_of}
use Rattle.sd_validity.specs.rules.NamesInForce as names
use Rattle.sd_rules.proofs.names.are_terms_in_force.Given as goal

-- those left are in force where all are
abbrev pub invariant-loop-variable : goal.invariant-loop-variable
invariant-loop-variable l =
    list_all (λ (term : ℕ × ℤ). names.is_variable_in_force (place_of l.place) term.0) (drop l.variable-index l.terms)
    ≡ list_all (λ (term : ℕ × ℤ). names.is_variable_in_force (place_of l.place) term.0) l.terms
