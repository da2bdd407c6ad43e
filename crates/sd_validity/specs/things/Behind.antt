-- What holds of each place behind those before it.
use Rattle.std.specs.Prelude.{◌≡◌, List, [], ◌∷◌, ◌++◌, map, ⊤}
use Rattle.sd_validity.specs.rules.Places.{Thing, Place}
use Rattle.sd_validity.specs.rules.NamesInForce.{of_graph}
use Rattle.sd_validity.specs.things.Things.{graph_things}

-- of each of the places, where those before the first are these
abbrev pub AllBehind : (Holds : List Place → Place → Type 0) → (before : List Place) → List Place → Type 0
AllBehind Holds before [] = ⊤
AllBehind Holds before (place ∷ places) = Holds before place × AllBehind Holds (before ++ place ∷ []) places

abbrev pub things_at : List Place → List Thing
things_at places = map (λ place. place.thing) places

-- what stands in the graph of a place: that at its places before this one, that at this one, and more
abbrev pub StandsBehind : (before : List Place) → Place → Type 0
StandsBehind before place = (rest : List Thing) × (graph_things place.graph ≡ things_at (of_graph before place) ++ place.thing ∷ rest)
