-- The places of a graph with sizes in the place of the size symbols.
use Rattle.std.specs.Prelude.{ℤ, List, map}
use Rattle.sd_valid.specs.BoundTree.{bound_exit, bound_kind, bound_items, bound_graph}
use Rattle.sd_validity.specs.rules.Ranks.{ranks_of}
use Rattle.sd_validity.specs.rules.Places.{Thing, whole, leaving, doing, Place}

abbrev pub bound_thing : (sizes : List ℤ) → Thing → Thing
bound_thing sizes whole = whole
bound_thing sizes (leaving items exits) = leaving (bound_items sizes items) (map (bound_exit sizes) exits)
bound_thing sizes (doing kind) = doing (bound_kind sizes kind)

-- the same place in the bound graph, in which other variables may have a rank
abbrev pub bound_place : (sizes : List ℤ) → Place → Place
bound_place sizes place =
    record place { graph = bound_graph sizes place.graph; ranks = ranks_of (bound_graph sizes place.graph); thing = bound_thing sizes place.thing }
