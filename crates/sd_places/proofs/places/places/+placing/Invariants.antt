use Rattle.std.proofs.Common.{◌≡◌, ◌++◌, drop, map}
use Rattle.sd_graph.specs.TreeFold.{item_trees, state_trees}
use Rattle.sd_validity.specs.rules.Places.{item_places, state_places}
use Rattle.sd_places.specs.places.PlaceOf.{place_of, scopes_of}
use Rattle.sd_places.proofs.places.places.+placing.Given as goal

-- the places so far, with those of the states that are left, are all
abbrev pub invariant-push_states-loop-number : goal.invariant-push_states-loop-number
invariant-push_states-loop-number l =
    map place_of l.all.items ++ state_places (state_trees (drop l.number l.states)) (place_of l.around) l.number
    ≡ map place_of l.initial.all.items ++ state_places (state_trees l.states) (place_of l.around) 0

-- and of the items that are left
abbrev pub invariant-push_items-loop-number : goal.invariant-push_items-loop-number
invariant-push_items-loop-number l =
    map place_of l.all.items ++ item_places (item_trees (drop l.number l.items)) (place_of l.around) (scopes_of l.scopes) l.number
    ≡ map place_of l.initial.all.items ++ item_places (item_trees l.items) (place_of l.around) (scopes_of l.scopes) 0
