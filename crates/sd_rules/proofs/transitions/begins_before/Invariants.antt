use Rattle.std.proofs.Common.{◌≡◌, ◌++◌, drop, map}
use Rattle.sd_places.specs.places.PlaceOf.{place_of}
use Rattle.sd_validity.specs.rules.Transitions as transitions
use Rattle.sd_rules.proofs.transitions.begins_before.Given as goal

-- those so far, with those of the places that are left, are all
abbrev pub invariant-loop-other : goal.invariant-loop-other
invariant-loop-other l =
    l.begins.items ++ transitions.begins_before (map place_of (drop l.other-index l.before)) (place_of l.place) ≡ transitions.begins_before (map place_of l.before) (place_of l.place)
