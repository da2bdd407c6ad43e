use Rattle.std.proofs.Common.{◌≡◌, ◌++◌, drop, map}
use Rattle.sd_places.specs.places.PlaceOf.{place_of}
use Rattle.sd_rules.specs.Named.{numbers_of}
use Rattle.sd_validity.specs.rules.NamesInForce as names
use Rattle.sd_rules.proofs.single.push_before.Given as goal

-- those so far, with those of the places that are left, are all
abbrev pub invariant-loop-other : goal.invariant-loop-other
invariant-loop-other l =
    l.all.items ++ names.numbers_at (numbers_of l.named) (names.of_graph (map place_of (drop l.other-index l.before)) (place_of l.place))
    ≡ l.initial.all.items ++ names.numbers_at (numbers_of l.named) (names.of_graph (map place_of l.before) (place_of l.place))
