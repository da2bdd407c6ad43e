use Rattle.std.proofs.Common.{◌≡◌, [], drop, take, map}
use Rattle.sd_validity.specs.rules.Failing.{failing}
use Rattle.sd_places.specs.places.PlaceOf.{place_of}
use Rattle.sd_places.proofs.places.failing.first_failing.Given as goal

-- the rule fails first at one of the places that are left
abbrev pub invariant-loop-number : goal.invariant-loop-number
invariant-loop-number g l =
    failing (g.R.Rule.rule l.rule) (map place_of (take l.number l.places)) (map place_of (drop l.number l.places)) ≡ failing (g.R.Rule.rule l.rule) [] (map place_of l.places)
