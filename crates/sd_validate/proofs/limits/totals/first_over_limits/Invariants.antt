use Rattle.std.proofs.Common.{◌≡◌, [], drop, take, map}
use Rattle.sd_places.specs.places.PlaceOf.{place_of}
use Rattle.sd_validity.specs.rules.Failing.{failing}
use Rattle.sd_validity.specs.rules.WithinLimits as limits
use Rattle.sd_validate.proofs.limits.totals.first_over_limits.Given as goal

-- the rule fails first at one of the places that are left, and the totals are those of the places so far
abbrev pub invariant-loop-place : goal.invariant-loop-place
invariant-loop-place l = record {
  first : failing limits.rule_7 (map place_of (take l.place-index l.places)) (map place_of (drop l.place-index l.places)) ≡ failing limits.rule_7 [] (map place_of l.places);
  elements : l.totals.elements ≡ limits.elements_among (map place_of (take l.place-index l.places));
  nodes : l.totals.nodes ≡ limits.nodes_among (map place_of (take l.place-index l.places));
}
