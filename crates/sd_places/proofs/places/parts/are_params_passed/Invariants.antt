use Rattle.std.proofs.Common.{◌≡◌, drop}
use Rattle.sd_validity.specs.rules.Parts as parts
use Rattle.sd_places.proofs.places.parts.are_params_passed.Given as goal

-- those left pass where all do
abbrev pub invariant-loop-range : goal.invariant-loop-range
invariant-loop-range g l = parts.are_params_passed (g.T.Test.tests l.test) (drop l.range-index l.params) ≡ parts.are_params_passed (g.T.Test.tests l.test) l.params
