use Rattle.std.proofs.Common.{◌≡◌, drop}
use Rattle.std.specs.List.{list_all}
use Rattle.sd_places.proofs.places.parts.are_expressions_passed.Given as goal

-- those left pass where all do
abbrev pub invariant-loop-a : goal.invariant-loop-a
invariant-loop-a g l = list_all (g.T.Test.tests l.test).expression (drop l.a-index l.all) ≡ list_all (g.T.Test.tests l.test).expression l.all
