use Rattle.std.proofs.Common.{◌≡◌, ◌++◌, take}
use Rattle.std.specs.List.{flat_map}
use Rattle.sd_validity.specs.rules.Shapes.{variables_in}
use Rattle.sd_places.proofs.ranks.naming.range_variables.Given as goal

-- those of the begin, and of the ends so far
abbrev pub invariant-loop-end : goal.invariant-loop-end
invariant-loop-end l = l.named.items ≡ variables_in l.range.begin ++ flat_map variables_in (take l.end-index l.end-items)
