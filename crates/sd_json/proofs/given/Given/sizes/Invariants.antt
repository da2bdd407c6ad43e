use Rattle.std.proofs.Common.{◌≡◌, take}
use Rattle.sd_json.proofs.given.Given.sizes.Given as goal

-- the sizes so far
abbrev pub invariant-loop-name : goal.invariant-loop-name
invariant-loop-name l = l.values.items ≡ take l.name-index l.name-items
