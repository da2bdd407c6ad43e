use Rattle.std.proofs.Common.{◌≡◌, ◌≤◌, length, take}
use Rattle.std.specs.Vec.{vec_len, vec_capacity}
use Rattle.sd_json.proofs.elements.widened.Given as goal

-- the numbers so far, and room for all
abbrev pub invariant-loop-number : goal.invariant-loop-number
invariant-loop-number l = (l.wide.items ≡ take l.number-index l.small) × (vec_len l.wide ≡ l.number-index) × (length l.small ≤ vec_capacity l.wide)
