use Rattle.std.proofs.Common.{◌≡◌, drop}
use Rattle.sd_graph.specs.Wiring.{has_number}
use Rattle.sd_cut.proofs.opening.is_one_of.Given as goal

-- those left have the number where all have it
abbrev pub invariant-loop-own : goal.invariant-loop-own
invariant-loop-own l = has_number (drop l.own-index l.numbers) l.number ≡ has_number l.numbers l.number
