use Rattle.std.proofs.Common.{◌≡◌, drop}
use Rattle.sd_part.specs.Hulls.{has_elements}
use Rattle.sd_piece.proofs.held.has_elements.Given as goal

-- what is left decides
abbrev pub invariant-loop-one : goal.invariant-loop-one
invariant-loop-one l = has_elements l.boxes l.container ≡ has_elements (drop l.one-index l.boxes) l.container
