use Rattle.std.proofs.Common.{◌≡◌, drop}
use Rattle.sd_row.specs.view.View.{along}
use Rattle.sd_row.proofs.view.window.number_along.Given as goal

-- what is left leads from the number so far to that of the whole place
abbrev pub invariant-loop-dim : goal.invariant-loop-dim
invariant-loop-dim l = along l.number (drop l.dim l.strides) (drop l.dim l.at) ≡ along l.first l.strides l.at
