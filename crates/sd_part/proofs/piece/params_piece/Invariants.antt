use Rattle.std.proofs.Common.{◌≡◌, ◌++◌, drop}
use Rattle.sd_windows.specs.MapPieces.{params_piece}
use Rattle.sd_part.proofs.piece.params_piece.Given as goal

-- those so far, and those left
abbrev pub invariant-loop-variable : goal.invariant-loop-variable
invariant-loop-variable l = l.piece.items ++ drop l.variable-index l.others ≡ params_piece l.values l.first l.count l.params
