use Rattle.std.proofs.Common.{◌≡◌, ◌≤◌, List, ◌++◌, length}
use Rattle.sd_json.specs.AnswerText.{cells_text}
use Rattle.sd_report.specs.write.Pieces.{AppendsAllBut}
use Rattle.sd_report.proofs.write.arrays.write_cells.Given as goal

-- the line with the elements so far is written but for its rest
abbrev pub invariant-loop-rest : goal.invariant-loop-rest
invariant-loop-rest g l = record {
  written : (done : List g.row.T.Denot) × (l.cells ≡ done ++ l.rest) × AppendsAllBut (g.K.Sink.taken l.fn.out) (g.K.Sink.taken l.out) (l.fn.line.items ++ cells_text g.T.Cell.element done) l.line.items;
  faults : g.K.Sink.faults l.fn.out ≤ g.K.Sink.faults l.out;
}

abbrev pub decreases-loop-rest : goal.decreases-loop-rest
decreases-loop-rest g l = length l.rest
