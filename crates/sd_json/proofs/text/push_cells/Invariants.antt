use Rattle.std.proofs.Common.{◌≡◌, ◌++◌, take, string_bytes}
use Rattle.sd_json.specs.AnswerText.{cells_text}
use Rattle.sd_json.proofs.text.push_cells.Given as goal

-- the elements so far, each after a space
abbrev pub invariant-loop-cell : goal.invariant-loop-cell
invariant-loop-cell g l =
    string_bytes l.line ≡ string_bytes l.initial.line ++ cells_text g.T.Cell.element (take l.cell-index l.cells)
