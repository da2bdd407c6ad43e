use Rattle.std.proofs.Common.{◌≡◌, ◌-◌, ◌++◌, map}
use Rattle.std.specs.List.{All}
use Rattle.sd_work.specs.Memory.{elements_of}
use Rattle.sd_mem.specs.mem.Cells.{array_lent}
use Rattle.sd_cut.specs.Elements.{told, IsUntouched}
use Rattle.sd_cut.specs.Rows.{row_told}
use Rattle.sd_cut.proofs.rows.with_row.Given as goal

-- those so far, and the elements left
abbrev pub invariant-loop-number : goal.invariant-loop-number
invariant-loop-number l = record {
  untouched : All IsUntouched l.all.items;
  told_so : map told l.all.items ++ row_told (elements_of (array_lent l.elements)) l.number (l.end - l.number)
      ≡ map told l.initial.all.items ++ row_told (elements_of (array_lent l.elements)) l.place (l.end - l.place);
}
