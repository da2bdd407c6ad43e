use Rattle.std.proofs.Common.{◌≡◌, ◌++◌, [], ℕ, ℤ, List, neg_ℤ, map, length}
use Rattle.std.specs.List.{All}
use Rattle.sd_range.specs.Points.{tuples}
use Rattle.sd_range.specs.Subset.{dim_values}
use Rattle.sd_cut.specs.Cells.{spans_within}
use Rattle.sd_cut.specs.Elements.{told, IsUntouched}
use Rattle.sd_cut.specs.Rows.{all_told, AreThere}
use Rattle.sd_cut.proofs.RowLemmas.{rows_left}
use Rattle.sd_cut.proofs.rows.+with_rows.Given as goal

-- the rows so far, and those left
abbrev pub invariant-loop-more : goal.invariant-loop-more
invariant-loop-more l =
    let rests = tuples (map (dim_values []) (spans_within l.inner l.inner_extents)) in
    let left : ℕ → List (List ℤ) = λ place. rows_left l.initial.index.items rests (neg_ℤ l.first) l.more-end place in
    record {
      same : l.index.items ≡ l.initial.index.items;
      untouched : All IsUntouched l.all.items;
      there : AreThere l.memory l.container (left l.more) → AreThere l.memory l.container (left 0);
      rest : AreThere l.memory l.container (left 0) → AreThere l.memory l.container (left l.more);
      told_so : map told l.all.items ++ all_told l.memory l.container (left l.more) ≡ map told l.initial.all.items ++ all_told l.memory l.container (left 0);
    }

abbrev pub decreases-with_rows : goal.decreases-with_rows
decreases-with_rows l = length l.shift.now
