use Rattle.std.proofs.Common.{◌≡◌, ◌+◌, ◌<◌, ℕ, pos, map, length, slice_index_or, unsigned_abs}
use Rattle.sd_tcode.specs.columns.Columns.{value_on}
use Rattle.sd_tcode.proofs.columns.filling.gather_each.Given as goal

-- the values so far
abbrev pub invariant-loop-i : goal.invariant-loop-i
invariant-loop-i g l = record {
  many : length l.column ≡ length l.fn.column;
  values : (n : ℕ) → n < l.i → slice_index_or l.column n (pos 0) ≡ slice_index_or (map g.T.Cell.element l.cells) (unsigned_abs (value_on l.elements (l.from + n))) (pos 0);
}
