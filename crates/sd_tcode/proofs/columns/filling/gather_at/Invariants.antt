use Rattle.std.proofs.Common.{◌≡◌, ◌+◌, ◌*◌, ◌<◌, ℕ, pos, map, length, slice_index_or}
use Rattle.sd_tcode.proofs.columns.filling.gather_at.Given as goal

-- the values so far
abbrev pub invariant-loop-i : goal.invariant-loop-i
invariant-loop-i g l = record {
  many : length l.column ≡ length l.fn.column;
  place : l.place ≡ l.places.first + l.places.distance * l.i;
  values : (n : ℕ) → n < l.i → slice_index_or l.column n (pos 0) ≡ slice_index_or (map g.T.Cell.element l.cells) (l.places.first + l.places.distance * n) (pos 0);
}
