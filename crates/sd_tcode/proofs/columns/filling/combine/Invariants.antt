use Rattle.std.proofs.Common.{◌≡◌, ◌<◌, ℕ, pos, length, slice_index_or, Ok}
use Rattle.sd_graph.specs.TaskletMeaning as meaning
use Rattle.sd_tcode.proofs.columns.filling.combine.Given as goal

-- the values so far
abbrev pub invariant-loop-i : goal.invariant-loop-i
invariant-loop-i l = record {
  many : length l.column ≡ length l.fn.column;
  values : (n : ℕ) → n < l.i → meaning.two_values l.sign (slice_index_or l.left n (pos 0)) (slice_index_or l.right n (pos 0)) ≡ Ok (slice_index_or l.column n (pos 0));
}
