use Rattle.std.proofs.Common.{◌≡◌, [], drop, length}
use Rattle.sd_graph.specs.Context.{index_at}
use Rattle.sd_scope.specs.scope.Standing.{constants_of}
use Rattle.sd_scope.proofs.scope_lemmas.Found.{found_from}
use Rattle.sd_scope.proofs.scope.element.element_at_begin.Given as goal

abbrev pub invariant-loop-i : goal.invariant-loop-i
invariant-loop-i l = record {
  same : length l.extents ≡ length l.dims;
  left : found_from l.place (drop l.i (constants_of l.extents)) (index_at (drop l.i l.dims) l.values []) ≡ found_from 0 (constants_of l.extents) (index_at l.dims l.values []);
}
