use Rattle.std.proofs.Common.{◌≡◌, drop, length}
use Rattle.sd_scope.proofs.scope_lemmas.Found.{found_from}
use Rattle.sd_scope.proofs.scope.element.element_in.Given as goal

abbrev pub invariant-loop-i : goal.invariant-loop-i
invariant-loop-i l = record {
  same : length l.extents ≡ length l.index;
  left : found_from l.place (drop l.i l.extents) (drop l.i l.index) ≡ found_from 0 l.extents l.index;
}
