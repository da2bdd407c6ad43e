use Rattle.std.proofs.Common.{length}
use Rattle.sd_scope.proofs.scope.element.+element_through.Given as goal

abbrev pub decreases-element_through : goal.decreases-element_through
decreases-element_through l = length l.views.now
