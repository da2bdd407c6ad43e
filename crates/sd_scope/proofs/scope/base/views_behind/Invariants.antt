use Rattle.std.proofs.Common.{◌≡◌, ◌∷◌, take}
use Rattle.sd_scope.proofs.scope.base.views_behind.Given as goal

abbrev pub invariant-loop-view : goal.invariant-loop-view
invariant-loop-view l = l.views.items ≡ l.fn.first ∷ take l.view-index l.others
