use Rattle.std.proofs.Common.{◌≡◌, drop}
use Rattle.sd_part.specs.Marking.{with_marks}
use Rattle.sd_part.proofs.marking.mark_elements.Given as goal

-- those so far, and then those that are left
abbrev pub invariant-loop-number : goal.invariant-loop-number
invariant-loop-number l = with_marks l.by l.container (drop l.number-index l.numbers) l.overlay ≡ with_marks l.by l.container l.numbers l.initial.overlay
