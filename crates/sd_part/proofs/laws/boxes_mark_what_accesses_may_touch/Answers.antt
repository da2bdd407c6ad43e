use Rattle.sd_part.proofs.MarkedBoxes.{accesses-marked, windows-even, windows-shaped, windows-inside}
use Rattle.sd_part.proofs.laws.boxes_mark_what_accesses_may_touch.Goals as goal

pub returns-clause-marked : goal.returns-clause-marked
returns-clause-marked c = accesses-marked

pub returns-clause-even : goal.returns-clause-even
returns-clause-even c = windows-even

pub returns-clause-shaped : goal.returns-clause-shaped
returns-clause-shaped c = windows-shaped

pub returns-clause-inside : goal.returns-clause-inside
returns-clause-inside c = λ containers values accesses windows container window index for_them at member. windows-inside containers values accesses windows for_them container window at index member
