use Rattle.sd_valid.proofs.Names.{AreBoundSoFar}
use Rattle.sd_valid.proofs.tree.containers.Given as goal

-- those done with the sizes, and those left
abbrev pub invariant-loop-name : goal.invariant-loop-name
invariant-loop-name l = AreBoundSoFar l.sizes l.bound.entries l.name-iterator l.all.entries
