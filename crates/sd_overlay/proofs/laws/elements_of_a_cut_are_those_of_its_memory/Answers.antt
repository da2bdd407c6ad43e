use Rattle.sd_cut.specs.Turning.{kept_left, gathered_left, written_left}
use Rattle.sd_overlay.proofs.Turns.{kept-turns, gathered-turns, written-turns}
use Rattle.sd_overlay.proofs.Uses.{seen-committed, stays-committed, written-committed}
use Rattle.sd_overlay.proofs.laws.elements_of_a_cut_are_those_of_its_memory.Goals as goal

pub returns-clause-seen : goal.returns-clause-seen
returns-clause-seen c = λ naming cut memory container number one fits elements lefts there agrees. seen-committed naming cut memory container number one fits lefts there agrees

pub returns-clause-kept : goal.returns-clause-kept
returns-clause-kept c = λ naming cut memory container number one fits elements there agrees. stays-committed naming cut memory kept_left kept-turns container number one fits elements there agrees

pub returns-clause-gathered : goal.returns-clause-gathered
returns-clause-gathered c = λ naming cut memory container number one by fits elements there agrees. stays-committed naming cut memory (gathered_left by) (gathered-turns by) container number one fits elements there agrees

pub returns-clause-written : goal.returns-clause-written
returns-clause-written c = λ naming cut memory container number one by value fits elements there agrees.
    written-committed naming cut memory (written_left by value) by value (written-turns by value) container number one fits elements there agrees
