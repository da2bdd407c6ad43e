use Rattle.sd_confluence.proofs.left.TakeSteps.{take-stays, take-steps}
use Rattle.sd_graph.specs.Unfold.{run_of}
use Rattle.sd_safe.proofs.fit_lemmas.Fitting.{graph-fit}
use Rattle.sd_safe.proofs.safe_lemmas.Whole.{may_interleave}
use Rattle.sd_safe.proofs.commuting_lemmas.InRuns.{safe-choice}
use Rattle.sd_safe.proofs.safe.commuting.two_takes_of_a_valid_accepted_graph_commute.Goals as goal

pub returns-clause-stays : goal.returns-clause-stays
returns-clause-stays c = λ tree memory count turns picks choice path second between valid normal accepted member next other two made.
    take-stays choice.machine between path second next other two made

pub returns-clause-commute : goal.returns-clause-commute
returns-clause-commute c = λ tree memory count turns picks choice path second between both valid normal accepted member next other two made later.
    take-steps choice.machine between both path second (safe-choice (run_of tree memory) count turns picks choice (may_interleave tree memory (graph-fit tree valid normal) accepted) member) next other two made later
