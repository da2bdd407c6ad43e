use Rattle.sd_work.proofs.ending.HaltingPools.{run-ends_with_pools}
use Rattle.sd_graph.specs.Unfold.{run_of}
use Rattle.sd_graph.proofs.UnfoldedNew.{run_unfolds_new}
use Rattle.sd_graph.proofs.UnfoldedCycles.{run_pays}
use Rattle.sd_validity.proofs.rules_lemmas.UpwardsLemmas.{leads_upwards}
use Rattle.sd_safe.proofs.fit_lemmas.Fitting.{graph-fit}
use Rattle.sd_safe.proofs.safe_lemmas.Whole.{may_interleave}
use Rattle.sd_report.proofs.same_end_lemmas.Ends.{told_is_sequential, something_is_told}
use Rattle.sd_report.proofs.same_end.laws.a_run_by_picks_is_told_as_the_sequential_run.Goals as goal

pub returns-clause-told : goal.returns-clause-told
returns-clause-told c = λ tree memory turns picks told valid normal accepted is.
    told_is_sequential (run_of tree memory) turns picks (may_interleave tree memory (graph-fit tree valid normal) accepted) told is

pub returns-clause-some : goal.returns-clause-some
returns-clause-some c = λ tree memory turns picks valid.
    something_is_told (run_of tree memory) turns picks
    (λ others. run-ends_with_pools (run_of tree memory) turns others (run_pays tree memory (leads_upwards tree valid.transitions)) (run_unfolds_new tree memory))
