-- The end that is told of a run by picks, over plain variables.
use Rattle.std.proofs.Common.{ℕ, List, refl}
use Rattle.sd_work.specs.Memory.{Memory}
use Rattle.sd_work.specs.Residual.{Term}
use Rattle.sd_work.specs.Step.{Outcome, Done}
use Rattle.sd_work.specs.Run.{Left, Run, Sequential}
use Rattle.sd_graph.specs.PlainTree.{GraphTree}
use Rattle.sd_graph.specs.Unfold.{run_of}
use Rattle.sd_race.specs.race.Pairs.{IsGraphAccepted}
use Rattle.sd_validity.specs.rules.Valid.{IsValid}
use Rattle.sd_safe.specs.normal.NormalForm.{IsGraphNormal}
use Rattle.sd_safe.proofs.fit_lemmas.Fitting.{graph-fit}
use Rattle.sd_safe.proofs.safe_lemmas.Whole.{may_interleave}
use Rattle.sd_report.proofs.same_end_lemmas.Ends.{same_end, told_is_sequential}
use Rattle.sd_report.specs.stepping.Step.{IsToldEnd}

-- the end of the sequential run is told of it
pub sequential_end : {P : Type 0} (term : Term P) (turns : ℕ) (end : Outcome P Left) → Sequential term turns end → IsToldEnd term turns end
sequential_end term turns end ends = record { outcome = end; ends = ends; alike = same_end end }

-- the end of a run by picks that is done is told of it, where the graph is valid and accepted
pub done_end : (tree : GraphTree) (memory : Memory) (turns : ℕ) (picks : List ℕ) (left : Left) → IsValid tree → IsGraphNormal tree → IsGraphAccepted tree → Run (run_of tree memory) turns picks (Done left) →
    IsToldEnd (run_of tree memory) turns (Done left)
done_end tree memory turns picks left valid normal accepted run =
    let told =
    told_is_sequential (run_of tree memory) turns picks (may_interleave tree memory (graph-fit tree valid normal) accepted) (Done left) (record { picked = Done left; run = run; tells = refl }) in
    record { outcome = told.0; ends = told.1; alike = told.2 }
