-- Whatever its picks are, a run of an accepted graph ends as the sequential run.
use Rattle.std.proofs.Common.{ℕ, List, [], subst}
use Rattle.sd_work.specs.Memory.{Memory}
use Rattle.sd_work.specs.Step.{Outcome, Done}
use Rattle.sd_work.specs.Run.{Left, Run}
use Rattle.sd_work.proofs.Outcomes.{Run-unique}
use Rattle.sd_confluence.specs.Safe.{MayInterleave}
use Rattle.sd_confluence.proofs.runs.Interleavings.{every-run}
use Rattle.sd_graph.specs.PlainTree.{GraphTree}
use Rattle.sd_graph.specs.Unfold.{run_of}
use Rattle.sd_graph.specs.declared.place.Place.{Place}
use Rattle.sd_race.specs.race.Pairs.{IsGraphAccepted}
use Rattle.sd_safe.specs.normal.NormalForm.{IsGraphNormal}
use Rattle.sd_validity.specs.rules.Valid.{IsValid}
use Rattle.sd_safe.proofs.fit_lemmas.Fitting.{graph-fit}
use Rattle.sd_safe.proofs.safe_lemmas.Whole.{may_interleave}
use Rattle.sd_core.specs.Interleaving.{EndsAsSequential}

pub interleaved : (tree : GraphTree) (memory : Memory) (turns : ℕ) (picks : List ℕ) (outcome : Outcome Place Left) → IsGraphNormal tree → Run (run_of tree memory) turns picks outcome
    → IsValid tree → IsGraphAccepted tree → EndsAsSequential (run_of tree memory) turns outcome
interleaved tree memory turns picks outcome normal run valid accepted =
    let term = run_of tree memory in
    let may : MayInterleave term = may_interleave tree memory (graph-fit tree valid normal) accepted in
    record {
      sequential = λ left is. every-run term turns picks [] left may (subst (λ (end : Outcome Place Left). Run term turns picks end) is run);
      picked = λ end sequential.
          let found = every-run term turns [] picks end may sequential in
          (found.0, Run-unique term turns picks outcome (Done found.0) run found.1, found.2);
    }
