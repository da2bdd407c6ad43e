-- The runs of valid work have outcomes.
use Rattle.std.proofs.Common.{◌≡◌, ℕ, List, [], Option, Some, None, Bool, true, false, sym, subst}
use Rattle.sd_work.proofs.ending.HaltingPools.{run-ends_with_pools}
use Rattle.sd_work.specs.Memory.{Memory}
use Rattle.sd_work.specs.Run.{Left, Run, Sequential}
use Rattle.sd_work.specs.Step.{Outcome}
use Rattle.sd_graph.specs.PlainTree.{GraphTree}
use Rattle.sd_graph.specs.Unfold.{run_of}
use Rattle.sd_graph.specs.declared.place.Place.{Place}
use Rattle.sd_graph.proofs.UnfoldedCycles.{run_pays}
use Rattle.sd_graph.proofs.UnfoldedNew.{run_unfolds_new}
use Rattle.sd_validity.specs.rules.Valid.{IsValid}
use Rattle.sd_validity.proofs.rules_lemmas.UpwardsLemmas.{leads_upwards}
use Rattle.sd_core.specs.Traced.{IsTraced}
use Rattle.sd_report.specs.stepping.Step.{IsPicked}
use Rattle.sd_report.proofs.stepping_lemmas.Steps.{trace_of, with_steps, without_steps}
use Rattle.sd_steps.proofs.Chains.{chain_valid}
use Rattle.sd_tool.specs.Files.{ShelfUse}
use Rattle.sd_tool.specs.Answers.{Comes}
use Rattle.sd_tool.specs.Told.{Asks, Chained}
use Rattle.sd_words.specs.Command.{Call}
use Rattle.sd_tool.specs.Work.{Work, run_of_work}
use Rattle.sd_tool.proofs.BoundValid.{work_valid}

-- ---- valid graphs

ends_by : (tree : GraphTree) (memory : Memory) (turns : ℕ) (picks : List ℕ) → IsValid tree → (outcome : Outcome Place Left) × Run (run_of tree memory) turns picks outcome
ends_by tree memory turns picks valid = run-ends_with_pools (run_of tree memory) turns picks (run_pays tree memory (leads_upwards tree valid.transitions)) (run_unfolds_new tree memory)

-- a run by picks, with its trace
pub record Steps (tree : GraphTree) (memory : Memory) (turns : ℕ) (picks : List ℕ) (traces : Bool) : Type 0 where
  pub outcome : Outcome Place Left
  pub trace : List (ℕ × ℕ)
  pub traced : IsTraced (run_of tree memory) turns picks outcome trace
  pub none : traces ≡ false → IsPicked (run_of tree memory) turns picks traces outcome []
  pub all : traces ≡ true → IsPicked (run_of tree memory) turns picks traces outcome trace

steps_of_valid : (tree : GraphTree) (memory : Memory) (turns : ℕ) (picks : List ℕ) (traces : Bool) → IsValid tree → Steps tree memory turns picks traces
steps_of_valid tree memory turns picks traces valid =
    let picked = ends_by tree memory turns picks valid in
    let steps = trace_of (run_of tree memory) turns picks picked.0 picked.1 in
    record {
      outcome = picked.0;
      trace = steps.0;
      traced = steps.1;
      none = λ asked. without_steps (run_of tree memory) turns picks traces picked.0 asked picked.1;
      all = λ asked. with_steps (run_of tree memory) turns picks traces picked.0 steps.0 asked steps.1;
    }

-- ---- calls

-- the graph that a call comes to is valid
pub comes_valid : (words : List (List ℕ)) (shelf : ShelfUse) (call : Call) (work : Work) → Comes words shelf call work → IsValid work.tree
comes_valid words shelf call work comes = work_valid comes.source.source comes.tree comes.arrays work comes.source.is comes.is

module _ (words : List (List ℕ)) (shelf : ShelfUse) (call : Call) (work : Work) (asks : Asks words shelf call work) where
  asks_valid : IsValid work.tree
  asks_valid = work_valid asks.source asks.tree asks.arrays work asks.tells.has_graph asks.comes

  pub ends_somehow : (turns : ℕ) → (outcome : Outcome Place Left) × Sequential (run_of_work work) turns outcome
  ends_somehow turns = ends_by work.tree work.memory turns [] asks_valid

  -- so is the graph that its chain makes
  made_valid : (chain : Option (List ℕ)) (other : GraphTree) → Chained shelf chain work.tree other → IsValid other
  made_valid None other same = subst IsValid (sym same) asks_valid
  made_valid (Some name) other by = chain_valid by.steps work.tree other asks_valid by.holds

  pub steps_somehow : (other : GraphTree) (turns : ℕ) (picks : List ℕ) (traces : Bool) → Chained shelf call.chain work.tree other → Steps other work.memory turns picks traces
  steps_somehow other turns picks traces makes = steps_of_valid other work.memory turns picks traces (made_valid call.chain other makes)
