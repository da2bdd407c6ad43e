-- The steps that are told of a run by picks, over plain variables.
use Rattle.std.proofs.Common.{◌≡◌, ℕ, List, [], Bool, true, false, refl, sym, subst}
use Rattle.sd_work.specs.Residual.{Term}
use Rattle.sd_work.specs.Step.{Outcome, opening}
use Rattle.sd_work.specs.Run.{Left, Run, traced}
use Rattle.sd_core.specs.Traced.{IsTraced}
use Rattle.sd_report.specs.stepping.Step.{IsPicked, IsToldEnd, IsStep}

-- a run by picks has a trace
pub trace_of : {P : Type 0} (term : Term P) (turns : ℕ) (picks : List ℕ) (outcome : Outcome P Left) → Run term turns picks outcome → (trace : List (ℕ × ℕ)) × IsTraced term turns picks outcome trace
trace_of term turns picks outcome run = (traced run.0 picks (opening term turns), record { looks = run.0; runs = run.1; traces = refl })

-- all of it is told
pub with_steps : {P : Type 0} (term : Term P) (turns : ℕ) (picks : List ℕ) (traces : Bool) (outcome : Outcome P Left) (steps : List (ℕ × ℕ)) → traces ≡ true → IsTraced term turns picks outcome steps → IsPicked term turns picks traces outcome steps
with_steps term turns picks true outcome steps asked is = record { trace = steps; traced = is; kept = refl }
with_steps term turns picks false outcome steps asked is = cc

-- or nothing
pub without_steps : {P : Type 0} (term : Term P) (turns : ℕ) (picks : List ℕ) (traces : Bool) (outcome : Outcome P Left) → traces ≡ false → Run term turns picks outcome → IsPicked term turns picks traces outcome []
without_steps term turns picks true outcome asked run = cc
without_steps term turns picks false outcome asked run = let trace = trace_of term turns picks outcome run in record { trace = trace.0; traced = trace.1; kept = refl }

-- the run of which steps are told
pub run_of_steps : {P : Type 0} (term : Term P) (turns : ℕ) (picks : List ℕ) (traces : Bool) (outcome : Outcome P Left) (steps : List (ℕ × ℕ)) → IsPicked term turns picks traces outcome steps → Run term turns picks outcome
run_of_steps term turns picks traces outcome steps is = (is.traced.looks, is.traced.runs)

-- what is told of its end is told of it
pub step_told : {P : Type 0} (term other : Term P) (turns : ℕ) (picks : List ℕ) (traces : Bool) (picked end : Outcome P Left) (steps : List (ℕ × ℕ)) → other ≡ term → IsPicked term turns picks traces picked steps →
    ((chosen : List ℕ) → Run other turns chosen picked → IsToldEnd other turns end) → IsStep term turns picks traces end steps
step_told term other turns picks traces picked end steps same run told = record {
  picked = picked;
  run = run;
  told = subst (λ t. IsToldEnd t turns end) same (told picks (subst (λ t. Run t turns picks picked) (sym same) (run_of_steps term turns picks traces picked steps run)));
}
