-- What is told of a run of a graph that was made of another one, over plain variables.
use Rattle.std.proofs.Common.{◌≡◌, ℕ, List, Bool, refl, sym, ◌∙◌, subst}
use Rattle.sd_work.specs.Memory.{Memory}
use Rattle.sd_work.specs.Residual.{Term}
use Rattle.sd_work.specs.Step.{Outcome, Done, Faulted, Spent}
use Rattle.sd_work.specs.Run.{Left, Run, Sequential}
use Rattle.sd_confluence.specs.Alike.{LeaveAlike}
use Rattle.sd_graph.specs.PlainTree.{GraphTree}
use Rattle.sd_graph.specs.Unfold.{run_of}
use Rattle.sd_graph.specs.declared.place.Place.{Place}
use Rattle.sd_exchange.specs.maps.RunsAlike.{RunsAlike}
use Rattle.sd_race.specs.race.Pairs.{IsGraphAccepted}
use Rattle.sd_validity.specs.rules.Valid.{IsValid}
use Rattle.sd_safe.specs.normal.NormalForm.{IsGraphNormal}
use Rattle.sd_mem.specs.mem.Shaped.{Shaped}
use Rattle.sd_crew.specs.Ends.{IsDoneWith}
use Rattle.sd_crew.proofs.Alike.{alike-same, alike-on}
use Rattle.sd_report.specs.same_end.Told.{EndAlike}
use Rattle.sd_report.specs.stepping.Step.{IsPicked, IsToldEnd, IsRewrittenStep}
use Rattle.sd_report.proofs.stepping_lemmas.Ends.{done_end}
use Rattle.sd_report.proofs.stepping_lemmas.Steps.{run_of_steps}

-- what is left like what the rewritten graph's sequential run leaves is told of the source's graph
alike_end : (tree other : GraphTree) (memory : Memory) (turns : ℕ) (left end : Left) → RunsAlike other tree → Sequential (run_of other memory) turns (Done end) → LeaveAlike left end → IsToldEnd (run_of tree memory) turns (Done left)
alike_end tree other memory turns left end alike ends same =
    let found = alike memory turns end ends in
    record {
      outcome = Done found.0;
      ends = found.1;
      alike = record { memory = alike-on left.memory end.memory found.0.memory same.memory found.2.memory; turns = same.turns ∙ found.2.turns };
    }

-- a sequential run that is done is told of the source's graph
pub source_done : (tree other : GraphTree) (memory : Memory) (turns : ℕ) (left : Left) → RunsAlike other tree → Sequential (run_of other memory) turns (Done left) → IsToldEnd (run_of tree memory) turns (Done left)
source_done tree other memory turns left alike ends = alike_end tree other memory turns left left alike ends (record { memory = alike-same left.memory; turns = refl })

-- so is what workers leave
pub source_crew : (tree other : GraphTree) (opening memory : Shaped) (turns left : ℕ) → RunsAlike other tree → IsDoneWith other opening turns memory left →
    IsToldEnd (run_of tree opening.contents) turns (Done (record { memory = memory.contents; turns = left }))
source_crew tree other opening memory turns left alike done =
    alike_end tree other opening.contents turns (record { memory = memory.contents; turns = left }) done.end alike done.sequential (record { memory = done.alike; turns = done.turns_left })

told_done : (tree other : GraphTree) (memory : Memory) (turns : ℕ) (left : Left) (outcome : Outcome Place Left) → RunsAlike other tree → Sequential (run_of other memory) turns outcome → EndAlike (Done left) outcome →
    IsToldEnd (run_of tree memory) turns (Done left)
told_done tree other memory turns left (Done end) alike ends same = alike_end tree other memory turns left end alike ends same
told_done tree other memory turns left (Faulted fault) alike ends same = absurd same
told_done tree other memory turns left Spent alike ends same = absurd same

-- the end of a run by picks that is done is told of the source's graph
pub source_end : (tree other : GraphTree) (memory : Memory) (turns : ℕ) (picks : List ℕ) (left : Left) → RunsAlike other tree → IsValid other → IsGraphNormal other → IsGraphAccepted other → Run (run_of other memory) turns picks (Done left) →
    IsToldEnd (run_of tree memory) turns (Done left)
source_end tree other memory turns picks left alike valid normal accepted run =
    let told = done_end other memory turns picks left valid normal accepted run in
    told_done tree other memory turns left told.outcome alike told.ends told.alike

-- what is told of its end is told of the step
pub rewritten_step : {P : Type 0} (source opened rewritten begun : Term P) (turns : ℕ) (picks : List ℕ) (traces : Bool) (picked end : Outcome P Left) (steps : List (ℕ × ℕ)) → opened ≡ source → begun ≡ rewritten →
    IsPicked rewritten turns picks traces picked steps → ((chosen : List ℕ) → Run begun turns chosen picked → IsToldEnd opened turns end) → IsRewrittenStep source rewritten turns picks traces end steps
rewritten_step source opened rewritten begun turns picks traces picked end steps same again run told = record {
  picked = picked;
  run = run;
  told = subst (λ t. IsToldEnd t turns end) same (told picks (subst (λ t. Run t turns picks picked) (sym again) (run_of_steps rewritten turns picks traces picked steps run)));
}
