-- A command has one answer.
use Rattle.std.proofs.Common.{◌≡◌, ℕ, List, [], ap, sym, ◌∙◌, subst, inl, inr}
use Rattle.sd_work.proofs.Outcomes.{Run-unique}
use Rattle.sd_graph.specs.PlainTree.{GraphTree}
use Rattle.sd_graph.specs.Unfold.{run_of}
use Rattle.sd_race.specs.race.Pairs.{IsGraphAccepted}
use Rattle.sd_race.proofs.race_lemmas.FirstLaws.{no-race, one-race}
use Rattle.sd_report.proofs.stepping_lemmas.Traces.{IsPicked-unique}
use Rattle.sd_words.specs.Command.{Command, Step, to_run, to_step, to_print, to_check, to_plan, to_match, MakesRaceCheck}
use Rattle.sd_tool.specs.Work.{Work, run_of_work}
use Rattle.sd_tool.specs.Answer.{Answer, ran, raced}
use Rattle.sd_tool.specs.Answers.{TellsRun, TellsStep, TellsRace, UnlessRace, Tells}

-- a run tells one outcome
run_unique : (work : Work) (turns : ℕ) (steps : List (ℕ × ℕ)) (a b : Answer) → TellsRun work turns steps a → TellsRun work turns steps b → a ≡ b
run_unique work turns steps a b x y = x.is ∙ ap (ran steps work.tree turns) (Run-unique (run_of_work work) turns [] x.outcome y.outcome x.ends y.ends) ∙ sym y.is

-- so does a run by picks, and with the same steps
step_unique : (work : Work) (other : GraphTree) (picks : List ℕ) (step : Step) (a b : Answer) → TellsStep work other picks step a → TellsStep work other picks step b → a ≡ b
step_unique work other picks step a b x y =
    let same = IsPicked-unique (run_of other work.memory) step.turns picks step.traces x.picked y.picked x.steps y.steps x.run y.run in
    run_unique work step.turns y.steps a b (subst (λ steps. TellsRun work step.turns steps a) same x.told) y.told

-- a graph is accepted or has one race
verdict_unique : (tree : GraphTree) {P Q : Type 0} (a b : Answer) → (P → Q → a ≡ b) → UnlessRace tree P a → UnlessRace tree Q b → a ≡ b
verdict_unique tree a b one (inl x) (inl y) = one x.1 y.1
verdict_unique tree a b one (inl x) (inr y) = absurd (no-race tree y.race x.0 y.is_race)
verdict_unique tree a b one (inr x) (inl y) = absurd (no-race tree x.race y.0 x.is_race)
verdict_unique tree a b one (inr x) (inr y) = x.is ∙ ap (raced tree) (one-race tree x.race y.race x.is_race y.is_race) ∙ sym y.is

-- a command answers one thing of its work, the rewritten graph and its picks
pub Tells-unique : (work : Work) (other : GraphTree) (picks : List ℕ) (command : Command) (a b : Answer) → Tells work other picks command a → Tells work other picks command b → a ≡ b
Tells-unique work other picks (to_run run) a b x y = verdict_unique other a b (run_unique work run.turns [] a b) x y
Tells-unique work other picks (to_step step) a b x y = verdict_unique other a b (step_unique work other picks step a b) x y
Tells-unique work other picks to_print a b x y = x ∙ sym y
Tells-unique work other picks to_check a b x y = verdict_unique other a b (λ is also. is ∙ sym also) x y
Tells-unique work other picks to_plan a b x y = verdict_unique other a b (λ is also. is ∙ sym also) x y
Tells-unique work other picks to_match a b x y = x ∙ sym y

-- of a graph that is not accepted a command that makes the race check tells the race
pub race_told : (work : Work) (other : GraphTree) (picks : List ℕ) (command : Command) (answer : Answer) → MakesRaceCheck command → ¬ IsGraphAccepted other → Tells work other picks command answer → TellsRace other answer
race_told work other picks (to_run run) answer checks refused (inl tells) = absurd (refused tells.0)
race_told work other picks (to_run run) answer checks refused (inr tells) = tells
race_told work other picks (to_step step) answer checks refused (inl tells) = absurd (refused tells.0)
race_told work other picks (to_step step) answer checks refused (inr tells) = tells
race_told work other picks to_print answer checks refused tells = absurd checks
race_told work other picks to_check answer checks refused (inl tells) = absurd (refused tells.0)
race_told work other picks to_check answer checks refused (inr tells) = tells
race_told work other picks to_plan answer checks refused (inl tells) = absurd (refused tells.0)
race_told work other picks to_plan answer checks refused (inr tells) = tells
race_told work other picks to_match answer checks refused tells = absurd checks
