-- What is reported says an answer of the command; what is told of a run says what is told of the sequential run.
use Rattle.std.proofs.Common.{◌≡◌, ℕ, List, [], ◌++◌, refl, ap, sym, subst, inl}
use Rattle.sd_work.specs.Run.{Left}
use Rattle.sd_work.specs.Step.{Outcome, Done, Faulted, Spent}
use Rattle.sd_graph.specs.PlainTree.{GraphTree}
use Rattle.sd_graph.specs.TreeParts.{containers_of}
use Rattle.sd_graph.specs.Unfold.{run_of}
use Rattle.sd_graph.specs.declared.place.Place.{Place}
use Rattle.sd_mem.specs.mem.GraphContents.{shapes_of}
use Rattle.sd_report.specs.same_end.Told.{EndAlike}
use Rattle.sd_report.proofs.same_end_lemmas.Texts.{text_same}
use Rattle.sd_report.specs.stepping.Step.{IsToldEnd, IsRewrittenStep}
use Rattle.sd_report.specs.write.RunText.{steps_text, run_text}
use Rattle.sd_race.specs.race.Pairs.{IsGraphAccepted}
use Rattle.sd_words.specs.Command.{Step, to_print, to_check, to_plan, to_match, command_of}
use Rattle.sd_words.specs.declared.asked.Command as asked_command
use Rattle.sd_words.specs.declared.asked.Command.TheVariants.{Print, Check, Plan, Matches}
use Rattle.sd_tool.specs.Answer.{Answer, ran, listed, checked, planned, matched, status_of_end}
use Rattle.sd_tool.specs.Answers.{TellsRun, TellsStep, Tells}
use Rattle.sd_tool.specs.Report.{SaysAs, Says}
use Rattle.sd_tool.specs.Work.{Work, run_of_work}

-- an answer says what it does
pub says : (IsAnswer : Answer → Type 0) (answer : Answer) → IsAnswer answer → Says IsAnswer answer
says IsAnswer answer is = record { answer = answer; is = is; alike = record { text = refl; status = refl } }

-- ends that are alike are told alike
said_as : (steps : List (ℕ × ℕ)) (tree : GraphTree) (turns : ℕ) (end outcome : Outcome Place Left) → EndAlike end outcome → SaysAs (ran steps tree turns end) (ran steps tree turns outcome)
said_as steps tree turns (Done left) (Done other) alike =
    record { text = ap (λ text. steps_text steps ++ text) (text_same tree (shapes_of (containers_of tree)) left.memory other.memory alike.memory); status = refl }
said_as steps tree turns (Done left) (Faulted fault) alike = absurd alike
said_as steps tree turns (Done left) Spent alike = absurd alike
said_as steps tree turns (Faulted fault) outcome alike = record { text = ap (run_text steps tree turns) (sym alike); status = ap status_of_end (sym alike) }
said_as steps tree turns Spent outcome alike = record { text = ap (run_text steps tree turns) (sym alike); status = ap status_of_end (sym alike) }

-- what is told of a run, none of whose steps are told
pub says_run : (work : Work) (turns : ℕ) (steps : List (ℕ × ℕ)) (end : Outcome Place Left) → steps ≡ [] → IsToldEnd (run_of_work work) turns end → Says (TellsRun work turns []) (ran steps work.tree turns end)
says_run work turns steps end none told =
    subst (λ s. Says (TellsRun work turns []) (ran s work.tree turns end)) (sym none) (record {
      answer = ran [] work.tree turns told.outcome;
      is = record { outcome = told.outcome; ends = told.ends; is = refl };
      alike = said_as [] work.tree turns end told.outcome told.alike;
    })

-- what is told of a run by picks
pub says_step : (work : Work) (other : GraphTree) (picks : List ℕ) (step : Step) (end : Outcome Place Left) (steps : List (ℕ × ℕ)) → IsRewrittenStep (run_of_work work) (run_of other work.memory) step.turns picks step.traces end steps →
    Says (TellsStep work other picks step) (ran steps work.tree step.turns end)
says_step work other picks step end steps is = record {
  answer = ran steps work.tree step.turns is.told.outcome;
  is = record { steps = steps; picked = is.picked; run = is.run; told = record { outcome = is.told.outcome; ends = is.told.ends; is = refl } };
  alike = said_as steps work.tree step.turns end is.told.outcome is.told.alike;
}

-- ---- texts

-- the text of a graph
pub says_print : (work : Work) (other given : GraphTree) (picks : List ℕ) (command : asked_command.Command) → command ≡ Print → given ≡ other → Says (Tells work other picks (command_of command)) (listed given)
says_print work other given picks command is same =
    subst (λ c. Says (Tells work other picks (command_of c)) (listed given)) (sym is)
    (subst (λ t. Says (Tells work other picks to_print) (listed t)) (sym same) (says (Tells work other picks to_print) (listed other) refl))

-- the rewrites that may be done
pub says_matches : (work : Work) (other given : GraphTree) (picks : List ℕ) (command : asked_command.Command) → command ≡ Matches → given ≡ other → Says (Tells work other picks (command_of command)) (matched given)
says_matches work other given picks command is same =
    subst (λ c. Says (Tells work other picks (command_of c)) (matched given)) (sym is)
    (subst (λ t. Says (Tells work other picks to_match) (matched t)) (sym same) (says (Tells work other picks to_match) (matched other) refl))

-- the accesses of an accepted graph
pub says_check : (work : Work) (other given : GraphTree) (picks : List ℕ) (command : asked_command.Command) → command ≡ Check → given ≡ other → IsGraphAccepted other → Says (Tells work other picks (command_of command)) (checked given)
says_check work other given picks command is same accepted =
    subst (λ c. Says (Tells work other picks (command_of c)) (checked given)) (sym is)
    (subst (λ t. Says (Tells work other picks to_check) (checked t)) (sym same) (says (Tells work other picks to_check) (checked other) (inl (accepted, refl))))

-- and its plan
pub says_plan : (work : Work) (other given : GraphTree) (picks : List ℕ) (command : asked_command.Command) → command ≡ Plan → given ≡ other → IsGraphAccepted other → Says (Tells work other picks (command_of command)) (planned given)
says_plan work other given picks command is same accepted =
    subst (λ c. Says (Tells work other picks (command_of c)) (planned given)) (sym is)
    (subst (λ t. Says (Tells work other picks to_plan) (planned t)) (sym same) (says (Tells work other picks to_plan) (planned other) (inl (accepted, refl))))
