-- The answer that a report is.
use Rattle.std.specs.Prelude.{◌≡◌}
use Rattle.sd_graph.specs.TreeFold.{graph_tree}
use Rattle.sd_seq.specs.RunEnd.{outcome_of}
use Rattle.sd_report.specs.stepping.Step.{steps_of}
use Rattle.sd_tool.specs.Answer.{Answer, ran, listed, checked, planned, matched, status_of, text_of}
use Rattle.sd_tool.specs.declared.ran.Ran.{Ran}
use Rattle.sd_tool.specs.declared.report.Report.{Report}
use Rattle.sd_tool.specs.declared.report.Report.TheVariants.{Run, Graph, Accepted, Plan, Matches}

abbrev pub answer_of_ran : Ran → Answer
answer_of_ran kept = ran (steps_of kept.told) (graph_tree kept.bound.graph) kept.turns (outcome_of kept.told.end)

abbrev pub reported : Report → Answer
reported (Run kept) = answer_of_ran kept
reported (Graph bound) = listed (graph_tree bound.graph)
reported (Accepted bound) = checked (graph_tree bound.graph)
reported (Plan bound) = planned (graph_tree bound.graph)
reported (Matches bound) = matched (graph_tree bound.graph)

-- an answer says what another one does: it has its text and its status
pub record SaysAs (said answer : Answer) : Type 0 where
  pub text : text_of said ≡ text_of answer
  pub status : status_of said ≡ status_of answer

-- there is an answer of this kind, and it is said
pub record Says (IsAnswer : Answer → Type 0) (said : Answer) : Type 0 where
  pub answer : Answer
  pub is : IsAnswer answer
  pub alike : SaysAs said answer
