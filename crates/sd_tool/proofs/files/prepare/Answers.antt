use Rattle.std.proofs.lemmas.Result.{err_from_is_err_and, IfOk-weaker, IfErr-weaker}
use Rattle.std.proofs.Common.{ℕ, List}
use Rattle.sd_graph.specs.TreeFold.{graph_tree}
use Rattle.sd_tool.specs.Files.{shelf_use}
use Rattle.sd_tool.specs.Answers.{ReadsSource}
use Rattle.sd_words.specs.Command.{IsCall, call_of}
use Rattle.sd_tool.specs.Workspace.{work_of}
use Rattle.sd_tool.proofs.AnswerRules.{IsPart, first_part, second_part, refuses_source, refuses_program, reads_source, refuses_arrays, refuses_work, comes_to}
use Rattle.sd_tool.proofs.files.prepare.Given.{Over}
use Rattle.sd_tool.proofs.files.prepare.Goals as goal
use Rattle.sd_tool.proofs.files.prepare.Goals.{After-content-2}

pub returns-in_err-text-clause-refuses : goal.returns-in_err-text-clause-refuses
returns-in_err-text-clause-refuses g c = λ words asked.
    let p = err_from_is_err_and c.from_residual.result c.from_residual.ensures.1 in
    rw (p.1, p.2) (refuses_source words _ (call_of c.args.call) c.in_err-text.field-0.0 asked c.in_err-text.ensures.unread)

pub returns-in_err-graph-clause-refuses : goal.returns-in_err-graph-clause-refuses
returns-in_err-graph-clause-refuses g c = λ words asked.
    let p = err_from_is_err_and c.from_residual-in_err-graph.result c.from_residual-in_err-graph.ensures.1 in
    rw (p.1, p.2)
    (refuses_program words _ (call_of c.args.call) c.in_ok-text.text.items c.in_err-graph.field-0.0 asked c.in_ok-text.ensures.read c.in_err-graph.ensures.refused)

-- the source was read in the first part of the call
source_read : (g : Over) (c : After-content-2 g) → (words : List (List ℕ)) → IsCall words (call_of c.args.call) →
    ReadsSource words (shelf_use g.S.Shelf.told g.S.Shelf.faults g.S.Shelf.overruns c.args.shelf.now c.content-2.new.shelf) (call_of c.args.call) (graph_tree c.in_ok-graph.graph)
source_read g c words asked =
    reads_source words _ _ (call_of c.args.call) c.in_ok-text.text.items (graph_tree c.in_ok-graph.graph)
    (first_part g.S.Shelf.told g.S.Shelf.faults g.S.Shelf.overruns c.args.shelf.now c.content.new.shelf c.content-2.new.shelf c.content-2.ensures.faults_never_fall c.content-2.ensures.overruns_never_fall)
    asked c.in_ok-text.ensures.read c.in_ok-graph.ensures.graph

-- the arrays file is read in the second
later_part : (g : Over) (c : After-content-2 g) →
    IsPart (shelf_use g.S.Shelf.told g.S.Shelf.faults g.S.Shelf.overruns c.content.new.shelf c.content-2.new.shelf) (shelf_use g.S.Shelf.told g.S.Shelf.faults g.S.Shelf.overruns c.args.shelf.now c.content-2.new.shelf)
later_part g c =
    second_part g.S.Shelf.told g.S.Shelf.faults g.S.Shelf.overruns c.args.shelf.now c.content.new.shelf c.content-2.new.shelf
    c.content.ensures.told_stays c.content.ensures.faults_never_fall c.content.ensures.overruns_never_fall

pub returns-in_err-file-clause-refuses : goal.returns-in_err-file-clause-refuses
returns-in_err-file-clause-refuses g c = λ words asked.
    let at = (goal.at.returns-in_err-file-clause-refuses g c).After-content-2 in
    let p = err_from_is_err_and c.from_residual-in_err-file.result c.from_residual-in_err-file.ensures.1 in
    rw (p.1, p.2)
    (refuses_arrays words _ _ (call_of c.args.call) (graph_tree c.in_ok-graph.graph) c.in_err-file.field-0.0 (later_part g at) (source_read g at words asked) c.in_err-file.ensures.unread)

pub returns-clause-comes : goal.returns-clause-comes
returns-clause-comes g c = λ words asked.
    let at = (goal.at.returns-clause-comes g c).After-content-2 in
    IfOk-weaker c.prepared.result _ _
    (λ opened is. comes_to words _ _ (call_of c.args.call) (graph_tree c.in_ok-graph.graph) c.in_ok-file.file.items (work_of opened) (later_part g at) (source_read g at words asked) c.in_ok-file.ensures.read is)
    c.prepared.ensures.work

pub returns-clause-refuses : goal.returns-clause-refuses
returns-clause-refuses g c = λ words asked.
    let at = (goal.at.returns-clause-refuses g c).After-content-2 in
    IfErr-weaker c.prepared.result _ _
    (λ ending refuses. refuses_work words _ _ (call_of c.args.call) (graph_tree c.in_ok-graph.graph) c.in_ok-file.file.items ending (later_part g at) (source_read g at words asked) c.in_ok-file.ensures.read refuses)
    c.prepared.ensures.refused
