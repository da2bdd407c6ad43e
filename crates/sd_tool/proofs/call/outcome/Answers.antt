use Rattle.std.proofs.Common.{map, string_bytes, sym, subst}
use Rattle.std.proofs.lemmas.Option.{IfSome_then}
use Rattle.std.proofs.lemmas.Result.{err_from_is_err_and, IfOk-weaker, IfErr-weaker}
use Rattle.sd_part.specs.Whole.{IsOfWidths}
use Rattle.sd_words.specs.Command.{IsCall, call_of}
use Rattle.sd_tool.specs.Files.{ShelfUse, shelf_use}
use Rattle.sd_tool.specs.Answers.{Comes, Reaches, unsteered, answered}
use Rattle.sd_tool.specs.Workspace.{work_of, graph_of, RunsFor}
use Rattle.sd_tool.specs.declared.workspace.Workspace.{Workspace}
use Rattle.sd_tool.proofs.AnswerRules.{IsPart, first_part, second_part, Comes-part, Steers-part, Unsteered-part}
use Rattle.sd_tool.proofs.Chains.{steered_runs}
use Rattle.sd_tool.proofs.RunOutcome.{comes_valid}
use Rattle.sd_tool.proofs.Words.{limited}
use Rattle.sd_tool.proofs.call.outcome.Given.{Over}
use Rattle.sd_tool.proofs.call.outcome.Goals as goal
use Rattle.sd_tool.proofs.call.outcome.Goals.{After-steer}

pub of-requires-clause-runs : goal.of-requires-clause-runs
of-requires-clause-runs g c κs within =
    let work = work_of c.in_ok-work.work in
    let steers = c.in_ok-kept.ensures.steers in
    let valid = comes_valid _ _ (call_of c.in_ok-call.call) work (c.in_ok-work.ensures.comes _ c.in_ok-call.ensures.call) in
    subst (λ (work : Workspace). RunsFor (work_of work).tree (graph_of c.in_ok-kept.kept)) (sym c.in_ok-kept.ensures.same)
    (steered_runs work.tree (graph_of c.in_ok-kept.kept) steers.chain steers.file c.in_ok-kept.kept.picks.items valid c.show_normal_forms.ensures steers.is)

pub of-requires-clause-widths : goal.of-requires-clause-widths
of-requires-clause-widths g c κs within = subst (λ (work : Workspace). IsOfWidths work.memory) (sym c.in_ok-kept.ensures.same) c.in_ok-work.ensures.widths

pub of-requires-clause-limits : goal.of-requires-clause-limits
of-requires-clause-limits g c κs within = limited _ (call_of c.in_ok-call.call) c.in_ok-call.ensures.call

-- how the shelf is used by the whole call
abbrev use_of : (g : Over) (c : After-steer g) → ShelfUse
use_of g c = shelf_use g.S.Shelf.told g.S.Shelf.faults g.S.Shelf.overruns c.args.shelf.now c.steer.new.shelf

-- the source and the arrays file are read in its first part
comes : (g : Over) (c : After-steer g) → IsCall (map string_bytes c.args.words.now) (call_of c.in_ok-call.call) → Comes (map string_bytes c.args.words.now) (use_of g c) (call_of c.in_ok-call.call) (work_of c.in_ok-work.work)
comes g c asked =
    Comes-part _ _ _ (call_of c.in_ok-call.call) (work_of c.in_ok-work.work)
    (first_part g.S.Shelf.told g.S.Shelf.faults g.S.Shelf.overruns c.args.shelf.now c.prepare.new.shelf c.steer.new.shelf c.steer.ensures.faults_never_fall c.steer.ensures.overruns_never_fall)
    (c.in_ok-work.ensures.comes _ asked)

-- the chain file and the picks file in the second
later_part : (g : Over) (c : After-steer g) → IsPart (shelf_use g.S.Shelf.told g.S.Shelf.faults g.S.Shelf.overruns c.prepare.new.shelf c.steer.new.shelf) (use_of g c)
later_part g c =
    second_part g.S.Shelf.told g.S.Shelf.faults g.S.Shelf.overruns c.args.shelf.now c.prepare.new.shelf c.steer.new.shelf c.prepare.ensures.told_stays c.prepare.ensures.faults_never_fall c.prepare.ensures.overruns_never_fall

pub returns-in_err-kept-clause-refuses : goal.returns-in_err-kept-clause-refuses
returns-in_err-kept-clause-refuses g c =
    let at = (goal.at.returns-in_err-kept-clause-refuses g c).After-steer in
    let work = work_of c.in_ok-work.work in
    let p = err_from_is_err_and c.from_residual-in_err-kept.result c.from_residual-in_err-kept.ensures.1 in
    rw (p.1, p.2)
    (IfSome_then _ c.in_err-kept.ensures.lacks
    (λ answer why. unsteered (call_of c.in_ok-call.call) work (comes g at c.in_ok-call.ensures.call) (Unsteered-part _ _ (call_of c.in_ok-call.call) work.tree answer (later_part g at) why)))

pub returns-clause-reports : goal.returns-clause-reports
returns-clause-reports g c =
    let at = (goal.at.returns-clause-reports g c).After-steer in
    let call = call_of c.in_ok-call.call in
    let kept = c.in_ok-kept.kept in
    let reaches = subst (λ (work : Workspace). Reaches (map string_bytes c.args.words.now) (use_of g at) call (work_of work) (graph_of kept) kept.picks.items) (sym c.in_ok-kept.ensures.same)
    (record { comes = comes g at c.in_ok-call.ensures.call; steers = Steers-part _ _ call (work_of c.in_ok-work.work).tree (graph_of kept) kept.picks.items (later_part g at) c.in_ok-kept.ensures.steers }) in
    IfOk-weaker c.of.result _ _
    (λ report says. record { answer = says.answer; is = answered call (work_of kept.work) (graph_of kept) kept.picks.items reaches says.is; alike = says.alike })
    c.of.ensures.tells

pub returns-clause-refuses : goal.returns-clause-refuses
returns-clause-refuses g c =
    let at = (goal.at.returns-clause-refuses g c).After-steer in
    let call = call_of c.in_ok-call.call in
    let kept = c.in_ok-kept.kept in
    let reaches = subst (λ (work : Workspace). Reaches (map string_bytes c.args.words.now) (use_of g at) call (work_of work) (graph_of kept) kept.picks.items) (sym c.in_ok-kept.ensures.same)
    (record { comes = comes g at c.in_ok-call.ensures.call; steers = Steers-part _ _ call (work_of c.in_ok-work.work).tree (graph_of kept) kept.picks.items (later_part g at) c.in_ok-kept.ensures.steers }) in
    IfErr-weaker c.of.result _ _
    (λ ending some. IfSome_then _ some (λ answer tells. answered call (work_of kept.work) (graph_of kept) kept.picks.items reaches tells))
    c.of.ensures.refuses
