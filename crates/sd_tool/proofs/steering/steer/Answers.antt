use Rattle.std.proofs.Common.{◌^◌, IfSome, sym, subst}
use Rattle.std.proofs.lemmas.Result.{err_from_is_err_and, IfOk-weaker, IfErr-weaker}
use Rattle.sd_words.specs.Command.{call_of}
use Rattle.sd_tool.specs.Ending.{answer_of}
use Rattle.sd_tool.specs.Files.{ShelfUse, shelf_use, ReadsNamed, UnreadNamed}
use Rattle.sd_tool.specs.Workspace.{work_of, graph_of}
use Rattle.sd_tool.proofs.AnswerRules.{IsPart, first_part, second_part, lacks_chain, lacks_picks, lacks_steering, has_steering}
use Rattle.sd_tool.proofs.steering.steer.Given.{Over}
use Rattle.sd_tool.proofs.steering.steer.Goals as goal
use Rattle.sd_tool.proofs.steering.steer.Goals.{After-named-2}

pub returns-in_err-chain-clause-lacks : goal.returns-in_err-chain-clause-lacks
returns-in_err-chain-clause-lacks g c =
    let p = err_from_is_err_and c.from_residual.result c.from_residual.ensures.1 in
    rw (p.1, p.2) (lacks_chain _ (call_of c.args.call) (work_of c.args.work).tree c.in_err-chain.field-0.0 c.in_err-chain.ensures.unread)

-- the picks file is read behind the chain file
abbrev picks_use : (g : Over) (c : After-named-2 g) → ShelfUse
picks_use g c = shelf_use g.S.Shelf.told g.S.Shelf.faults g.S.Shelf.overruns c.named.new.shelf c.named-2.new.shelf

-- both are parts of the whole
before : (g : Over) (c : After-named-2 g) →
    IsPart (shelf_use g.S.Shelf.told g.S.Shelf.faults g.S.Shelf.overruns c.args.shelf.now c.named.new.shelf) (shelf_use g.S.Shelf.told g.S.Shelf.faults g.S.Shelf.overruns c.args.shelf.now c.named-2.new.shelf)
before g c = first_part g.S.Shelf.told g.S.Shelf.faults g.S.Shelf.overruns c.args.shelf.now c.named.new.shelf c.named-2.new.shelf c.named-2.ensures.faults_never_fall c.named-2.ensures.overruns_never_fall

behind : (g : Over) (c : After-named-2 g) → IsPart (picks_use g c) (shelf_use g.S.Shelf.told g.S.Shelf.faults g.S.Shelf.overruns c.args.shelf.now c.named-2.new.shelf)
behind g c =
    second_part g.S.Shelf.told g.S.Shelf.faults g.S.Shelf.overruns c.args.shelf.now c.named.new.shelf c.named-2.new.shelf
    c.named.ensures.told_stays c.named.ensures.faults_never_fall c.named.ensures.overruns_never_fall

pub returns-in_err-picks-clause-lacks : goal.returns-in_err-picks-clause-lacks
returns-in_err-picks-clause-lacks g c =
    let at = (goal.at.returns-in_err-picks-clause-lacks g c).After-named-2 in
    let p = err_from_is_err_and c.from_residual-in_err-picks.result c.from_residual-in_err-picks.ensures.1 in
    let unread = subst (λ name. IfSome (answer_of c.in_err-picks.field-0.0) (UnreadNamed (picks_use g at) name (2 ^ 24))) c.picks_name.ensures c.in_err-picks.ensures.unread in
    rw (p.1, p.2)
    (lacks_picks _ _ _ (call_of c.args.call) (work_of c.args.work).tree (before g at) (behind g at) c.in_ok-chain.chain.items c.in_err-picks.field-0.0 c.in_ok-chain.ensures.read unread)

pub returns-clause-steers : goal.returns-clause-steers
returns-clause-steers g c =
    let at = (goal.at.returns-clause-steers g c).After-named-2 in
    let read = subst (ReadsNamed _ (call_of c.args.call).chain (2 ^ 16)) (sym c.as_slice.ensures.value) c.in_ok-chain.ensures.read in
    let also = subst (λ name. ReadsNamed (picks_use g at) name (2 ^ 24) c.as_slice-2.result.now) c.picks_name.ensures (subst (ReadsNamed (picks_use g at) _ (2 ^ 24)) (sym c.as_slice-2.ensures.value) c.in_ok-picks.ensures.read) in
    IfOk-weaker c.steered_by.result _ _
    (λ kept is. has_steering _ _ _ (call_of c.args.call) (work_of c.args.work).tree (before g at) (behind g at) c.as_slice.result.now c.as_slice-2.result.now kept.picks.items (graph_of kept) read also is)
    c.steered_by.ensures.steers

pub returns-clause-lacks : goal.returns-clause-lacks
returns-clause-lacks g c =
    let at = (goal.at.returns-clause-lacks g c).After-named-2 in
    let read = subst (ReadsNamed _ (call_of c.args.call).chain (2 ^ 16)) (sym c.as_slice.ensures.value) c.in_ok-chain.ensures.read in
    let also = subst (λ name. ReadsNamed (picks_use g at) name (2 ^ 24) c.as_slice-2.result.now) c.picks_name.ensures (subst (ReadsNamed (picks_use g at) _ (2 ^ 24)) (sym c.as_slice-2.ensures.value) c.in_ok-picks.ensures.read) in
    IfErr-weaker c.steered_by.result _ _
    (λ ending refuses. lacks_steering _ _ _ (call_of c.args.call) (work_of c.args.work).tree (before g at) (behind g at) c.as_slice.result.now c.as_slice-2.result.now ending read also refuses)
    c.steered_by.ensures.refused
