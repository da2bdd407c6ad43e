use Rattle.std.proofs.Common.{◌∙◌, ◌+◌, rules, ap, sym, subst, drop, option_map}
use Rattle.std.proofs.lemmas.Result.{on_ok_weaker}
use Rattle.sd_elab.specs.items.Graphs.{graph_named}
use Rattle.sd_elab.specs.items.GraphsByNumber.{graphs_of}
use Rattle.sd_lex.specs.PlainTree.{Block, for_loop}
use Rattle.sd_lex.specs.TreeFold.{expression_of, statement_of, block_of}
use Rattle.sd_program.specs.Bounds.{EachBound}
use Rattle.sd_program.specs.Every.{Every}
use Rattle.sd_program.specs.IsAffine.{IsAffine}
use Rattle.sd_program.specs.Small.{IsSmall}
use Rattle.sd_elab.specs.states.BuildingOf.{threaded_of, standing_of}
use Rattle.sd_elab.specs.states.Standing.{behind}
use Rattle.sd_elab.proofs.states_lemmas.BlockLemmas.{block_more, threaded_more, behind_more, affine_subscripts}
use Rattle.sd_elab.proofs.states_lemmas.StandingLemmas.{for_behind}
use Rattle.sd_elab.proofs.states_lemmas.StatementTrees.{for_tree}
use Rattle.sd_elab.proofs.states.thread.+thread.Goals as goal

-- the end of a `for` loop
pub thread-begin_loop-requires : goal.thread-begin_loop-requires
thread-begin_loop-requires t c =
    let loop = c.in-For in
    let tree = ap statement_of loop.is ∙ for_tree loop.line loop.name loop.begin loop.end loop.step loop.body in
    record {
      first = search rules;
      last = affine_subscripts IsSmall (expression_of loop.end) (subst (Every (EachBound IsAffine)) tree c.requires.affine).0.1;
    }

-- behind a `for` loop
pub thread-returns-in_ok-begun-in-For-clause-standing : goal.thread-returns-in_ok-begun-in-For-clause-standing
thread-returns-in_ok-begun-in-For-clause-standing t c =
    let loop = c.in-For in
    let at = standing_of c.args.building.now in
    let begin = option_map expression_of loop.begin in
    let tree = ap statement_of loop.is ∙ for_tree loop.line loop.name loop.begin loop.end loop.step loop.body in
    on_ok_weaker c.thread_for.result
    (λ left.
    for_behind loop.line c.as_str.result.now begin (expression_of loop.end) loop.step (block_of c.deref-in-For-2.result.now)
    at (standing_of c.begin_loop.new.self) (standing_of c.thread_for.new.building) c.in_ok-begun-in-For.ensures.standing left
    ∙ ap (λ body. behind (for_loop loop.line c.as_str.result.now begin (expression_of loop.end) loop.step (block_of body)) at) c.deref-in-For-2.ensures.value
    ∙ ap (λ name. behind (for_loop loop.line name begin (expression_of loop.end) loop.step (block_of loop.body.items)) at) c.as_str.ensures.value
    ∙ ap (λ plain. behind plain at) (sym tree))
    c.thread_for.ensures.standing

-- one statement more
pub thread_all-loop-statement-preserved : goal.thread_all-loop-statement-preserved
thread_all-loop-statement-preserved t c =
    let i = c.loop-statement.statement-index in
    let old = c.loop-statement.building in
    let new = c.thread.new.building in
    let statement = statement_of c.statement-item.result in
    let rest : Block = block_of (drop (i + 1) c.args.body.now) in
    let more = block_more c.args.body.now i c.statement-item.result c.loop-statement-test.true c.statement-item.is in
    record {
      threaded = threaded_more (graph_named (graphs_of c.args.graphs.now)) statement _ rest (standing_of old) (standing_of new) (threaded_of old) (threaded_of new) more c.in_ok-thread.ensures.standing c.in_ok-thread.ensures.threaded ∙ c.loop-statement.invariant.threaded;
      standing = behind_more statement _ rest (standing_of old) (standing_of new) more c.in_ok-thread.ensures.standing ∙ c.loop-statement.invariant.standing;
      extents = c.in_ok-thread.ensures.extents;
      affine = search rules;
      small = search rules;
    }
