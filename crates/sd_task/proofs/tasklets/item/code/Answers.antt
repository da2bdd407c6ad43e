use Rattle.std.proofs.Common.{◌≡◌, ◌∙◌, [], ap, sym, rules}
use Rattle.sd_lex.specs.TreeFold.{block_of}
use Rattle.sd_graph.specs.TreeFold.{act_trees}
use Rattle.sd_task.specs.tasklets.Code.{acts_of}
use Rattle.sd_task.proofs.tasklets_lemmas.CodeLemmas.{code_made}
use Rattle.sd_task.proofs.tasklets.item.code.Goals as goal

pub returns : goal.returns
returns c =
    let variables = c.args.variables.now in
    let ins = c.in_ok-connectors.connectors.ins in
    let outs = c.in_ok-connectors.connectors.outs in
    let body = block_of c.args.body.now in
    let used = c.in_ok-used.used.keys in
    let kept : c.in_ok-to_vec.field-0.items ≡ used = search rules in
    let acts : act_trees c.in_ok-body.body.items ≡ acts_of variables ins outs c.in_ok-to_vec.field-0.items body [] 0 =
    c.in_ok-body.ensures.acts
    ∙ ap (λ names. acts_of variables ins outs used body names c.new-locals.result.next) c.new-locals.ensures.names
    ∙ ap (λ next. acts_of variables ins outs used body [] next) c.new-locals.ensures.next
    ∙ ap (λ used. acts_of variables ins outs used body [] 0) (sym kept) in
    code_made variables ins outs c.args.ins.now c.args.outs.now body _ _ _ _ _
    c.in_ok-connectors.ensures.ins c.in_ok-connectors.ensures.outs
    c.in_ok-ports.ensures c.in_ok-ports-2.ensures
    (search rules) (search rules) acts
