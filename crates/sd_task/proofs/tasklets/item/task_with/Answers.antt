use Rattle.std.proofs.Common.{◌∙◌, ap}
use Rattle.sd_graph.specs.PlainTree.{task}
use Rattle.sd_lex.specs.TreeFold.{block_of}
use Rattle.sd_task.specs.tasklets.Item.{code_with}
use Rattle.sd_task.proofs.tasklets_lemmas.CodeLemmas.{task_tree}
use Rattle.sd_task.proofs.tasklets.item.task_with.Goals as goal

pub returns : goal.returns
returns c =
    let variables = c.args.names.now.variables in
    let body = block_of c.args.body.now in
    let ins = c.args.ins in
    let outs = c.args.outs in
    task_tree c.in_ok-code.code ins outs
    ∙ ap (λ code. task code ins.items outs.items)
    (c.in_ok-code.ensures
    ∙ ap (λ links. code_with variables links c.deref-2.result.now body) c.deref.ensures.value
    ∙ ap (λ links. code_with variables ins.items links body) c.deref-2.ensures.value)
