use Rattle.std.proofs.Common.{◌≡◌, ◌∙◌, ap, subst, ◌++◌, IfOk}
use Rattle.sd_lex.specs.TreeFold.{block_of}
use Rattle.sd_graph.specs.TreeFold.{kind_tree}
use Rattle.sd_task.specs.task.TableOf.{table_of}
use Rattle.sd_task.specs.tasklets.Item.{task_with, outputs_of}
use Rattle.sd_elab.proofs.items.item.taking_task.Goals as goal

pub returns : goal.returns
returns c =
    let table = table_of c.args.names.now in
    let body = block_of c.args.body.now in
    let outs = c.in_ok-push_outputs.ensures ∙ ap (λ links. links ++ outputs_of table body) c.new-outs.ensures.items in
    subst (λ ins. IfOk c.task_with.result (λ kind. kind_tree kind ≡ task_with table ins (outputs_of table body) body)) c.in_ok-ins.ensures
    (subst (λ outs. IfOk c.task_with.result (λ kind. kind_tree kind ≡ task_with table c.in_ok-ins.ins.items outs body)) outs c.task_with.ensures)
