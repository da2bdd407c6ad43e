use Rattle.std.proofs.Common.{◌≡◌, ◌∙◌, ◌++◌, ap, subst, IfOk}
use Rattle.sd_graph.specs.TreeFold.{kind_tree}
use Rattle.sd_lex.specs.TreeFold.{block_of}
use Rattle.sd_task.specs.task.TableOf.{table_of}
use Rattle.sd_task.specs.tasklets.Item.{inputs_of, outputs_of, task_with}
use Rattle.sd_task.proofs.tasklets.item.tasklet_item.Goals as goal

pub returns : goal.returns
returns c =
    let table = table_of c.args.names.now in
    let body = block_of c.args.body.now in
    let ins = c.push_inputs.new.links.items in
    let ins_are : ins ≡ inputs_of table body = c.in_ok-push_inputs.ensures ∙ ap (λ before. before ++ inputs_of table body) c.new-ins.ensures.items in
    let outs_are : c.push_outputs.new.links.items ≡ outputs_of table body = c.in_ok-push_outputs.ensures ∙ ap (λ before. before ++ outputs_of table body) c.new-outs.ensures.items in
    subst (λ links. IfOk c.task_with.result (λ kind. kind_tree kind ≡ task_with table links (outputs_of table body) body)) ins_are
    (subst (λ links. IfOk c.task_with.result (λ kind. kind_tree kind ≡ task_with table ins links body)) outs_are c.task_with.ensures)
