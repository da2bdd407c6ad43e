use Rattle.std.proofs.Common.{◌≡◌, ◌∙◌, Some, ap, sym, subst, map, string_bytes}
use Rattle.sd_lex.specs.PlainTree.{tasklet, call}
use Rattle.sd_lex.specs.TreeFold.{statement_of, block_of, call_argument_of}
use Rattle.sd_graph.specs.TreeFold.{kind_tree}
use Rattle.sd_program.specs.Bounds.{EachBound}
use Rattle.sd_program.specs.Every.{Every}
use Rattle.sd_program.specs.Small.{IsSmall}
use Rattle.sd_task.specs.task.TableOf.{table_of}
use Rattle.sd_task.specs.tasklets.Item.{tasklet_item}
use Rattle.sd_elab.specs.items.Graphs.{graph_named}
use Rattle.sd_elab.specs.items.GraphsByNumber.{graphs_of}
use Rattle.sd_elab.specs.items.Kinds.{leaf_kind}
use Rattle.sd_elab.proofs.items_lemmas.StatementLemmas.{call_told, tasklet_told}
use Rattle.sd_elab.proofs.items.leaf.leaf_kind.Goals as goal

pub call-requires-clause-small : goal.call-requires-clause-small
call-requires-clause-small c =
    let there : statement_of c.args.statement.now ≡ call c.in-Call.line (string_bytes c.in-Call.name) (map call_argument_of c.in-Call.arguments.items) =
    ap statement_of c.in-Call.is ∙ call_told c.in-Call.line c.in-Call.name c.in-Call.arguments in
    subst (λ arguments. Every (EachBound IsSmall) (call c.in-Call.line (string_bytes c.in-Call.name) (map call_argument_of arguments))) (sym c.deref-in-Call.ensures.value)
    (subst (Every (EachBound IsSmall)) there c.requires.small)

pub returns-in_ok-tasklet_item-in-Tasklet : goal.returns-in_ok-tasklet_item-in-Tasklet
returns-in_ok-tasklet_item-in-Tasklet c =
    let table = table_of c.args.names.now in
    let there : statement_of c.args.statement.now ≡ tasklet c.in-Tasklet.line (block_of c.in-Tasklet.body.items) =
    ap statement_of c.in-Tasklet.is ∙ tasklet_told c.in-Tasklet.line c.in-Tasklet.body in
    let made : kind_tree c.in_ok-tasklet_item-in-Tasklet.field-0 ≡ tasklet_item table (block_of c.in-Tasklet.body.items) =
    c.in_ok-tasklet_item-in-Tasklet.ensures ∙ ap (λ body. tasklet_item table (block_of body)) c.deref-in-Tasklet.ensures.value in
    ap Some made ∙ ap (leaf_kind (graph_named (graphs_of c.args.graphs.now)) table c.args.in_scope) (sym there)
