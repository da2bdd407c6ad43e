use Rattle.std.proofs.Common.{◌≡◌, ◌∙◌, ◌+◌, ◌∷◌, Some, ap, sym, subst, map, drop, string_bytes, option_map}
use Rattle.std.proofs.lemmas.List.{drop_more}
use Rattle.sd_lex.specs.PlainTree.{and_statement, consume_scope}
use Rattle.sd_lex.specs.TreeFold.{statement_of, block_of}
use Rattle.sd_graph.specs.TreeFold.{item_trees, kind_tree}
use Rattle.sd_program.specs.Bounds.{EachBound}
use Rattle.sd_program.specs.Every.{EveryIn}
use Rattle.sd_program.specs.Small.{IsSmall}
use Rattle.sd_task.specs.in_force.SmallExtents.{HaveSmallExtents}
use Rattle.sd_task.specs.task.TableOf.{table_of}
use Rattle.sd_elab.specs.items.Graphs.{graph_named}
use Rattle.sd_elab.specs.items.GraphsByNumber.{graphs_of}
use Rattle.sd_elab.specs.items.Kinds.{kind_of}
use Rattle.sd_elab.specs.items.NamesBehind.{table_behind}
use Rattle.sd_elab.specs.items.Scopes.{consume_kind}
use Rattle.sd_task.proofs.in_force_lemmas.ListLemmas.{drop_all}
use Rattle.sd_elab.proofs.items_lemmas.ItemLemmas.{all_items_made, one_step, containers_counted, variables_counted}
use Rattle.sd_elab.proofs.items_lemmas.StatementLemmas.{consume_told}
use Rattle.sd_elab.proofs.items_lemmas.Kept.{IsKept, kept_behind, variables_restored}
use Rattle.sd_elab.proofs.items.item.+items.Goals as goal

pub map_scope-returns-clause-names : goal.map_scope-returns-clause-names
map_scope-returns-clause-names t c =
    variables_restored (table_of c.args.names.now) (table_of c.scope_items.new.names) (map string_bytes c.args.parameter_names.now) c.args.numbers.now.variable _ _ _ c.len-kept.ensures c.in_ok-push_all.ensures c.in_ok-body.ensures.names c.truncate.ensures

pub item_kind-returns-in_ok-kind-in-Consume-clause-kind : goal.item_kind-returns-in_ok-kind-in-Consume-clause-kind
item_kind-returns-in_ok-kind-in-Consume-clause-kind t c =
    let graphs = graph_named (graphs_of c.args.graphs.now) in
    let table = table_of c.args.names.now in
    let container = c.args.numbers.now.container in
    let variable = c.args.numbers.now.variable in
    let line = c.in-Consume.line in
    let stream = string_bytes c.in-Consume.stream in
    let element = string_bytes c.in-Consume.element in
    let body = block_of c.in-Consume.body.items in
    let there : statement_of c.args.statement.now ≡ consume_scope line stream c.in-Consume.size (string_bytes c.in-Consume.name) element (option_map string_bytes c.in-Consume.worker) body =
    ap statement_of c.in-Consume.is ∙ consume_told line c.in-Consume.stream c.in-Consume.size c.in-Consume.name c.in-Consume.element c.in-Consume.worker c.in-Consume.body in
    let made : kind_tree c.in_ok-kind-in-Consume.kind ≡ consume_kind graphs table line stream element body container variable =
    c.in_ok-kind-in-Consume.ensures.kind
    ∙ ap (λ stream. consume_kind graphs table line stream c.as_str-element.result.now (block_of c.deref-in-Consume.result.now) container variable) c.as_str-stream.ensures.value
    ∙ ap (λ element. consume_kind graphs table line stream element (block_of c.deref-in-Consume.result.now) container variable) c.as_str-element.ensures.value
    ∙ ap (λ body. consume_kind graphs table line stream element (block_of body) container variable) c.deref-in-Consume.ensures.value in
    ap Some made ∙ ap (λ statement. kind_of graphs statement c.args.in_scope table container variable) (sym there)

pub scope_items-loop-statement-preserved : goal.scope_items-loop-statement-preserved
scope_items-loop-statement-preserved t c =
    let graphs = graph_named (graphs_of c.args.graphs.now) in
    let first = statement_of c.statement-item.result in
    let rest = block_of (drop (c.loop-statement.statement-index + 1) c.args.body.now) in
    let left : block_of (drop c.loop-statement.statement-index c.args.body.now) ≡ and_statement first rest =
    ap block_of (drop_more c.args.body.now c.loop-statement.statement-index c.statement-item.result c.loop-statement-test.true
    ∙ ap (λ statement. statement ∷ drop (c.loop-statement.statement-index + 1) c.args.body.now) (sym c.statement-item.is)) in
    let behind : table_of c.declare.new.names ≡ table_behind first c.loop-statement.numbers.container (table_of c.loop-statement.names) =
    c.in_ok-declare.ensures ∙ ap (table_behind first c.loop-statement.numbers.container) c.in_ok-push_item.ensures.names in
    let kept : IsKept c.len-kept.result (table_of c.args.names.now) (table_of c.declare.new.names) =
    subst (IsKept c.len-kept.result (table_of c.args.names.now)) (sym behind) (kept_behind _ _ _ first c.loop-statement.numbers.container c.loop-statement.invariant.kept) in
    record {
      made = one_step graphs _ rest first _ _ _ _ _ _ _ _ _ left c.loop-statement.invariant.made c.in_ok-push_item.ensures.items behind c.in_ok-push_item.ensures.container c.in_ok-push_item.ensures.variable;
      container = containers_counted _ rest first _ _ _ left c.loop-statement.invariant.container c.in_ok-push_item.ensures.container;
      variable = variables_counted _ rest first _ _ _ left c.loop-statement.invariant.variable c.in_ok-push_item.ensures.variable;
      small = (subst (EveryIn (EachBound IsSmall)) left c.loop-statement.invariant.small).1;
      extents = subst HaveSmallExtents (sym kept.all) c.requires.extents;
      kept = kept;
    }

pub scope_items-returns-clause-items : goal.scope_items-returns-clause-items
scope_items-returns-clause-items t c =
    all_items_made (graph_named (graphs_of c.args.graphs.now)) _ _ _ _ (item_trees c.loop-statement.items.items) _
    (ap block_of (drop_all c.loop-statement.statement-index c.args.body.now c.loop-statement-test.false)) c.loop-statement.invariant.made
