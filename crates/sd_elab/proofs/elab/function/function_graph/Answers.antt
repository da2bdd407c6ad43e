use Rattle.std.proofs.Common.{◌≡◌, ◌∙◌, rules, sym, map, length, string_bytes}
use Rattle.sd_graph.specs.TreeFold.{state_tree, named_container}
use Rattle.sd_graph.proofs.TreeLemmas.{graph_rolled}
use Rattle.sd_lex.specs.TreeFold.{function_of}
use Rattle.sd_program.specs.Declared.{containers_in_all}
use Rattle.sd_task.specs.containers.Declarations.{variable_names_all}
use Rattle.sd_elab.proofs.items_lemmas.ListLemmas.{map_length}
use Rattle.sd_elab.specs.items.Graphs.{graph_named}
use Rattle.sd_elab.specs.items.GraphsByNumber.{graphs_of}
use Rattle.sd_elab.proofs.elab_lemmas.FunctionLemmas.{graph_made_of}
use Rattle.sd_elab.proofs.elab.function.function_graph.Goals as goal

pub returns : goal.returns
returns c =
    let symbols = map string_bytes c.args.symbols.now in
    let function = function_of c.args.function.now in
    let building = c.in_ok-building.building in
    let named : string_bytes c.in_ok-to_string.field-0 ≡ function.name = search rules in
    let counted : c.in_ok-count_containers.field-0 ≡ containers_in_all function.arguments = search rules in
    let listed : map string_bytes c.in_ok-variable_names.field-0.items ≡ variable_names_all function.body symbols = search rules in
    let counted_symbols : c.in_ok-map_err.field-0 ≡ length c.args.symbols.now = search rules in
    let known : c.in_ok-map_err.field-0 ≡ length symbols = counted_symbols ∙ sym (map_length string_bytes c.args.symbols.now) in
    graph_rolled _
    ∙ graph_made_of symbols (graph_named (graphs_of c.args.graphs.now)) function (string_bytes c.in_ok-to_string.field-0) (map named_container building.names.all.entries) c.in_ok-count_containers.field-0
    (map string_bytes c.in_ok-variable_names.field-0.items) c.in_ok-map_err.field-0 (map state_tree building.finished.items) named c.in_ok-building.ensures.containers counted listed known c.in_ok-building.ensures.states
