use Rattle.std.proofs.Common.{◌≡◌, ◌∙◌, ap, sym, map, string_bytes}
use Rattle.std.proofs.lemmas.Result.{IfOk-weaker}
use Rattle.sd_graph.specs.TreeFold.{graph_tree}
use Rattle.sd_graph.proofs.TreeLemmas.{map_grown}
use Rattle.sd_elab.specs.items.Graphs.{graph_named}
use Rattle.sd_elab.specs.items.GraphsByNumber.{graphs_of}
use Rattle.sd_lex.specs.TreeFold.{block_of, function_of, program_of}
use Rattle.sd_elab.specs.elab.Elaboration.{function_graph, graph_of}
use Rattle.sd_elab.proofs.elab_lemmas.FunctionLemmas.{elaborable_all, elaborable_before, elaborable_last, elaborable_needed, graph_of_source}
use Rattle.sd_elab.proofs.elab.program.elaborate.Goals as goal

-- the programs that are needed
pub graphs_of_programs-requires : goal.graphs_of_programs-requires
graphs_of_programs-requires c =
    let ready = c.requires.well_formed in
    let functions = c.args.program.now.functions.items in
    let split = sym c.deref.ensures.value ∙ c.in-Some.ensures.cases.0 in
    elaborable_needed _ (map function_of c.in-Some.above.now) _ c.in_ok-needed-in-Some.ensures
    (elaborable_before (map function_of functions) (map function_of c.in-Some.above.now) (function_of c.in-Some.last.now)
    (ap (map function_of) split ∙ map_grown function_of c.in-Some.above.now c.in-Some.last.now)
    (elaborable_all (map function_of functions) ready.affine ready.small ready.names))

-- the last program
pub function_graph-requires : goal.function_graph-requires
function_graph-requires c =
    let ready = c.requires.well_formed in
    let functions = c.args.program.now.functions.items in
    let split = sym c.deref.ensures.value ∙ c.in-Some.ensures.cases.0 in
    elaborable_last (map function_of functions) (map function_of c.in-Some.above.now) (function_of c.in-Some.last.now)
    (ap (map function_of) split ∙ map_grown function_of c.in-Some.above.now c.in-Some.last.now)
    (elaborable_all (map function_of functions) ready.affine ready.small ready.names)

pub returns-in_ok-graphs-in-Some : goal.returns-in_ok-graphs-in-Some
returns-in_ok-graphs-in-Some c = record {
  graph =
      let program = c.args.program.now in
      IfOk-weaker c.function_graph.result
      (λ graph. graph_tree graph ≡ function_graph (map string_bytes c.deref-in-Some-3.result.now) (graph_named (graphs_of c.in_ok-graphs-in-Some.graphs)) (function_of c.in-Some.last.now))
      (λ graph. graph_tree graph ≡ graph_of (program_of program))
      (λ graph made.
      graph_of_source (map string_bytes program.symbols.items) (map string_bytes c.deref-in-Some-2.result.now) (map string_bytes c.deref-in-Some-3.result.now)
      program.functions.items c.in-Some.above.now c.in-Some.last.now (map (λ function. function_of function.now) c.in_ok-needed-in-Some.needed.items) (block_of c.deref-in-Some.result.now)
      (graphs_of c.in_ok-graphs-in-Some.graphs) (graph_tree graph)
      (ap (map string_bytes) c.deref-in-Some-2.ensures.value) (ap (map string_bytes) c.deref-in-Some-3.ensures.value)
      (sym c.deref.ensures.value ∙ c.in-Some.ensures.cases.0) (ap block_of c.deref-in-Some.ensures.value) c.in_ok-needed-in-Some.ensures c.in_ok-graphs-in-Some.ensures made)
      c.function_graph.ensures;
}
