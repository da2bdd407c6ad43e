use Rattle.std.proofs.Common.{rules, ◌≡◌, ◌∙◌, ◌++◌, [], ◌∷◌, List, ap, map, string_bytes, Bor}
use Rattle.sd_graph.proofs.TreeLemmas.{map_grown}
use Rattle.sd_graph.specs.TreeFold.{graph_tree}
use Rattle.sd_elab.specs.items.GraphsByNumber.{graphs_of}
use Rattle.sd_lex.specs.PlainTree.{FunctionTree}
use Rattle.sd_lex.specs.TreeFold.{function_of}
use Rattle.sd_lex.specs.declared.syntax.program.Function.{Function}
use Rattle.sd_elab.proofs.elab_lemmas.FunctionLemmas.{elaborable_before, elaborable_last, graphs_more}
use Rattle.sd_elab.proofs.elab.program.graphs_of_programs.Goals as goal

abbrev trees_of : List (Bor Function) → List FunctionTree
trees_of functions = map (λ (function : Bor Function). function_of function.now) functions

-- the last of several programs
trees_split : (functions rest : List (Bor Function)) (last : Bor Function) → functions ≡ rest ++ last ∷ [] → trees_of functions ≡ trees_of rest ++ function_of last.now ∷ []
trees_split functions rest last split = ap trees_of split ∙ map_grown (λ (function : Bor Function). function_of function.now) rest last

pub function_graph-requires : goal.function_graph-requires
function_graph-requires c =
    elaborable_last _ (trees_of c.pop.new.self.items) (function_of c.in-Some.function.now)
    (trees_split c.loop-function.left.items c.pop.new.self.items c.in-Some.function c.in-Some.ensures.items) c.loop-function.invariant.elaborable

pub loop-function-preserved : goal.loop-function-preserved
loop-function-preserved c =
    let rest = c.pop.new.self.items in
    let split = trees_split c.loop-function.left.items rest c.in-Some.function c.in-Some.ensures.items in
    record {
      graphs =
          graphs_more (map string_bytes c.args.symbols.now) (graphs_of c.loop-function.graphs) (graphs_of c.push.new.self) _ (trees_of rest)
          (function_of c.in-Some.function.now) (string_bytes c.in_ok-name.name) (graph_tree c.in_ok-graph.graph)
          split (search rules) c.in_ok-graph.ensures c.in_ok-push.ensures
          ∙ c.loop-function.invariant.graphs;
      elaborable = elaborable_before _ (trees_of rest) (function_of c.in-Some.function.now) split c.loop-function.invariant.elaborable;
    }
