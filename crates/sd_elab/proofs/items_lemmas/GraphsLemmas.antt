-- Graphs by name that grow.
use Rattle.std.proofs.Common.{◌≡◌, ◌∙◌, ℕ, zero, suc, ◌<◌, ◌+◌, List, [], ◌∷◌, ◌++◌, length, refl, ap, sym, subst, arith, bytes_eq, Bool, true, false, cond, Some, option_map, unwrap_or, slice_index_or}
use Rattle.sd_program.specs.Names.{Name, Named, in_force}
use Rattle.sd_task.proofs.in_force_lemmas.ListLemmas.{append_one_length}
use Rattle.sd_graph.specs.TreeFold.{graph_tree}
use Rattle.sd_graph.specs.declared.graph.Sdfg.{Sdfg}
use Rattle.sd_elab.specs.items.Graphs.{no_graph, graph_named}
use Rattle.sd_elab.specs.items.GraphsByNumber.{graph_at, with_graphs, AreBelow}

graph_kept : (graphs : List Sdfg) (graph : Sdfg) (number : ℕ) → number < length graphs → graph_at (graphs ++ graph ∷ []) number ≡ graph_at graphs number
graph_kept [] graph number below = absurd (omega (arith, below))
graph_kept (first ∷ rest) graph zero below = refl
graph_kept (first ∷ rest) graph (suc number) below = graph_kept rest graph number (omega (arith, below))

graph_last : (graphs : List Sdfg) (graph : Sdfg) → graph_at (graphs ++ graph ∷ []) (length graphs) ≡ graph_tree graph
graph_last [] graph = refl
graph_last (first ∷ rest) graph = graph_last rest graph

graphs_kept : (graphs : List Sdfg) (graph : Sdfg) (numbers : Named ℕ) → AreBelow (length graphs) numbers → with_graphs (graphs ++ graph ∷ []) numbers ≡ with_graphs graphs numbers
graphs_kept graphs graph [] below = refl
graphs_kept graphs graph (entry ∷ entries) below =
    ap (λ tree. (entry.0, tree) ∷ with_graphs (graphs ++ graph ∷ []) entries) (graph_kept graphs graph entry.1 below.0)
    ∙ ap (λ others. (entry.0, graph_at graphs entry.1) ∷ others) (graphs_kept graphs graph entries below.1)

-- one more graph is the latest
pub graphs_grown : (graphs : List Sdfg) (graph : Sdfg) (name : Name) (numbers : Named ℕ) → AreBelow (length graphs) numbers →
    with_graphs (graphs ++ graph ∷ []) ((name, length graphs) ∷ numbers) ≡ (name, graph_tree graph) ∷ with_graphs graphs numbers
graphs_grown graphs graph name numbers below =
    ap (λ tree. (name, tree) ∷ with_graphs (graphs ++ graph ∷ []) numbers) (graph_last graphs graph) ∙ ap (λ others. (name, graph_tree graph) ∷ others) (graphs_kept graphs graph numbers below)

below_more : (count : ℕ) (numbers : Named ℕ) → AreBelow count numbers → AreBelow (count + 1) numbers
below_more count [] below = tt
below_more count (entry ∷ entries) below = (omega (arith, below.0), below_more count entries below.1)

-- each number is that of a graph, also of the latest
pub below_grown : (graphs : List Sdfg) (graph : Sdfg) (name : Name) (numbers : Named ℕ) → AreBelow (length graphs) numbers → AreBelow (length (graphs ++ graph ∷ [])) ((name, length graphs) ∷ numbers)
below_grown graphs graph name numbers below =
    subst (λ count. AreBelow count ((name, length graphs) ∷ numbers)) (sym (append_one_length graphs graph)) (omega arith, below_more (length graphs) numbers below)

-- the graph of a name is that of its number
pub named_found : (graphs : List Sdfg) (numbers : Named ℕ) (name : Name) → graph_named (with_graphs graphs numbers) name ≡ unwrap_or (option_map (graph_at graphs) (in_force numbers name)) no_graph
named_found graphs [] name = refl
named_found graphs (entry ∷ entries) name = cases (bytes_eq name entry.0) (named_found graphs entries name)
  where
    cases : (test : Bool) → graph_named (with_graphs graphs entries) name ≡ unwrap_or (option_map (graph_at graphs) (in_force entries name)) no_graph → unwrap_or (cond test (Some (graph_at graphs entry.1)) (in_force (with_graphs graphs entries) name)) no_graph ≡ unwrap_or (option_map (graph_at graphs) (cond test (Some entry.1) (in_force entries name))) no_graph
    cases true others = refl
    cases false others = others

-- a number that is found is that of a graph
pub found_below : (count : ℕ) (numbers : Named ℕ) (name : Name) (number : ℕ) → AreBelow count numbers → in_force numbers name ≡ Some number → number < count
found_below count [] name number below found = cc
found_below count (entry ∷ entries) name number below found = cases (bytes_eq name entry.0) (found_below count entries name number below.1) found
  where
    cases : (test : Bool) → (in_force entries name ≡ Some number → number < count) → cond test (Some entry.1) (in_force entries name) ≡ Some number → number < count
    cases true others found = let same : entry.1 ≡ number = cc in subst (λ n. n < count) same below.0
    cases false others found = others found

-- the graph of a number is the one that stands there
pub graph_found : (graphs : List Sdfg) (number : ℕ) (graph : Sdfg) → number < length graphs → slice_index_or graphs number graph ≡ graph → graph_at graphs number ≡ graph_tree graph
graph_found [] number graph below there = absurd (omega (arith, below))
graph_found (first ∷ rest) zero graph below there = ap graph_tree there
graph_found (first ∷ rest) (suc number) graph below there = graph_found rest number graph (omega (arith, below)) there
