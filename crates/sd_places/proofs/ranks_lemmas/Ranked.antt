-- The table of a graph, and of one rank more.
use Rattle.std.proofs.Common.{◌≡◌, ℕ, ◌+◌, List, Bool, length, ap, sym, ◌∙◌, add-one}
use Rattle.std.specs.Prelude.{string_bytes}
use Rattle.std.proofs.lemmas.List.{length-map}
use Rattle.sd_graph.specs.PlainTree.{GraphTree}
use Rattle.sd_graph.specs.TreeFold.{graph_tree, state_trees}
use Rattle.sd_graph.specs.TreeParts.{states_of_graph}
use Rattle.sd_graph.specs.declared.graph.Sdfg.{Sdfg, out-Sdfg}
use Rattle.sd_graph.proofs.TreeLemmas.{graph_opened}
use Rattle.sd_validity.specs.rules.GraphParts.{variables_of}
use Rattle.sd_validity.specs.rules.Ranks.{Naming, namings, raised, ranked, ranks_of}
use Rattle.sd_places.proofs.ranks_lemmas.Lowering.{ranked_counted}

pub ranks_opened : (g : Sdfg) → ranks_of (graph_tree g) ≡ ranked (namings (state_trees (out-Sdfg g).states.items)) (length (out-Sdfg g).variables.items) 7
unfolding ranks_of
ranks_opened g =
    ap (λ (tree : GraphTree). ranked (namings (states_of_graph tree)) (length (variables_of tree)) 7) (graph_opened g)
    ∙ ap (λ (count : ℕ). ranked (namings (state_trees (out-Sdfg g).states.items)) count 7) (length-map (out-Sdfg g).variables.items string_bytes)

pub ranked_next : (all : List Naming) (count round : ℕ) (table next : List Bool) → table ≡ ranked all count round → next ≡ raised all (length table) table →
    next ≡ ranked all count (round + 1)
ranked_next all count round table next so_far is =
    is
    ∙ ap (λ (number : ℕ). raised all number table) (ap length so_far ∙ ranked_counted all count round)
    ∙ ap (raised all count) so_far
    ∙ ap (ranked all count) (sym (add-one round))
