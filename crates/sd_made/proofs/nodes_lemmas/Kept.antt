-- The bound graph of a well-formed program has few nodes in each state, and with those of the states before, and as many in all as are counted.
use Rattle.std.proofs.Common.{◌≡◌, ◌∙◌, ◌≤◌, ℤ, List, Ok, subst, arith}
use Rattle.sd_lex.specs.PlainTree.{ProgramTree}
use Rattle.sd_graph.specs.PlainTree.{GraphTree}
use Rattle.sd_program.specs.WellFormed.{IsWellFormed}
use Rattle.sd_elab.specs.elab.Elaboration.{graph_of}
use Rattle.sd_valid.specs.BoundTree.{bound_graph}
use Rattle.sd_valid.specs.SizeValues.{NamedSizes, sizes_in}
use Rattle.sd_valid.specs.Binding.{binding}
use Rattle.sd_validity.specs.rules.Places.{all_places}
use Rattle.sd_validity.specs.rules.Failing.{Holds}
use Rattle.sd_validity.specs.rules.WithinLimits.{nodes_among}
use Rattle.sd_made.proofs.places_lemmas.Bound.{bound_is}
use Rattle.sd_made.specs.nodes.FewNodes.{nodes_rule, nodes_counted}
use Rattle.sd_made.proofs.nodes_lemmas.Places.{nodes_in, HasFew, nodes_summed, places_kept}
use Rattle.sd_made.proofs.nodes_lemmas.Bound.{graph_nodes, graph_few}
use Rattle.sd_made.proofs.nodes_lemmas.Functions.{program_within}

module _ (source : ProgramTree) (known : NamedSizes) (bound : GraphTree) (well : IsWellFormed source) (is : binding (graph_of source) known ≡ Ok bound) where
  abbrev sizes : List ℤ
  sizes = sizes_in known (graph_of source)

  within : HasFew 1024 (graph_of source) × ((nodes_in (graph_of source) ≤ 65536) × (nodes_in (graph_of source) ≡ nodes_counted source))
  within = program_within source well

  pub nodes_few : Holds nodes_rule bound
  nodes_few =
      subst (Holds nodes_rule) (bound_is (graph_of source) bound known is)
      (places_kept (bound_graph sizes (graph_of source)) (graph_few sizes 1024 (graph_of source) within.0) (omega (arith, within.1.0, graph_nodes sizes (graph_of source))))

  pub nodes_same : nodes_among (all_places bound) ≡ nodes_counted source
  nodes_same =
      subst (λ bound. nodes_among (all_places bound) ≡ nodes_counted source) (bound_is (graph_of source) bound known is)
      (nodes_summed (bound_graph sizes (graph_of source)) ∙ graph_nodes sizes (graph_of source) ∙ within.1.1)
