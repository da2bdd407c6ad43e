-- Two states as one, by their paths: the conditions by their numbers, and the new graph.
use Rattle.std.specs.Prelude.{ℕ, List, [], ◌∷◌, Option, Some, None, Bool}
use Rattle.sd_graph.specs.PlainTree.{GraphTree}
use Rattle.sd_statex.specs.states.FusedStates.{graph_fused}
use Rattle.sd_statex.specs.states.ChangedGraphs.{graph_changed}
use Rattle.sd_mapx.specs.Conditions.{meets_limits}
use Rattle.sd_statex.specs.StatePaths.{TwoStates, two_states}
use Rattle.sd_statex.specs.StateTests.{has_plain_step, is_only_way, are_told, are_told_with}

abbrev pub fused_by : GraphTree → Option TwoStates → GraphTree
fused_by tree None = tree
fused_by tree (Some two) = graph_changed (graph_fused two.first two.second) tree two.place

-- the graph with the two states fused; where the paths do not lead to two states of one graph it stays as it is
abbrev pub fused_at : GraphTree → (first second : List ℕ) → GraphTree
fused_at tree first second = fused_by tree (two_states tree first second)

-- the paths lead to two states of one graph; one transition leads from the first to the second, a plain one; it is the first one's only exit
-- and the second one's only entry
abbrev pub state_fusion_conditions : GraphTree → (first second : List ℕ) → List (ℕ × Bool)
state_fusion_conditions tree first second =
    (1, are_told (two_states tree first second))
    ∷ (2, are_told_with has_plain_step (two_states tree first second))
    ∷ (3, are_told_with is_only_way (two_states tree first second))
    ∷ (9, meets_limits (fused_at tree first second))
    ∷ []
