-- Terms that are new, terms that are not, and pools that unfold what is new.
use Rattle.std.proofs.Common.{◌≡◌, ℕ, ℤ, pos, List, [], ◌∷◌, None, Ok, true, false, refl}
use Rattle.sd_work.specs.Leaf.{push_to, instance_of, copy_of, reading, doing}
use Rattle.sd_work.specs.Residual.{Term, leaf, owning, ended, pool, idle, busy}
use Rattle.sd_work.specs.Step.{Outcome}
use Rattle.sd_work.specs.Run.{Left, Run}
use Rattle.sd_work.specs.WellFormed.{PaysCycles}
use Rattle.sd_work.specs.New.{HasEmptyStreams, IsNewLeaf, IsNew, UnfoldsNew}
use Rattle.sd_work.proofs.examples.ExampleParts.{cell, sets, two, points, graph, run_of}
use Rattle.sd_work.proofs.examples.PoolExamples.{memory, counts_down, passes_on, by_element}
use Rattle.sd_work.proofs.ending.HaltingPools.{run-ends_with_pools}

-- ---- leaves

a_new_instance_is_new : IsNewLeaf (instance_of (cell 0 0 0 ∷ []) (λ values. Ok []))
a_new_instance_is_new = refl

a_begun_instance_is_not_new : IsNewLeaf (reading true [] (pos 1 ∷ []) (λ values. Ok [])) → ⊥
a_begun_instance_is_not_new h = cc

a_copy_is_new : IsNewLeaf (copy_of ((cell 0 0 0, cell 0 1 0) ∷ (cell 0 0 1, cell 0 1 1) ∷ []))
a_copy_is_new = tt

a_leaf_that_still_pushes_is_not_new : IsNewLeaf (doing (push_to 0 1 (pos 2) ∷ [])) → ⊥
a_leaf_that_still_pushes_is_not_new h = h

-- ---- memories

a_memory_where_nothing_waits_is_new : HasEmptyStreams (memory (pos 7) [])
a_memory_where_nothing_waits_is_new = (refl, (refl, tt))

a_memory_with_a_waiting_value_is_not_new : HasEmptyStreams (memory (pos 7) (pos 3 ∷ [])) → ⊥
a_memory_with_a_waiting_value_is_not_new h = cc

-- ---- terms

a_pool_without_active_terms_is_new : IsNew counts_down
a_pool_without_active_terms_is_new = (refl, refl)

-- also where what is active is new
a_pool_with_an_active_term_is_not_new : IsNew (pool 0 1 (λ value. sets 1 (cell 0 0 0) value) (busy (pos 7) (sets 1 (cell 0 0 0) (pos 7)) idle) false) → ⊥
a_pool_with_an_active_term_is_not_new h = let no : busy (pos 7) (sets 1 (cell 0 0 0) (pos 7)) idle ≡ idle = h.0 in cc

a_finished_pool_is_not_new : IsNew (pool 0 1 (λ value. sets 1 (cell 0 0 0) value) idle true) → ⊥
a_finished_pool_is_not_new h = let no : true ≡ false = h.1 in cc

a_map_of_new_points_is_new : IsNew (points (two (passes_on (pos 1)) (passes_on (pos 2))))
a_map_of_new_points_is_new = (((refl, refl), (refl, tt)), (((refl, refl), (refl, tt)), tt))

a_point_where_a_value_waits_is_not_new : IsNew (owning (memory (pos 0) (pos 3 ∷ [])) counts_down) → ⊥
a_point_where_a_value_waits_is_not_new h = cc

a_run_that_left_a_value_is_not_new : IsNew {P = ℕ} (ended (memory (pos 0) (pos 3 ∷ []))) → ⊥
a_run_that_left_a_value_is_not_new h = cc

a_graph_that_begins_is_new : IsNew (graph counts_down (memory (pos 0) []))
a_graph_that_begins_is_new = ((refl, (refl, tt)), (refl, refl))

-- ---- what is unfolded later

-- it is an instance that pushes, and not a leaf that pushes at once
counts_down_unfolds_new : UnfoldsNew counts_down
counts_down_unfolds_new = (tt, λ value. (refl, tt))

a_pool_with_element_containers_unfolds_new : UnfoldsNew by_element
a_pool_with_element_containers_unfolds_new = (tt, λ value. (((refl, tt), refl), tt))

-- values may wait at the begin
a_run_with_a_pool_unfolds_new : (values : List ℤ) → UnfoldsNew (graph counts_down (memory (pos 0) values))
a_run_with_a_pool_unfolds_new values = (counts_down_unfolds_new, λ state w. ((refl, refl), counts_down_unfolds_new))

a_run_with_a_pool_pays : (values : List ℤ) → PaysCycles (graph counts_down (memory (pos 0) values))
a_run_with_a_pool_pays values = ((tt, λ value. tt), (λ state w. (tt, λ value. tt)), record { rank = λ state. 0; bound = 1; rises = λ state w. tt })

-- so each of its runs ends, whatever waits and whatever is picked
a_run_with_a_pool_ends : (values : List ℤ) (turns : ℕ) (picks : List ℕ) → (outcome : Outcome ℕ Left) × Run (graph counts_down (memory (pos 0) values)) turns picks outcome
a_run_with_a_pool_ends values turns picks = run-ends_with_pools (graph counts_down (memory (pos 0) values)) turns picks (a_run_with_a_pool_pays values) (a_run_with_a_pool_unfolds_new values)

-- a pool that pushes back what it takes, and spends no turn
abbrev gives_back : Term ℕ
gives_back = pool 0 1 (λ value. leaf 1 (doing (push_to 0 1 value ∷ []))) idle false

it_does_not_unfold_what_is_new : UnfoldsNew gives_back → ⊥
it_does_not_unfold_what_is_new h = (h.1 (pos 0)).0

-- and after 60 looks its run has no outcome, with one turn left all the time
it_goes_on : run_of [] (graph gives_back (memory (pos 0) (pos 3 ∷ []))) 1 ≡ None
it_goes_on = refl
