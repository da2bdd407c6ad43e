-- Totals over containers and places, with one more.
use Rattle.std.proofs.Common.{◌≡◌, ℕ, ◌+◌, List, [], ◌∷◌, ◌++◌, map, ap, sym, ◌∙◌, length, refl, arith}
use Rattle.std.specs.List.{sum}
use Rattle.std.proofs.lemmas.List.Sums.{sum-map, sum_by-cons, sum_by_push}
use Rattle.sd_graph.specs.ContainerParts.{Containers}
use Rattle.sd_graph.specs.declared.container.Container.{Container}
use Rattle.sd_graph.specs.TreeFold.{state_trees}
use Rattle.sd_graph.specs.TreeParts.{count_states}
use Rattle.sd_graph.specs.declared.graph.State.{State}
use Rattle.sd_valid.specs.Limits.{elements_in}
use Rattle.sd_validity.specs.rules.Places.{Place}
use Rattle.sd_validity.specs.rules.WithinLimits.{elements_among, elements_at, elements_of, nodes_among, nodes_at}

-- the first container
pub elements_first : (entry : List ℕ × Container) (entries : Containers) → elements_of (entry ∷ entries) ≡ elements_in entry.1 + elements_of entries
elements_first entry entries =
    let elements : List ℕ × Container → ℕ = λ entry. elements_in entry.1 in
    sum-map elements (entry ∷ entries) ∙ sum_by-cons elements entry entries ∙ ap (λ (total : ℕ). elements_in entry.1 + total) (sym (sum-map elements entries))

sum_more : (number : Place → ℕ) (places : List Place) (place : Place) → sum (map number (places ++ place ∷ [])) ≡ sum (map number places) + number place
sum_more number places place =
    sum-map number (places ++ place ∷ []) ∙ sum_by_push number places place ∙ ap (λ (total : ℕ). total + number place) (sym (sum-map number places))

-- the last place
pub elements_more : (places : List Place) (place : Place) → elements_among (places ++ place ∷ []) ≡ elements_among places + elements_at place.graph place.thing
elements_more places place = sum_more (λ other. elements_at other.graph other.thing) places place

pub nodes_more : (places : List Place) (place : Place) → nodes_among (places ++ place ∷ []) ≡ nodes_among places + nodes_at place.graph place.thing
nodes_more places place = sum_more (λ other. nodes_at other.graph other.thing) places place

-- states as trees are as many
pub states_counted : (states : List State) → count_states (state_trees states) ≡ length states
states_counted [] = refl
states_counted (state ∷ states) = omega (arith, states_counted states)
