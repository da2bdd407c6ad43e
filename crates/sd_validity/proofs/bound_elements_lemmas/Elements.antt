-- The containers of a graph that was bound have few elements, those of nested graphs counted each time.
use Rattle.std.proofs.Common.{◌≡◌, ◌∙◌, ℕ, suc, ◌+◌, List, [], ◌∷◌, ◌++◌, Option, Some, None, Result, Ok, Err, Bool, true, false, if◌then◌else◌, add-zero, refl, ap, sym, subst, arith}
use Rattle.std.specs.List.{flat_map}
use Rattle.std.proofs.lemmas.Grind.{flat_map-append}
use Rattle.std.proofs.lemmas.List.Sums.{sum-map, sum_by-cons, sum_by_push}
use Rattle.sd_graph.specs.PlainTree.{KindTree, task, map_scope, consume_scope, nested_graph, reduction, copy, ItemTrees, no_item, and_item, StateTrees, no_state, and_state, GraphTree, graph}
use Rattle.sd_graph.specs.TreeParts.{containers_of}
use Rattle.sd_graph.specs.ContainerParts.{Containers}
use Rattle.sd_graph.specs.declared.container.Container.{Container}
use Rattle.sd_valid.specs.declared.error.BindError.{BindError}
use Rattle.sd_valid.specs.declared.error.BindError.TheVariants.{MissingSize, BadSize}
use Rattle.sd_valid.specs.SizeValues.{NamedSizes, first_name, has_no_size, has_bad_size, symbols_of}
use Rattle.sd_valid.specs.Limits.{kind_containers, items_containers, states_containers, all_containers, elements_in, is_over, tally}
use Rattle.sd_valid.specs.Binding.{binding, unless_refused, within_limits, with_sizes}
use Rattle.sd_validity.specs.rules.Places.{Thing, whole, leaving, doing, Place, Scopes, no_scopes, in_map, in_consume, item_place, state_place, graph_place, places_in, item_places, state_places, places_of, all_places}
use Rattle.sd_validity.specs.rules.Failing.{failing, Holds}
use Rattle.sd_validity.specs.rules.WithinLimits.{elements_of, elements_at, elements_among, is_counted}
use Rattle.sd_validity.specs.bound_elements.Elements.{are_elements_few, elements_rule}

-- ---- the containers of graphs in the order of places

-- those of a graph as a whole
abbrev containers_by : GraphTree → Thing → Containers
containers_by tree whole = containers_of tree
containers_by tree (leaving items exits) = []
containers_by tree (doing kind) = []

abbrev containers_there : Place → Containers
containers_there place = containers_by place.graph place.thing

mutual
  kind_listed : (kind : KindTree) (place : Place) → flat_map containers_there (places_in kind place) ≡ kind_containers kind
  kind_listed (task code ins outs) place = refl
  kind_listed (map_scope sequential params private body) place = items_listed body place (in_map place.scopes params private) 0
  kind_listed (consume_scope stream element private body) place = items_listed body place (in_consume place.scopes element private) 0
  kind_listed (nested_graph inner links) place = graph_listed inner place.path (suc place.depth)
  kind_listed (reduction resolution axis identity from to) place = refl
  kind_listed (copy from to) place = refl

  items_listed : (items : ItemTrees) (around : Place) (scopes : Scopes) (number : ℕ) → flat_map containers_there (item_places items around scopes number) ≡ items_containers items
  items_listed no_item around scopes number = refl
  items_listed (and_item line kind items) around scopes number =
      let place = item_place around scopes number kind in
      flat_map-append containers_there (places_in kind place) (item_places items around scopes (suc number))
      ∙ (λ i. kind_listed kind place i ++ items_listed items around scopes (suc number) i)

  states_listed : (states : StateTrees) (around : Place) (number : ℕ) → flat_map containers_there (state_places states around number) ≡ states_containers states
  states_listed no_state around number = refl
  states_listed (and_state items exits states) around number =
      let place = state_place around number items exits in
      flat_map-append containers_there (item_places items place no_scopes 0) (state_places states around (suc number))
      ∙ (λ i. items_listed items place no_scopes 0 i ++ states_listed states around (suc number) i)

  graph_listed : (tree : GraphTree) (path : List ℕ) (depth : ℕ) → flat_map containers_there (places_of tree path depth) ≡ all_containers tree
  graph_listed (graph name containers arguments variables symbols states) path depth =
      ap (λ rest. containers ++ rest) (states_listed states (graph_place (graph name containers arguments variables symbols states) path depth) 0)

-- ---- one place after another

abbrev number : Place → ℕ
number place = elements_at place.graph place.thing

elements_more : (places : List Place) (place : Place) → elements_among (places ++ place ∷ []) ≡ elements_among places + number place
elements_more places place =
    sum-map number (places ++ place ∷ []) ∙ sum_by_push number places place ∙ ap (λ (total : ℕ). total + number place) (sym (sum-map number places))

elements_first : (entry : List ℕ × Container) (entries : Containers) → elements_of (entry ∷ entries) ≡ elements_in entry.1 + elements_of entries
elements_first entry entries =
    let elements : List ℕ × Container → ℕ = λ entry. elements_in entry.1 in
    sum-map elements (entry ∷ entries) ∙ sum_by-cons elements entry entries ∙ ap (λ (total : ℕ). elements_in entry.1 + total) (sym (sum-map elements entries))

-- what counts on behind containers counts to their end
counted_to : (containers others : Containers) (before total : ℕ) → tally before (containers ++ others) ≡ Ok total →
    (is_counted (tally before containers) ≡ true) × (tally (before + elements_of containers) others ≡ Ok total)
counted_to [] others before total is = (refl, subst (λ count. tally count others ≡ Ok total) (sym (add-zero before)) is)
counted_to (entry ∷ containers) others before total is =
    by_test (is_over before entry.1) (counted_to containers others (before + elements_in entry.1) total) is
  where
    by_test : (over : Bool) → (tally (before + elements_in entry.1) (containers ++ others) ≡ Ok total →
        (is_counted (tally (before + elements_in entry.1) containers) ≡ true) × (tally (before + elements_in entry.1 + elements_of containers) others ≡ Ok total)) →
        (if over then Err entry.0 else tally (before + elements_in entry.1) (containers ++ others)) ≡ Ok total →
        (is_counted (if over then Err entry.0 else tally (before + elements_in entry.1) containers) ≡ true) × (tally (before + elements_of (entry ∷ containers)) others ≡ Ok total)
    by_test true rest is = cc
    by_test false rest is =
        let same : before + elements_in entry.1 + elements_of containers ≡ before + elements_of (entry ∷ containers) = omega (arith, elements_first entry containers) in
        ((rest is).0, subst (λ count. tally count others ≡ Ok total) same (rest is).1)

one_counted : (thing : Thing) (tree : GraphTree) (others : Containers) (before total : ℕ) → tally before (containers_by tree thing ++ others) ≡ Ok total →
    (are_elements_few tree before thing ≡ true) × (tally (before + elements_at tree thing) others ≡ Ok total)
one_counted whole tree others before total is = counted_to (containers_of tree) others before total is
one_counted (leaving items exits) tree others before total is = (refl, subst (λ count. tally count others ≡ Ok total) (sym (add-zero before)) is)
one_counted (doing kind) tree others before total is = (refl, subst (λ count. tally count others ≡ Ok total) (sym (add-zero before)) is)

each_counted : (before places : List Place) (total : ℕ) → tally (elements_among before) (flat_map containers_there places) ≡ Ok total → failing elements_rule before places ≡ None
each_counted before [] total is = refl
each_counted before (place ∷ places) total is =
    let both = one_counted place.thing place.graph (flat_map containers_there places) (elements_among before) total is in
    rw (both.0)
    (each_counted (before ++ place ∷ []) places total (subst (λ count. tally count (flat_map containers_there places) ≡ Ok total) (sym (elements_more before place)) both.1))

-- ---- where binding is not refused

not_refused : (error : List ℕ → BindError) (refused : Option (List ℕ)) (next : Result GraphTree BindError) (bound : GraphTree) → unless_refused error refused next ≡ Ok bound → next ≡ Ok bound
not_refused error None next bound is = is
not_refused error (Some name) next bound is = cc

kept_tree : (total : ℕ) (tree bound : GraphTree) → within_limits (Ok total) tree ≡ Ok bound → tree ≡ bound
kept_tree total tree bound is = cc

limits_kept : (counted : Result ℕ (List ℕ)) (tree bound : GraphTree) → within_limits counted tree ≡ Ok bound → (total : ℕ) × ((counted ≡ Ok total) × (tree ≡ bound))
limits_kept (Ok total) tree bound is = (total, (refl, kept_tree total tree bound is))
limits_kept (Err name) tree bound is = cc

pub elements_few : (tree bound : GraphTree) (named : NamedSizes) → binding tree named ≡ Ok bound → Holds elements_rule bound
elements_few tree bound named is =
    let sized = with_sizes tree named in
    let limited = within_limits (tally 0 (all_containers sized)) sized in
    let bad = first_name (has_bad_size named) (symbols_of tree) in
    let first = not_refused MissingSize (first_name (has_no_size named) (symbols_of tree)) (unless_refused BadSize bad limited) bound is in
    let kept = limits_kept (tally 0 (all_containers sized)) sized bound (not_refused BadSize bad limited bound first) in
    subst (Holds elements_rule) kept.1.1
    (each_counted [] (all_places sized) kept.0 (subst (λ containers. tally 0 containers ≡ Ok kept.0) (sym (graph_listed sized [] 0)) kept.1.0))
