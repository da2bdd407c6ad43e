-- Where the binding of a graph is not refused, no container of it or of a graph nested in it has a negative extent.
use Rattle.std.proofs.Common.{◌≡◌, ◌∙◌, ℕ, ◌+◌, ℤ, List, [], ◌∷◌, ◌++◌, map, Option, Some, None, Result, Ok, Err, Bool, true, false, ◌||◌, if◌then◌else◌, refl, ap, sym, subst}
use Rattle.std.specs.List.{AllByRecursion}
use Rattle.std.proofs.lemmas.List.{map-append}
use Rattle.sd_graph.specs.PlainTree.{KindTree, task, map_scope, consume_scope, nested_graph, reduction, copy, ItemTrees, no_item, and_item, StateTrees, no_state, and_state, GraphTree, graph}
use Rattle.sd_graph.specs.ContainerParts.{Containers}
use Rattle.sd_valid.specs.declared.error.BindError.{BindError}
use Rattle.sd_valid.specs.declared.error.BindError.TheVariants.{MissingSize, BadSize}
use Rattle.sd_valid.specs.SizeValues.{NamedSizes, first_name, has_no_size, has_bad_size, symbols_of, sizes_in}
use Rattle.sd_valid.specs.BoundTree.{bound_entry, bound_kind, bound_items, bound_states, bound_graph}
use Rattle.sd_valid.specs.Limits.{kind_containers, items_containers, states_containers, all_containers, elements_in, has_negative, is_over, tally}
use Rattle.sd_valid.specs.Binding.{binding, unless_refused, within_limits, with_sizes}
use Rattle.sd_tie.specs.items.Extents.{HaveExtents, HasExtentsThroughout}

not_refused : (error : List ℕ → BindError) (refused : Option (List ℕ)) (next : Result GraphTree BindError) (bound : GraphTree) → unless_refused error refused next ≡ Ok bound → next ≡ Ok bound
not_refused error None next bound is = is
not_refused error (Some name) next bound is = cc

-- ---- containers that were counted

first_false : (first second : Bool) → (first || second) ≡ false → first ≡ false
first_false true second e = cc
first_false false second e = refl

counted_one : (over : Bool) (name : List ℕ) (rest : Result ℕ (List ℕ)) (total : ℕ) → (if over then Err name else rest) ≡ Ok total → (over ≡ false) × (rest ≡ Ok total)
counted_one true name rest total e = cc
counted_one false name rest total e = (refl, e)

counted_sized : (before : ℕ) (containers : Containers) (total : ℕ) → tally before containers ≡ Ok total → AllByRecursion (λ entry. has_negative entry.1 ≡ false) containers
counted_sized before [] total e = tt
counted_sized before (entry ∷ containers) total e =
    let one = counted_one (is_over before entry.1) entry.0 (tally (before + elements_in entry.1) containers) total e in
    (first_false (has_negative entry.1) _ one.0, counted_sized (before + elements_in entry.1) containers total one.1)

limits_counted : (counted : Result ℕ (List ℕ)) (tree bound : GraphTree) → within_limits counted tree ≡ Ok bound → (total : ℕ) × (counted ≡ Ok total)
limits_counted (Ok total) tree bound e = (total, refl)
limits_counted (Err name) tree bound e = cc

-- ---- the containers of a bound graph

module _ (sizes : List ℤ) where
  mutual
    kind_bound : (kind : KindTree) → kind_containers (bound_kind sizes kind) ≡ map (bound_entry sizes) (kind_containers kind)
    kind_bound (task code ins outs) = refl
    kind_bound (map_scope sequential params private body) = items_bound body
    kind_bound (consume_scope stream element private body) = items_bound body
    kind_bound (nested_graph inner links) = all_bound inner
    kind_bound (reduction resolution axis identity from to) = refl
    kind_bound (copy from to) = refl

    items_bound : (items : ItemTrees) → items_containers (bound_items sizes items) ≡ map (bound_entry sizes) (items_containers items)
    items_bound no_item = refl
    items_bound (and_item line kind items) = (λ i. kind_bound kind i ++ items_bound items i) ∙ sym (map-append (bound_entry sizes) (kind_containers kind) (items_containers items))

    states_bound : (states : StateTrees) → states_containers (bound_states sizes states) ≡ map (bound_entry sizes) (states_containers states)
    states_bound no_state = refl
    states_bound (and_state items exits states) = (λ i. items_bound items i ++ states_bound states i) ∙ sym (map-append (bound_entry sizes) (items_containers items) (states_containers states))

    all_bound : (tree : GraphTree) → all_containers (bound_graph sizes tree) ≡ map (bound_entry sizes) (all_containers tree)
    all_bound (graph name containers arguments variables symbols states) =
        ap (λ more. map (bound_entry sizes) containers ++ more) (states_bound states) ∙ sym (map-append (bound_entry sizes) containers (states_containers states))

  of_bound : (containers : Containers) → AllByRecursion (λ entry. has_negative entry.1 ≡ false) (map (bound_entry sizes) containers) → HaveExtents sizes containers
  of_bound [] all = tt
  of_bound (entry ∷ containers) all = (all.0, of_bound containers all.1)

pub bound_sized : (tree bound : GraphTree) (named : NamedSizes) → binding tree named ≡ Ok bound → HasExtentsThroughout (sizes_in named tree) tree
bound_sized tree bound named is =
    let sized = with_sizes tree named in
    let limited = within_limits (tally 0 (all_containers sized)) sized in
    let bad = first_name (has_bad_size named) (symbols_of tree) in
    let first = not_refused MissingSize (first_name (has_no_size named) (symbols_of tree)) (unless_refused BadSize bad limited) bound is in
    let second = not_refused BadSize bad limited bound first in
    let counted = limits_counted (tally 0 (all_containers sized)) sized bound second in
    of_bound (sizes_in named tree) (all_containers tree)
    (subst (AllByRecursion (λ entry. has_negative entry.1 ≡ false)) (all_bound (sizes_in named tree) tree) (counted_sized 0 (all_containers sized) counted.0 counted.1))
