-- With sizes graphs write the same containers.
use Rattle.std.proofs.Common.{◌≡◌, ◌∙◌, ℕ, suc, ◌++◌, ℤ, List, [], ◌∷◌, map, Ok, not, ◌||◌, ◌&&◌, nat_eq, if◌then◌else◌, refl, ap, subst}
use Rattle.sd_lex.specs.PlainTree.{ProgramTree}
use Rattle.sd_graph.specs.PlainTree.{KindTree, task, map_scope, consume_scope, nested_graph, reduction, copy, ItemTrees, no_item, and_item, StateTrees, no_state, and_state, GraphTree, graph}
use Rattle.sd_graph.specs.Wiring.{has_number}
use Rattle.sd_graph.specs.declared.link.Link.{Link}
use Rattle.sd_program.specs.Place.{EveryPlace}
use Rattle.sd_program.specs.WellFormed.{IsWellFormed}
use Rattle.sd_elab.specs.elab.Elaboration.{graph_of}
use Rattle.sd_valid.specs.BoundExpression.{bound_link}
use Rattle.sd_valid.specs.BoundTree.{bound_kind, bound_items, bound_states, bound_graph}
use Rattle.sd_valid.specs.SizeValues.{NamedSizes, sizes_in}
use Rattle.sd_valid.specs.Binding.{binding}
use Rattle.sd_validity.specs.rules.Parts.{container_of}
use Rattle.sd_validity.specs.rules.NestedLinks.{written_through, written_by, written_in, written_in_states, written_of, is_unshared, are_unshared}
use Rattle.sd_made.proofs.places_lemmas.Bound.{bound_is}
use Rattle.sd_made.specs.writes.Apart.{CallsApart, IsKindApart, AreItemsApart, AreStatesApart, IsGraphApart}
use Rattle.sd_made.proofs.writes_lemmas.Programs.{program_apart}

module _ (sizes : List ℤ) where
  links_same : (links : List Link) → map container_of (map (bound_link sizes) links) ≡ map container_of links
  links_same [] = refl
  links_same (link ∷ links) = ap (λ containers. container_of link ∷ containers) (links_same links)

  through_same : (written : List ℕ) (number : ℕ) (links : List Link) → written_through written number (map (bound_link sizes) links) ≡ written_through written number links
  through_same written number [] = refl
  through_same written number (link ∷ links) = ap (λ others. (if has_number written number then container_of link ∷ [] else []) ++ others) (through_same written (suc number) links)

  mutual
    kind_same : (kind : KindTree) → written_by (bound_kind sizes kind) ≡ written_by kind
    kind_same (task code ins outs) = links_same outs
    kind_same (map_scope sequential params private body) = items_same body
    kind_same (consume_scope stream element private body) = items_same body
    kind_same (nested_graph inner links) = ap (λ written. written_through written 0 (map (bound_link sizes) links)) (graph_same inner) ∙ through_same (written_of inner) 0 links
    kind_same (reduction resolution axis identity from to) = refl
    kind_same (copy from to) = refl

    items_same : (items : ItemTrees) → written_in (bound_items sizes items) ≡ written_in items
    items_same no_item = refl
    items_same (and_item line kind items) = λ i. kind_same kind i ++ items_same items i

    states_same : (states : StateTrees) → written_in_states (bound_states sizes states) ≡ written_in_states states
    states_same no_state = refl
    states_same (and_state items exits states) = λ i. items_same items i ++ states_same states i

    pub graph_same : (tree : GraphTree) → written_of (bound_graph sizes tree) ≡ written_of tree
    graph_same (graph name containers arguments variables symbols states) = states_same states

  one_same : (written : List ℕ) (first : ℕ) (link : Link) (number : ℕ) (links : List Link) → is_unshared written first (bound_link sizes link) number (map (bound_link sizes) links) ≡ is_unshared written first link number links
  one_same written first link number [] = refl
  one_same written first link number (other ∷ links) =
      ap (λ rest. (not (nat_eq (container_of link) (container_of other)) || not (has_number written first || has_number written number)) && rest) (one_same written first link (suc number) links)

  pub all_same : (written : List ℕ) (number : ℕ) (links : List Link) → are_unshared written number (map (bound_link sizes) links) ≡ are_unshared written number links
  all_same written number [] = refl
  all_same written number (link ∷ links) = λ i. one_same written number link (suc number) links i && all_same written (suc number) links i

  mutual
    kind_apart : (kind : KindTree) → IsKindApart kind → IsKindApart (bound_kind sizes kind)
    kind_apart (task code ins outs) is = tt
    kind_apart (map_scope sequential params private body) is = items_apart body is
    kind_apart (consume_scope stream element private body) is = items_apart body is
    kind_apart (nested_graph inner links) is =
        (ap (λ written. are_unshared written 0 (map (bound_link sizes) links)) (graph_same inner) ∙ all_same (written_of inner) 0 links ∙ is.0, graph_apart inner is.1)
    kind_apart (reduction resolution axis identity from to) is = tt
    kind_apart (copy from to) is = tt

    items_apart : (items : ItemTrees) → AreItemsApart items → AreItemsApart (bound_items sizes items)
    items_apart no_item is = tt
    items_apart (and_item line kind items) is = (kind_apart kind is.0, items_apart items is.1)

    states_apart : (states : StateTrees) → AreStatesApart states → AreStatesApart (bound_states sizes states)
    states_apart no_state is = tt
    states_apart (and_state items exits states) is = (items_apart items is.0, states_apart states is.1)

    graph_apart : (tree : GraphTree) → IsGraphApart tree → IsGraphApart (bound_graph sizes tree)
    graph_apart (graph name containers arguments variables symbols states) is = states_apart states is

pub bound_apart : (source : ProgramTree) (named : NamedSizes) (bound : GraphTree) → IsWellFormed source → EveryPlace CallsApart source → binding (graph_of source) named ≡ Ok bound → IsGraphApart bound
bound_apart source named bound well apart is =
    subst IsGraphApart (bound_is (graph_of source) bound named is) (graph_apart (sizes_in named (graph_of source)) (graph_of source) (program_apart source well apart))
