-- The numbers that stand in a graph, containers of scopes, parameters and variables that are set, stand as often in the changed one.
use Rattle.std.proofs.Common.{◌≡◌, ℕ, zero, suc, List, [], ◌∷◌, ◌++◌, length, true, not, ◌&&◌, ◌||◌, refl, sym, ◌∙◌, ap, arith}
use Rattle.std.specs.List.{list_all, flat_map}
use Rattle.sd_graph.specs.PlainTree.{KindTree, task, map_scope, consume_scope, nested_graph, reduction, copy, ItemTrees, no_item, and_item, StateTrees, no_state, and_state, GraphTree, graph}
use Rattle.sd_graph.specs.ContainerParts.{Containers, container_at}
use Rattle.sd_graph.specs.InForce.{is_private}
use Rattle.sd_graph.specs.LoopScope.{numbers_below}
use Rattle.sd_graph.specs.Wiring.{has_number}
use Rattle.sd_validity.specs.rules.Places.{Thing, leaving, doing}
use Rattle.sd_validity.specs.rules.NamesInForce.{held_at, params_at, set_at, held_in_kind, held_in, held_in_states, is_private_held, are_new}
use Rattle.sd_validity.specs.things.Things.{things_in, item_things, state_things}
use Rattle.sd_validity.proofs.things_lemmas.Times.{times, new_from, new_times}
use Rattle.sd_alike.proofs.kept_lemmas.OnceThings.{flat_both}
use Rattle.sd_alike.proofs.kept_lemmas.NumbersKept.{IsOnceGraph, AreOutside, held_outside, params_outside, set_outside}
use Rattle.sd_statex.specs.states.FusedStates.{fused, AreFusible}
use Rattle.sd_statex.specs.states.ChangedGraphs.{kind_changed, items_changed, states_changed, graph_changed}
use Rattle.sd_statex.proofs.kept_lemmas.Summed.{has_same, AreLowered, held_lowered, params_lowered, set_lowered, times_fused, held_numbers, has_fused}

-- ---- a graph in which one at a path is changed

module _ (change : GraphTree → GraphTree) where
  module _ (numbers : Thing → List ℕ) (outside : AreOutside numbers) where
    mutual
      kind_numbers : (kind : KindTree) (path : List ℕ) →
          (numbers (doing (kind_changed change kind path)) ≡ numbers (doing kind)) × (flat_map numbers (things_in (kind_changed change kind path)) ≡ flat_map numbers (things_in kind))
      kind_numbers (task code ins outs) path = (refl, refl)
      kind_numbers (map_scope sequential params private body) path = (outside.map_body sequential params private body (items_changed change body path), items_numbers body path)
      kind_numbers (consume_scope stream element private body) path = (outside.consume_body stream element private body (items_changed change body path), items_numbers body path)
      kind_numbers (nested_graph inner links) path = (outside.inner inner (graph_changed change inner path) links, refl)
      kind_numbers (reduction resolution axis identity from to) path = (refl, refl)
      kind_numbers (copy from to) path = (refl, refl)

      items_numbers : (items : ItemTrees) (path : List ℕ) → flat_map numbers (item_things (items_changed change items path)) ≡ flat_map numbers (item_things items)
      items_numbers no_item path = refl
      items_numbers (and_item line kind items) [] = refl
      items_numbers (and_item line kind items) (zero ∷ path) =
          let own = kind_numbers kind path in
          let other : KindTree = kind_changed change kind path in
          ap (λ rest. numbers (doing other) ++ rest) (flat_both numbers (things_in other) (item_things items))
          ∙ (λ i. own.0 i ++ (own.1 i ++ flat_map numbers (item_things items)))
          ∙ sym (ap (λ rest. numbers (doing kind) ++ rest) (flat_both numbers (things_in kind) (item_things items)))
      items_numbers (and_item line kind items) (suc number ∷ path) =
          ap (λ rest. numbers (doing kind) ++ rest) (
          flat_both numbers (things_in kind) (item_things (items_changed change items (number ∷ path)))
          ∙ ap (λ rest. flat_map numbers (things_in kind) ++ rest) (items_numbers items (number ∷ path))
          ∙ sym (flat_both numbers (things_in kind) (item_things items))
          )

    states_numbers : (states : StateTrees) (path : List ℕ) → flat_map numbers (state_things (states_changed change states path)) ≡ flat_map numbers (state_things states)
    states_numbers no_state path = refl
    states_numbers (and_state items exits states) [] = refl
    states_numbers (and_state items exits states) (zero ∷ path) =
        let other : ItemTrees = items_changed change items path in
        ap (λ rest. numbers (leaving other exits) ++ rest) (flat_both numbers (item_things other) (state_things states))
        ∙ (λ i. outside.list items other exits i ++ (items_numbers items path i ++ flat_map numbers (state_things states)))
        ∙ sym (ap (λ rest. numbers (leaving items exits) ++ rest) (flat_both numbers (item_things items) (state_things states)))
    states_numbers (and_state items exits states) (suc number ∷ path) =
        ap (λ rest. numbers (leaving items exits) ++ rest) (
        flat_both numbers (item_things items) (state_things (states_changed change states (number ∷ path)))
        ∙ ap (λ rest. flat_map numbers (item_things items) ++ rest) (states_numbers states (number ∷ path))
        ∙ sym (flat_both numbers (item_things items) (state_things states))
        )

  mutual
    kind_held : (kind : KindTree) (path : List ℕ) → held_in_kind (kind_changed change kind path) ≡ held_in_kind kind
    kind_held (task code ins outs) path = refl
    kind_held (map_scope sequential params private body) path = ap (λ rest. private ++ rest) (items_held body path)
    kind_held (consume_scope stream element private body) path = ap (λ rest. (element ∷ private) ++ rest) (items_held body path)
    kind_held (nested_graph inner links) path = refl
    kind_held (reduction resolution axis identity from to) path = refl
    kind_held (copy from to) path = refl

    items_held : (items : ItemTrees) (path : List ℕ) → held_in (items_changed change items path) ≡ held_in items
    items_held no_item path = refl
    items_held (and_item line kind items) [] = refl
    items_held (and_item line kind items) (zero ∷ path) = ap (λ first. first ++ held_in items) (kind_held kind path)
    items_held (and_item line kind items) (suc number ∷ path) = ap (λ rest. held_in_kind kind ++ rest) (items_held items (number ∷ path))

  states_held : (states : StateTrees) (path : List ℕ) → held_in_states (states_changed change states path) ≡ held_in_states states
  states_held no_state path = refl
  states_held (and_state items exits states) [] = refl
  states_held (and_state items exits states) (zero ∷ path) = ap (λ first. first ++ held_in_states states) (items_held items path)
  states_held (and_state items exits states) (suc number ∷ path) = ap (λ rest. held_in items ++ rest) (states_held states (number ∷ path))

  pub once_inside : (name : List ℕ) (containers : Containers) (arguments : ℕ) (variables : List (List ℕ)) (symbols : ℕ) (states : StateTrees) (path : List ℕ) →
      IsOnceGraph (graph name containers arguments variables symbols states) → IsOnceGraph (graph name containers arguments variables symbols (states_changed change states path))
  once_inside name containers arguments variables symbols states path was = record {
    once = record {
      held = ap (are_new []) (states_numbers held_at held_outside states path) ∙ was.once.held;
      params = ap (are_new []) (states_numbers params_at params_outside states path) ∙ was.once.params;
      apart = λ n param set.
          was.once.apart n (sym (ap (λ numbers. has_number numbers n) (states_numbers params_at params_outside states path)) ∙ param)
          (sym (ap (λ numbers. has_number numbers n) (states_numbers set_at set_outside states path)) ∙ set);
    };
    held = ap (λ own. list_all (is_private_held containers own) (numbers_below (length containers))) (states_held states path) ∙ was.held;
  }

-- ---- a graph with two of its states fused

-- numbers that stand once stand once still
new_still : (numbers others : List ℕ) → ((n : ℕ) → times n others ≡ times n numbers) → are_new [] numbers ≡ true → are_new [] others ≡ true
new_still numbers others same new = new_from [] others (λ n. omega (arith, same n, (new_times n [] numbers new).0)) (λ n some. refl)

all_still : (containers : Containers) (held others : List ℕ) → ((n : ℕ) → has_number others n ≡ has_number held n) → (numbers : List ℕ) →
    list_all (is_private_held containers others) numbers ≡ list_all (is_private_held containers held) numbers
all_still containers held others same [] = refl
all_still containers held others same (number ∷ numbers) = λ i.
    (not (is_private (container_at containers number).kind) || same number i) && all_still containers held others same numbers i

pub once_fused : (first second : ℕ) (name : List ℕ) (containers : Containers) (arguments : ℕ) (variables : List (List ℕ)) (symbols : ℕ) (states : StateTrees) → AreFusible first second states →
    IsOnceGraph (graph name containers arguments variables symbols states) → IsOnceGraph (graph name containers arguments variables symbols (fused first second states))
once_fused first second name containers arguments variables symbols states fusible was =
    let after : StateTrees = fused first second states in
    let times_same : (numbers : Thing → List ℕ) → AreLowered numbers → (n : ℕ) → times n (flat_map numbers (state_things after)) ≡ times n (flat_map numbers (state_things states)) =
    λ numbers lowered n. times_fused numbers lowered n first second states fusible in
    let there : (numbers : Thing → List ℕ) → AreLowered numbers → (n : ℕ) → has_number (flat_map numbers (state_things after)) n ≡ has_number (flat_map numbers (state_things states)) n =
    λ numbers lowered n. has_same (flat_map numbers (state_things states)) (flat_map numbers (state_things after)) n (times_same numbers lowered n) in
    record {
      once = record {
        held = new_still (flat_map held_at (state_things states)) (flat_map held_at (state_things after)) (times_same held_at held_lowered) was.once.held;
        params = new_still (flat_map params_at (state_things states)) (flat_map params_at (state_things after)) (times_same params_at params_lowered) was.once.params;
        apart = λ n param set. was.once.apart n (sym (there params_at params_lowered n) ∙ param) (sym (there set_at set_lowered n) ∙ set);
      };
      held = all_still containers (held_in_states states) (held_in_states after) (λ n. has_fused held_in held_in_states held_numbers n first second states fusible) (numbers_below (length containers)) ∙ was.held;
    }
