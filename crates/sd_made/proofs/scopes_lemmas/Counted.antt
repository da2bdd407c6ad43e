-- How often a number stands at the things of a graph.
use Rattle.std.proofs.Common.{◌≡◌, ◌∙◌, ℕ, ◌+◌, ℤ, List, [], ◌∷◌, ◌++◌, map, Some, None, Bool, true, false, cond, ◌&&◌, refl, ap, sym, arith, zero-add}
use Rattle.std.proofs.lemmas.List.{map-append}
use Rattle.sd_range.specs.declared.affine.Affine.{Affine}
use Rattle.sd_range.specs.declared.range.Range.{Range}
use Rattle.sd_lex.specs.PlainTree.{Expression, element_at, two, Expressions}
use Rattle.sd_lex.specs.declared.syntax.operator.TwoSign.TheVariants.{Add}
use Rattle.sd_num.specs.declared.resolution.Resolution.TheVariants.{Sum}
use Rattle.sd_graph.specs.declared.link.Link.{Link}
use Rattle.sd_program.specs.Names.{Name}
use Rattle.sd_task.specs.task.Table.{Table}
use Rattle.sd_task.specs.task.ElementCode.{assignment, element_task}
use Rattle.sd_graph.specs.PlainTree.{TaskletTree, KindTree, task, map_scope, consume_scope, nested_graph, reduction, copy, ItemTrees, no_item, and_item, StateTrees, no_state, and_state, GraphTree, graph, ExitTree}
use Rattle.sd_valid.specs.BoundExpression.{bound_param, bound_assignment}
use Rattle.sd_valid.specs.BoundTree.{bound_exit, bound_kind, bound_items, bound_states, bound_graph}
use Rattle.sd_validity.specs.rules.Places.{Thing, whole, leaving, doing, Place, param_numbers}
use Rattle.sd_validity.specs.rules.NamesInForce.{held_by, held_at, held_in_kind, held_in, held_in_states, params_at, set_at, numbers_at}
use Rattle.sd_validity.specs.bound_places.BoundPlace.{bound_thing}
use Rattle.sd_validity.specs.things.Things.{things_in, item_things, state_things, graph_things}
use Rattle.sd_validity.specs.things.Behind.{things_at}
use Rattle.sd_validity.proofs.things_lemmas.Times.{times, times_joined}

abbrev pub counted : (numbers : Thing → List ℕ) → (number : ℕ) → List Thing → ℕ
counted numbers number [] = 0
counted numbers number (thing ∷ things) = times number (numbers thing) + counted numbers number things

pub counted_joined : (numbers : Thing → List ℕ) (number : ℕ) (first second : List Thing) → counted numbers number (first ++ second) ≡ counted numbers number first + counted numbers number second
counted_joined numbers number [] second = sym (zero-add (counted numbers number second))
counted_joined numbers number (thing ∷ first) second = omega (arith, counted_joined numbers number first second)

-- at the places of things
pub places_counted : (numbers : Thing → List ℕ) (number : ℕ) (places : List Place) → times number (numbers_at numbers places) ≡ counted numbers number (things_at places)
places_counted numbers number [] = refl
places_counted numbers number (place ∷ places) =
    times_joined number (numbers place.thing) (numbers_at numbers places) ∙ ap (λ (count : ℕ). times number (numbers place.thing) + count) (places_counted numbers number places)

-- an item in which nothing stands
pub leaf_counted : (numbers : Thing → List ℕ) (number line : ℕ) (kind : KindTree) (rest : ItemTrees) → numbers (doing kind) ≡ [] → things_in kind ≡ [] →
    counted numbers number (item_things (and_item line kind rest)) ≡ counted numbers number (item_things rest)
leaf_counted numbers number line kind rest none empty = rw (none, empty) (zero-add (counted numbers number (item_things rest)))

pub item_counted : (numbers : Thing → List ℕ) (number line : ℕ) (kind : KindTree) (rest : ItemTrees) →
    counted numbers number (item_things (and_item line kind rest))
    ≡ times number (numbers (doing kind)) + (counted numbers number (things_in kind) + counted numbers number (item_things rest))
item_counted numbers number line kind rest = ap (λ (count : ℕ). times number (numbers (doing kind)) + count) (counted_joined numbers number (things_in kind) (item_things rest))

either_leaf : (numbers : Thing → List ℕ) (number line : ℕ) (resolved : Bool) (one other : KindTree) (rest : ItemTrees) →
    counted numbers number (item_things (and_item line one rest)) ≡ counted numbers number (item_things rest) →
    counted numbers number (item_things (and_item line other rest)) ≡ counted numbers number (item_things rest) →
    counted numbers number (item_things (and_item line (cond resolved one other) rest)) ≡ counted numbers number (item_things rest)
either_leaf numbers number line true one other rest is others = is
either_leaf numbers number line false one other rest is others = others

-- an element statement is one
pub element_counted : (numbers : Thing → List ℕ) (number line : ℕ) (table : Table) (in_scope : Bool) (name : Name) (at : Expressions) (add : Bool) (value : Expression) (rest : ItemTrees) →
    ((code : TaskletTree) (ins outs : List Link) → numbers (doing (task code ins outs)) ≡ []) →
    counted numbers number (item_things (and_item line (element_task table in_scope name at add value) rest)) ≡ counted numbers number (item_things rest)
element_counted numbers number line table in_scope name at add value rest none =
    let resolved : KindTree = assignment table name at (Some Sum) value in
    let whole : KindTree = assignment table name at None (cond add (two Add (element_at name at) value) value) in
    either_leaf numbers number line (add && in_scope) resolved whole rest (leaf_counted numbers number line resolved rest (none _ _ _) refl) (leaf_counted numbers number line whole rest (none _ _ _) refl)

-- ---- the containers that scopes make their own

mutual
  kind_held : (number : ℕ) (kind : KindTree) → times number (held_by kind) + counted held_at number (things_in kind) ≡ times number (held_in_kind kind)
  kind_held number (task code ins outs) = refl
  kind_held number (map_scope sequential params private body) = ap (λ (count : ℕ). times number private + count) (items_held number body) ∙ sym (times_joined number private (held_in body))
  kind_held number (consume_scope stream element private body) =
      ap (λ (count : ℕ). times number (element ∷ private) + count) (items_held number body) ∙ sym (times_joined number (element ∷ private) (held_in body))
  kind_held number (nested_graph inner links) = refl
  kind_held number (reduction resolution axis identity from to) = refl
  kind_held number (copy from to) = refl

  items_held : (number : ℕ) (items : ItemTrees) → counted held_at number (item_things items) ≡ times number (held_in items)
  items_held number no_item = refl
  items_held number (and_item line kind items) =
      let split = item_counted held_at number line kind items in
      let joined = times_joined number (held_in_kind kind) (held_in items) in
      omega (arith, split, joined, kind_held number kind, items_held number items)

pub states_held : (number : ℕ) (states : StateTrees) → counted held_at number (state_things states) ≡ times number (held_in_states states)
states_held number no_state = refl
states_held number (and_state items exits states) =
    let split = counted_joined held_at number (item_things items) (state_things states) in
    let joined = times_joined number (held_in items) (held_in_states states) in
    omega (arith, split, joined, items_held number items, states_held number states)

-- ---- with sizes

module _ (sizes : List ℤ) where
  mutual
    kind_bound : (kind : KindTree) → things_in (bound_kind sizes kind) ≡ map (bound_thing sizes) (things_in kind)
    kind_bound (task code ins outs) = refl
    kind_bound (map_scope sequential params private body) = items_bound body
    kind_bound (consume_scope stream element private body) = items_bound body
    kind_bound (nested_graph inner links) = refl
    kind_bound (reduction resolution axis identity from to) = refl
    kind_bound (copy from to) = refl

    items_bound : (items : ItemTrees) → item_things (bound_items sizes items) ≡ map (bound_thing sizes) (item_things items)
    items_bound no_item = refl
    items_bound (and_item line kind items) =
        ap (λ (things : List Thing). doing (bound_kind sizes kind) ∷ things)
        ((λ i. kind_bound kind i ++ items_bound items i) ∙ sym (map-append (bound_thing sizes) (things_in kind) (item_things items)))

  states_bound : (states : StateTrees) → state_things (bound_states sizes states) ≡ map (bound_thing sizes) (state_things states)
  states_bound no_state = refl
  states_bound (and_state items exits states) =
      ap (λ (things : List Thing). leaving (bound_items sizes items) (map (bound_exit sizes) exits) ∷ things)
      ((λ i. items_bound items i ++ states_bound states i) ∙ sym (map-append (bound_thing sizes) (item_things items) (state_things states)))

  things_bound : (tree : GraphTree) → graph_things (bound_graph sizes tree) ≡ map (bound_thing sizes) (graph_things tree)
  things_bound (graph name containers arguments variables symbols states) = ap (λ (things : List Thing). whole ∷ things) (states_bound states)

  each_bound : (numbers : Thing → List ℕ) → ((thing : Thing) → numbers (bound_thing sizes thing) ≡ numbers thing) → (number : ℕ) (things : List Thing) →
      counted numbers number (map (bound_thing sizes) things) ≡ counted numbers number things
  each_bound numbers same number [] = refl
  each_bound numbers same number (thing ∷ things) = rw (same thing, each_bound numbers same number things) refl

  pub counted_bound : (numbers : Thing → List ℕ) → ((thing : Thing) → numbers (bound_thing sizes thing) ≡ numbers thing) → (number : ℕ) (tree : GraphTree) →
      counted numbers number (graph_things (bound_graph sizes tree)) ≡ counted numbers number (graph_things tree)
  counted_bound numbers same number tree = ap (counted numbers number) (things_bound tree) ∙ each_bound numbers same number (graph_things tree)

  pub held_bound : (thing : Thing) → held_at (bound_thing sizes thing) ≡ held_at thing
  held_bound whole = refl
  held_bound (leaving items exits) = refl
  held_bound (doing (task code ins outs)) = refl
  held_bound (doing (map_scope sequential params private body)) = refl
  held_bound (doing (consume_scope stream element private body)) = refl
  held_bound (doing (nested_graph inner links)) = refl
  held_bound (doing (reduction resolution axis identity from to)) = refl
  held_bound (doing (copy from to)) = refl

  param_numbers_bound : (params : List (ℕ × Range)) → param_numbers (map (bound_param sizes) params) ≡ param_numbers params
  param_numbers_bound [] = refl
  param_numbers_bound (param ∷ params) = ap (λ (numbers : List ℕ). param.0 ∷ numbers) (param_numbers_bound params)

  pub params_bound : (thing : Thing) → params_at (bound_thing sizes thing) ≡ params_at thing
  params_bound whole = refl
  params_bound (leaving items exits) = refl
  params_bound (doing (task code ins outs)) = refl
  params_bound (doing (map_scope sequential params private body)) = param_numbers_bound params
  params_bound (doing (consume_scope stream element private body)) = refl
  params_bound (doing (nested_graph inner links)) = refl
  params_bound (doing (reduction resolution axis identity from to)) = refl
  params_bound (doing (copy from to)) = refl

  assigned_bound : (set : List (ℕ × Affine)) → map (λ (assignment : ℕ × Affine). assignment.0) (map (bound_assignment sizes) set) ≡ map (λ (assignment : ℕ × Affine). assignment.0) set
  assigned_bound [] = refl
  assigned_bound (assignment ∷ set) = ap (λ (numbers : List ℕ). assignment.0 ∷ numbers) (assigned_bound set)

  exits_bound : (items others : ItemTrees) (exits : List ExitTree) → set_at (leaving items (map (bound_exit sizes) exits)) ≡ set_at (leaving others exits)
  exits_bound items others [] = refl
  exits_bound items others (exit ∷ exits) = λ i. assigned_bound exit.set i ++ exits_bound items others exits i

  pub set_bound : (thing : Thing) → set_at (bound_thing sizes thing) ≡ set_at thing
  set_bound whole = refl
  set_bound (leaving items exits) = exits_bound (bound_items sizes items) items exits
  set_bound (doing kind) = refl
