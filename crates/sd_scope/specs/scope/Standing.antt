-- Where the code's base and scope stand.
use Rattle.std.specs.Prelude.{◌≡◌, ℕ, suc, ◌+◌, ℤ, List, [], ◌∷◌, ◌++◌, map, length, unsigned_abs, Option, Some, None, option_map, if◌then◌else◌, slice_index_or}
use Rattle.sd_range.specs.declared.affine.Affine.{Affine}
use Rattle.sd_range.specs.Subset.{inside}
use Rattle.sd_graph.specs.RowOrder.{row_number}
use Rattle.sd_graph.specs.ContainerParts.{Containers, name_at}
use Rattle.sd_graph.specs.Context.{Reach, Context, own_reach, raised, index_at, named_values, source_name}
use Rattle.sd_graph.specs.Wiring.{has_number}
use Rattle.sd_graph.specs.LoopScope.{loops_in_force}
use Rattle.sd_graph.specs.PlainTree.{GraphTree, StateTrees, graph}
use Rattle.sd_graph.specs.TreeParts.{containers_of}
use Rattle.sd_scope.specs.declared.scope.base.View.{View}
use Rattle.sd_scope.specs.declared.scope.base.Way.{Way}
use Rattle.sd_scope.specs.declared.scope.base.Base.{Base}
use Rattle.sd_scope.specs.declared.scope.scope.ShownName.{ShownName}
use Rattle.sd_scope.specs.declared.scope.scope.ShownName.TheVariants.{Parameter, Element}
use Rattle.sd_scope.specs.declared.scope.scope.Shown.{Shown}
use Rattle.sd_scope.specs.declared.scope.scope.Scope.{Scope}

-- ---- parts of a graph

-- the names of the variables
abbrev pub names_of : GraphTree → List (List ℕ)
names_of (graph name containers arguments variables symbols states) = variables

-- the states
abbrev pub states_of : GraphTree → StateTrees
states_of (graph name containers arguments variables symbols states) = states

-- ---- containers

-- extents, as the constants of expressions
abbrev pub constants_of : List Affine → List ℕ
constants_of extents = map (λ extent. unsigned_abs extent.constant) extents

-- the number of the element at an index, through views, the innermost first
abbrev pub found_through : List View → (extents : List ℕ) → (index : List ℤ) → Option ℕ
found_through [] extents index = if inside extents index then Some (row_number extents index) else None
found_through (view ∷ views) extents index =
    if inside view.extents index then found_through views extents (index_at view.subset.dims view.values index) else None

-- a container of a memory inside which so many memories lie
abbrev pub own_at : (level : ℕ) → Containers → (number : ℕ) → Reach
own_at level containers number = record (own_reach containers number) { level = level }

-- where a way leads from inside so many points and elements of the run
abbrev pub reach_by : (depth : ℕ) → Containers → (number : ℕ) → Option Way → Reach
reach_by depth containers number None = own_at depth containers number
reach_by depth containers number (Some way) = record {
  level = way.station.level + depth;
  container = way.station.container;
  find = found_through way.views way.extents;
}

-- how a container is reached: one that is private here in the memory of its point or element, any other by its way
abbrev pub reach_from : (private : Option ℕ) → (depth : ℕ) → Containers → (number : ℕ) → Option Way → Reach
reach_from (Some level) depth containers number way = own_at level containers number
reach_from None depth containers number way = reach_by depth containers number way

abbrev pub reach_of : Containers → Base → Scope → (number : ℕ) → Reach
reach_of containers base scope number =
    reach_from (slice_index_or scope.privates number None) scope.depth containers number (slice_index_or base.ways number None)

-- ---- where work stands

-- the name of what is shown: that of the parameter or of the element
abbrev pub name_shown : (names : List (List ℕ)) → Containers → ShownName → List ℕ
name_shown names containers (Parameter variable) = slice_index_or names variable []
name_shown names containers (Element container) = source_name (name_at containers container)

-- the same in a graph
abbrev pub shown_name : GraphTree → ShownName → List ℕ
shown_name tree name = name_shown (names_of tree) (containers_of tree) name

-- all that a place shows: the loop variables in force in the state, with their values at its begin, and what scopes show
abbrev pub all_shown : GraphTree → Scope → List (List ℕ × ℤ)
all_shown tree scope =
    named_values (names_of tree) scope.begun (loops_in_force (states_of tree) (length (names_of tree)) scope.state)
    ++ map (λ shown. (shown_name tree shown.name, shown.value)) scope.shown

-- where a scope stands
abbrev pub context_of : GraphTree → Base → Scope → Context
context_of tree base scope = record {
  containers = containers_of tree;
  names = names_of tree;
  values = scope.values.values;
  reach = reach_of (containers_of tree) base scope;
  shown = all_shown tree scope;
  around = base.around;
}

-- a parameter with its value, as it is kept to be shown
abbrev pub parameter_shown : ℕ × ℤ → Shown
parameter_shown assignment = record { name = Parameter assignment.0; value = assignment.1 }

-- how many points and elements lie inside the own one of a private container, from inside one more with these private ones
abbrev pub private_inside : (private : List ℕ) → (outer : List (Option ℕ)) → (number : ℕ) → Option ℕ
private_inside private outer number = if has_number private number then Some 0 else option_map suc (slice_index_or outer number None)

-- how a run reaches its containers when it begins
abbrev pub opening_reach : Containers → Base → (number : ℕ) → Reach
opening_reach containers base number = reach_by 0 containers number (slice_index_or base.ways number None)

-- a scope inside another one, at a point or an element that has these private containers
pub record IsInside (private : List ℕ) (outer inner : Scope) : Type 0 where
  pub reach : (containers : Containers) (base : Base) → reach_of containers base inner ≡ (λ number. if has_number private number then own_reach containers number else raised (reach_of containers base outer number))
  pub state : inner.state ≡ outer.state
  pub begun : inner.begun ≡ outer.begun
