-- Where a statement of a program stands, in the source and in its graph.
use Rattle.std.specs.Prelude.{◌≡◌, ℕ, suc, pos, ◌+◌, ◌<◌, ◌≤◌, ℤ, List, [], ◌∷◌, ◌++◌, length, map, true, slice_index_or, ⊤}
use Rattle.sd_lex.specs.PlainTree.{StatementTree, map_scope, tasklet, consume_scope, for_loop, while_loop, branch, Block, no_statement, and_statement}
use Rattle.sd_lex.specs.StatementKind.{has_connector}
use Rattle.sd_range.specs.Affine.{affine_value}
use Rattle.sd_graph.specs.ContainerParts.{Containers, container_at, name_at, extents_of}
use Rattle.sd_graph.specs.Context.{Context, source_name}
use Rattle.sd_graph.specs.declared.container.Container.{Container}
use Rattle.sd_graph.specs.declared.container.ContainerKind.{ContainerKind}
use Rattle.sd_graph.specs.declared.container.ContainerKind.TheVariants.{Argument, Transient, Private, Stream, PrivateStream}
use Rattle.sd_valid.specs.BoundExpression.{bound_container}
use Rattle.sd_valid.specs.SizedValues.{sized}
use Rattle.sd_valid.specs.SizedWork.{at_sizes, sized_containers}
use Rattle.sd_program.specs.Names.{Name, Named}
use Rattle.sd_program.specs.Bounds.{EachBound}
use Rattle.sd_program.specs.IsAffine.{IsAffine}
use Rattle.sd_program.specs.Limits.{HasFewParameters}
use Rattle.sd_program.specs.Declared.{containers_in, containers_in_all}
use Rattle.sd_program.specs.Place.{Holder, Place}
use Rattle.sd_program.specs.Known.{IsPlaced, IsKnown}
use Rattle.sd_task.specs.in_force.Subsets.{are_units}
use Rattle.sd_task.specs.task.Table.{Table, extents_at}
use Rattle.sd_says.specs.Held as held
use Rattle.sd_says.specs.Setting.{Setting}
use Rattle.sd_says.specs.Declared.{Owner, of_caller, of_run, of_scope, Declaration}
use Rattle.sd_tie.specs.elements.Tied.{shape_of, Tied, AreNumbered}
use Rattle.sd_tie.specs.tasklets.Connected.{AreConnected, inputs_named, outputs_named}

-- ---- containers

abbrev pub owner_of : ContainerKind → Owner
owner_of Argument = of_caller
owner_of Transient = of_run
owner_of Private = of_scope
owner_of Stream = of_run
owner_of PrivateStream = of_scope

-- a container of the graph, with these sizes, as a statement declares it
abbrev pub declared_by : (sizes : List ℤ) → Name × Container → Declaration
declared_by sizes entry = record { shape = shape_of (bound_container sizes entry.1); width = entry.1.width; unit = are_units entry.1.extents; owner = owner_of entry.1.kind }

-- ---- what a statement fulfils in its place

-- the lines of a tasklet name connectors that are there
abbrev pub IsJoined : StatementTree → Type 0
IsJoined (tasklet line body) = AreConnected (inputs_named body) (outputs_named body) body
IsJoined (consume_scope line from size name element worker body) = has_connector body ≡ true → AreConnected (element ∷ inputs_named body) (outputs_named body) body
IsJoined statement = ⊤

pub record Fits (callable : Place → StatementTree → Type 0) (place : Place) (statement : StatementTree) : Type 0 where
  pub known : IsKnown place statement
  pub placed : IsPlaced place statement
  pub called : callable place statement
  pub affine : EachBound IsAffine statement
  pub parameters : HasFewParameters statement
  pub joined : IsJoined statement

-- ---- names

-- the names of the variables that a statement declares
abbrev mutual
  pub variables_named : StatementTree → List Name
  variables_named (map_scope line parameters ranges body) = parameters ++ variables_named_all body
  variables_named (consume_scope line from size name element worker body) = variables_named_all body
  variables_named (for_loop line name begin end step body) = name ∷ variables_named_all body
  variables_named (while_loop line when body) = variables_named_all body
  variables_named (branch line when body other) = variables_named_all body ++ variables_named_all other
  variables_named statement = []

  pub variables_named_all : Block → List Name
  variables_named_all no_statement = []
  variables_named_all (and_statement first rest) = variables_named first ++ variables_named_all rest

-- these names stand among others, the first at this number
abbrev pub StandsAt : {A : Type 0} → (default : A) → (whole part : List A) → ℕ → Type 0
StandsAt default whole [] n = ⊤
StandsAt default whole (member ∷ part) n = (slice_index_or whole n default ≡ member) × StandsAt default whole part (suc n)

-- the container of each element has the element's name, or one that begins with it and `$`; the first container has this number
module _ (containers : Containers) where
  abbrev mutual
    pub HasElements : StatementTree → (next : ℕ) → Type 0
    HasElements (map_scope line parameters ranges body) next = HaveElements body next
    HasElements (consume_scope line from size name element worker body) next = (source_name (name_at containers next) ≡ element) × HaveElements body (next + 1)
    HasElements (for_loop line name begin end step body) next = HaveElements body next
    HasElements (while_loop line when body) next = HaveElements body next
    HasElements (branch line when body other) next = HaveElements body next × HaveElements other (next + containers_in_all body)
    HasElements statement next = ⊤

    pub HaveElements : Block → (next : ℕ) → Type 0
    HaveElements no_statement next = ⊤
    HaveElements (and_statement first rest) next = HasElements first next × HaveElements rest (next + containers_in first)

-- ---- standing

-- the numbers are below a bound
abbrev pub AreBelow : ℕ → Named ℕ → Type 0
AreBelow bound [] = ⊤
AreBelow bound (entry ∷ entries) = (entry.1 < bound) × AreBelow bound entries

-- What holds of the names known at a statement, of its table, setting and context, where the next container and variable have these numbers.
pub record Stands (sizes : List ℤ) (all : List Declaration) (known : Named Holder) (container variable : ℕ) (table : Table) (setting : Setting) (context : Context) : Type 0 where
  pub tied : Tied table setting (at_sizes sizes context)
  pub numbered : AreNumbered known table.containers
  pub containers : context.containers ≡ sized_containers sizes table.all
  -- extents are those, whatever the values of other variables are
  pub extents : (values : List ℤ) (number : ℕ) → map (affine_value (sized sizes values)) (extents_at table.all number) ≡ map pos (held.extents_of_shape (shape_of (container_at context.containers number)))
  pub declared : all ≡ map (declared_by sizes) table.all
  -- a stream has no extents
  pub bare : (number : ℕ) → held.extents_of_shape (shape_of (container_at context.containers number)) ≡ extents_of (container_at context.containers number)
  pub containers_below : AreBelow container table.containers
  pub variables_below : AreBelow variable table.variables
  pub sizes_below : length sizes ≤ variable
