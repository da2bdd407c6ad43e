-- The containers and variables that a program declares, in the order of the text.
use Rattle.std.specs.Prelude.{ℕ, zero, suc, ◌+◌, pos, List, [], ◌∷◌, ◌++◌, length, map, Bool, true, false, cond, bytes_eq, decimal}
use Rattle.std.specs.List.{list_any}
use Rattle.sd_num.specs.declared.width.Width.TheVariants.{W64}
use Rattle.sd_lex.specs.PlainTree.{StatementTree, argument_array, local_array, local_stream, map_scope, consume_scope, for_loop, while_loop, branch, Block, no_statement, and_statement, FunctionTree}
use Rattle.sd_lex.specs.StatementKind.{has_connector}
use Rattle.sd_graph.specs.declared.container.Container.{Container}
use Rattle.sd_graph.specs.declared.container.ContainerKind.{ContainerKind}
use Rattle.sd_graph.specs.declared.container.ContainerKind.TheVariants.{Argument, Transient, Private, Stream, PrivateStream}
use Rattle.sd_range.specs.declared.affine.Affine.{Affine}
use Rattle.sd_program.specs.Names.{Name, Named}
use Rattle.sd_program.specs.Affines.{affine_number}
use Rattle.sd_task.specs.in_force.Names.{with_numbered}
use Rattle.sd_task.specs.in_force.Ranges.{extents_of}
use Rattle.sd_program.specs.DeclaredNames.{container_names}

-- ---- variables

-- after these names, those of a statement's variables
abbrev mutual
  pub variable_names : StatementTree → List Name → List Name
  variable_names (map_scope line parameters ranges body) names = variable_names_all body (names ++ parameters)
  variable_names (consume_scope line stream size name element worker body) names = variable_names_all body names
  variable_names (for_loop line name begin end step body) names = variable_names_all body (names ++ name ∷ [])
  variable_names (while_loop line when body) names = variable_names_all body names
  variable_names (branch line when body other) names = variable_names_all other (variable_names_all body names)
  variable_names statement names = names

  pub variable_names_all : Block → List Name → List Name
  variable_names_all no_statement names = names
  variable_names_all (and_statement first rest) names = variable_names_all rest (variable_names first names)

-- ---- free names

-- `name$k`
abbrev pub name_with_number : Name → ℕ → Name
name_with_number name number = name ++ 36 ∷ decimal number

-- the first of `name$k` that is not in use, from this k on; with one try more than there are names in use, one is free
abbrev pub first_free : (tries : ℕ) → (number : ℕ) → (used : List Name) → Name → Name
first_free zero number used name = name_with_number name number
first_free (suc tries) number used name =
    let free : Name = name_with_number name number in
    cond (list_any (bytes_eq free) used) (first_free tries (number + 1) used name) free

-- the name itself where it is not in use, else `name$k` with the least k from 1 on
abbrev pub fresh_name : (used : List Name) → Name → Name
fresh_name used name = cond (list_any (bytes_eq name) used) (first_free (length used) 1 used name) name

-- ---- containers

abbrev pub Containers : Type 0
Containers = List (Name × Container)

-- one more container, the last one
abbrev pub followed_by : Containers → Name → List Affine → ContainerKind → Containers
followed_by containers name extents kind = containers ++ (name, record { extents = extents; kind = kind; width = W64 }) ∷ []

abbrev pub array_kind : (in_scope : Bool) → ContainerKind
array_kind true = Private
array_kind false = Transient

abbrev pub stream_kind : (in_scope : Bool) → ContainerKind
stream_kind true = PrivateStream
stream_kind false = Stream

-- the names that are declared anywhere, and those of the containers so far
abbrev pub names_in_use : (declared : List Name) → Containers → List Name
names_in_use declared containers = declared ++ map (λ entry. entry.0) containers

-- the name of an element's container: that of one tasklet may be in use, by a container declared anywhere or by an element before it
abbrev pub element_name : (declared : List Name) → Containers → (is_task : Bool) → Name → Name
element_name declared containers true name = fresh_name (names_in_use declared containers) name
element_name declared containers false name = name

-- one more container, of an element
abbrev pub with_element : (declared : List Name) → Containers → (is_task : Bool) → Name → Containers
with_element declared containers is_task name = followed_by containers (element_name declared containers is_task name) (affine_number (pos 1) ∷ []) Private

-- the size symbols, and the names of all containers that the program declares
module _ (symbols : Named ℕ) (declared : List Name) where
  -- after these containers, those that a statement declares
  abbrev mutual
    pub containers_with : StatementTree → (in_scope : Bool) → Containers → Containers
    containers_with (argument_array line name bits extents) in_scope containers = followed_by containers name (extents_of symbols extents) Argument
    containers_with (local_array line name extents bits) in_scope containers = followed_by containers name (extents_of symbols extents) (array_kind in_scope)
    containers_with (local_stream line name bits size) in_scope containers = followed_by containers name [] (stream_kind in_scope)
    containers_with (map_scope line parameters ranges body) in_scope containers = containers_with_all body true containers
    containers_with (consume_scope line stream size name element worker body) in_scope containers =
        let with : Containers = with_element declared containers (has_connector body) element in
        cond (has_connector body) with (containers_with_all body true with)
    containers_with (for_loop line name begin end step body) in_scope containers = containers_with_all body in_scope containers
    containers_with (while_loop line when body) in_scope containers = containers_with_all body in_scope containers
    containers_with (branch line when body other) in_scope containers = containers_with_all other in_scope (containers_with_all body in_scope containers)
    containers_with statement in_scope containers = containers

    pub containers_with_all : Block → (in_scope : Bool) → Containers → Containers
    containers_with_all no_statement in_scope containers = containers
    containers_with_all (and_statement first rest) in_scope containers = containers_with_all rest in_scope (containers_with first in_scope containers)

-- all containers of a program with these size symbols, the arguments first
abbrev pub containers_of_function : (symbols : List Name) → FunctionTree → Containers
containers_of_function symbols function =
    let known : Named ℕ = with_numbered symbols 0 [] in
    let declared : List Name = container_names function in
    containers_with_all known declared function.body false (containers_with_all known declared function.arguments false [])
