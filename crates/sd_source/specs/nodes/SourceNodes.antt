-- The nodes of a function's graph, and what the function does with its parameters.
use Rattle.std.specs.Prelude.{List, [], ◌∷◌, ◌++◌, map, Option, Some, None, false, if◌then◌else◌}
use Rattle.sd_lex.specs.PlainTree.{StatementTree, argument_array, local_array, local_stream, for_loop, while_loop, branch, Block, no_statement, and_statement, FunctionTree}
use Rattle.sd_source.specs.nodes.Items.{Name}
use Rattle.sd_source.specs.nodes.Names.{Named, is_among, noted, noted_own}
use Rattle.sd_source.specs.nodes.Nodes.{chosen, with_mentioned, with_item}
use Rattle.sd_source.specs.nodes.SourceItems.{Parameters, declared_by, elements_in, item_of}
use Rattle.sd_source.specs.declared.nodes.access.Access.{Access}
use Rattle.sd_source.specs.declared.nodes.access.Access.TheVariants.{Read, Write}
use Rattle.sd_source.specs.declared.nodes.node.Node.{Node}

-- these containers with those that are declared, in loops and branches too, those of scopes aside
abbrev mutual
  pub with_declared : (known : List Name) → StatementTree → List Name
  with_declared known (for_loop line name begin end step body) = with_all_declared known body
  with_declared known (while_loop line when body) = with_all_declared known body
  with_declared known (branch line when body other) = with_all_declared (with_all_declared known body) other
  with_declared known statement = noted known (declared_by statement)

  pub with_all_declared : (known : List Name) → Block → List Name
  with_all_declared known no_statement = known
  with_all_declared known (and_statement first rest) = with_all_declared (with_declared known first) rest

-- a graph's own containers, those of its scopes aside; the arguments are the first
abbrev pub arguments_of : FunctionTree → List Name
arguments_of function = with_all_declared [] function.arguments

abbrev pub own_of : FunctionTree → List Name
own_of function = with_all_declared (arguments_of function) function.body

module _ (functions : Named Parameters) where
  -- these containers with those of a graph's own that are read, in items and conditions, or written
  abbrev mutual
    pub with_used : (own : List Name) → Access → (known : List Name) → StatementTree → List Name
    with_used own access known (for_loop line name begin end step body) = with_all_used own access known body
    with_used own access known (while_loop line when body) = with_all_used own access (noted_own own known (chosen access (elements_in when) [])) body
    with_used own access known (branch line when body other) =
        with_all_used own access (with_all_used own access (noted_own own known (chosen access (elements_in when) [])) body) other
    with_used own access known statement = with_mentioned own access known (item_of functions false statement)

    pub with_all_used : (own : List Name) → Access → (known : List Name) → Block → List Name
    with_all_used own access known no_statement = known
    with_all_used own access known (and_statement first rest) = with_all_used own access (with_used own access known first) rest

  -- the nodes of the state that a statement makes, in which its item stands alone
  abbrev pub state_nodes : (own : List Name) → StatementTree → List Node
  state_nodes own statement = with_item own [] (item_of functions false statement)

  -- these states with those that are made, in their order; the states that loops and branches make besides have no node
  abbrev mutual
    pub with_states : (own : List Name) → (made : List (List Node)) → StatementTree → List (List Node)
    with_states own made (argument_array line name bits extents) = made
    with_states own made (local_array line name extents bits) = made
    with_states own made (local_stream line name bits size) = made
    with_states own made (for_loop line name begin end step body) = with_all_states own made body
    with_states own made (while_loop line when body) = with_all_states own made body
    with_states own made (branch line when body other) = with_all_states own (with_all_states own made body) other
    with_states own made statement = made ++ state_nodes own statement ∷ []

    pub with_all_states : (own : List Name) → (made : List (List Node)) → Block → List (List Node)
    with_all_states own made no_statement = made
    with_all_states own made (and_statement first rest) = with_all_states own (with_states own made first) rest

  -- the nodes of each state of a function's graph
  abbrev pub states_of : FunctionTree → List (List Node)
  states_of function = with_all_states (own_of function) [] function.body

-- what is done with a container: it is written, else read, else not used
abbrev pub access_to : (reads writes : List Name) → Name → Option Access
access_to reads writes name = if is_among writes name then Some Write else if is_among reads name then Some Read else None

-- what is done with each of these arguments
abbrev pub access_to_each : (reads writes : List Name) → (arguments : Block) → Parameters
access_to_each reads writes no_statement = []
access_to_each reads writes (and_statement first rest) = map (access_to reads writes) (declared_by first) ++ access_to_each reads writes rest

-- what a function does with its parameters
abbrev pub parameters_of : Named Parameters → FunctionTree → Parameters
parameters_of functions function =
    let arguments : List Name = arguments_of function in
    access_to_each (with_all_used functions arguments Read [] function.body) (with_all_used functions arguments Write [] function.body) function.arguments
