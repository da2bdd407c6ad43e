-- The items of a source's statements.
use Rattle.std.specs.Prelude.{ℕ, List, [], ◌∷◌, ◌++◌, Option, Some, None, Bool, true, false, ◌&&◌, not, if◌then◌else◌}
use Rattle.sd_lex.specs.PlainTree as source
use Rattle.sd_lex.specs.PlainTree.{Expression, number, named, element_at, one, two, choice, Dimension, StatementTree, argument_array, local_array, local_stream, assign, copy, reduce, tasklet, call, for_loop, while_loop, branch, input, output, set, set_at, tasklet_branch, Block, no_statement, and_statement}
use Rattle.sd_lex.specs.StatementKind.{has_connector}
use Rattle.sd_source.specs.nodes.Items.{Name, Item, none, single, map_scope, consume_scope, Items, no_item, and_item}
use Rattle.sd_source.specs.nodes.Names.{Named, found, noted, with_own}
use Rattle.sd_source.specs.declared.nodes.access.Access.{Access}
use Rattle.sd_source.specs.declared.nodes.access.Access.TheVariants.{Read, Write}

-- what a function does with each of its parameters: it writes it, it only reads it, or it does not use it
abbrev pub Parameters : Type 0
Parameters = List (Option Access)

-- the parameters of a function; one that is not there has none
abbrev pub parameters_by : Option Parameters → Parameters
parameters_by None = []
parameters_by (Some parameters) = parameters

abbrev pub is_for : Access → Option Access → Bool
is_for access None = false
is_for Read (Some Read) = true
is_for Read (Some Write) = false
is_for Write (Some Read) = false
is_for Write (Some Write) = true

-- the containers that are given for the parameters with this access
abbrev pub given : Access → Parameters → List (Name × List Dimension) → List Name
given access [] arguments = []
given access (parameter ∷ parameters) [] = []
given access (parameter ∷ parameters) (argument ∷ arguments) =
    (if is_for access parameter then argument.0 ∷ [] else []) ++ given access parameters arguments

-- the container that a statement declares
abbrev pub declared_by : StatementTree → List Name
declared_by (argument_array line name bits extents) = name ∷ []
declared_by (local_array line name extents bits) = name ∷ []
declared_by (local_stream line name bits size) = name ∷ []
declared_by statement = []

-- these containers with those that a block declares, the blocks in it aside
abbrev pub with_locals : (known : List Name) → Block → List Name
with_locals known no_statement = known
with_locals known (and_statement first rest) = with_locals (noted known (declared_by first)) rest

-- the containers of an expression's elements, from left to right
abbrev pub elements_in : Expression → List Name
elements_in (number value) = []
elements_in (named name) = []
elements_in (element_at name at) = name ∷ []
elements_in (one sign of) = elements_in of
elements_in (two sign left right) = elements_in left ++ elements_in right
elements_in (choice value when other) = elements_in value ++ (elements_in when ++ elements_in other)

-- these containers with those of a list's own that are an expression's elements
abbrev pub with_elements : (own : List Name) → (known : List Name) → Expression → List Name
with_elements own known (number value) = known
with_elements own known (named name) = known
with_elements own known (element_at name at) = with_own own known name
with_elements own known (one sign of) = with_elements own known of
with_elements own known (two sign left right) = with_elements own (with_elements own known left) right
with_elements own known (choice value when other) = with_elements own (with_elements own (with_elements own known value) when) other

-- the container that a line of a tasklet connects with
abbrev pub connected_by : Access → StatementTree → List Name
connected_by Read (input line connector memlet) = memlet.name ∷ []
connected_by Write (output line connector memlet) = memlet.name ∷ []
connected_by access statement = []

-- the containers that a tasklet connects with
abbrev pub connected : Access → Block → List Name
connected access no_statement = []
connected access (and_statement first rest) = connected_by access first ++ connected access rest

-- the target of an element statement, where it is read
abbrev pub summed : (reads : Bool) → Name → List Name
summed reads name = if reads then name ∷ [] else []

-- the containers of a consume scope's own; one tasklet has none
abbrev pub consumer_locals : Block → List Name
consumer_locals body = if has_connector body then [] else with_locals [] body

-- the body of a consume scope: one tasklet where the block has connectors, else the items of the block
abbrev pub consumed : (line : ℕ) → Block → Items → Items
consumed line body items =
    if has_connector body then and_item (single line None (connected Read body) (connected Write body)) no_item else items

module _ (functions : Named Parameters) where
  -- a call reads and writes what is given for such parameters
  abbrev pub call_of : (line : ℕ) → Name → List (Name × List Dimension) → Item
  call_of line name arguments =
      let parameters : Parameters = parameters_by (found functions name) in
      single line (Some name) (given Read parameters arguments) (given Write parameters arguments)

  abbrev mutual
    -- the item of a statement; a declaration, a loop, a branch and a line of a tasklet are none. A sum in a state reads its target; one in a scope
    -- is a resolution, which does not
    pub item_of : (in_scope : Bool) → StatementTree → Item
    item_of in_scope (argument_array line name bits extents) = none line
    item_of in_scope (local_array line name extents bits) = none line
    item_of in_scope (local_stream line name bits size) = none line
    item_of in_scope (assign line name at add value) = single line None (summed (add && not in_scope) name ++ elements_in value) (name ∷ [])
    item_of in_scope (copy line to to_dimensions from from_dimensions) = single line None (from ∷ []) (to ∷ [])
    item_of in_scope (reduce line lambda from to axis identity) = single line None (from ∷ []) (to ∷ [])
    item_of in_scope (source.map_scope line parameters ranges body) = map_scope line (with_locals [] body) (items_of body)
    item_of in_scope (tasklet line body) = single line None (connected Read body) (connected Write body)
    item_of in_scope (source.consume_scope line stream size name element worker body) = consume_scope line stream (consumer_locals body) (consumed line body (items_of body))
    item_of in_scope (call line name arguments) = call_of line name arguments
    item_of in_scope (for_loop line name begin end step body) = none line
    item_of in_scope (while_loop line when body) = none line
    item_of in_scope (branch line when body other) = none line
    item_of in_scope (input line connector memlet) = none line
    item_of in_scope (output line connector memlet) = none line
    item_of in_scope (set line name value) = none line
    item_of in_scope (set_at line name at value) = none line
    item_of in_scope (tasklet_branch line when body other) = none line

    -- the items of a scope's body
    pub items_of : Block → Items
    items_of no_statement = no_item
    items_of (and_statement first rest) = and_item (item_of true first) (items_of rest)
