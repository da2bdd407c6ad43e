-- The nodes of a list of items, made one after another.
use Rattle.std.specs.Prelude.{ℕ, ◌-◌, List, [], ◌∷◌, ◌++◌, length, replicate, None}
use Rattle.sd_source.specs.nodes.Items.{Name, Item, none, single, map_scope, consume_scope, Items, no_item, and_item}
use Rattle.sd_source.specs.nodes.Names.{noted_own}
use Rattle.sd_source.specs.declared.nodes.access.Access.{Access}
use Rattle.sd_source.specs.declared.nodes.access.Access.TheVariants.{Read, Write}
use Rattle.sd_source.specs.declared.nodes.node.Node.{Node}

-- what is read, or what is written
abbrev pub chosen : Access → (reads writes : List Name) → List Name
chosen Read reads writes = reads
chosen Write reads writes = writes

-- these containers with those of a list's own that an item reads or writes, itself or in the scopes in it
abbrev mutual
  pub with_mentioned : (own : List Name) → Access → (known : List Name) → Item → List Name
  with_mentioned own access known (none line) = known
  with_mentioned own access known (single line called reads writes) = noted_own own known (chosen access reads writes)
  with_mentioned own access known (map_scope line inner body) = with_all_mentioned own access known body
  with_mentioned own access known (consume_scope line stream inner body) = with_all_mentioned own access (noted_own own known (chosen access (stream ∷ []) [])) body

  pub with_all_mentioned : (own : List Name) → Access → (known : List Name) → Items → List Name
  with_all_mentioned own access known no_item = known
  with_all_mentioned own access known (and_item item items) = with_all_mentioned own access (with_mentioned own access known item) items

-- the line of an item
abbrev pub line_of : Item → ℕ
line_of (none line) = line
line_of (single line called reads writes) = line
line_of (map_scope line own body) = line
line_of (consume_scope line stream own body) = line

-- a node that holds no graph
abbrev pub plain_node : (line : ℕ) → Node
plain_node line = record { line = line; called = None }

-- as many access nodes as there are containers more than before
abbrev pub access_nodes : (line : ℕ) → (before now : List Name) → List Node
access_nodes line before now = replicate (length now - length before) (plain_node line)

-- a new access node for each of the list's own containers that an item reads and that has no current one
abbrev pub with_read : (own current : List Name) → (made : List Node) → Item → List Node
with_read own current made item = made ++ access_nodes (line_of item) current (with_mentioned own Read current item)

-- a new access node for each of the list's own containers that an item writes
abbrev pub with_written : (own : List Name) → (made : List Node) → Item → List Node
with_written own made item = made ++ access_nodes (line_of item) [] (with_mentioned own Write [] item)

-- the containers that have a current access node behind an item
abbrev pub current_behind : (own current : List Name) → Item → List Name
current_behind own current item = with_mentioned own Write (with_mentioned own Read current item) item

abbrev mutual
  -- the nodes of an item: one, or a scope's entry, those of its body, and its exit
  pub with_inner : (made : List Node) → Item → List Node
  with_inner made (none line) = made
  with_inner made (single line called reads writes) = made ++ record { line = line; called = called } ∷ []
  with_inner made (map_scope line own body) = with_nodes own [] (made ++ plain_node line ∷ []) body ++ plain_node line ∷ []
  with_inner made (consume_scope line stream own body) = with_nodes own [] (made ++ plain_node line ∷ []) body ++ plain_node line ∷ []

  -- the nodes of a list with these containers of its own, of which some have a current access node: for each item its new access
  -- nodes for what it reads, its nodes, and its access nodes for what it writes
  pub with_nodes : (own current : List Name) → (made : List Node) → Items → List Node
  with_nodes own current made no_item = made
  with_nodes own current made (and_item item items) =
      with_nodes own (current_behind own current item) (with_written own (with_inner (with_read own current made item) item) item) items

-- the nodes of an item that stands alone in a state with these containers
abbrev pub with_item : (own : List Name) → (made : List Node) → Item → List Node
with_item own made item = with_written own (with_inner (with_read own [] made item) item) item
