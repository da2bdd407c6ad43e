-- A limit on nodes is passed at the line of a statement.
use Rattle.std.proofs.Common.{ℕ, zero, suc, ◌-◌, List, [], ◌∷◌, ◌++◌, length, min, nat_lt, replicate, Bool, true, false, if◌then◌else◌, Option, Some, None}
use Rattle.std.specs.Bool.{⊤}
use Rattle.std.specs.List.{AllByRecursion}
use Rattle.sd_lex.specs.PlainTree as source
use Rattle.sd_lex.specs.PlainTree.{StatementTree, argument_array, local_array, local_stream, assign, copy, reduce, tasklet, call, for_loop, while_loop, branch, input, output, set, set_at, tasklet_branch, Block, no_statement, and_statement, FunctionTree, ProgramTree}
use Rattle.sd_lex.specs.StatementKind.{has_connector}
use Rattle.sd_source.specs.declared.nodes.access.Access.TheVariants.{Read, Write}
use Rattle.sd_source.specs.declared.nodes.functions.Functions.{Functions}
use Rattle.sd_source.specs.declared.nodes.limits.Limits.{Limits}
use Rattle.sd_source.specs.declared.nodes.node.Node.{Node}
use Rattle.sd_source.specs.nodes.Items.{Name, Item, none, single, map_scope, consume_scope, Items, no_item, and_item}
use Rattle.sd_source.specs.nodes.Names.{Named}
use Rattle.sd_source.specs.nodes.NodeLimits.{weight, count_of, line_over, first_of, states_over, lesser, any_state_over, graph_over, with_function, functions_over, nodes_over}
use Rattle.sd_source.specs.nodes.Nodes.{line_of, plain_node, with_mentioned, access_nodes, with_read, with_written, current_behind, with_inner, with_nodes, with_item}
use Rattle.sd_source.specs.nodes.SourceItems.{Parameters, connected, consumed, item_of, items_of}
use Rattle.sd_source.specs.nodes.SourceNodes.{own_of, state_nodes, with_states, with_all_states, states_of}
use Rattle.sd_program.specs.Every.{Every, EveryIn, EveryOf, Everywhere}
use Rattle.sd_read.proofs.readable_lemmas.kept.Trees.{all-more, all-joined}
use Rattle.sd_read.proofs.told_lemmas.SaidLines.{IsOnLine}

module _ (On : ℕ → Type 0) (lesser_of : (a b : ℕ) → On a → On b → On (min a b)) where
  abbrev pub IfOn : Option ℕ → Type 0
  IfOn None = ⊤
  IfOn (Some line) = On line

  abbrev AreNodesOn : List Node → Type 0
  AreNodesOn nodes = AllByRecursion (λ node. On node.line) nodes

  abbrev AreStatesOn : List (List Node) → Type 0
  AreStatesOn states = AllByRecursion AreNodesOn states

  -- ---- the line at which there are too many

  over-if : (test : Bool) (a b : Option ℕ) → IfOn a → IfOn b → IfOn (if test then a else b)
  over-if true a b first second = first
  over-if false a b first second = second

  lesser_on : (a b : Option ℕ) → IfOn a → IfOn b → IfOn (lesser a b)
  lesser_on None b first second = second
  lesser_on (Some line) None first second = first
  lesser_on (Some line) (Some other) first second = lesser_of line other first second

  first_on : (a b : Option ℕ) → IfOn a → IfOn b → IfOn (first_of a b)
  first_on None b first second = second
  first_on (Some line) b first second = first

  line_over_on : (counts : Named ℕ) (limit : ℕ) (nodes : List Node) → AreNodesOn nodes → IfOn (line_over counts limit nodes)
  line_over_on counts limit [] on = tt
  line_over_on counts limit (node ∷ nodes) on =
      over-if (nat_lt limit (weight counts node)) (Some node.line) (line_over counts (limit - weight counts node) nodes) on.0 (line_over_on counts (limit - weight counts node) nodes on.1)

  states_over_on : (counts : Named ℕ) (limit : ℕ) (states : List (List Node)) → AreStatesOn states → IfOn (states_over counts limit states)
  states_over_on counts limit [] on = tt
  states_over_on counts limit (nodes ∷ states) on =
      first_on (line_over counts limit nodes) (states_over counts (limit - count_of counts nodes) states) (line_over_on counts limit nodes on.0) (states_over_on counts (limit - count_of counts nodes) states on.1)

  any_over_on : (limit : ℕ) (states : List (List Node)) → AreStatesOn states → IfOn (any_state_over limit states)
  any_over_on limit [] on = tt
  any_over_on limit (nodes ∷ states) on = lesser_on (line_over [] limit nodes) (any_state_over limit states) (line_over_on [] limit nodes on.0) (any_over_on limit states on.1)

  graph_on : (limits : Limits) (counts : Named ℕ) (states : List (List Node)) → AreStatesOn states → IfOn (graph_over limits counts states)
  graph_on limits counts states on =
      lesser_on (any_state_over limits.state states) (states_over counts limits.all states) (any_over_on limits.state states on) (states_over_on counts limits.all states on)

  -- ---- the nodes of items

  abbrev mutual
    IsItemOn : Item → Type 0
    IsItemOn (none line) = On line
    IsItemOn (single line called reads writes) = On line
    IsItemOn (map_scope line own body) = On line × AreItemsOn body
    IsItemOn (consume_scope line from own body) = On line × AreItemsOn body

    AreItemsOn : Items → Type 0
    AreItemsOn no_item = ⊤
    AreItemsOn (and_item item items) = IsItemOn item × AreItemsOn items

  item_line : (item : Item) → IsItemOn item → On (line_of item)
  item_line (none line) on = on
  item_line (single line called reads writes) on = on
  item_line (map_scope line own body) on = on.0
  item_line (consume_scope line from own body) on = on.0

  replicate_on : (n line : ℕ) → On line → AreNodesOn (replicate n (plain_node line))
  replicate_on zero line on = tt
  replicate_on (suc n) line on = (on, replicate_on n line on)

  access_on : (line : ℕ) (before now : List Name) (made : List Node) → On line → AreNodesOn made → AreNodesOn (made ++ access_nodes line before now)
  access_on line before now made on all =
      all-joined (λ node. On node.line) made (access_nodes line before now) all (replicate_on (length now - length before) line on)

  mutual
    inner_on : (made : List Node) (item : Item) → AreNodesOn made → IsItemOn item → AreNodesOn (with_inner made item)
    inner_on made (none line) all on = all
    inner_on made (single line called reads writes) all on = all-more (λ node. On node.line) made (record { line = line; called = called }) all on
    inner_on made (map_scope line own body) all on =
        all-more (λ node. On node.line) (with_nodes own [] (made ++ plain_node line ∷ []) body) (plain_node line)
        (nodes_on own [] (made ++ plain_node line ∷ []) body (all-more (λ node. On node.line) made (plain_node line) all on.0) on.1) on.0
    inner_on made (consume_scope line from own body) all on =
        all-more (λ node. On node.line) (with_nodes own [] (made ++ plain_node line ∷ []) body) (plain_node line)
        (nodes_on own [] (made ++ plain_node line ∷ []) body (all-more (λ node. On node.line) made (plain_node line) all on.0) on.1) on.0

    nodes_on : (own current : List Name) (made : List Node) (items : Items) → AreNodesOn made → AreItemsOn items → AreNodesOn (with_nodes own current made items)
    nodes_on own current made no_item all on = all
    nodes_on own current made (and_item item items) all on =
        let line = item_line item on.0 in
        let read = access_on (line_of item) current (with_mentioned own Read current item) made line all in
        let inner = inner_on (with_read own current made item) item read on.0 in
        nodes_on own (current_behind own current item) (with_written own (with_inner (with_read own current made item) item) item) items
        (access_on (line_of item) [] (with_mentioned own Write [] item) (with_inner (with_read own current made item) item) line inner) on.1

  item_nodes : (own : List Name) (item : Item) → IsItemOn item → AreNodesOn (with_item own [] item)
  item_nodes own item on =
      let line = item_line item on in
      let read = access_on (line_of item) [] (with_mentioned own Read [] item) [] line tt in
      access_on (line_of item) [] (with_mentioned own Write [] item) (with_inner (with_read own [] [] item) item) line (inner_on (with_read own [] [] item) item read on)

  -- ---- the items of statements

  module _ (functions : Named Parameters) where
    consumed_on : (line : ℕ) (body : Block) (items : Items) → On line → AreItemsOn items → AreItemsOn (consumed line body items)
    consumed_on line body items on all = by_connector (has_connector body) where
      by_connector : (test : Bool) → AreItemsOn (if test then and_item (single line None (connected Read body) (connected Write body)) no_item else items)
      by_connector true = (on, tt)
      by_connector false = all

    mutual
      item_on : (in_scope : Bool) (s : StatementTree) → Every (IsOnLine On) s → IsItemOn (item_of functions in_scope s)
      item_on in_scope (argument_array line name bits extents) on = on
      item_on in_scope (local_array line name extents bits) on = on
      item_on in_scope (local_stream line name bits size) on = on
      item_on in_scope (assign line name at add value) on = on
      item_on in_scope (copy line to to_dimensions from from_dimensions) on = on
      item_on in_scope (reduce line lambda from to axis identity) on = on
      item_on in_scope (source.map_scope line parameters ranges body) on = (on.0, items_on body on.1)
      item_on in_scope (tasklet line body) on = on.0
      item_on in_scope (source.consume_scope line from size name element worker body) on = (on.0, consumed_on line body (items_of functions body) on.0 (items_on body on.1))
      item_on in_scope (call line name arguments) on = on
      item_on in_scope (for_loop line name begin end step body) on = on.0
      item_on in_scope (while_loop line when body) on = on.0
      item_on in_scope (branch line when body other) on = on.0
      item_on in_scope (input line connector memlet) on = on
      item_on in_scope (output line connector memlet) on = on
      item_on in_scope (set line name value) on = on
      item_on in_scope (set_at line name at value) on = on
      item_on in_scope (tasklet_branch line when body other) on = on.0

      items_on : (body : Block) → EveryIn (IsOnLine On) body → AreItemsOn (items_of functions body)
      items_on no_statement on = tt
      items_on (and_statement first rest) on = (item_on true first on.0, items_on rest on.1)

    -- ---- the states of statements

    state_on : (own : List Name) (made : List (List Node)) (s : StatementTree) → AreStatesOn made → Every (IsOnLine On) s → AreStatesOn (made ++ state_nodes functions own s ∷ [])
    state_on own made s all on = all-more AreNodesOn made (state_nodes functions own s) all (item_nodes own (item_of functions false s) (item_on false s on))

    mutual
      states_on : (own : List Name) (made : List (List Node)) (s : StatementTree) → AreStatesOn made → Every (IsOnLine On) s → AreStatesOn (with_states functions own made s)
      states_on own made (argument_array line name bits extents) all on = all
      states_on own made (local_array line name extents bits) all on = all
      states_on own made (local_stream line name bits size) all on = all
      states_on own made (assign line name at add value) all on = state_on own made (assign line name at add value) all on
      states_on own made (copy line to to_dimensions from from_dimensions) all on = state_on own made (copy line to to_dimensions from from_dimensions) all on
      states_on own made (reduce line lambda from to axis identity) all on = state_on own made (reduce line lambda from to axis identity) all on
      states_on own made (source.map_scope line parameters ranges body) all on = state_on own made (source.map_scope line parameters ranges body) all on
      states_on own made (tasklet line body) all on = state_on own made (tasklet line body) all on
      states_on own made (source.consume_scope line from size name element worker body) all on = state_on own made (source.consume_scope line from size name element worker body) all on
      states_on own made (call line name arguments) all on = state_on own made (call line name arguments) all on
      states_on own made (for_loop line name begin end step body) all on = all_states_on own made body all on.1
      states_on own made (while_loop line when body) all on = all_states_on own made body all on.1
      states_on own made (branch line when body other) all on = all_states_on own (with_all_states functions own made body) other (all_states_on own made body all on.1.0) on.1.1
      states_on own made (input line connector memlet) all on = state_on own made (input line connector memlet) all on
      states_on own made (output line connector memlet) all on = state_on own made (output line connector memlet) all on
      states_on own made (set line name value) all on = state_on own made (set line name value) all on
      states_on own made (set_at line name at value) all on = state_on own made (set_at line name at value) all on
      states_on own made (tasklet_branch line when body other) all on = state_on own made (tasklet_branch line when body other) all on

      all_states_on : (own : List Name) (made : List (List Node)) (body : Block) → AreStatesOn made → EveryIn (IsOnLine On) body → AreStatesOn (with_all_states functions own made body)
      all_states_on own made no_statement all on = all
      all_states_on own made (and_statement first rest) all on = all_states_on own (with_states functions own made first) rest (states_on own made first all on.0) on.1

  -- ---- functions

  functions_on : (limits : Limits) (before : Functions) (functions : List FunctionTree) → AllByRecursion (EveryOf (IsOnLine On)) functions → IfOn (functions_over limits before functions)
  functions_on limits before [] on = tt
  functions_on limits before (function ∷ functions) on =
      lesser_on (graph_over limits before.counts (states_of before.parameters function)) (functions_over limits (with_function before function) functions)
      (graph_on limits before.counts (states_of before.parameters function) (all_states_on before.parameters (own_of function) [] function.body tt on.0.1))
      (functions_on limits (with_function before function) functions on.1)

  pub nodes_over_on : (limits : Limits) (program : ProgramTree) → Everywhere (IsOnLine On) program → IfOn (nodes_over limits program)
  nodes_over_on limits program on = functions_on limits _ program.functions on
