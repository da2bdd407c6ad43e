-- The graphs that a program calls are in its graph, and so are their containers.
use Rattle.std.proofs.Common.{◌≡◌, ℕ, zero, suc, ◌+◌, ℤ, List, [], ◌∷◌, ◌++◌, length, Bool, true, false, cond, refl, subst}
use Rattle.sd_lex.specs.PlainTree.{StatementTree, argument_array, local_array, local_stream, assign, copy, reduce, map_scope, tasklet, consume_scope, call, for_loop, while_loop, branch, input, output, set, set_at, tasklet_branch, Block, no_statement, and_statement}
use Rattle.sd_lex.specs.StatementKind.{has_connector}
use Rattle.sd_graph.specs.PlainTree as plain
use Rattle.sd_graph.specs.PlainTree.{ItemTrees, KindTree, StateTrees, no_state, and_state, GraphTree}
use Rattle.sd_graph.specs.TreeParts.{items_at}
use Rattle.sd_program.specs.Names.{Name}
use Rattle.sd_program.specs.Declared.{containers_in, containers_in_all}
use Rattle.sd_program.specs.Place.{program, scope, task, Place, past, past_all, in_map, in_tasklet, in_loop, in_consume, EveryAt, EveryFrom}
use Rattle.sd_program.specs.Known.{StandsIn, StandsInScope, StandsInProgram, IsPlaced}
use Rattle.sd_task.specs.task.Table.{Table, with_container, with_variables}
use Rattle.sd_elab.specs.items.Counts.{variables_in, variables_in_all}
use Rattle.sd_elab.specs.items.NamesBehind.{table_behind, table_behind_state, table_behind_all}
use Rattle.sd_elab.specs.items.Items.{items_with, items_of_body}
use Rattle.sd_elab.specs.items.Scopes.{taking_task}
use Rattle.sd_graph.specs.ContainerParts.{Containers}
use Rattle.sd_valid.specs.Limits.{kind_containers, items_containers, states_containers}
use Rattle.sd_made.proofs.elab_lemmas.ContainersMade.{holds_here, stands_in_task}
use Rattle.sd_tie.specs.items.Called.{IsCallSized}
use Rattle.sd_tie.specs.states.Made.{IsMade, AreMade, IsOtherMade}
use Rattle.sd_tie.specs.items.Extents.{HasExtents, HaveExtents}
use Rattle.sd_tie.proofs.programs_lemmas.Lists.{all_first, all_second}

module _ (sizes : List ℤ) (graphs : Name → GraphTree) where
  abbrev pub Sized : Place → StatementTree → Type 0
  Sized place statement = IsCallSized sizes graphs statement

  abbrev pub ItemsSized : ItemTrees → Type 0
  ItemsSized items = HaveExtents sizes (items_containers items)

  -- the containers in the first item, and the items behind it
  abbrev first_of : ItemTrees → Containers
  first_of plain.no_item = []
  first_of (plain.and_item line kind rest) = kind_containers kind

  abbrev rest_of : ItemTrees → ItemTrees
  rest_of plain.no_item = plain.no_item
  rest_of (plain.and_item line kind rest) = rest

  rest_sized : (items : ItemTrees) → ItemsSized items → ItemsSized (rest_of items)
  rest_sized plain.no_item sized = tt
  rest_sized (plain.and_item line kind rest) sized = all_second (HasExtents sizes) (kind_containers kind) (items_containers rest) sized

  first_sized : (items : ItemTrees) → ItemsSized items → HaveExtents sizes (first_of items)
  first_sized plain.no_item sized = tt
  first_sized (plain.and_item line kind rest) sized = all_first (HasExtents sizes) (kind_containers kind) (items_containers rest) sized

  -- no line of a tasklet is a call
  mutual
    line_sized : (statement : StatementTree) (place : Place) → place.around ≡ task → EveryAt IsPlaced place statement → EveryAt Sized place statement
    line_sized (input line connector memlet) place around placed = tt
    line_sized (output line connector memlet) place around placed = tt
    line_sized (set line name value) place around placed = tt
    line_sized (set_at line name at value) place around placed = tt
    line_sized (tasklet_branch line when body other) place around placed =
        (tt, (lines_sized body place around placed.1.0, lines_sized other (past_all body place) around placed.1.1))
    line_sized statement place around placed = absurd (stands_in_task place statement around placed)

    lines_sized : (block : Block) (place : Place) → place.around ≡ task → EveryFrom IsPlaced place block → EveryFrom Sized place block
    lines_sized no_statement place around placed = tt
    lines_sized (and_statement first rest) place around placed = (line_sized first place around placed.0, lines_sized rest (past first place) around placed.1)

  mutual
    item_sized : (statement : StatementTree) (in_scope : Bool) (table : Table) (container variable : ℕ) (rest : ItemTrees) (place : Place) → StandsInScope statement → EveryAt IsPlaced place statement →
        ItemsSized (items_with graphs statement in_scope table container variable rest) → EveryAt Sized place statement × ItemsSized rest
    item_sized (local_array line name extents bits) in_scope table container variable rest place stands placed sized = (tt, sized)
    item_sized (local_stream line name bits size) in_scope table container variable rest place stands placed sized = (tt, sized)
    item_sized (assign line name at add value) in_scope table container variable rest place stands placed sized = (tt, rest_sized (items_with graphs (assign line name at add value) in_scope table container variable rest) sized)
    item_sized (copy line to to_dimensions from from_dimensions) in_scope table container variable rest place stands placed sized = (tt, rest_sized (items_with graphs (copy line to to_dimensions from from_dimensions) in_scope table container variable rest) sized)
    item_sized (reduce line lambda from to axis identity) in_scope table container variable rest place stands placed sized = (tt, rest_sized (items_with graphs (reduce line lambda from to axis identity) in_scope table container variable rest) sized)
    item_sized (map_scope line parameters ranges body) in_scope table container variable rest place stands placed sized =
        ((tt, body_sized body (with_variables parameters variable table) container (variable + length parameters) (in_map place) refl placed.1 (first_sized (items_with graphs (map_scope line parameters ranges body) in_scope table container variable rest) sized)), rest_sized (items_with graphs (map_scope line parameters ranges body) in_scope table container variable rest) sized)
    item_sized (tasklet line body) in_scope table container variable rest place stands placed sized = ((tt, lines_sized body (in_tasklet place) refl placed.1), rest_sized (items_with graphs (tasklet line body) in_scope table container variable rest) sized)
    item_sized (consume_scope line stream size name element worker body) in_scope table container variable rest place stands placed sized =
        ((tt, consumed (has_connector body) (plain.and_item line (taking_task table element container body) plain.no_item) (first_sized (items_with graphs (consume_scope line stream size name element worker body) in_scope table container variable rest) sized) placed.1 (body_sized body (with_container element container table) (container + 1) variable (in_consume false element place) refl)), rest_sized (items_with graphs (consume_scope line stream size name element worker body) in_scope table container variable rest) sized)
      where
        consumed : (is_task : Bool) (one : ItemTrees) → ItemsSized (cond is_task one (items_of_body graphs body (with_container element container table) (container + 1) variable)) → EveryFrom IsPlaced (in_consume is_task element place) body →
            (EveryFrom IsPlaced (in_consume false element place) body → ItemsSized (items_of_body graphs body (with_container element container table) (container + 1) variable) → EveryFrom Sized (in_consume false element place) body) →
            EveryFrom Sized (in_consume is_task element place) body
        consumed true one sized placed of_body = lines_sized body (in_consume true element place) refl placed
        consumed false one sized placed of_body = of_body placed sized
    item_sized (call line name arguments) in_scope table container variable rest place stands placed sized = (first_sized (items_with graphs (call line name arguments) in_scope table container variable rest) sized, rest_sized (items_with graphs (call line name arguments) in_scope table container variable rest) sized)
    item_sized statement in_scope table container variable rest place stands placed sized = absurd stands

    body_sized : (body : Block) (table : Table) (container variable : ℕ) (place : Place) → place.around ≡ scope → EveryFrom IsPlaced place body → ItemsSized (items_of_body graphs body table container variable) →
        EveryFrom Sized place body
    body_sized no_statement table container variable place around placed sized = tt
    body_sized (and_statement first rest) table container variable place around placed sized =
        let made = item_sized first true table container variable (items_of_body graphs rest (table_behind first container table) (container + containers_in first) (variable + variables_in first)) place
        (subst (λ kind. StandsIn kind first) around (holds_here IsPlaced place first placed.0)) placed.0 sized in
        (made.0, body_sized rest (table_behind first container table) (container + containers_in first) (variable + variables_in first) (past first place) around placed.1 made.1)

  -- ---- states

  here_sized : (states : StateTrees) (number : ℕ) → HaveExtents sizes (states_containers states) → ItemsSized (items_at states number)
  here_sized no_state number sized = tt
  here_sized (and_state items exits states) zero sized = all_first (HasExtents sizes) (items_containers items) (states_containers states) sized
  here_sized (and_state items exits states) (suc number) sized = here_sized states number (all_second (HasExtents sizes) (items_containers items) (states_containers states) sized)

  module _ (states : StateTrees) (shows : ℕ → List ℕ) (sized : HaveExtents sizes (states_containers states)) where
    -- a statement that is an item of a state
    plain_sized : (statement : StatementTree) (table : Table) (container variable to : ℕ) (place : Place) → StandsInScope statement → EveryAt IsPlaced place statement →
        items_at states to ≡ items_with graphs statement false table container variable plain.no_item → EveryAt Sized place statement
    plain_sized statement table container variable to place stands placed e =
        (item_sized statement false table container variable plain.no_item place stands placed (subst ItemsSized e (here_sized states to sized))).0

    stands_in_program : (place : Place) (statement : StatementTree) → place.around ≡ program → EveryAt IsPlaced place statement → StandsInProgram statement
    stands_in_program place statement around placed = subst (λ kind. StandsIn kind statement) around (holds_here IsPlaced place statement placed)

    mutual
      made_sized : (statement : StatementTree) (table : Table) (container variable : ℕ) (loops : List ℕ) (from to : ℕ) (place : Place) → place.around ≡ program → EveryAt IsPlaced place statement →
          IsMade graphs states shows statement table container variable loops from to → EveryAt Sized place statement
      made_sized (argument_array line name bits extents) table container variable loops from to place around placed made = tt
      made_sized (local_array line name extents bits) table container variable loops from to place around placed made = tt
      made_sized (local_stream line name bits size) table container variable loops from to place around placed made = tt
      made_sized (branch line when body other) table container variable loops from to place around placed made = (
        tt,
        (
          block_sized body table container variable loops made.0 made.1 place around placed.1.0 made.6,
          other_sized other (table_behind_all body container table) (container + containers_in_all body) (variable + variables_in_all body) loops made.2 made.3 to (past_all body place) around placed.1.1 made.9,
        ),
      )
      made_sized (while_loop line when body) table container variable loops from to place around placed made = (tt, block_sized body table container variable loops made.1 made.2 (in_loop place) around placed.1 made.7)
      made_sized (for_loop line name begin end step body) table container variable loops from to place around placed made =
          (tt, block_sized body (with_variables (name ∷ []) variable table) container (variable + 1) (loops ++ variable ∷ []) made.1 made.2 (in_loop place) around placed.1 made.7)
      made_sized statement table container variable loops from to place around placed made =
          plain_sized statement table container variable to place (stands_in_program place statement around placed) placed made.1

      pub block_sized : (block : Block) (table : Table) (container variable : ℕ) (loops : List ℕ) (from to : ℕ) (place : Place) → place.around ≡ program → EveryFrom IsPlaced place block →
          AreMade graphs states shows block table container variable loops from to → EveryFrom Sized place block
      block_sized no_statement table container variable loops from to place around placed made = tt
      block_sized (and_statement first rest) table container variable loops from to place around placed made = (
        made_sized first table container variable loops from made.0 place around placed.0 made.1,
        block_sized rest (table_behind_state first container table) (container + containers_in first) (variable + variables_in first) loops made.0 to (past first place) around placed.1 made.2,
      )

      other_sized : (other : Block) (table : Table) (container variable : ℕ) (loops : List ℕ) (from end to : ℕ) (place : Place) → place.around ≡ program → EveryFrom IsPlaced place other →
          IsOtherMade graphs states shows other table container variable loops from end to → EveryFrom Sized place other
      other_sized no_statement table container variable loops from end to place around placed made = tt
      other_sized (and_statement first rest) table container variable loops from end to place around placed made = (
        made_sized first table container variable loops from made.0 place around placed.0 made.1,
        block_sized rest (table_behind_state first container table) (container + containers_in first) (variable + variables_in first) loops made.0 end (past first place) around placed.1 made.2,
      )
