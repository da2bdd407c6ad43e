-- Where the states of statements stand among the states of a graph.
use Rattle.std.specs.Prelude.{◌≡◌, ℕ, ◌+◌, List, [], ◌∷◌, ◌++◌, false}
use Rattle.sd_lex.specs.PlainTree.{StatementTree, argument_array, local_array, local_stream, for_loop, while_loop, branch, Block, no_statement, and_statement}
use Rattle.sd_range.specs.Arithmetic.{affine_zero}
use Rattle.sd_graph.specs.PlainTree.{StateTrees, GraphTree, no_item}
use Rattle.sd_graph.specs.TreeParts.{items_at, exits_at}
use Rattle.sd_program.specs.Names.{Name}
use Rattle.sd_program.specs.Declared.{containers_in, containers_in_all}
use Rattle.sd_task.specs.in_force.Ranges.{affine_or}
use Rattle.sd_task.specs.task.Table.{Table, with_variables}
use Rattle.sd_task.specs.task.ElementCode.{guard_of, below}
use Rattle.sd_elab.specs.items.Counts.{variables_in, variables_in_all}
use Rattle.sd_elab.specs.items.NamesBehind.{table_behind_state, table_behind_all}
use Rattle.sd_elab.specs.items.Items.{items_with}
use Rattle.sd_elab.specs.states.Exits.{plainly, setting, if_holds, back_to, stepped_on}

-- the graphs of the programs above, the states of a graph, and the loop variables that show in each
module _ (graphs : Name → GraphTree) (states : StateTrees) (shows : ℕ → List ℕ) where
  -- a state without items, in which these loop variables show
  abbrev pub IsIdle : (state : ℕ) → (loops : List ℕ) → Type 0
  IsIdle state loops = (items_at states state ≡ no_item) × (shows state ≡ loops)

  abbrev mutual
    -- the states that a statement makes, from the end of one to the end of the other: where these loop variables show, and the next container and variable have these numbers
    pub IsMade : StatementTree → Table → (container variable : ℕ) → (loops : List ℕ) → (from to : ℕ) → Type 0
    IsMade (argument_array line name bits extents) table container variable loops from to = from ≡ to
    IsMade (local_array line name extents bits) table container variable loops from to = from ≡ to
    IsMade (local_stream line name bits size) table container variable loops from to = from ≡ to
    IsMade (branch line when body other) table container variable loops from to =
        (first : ℕ) × (last : ℕ) × (second : ℕ) × (end : ℕ)
        × (exits_at states from ≡ if_holds (guard_of table line when) first ∷ plainly second ∷ []) × IsIdle first loops × AreMade body table container variable loops first last
        × (exits_at states last ≡ plainly to ∷ []) × IsIdle second loops
        × IsOtherMade other (table_behind_all body container table) (container + containers_in_all body) (variable + variables_in_all body) loops second end to × IsIdle to loops
    IsMade (while_loop line when body) table container variable loops from to =
        (begin : ℕ) × (first : ℕ) × (end : ℕ)
        × (exits_at states from ≡ plainly begin ∷ []) × IsIdle begin loops × (exits_at states begin ≡ if_holds (guard_of table line when) first ∷ plainly to ∷ [])
        × IsIdle first loops × AreMade body table container variable loops first end × (exits_at states end ≡ back_to begin [] ∷ []) × IsIdle to loops
    IsMade (for_loop line name bounds end_at step body) table container variable loops from to =
        (begin : ℕ) × (first : ℕ) × (end : ℕ)
        × (exits_at states from ≡ setting begin variable (affine_or affine_zero table.variables bounds) ∷ []) × IsIdle begin (loops ++ variable ∷ [])
        × (exits_at states begin ≡ if_holds (below (with_variables (name ∷ []) variable table) line name end_at) first ∷ plainly to ∷ [])
        × IsIdle first (loops ++ variable ∷ []) × AreMade body (with_variables (name ∷ []) variable table) container (variable + 1) (loops ++ variable ∷ []) first end
        × (exits_at states end ≡ back_to begin ((variable, stepped_on variable step) ∷ []) ∷ []) × IsIdle to loops
    IsMade statement table container variable loops from to =
        (exits_at states from ≡ plainly to ∷ []) × (items_at states to ≡ items_with graphs statement false table container variable no_item) × (shows to ≡ loops)

    -- so for a block
    pub AreMade : Block → Table → (container variable : ℕ) → (loops : List ℕ) → (from to : ℕ) → Type 0
    AreMade no_statement table container variable loops from to = from ≡ to
    AreMade (and_statement first rest) table container variable loops from to =
        (middle : ℕ) × IsMade first table container variable loops from middle
        × AreMade rest (table_behind_state first container table) (container + containers_in first) (variable + variables_in first) loops middle to

    -- an `else` has a state of its own at its begin, and leads to the state behind both; where none is written, its begin is that state
    pub IsOtherMade : Block → Table → (container variable : ℕ) → (loops : List ℕ) → (from end to : ℕ) → Type 0
    IsOtherMade no_statement table container variable loops from end to = from ≡ to
    IsOtherMade (and_statement first rest) table container variable loops from end to =
        (middle : ℕ) × IsMade first table container variable loops from middle
        × AreMade rest (table_behind_state first container table) (container + containers_in first) (variable + variables_in first) loops middle end
        × (exits_at states end ≡ plainly to ∷ [])
