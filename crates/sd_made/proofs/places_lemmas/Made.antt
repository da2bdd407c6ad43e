-- What stands at a place of the graph of a program is what a statement makes where it stands.
use Rattle.std.proofs.Common.{◌≡◌, ◌⊎◌, ℕ, ◌+◌, ◌<◌, ◌≤◌, ℤ, pos, List, [], ◌∷◌, length, Option, Some, Bool, true, false}
use Rattle.sd_num.specs.declared.width.Width.TheVariants.{W64}
use Rattle.sd_lex.specs.PlainTree.{Expression, StatementTree, for_loop, while_loop, branch, Block, FunctionTree}
use Rattle.sd_range.specs.Arithmetic.{affine_zero}
use Rattle.sd_graph.specs.PlainTree.{KindTree, GraphTree, ExitTree}
use Rattle.sd_graph.specs.TreeParts.{containers_of}
use Rattle.sd_graph.specs.ContainerParts.{Containers, container_at}
use Rattle.sd_graph.specs.Wiring.{has_number}
use Rattle.sd_graph.specs.declared.container.ContainerKind.TheVariants.{Private}
use Rattle.sd_program.specs.Names.{Name, Named}
use Rattle.sd_program.specs.Affines.{affine_number}
use Rattle.sd_program.specs.Place.{Around, program, scope, Place, in_consume, EveryAt, EveryFrom}
use Rattle.sd_program.specs.Known.{IsPlaced, IsKnown}
use Rattle.sd_program.specs.Bounds.{EachBound}
use Rattle.sd_program.specs.IsAffine.{IsAffine}
use Rattle.sd_program.specs.Limits.{HasFewParameters}
use Rattle.sd_task.specs.in_force.Ranges.{affine_or}
use Rattle.sd_task.specs.task.Table.{Table}
use Rattle.sd_task.specs.task.ElementCode.{guard_of, below}
use Rattle.sd_elab.specs.items.Counts.{variables_in}
use Rattle.sd_elab.specs.items.Graphs.{no_graph}
use Rattle.sd_elab.specs.items.Kinds.{kind_of}
use Rattle.sd_elab.specs.items.Scopes.{taking_task}
use Rattle.sd_task.specs.containers.Declarations.{containers_with}
use Rattle.sd_elab.specs.states.Exits.{plainly, setting, if_holds, back_to, stepped_on}
use Rattle.sd_elab.specs.elab.Elaboration.{function_graph}
use Rattle.sd_made.proofs.elab_lemmas.ContainersMade.{Begins}
use Rattle.sd_validity.specs.rules.GraphParts.{variables_of, symbols_in}
use Rattle.sd_validity.specs.rules.Places.{Scopes, no_scopes, loops_at}
use Rattle.sd_made.proofs.places_lemmas.Held.{AreHeld, AreVariables}

-- what is in force where a statement stands: the containers and variables of its table, with these scopes and loops about it
pub record Stands (tree : GraphTree) (scopes : Scopes) (loops : List ℕ) (place : Place) (table : Table) : Type 0 where
  pub containers : AreHeld (containers_of tree) scopes.private place.containers table.containers
  pub variables : AreVariables tree scopes.params loops table.variables
  pub all : table.all ≡ containers_of tree

-- the statement stands in a scope, or in a program
abbrev pub IsAround : (in_scope : Bool) → Around → Type 0
IsAround true around = around ≡ scope
IsAround false around = around ≡ program

-- what is asked of each statement in its place for its item to be told
pub record Fitting (place : Place) (statement : StatementTree) : Type 0 where
  pub placed : IsPlaced place statement
  pub known : IsKnown place statement
  pub parameters : HasFewParameters statement
  pub affine : EachBound IsAffine statement

-- where something is given of each statement in its place, and of each program
module _ (Given : Place → StatementTree → Type 0) (Is : List Name → FunctionTree → Type 0) where
  -- the graph of a program, or none
  pub record IsFunction (tree : GraphTree) : Type 0 where
    pub symbols : List Name
    pub graphs : Name → GraphTree
    pub function : FunctionTree
    pub made : tree ≡ function_graph symbols graphs function
    pub is : Is symbols function

  abbrev pub IsWhole : GraphTree → Type 0
  IsWhole tree = (tree ≡ no_graph) ⊎ IsFunction tree

  -- an item is that of a statement
  pub record IsOfStatement (tree : GraphTree) (state : ℕ) (scopes : Scopes) (kind : KindTree) : Type 0 where
    pub place : Place
    pub statement : StatementTree
    pub in_scope : Bool
    pub table : Table
    pub container : ℕ
    pub variable : ℕ
    pub graphs : Name → GraphTree
    pub symbols : Named ℕ
    pub declared : List Name
    pub before : Containers
    pub around : IsAround in_scope place.around
    pub stands : Stands tree scopes (loops_at tree state) place table
    pub given : EveryAt Given place statement
    pub first : length before ≡ container
    pub begins : Begins (containers_with symbols declared statement in_scope before) (containers_of tree)
    pub room : variable + variables_in statement ≤ length (variables_of tree)
    pub made : kind_of graphs statement in_scope table container variable ≡ Some kind

  -- or it is the tasklet of a consume scope, whose element has this number
  pub record IsTaking (tree : GraphTree) (state : ℕ) (scopes : Scopes) (kind : KindTree) : Type 0 where
    pub place : Place
    pub body : Block
    pub table : Table
    pub element : Name
    pub container : ℕ
    pub stands : Stands tree scopes (loops_at tree state) place table
    pub given : EveryFrom Given (in_consume true element place) body
    pub there : container < length (containers_of tree)
    pub private : has_number scopes.private container ≡ true
    pub held : container_at (containers_of tree) container ≡ record { extents = affine_number (pos 1) ∷ []; kind = Private; width = W64 }
    pub made : kind ≡ taking_task table element container body

  abbrev pub IsItem : GraphTree → (state : ℕ) → Scopes → KindTree → Type 0
  IsItem tree state scopes kind = IsOfStatement tree state scopes kind ⊎ IsTaking tree state scopes kind

  -- the condition of a loop or a branch
  abbrev pub IsAsked : StatementTree → (line : ℕ) → (when : Expression) → Type 0
  IsAsked (while_loop line when body) line' when' = (line ≡ line') × (when ≡ when')
  IsAsked (branch line when body other) line' when' = (line ≡ line') × (when ≡ when')
  IsAsked statement line when = ⊥

  -- a transition with such a condition
  pub record IsCondition (tree : GraphTree) (state : ℕ) (exit : ExitTree) : Type 0 where
    pub place : Place
    pub statement : StatementTree
    pub table : Table
    pub line : ℕ
    pub when : Expression
    pub to : ℕ
    pub stands : Stands tree no_scopes (loops_at tree state) place table
    pub given : EveryAt Given place statement
    pub asked : IsAsked statement line when
    pub made : exit ≡ if_holds (guard_of table line when) to

  -- the transitions of a `for` loop: to its begin, from there into its block, and back
  pub record IsLoop (tree : GraphTree) (state : ℕ) : Type 0 where
    pub place : Place
    pub line : ℕ
    pub name : Name
    pub begin : Option Expression
    pub end : Expression
    pub step : Option ℤ
    pub body : Block
    pub given : EveryAt Given place (for_loop line name begin end step body)

  pub record IsBegun (tree : GraphTree) (state : ℕ) (exit : ExitTree) : Type 0 where
    pub loop : IsLoop tree state
    pub table : Table
    pub variable : ℕ
    pub to : ℕ
    pub own : symbols_in tree ≤ variable
    pub there : variable < length (variables_of tree)
    pub stands : Stands tree no_scopes (loops_at tree state) loop.place table
    pub made : exit ≡ setting to variable (affine_or affine_zero table.variables loop.begin)

  pub record IsGoing (tree : GraphTree) (state : ℕ) (exit : ExitTree) : Type 0 where
    pub loop : IsLoop tree state
    pub table : Table
    pub to : ℕ
    pub stands : Stands tree no_scopes (loops_at tree state) loop.place table
    pub made : exit ≡ if_holds (below table loop.line loop.name loop.end) to

  pub record IsStepped (tree : GraphTree) (state : ℕ) (exit : ExitTree) : Type 0 where
    pub loop : IsLoop tree state
    pub variable : ℕ
    pub to : ℕ
    pub own : symbols_in tree ≤ variable
    pub there : variable < length (variables_of tree)
    pub shown : has_number (loops_at tree state) variable ≡ true
    pub made : exit ≡ back_to to ((variable, stepped_on variable loop.step) ∷ [])

  -- a transition without a condition that sets no variable
  abbrev pub IsPlain : ExitTree → Type 0
  IsPlain exit = (to : ℕ) × ((exit ≡ plainly to) ⊎ (exit ≡ back_to to []))

  abbrev pub IsExit : GraphTree → (state : ℕ) → ExitTree → Type 0
  IsExit tree state exit = IsPlain exit ⊎ (IsCondition tree state exit ⊎ (IsBegun tree state exit ⊎ (IsGoing tree state exit ⊎ IsStepped tree state exit)))
