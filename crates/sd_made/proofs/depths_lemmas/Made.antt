-- What an item or a condition of the graph of a program is made of, and how deep it stands.
use Rattle.std.proofs.Common.{◌≡◌, ◌⊎◌, inl, inr, ℕ, ◌+◌, ◌≤◌, ℤ, List, [], Option, Some, None, Bool, true, arith}
use Rattle.sd_lex.specs.PlainTree.{Expression, StatementTree, consume_scope, for_loop, while_loop, branch, Block}
use Rattle.sd_lex.specs.StatementKind.{has_connector}
use Rattle.sd_graph.specs.PlainTree.{KindTree, GraphTree, ExitTree}
use Rattle.sd_program.specs.Names.{Name}
use Rattle.sd_program.specs.Place.{Place, in_consume, EveryAt, EveryFrom}
use Rattle.sd_task.specs.task.Table.{Table}
use Rattle.sd_task.specs.task.ElementCode.{guard_of, below}
use Rattle.sd_elab.specs.items.Kinds.{kind_of}
use Rattle.sd_elab.specs.items.Scopes.{taking_task}
use Rattle.sd_elab.specs.states.Exits.{if_holds}
use Rattle.sd_validity.specs.rules.Places.{Scopes}
use Rattle.sd_made.proofs.places_lemmas.Made.{IsAround}

-- where something is given of each statement in its place
module _ (Given : Place → StatementTree → Type 0) where
  -- an item is that of a statement; the scopes about it and so many loops are no more than what is about the statement
  pub record IsOfStatement (loops : ℕ) (scopes : Scopes) (kind : KindTree) : Type 0 where
    pub place : Place
    pub statement : StatementTree
    pub in_scope : Bool
    pub table : Table
    pub container : ℕ
    pub variable : ℕ
    pub graphs : Name → GraphTree
    pub around : IsAround in_scope place.around
    pub given : EveryAt Given place statement
    pub deep : scopes.count + loops ≤ place.depth
    pub made : kind_of graphs statement in_scope table container variable ≡ Some kind

  -- or it is the tasklet of a consume scope, which stands here
  pub record IsTaking (loops : ℕ) (scopes : Scopes) (kind : KindTree) : Type 0 where
    pub place : Place
    pub line : ℕ
    pub stream : Name
    pub size : ℤ
    pub name : Name
    pub element : Name
    pub worker : Option Name
    pub body : Block
    pub table : Table
    pub container : ℕ
    pub scope : Given place (consume_scope line stream size name element worker body)
    pub connects : has_connector body ≡ true
    pub given : EveryFrom Given (in_consume true element place) body
    pub deep : scopes.count + loops ≤ place.depth + 1
    pub made : kind ≡ taking_task table element container body

  abbrev pub IsItem : (loops : ℕ) → Scopes → KindTree → Type 0
  IsItem loops scopes kind = IsOfStatement loops scopes kind ⊎ IsTaking loops scopes kind

  -- with fewer loops
  pub fewer_loops : (less more : ℕ) → less ≤ more → (scopes : Scopes) (kind : KindTree) → IsItem more scopes kind → IsItem less scopes kind
  fewer_loops less more few scopes kind (inl is) = inl (record {
    place = is.place;
    statement = is.statement;
    in_scope = is.in_scope;
    table = is.table;
    container = is.container;
    variable = is.variable;
    graphs = is.graphs;
    around = is.around;
    given = is.given;
    deep = omega (arith, few, is.deep);
    made = is.made;
  })
  fewer_loops less more few scopes kind (inr is) = inr (record {
    place = is.place;
    line = is.line;
    stream = is.stream;
    size = is.size;
    name = is.name;
    element = is.element;
    worker = is.worker;
    body = is.body;
    table = is.table;
    container = is.container;
    scope = is.scope;
    connects = is.connects;
    given = is.given;
    deep = omega (arith, few, is.deep);
    made = is.made;
  })

  -- the condition of a loop or a branch
  abbrev pub IsAsked : StatementTree → (line : ℕ) → (when : Expression) → Type 0
  IsAsked (while_loop line when body) line' when' = (line ≡ line') × (when ≡ when')
  IsAsked (branch line when body other) line' when' = (line ≡ line') × (when ≡ when')
  IsAsked statement line when = ⊥

  pub record IsCondition (exit : ExitTree) : Type 0 where
    pub place : Place
    pub statement : StatementTree
    pub table : Table
    pub line : ℕ
    pub when : Expression
    pub to : ℕ
    pub given : EveryAt Given place statement
    pub asked : IsAsked statement line when
    pub made : exit ≡ if_holds (guard_of table line when) to

  -- the condition of a `for` loop
  pub record IsGoing (exit : ExitTree) : Type 0 where
    pub place : Place
    pub line : ℕ
    pub name : Name
    pub begin : Option Expression
    pub end : Expression
    pub step : Option ℤ
    pub body : Block
    pub table : Table
    pub to : ℕ
    pub given : EveryAt Given place (for_loop line name begin end step body)
    pub made : exit ≡ if_holds (below table line name end) to

  -- a transition with one of these conditions, or with none; where these variables are given their begins there is none of a branch or a `while` loop
  abbrev pub IsExit : (begun : List ℕ) → ExitTree → Type 0
  IsExit begun exit = (exit.when ≡ None) ⊎ ((IsCondition exit × (begun ≡ [])) ⊎ IsGoing exit)
