-- The plain tree of a source: every field of the code's types, with lists in the place of each Vec and Box and bytes in the place of each String.
use Rattle.std.specs.Prelude.{ℕ, ℤ, Bool, List, Option}
use Rattle.sd_lex.specs.declared.syntax.memlet.Lambda.{Lambda}
use Rattle.sd_lex.specs.declared.syntax.operator.OneSign.{OneSign}
use Rattle.sd_lex.specs.declared.syntax.operator.TwoSign.{TwoSign}

mutual
  -- an expression
  pub data Expression : Type 0 where
    number : ℤ → Expression
    named : (name : List ℕ) → Expression
    element_at : (name : List ℕ) → (at : Expressions) → Expression
    one : OneSign → (of : Expression) → Expression
    two : TwoSign → (left : Expression) → (right : Expression) → Expression
    choice : (value : Expression) → (when : Expression) → (other : Expression) → Expression

  -- expressions in the order of the text
  pub data Expressions : Type 0 where
    no_expression : Expressions
    and_expression : Expression → Expressions → Expressions

-- one dimension of a subset, or one range of a map
pub data Dimension : Type 0 where
  index : Expression → Dimension
  span : (begin : Option Expression) → (end : Option Expression) → (step : Option ℤ) → Dimension

-- what a connector moves
pub record Memlet : Type 0 where
  pub name : List ℕ
  pub volume : Option ℤ
  pub lambda : Option Lambda
  pub dimensions : List Dimension

mutual
  -- a statement with the blocks below it
  pub data StatementTree : Type 0 where
    argument_array : (line : ℕ) → (name : List ℕ) → (bits : ℕ) → (extents : Expressions) → StatementTree
    local_array : (line : ℕ) → (name : List ℕ) → (extents : Expressions) → (bits : ℕ) → StatementTree
    local_stream : (line : ℕ) → (name : List ℕ) → (bits : ℕ) → (size : Option ℤ) → StatementTree
    assign : (line : ℕ) → (name : List ℕ) → (at : Expressions) → (add : Bool) → (value : Expression) → StatementTree
    copy : (line : ℕ) → (to : List ℕ) → (to_dimensions : List Dimension) → (from : List ℕ) → (from_dimensions : List Dimension) → StatementTree
    reduce : (line : ℕ) → Lambda → (from : List ℕ) → (to : List ℕ) → (axis : Option ℤ) → (identity : Option ℤ) → StatementTree
    map_scope : (line : ℕ) → (parameters : List (List ℕ)) → (ranges : List Dimension) → (body : Block) → StatementTree
    tasklet : (line : ℕ) → (body : Block) → StatementTree
    consume_scope : (line : ℕ) → (stream : List ℕ) → (size : ℤ) → (name : List ℕ) → (element : List ℕ) → (worker : Option (List ℕ)) → (body : Block) → StatementTree
    call : (line : ℕ) → (name : List ℕ) → (arguments : List (List ℕ × List Dimension)) → StatementTree
    for_loop : (line : ℕ) → (name : List ℕ) → (begin : Option Expression) → (end : Expression) → (step : Option ℤ) → (body : Block) → StatementTree
    while_loop : (line : ℕ) → (when : Expression) → (body : Block) → StatementTree
    branch : (line : ℕ) → (when : Expression) → (body : Block) → (other : Block) → StatementTree
    input : (line : ℕ) → (connector : List ℕ) → Memlet → StatementTree
    output : (line : ℕ) → (connector : List ℕ) → Memlet → StatementTree
    set : (line : ℕ) → (name : List ℕ) → (value : Expression) → StatementTree
    set_at : (line : ℕ) → (name : List ℕ) → (at : Expressions) → (value : Expression) → StatementTree
    tasklet_branch : (line : ℕ) → (when : Expression) → (body : Block) → (other : Block) → StatementTree

  -- statements in the order of the text
  pub data Block : Type 0 where
    no_statement : Block
    and_statement : StatementTree → Block → Block

-- a function of a source
pub record FunctionTree : Type 0 where
  pub name : List ℕ
  pub line : ℕ
  pub arguments : Block
  pub body : Block

-- a source: its size symbols and its functions
pub record ProgramTree : Type 0 where
  pub symbols : List (List ℕ)
  pub functions : List FunctionTree
