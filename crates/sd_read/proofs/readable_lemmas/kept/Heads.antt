-- Which heads a line may have in each kind of block.
use Rattle.std.specs.List.{AllByRecursion}
use Rattle.sd_program.specs.Bounds.{EachExpression, IfWritten, EachEnd}
use Rattle.sd_program.specs.Place.{length_of}
use Rattle.std.proofs.Common.{◌≡◌, ◌≤◌, pos, length, ℕ, ℤ, List, [], ◌∷◌, Bool, true, false, Option, Some, None}
use Rattle.std.specs.Bool.{⊤}
use Rattle.sd_lex.specs.PlainTree.{Expressions, Dimension, index, span, StatementTree, argument_array, local_array, local_stream, assign, copy, map_scope, tasklet, call, for_loop, while_loop, branch, set, set_at, tasklet_branch, Block, no_statement, and_statement}
use Rattle.sd_line.specs.declared.line.head.BlockKind.{BlockKind}
use Rattle.sd_line.specs.declared.line.head.BlockKind.TheVariants.{Top, Program, Scope, Tasklet}
use Rattle.sd_line.specs.line.ElementLine.{levels_of_sum}
use Rattle.sd_line.specs.line.Head.{HeadTree, import_line, symbol_line, program_decorator, program_head, statement_head, reduce_head, input_head, output_head, consume_decorator, consume_head, elif_head, else_head}
use Rattle.sd_read.specs.readable.Levels.{IsShallowCode, IsShallow}
use Rattle.sd_context.specs.context.Context.{Opener, file, function, statement, consumer, if_block, else_block, OpenBlock}

-- a step that is at least 1
abbrev pub IsFromOne : Option ℤ → Type 0
IsFromOne None = ⊤
IsFromOne (Some step) = (n : ℕ) × ((step ≡ pos n) × (1 ≤ n))

abbrev pub GoesForward : Dimension → Type 0
GoesForward (index at) = ⊤
GoesForward (span begin end step) = IsFromOne step

-- with bounds of few levels
abbrev pub GoesOn : Dimension → Type 0
GoesOn dimension = GoesForward dimension × EachEnd (IsShallow 64) dimension

-- how deep the value of an element statement may be
abbrev pub levels_of_value : BlockKind → (add : Bool) → ℕ
levels_of_value kind true = levels_of_sum kind
levels_of_value kind false = 64

-- the statements of a body
abbrev pub IsBodyStatement : BlockKind → StatementTree → Type 0
IsBodyStatement kind (local_array line name extents bits) = (1 ≤ length_of extents) × EachExpression (IsShallow 64) extents
IsBodyStatement kind (local_stream line name bits size) = ⊤
IsBodyStatement kind (assign line name at add value) = (1 ≤ length_of at) × (EachExpression (IsShallow 64) at × IsShallow (levels_of_value kind add) value)
IsBodyStatement kind (copy line to to_dimensions from from_dimensions) = AllByRecursion GoesOn to_dimensions × AllByRecursion GoesOn from_dimensions
IsBodyStatement kind (map_scope line parameters ranges body) = (1 ≤ length parameters) × ((length parameters ≡ length ranges) × AllByRecursion GoesOn ranges)
IsBodyStatement kind (tasklet line body) = ⊤
IsBodyStatement kind (call line name arguments) = AllByRecursion (λ argument. AllByRecursion GoesOn argument.1) arguments
IsBodyStatement kind (for_loop line name begin end step body) = IsFromOne step × (IfWritten (IsShallow 64) begin × IsShallow 63 end)
IsBodyStatement kind (while_loop line when body) = IsShallow 64 when
IsBodyStatement kind (branch line when body other) = IsShallow 64 when
IsBodyStatement kind other = ⊥

-- the statements of a tasklet
abbrev pub IsTaskletStatement : StatementTree → Type 0
IsTaskletStatement (set line name value) = IsShallowCode value
IsTaskletStatement (set_at line name at value) = EachExpression IsShallowCode at × IsShallowCode value
IsTaskletStatement (tasklet_branch line when body other) = IsShallowCode when
IsTaskletStatement other = ⊥

-- the extents of an argument
abbrev pub AreExtents : Expressions → Type 0
AreExtents extents = (length_of extents ≤ 4) × EachExpression (IsShallow 64) extents

-- a statement that one line says
abbrev pub IsOfLine : StatementTree → Type 0
IsOfLine (argument_array line name bits extents) = AreExtents extents
IsOfLine (set line name value) = IsShallowCode value
IsOfLine (set_at line name at value) = EachExpression IsShallowCode at × IsShallowCode value
IsOfLine (tasklet_branch line when body other) = IsShallowCode when
IsOfLine (assign line name at add value) = 1 ≤ length_of at
IsOfLine s = IsBodyStatement Program s

-- an argument of a program
abbrev pub IsArgument : StatementTree → Type 0
IsArgument s = (line : ℕ) × (name : List ℕ) × (bits : ℕ) × (extents : Expressions) × (AreExtents extents × (s ≡ argument_array line name bits extents))

-- the arguments of a program
abbrev pub AreArguments : Block → Type 0
AreArguments no_statement = ⊤
AreArguments (and_statement first rest) = IsArgument first × AreArguments rest

abbrev pub FitsTop : HeadTree → Type 0
FitsTop import_line = ⊤
FitsTop (symbol_line name quoted) = ⊤
FitsTop program_decorator = ⊤
FitsTop (program_head name arguments) = AreArguments arguments
FitsTop other = ⊥

abbrev pub FitsBody : BlockKind → HeadTree → Type 0
FitsBody kind (statement_head s) = IsBodyStatement kind s
FitsBody kind (reduce_head lambda from to axis identity) = ⊤
FitsBody kind (consume_decorator from size) = ⊤
FitsBody kind (consume_head name element worker) = ⊤
FitsBody kind (elif_head when) = IsShallow 64 when
FitsBody kind else_head = ⊤
FitsBody kind other = ⊥

abbrev pub FitsTasklet : HeadTree → Type 0
FitsTasklet (statement_head s) = IsTaskletStatement s
FitsTasklet (input_head connector memlet) = AllByRecursion GoesOn memlet.dimensions
FitsTasklet (output_head connector memlet) = AllByRecursion GoesOn memlet.dimensions
FitsTasklet (elif_head when) = IsShallowCode when
FitsTasklet else_head = ⊤
FitsTasklet other = ⊥

-- what a line may say in a kind of block
abbrev pub Fits : BlockKind → HeadTree → Type 0
Fits Top head = FitsTop head
Fits Program head = FitsBody Program head
Fits Scope head = FitsBody Scope head
Fits Tasklet head = FitsTasklet head

-- the kind of the block that a statement opens
abbrev pub Opens : BlockKind → StatementTree → Type 0
Opens kind (map_scope line parameters ranges body) = kind ≡ Scope
Opens kind (tasklet line body) = kind ≡ Tasklet
Opens kind (for_loop line name begin end step body) = kind ≡ Program
Opens kind (while_loop line when body) = kind ≡ Program
Opens kind other = ⊥

-- a block that is not the file
abbrev pub IsInner : BlockKind → Type 0
IsInner Top = ⊥
IsInner Program = ⊤
IsInner Scope = ⊤
IsInner Tasklet = ⊤

-- a block of a body
abbrev pub IsBody : BlockKind → Type 0
IsBody Top = ⊥
IsBody Program = ⊤
IsBody Scope = ⊤
IsBody Tasklet = ⊥

-- a block in which an `if` may stand
abbrev pub IsIf : BlockKind → Type 0
IsIf Top = ⊥
IsIf Program = ⊤
IsIf Scope = ⊥
IsIf Tasklet = ⊤

pub if_inner : (kind : BlockKind) → IsIf kind → IsInner kind
if_inner Top is = absurd is
if_inner Program is = tt
if_inner Scope is = absurd is
if_inner Tasklet is = tt

-- a block of this kind and opener stands in one of the kind about it
abbrev pub IsOpenedIn : (about kind : BlockKind) → Opener → Type 0
IsOpenedIn about kind file = ⊥
IsOpenedIn about kind (function name) = (about ≡ Top) × (kind ≡ Program)
IsOpenedIn about kind (statement s) = IsBody about × Opens kind s
IsOpenedIn about kind (consumer line from size name element worker) = IsBody about × IsInner kind
IsOpenedIn about kind (if_block earlier when) = IsIf about × (kind ≡ about)
IsOpenedIn about kind (else_block earlier) = IsIf about × (kind ≡ about)

abbrev pub IsFile : Opener → Type 0
IsFile file = ⊤
IsFile other = ⊥

-- so do the blocks about it, and the outermost is the file
abbrev pub AreNested : OpenBlock → List OpenBlock → Type 0
AreNested block [] = (block.kind ≡ Top) × IsFile block.opener
AreNested block (about ∷ outer) = IsOpenedIn about.kind block.kind block.opener × AreNested about outer
