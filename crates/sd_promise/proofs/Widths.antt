-- Each declaration of a program says 64 bits.
use Rattle.std.proofs.Common.{◌≡◌, ℤ, List, [], ◌∷◌, ◌++◌, Bool, true, false, cond, refl}
use Rattle.std.specs.List.{AllByRecursion}
use Rattle.sd_lex.specs.PlainTree.{StatementTree, argument_array, local_array, local_stream, map_scope, consume_scope, for_loop, while_loop, branch, Block, no_statement, and_statement, FunctionTree}
use Rattle.sd_lex.specs.StatementKind.{has_connector}
use Rattle.sd_num.specs.declared.width.Width.TheVariants.{W64}
use Rattle.sd_program.specs.Names.{Named}
use Rattle.sd_says.specs.Declared.{Declaration, declared, declared_all, declared_of}

abbrev pub IsWide : Declaration → Type 0
IsWide declaration = declaration.width ≡ W64

both_wide : (first second : List Declaration) → AllByRecursion IsWide first → AllByRecursion IsWide second → AllByRecursion IsWide (first ++ second)
both_wide [] second wide then_wide = then_wide
both_wide (declaration ∷ first) second wide then_wide = (wide.0, both_wide first second wide.1 then_wide)

one_wide : (alone : Bool) (others : List Declaration) → AllByRecursion IsWide others → AllByRecursion IsWide (cond alone [] others)
one_wide true others wide = tt
one_wide false others wide = wide

module _ (sizes : Named ℤ) where
  mutual
    statement_wide : (statement : StatementTree) (in_scope : Bool) → AllByRecursion IsWide (declared sizes statement in_scope)
    statement_wide (argument_array line name bits extents) in_scope = (refl, tt)
    statement_wide (local_array line name extents bits) in_scope = (refl, tt)
    statement_wide (local_stream line name bits size) in_scope = (refl, tt)
    statement_wide (map_scope line parameters ranges body) in_scope = block_wide body true
    statement_wide (consume_scope line from size name element worker body) in_scope = (refl, one_wide (has_connector body) (declared_all sizes body true) (block_wide body true))
    statement_wide (for_loop line name begin end step body) in_scope = block_wide body in_scope
    statement_wide (while_loop line when body) in_scope = block_wide body in_scope
    statement_wide (branch line when body other) in_scope = both_wide (declared_all sizes body in_scope) (declared_all sizes other in_scope) (block_wide body in_scope) (block_wide other in_scope)
    statement_wide statement in_scope = tt

    block_wide : (block : Block) (in_scope : Bool) → AllByRecursion IsWide (declared_all sizes block in_scope)
    block_wide no_statement in_scope = tt
    block_wide (and_statement first rest) in_scope = both_wide (declared sizes first in_scope) (declared_all sizes rest in_scope) (statement_wide first in_scope) (block_wide rest in_scope)

  pub program_wide : (function : FunctionTree) → AllByRecursion IsWide (declared_of sizes function)
  program_wide function = both_wide (declared_all sizes function.arguments false) (declared_all sizes function.body false) (block_wide function.arguments false) (block_wide function.body false)
