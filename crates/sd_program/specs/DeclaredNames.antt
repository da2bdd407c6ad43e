-- The names of the containers that a program declares.
use Rattle.std.specs.Prelude.{List, [], ◌∷◌, ◌++◌, cond}
use Rattle.sd_lex.specs.PlainTree.{StatementTree, argument_array, local_array, local_stream, map_scope, consume_scope, for_loop, while_loop, branch, Block, no_statement, and_statement, FunctionTree}
use Rattle.sd_lex.specs.StatementKind.{has_connector}
use Rattle.sd_program.specs.Names.{Name}

-- after these names, those of the containers that a statement declares; the element of a consume scope that is one tasklet is none
abbrev mutual
  pub declared_names : StatementTree → List Name → List Name
  declared_names (argument_array line name bits extents) names = names ++ name ∷ []
  declared_names (local_array line name extents bits) names = names ++ name ∷ []
  declared_names (local_stream line name bits size) names = names ++ name ∷ []
  declared_names (map_scope line parameters ranges body) names = declared_names_all body names
  declared_names (consume_scope line stream size name element worker body) names = cond (has_connector body) names (declared_names_all body (names ++ element ∷ []))
  declared_names (for_loop line name begin end step body) names = declared_names_all body names
  declared_names (while_loop line when body) names = declared_names_all body names
  declared_names (branch line when body other) names = declared_names_all other (declared_names_all body names)
  declared_names statement names = names

  pub declared_names_all : Block → List Name → List Name
  declared_names_all no_statement names = names
  declared_names_all (and_statement first rest) names = declared_names_all rest (declared_names first names)

-- those of its arguments, and then those of its body
abbrev pub container_names : FunctionTree → List Name
container_names function = declared_names_all function.body (declared_names_all function.arguments [])
