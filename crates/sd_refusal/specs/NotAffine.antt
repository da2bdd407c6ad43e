-- Error 6: an affine place has an expression that is not affine, or an extent names a loop variable or a map parameter.
use Rattle.std.specs.Prelude.{Bool, false, ◌||◌}
use Rattle.std.specs.List.{list_any}
use Rattle.sd_lex.specs.PlainTree.{Expression, StatementTree, argument_array, local_array}
use Rattle.sd_line.specs.line.Head.{HeadTree, statement_head}
use Rattle.sd_names.specs.Names.{Names, meaning_of, is_variable_kind}
use Rattle.sd_names.specs.Expressions.{any_name, any_subscript, is_rough, expression_list}
use Rattle.sd_line.specs.declared.line.head.BlockKind.{BlockKind}
use Rattle.sd_names.specs.Expressions.{expressions_of_dimensions}
use Rattle.sd_uses.specs.Uses.{Use, value, code, bound, extent, part, target, called, consumed, uses}

-- an affine place of the use passes the test
abbrev pub any_bound : (Expression → Bool) → Use → Bool
any_bound test (value e) = any_subscript test e
any_bound test (code e) = false
any_bound test (bound e) = test e
any_bound test (extent e) = test e
any_bound test (part name dimensions) = list_any test (expressions_of_dimensions dimensions)
any_bound test (target name dimensions) = list_any test (expressions_of_dimensions dimensions)
any_bound test (called name) = false
any_bound test (consumed name) = false

-- a loop variable or a parameter of a map stands in an extent
abbrev pub varies : Names → Expression → Bool
varies names = any_name (λ name. is_variable_kind (meaning_of names name)) (λ name count. false)

abbrev pub statement_varies : Names → StatementTree → Bool
statement_varies names (argument_array line name bits extents) = list_any (varies names) (expression_list extents)
statement_varies names (local_array line name extents bits) = list_any (varies names) (expression_list extents)
statement_varies names other = false

abbrev pub head_varies : Names → HeadTree → Bool
head_varies names (statement_head s) = statement_varies names s
head_varies names other = false

abbrev pub is_not_affine : Names → BlockKind → HeadTree → Bool
is_not_affine names kind head = list_any (any_bound is_rough) (uses kind head) || head_varies names head
