-- Error 5: a name is not in force for its use.
use Rattle.std.specs.Prelude.{Bool, false, not, ◌||◌, is_some}
use Rattle.std.specs.List.{list_any}
use Rattle.sd_lex.specs.PlainTree.{Expression, StatementTree, set_at}
use Rattle.sd_line.specs.declared.line.head.BlockKind.{BlockKind}
use Rattle.sd_line.specs.line.Head.{HeadTree, statement_head}
use Rattle.sd_names.specs.Names.{Names, meaning_of, is_stream, is_array, is_number_kind, is_number_in_code, is_input, is_output, signature_by}
use Rattle.sd_names.specs.Expressions.{any_name}
use Rattle.sd_names.specs.Expressions.{expressions_of_dimensions}
use Rattle.sd_uses.specs.Uses.{Use, value, code, bound, extent, part, target, called, consumed, uses}

-- a name alone that is no number, or an element of what is no array
abbrev pub has_unknown : Names → Expression → Bool
has_unknown names = any_name (λ name. not (is_number_kind (meaning_of names name))) (λ name count. not (is_array names name))

abbrev pub has_unknown_in_code : Names → Expression → Bool
has_unknown_in_code names = any_name (λ name. not (is_number_in_code (meaning_of names name))) (λ name count. not (is_input (meaning_of names name)))

abbrev pub is_unknown_use : Names → Use → Bool
is_unknown_use names (value e) = has_unknown names e
is_unknown_use names (code e) = has_unknown_in_code names e
is_unknown_use names (bound e) = has_unknown names e
is_unknown_use names (extent e) = has_unknown names e
is_unknown_use names (part name dimensions) = not (is_array names name) || list_any (has_unknown names) (expressions_of_dimensions dimensions)
is_unknown_use names (target name dimensions) = not (is_array names name || is_stream names name) || list_any (has_unknown names) (expressions_of_dimensions dimensions)
-- a program that is still read is not called
is_unknown_use names (called name) = not (is_some (signature_by (meaning_of names name)))
is_unknown_use names (consumed name) = not (is_stream names name)

-- what is assigned with subscripts is an output
abbrev pub statement_assigns_unknown : Names → StatementTree → Bool
statement_assigns_unknown names (set_at line name at e) = not (is_output (meaning_of names name))
statement_assigns_unknown names other = false

abbrev pub assigns_unknown : Names → HeadTree → Bool
assigns_unknown names (statement_head s) = statement_assigns_unknown names s
assigns_unknown names other = false

abbrev pub has_unknown_name : Names → BlockKind → HeadTree → Bool
has_unknown_name names kind head = assigns_unknown names head || list_any (is_unknown_use names) (uses kind head)
