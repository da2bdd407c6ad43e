-- Error 4: the line's head does not stand here, or a container is used in another way than its kind and dimensions allow.
use Rattle.std.specs.Prelude.{ℕ, nat_eq, List, [], length, Bool, true, false, not, ◌&&◌, ◌||◌, is_some, bytes_eq}
use Rattle.std.specs.List.{list_any}
use Rattle.sd_lex.specs.PlainTree.{Expression, Dimension, StatementTree, map_scope, for_loop, while_loop, branch, set, set_at}
use Rattle.sd_line.specs.declared.line.head.BlockKind.{BlockKind}
use Rattle.sd_line.specs.declared.line.head.BlockKind.TheVariants.{Program}
use Rattle.sd_line.specs.line.Head.{HeadTree, symbol_line, statement_head, input_head, output_head}
use Rattle.sd_names.specs.Names.{Name, Names, meaning_of, container_of, is_stream, is_array, extents_of, is_input, is_output, dimensions_by, is_among}
use Rattle.sd_names.specs.Expressions.{any_name, count_of}
use Rattle.sd_refusal.specs.declared.site.Site.{Site}
use Rattle.sd_names.specs.Expressions.{expressions_of_dimensions}
use Rattle.sd_uses.specs.Uses.{Use, value, code, bound, extent, part, target, called, consumed, uses}

-- a container alone, where a number has to be
abbrev pub is_container : Names → Name → Bool
is_container names name = is_some (container_of names name)

-- a stream with subscripts, or an array with a wrong number of them
abbrev pub is_misread : Names → Name → ℕ → Bool
is_misread names name count = is_stream names name || is_array names name && not (nat_eq (length (extents_of names name)) count)

abbrev pub misuses_name : Names → Expression → Bool
misuses_name names = any_name (is_container names) (is_misread names)

-- in a tasklet: a stream, or an input with a wrong number of subscripts
abbrev pub is_misread_in_code : Names → Name → ℕ → Bool
is_misread_in_code names name count = is_stream names name || is_input (meaning_of names name) && not (nat_eq (dimensions_by (meaning_of names name)) count)

-- the same of a name alone, which has no subscripts
abbrev pub is_misread_alone : Names → Name → Bool
is_misread_alone names name = is_misread_in_code names name 0

-- an array of another number of dimensions than are written; none may be written
abbrev pub has_other_count : Names → Name → (count : ℕ) → Bool
has_other_count names name count = not (nat_eq count 0) && (is_array names name && not (nat_eq (length (extents_of names name)) count))

abbrev pub misuses_dimensions : Names → Name → List Dimension → Bool
misuses_dimensions names name dimensions = has_other_count names name (length dimensions) || list_any (misuses_name names) (expressions_of_dimensions dimensions)

abbrev pub is_written : List Dimension → Bool
is_written [] = false
is_written dimensions = true

abbrev pub misuses : Names → Use → Bool
misuses names (value e) = misuses_name names e
misuses names (code e) = any_name (is_misread_alone names) (is_misread_in_code names) e
misuses names (bound e) = misuses_name names e
misuses names (extent e) = misuses_name names e
misuses names (part name dimensions) = is_stream names name || misuses_dimensions names name dimensions
misuses names (target name dimensions) = is_stream names name && is_written dimensions || misuses_dimensions names name dimensions
misuses names (called name) = is_stream names name
misuses names (consumed name) = false

abbrev pub is_program : BlockKind → Bool
is_program Program = true
is_program kind = false

-- one of these names stands in the expression, alone or before subscripts
abbrev pub mentions_any : List Name → Expression → Bool
mentions_any wanted = any_name (is_among wanted) (λ name count. is_among wanted name)

-- an output with another number of subscripts
abbrev pub is_other_output : Names → Name → (count : ℕ) → Bool
is_other_output names name count = is_output (meaning_of names name) && not (nat_eq (dimensions_by (meaning_of names name)) count)

-- an element in the place of what is assigned that is no element of an output
abbrev pub misplaces_element : Names → Name → (count : ℕ) → Bool
misplaces_element names name count = is_stream names name || is_input (meaning_of names name) || is_other_output names name count

-- the ranges of a map name its own parameters
unfoldable pub names_itself : (parameters : List Name) → (ranges : List Dimension) → Bool
names_itself parameters ranges = list_any (mentions_any parameters) (expressions_of_dimensions ranges)

-- a loop or a branch stands in a program alone
abbrev pub block_is_misplaced : BlockKind → StatementTree → Bool
block_is_misplaced kind (for_loop line name begin end step body) = not (is_program kind)
block_is_misplaced kind (while_loop line when body) = not (is_program kind)
block_is_misplaced kind (branch line when body other) = not (is_program kind)
block_is_misplaced kind other = false

abbrev pub map_is_misplaced : StatementTree → Bool
map_is_misplaced (map_scope line parameters ranges body) = names_itself parameters ranges
map_is_misplaced other = false

-- an input connector is assigned, or an output with a wrong number of subscripts
abbrev pub set_is_misplaced : Names → StatementTree → Bool
set_is_misplaced names (set line name e) = is_input (meaning_of names name) || is_other_output names name 0
set_is_misplaced names (set_at line name at e) = misplaces_element names name (count_of at)
set_is_misplaced names other = false

abbrev pub statement_is_misplaced : Names → BlockKind → StatementTree → Bool
statement_is_misplaced names kind s = block_is_misplaced kind s || map_is_misplaced s || set_is_misplaced names s

abbrev pub is_misplaced : Names → Site → HeadTree → Bool
is_misplaced names site (symbol_line name quoted) = not (bytes_eq name quoted)
is_misplaced names site (statement_head s) = statement_is_misplaced names site.kind s
is_misplaced names site (input_head connector memlet) = not site.connects
is_misplaced names site (output_head connector memlet) = not site.connects
is_misplaced names site other = false

abbrev pub is_no_form : Names → Site → HeadTree → Bool
is_no_form names site head = is_misplaced names site head || list_any (misuses names) (uses site.kind head)
