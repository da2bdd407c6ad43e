-- Which names a line declares, and as what.
use Rattle.std.specs.Prelude.{ℕ, List, [], ◌∷◌, length, Bool, true, false, Option, Some, None, if◌then◌else◌}
use Rattle.std.specs.List.{list_all, sum_by}
use Rattle.sd_range.specs.declared.affine.Affine.{Affine}
use Rattle.sd_lex.specs.PlainTree.{Dimension, index, span, StatementTree, argument_array, local_array, local_stream, map_scope, for_loop, set}
use Rattle.sd_line.specs.line.Head.{HeadTree, symbol_line, program_head, statement_head, input_head, output_head, consume_head}
use Rattle.sd_phrase.specs.Memlet.{MemletTree}
use Rattle.sd_names.specs.declared.meaning.Meaning.TheVariants.{Symbol, Variable, Program, Worker, Input, Output, Local}
use Rattle.sd_names.specs.declared.meaning.Container.TheVariants.{Array, Stream}
use Rattle.sd_names.specs.Names.{Name, Names, meaning_of, is_array, extents_of, with_meaning, with_container, all_meaning}
use Rattle.sd_names.specs.Expressions.{affine_list}
use Rattle.sd_names.specs.Extents.{one_extent, or_one, is_same}
use Rattle.sd_uses.specs.Twice.{declares_local}

-- a name that is assigned in a tasklet is a local, unless it is declared there
abbrev pub with_local : Names → Name → Names
with_local names name = if declares_local (meaning_of names name) then with_meaning names name Local else names

-- an argument without extents has one of 1
abbrev pub statement_names : Names → StatementTree → Names
statement_names names (argument_array line name bits extents) = with_container names name (Array (or_one (affine_list names extents)))
statement_names names (local_array line name extents bits) = with_container names name (Array (affine_list names extents))
statement_names names (local_stream line name bits size) = with_container names name Stream
statement_names names (map_scope line parameters ranges body) = all_meaning Variable names parameters
statement_names names (for_loop line name begin end step body) = with_meaning names name Variable
statement_names names (set line name e) = with_local names name
statement_names names other = names

-- in a program no container of another is in force, and it is not called
abbrev pub program_names : Names → Name → Names
program_names names name = with_meaning (record names { containers = []; declared = [] }) name (Program None)

abbrev pub with_worker : Option Name → Names → Names
with_worker None names = names
with_worker (Some name) names = with_meaning names name Worker

-- the element of a consume is an input of its tasklet, or a container of its body
abbrev pub element_names : (is_tasklet : Bool) → Names → (element : Name) → Names
element_names true names element = with_meaning names element (Input 0)
element_names false names element = with_container names element (Array (one_extent ∷ []))

abbrev pub span_count : Dimension → ℕ
span_count (index at) = 0
span_count (span begin end step) = 1

-- how many ranges stand in a subset
abbrev pub spans_of : List Dimension → ℕ
spans_of dimensions = sum_by span_count dimensions

abbrev pub are_all_one : List Affine → Bool
are_all_one extents = list_all (is_same one_extent) extents

-- the dimensions of a connector: the ranges of its subset; without a subset those of the container, but none where all extents are 1
abbrev pub array_dimensions : List Affine → List Dimension → ℕ
array_dimensions extents [] = if are_all_one extents then 0 else length extents
array_dimensions extents dimensions = spans_of dimensions

-- a connector of a stream is a scalar
abbrev pub connector_dimensions : Names → MemletTree → ℕ
connector_dimensions names memlet = if is_array names memlet.name then array_dimensions (extents_of names memlet.name) memlet.dimensions else 0

-- the names in force behind a line; the block of a consume's `def` may be a tasklet
abbrev pub names_behind : Names → (is_tasklet : Bool) → HeadTree → Names
names_behind names is_tasklet (symbol_line name quoted) = with_meaning names name Symbol
names_behind names is_tasklet (program_head name arguments) = program_names names name
names_behind names is_tasklet (statement_head s) = statement_names names s
names_behind names is_tasklet (input_head connector memlet) = with_meaning names connector (Input (connector_dimensions names memlet))
names_behind names is_tasklet (output_head connector memlet) = with_meaning names connector (Output (connector_dimensions names memlet))
names_behind names is_tasklet (consume_head name element worker) = with_worker worker (element_names is_tasklet names element)
names_behind names is_tasklet other = names
