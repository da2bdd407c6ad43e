-- Error 8: a limit is passed that needs no sizes.
use Rattle.std.specs.Prelude.{ℕ, ◌+◌, nat_lt, ℤ, pos, List, length, Bool, true, false, not, ◌||◌, Option, Some, None, if◌then◌else◌}
use Rattle.std.specs.List.{list_any}
use Rattle.sd_lex.specs.PlainTree.{Expression, Dimension, index, span, StatementTree, argument_array, local_array, local_stream, assign, copy, map_scope, tasklet, call, for_loop, while_loop, branch}
use Rattle.sd_line.specs.declared.line.head.BlockKind.{BlockKind}
use Rattle.sd_line.specs.declared.line.head.BlockKind.TheVariants.{Program, Tasklet}
use Rattle.sd_line.specs.line.Head.{HeadTree, statement_head, reduce_head, input_head, output_head, consume_decorator, consume_head, elif_head}
use Rattle.sd_names.specs.declared.meaning.Signature.{Signature}
use Rattle.sd_names.specs.Names.{Name, Names, meaning_of, signature_by}
use Rattle.sd_names.specs.Expressions.{element_count, is_wide, count_of}
use Rattle.sd_refusal.specs.declared.site.Site.{Site}
use Rattle.sd_uses.specs.Uses.{uses}
use Rattle.sd_refusal.specs.NotAffine.{any_bound}

-- a step of 2^40 or more
abbrev pub is_wide_step : Option ℤ → Bool
is_wide_step (Some (pos step)) = not (nat_lt step 1099511627776)
is_wide_step other = false

abbrev pub has_wide_step : Dimension → Bool
has_wide_step (index at) = false
has_wide_step (span begin end step) = is_wide_step step

abbrev pub argument_has_wide_step : Name × List Dimension → Bool
argument_has_wide_step argument = list_any has_wide_step argument.1

abbrev pub statement_has_wide_step : StatementTree → Bool
statement_has_wide_step (copy line to to_dimensions from from_dimensions) = list_any has_wide_step to_dimensions || list_any has_wide_step from_dimensions
statement_has_wide_step (map_scope line parameters ranges body) = list_any has_wide_step ranges
statement_has_wide_step (call line name arguments) = list_any argument_has_wide_step arguments
statement_has_wide_step (for_loop line name begin end step body) = is_wide_step step
statement_has_wide_step other = false

abbrev pub head_has_wide_step : HeadTree → Bool
head_has_wide_step (statement_head s) = statement_has_wide_step s
head_has_wide_step (input_head connector memlet) = list_any has_wide_step memlet.dimensions
head_has_wide_step (output_head connector memlet) = list_any has_wide_step memlet.dimensions
head_has_wide_step other = false

-- more than four dimensions, or more than eight parameters
abbrev pub statement_is_long : StatementTree → Bool
statement_is_long (local_array line name extents bits) = nat_lt 4 (count_of extents)
statement_is_long (map_scope line parameters ranges body) = nat_lt 8 (length parameters)
statement_is_long other = false

abbrev pub is_long : HeadTree → Bool
is_long (statement_head s) = statement_is_long s
is_long other = false

abbrev pub is_wide_or_long : HeadTree → Bool
is_wide_or_long head = head_has_wide_step head || is_long head

abbrev pub statement_containers : StatementTree → ℕ
statement_containers (argument_array line name bits extents) = 1
statement_containers (local_array line name extents bits) = 1
statement_containers (local_stream line name bits size) = 1
statement_containers other = 0

-- the containers that a line makes
abbrev pub new_containers : HeadTree → ℕ
new_containers (statement_head s) = statement_containers s
new_containers (consume_head name element worker) = 1
new_containers other = 0

abbrev pub statement_states : StatementTree → ℕ
statement_states (assign line name at add e) = 1
statement_states (copy line to to_dimensions from from_dimensions) = 1
statement_states (map_scope line parameters ranges body) = 1
statement_states (tasklet line body) = 1
statement_states (call line name arguments) = 1
statement_states (branch line when body other) = 1
statement_states (for_loop line name begin end step body) = 2
statement_states (while_loop line when body) = 2
statement_states other = 0

abbrev pub head_states : HeadTree → ℕ
head_states (statement_head s) = statement_states s
head_states (reduce_head lambda from to axis identity) = 1
head_states (consume_decorator stream size) = 1
head_states (elif_head when) = 1
head_states other = 0

-- the states that a line makes; in a scope and in a tasklet it makes none
abbrev pub new_states : BlockKind → HeadTree → ℕ
new_states Program head = head_states head
new_states kind head = 0

abbrev pub is_tasklet : BlockKind → Bool
is_tasklet Tasklet = true
is_tasklet kind = false

-- `X[e] += E` in a program has the element itself as an input
abbrev pub of_itself : (add : Bool) → BlockKind → ℕ
of_itself add Program = if add then 1 else 0
of_itself add kind = 0

-- the tasklet that a line makes has more than 64 connectors: each element of its expression, the element itself and its output
abbrev pub statement_connects_much : BlockKind → StatementTree → Bool
statement_connects_much kind (assign line name at add e) = nat_lt 64 (element_count e + (of_itself add kind + 1))
statement_connects_much kind (while_loop line when body) = nat_lt 64 (element_count when + 1)
statement_connects_much kind (branch line when body other) = nat_lt 64 (element_count when + 1)
statement_connects_much kind other = false

-- an `elif` in a tasklet makes no tasklet of its own
abbrev pub elif_connects_much : BlockKind → Expression → Bool
elif_connects_much Tasklet when = false
elif_connects_much kind when = nat_lt 64 (element_count when + 1)

-- the tasklet that a line makes or stands in, which has so many connectors before it, has more than 64 behind the line
abbrev pub connects_much : (before : ℕ) → BlockKind → HeadTree → Bool
connects_much before kind (statement_head s) = statement_connects_much kind s
connects_much before kind (elif_head when) = elif_connects_much kind when
connects_much before kind (input_head connector memlet) = nat_lt 64 (before + 1)
connects_much before kind (output_head connector memlet) = nat_lt 64 (before + 1)
connects_much before kind other = false

abbrev pub new_lines : BlockKind → ℕ
new_lines Tasklet = 1
new_lines kind = 0

abbrev pub depth_by : Option Signature → ℕ
depth_by None = 0
depth_by (Some signature) = signature.depth + 1

-- the longest chain of calls that a line makes
abbrev pub statement_call_depth : Names → StatementTree → ℕ
statement_call_depth names (call line name arguments) = depth_by (signature_by (meaning_of names name))
statement_call_depth names other = 0

abbrev pub call_depth : Names → HeadTree → ℕ
call_depth names (statement_head s) = statement_call_depth names s
call_depth names other = 0

-- what is counted in the program and in the tasklet passes a limit behind the line
abbrev pub counts_much : Names → Site → HeadTree → Bool
counts_much names site head =
    nat_lt 256 (site.counts.containers + new_containers head)
    || nat_lt 256 (site.counts.states + new_states site.kind head)
    || connects_much site.counts.connectors site.kind head
    || nat_lt 1024 (site.counts.lines + new_lines site.kind)
    || nat_lt 8 (call_depth names head)

abbrev pub is_over_limit : Names → Site → HeadTree → Bool
is_over_limit names site head =
    nat_lt 7 site.depth
    || list_any (any_bound (is_wide names.meanings)) (uses site.kind head)
    || is_wide_or_long head || counts_much names site head
