-- How many connectors element statements and conditions have.
use Rattle.std.proofs.Common.{◌≡◌, ◌≤◌, ℕ, ◌+◌, [], Bool, true, false, refl, sym, subst}
use Rattle.std.proofs.lemmas.Bool.{ltb-false}
use Rattle.sd_lex.specs.PlainTree.{Expression, number, named, element_at, one, two, choice, StatementTree, argument_array, local_array, local_stream, assign, copy, reduce, map_scope, tasklet, consume_scope, call, for_loop, while_loop, branch, input, output, set, set_at, tasklet_branch, no_statement}
use Rattle.sd_line.specs.declared.line.head.BlockKind.{BlockKind}
use Rattle.sd_line.specs.declared.line.head.BlockKind.TheVariants.{Top, Program, Scope, Tasklet}
use Rattle.sd_line.specs.line.Head.{statement_head, elif_head}
use Rattle.sd_names.specs.Expressions.{element_count}
use Rattle.sd_refusal.specs.OverLimit.{connects_much, of_itself}
use Rattle.sd_context.specs.blocks.Closing.{branch_with}
use Rattle.sd_program.specs.Place.{Place}
use Rattle.sd_program.specs.Limits.{elements_in, own_element, HasFewReads}
use Rattle.sd_read.proofs.readable_lemmas.kept.Counted.{within}
use Rattle.sd_read.proofs.readable_lemmas.kept.Trees.{bare}
use Rattle.sd_read.proofs.readable_lemmas.places.Placed.{around_of, HoldsInPlaces}

same_elements : (e : Expression) → element_count e ≡ elements_in e
same_elements (number value) = refl
same_elements (named name) = refl
same_elements (element_at name at) = refl
same_elements (one sign of) = same_elements of
same_elements (two sign left right) = rw (same_elements left, same_elements right) refl
same_elements (choice value when other) = rw (same_elements value, same_elements when, same_elements other) refl

same_own : (add : Bool) (kind : BlockKind) → of_itself add kind ≡ own_element (around_of kind) add
same_own true Top = refl
same_own true Program = refl
same_own true Scope = refl
same_own true Tasklet = refl
same_own false Top = refl
same_own false Program = refl
same_own false Scope = refl
same_own false Tasklet = refl

said_reads : (before : ℕ) (kind : BlockKind) (place : Place) (s : StatementTree) → place.around ≡ around_of kind → connects_much before kind (statement_head s) ≡ false → HasFewReads place s
said_reads before kind place (argument_array line name bits extents) is few = tt
said_reads before kind place (local_array line name extents bits) is few = tt
said_reads before kind place (local_stream line name bits size) is few = tt
said_reads before kind place (assign line name at add e) is few =
    subst (λ n. n + (own_element place.around add + 1) ≤ 64) (same_elements e)
    (subst (λ around. element_count e + (own_element around add + 1) ≤ 64) (sym is)
    (subst (λ n. element_count e + (n + 1) ≤ 64) (same_own add kind) (ltb-false 64 (element_count e + (of_itself add kind + 1)) few)))
said_reads before kind place (copy line to to_dimensions from from_dimensions) is few = tt
said_reads before kind place (reduce line lambda from to axis identity) is few = tt
said_reads before kind place (map_scope line parameters ranges body) is few = tt
said_reads before kind place (tasklet line body) is few = tt
said_reads before kind place (consume_scope line from size name element worker body) is few = tt
said_reads before kind place (call line name arguments) is few = tt
said_reads before kind place (for_loop line name begin end step body) is few = tt
said_reads before kind place (while_loop line when body) is few = subst (λ n. n + 1 ≤ 64) (same_elements when) (ltb-false 64 (element_count when + 1) few)
said_reads before kind place (branch line when body other) is few = subst (λ n. n + 1 ≤ 64) (same_elements when) (ltb-false 64 (element_count when + 1) few)
said_reads before kind place (input line connector memlet) is few = tt
said_reads before kind place (output line connector memlet) is few = tt
said_reads before kind place (set line name e) is few = tt
said_reads before kind place (set_at line name at e) is few = tt
said_reads before kind place (tasklet_branch line when body other) is few = tt

other_reads : (before : ℕ) (kind : BlockKind) (place : Place) (line : ℕ) (when : Expression) → connects_much before kind (elif_head when) ≡ false → HasFewReads place (branch_with kind (record { line = line; when = when; statements = [] }) no_statement)
other_reads before Top place line when few = subst (λ n. n + 1 ≤ 64) (same_elements when) (ltb-false 64 (element_count when + 1) few)
other_reads before Program place line when few = subst (λ n. n + 1 ≤ 64) (same_elements when) (ltb-false 64 (element_count when + 1) few)
other_reads before Scope place line when few = subst (λ n. n + 1 ≤ 64) (same_elements when) (ltb-false 64 (element_count when + 1) few)
other_reads before Tasklet place line when few = tt

strip_reads : (place : Place) (s : StatementTree) → HasFewReads place s → HasFewReads place (bare s)
strip_reads place (argument_array line name bits extents) holds = holds
strip_reads place (local_array line name extents bits) holds = holds
strip_reads place (local_stream line name bits size) holds = holds
strip_reads place (assign line name at add e) holds = holds
strip_reads place (copy line to to_dimensions from from_dimensions) holds = holds
strip_reads place (reduce line lambda from to axis identity) holds = holds
strip_reads place (map_scope line parameters ranges body) holds = holds
strip_reads place (tasklet line body) holds = holds
strip_reads place (consume_scope line from size name element worker body) holds = holds
strip_reads place (call line name arguments) holds = holds
strip_reads place (for_loop line name begin end step body) holds = holds
strip_reads place (while_loop line when body) holds = holds
strip_reads place (branch line when body other) holds = holds
strip_reads place (input line connector memlet) holds = holds
strip_reads place (output line connector memlet) holds = holds
strip_reads place (set line name e) holds = holds
strip_reads place (set_at line name at e) holds = holds
strip_reads place (tasklet_branch line when body other) holds = holds

fill_reads : (place : Place) (s : StatementTree) → HasFewReads place (bare s) → HasFewReads place s
fill_reads place (argument_array line name bits extents) holds = holds
fill_reads place (local_array line name extents bits) holds = holds
fill_reads place (local_stream line name bits size) holds = holds
fill_reads place (assign line name at add e) holds = holds
fill_reads place (copy line to to_dimensions from from_dimensions) holds = holds
fill_reads place (reduce line lambda from to axis identity) holds = holds
fill_reads place (map_scope line parameters ranges body) holds = holds
fill_reads place (tasklet line body) holds = holds
fill_reads place (consume_scope line from size name element worker body) holds = holds
fill_reads place (call line name arguments) holds = holds
fill_reads place (for_loop line name begin end step body) holds = holds
fill_reads place (while_loop line when body) holds = holds
fill_reads place (branch line when body other) holds = holds
fill_reads place (input line connector memlet) holds = holds
fill_reads place (output line connector memlet) holds = holds
fill_reads place (set line name e) holds = holds
fill_reads place (set_at line name at e) holds = holds
fill_reads place (tasklet_branch line when body other) holds = holds

pub reads_hold : HoldsInPlaces HasFewReads
reads_hold = record {
  strip = strip_reads;
  fill = fill_reads;
  moved = λ place line other when holds. holds;
  moved_inside = λ place line other when holds. holds;
  said = λ names site place s at of fit passed. said_reads site.counts.connectors site.kind place s at.around (within names site (statement_head s) passed).connectors;
  argument = λ names site place line name bits extents few around depth passed. tt;
  reduced = λ names site place line lambda from to axis identity at fit passed. tt;
  decorated = λ names site place from size at fit passed line name element worker. tt;
  put_in = λ names site place line connector memlet at fit passed. tt;
  put_out = λ names site place line connector memlet at fit passed. tt;
  other = λ names site place line when may at fit passed. other_reads site.counts.connectors site.kind place line when (within names site (elif_head when) passed).connectors;
}
