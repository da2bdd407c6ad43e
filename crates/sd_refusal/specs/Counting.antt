-- What is counted behind a line.
use Rattle.std.specs.Prelude.{ℕ, ◌+◌, max, Bool, true, false, if◌then◌else◌}
use Rattle.sd_line.specs.declared.line.head.BlockKind.{BlockKind}
use Rattle.sd_line.specs.line.Head.{HeadTree, input_head, output_head}
use Rattle.sd_refusal.specs.declared.site.Counts.{Counts}
use Rattle.sd_names.specs.Names.{Names}
use Rattle.sd_refusal.specs.OverLimit.{new_states, new_containers, new_lines, call_depth}

abbrev pub is_connector : HeadTree → Bool
is_connector (input_head connector memlet) = true
is_connector (output_head connector memlet) = true
is_connector other = false

abbrev pub new_connectors : HeadTree → ℕ
new_connectors head = if is_connector head then 1 else 0

-- what is counted behind a line
abbrev pub counts_behind : Names → Counts → BlockKind → HeadTree → Counts
counts_behind names counts kind head = record {
  containers = counts.containers + new_containers head;
  states = counts.states + new_states kind head;
  calls = max counts.calls (call_depth names head);
  connectors = counts.connectors + new_connectors head;
  lines = counts.lines + new_lines kind;
}
