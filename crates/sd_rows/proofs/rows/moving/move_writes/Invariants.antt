use Rattle.std.proofs.Common.{◌≡◌, ◌≤◌, ℕ, ℤ, List, map, take}
use Rattle.sd_graph.specs.Context.{Context}
use Rattle.sd_graph.specs.Unfold.{pending_of}
use Rattle.sd_graph.specs.declared.link.Link.{Link}
use Rattle.sd_tcode.specs.tcode.Outputs.{output_effects}
use Rattle.sd_rows.specs.declared.rows.steps.Steps.{Steps}
use Rattle.sd_rows.specs.rows.Along.{IsAlong}
use Rattle.sd_row.specs.row.Row.{write_on}
use Rattle.sd_rows.proofs.rows.moving.move_writes.Given as goal

-- the writes so far
abbrev pub invariant-loop-number : goal.invariant-loop-number
invariant-loop-number l = record {
  connectors : map (λ write. write.connector) (take l.number l.writes) ≡ map (λ write. write.connector) (take l.number l.near);
  at : (steps : Steps) (values : List ℤ) (context : ℕ → Context) (ins outs : List Link) (order : List ℕ) (value : ℕ → ℤ) → IsAlong steps values context →
      map (pending_of (context 0) ins outs) (output_effects value order) ≡ map (write_on value l.row) l.near →
      map (pending_of (context l.gaps) ins outs) (output_effects value order) ≡ map (write_on value l.row) l.far →
      (k : ℕ) → k ≤ l.gaps → map (pending_of (context k) ins outs) (output_effects value (take l.number order)) ≡ map (write_on value k) (take l.number l.writes);
}
