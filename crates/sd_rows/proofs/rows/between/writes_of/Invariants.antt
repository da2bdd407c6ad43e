use Rattle.std.proofs.Common.{◌≡◌, ◌≤◌, ℕ, ℤ, List, [], map, take}
use Rattle.sd_graph.specs.Context.{Context}
use Rattle.sd_graph.specs.Unfold.{pending_of}
use Rattle.sd_rows.specs.declared.rows.steps.Steps.{Steps}
use Rattle.sd_rows.specs.rows.Along.{IsFromTo}
use Rattle.sd_rows.specs.rows.Map.{standing}
use Rattle.sd_row.specs.row.Row.{write_on}
use Rattle.sd_rows.proofs.rows.between.writes_of.Given as goal

-- the writes so far
abbrev pub invariant-loop-connector : goal.invariant-loop-connector
invariant-loop-connector l = record {
  at : (steps : Steps) (values : List ℤ) (context : ℕ → Context) → IsFromTo steps l.gaps (standing l.task l.first) (standing l.task l.last) values context →
      (k : ℕ) → k ≤ l.gaps → (value : ℕ → ℤ) →
      map (λ connector. pending_of (context k) l.task.ins.now l.task.outs.now (record { connector = connector; at = []; value = value connector })) (take l.connector-index l.order) ≡ map (write_on value k) l.writes.items;
  order : map (λ connector. connector) (take l.connector-index l.order) ≡ map (λ write. write.connector) l.writes.items;
}
