use Rattle.std.proofs.Common.{◌≡◌, ℕ, ℤ, length}
use Rattle.sd_graph.specs.TreeFold.{graph_tree}
use Rattle.sd_tcode.specs.tcode.Held.{IsReady, given}
use Rattle.sd_scope.specs.scope.Standing.{context_of}
use Rattle.sd_row.specs.row.Point.{IsOver, below}
use Rattle.sd_row.proofs.row_lemmas.Comes.{IsLeft}
use Rattle.sd_rows.specs.consume.Body.{HasSingles}
use Rattle.sd_rows.specs.consume.Taking.{takes_coming}
use Rattle.sd_rows.specs.consume.Pool.{Pool, IsPool, body_of, element_width, pool_memory, pool_coming}
use Rattle.sd_rows.proofs.consume.taking.take_values.Given as goal

-- what the takes that are left come to, the scope comes to
abbrev pub invariant-loop : goal.invariant-loop
invariant-loop l = record {
  left : (pool : Pool) (held : ℤ) (element : ℕ) → IsPool l.fn.runner.code (given l.fn.runner.frame) l.accesses l.sources l.from element l.outs (context_of (graph_tree l.graph) l.base l.inner) pool → l.width ≡ element_width pool → IsOver (pool_memory pool held) l.fn.machine →
      IsLeft (pool_coming pool (below l.fn.machine)) (below l.fn.machine) (takes_coming (body_of pool) pool.stream pool.element pool.private pool.context (below l.machine)) (below l.machine);
  over : (pool : Pool) (held : ℤ) (element : ℕ) → IsPool l.fn.runner.code (given l.fn.runner.frame) l.accesses l.sources l.from element l.outs (context_of (graph_tree l.graph) l.base l.inner) pool → l.width ≡ element_width pool → IsOver (pool_memory pool held) l.fn.machine →
      IsOver (pool_memory pool held) l.machine;
  code : l.runner.code ≡ l.fn.runner.code;
  ready : IsReady l.runner.code l.runner.frame;
  singles : HasSingles (length l.sources) (given l.runner.frame);
  extents : (given l.runner.frame).extents ≡ (given l.fn.runner.frame).extents;
  variables : (given l.runner.frame).variables ≡ (given l.fn.runner.frame).variables;
}
