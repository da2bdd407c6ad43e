use Rattle.std.proofs.Common.{◌≡◌, ◌+◌, ◌*◌, max, drop}
use denote.Param.Weighed.{most}
use Rattle.sd_lex.proofs.syntax.statement.Statement.TheLaws.{the_size}
use Rattle.sd_lex.specs.TreeFold.{block_of}
use Rattle.sd_elab.specs.items.Graphs.{graph_named}
use Rattle.sd_elab.specs.items.GraphsByNumber.{graphs_of}
use Rattle.sd_program.specs.Bounds.{EachBound}
use Rattle.sd_program.specs.Every.{EveryIn}
use Rattle.sd_program.specs.IsAffine.{IsAffine}
use Rattle.sd_program.specs.Small.{IsSmall}
use Rattle.sd_elab.specs.states.BuildingOf.{threaded_of, standing_of, HasSmallContainers}
use Rattle.sd_elab.specs.states.Standing.{behind_all}
use Rattle.sd_elab.specs.states.Threaded.{threaded_all}
use Rattle.sd_elab.proofs.states.thread.+thread.Given as goal

-- a call of a block is smaller than its statement, and one of a statement than its block
abbrev pub decreases-thread : goal.decreases-thread
decreases-thread l = 3 * the_size l.statement.now

abbrev pub decreases-thread_all : goal.decreases-thread_all
decreases-thread_all l = 3 * most the_size l.body.now + 1

abbrev pub decreases-thread_while : goal.decreases-thread_while
decreases-thread_while l = 3 * most the_size l.body.now + 2

abbrev pub decreases-thread_for : goal.decreases-thread_for
decreases-thread_for l = 3 * most the_size l.body.now + 2

abbrev pub decreases-thread_if : goal.decreases-thread_if
decreases-thread_if l = 3 * max (most the_size l.body.now) (most the_size l.other.now) + 2

-- from here on the same as from the begin
abbrev pub invariant-thread_all-loop-statement : goal.invariant-thread_all-loop-statement
invariant-thread_all-loop-statement l = record {
  threaded : threaded_all (graph_named (graphs_of l.graphs)) (block_of (drop l.statement-index l.body)) (standing_of l.building) (threaded_of l.building) ≡ threaded_all (graph_named (graphs_of l.graphs)) (block_of l.body) (standing_of l.initial.building) (threaded_of l.initial.building);
  standing : behind_all (block_of (drop l.statement-index l.body)) (standing_of l.building) ≡ behind_all (block_of l.body) (standing_of l.initial.building);
  extents : HasSmallContainers l.building;
  affine : EveryIn (EachBound IsAffine) (block_of (drop l.statement-index l.body));
  small : EveryIn (EachBound IsSmall) (block_of (drop l.statement-index l.body));
}
