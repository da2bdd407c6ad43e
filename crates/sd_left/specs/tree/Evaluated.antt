-- What an instance evaluates.
use Rattle.std.specs.Prelude.{Ok, []}
use Rattle.sd_work.specs.Leaf.{Evaluation}
use Rattle.sd_graph.specs.PlainTree.{KindTree, task, map_scope, consume_scope, nested_graph, reduction, copy}
use Rattle.sd_graph.specs.Context.{Context}
use Rattle.sd_leaves.specs.leaves.Done.{evaluation_of}

-- what the instance of an item makes of the values that it reads
abbrev pub evaluation_in : KindTree → Context → Evaluation
evaluation_in (task code ins outs) context = evaluation_of context code ins outs
evaluation_in (map_scope sequential params private body) context = λ values. Ok []
evaluation_in (consume_scope stream element private body) context = λ values. Ok []
evaluation_in (nested_graph inner links) context = λ values. Ok []
evaluation_in (reduction resolution axis identity from to) context = λ values. Ok []
evaluation_in (copy from to) context = λ values. Ok []
