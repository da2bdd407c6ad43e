use Rattle.std.proofs.Common.{◌≡◌, List, Option, true, get_or, option_map, ap, ◌∙◌}
use Rattle.sd_work.specs.Memory.{Reference, seen}
use Rattle.sd_work.specs.Leaf.{Leaf, Evaluation, reading}
use Rattle.sd_work.specs.LeafMove.{leaf_move, read_move}
use Rattle.sd_work.specs.Settle.{is_empty}
use Rattle.sd_graph.specs.TreeFold.{graph_tree}
use Rattle.sd_graph.specs.Context.{place_at}
use Rattle.sd_mem.specs.machine.Stack.{reference_of}
use Rattle.sd_scope.specs.scope.Standing.{context_of}
use Rattle.sd_leaves.specs.moves.Left.{reading_of}
use Rattle.sd_leaves.specs.moves.Moved.{IsMoved}
use Rattle.sd_leaves.specs.moves.Evaluated.{IsCounted}
use Rattle.sd_leaves.proofs.moves_lemmas.WholeInstances.{read-whole, both_ok, on_err}
use Rattle.sd_leaves.proofs.moves.instance.Reading.read.Goals as goal

pub returns-clause-moved : goal.returns-clause-moved
returns-clause-moved c =
    let place = place_at (context_of (graph_tree c.args.graph.now) c.args.base.now c.args.scope.now) c.args.line in
    let now = c.args.machine.now in
    let then = c.read.new.machine in
    let cells = c.args.self.now.cells.items in
    let values = c.args.self.now.values.items in
    let after = c.read.new.values.items in
    let cell = c.index-cell.result.now in
    let is = c.index-cell.ensures ∙ ap (λ n. get_or cells n cell) (c.len.ensures ∙ c.args.self.now.values.ok.0) in
    both_ok
    (λ end. (old : Leaf) (left : List (Option Reference)) (evaluation : Evaluation) → IsMoved (read_move place (is_empty values) (seen (option_map reference_of cell) now.memories) left values evaluation) old now end then (reading true left after evaluation))
    (λ end. IsCounted end values after)
    (λ end. (evaluation : Evaluation) → IsMoved (leaf_move place (reading_of evaluation cells values) now.memories) (reading_of evaluation cells values) now end then (reading_of evaluation cells after))
    c.read.result (λ end moves counted. λ evaluation. read-whole evaluation cells values after cell place now then end c.requires.left is counted moves)
    c.read.ensures.moved c.read.ensures.counted

pub returns-clause-refused : goal.returns-clause-refused
returns-clause-refused c =
    let cells = c.args.self.now.cells.items in
    let values = c.args.self.now.values.items in
    let after = c.read.new.values.items in
    on_err (after ≡ values) ((evaluation : Evaluation) → reading_of evaluation cells after ≡ reading_of evaluation cells values) c.read.result
    (λ same. λ evaluation. ap (reading_of evaluation cells) same) c.read.ensures.refused
