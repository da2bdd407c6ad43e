use Rattle.std.proofs.Common.{◌≡◌, ◌+◌, length, ◌∙◌, rules, arith}
use Rattle.sd_range.specs.Variables.{with_variables}
use Rattle.sd_graph.specs.TreeFold.{graph_tree}
use Rattle.sd_graph.specs.Unfold.{assigned}
use Rattle.sd_tcode.specs.tcode.Held.{given}
use Rattle.sd_row.specs.declared.instance.accesses.Accesses.{Accesses}
use Rattle.sd_row.specs.instance.Fit.{IsRunner}
use Rattle.sd_row.specs.instance.Known.{HasRoom}
use Rattle.sd_row.proofs.instance_lemmas.Given.{room_known}
use Rattle.sd_row.proofs.instance_lemmas.Matched.{always_ok}
use Rattle.sd_rows.specs.rows.Along.{IsFromTo}
use Rattle.sd_rows.specs.rows.Kept.{IsKeptRow}
use Rattle.sd_rows.specs.rows.Map.{tree_of, standing, row_at}
use Rattle.sd_rows.proofs.rows_lemmas.Free.{row_extents}
use Rattle.sd_rows.proofs.rows_lemmas.KeptSteps.{told_so}
use Rattle.sd_rows.proofs.rows_lemmas.Tracks.{way_along}
use Rattle.sd_rows.proofs.rows.kept.find_accesses.Goals as goal

pub returns-clause-row : goal.returns-clause-row
returns-clause-row c =
    let task = c.args.task.now in
    let steps = c.args.steps.now in
    let row = c.args.row.now in
    let outer = c.args.outer.now in
    let setting = row_at task row steps in
    let gaps = c.in-Some.gaps in
    let many : length row ≡ length outer = search rules in
    let gaps_is : steps.count ≡ gaps + 1 = search rules in
    let values = with_variables (assigned outer row) task.scope.now.values.values in
    let first = c.go_to.new.inner in
    let way : IsFromTo steps gaps (standing task first) (standing task c.go_to-2.new.inner) values setting.context =
    way_along task outer row steps gaps _ _ c.requires.steps many (c.in_ok-go_to.ensures.context c.requires.first) (c.in_ok-go_to-2.ensures.context c.requires.last) in
    let after = c.shape.new.self in
    let runner : IsRunner (tree_of task) task.ins.now task.outs.now after.code after.frame = c.in_ok-shape.ensures.runner (tree_of task) c.requires.runner in
    told_so _ (λ (accesses : Accesses). IsKeptRow setting after.code (given after.frame) (standing task first) accesses steps.count) c.accesses_between.result
    (λ accesses known. record {
      set = λ k within. record {
        code = runner.code;
        extents = c.in_ok-shape.ensures.extents (tree_of task) c.requires.runner (search rules) (graph_tree task.graph.now) task.base.now
            ∙ row_extents steps gaps _ _ values setting.context way k task.ins.now task.outs.now runner.scalars c.requires.still;
      };
      known = λ k within. known values setting.context way k (omega (arith, within, gaps_is));
    }) c.accesses_between.ensures

pub returns-clause-some : goal.returns-clause-some
returns-clause-some c =
    let task = c.args.task.now in
    let steps = c.args.steps.now in
    let row = c.args.row.now in
    let outer = c.args.outer.now in
    let setting = row_at task row steps in
    let gaps = c.in-Some.gaps in
    let many : length row ≡ length outer = search rules in
    let values = with_variables (assigned outer row) task.scope.now.values.values in
    let first = c.go_to.new.inner in
    let way : IsFromTo steps gaps (standing task first) (standing task c.go_to-2.new.inner) values setting.context =
    way_along task outer row steps gaps _ _ c.requires.steps many (c.in_ok-go_to.ensures.context c.requires.first) (c.in_ok-go_to-2.ensures.context c.requires.last) in
    let after = c.shape.new.self in
    let runner : IsRunner (tree_of task) task.ins.now task.outs.now after.code after.frame = c.in_ok-shape.ensures.runner (tree_of task) c.requires.runner in
    told_so _ (λ (accesses : Accesses). HasRoom (length accesses.reads.items) (length accesses.variables.items) (given after.frame)) c.accesses_between.result
    (λ accesses known. room_known (tree_of task) task.ins.now task.outs.now 0 (setting.context 0) (standing task first) accesses (given after.frame) (known values setting.context way 0 (omega arith)) runner.room)
    c.accesses_between.ensures

pub returns-clause-runner : goal.returns-clause-runner
returns-clause-runner c = always_ok _ c.accesses_between.result (c.in_ok-shape.ensures.runner (tree_of c.args.task.now) c.requires.runner)

pub returns-clause-first : goal.returns-clause-first
returns-clause-first c = always_ok _ c.accesses_between.result (c.in_ok-go_to.ensures.inside c.requires.first)

pub returns-clause-last : goal.returns-clause-last
returns-clause-last c = always_ok _ c.accesses_between.result (c.in_ok-go_to-2.ensures.inside c.requires.last)

pub returns-then-not-branch-clause-runner : goal.returns-then-not-branch-clause-runner
returns-then-not-branch-clause-runner c = c.in_ok-shape.ensures.runner (tree_of c.args.task.now) c.requires.runner
