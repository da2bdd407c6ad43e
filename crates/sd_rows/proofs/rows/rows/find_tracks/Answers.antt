use Rattle.std.proofs.Common.{◌≡◌, ◌+◌, length, Some, option_map, ap, sym, ◌∙◌, rules, arith}
use Rattle.sd_range.specs.Variables.{with_variables}
use Rattle.sd_graph.specs.Unfold.{assigned}
use Rattle.sd_row.specs.declared.row.row.Row.{Row}
use Rattle.sd_row.specs.row.Setting.{IsRowOf}
use Rattle.sd_row.proofs.instance_lemmas.Matched.{always_ok}
use Rattle.sd_rows.specs.rows.Along.{IsFromTo}
use Rattle.sd_rows.specs.rows.Map.{standing, row_at}
use Rattle.sd_rows.proofs.rows_lemmas.Matched.{row_told}
use Rattle.sd_rows.proofs.rows_lemmas.Tracks.{way_along}
use Rattle.sd_rows.proofs.rows.rows.find_tracks.Goals as goal

pub returns-clause-tracks : goal.returns-clause-tracks
returns-clause-tracks c =
    let task = c.args.task.now in
    let steps = c.args.steps.now in
    let row = c.args.row.now in
    let outer = c.args.outer.now in
    let setting = row_at task row steps in
    let gaps = c.in-Some-checked_sub.gaps in
    let many : length row ≡ length outer = search rules in
    let gaps_is : steps.count ≡ gaps + 1 = search rules in
    let plain : c.args.code.now.plain ≡ Some c.in-Some.order.now = sym c.plain.ensures ∙ ap (option_map (λ order. order.now)) c.in-Some.is in
    let values = with_variables (assigned outer row) task.scope.now.values.values in
    let way : IsFromTo steps gaps (standing task c.go_to.new.inner) (standing task c.go_to-2.new.inner) values setting.context =
    way_along task outer row steps gaps _ _ c.requires.steps many (c.in_ok-go_to.ensures.context c.requires.first) (c.in_ok-go_to-2.ensures.context c.requires.last) in
    row_told _ _ _ _ (λ (tracks : Row). IsRowOf setting c.args.code.now tracks steps.count) c.row_between.result
    (λ tracks order reads variables at. record {
      plain = plain ∙ ap Some (sym order);
      reads = reads;
      variables = variables;
      at = λ k within. at values setting.context way k (omega (arith, within, gaps_is));
    }) c.row_between.ensures.order c.row_between.ensures.reads c.row_between.ensures.variables c.row_between.ensures.at

pub returns-clause-first : goal.returns-clause-first
returns-clause-first c = always_ok _ c.row_between.result (c.in_ok-go_to.ensures.inside c.requires.first)

pub returns-clause-last : goal.returns-clause-last
returns-clause-last c = always_ok _ c.row_between.result (c.in_ok-go_to-2.ensures.inside c.requires.last)
