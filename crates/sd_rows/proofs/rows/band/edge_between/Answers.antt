use Rattle.std.proofs.Common.{◌≡◌, ◌+◌, ℤ, List, Some, option_map, ap, sym, ◌∙◌, rules, arith}
use Rattle.sd_graph.specs.Context.{Context}
use Rattle.sd_row.specs.declared.row.row.Row.{Row}
use Rattle.sd_row.specs.row.Setting.{IsRowOf}
use Rattle.sd_row.proofs.instance_lemmas.Matched.{always_ok}
use Rattle.sd_rows.specs.rows.Along.{IsFromTo}
use Rattle.sd_rows.specs.rows.Band.{edge_at}
use Rattle.sd_rows.specs.rows.Map.{standing, row_at}
use Rattle.sd_rows.proofs.rows_lemmas.Matched.{row_told}
use Rattle.sd_rows.proofs.rows_lemmas.Bands.{edge_goes}
use Rattle.sd_rows.proofs.rows.band.edge_between.Goals as goal

pub returns-clause-edge : goal.returns-clause-edge
returns-clause-edge c =
    let task = c.args.task.now in
    let steps = c.args.steps.now in
    let across = c.args.across.now in
    let outer = c.args.outer.now in
    let others = c.args.others.now in
    let setting = edge_at task others across steps c.args.k in
    let gaps = c.in-Some-checked_sub.gaps in
    let gaps_is : across.count ≡ gaps + 1 = search rules in
    let plain : c.args.code.now.plain ≡ Some c.in-Some.order.now = sym c.plain.ensures ∙ ap (option_map (λ order. order.now)) c.in-Some.is in
    let context : List ℤ → Context = λ row. (row_at task row steps).context c.args.k in
    let way : IsFromTo across gaps (standing task c.go_to.new.inner) (standing task c.go_to-2.new.inner) _ setting.context = record {
      along = edge_goes task outer steps c.requires.steps across c.requires.across others c.args.k c.requires.many;
      first = c.in_ok-go_to.ensures.context c.requires.first ∙ ap context (c.as_slice.ensures.value ∙ c.in_ok-begin.ensures);
      last = c.in_ok-go_to-2.ensures.context c.requires.last ∙ ap context (c.as_slice-2.ensures.value ∙ c.in_ok-end.ensures);
    } in
    row_told _ _ _ _ (λ (edge : Row). IsRowOf setting c.args.code.now edge across.count) c.row_between.result
    (λ edge order reads variables at. record {
      plain = plain ∙ ap Some (sym order);
      reads = reads;
      variables = variables;
      at = λ k within. at _ setting.context way k (omega (arith, within, gaps_is));
    }) c.row_between.ensures.order c.row_between.ensures.reads c.row_between.ensures.variables c.row_between.ensures.at

pub returns-clause-first : goal.returns-clause-first
returns-clause-first c = always_ok _ c.row_between.result (c.in_ok-go_to.ensures.inside c.requires.first)

pub returns-clause-last : goal.returns-clause-last
returns-clause-last c = always_ok _ c.row_between.result (c.in_ok-go_to-2.ensures.inside c.requires.last)
