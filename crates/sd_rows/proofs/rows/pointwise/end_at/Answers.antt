use Rattle.std.proofs.Common.{◌≡◌, ap, sym, ◌∙◌}
use Rattle.sd_graph.specs.Context.{Context, place_at}
use Rattle.sd_graph.specs.declared.place.Place.{Place}
use Rattle.sd_mem.specs.declared.machine.end.End.TheVariants as ends
use Rattle.sd_row.specs.row.Setting.{end_of_row}
use Rattle.sd_rows.specs.rows.Map.{row_at}
use Rattle.sd_rows.proofs.rows.pointwise.end_at.Goals as goal

pub returns-in_ok-place-in-Fault-clause-end : goal.returns-in_ok-place-in-Fault-clause-end
returns-in_ok-place-in-Fault-clause-end c =
    let task = c.args.task.now in
    let setting = row_at task c.args.row.now c.args.steps.now in
    let place_is : c.in_ok-place-in-Fault.place ≡ place_at (setting.context c.in-Fault.k) task.line =
    c.in_ok-place-in-Fault.ensures ∙ ap (λ (here : Context). place_at here task.line) (c.in_ok-go_to-in-Fault.ensures.context c.requires.inside) in
    ap (λ (place : Place). ends.Fault place c.in-Fault.kind) place_is ∙ ap (end_of_row setting) (sym c.in-Fault.is)

pub returns-in_ok-place-in-Fault-clause-inside : goal.returns-in_ok-place-in-Fault-clause-inside
returns-in_ok-place-in-Fault-clause-inside c = c.in_ok-go_to-in-Fault.ensures.inside c.requires.inside
