use Rattle.std.proofs.Common.{◌≡◌, ℕ, Vec, length, map, true, sym, ap, ◌∙◌, rules}
use Rattle.std.specs.declared.alloc.Global.{Global}
use Rattle.sd_row.specs.declared.view.window.Window.{Window}
use Rattle.sd_row.proofs.view_lemmas.Seen.{dims_fit}
use Rattle.sd_row.proofs.view.views.Views.fit.Goals as goal

pub returns-then-windows_fit : goal.returns-then-windows_fit
returns-then-windows_fit c all k memories =
    let fits : c.windows_fit.result ≡ true = search rules in
    let first = c.split_at.result.0.now in
    let second = c.split_at.result.1.now in
    dims_fit k memories c.args.self.now c.args.code.now.dims first second
    (ap (map (λ (window : Window). length window.extents.items)) (sym c.as_slice.ensures.value) ∙ c.windows_fit.ensures fits)
    (ap (map (λ (extents : Vec ℕ Global). length extents.items)) (sym c.as_slice-then-windows_fit.ensures.value) ∙ c.extents_fit.ensures all)
    (sym c.split_at.ensures.by_index.0 ∙ c.dims-dims.ensures)
