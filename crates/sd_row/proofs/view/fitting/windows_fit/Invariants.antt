use Rattle.std.proofs.Common.{◌≡◌, length, map, drop}
use Rattle.sd_row.proofs.view.fitting.windows_fit.Given as goal

-- all are the same where those that are left are
abbrev pub invariant-loop-number : goal.invariant-loop-number
invariant-loop-number l = map (λ window. length window.extents.items) (drop l.number l.windows) ≡ drop l.number l.dims → map (λ window. length window.extents.items) l.windows ≡ l.dims
