use Rattle.std.proofs.Common.{◌≡◌, length, map, drop}
use Rattle.sd_row.proofs.view.fitting.extents_fit.Given as goal

-- all are the same where those that are left are
abbrev pub invariant-loop-number : goal.invariant-loop-number
invariant-loop-number l = map (λ extents. length extents.items) (drop l.number l.all) ≡ drop l.number l.dims → map (λ extents. length extents.items) l.all ≡ l.dims
