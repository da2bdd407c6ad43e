use Rattle.std.proofs.Common.{◌≡◌, drop, true}
use Rattle.std.specs.List.{AllByRecursion}
use Rattle.sd_rows.specs.rows.Still.{is_still}
use Rattle.sd_rows.proofs.rows.still.are_still.Given as goal

-- where those that are left are still, all are
abbrev pub invariant-loop-link : goal.invariant-loop-link
invariant-loop-link l = AllByRecursion (λ link. is_still l.variable link.memlet.subset.dims ≡ true) (drop l.link-index l.links) → AllByRecursion (λ link. is_still l.variable link.memlet.subset.dims ≡ true) l.links
