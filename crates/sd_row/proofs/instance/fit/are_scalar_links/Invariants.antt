use Rattle.std.proofs.Common.{◌≡◌, drop, true}
use Rattle.std.specs.List.{AllByRecursion}
use Rattle.sd_scope.specs.even.Even.{is_scalar}
use Rattle.sd_row.proofs.instance.fit.are_scalar_links.Given as goal

-- where those that are left are scalars, all are
abbrev pub invariant-loop-link : goal.invariant-loop-link
invariant-loop-link l = AllByRecursion (λ link. is_scalar link.memlet.subset.dims ≡ true) (drop l.link-index l.links) → AllByRecursion (λ link. is_scalar link.memlet.subset.dims ≡ true) l.links
