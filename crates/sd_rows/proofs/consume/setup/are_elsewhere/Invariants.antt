use Rattle.std.proofs.Common.{◌≡◌, drop}
use Rattle.std.specs.List.{AllByRecursion}
use Rattle.sd_rows.proofs.consume.setup.are_elsewhere.Given as goal

-- where those that are left are elsewhere, all are
abbrev pub invariant-loop-link : goal.invariant-loop-link
invariant-loop-link l = AllByRecursion (λ link. (link.memlet.container ≡ l.element) → ⊥) (drop l.link-index l.outs) → AllByRecursion (λ link. (link.memlet.container ≡ l.element) → ⊥) l.outs
