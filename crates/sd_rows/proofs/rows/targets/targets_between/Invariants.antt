use Rattle.std.proofs.Common.{◌≡◌, ◌≤◌, ℕ, ℤ, List, take, true}
use Rattle.std.specs.List.{AllByRecursion, AllZip}
use Rattle.sd_graph.specs.Context.{Context}
use Rattle.sd_row.specs.instance.Known.{IsTarget}
use Rattle.sd_rows.specs.declared.rows.steps.Steps.{Steps}
use Rattle.sd_rows.specs.rows.Along.{IsFromTo}
use Rattle.sd_rows.specs.rows.Map.{standing}
use Rattle.sd_rows.specs.rows.Still.{is_still}
use Rattle.sd_rows.proofs.rows.targets.targets_between.Given as goal

-- the targets so far
abbrev pub invariant-loop-link : goal.invariant-loop-link
invariant-loop-link l = (steps : Steps) (values : List ℤ) (context : ℕ → Context) → AllByRecursion (λ link. is_still steps.variable link.memlet.subset.dims ≡ true) l.outs →
    IsFromTo steps l.gaps (standing l.task l.first) (standing l.task l.last) values context → (k : ℕ) → k ≤ l.gaps → AllZip (IsTarget k (context k) (standing l.task l.first)) (take l.link-index l.outs) l.targets.items
