use Rattle.std.proofs.Common.{drop}
use Rattle.sd_safe.specs.normal.NormalForm.{AreParamsNormal}
use Rattle.sd_safe.proofs.normal.parts.show_params.Given as goal

-- all are where those left are
abbrev pub invariant-loop-range : goal.invariant-loop-range
invariant-loop-range l = AreParamsNormal (drop l.range-index l.params) → AreParamsNormal l.params
