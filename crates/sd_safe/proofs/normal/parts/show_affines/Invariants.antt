use Rattle.std.proofs.Common.{drop}
use Rattle.sd_safe.specs.normal.NormalForm.{AreAffinesNormal}
use Rattle.sd_safe.proofs.normal.parts.show_affines.Given as goal

-- all are where those left are
abbrev pub invariant-loop-a : goal.invariant-loop-a
invariant-loop-a l = AreAffinesNormal (drop l.a-index l.all) → AreAffinesNormal l.all
