-- The least number that stands against a line.
use Rattle.std.specs.Prelude.{ℕ, Option, Some, None, if◌then◌else◌}
use Rattle.sd_line.specs.line.Head.{HeadTree}
use Rattle.sd_names.specs.Names.{Names}
use Rattle.sd_refusal.specs.declared.site.Site.{Site}
use Rattle.sd_refusal.specs.NotAForm.{is_no_form}
use Rattle.sd_uses.specs.UnknownName.{has_unknown_name}
use Rattle.sd_refusal.specs.NotAffine.{is_not_affine}
use Rattle.sd_uses.specs.Twice.{declares_twice}
use Rattle.sd_refusal.specs.BadResolution.{has_bad_resolution}
use Rattle.sd_refusal.specs.OverLimit.{is_over_limit}
use Rattle.sd_uses.specs.ShapeMismatch.{has_mismatch}

-- the least of the numbers that stand against a line
abbrev pub refusal : Names → Site → HeadTree → Option ℕ
refusal names site head =
    if is_no_form names site head then Some 4
    else if has_unknown_name names site.kind head then Some 5
    else if is_not_affine names site.kind head then Some 6
    else if declares_twice names head then Some 7
    else if is_over_limit names site head then Some 8
    else if has_bad_resolution head then Some 9
    else if has_mismatch names head then Some 10
    else None
