use Rattle.std.proofs.Common.{◌≡◌, drop}
use Rattle.std.specs.List.{list_all}
use Rattle.sd_validity.specs.rules.Parts.{is_empty}
use Rattle.sd_rules.proofs.sizes.are_constant.Given as goal

-- those left are constants where all are
abbrev pub invariant-loop-extent : goal.invariant-loop-extent
invariant-loop-extent l = list_all (λ extent. is_empty extent.terms) (drop l.extent-index l.extents) ≡ list_all (λ extent. is_empty extent.terms) l.extents
