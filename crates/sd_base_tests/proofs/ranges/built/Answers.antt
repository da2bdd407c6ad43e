use Rattle.std.proofs.Common.{rules, pos, ◌+◌, get_or, sym, FitsSigned}
use Rattle.std.specs.Int.{w128}
use Rattle.std.proofs.lemmas.Int.{to_z-of_z}
use Rattle.std.proofs.lemmas.List.{take_more}
use Rattle.sd_range.proofs.Normal.{normal-take}
use Rattle.sd_base_tests.proofs.ranges.built.Goals as goal

pub push-requires : goal.push-requires
push-requires c =
    let terms = c.args.terms.now in
    let i = c.loop-variable.variable-index in
    let coefficient_fits : FitsSigned w128 (get_or terms i (0, pos 0)).1 = search rules in
    simp to_z-of_z
    (rw (c.loop-variable.invariant, sym (take_more terms i (0, pos 0) c.loop-variable-test.true)) (normal-take terms (i + 1) c.requires))
