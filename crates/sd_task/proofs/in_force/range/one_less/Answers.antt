use Rattle.std.proofs.Common.{subst, sym}
use Rattle.sd_range.specs.Arithmetic.{IsRepresentable, affine_difference}
use Rattle.sd_task.proofs.in_force_lemmas.SmallLemmas.{one_less_fits}
use Rattle.sd_task.proofs.in_force.range.one_less.Goals as goal

pub minus-requires : goal.minus-requires
minus-requires c = subst (λ a. IsRepresentable (affine_difference c.args.end.now a)) (sym c.number.ensures) (one_less_fits c.args.end.now c.requires)
