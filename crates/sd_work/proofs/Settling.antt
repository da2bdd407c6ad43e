-- One pass of settling is enough.
use Rattle.std.proofs.Common.{◌≡◌, [], true}
use Rattle.sd_work.specs.Residual.{Term}
use Rattle.sd_work.specs.Settle.{settled}
use Rattle.sd_work.proofs.Absorbing.{absorb}

-- a settled term is settled as it is
pub settled-settled : {P : Type 0} (term : Term P) → settled (settled term) ≡ settled term
settled-settled term = absorb true true (λ go. go) [] [] tt [] [] term (λ level container touch go clear empty. empty)
