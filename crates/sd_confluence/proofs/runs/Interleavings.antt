-- Every interleaving of safe work ends as any other one.
use Rattle.std.proofs.Common.{ℕ, List, refl, sym, subst}
use Rattle.sd_work.specs.Residual.{Term}
use Rattle.sd_work.specs.Step.{Done, opening}
use Rattle.sd_work.specs.Run.{Left, Run}
use Rattle.sd_confluence.specs.Safe.{MayInterleave}
use Rattle.sd_confluence.specs.Alike.{LeaveAlike}
use Rattle.sd_confluence.proofs.image.SafeImage.{safe-image}
use Rattle.sd_confluence.proofs.image.AlikeImages.{left-alike}
use Rattle.sd_confluence.proofs.runs.Nearer.{sound-of}
use Rattle.sd_confluence.proofs.runs.Reaching.{left_of, reaches-run, run-reaches}
use Rattle.sd_confluence.proofs.runs.Confluent.{confluent}

pub every-run : {P : Type 0} (term : Term P) (turns : ℕ) (picks others : List ℕ) (left : Left) → MayInterleave term → Run term turns picks (Done left) →
    (end : Left) × Run term turns others (Done end) × LeaveAlike left end
every-run term turns picks others left may h =
    let r = run-reaches h.0 picks (opening term turns) left h.1 in
    let sound = sound-of term may in
    let c = confluent term term refl sound sound (safe-image term may.safe) turns h.0 picks r.0 r.1 others in
    (left_of c.1, (c.0, reaches-run c.0 others (opening term turns) c.1 c.2), subst (λ w. LeaveAlike w (left_of c.1)) (sym r.2) (left-alike r.0 c.1 (sym c.3)))
