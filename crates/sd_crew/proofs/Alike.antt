-- Runs from memories that are alike.
use Rattle.std.proofs.Common.{◌≡◌, ℕ, List, [], ◌∷◌, Bool, refl, sym, ◌∙◌, ap, subst}
use Rattle.sd_work.specs.Memory.{Memory}
use Rattle.sd_work.specs.Exit.{Exit, first_exit}
use Rattle.sd_work.specs.Residual.{Items, Term, Terms, list}
use Rattle.sd_work.specs.Step.{Done, opening}
use Rattle.sd_work.specs.Run.{Left, Sequential}
use Rattle.sd_confluence.specs.Alike.{AreAlike, LeaveAlike}
use Rattle.sd_confluence.specs.Safe.{MayInterleave}
use Rattle.sd_confluence.proofs.bags.BagMemory.{Frame, plain}
use Rattle.sd_confluence.proofs.bags.Works.{nest}
use Rattle.sd_confluence.proofs.image.Images.{work_of}
use Rattle.sd_confluence.proofs.image.ImageChanges.{first_exit-plain}
use Rattle.sd_confluence.proofs.image.SafeImage.{safe-image}
use Rattle.sd_confluence.proofs.image.AlikeImages.{frame-alike, alike-frame, left-alike}
use Rattle.sd_confluence.proofs.runs.Nearer.{sound-of}
use Rattle.sd_confluence.proofs.runs.Reaching.{left_of, reaches-run, run-reaches}
use Rattle.sd_confluence.proofs.runs.Confluent.{confluent}
use Rattle.sd_pieces.specs.history.Pieces.{graph_of_items}

pub alike-same : (m : Memory) → AreAlike m m
alike-same m = frame-alike m m refl

pub alike-back : (m n : Memory) → AreAlike m n → AreAlike n m
alike-back m n h = frame-alike n m (sym (alike-frame m n h))

pub alike-on : (m n o : Memory) → AreAlike m n → AreAlike n o → AreAlike m o
alike-on m n o h g = frame-alike m o (alike-frame m n h ∙ alike-frame n o g)

-- the same exit is taken
pub exit-alike : {P : Type 0} (exits : List (Exit P)) (m n : Memory) → AreAlike m n → first_exit exits (m ∷ []) ≡ first_exit exits (n ∷ [])
exit-alike exits m n h = sym (first_exit-plain exits (m ∷ [])) ∙ ap (λ (f : Frame). first_exit exits (plain (f ∷ []))) (alike-frame m n h) ∙ first_exit-plain exits (n ∷ [])

-- items that are done from one of them are done from the other, and leave the same
pub from-alike : {P : Type 0} (before : ℕ → ℕ → Bool) (items : Terms P) (own other : Memory) (turns : ℕ) (left : Left) → MayInterleave (graph_of_items before items own) → MayInterleave (graph_of_items before items other) →
    AreAlike own other → Sequential (graph_of_items before items own) turns (Done left) → (end : Left) × Sequential (graph_of_items before items other) turns (Done end) × LeaveAlike left end
from-alike {P} before items own other turns left may also_may same done =
    let A : Term P = graph_of_items before items own in
    let B : Term P = graph_of_items before items other in
    let r = run-reaches done.0 [] (opening A turns) left done.1 in
    let c =
    confluent A B (ap (λ (f : Frame). nest (λ state values. work_of (list Items before items)) (λ state values. []) f 0 [] (work_of (list Items before items))) (alike-frame own other same))
    (sound-of A may) (sound-of B also_may) (safe-image A may.safe) turns done.0 [] r.0 r.1 [] in
    (left_of c.1, (c.0, reaches-run c.0 [] (opening B turns) c.1 c.2), subst (λ w. LeaveAlike w (left_of c.1)) (sym r.2) (left-alike r.0 c.1 (sym c.3)))
