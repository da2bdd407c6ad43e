-- What was let go has no next moves.
use Rattle.std.proofs.Common.{◌≡◌, ℕ, suc, List, [], ◌∷◌, ◌++◌, Bool, cond, ◌&&◌, refl, sym, ap, ap₂, ◌∙◌}
use Rattle.sd_work.specs.Memory.{Memories, waiting}
use Rattle.sd_work.specs.Residual.{Term, list, Terms, Actives, finished, all_finished, none_active, flags_of, is_ready}
use Rattle.sd_work.specs.Moves.{Path, moves_in, takes_from, moves, moves_of_parts, moves_of_active}
use Rattle.sd_work.specs.Run.{memory_of}
use Rattle.sd_work.proofs.Finished.{moves-finished}
use Rattle.sd_core.specs.Released.{IsReleased, same, let_go, in_list, in_owner, in_run, in_pool, AreReleased, no_part, each_part, AreActiveReleased, no_active, each_active}

mutual
  pub finished-released : {P : Type 0} {old new : Term P} → IsReleased old new → finished new ≡ finished old
  finished-released same = refl
  finished-released (let_go own memory over closed) = sym over
  finished-released (in_list parts) = all-released parts
  finished-released (in_owner part) = finished-released part
  finished-released (in_run part) = refl
  finished-released (in_pool changed) = refl

  pub all-released : {P : Type 0} {old new : Terms P} → AreReleased old new → all_finished new ≡ all_finished old
  all-released no_part = refl
  all-released (each_part part parts) = ap₂ (λ (a b : Bool). a && b) (finished-released part) (all-released parts)

pub none-released : {P : Type 0} {old new : Actives P} → AreActiveReleased old new → none_active new ≡ none_active old
none-released no_active = refl
none-released (each_active part active) = ap₂ (λ (a b : Bool). a && b) (finished-released part) (none-released active)

pub flags-released : {P : Type 0} {old new : Terms P} → AreReleased old new → flags_of new ≡ flags_of old
flags-released no_part = refl
flags-released (each_part part parts) = ap₂ (λ (flag : Bool) (flags : List Bool). flag ∷ flags) (finished-released part) (flags-released parts)

pub memory-released : {P : Type 0} {old new : Term P} → IsReleased old new → memory_of new ≡ memory_of old
memory-released same = refl
memory-released (let_go own memory over closed) = refl
memory-released (in_list parts) = refl
memory-released (in_owner part) = refl
memory-released (in_run part) = refl
memory-released (in_pool changed) = refl

mutual
  pub moves-released : {P : Type 0} {old new : Term P} (memories : Memories) → IsReleased old new → moves new memories ≡ moves old memories
  moves-released memories same = refl
  moves-released memories (let_go {kind} {before} {parts} own memory over closed) = sym (moves-finished (list kind before parts) (own ∷ memories) over)
  moves-released memories (in_list {kind} {before} {parts} {others} changed) =
      ap (λ (flags : List Bool). moves_of_parts before flags 0 others memories) (flags-released changed) ∙ moves_of_parts-released before (flags_of parts) 0 memories changed
  moves-released memories (in_owner {own} part) = moves-released (own ∷ memories) part
  moves-released memories (in_run {own = own} part) = ap₂ (λ (over : Bool) (paths : List Path). cond over ([] ∷ []) paths) (finished-released part) (moves-released (own ∷ memories) part)
  moves-released memories (in_pool {level} {container} {closed = closed} active) =
      ap (λ (paths : List Path). cond closed [] (moves_in 1 paths ++ takes_from 0 (waiting level container memories))) (moves_of_active-released 0 memories active)

  pub moves_of_parts-released : {P : Type 0} {old new : Terms P} (before : ℕ → ℕ → Bool) (flags : List Bool) (number : ℕ) (memories : Memories) → AreReleased old new
      → moves_of_parts before flags number new memories ≡ moves_of_parts before flags number old memories
  moves_of_parts-released before flags number memories no_part = refl
  moves_of_parts-released before flags number memories (each_part part parts) =
      ap₂ (λ (here later : List Path). cond (is_ready before flags number) (moves_in number here) [] ++ later) (moves-released memories part) (moves_of_parts-released before flags (suc number) memories parts)

  pub moves_of_active-released : {P : Type 0} {old new : Actives P} (number : ℕ) (memories : Memories) → AreActiveReleased old new
      → moves_of_active number new memories ≡ moves_of_active number old memories
  moves_of_active-released number memories no_active = refl
  moves_of_active-released number memories (each_active part active) =
      ap₂ (λ (here later : List Path). moves_in number here ++ later) (moves-released memories part) (moves_of_active-released (suc number) memories active)
