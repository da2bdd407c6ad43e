-- Where nothing is left to do there is no move.
use Rattle.std.proofs.Common.{◌≡◌, ℕ, suc, List, [], ◌∷◌, ◌++◌, Bool, true, false, not, cond, refl, ap}
use Rattle.sd_work.specs.Memory.{Memories}
use Rattle.sd_work.specs.Residual.{Term, leaf, list, owning, nested, ended, pool, Terms, none, also, finished, all_finished, flags_of}
use Rattle.sd_work.specs.Moves.{Path, here_if, moves_in, moves, moves_of_parts}
use Rattle.sd_work.proofs.Flags.{both}

no_moves : (ready : Bool) (number : ℕ) (paths others : List Path) → paths ≡ [] → others ≡ [] → cond ready (moves_in number paths) [] ++ others ≡ []
no_moves true number paths others p q = λ i. moves_in number (p i) ++ q i
no_moves false number paths others p q = q

mutual
  pub moves-finished : {P : Type 0} (term : Term P) (memories : Memories) → finished term ≡ true → moves term memories ≡ []
  moves-finished (leaf place work) memories h = ap (λ done. here_if (not done)) h
  moves-finished (list kind before parts) memories h = moves_of_parts-finished before (flags_of parts) 0 parts memories h
  moves-finished (owning own part) memories h = moves-finished part (own ∷ memories) h
  moves-finished (nested body exits own state values part) memories h = cc
  moves-finished (ended own) memories h = refl
  moves-finished (pool level container body active true) memories h = refl
  moves-finished (pool level container body active false) memories h = cc

  moves_of_parts-finished : {P : Type 0} (before : ℕ → ℕ → Bool) (flags : List Bool) (number : ℕ) (parts : Terms P) (memories : Memories) → all_finished parts ≡ true → moves_of_parts before flags number parts memories ≡ []
  moves_of_parts-finished before flags number none memories h = refl
  moves_of_parts-finished before flags number (also part parts) memories h =
      no_moves _ number _ _ (moves-finished part memories (both (finished part) (all_finished parts) h).0)
      (moves_of_parts-finished before flags (suc number) parts memories (both (finished part) (all_finished parts) h).1)
