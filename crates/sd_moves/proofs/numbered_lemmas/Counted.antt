-- The list of next moves is as long as the counts say.
use Rattle.std.proofs.Common.{◌≡◌, ℕ, suc, ◌+◌, ℤ, List, [], ◌∷◌, ◌++◌, Bool, true, false, cond, not, length, refl, sym, ◌∙◌, ap, ap₂, length-append}
use Rattle.sd_work.specs.Memory.{Memories, waiting}
use Rattle.sd_work.specs.Leaf.{is_done}
use Rattle.sd_work.specs.Residual.{Term, leaf, list, owning, nested, ended, pool, Terms, none, also, Actives, idle, busy, finished, flags_of, is_ready}
use Rattle.sd_work.specs.Moves.{Path, here_if, moves_in, takes_from, moves, moves_of_parts, moves_of_active}
use Rattle.sd_work.proofs.Finished.{moves-finished}
use Rattle.sd_moves.specs.numbered.Counts.{one_if, count, count_parts, count_active}

here_count : (here : Bool) → length (here_if here) ≡ one_if here
here_count true = refl
here_count false = refl

pub in_count : (number : ℕ) (paths : List Path) → length (moves_in number paths) ≡ length paths
in_count number [] = refl
in_count number (path ∷ paths) = ap suc (in_count number paths)

pub takes_count : (position : ℕ) (values : List ℤ) → length (takes_from position values) ≡ length values
takes_count position [] = refl
takes_count position (value ∷ values) = ap suc (takes_count (suc position) values)

-- the moves of a part that may go on
pub part_count : (ready : Bool) (number : ℕ) (paths : List Path) (counted : ℕ) → length paths ≡ counted → length (cond ready (moves_in number paths) []) ≡ cond ready counted 0
part_count true number paths counted h = in_count number paths ∙ h
part_count false number paths counted h = refl

run_count : (over : Bool) (paths : List Path) (counted : ℕ) → length paths ≡ counted → length (cond over ([] ∷ []) paths) ≡ cond over 1 counted
run_count true paths counted h = refl
run_count false paths counted h = h

pool_count : (closed : Bool) (paths : List Path) (counted : ℕ) → length paths ≡ counted → length (cond closed [] paths) ≡ cond closed 0 counted
pool_count true paths counted h = refl
pool_count false paths counted h = h

mutual
  pub counted : {P : Type 0} (term : Term P) (memories : Memories) → length (moves term memories) ≡ count term memories
  counted (leaf place work) memories = here_count (not (is_done work))
  counted (list kind before parts) memories = counted_parts before (flags_of parts) 0 parts memories
  counted (owning own part) memories = counted part (own ∷ memories)
  counted (nested body exits own state values part) memories = run_count (finished part) (moves part (own ∷ memories)) (count part (own ∷ memories)) (counted part (own ∷ memories))
  counted (ended own) memories = refl
  counted (pool level container body active closed) memories =
      pool_count closed (moves_in 1 (moves_of_active 0 active memories) ++ takes_from 0 (waiting level container memories)) (count_active active memories + length (waiting level container memories))
      (length-append (moves_in 1 (moves_of_active 0 active memories)) (takes_from 0 (waiting level container memories))
      ∙ ap₂ (λ a b. a + b) (in_count 1 (moves_of_active 0 active memories) ∙ counted_active 0 active memories) (takes_count 0 (waiting level container memories)))

  pub counted_parts : {P : Type 0} (before : ℕ → ℕ → Bool) (flags : List Bool) (number : ℕ) (parts : Terms P) (memories : Memories)
      → length (moves_of_parts before flags number parts memories) ≡ count_parts before flags number parts memories
  counted_parts before flags number none memories = refl
  counted_parts before flags number (also part parts) memories =
      length-append (cond (is_ready before flags number) (moves_in number (moves part memories)) []) (moves_of_parts before flags (suc number) parts memories)
      ∙ ap₂ (λ a b. a + b) (part_count (is_ready before flags number) number (moves part memories) (count part memories) (counted part memories))
      (counted_parts before flags (suc number) parts memories)

  pub counted_active : {P : Type 0} (number : ℕ) (active : Actives P) (memories : Memories) → length (moves_of_active number active memories) ≡ count_active active memories
  counted_active number idle memories = refl
  counted_active number (busy value part active) memories =
      length-append (moves_in number (moves part memories)) (moves_of_active (suc number) active memories)
      ∙ ap₂ (λ a b. a + b) (in_count number (moves part memories) ∙ counted part memories) (counted_active (suc number) active memories)

pub count-finished : {P : Type 0} (term : Term P) (memories : Memories) → finished term ≡ true → count term memories ≡ 0
count-finished term memories h = sym (counted term memories) ∙ ap length (moves-finished term memories h)
