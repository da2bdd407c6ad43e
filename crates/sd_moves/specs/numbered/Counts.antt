-- How many moves come next, part by part.
use Rattle.std.specs.Prelude.{ℕ, suc, ◌+◌, List, ◌∷◌, length, Bool, true, false, cond, not}
use Rattle.sd_work.specs.Memory.{Memories, waiting}
use Rattle.sd_work.specs.Leaf.{is_done}
use Rattle.sd_work.specs.Residual.{Term, leaf, list, owning, nested, ended, pool, Terms, none, also, Actives, idle, busy, finished, flags_of, is_ready}

abbrev pub one_if : Bool → ℕ
one_if true = 1
one_if false = 0

abbrev mutual
  -- a leaf has one until it is done; a list has those of the parts that may go on; a nested run has those of its state, and one where that is finished; an open pool has those of its active terms, and one for each value that waits
  pub count : {P : Type 0} → Term P → Memories → ℕ
  count (leaf place work) memories = one_if (not (is_done work))
  count (list kind before parts) memories = count_parts before (flags_of parts) 0 parts memories
  count (owning own part) memories = count part (own ∷ memories)
  count (nested body exits own state values part) memories = cond (finished part) 1 (count part (own ∷ memories))
  count (ended own) memories = 0
  count (pool level container body active closed) memories = cond closed 0 (count_active active memories + length (waiting level container memories))

  -- those of the parts from this number on, where these flags tell which parts of the list are finished
  pub count_parts : {P : Type 0} → (ℕ → ℕ → Bool) → (flags : List Bool) → (number : ℕ) → Terms P → Memories → ℕ
  count_parts before flags number none memories = 0
  count_parts before flags number (also part parts) memories =
      cond (is_ready before flags number) (count part memories) 0 + count_parts before flags (suc number) parts memories

  pub count_active : {P : Type 0} → Actives P → Memories → ℕ
  count_active idle memories = 0
  count_active (busy value part active) memories = count part memories + count_active active memories
