-- Settling: which pools are finished for good.
use Rattle.std.specs.Prelude.{ℕ, suc, ℤ, List, [], ◌∷◌, ◌++◌, map, Bool, true, false, ◌&&◌, ◌||◌, slice_index_or}
use Rattle.sd_work.specs.Memory.{Memories, waiting}
use Rattle.sd_work.specs.Residual.{Parts, Items, Points, Term, leaf, list, owning, nested, ended, pool, Terms, none, also, Actives, idle, busy, finished, none_active, is_ready}

-- no value waits
abbrev pub is_empty : List ℤ → Bool
is_empty [] = true
is_empty (value ∷ values) = false

abbrev pub all_true : List Bool → Bool
all_true [] = true
all_true (flag ∷ flags) = flag && all_true flags

-- all earlier points are finished, where the parts are points
abbrev pub is_first_left : Parts → (earlier : List Bool) → Bool
is_first_left Items earlier = true
is_first_left Points earlier = all_true earlier

-- One pass from left to right. A pool is finished for good where it may go on, has no active term over an empty stream,
-- and in each map that holds it but not its stream all earlier points are finished. For each memory of the stack, the
-- list cleared says that all earlier points are finished in each map between here and the memory's owner.
abbrev mutual
  pub settle : {P : Type 0} → (may_go : Bool) → (cleared : List Bool) → Memories → Term P → Term P
  settle may_go cleared memories (leaf place work) = leaf place work
  settle may_go cleared memories (list kind before parts) = list kind before (settle_parts may_go cleared memories kind before [] 0 parts)
  settle may_go cleared memories (owning own part) = owning own (settle may_go (true ∷ cleared) (own ∷ memories) part)
  settle may_go cleared memories (nested body exits own state values part) =
      nested body exits own state values (settle may_go (true ∷ cleared) (own ∷ memories) part)
  settle may_go cleared memories (ended own) = ended own
  settle may_go cleared memories (pool level container body active closed) =
      let inside = settle_active may_go cleared memories active in
      pool level container body inside (closed || (may_go && (none_active inside && (is_empty (waiting level container memories) && slice_index_or cleared level false))))

  -- from the part of this number on; the flags are those of the parts before it
  pub settle_parts : {P : Type 0} → (may_go : Bool) → (cleared : List Bool) → Memories → Parts → (ℕ → ℕ → Bool) → (flags : List Bool) → ℕ → Terms P → Terms P
  settle_parts may_go cleared memories kind before flags number none = none
  settle_parts may_go cleared memories kind before flags number (also part parts) =
      let left = settle (may_go && is_ready before flags number) (map (λ flag. is_first_left kind flags && flag) cleared) memories part in
      also left (settle_parts may_go cleared memories kind before (flags ++ finished left ∷ []) (suc number) parts)

  pub settle_active : {P : Type 0} → (may_go : Bool) → (cleared : List Bool) → Memories → Actives P → Actives P
  settle_active may_go cleared memories idle = idle
  settle_active may_go cleared memories (busy value part active) = busy value (settle may_go cleared memories part) (settle_active may_go cleared memories active)

-- a whole term, which nothing is round
abbrev pub settled : {P : Type 0} → Term P → Term P
settled term = settle true [] [] term
