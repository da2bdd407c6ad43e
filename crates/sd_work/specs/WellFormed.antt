-- Which terms are in order, which have no pool or pools over memories that are there, in which each cycle of transitions
-- spends a turn, and which machines go on until they are finished.
use Rattle.std.specs.Prelude.{◌≡◌, ◌⊎◌, ◌<◌, ℕ, suc, ℤ, List, [], ◌∷◌, true, false, ⊤}
use Rattle.sd_work.specs.Exit.{Values, Exit}
use Rattle.sd_work.specs.Residual.{Term, leaf, list, owning, nested, ended, pool, Terms, none, also, Actives, idle, busy, IsOrder}
use Rattle.sd_work.specs.Settle.{settled}
use Rattle.sd_work.specs.Step.{Machine}

-- each list has an order, also in all that may be unfolded later, for every state and all values
abbrev mutual
  pub IsOrdered : {P : Type 0} → Term P → Type 0
  IsOrdered (leaf place work) = ⊤
  IsOrdered (list kind before parts) = IsOrder before × AreOrdered parts
  IsOrdered (owning own part) = IsOrdered part
  IsOrdered (nested body exits own state values part) = IsOrdered part × ((state : ℕ) (values : Values) → IsOrdered (body state values))
  IsOrdered (ended own) = ⊤
  IsOrdered (pool level container body active closed) = AreActiveOrdered active × ((value : ℤ) → IsOrdered (body value))

  pub AreOrdered : {P : Type 0} → Terms P → Type 0
  AreOrdered none = ⊤
  AreOrdered (also part parts) = IsOrdered part × AreOrdered parts

  pub AreActiveOrdered : {P : Type 0} → Actives P → Type 0
  AreActiveOrdered idle = ⊤
  AreActiveOrdered (busy value part active) = IsOrdered part × AreActiveOrdered active

-- no pool, also in all that may be unfolded later
abbrev mutual
  pub HasNoPool : {P : Type 0} → Term P → Type 0
  HasNoPool (leaf place work) = ⊤
  HasNoPool (list kind before parts) = HaveNoPool parts
  HasNoPool (owning own part) = HasNoPool part
  HasNoPool (nested body exits own state values part) = HasNoPool part × ((state : ℕ) (values : Values) → HasNoPool (body state values))
  HasNoPool (ended own) = ⊤
  HasNoPool (pool level container body active closed) = ⊥

  pub HaveNoPool : {P : Type 0} → Terms P → Type 0
  HaveNoPool none = ⊤
  HaveNoPool (also part parts) = HasNoPool part × HaveNoPool parts

-- with so many memories on the stack, each pool that is not finished for good is over a stream of one of them, also in all that may be unfolded later
abbrev mutual
  pub HasPoolMemories : {P : Type 0} → (depth : ℕ) → Term P → Type 0
  HasPoolMemories depth (leaf place work) = ⊤
  HasPoolMemories depth (list kind before parts) = HavePoolMemories depth parts
  HasPoolMemories depth (owning own part) = HasPoolMemories (suc depth) part
  HasPoolMemories depth (nested body exits own state values part) =
      HasPoolMemories (suc depth) part × ((state : ℕ) (values : Values) → HasPoolMemories (suc depth) (body state values))
  HasPoolMemories depth (ended own) = ⊤
  HasPoolMemories depth (pool level container body active true) = ⊤
  HasPoolMemories depth (pool level container body active false) =
      (level < depth) × HaveActivePoolMemories depth active × ((value : ℤ) → HasPoolMemories depth (body value))

  pub HavePoolMemories : {P : Type 0} → (depth : ℕ) → Terms P → Type 0
  HavePoolMemories depth none = ⊤
  HavePoolMemories depth (also part parts) = HasPoolMemories depth part × HavePoolMemories depth parts

  pub HaveActivePoolMemories : {P : Type 0} → (depth : ℕ) → Actives P → Type 0
  HaveActivePoolMemories depth idle = ⊤
  HaveActivePoolMemories depth (busy value part active) = HasPoolMemories depth part × HaveActivePoolMemories depth active

-- a machine is settled, its lists have orders, and the memories of its pools are there
pub record IsWellFormed {P : Type 0} (machine : Machine P) : Type 0 where
  pub settles : settled machine.term ≡ machine.term
  pub ordered : IsOrdered machine.term
  pub memories : HasPoolMemories 0 machine.term

-- each exit of a state wants a turn, or leads to a state of a higher rank that is below a bound
abbrev pub Rises : {P : Type 0} → (rank : ℕ → ℕ) → (bound : ℕ) → (state : ℕ) → List (Exit P) → Type 0
Rises rank bound state [] = ⊤
Rises rank bound state (exit ∷ exits) =
    ((exit.marked ≡ true) ⊎ ((rank state < rank exit.state) × (rank exit.state < bound))) × Rises rank bound state exits

-- each cycle of transitions of a graph spends a turn: its states have ranks which each transition without one raises
pub record HasRanks {P : Type 0} (exits : ℕ → Values → List (Exit P)) : Type 0 where
  pub rank : ℕ → ℕ
  pub bound : ℕ
  pub rises : (state : ℕ) (values : Values) → Rises rank bound state (exits state values)

-- each cycle of transitions spends a turn, also in all that may be unfolded later
abbrev mutual
  pub PaysCycles : {P : Type 0} → Term P → Type 0
  PaysCycles (leaf place work) = ⊤
  PaysCycles (list kind before parts) = PayCycles parts
  PaysCycles (owning own part) = PaysCycles part
  PaysCycles (nested body exits own state values part) =
      PaysCycles part × ((state : ℕ) (values : Values) → PaysCycles (body state values)) × HasRanks exits
  PaysCycles (ended own) = ⊤
  PaysCycles (pool level container body active closed) = PayActiveCycles active × ((value : ℤ) → PaysCycles (body value))

  pub PayCycles : {P : Type 0} → Terms P → Type 0
  PayCycles none = ⊤
  PayCycles (also part parts) = PaysCycles part × PayCycles parts

  pub PayActiveCycles : {P : Type 0} → Actives P → Type 0
  PayActiveCycles idle = ⊤
  PayActiveCycles (busy value part active) = PaysCycles part × PayActiveCycles active

-- a run of a graph
abbrev pub IsRun : {P : Type 0} → Term P → Type 0
IsRun (leaf place work) = ⊥
IsRun (list kind before parts) = ⊥
IsRun (owning own part) = ⊥
IsRun (nested body exits own state values part) = ⊤
IsRun (ended own) = ⊤
IsRun (pool level container body active closed) = ⊥
