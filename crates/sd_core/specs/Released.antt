-- Work of which finished owners have let go of what they held.
use Rattle.std.specs.Prelude.{◌≡◌, ℕ, ℤ, List, Bool, true}
use Rattle.sd_work.specs.Memory.{Memory}
use Rattle.sd_work.specs.Exit.{Values, Exit}
use Rattle.sd_work.specs.Residual.{Parts, Term, list, owning, nested, pool, Terms, none, also, Actives, idle, busy, all_finished}
use Rattle.sd_moves.specs.numbered.OpenPools.{HaveNoOpenPool}

-- a finished owner without open pools may keep no part and any memory; all else stays as it is
mutual
  pub data IsReleased {P : Type 0} : (old new : Term P) → Type 0 where
    same : {term : Term P} → IsReleased term term
    let_go : {kind : Parts} {before : ℕ → ℕ → Bool} {parts : Terms P} → (own memory : Memory) → all_finished parts ≡ true → HaveNoOpenPool parts
        → IsReleased (owning own (list kind before parts)) (owning memory (list kind before none))
    in_list : {kind : Parts} {before : ℕ → ℕ → Bool} {parts others : Terms P} → AreReleased parts others
        → IsReleased (list kind before parts) (list kind before others)
    in_owner : {own : Memory} {part other : Term P} → IsReleased part other → IsReleased (owning own part) (owning own other)
    in_run : {body : ℕ → Values → Term P} {exits : ℕ → Values → List (Exit P)} {own : Memory} {state : ℕ} {values : Values} {part other : Term P}
        → IsReleased part other → IsReleased (nested body exits own state values part) (nested body exits own state values other)
    in_pool : {level container : ℕ} {body : ℤ → Term P} {closed : Bool} {active others : Actives P} → AreActiveReleased active others
        → IsReleased (pool level container body active closed) (pool level container body others closed)

  pub data AreReleased {P : Type 0} : (old new : Terms P) → Type 0 where
    no_part : AreReleased none none
    each_part : {part other : Term P} {parts others : Terms P} → IsReleased part other → AreReleased parts others → AreReleased (also part parts) (also other others)

  pub data AreActiveReleased {P : Type 0} : (old new : Actives P) → Type 0 where
    no_active : AreActiveReleased idle idle
    each_active : {value : ℤ} {part other : Term P} {active others : Actives P} → IsReleased part other → AreActiveReleased active others
        → AreActiveReleased (busy value part active) (busy value other others)
