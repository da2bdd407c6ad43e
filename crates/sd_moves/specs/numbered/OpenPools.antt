-- Work without open pools.
use Rattle.std.specs.Prelude.{◌≡◌, true, ⊤}
use Rattle.sd_work.specs.Residual.{Term, leaf, list, owning, nested, ended, pool, Terms, none, also, Actives, idle, busy}

-- each pool is finished for good, also those in active terms
abbrev mutual
  pub HasNoOpenPool : {P : Type 0} → Term P → Type 0
  HasNoOpenPool (leaf place work) = ⊤
  HasNoOpenPool (list kind before parts) = HaveNoOpenPool parts
  HasNoOpenPool (owning own part) = HasNoOpenPool part
  HasNoOpenPool (nested body exits own state values part) = HasNoOpenPool part
  HasNoOpenPool (ended own) = ⊤
  HasNoOpenPool (pool level container body active closed) = (closed ≡ true) × HaveNoActiveOpenPool active

  pub HaveNoOpenPool : {P : Type 0} → Terms P → Type 0
  HaveNoOpenPool none = ⊤
  HaveNoOpenPool (also part parts) = HasNoOpenPool part × HaveNoOpenPool parts

  pub HaveNoActiveOpenPool : {P : Type 0} → Actives P → Type 0
  HaveNoActiveOpenPool idle = ⊤
  HaveNoActiveOpenPool (busy value part active) = HasNoOpenPool part × HaveNoActiveOpenPool active
