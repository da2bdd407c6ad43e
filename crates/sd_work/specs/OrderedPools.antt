-- Terms whose pools stand in an order with what may feed them.
use Rattle.std.specs.Prelude.{◌≡◌, ◌<◌, ℕ, suc, ℤ, true, false, ⊤}
use Rattle.sd_work.specs.Exit.{Values}
use Rattle.sd_work.specs.Residual.{Items, Term, leaf, list, owning, nested, ended, pool, Terms, none, also, part_at, Actives, idle, busy, finished}
use Rattle.sd_work.specs.Touch.{pushes, takes, Touches}

-- the first of two terms pushes into no stream that the second takes from
abbrev pub DoesNotFeed : {P : Type 0} → (first second : Term P) → Type 0
DoesNotFeed first second = (level container : ℕ) → Touches first (pushes level container) → Touches second (takes level container) → ⊥

-- each active term but the last is finished
abbrev pub AllButLastFinished : {P : Type 0} → Actives P → Type 0
AllButLastFinished idle = ⊤
AllButLastFinished (busy value part idle) = ⊤
AllButLastFinished (busy value part (busy other next active)) = (finished part ≡ true) × AllButLastFinished (busy other next active)

-- With so many memories on the stack: each pool that is not finished for good is over a stream of one of them, with at most its
-- last active term unfinished, and of two items that are not one before the other, the earlier does not feed the later. Of points nothing
-- is asked: a pool in one of them over a stream outside of the map waits for earlier points as it is.
abbrev mutual
  pub HasOrderedPools : {P : Type 0} → (depth : ℕ) → Term P → Type 0
  HasOrderedPools depth (leaf place work) = ⊤
  HasOrderedPools depth (list kind before parts) =
      HaveOrderedPools depth parts
      × (kind ≡ Items → (i j : ℕ) → i < j → before i j ≡ false → DoesNotFeed (part_at parts i) (part_at parts j))
  HasOrderedPools depth (owning own part) = HasOrderedPools (suc depth) part
  HasOrderedPools depth (nested body exits own state values part) =
      HasOrderedPools (suc depth) part × ((state : ℕ) (values : Values) → HasOrderedPools (suc depth) (body state values))
  HasOrderedPools depth (ended own) = ⊤
  HasOrderedPools depth (pool level container body active true) = ⊤
  HasOrderedPools depth (pool level container body active false) =
      (level < depth) × AllButLastFinished active × HaveOrderedActivePools depth active × ((value : ℤ) → HasOrderedPools depth (body value))

  pub HaveOrderedPools : {P : Type 0} → (depth : ℕ) → Terms P → Type 0
  HaveOrderedPools depth none = ⊤
  HaveOrderedPools depth (also part parts) = HasOrderedPools depth part × HaveOrderedPools depth parts

  pub HaveOrderedActivePools : {P : Type 0} → (depth : ℕ) → Actives P → Type 0
  HaveOrderedActivePools depth idle = ⊤
  HaveOrderedActivePools depth (busy value part active) = HasOrderedPools depth part × HaveOrderedActivePools depth active
