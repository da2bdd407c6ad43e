-- Containers whose elements are found once, and containers that are reached apart.
use Rattle.std.specs.Prelude.{◌≡◌, ◌≢◌, ℕ, ℤ, List, Some, true}
use Rattle.std.specs.List.{Contains}
use Rattle.sd_work.specs.Harmless.{AreTwo}
use Rattle.sd_subset.specs.boxes.Box.{Parameter}
use Rattle.sd_subset.specs.boxes.InForce.{AreInForce}
use Rattle.sd_graph.specs.Mode.{do_conflict}
use Rattle.sd_graph.specs.Wiring.{Use}
use Rattle.sd_graph.specs.Context.{Reach, Context}

-- a container whose elements are found, where found, at one index each
abbrev pub FindsOnce : Reach → Type 0
FindsOnce reach = (index other : List ℤ) (element : ℕ) → reach.find index ≡ Some element → reach.find other ≡ Some element → index ≡ other

abbrev pub FindOnce : (ℕ → Reach) → Type 0
FindOnce reach = (container : ℕ) → FindsOnce (reach container)

-- two containers are reached at different places
abbrev pub AreReachedApart : (ℕ → Reach) → (container other : ℕ) → Type 0
AreReachedApart reach container other = AreTwo (reach container).level (reach container).container (reach other).level (reach other).container

-- two containers of uses that would conflict on one container are
abbrev pub AreApartFor : (ℕ → Reach) → List Use → Type 0
AreApartFor reach uses = (use' other : Use) → Contains uses use' → Contains uses other → use'.container ≢ other.container → do_conflict use'.mode other.mode ≡ true →
    AreReachedApart reach use'.container other.container

-- a context in which work with these uses may stand, with these parameters in force around it
pub record MayStand (context : Context) (around : List Parameter) (uses : List Use) : Type 0 where
  pub in_force : AreInForce context.values around
  pub once : FindOnce context.reach
  pub apart : AreApartFor context.reach uses
