-- Accesses that are clear of each other, and boxes that enclose others.
use Rattle.std.specs.Prelude.{◌≡◌, ◌≢◌, ℕ, ◌≤ℤ◌, List, [], ◌∷◌, ◌++◌, Option, Some, None, false, ⊤, slice_get}
use Rattle.std.specs.List.{All, Contains}
use Rattle.sd_subset.specs.declared.boxes.bounds.Bounds.{Bounds}
use Rattle.sd_subset.specs.boxes.Box.{Box}
use Rattle.sd_graph.specs.Mode.{do_conflict}
use Rattle.sd_prop.specs.propagation.Accesses.{Access}
use Rattle.sd_prop.specs.propagation.Scopes.{Scope}
use Rattle.sd_race.specs.race.Pairs.{IsAccepted, pair_of}
use Rattle.sd_race.specs.declared.checking.placed.Placed.{Placed}
use Rattle.sd_race.specs.declared.checking.enclosing.Widest.{Widest}

-- bounds with the terms of others, as low and as high as they or more
pub record EnclosesBounds (whole one : Bounds) : Type 0 where
  pub low_terms : one.low.terms ≡ whole.low.terms
  pub high_terms : one.high.terms ≡ whole.high.terms
  pub low : whole.low.constant ≤ℤ one.low.constant
  pub high : one.high.constant ≤ℤ whole.high.constant

-- in each of its dimensions a box has such bounds
abbrev pub Encloses : Box → Box → Type 0
Encloses [] box = ⊤
Encloses (whole ∷ wholes) [] = ⊥
Encloses (whole ∷ wholes) (one ∷ box) = EnclosesBounds whole one × Encloses wholes box

abbrev pub bounds_in : Widest → Bounds
bounds_in widest = record { low = widest.low.now; high = widest.high.now }

-- an access has a dimension, and bounds enclose its own there
pub record IsEnclosedAt (dimension : ℕ) (whole : Bounds) (one : Placed) : Type 0 where
  pub own : Bounds
  pub is : slice_get one.access.now.box dimension ≡ Some own
  pub encloses : EnclosesBounds whole own

-- the widest bounds of a dimension of these; without any there are none
abbrev pub AreWidest : (dimension : ℕ) → Option Widest → List Placed → Type 0
AreWidest dimension None items = items ≡ []
AreWidest dimension (Some widest) items = All (IsEnclosedAt dimension (bounds_in widest)) items

-- each of some is accepted with each of others
abbrev pub AreClear : Scope → (some others : List Placed) → Type 0
AreClear scope some others = (one other : Placed) → Contains some one → Contains others other → IsAccepted (pair_of scope one.access.now other.access.now)

-- no container of the ones is one of the others
abbrev pub AreElsewhere : (some others : List Placed) → Type 0
AreElsewhere some others = (one other : Placed) → Contains some one → Contains others other → one.access.now.container ≢ other.access.now.container

-- no mode of the ones conflicts with one of the others
abbrev pub DoAgree : (some others : List Placed) → Type 0
DoAgree some others = (one other : Placed) → Contains some one → Contains others other → do_conflict one.access.now.mode other.access.now.mode ≡ false

-- each of these accesses is accepted with each of them and of those behind them
abbrev pub IsFrontClear : Scope → (accesses behind : List Access) → Type 0
IsFrontClear scope accesses behind = (one other : Access) → Contains accesses one → Contains (accesses ++ behind) other → IsAccepted (pair_of scope one other)

-- two scopes that differ in their paths and containers alone
pub record AreAlike (scope other : Scope) : Type 0 where
  pub around : scope.around ≡ other.around
  pub over : scope.over ≡ other.over
  pub accesses : scope.accesses ≡ other.accesses
