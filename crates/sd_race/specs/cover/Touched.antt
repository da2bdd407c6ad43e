-- What an access covers: the touches of its container, in its mode, at the indices of its box.
use Rattle.std.specs.Prelude.{◌≡◌, ℕ, ℤ, List, [], Option, Some, ⊤}
use Rattle.std.specs.List.{Contains}
use Rattle.sd_num.specs.Resolution.{IsCommuting}
use Rattle.sd_num.specs.declared.resolution.Resolution.{Resolution}
use Rattle.sd_work.specs.Memory.{Reference}
use Rattle.sd_work.specs.Touch.{Touch, reads, writes, pushes, takes}
use Rattle.sd_subset.specs.boxes.Box.{IsInBox}
use Rattle.sd_graph.specs.Context.{Reach, reference_at}
use Rattle.sd_graph.specs.Mode.{Mode, Read, Write, Resolve, Push, Take}
use Rattle.sd_prop.specs.propagation.Accesses.{Access}

-- a mode in which elements may be read
abbrev pub AllowsRead : Mode → Type 0
AllowsRead Read = ⊤
AllowsRead Write = ⊤
AllowsRead (Resolve resolution) = ⊥
AllowsRead Push = ⊥
AllowsRead Take = ⊥

-- a mode in which elements may be written by this resolution, or by none
abbrev pub AllowsWrite : Mode → Option Resolution → Type 0
AllowsWrite Read by = ⊥
AllowsWrite Write by = ⊤
AllowsWrite (Resolve resolution) by = (by ≡ Some resolution) × IsCommuting resolution
AllowsWrite Push by = ⊥
AllowsWrite Take by = ⊥

-- an element is that of a container at an index of the access's box
pub record IsAt (values : List ℤ) (reach : ℕ → Reach) (access : Access) (element : Reference) : Type 0 where
  pub index : List ℤ
  pub is : reference_at (reach access.container) index ≡ Some element
  pub inside : IsInBox values access.box index

-- a stream is this one
pub record IsStream (reach : Reach) (level container : ℕ) : Type 0 where
  pub level_is : reach.level ≡ level
  pub container_is : reach.container ≡ container

-- a touch that an access covers, where the variables have these values and containers are reached so
abbrev pub IsTouchOf : List ℤ → (ℕ → Reach) → Access → Touch → Type 0
IsTouchOf values reach access (reads from) = AllowsRead access.mode × IsAt values reach access from
IsTouchOf values reach access (writes to by) = AllowsWrite access.mode by × IsAt values reach access to
IsTouchOf values reach access (pushes level container) = (access.mode ≡ Push) × IsStream (reach access.container) level container
IsTouchOf values reach access (takes level container) = (access.mode ≡ Take) × (access.box ≡ []) × IsStream (reach access.container) level container

-- a touch that one of these accesses covers
abbrev pub IsCovered : List ℤ → (ℕ → Reach) → List Access → Touch → Type 0
IsCovered values reach accesses touch = (access : Access) × Contains accesses access × IsTouchOf values reach access touch
