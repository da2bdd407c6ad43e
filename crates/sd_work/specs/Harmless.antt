-- When two changes, or a change and a reading, do not meet.
use Rattle.std.specs.Prelude.{◌≡◌, ◌≢◌, ℕ, Option, Some, None, ⊤}
use Rattle.sd_num.specs.Resolution.{IsCommuting}
use Rattle.sd_num.specs.declared.resolution.Resolution.{Resolution}
use Rattle.sd_work.specs.Memory.{Reference}
use Rattle.sd_work.specs.Change.{Change, write, push, take}

-- both values are resolved, by one resolution that commutes
abbrev pub SameCommuting : Option Resolution → Option Resolution → Type 0
SameCommuting None other = ⊥
SameCommuting (Some resolution) None = ⊥
SameCommuting (Some resolution) (Some other) = (resolution ≡ other) × IsCommuting resolution

-- two containers, each by its memory and its number, are not one
abbrev pub AreTwo : (level container other_level other : ℕ) → Type 0
AreTwo level container other_level other = level ≡ other_level → container ≡ other → ⊥

-- two changes are of different places, or resolve values into one element by one resolution that commutes. A stream as a whole is one place, and its order counts
abbrev pub AreHarmless : Change → Change → Type 0
AreHarmless (write to by value) (write into other new) = to ≡ into → SameCommuting by other
AreHarmless (push level container value) (push other_level other new) = AreTwo level container other_level other
AreHarmless (push level container value) (take other_level other position) = AreTwo level container other_level other
AreHarmless (take level container position) (push other_level other new) = AreTwo level container other_level other
AreHarmless (take level container position) (take other_level other second) = AreTwo level container other_level other
AreHarmless change other = ⊤

-- a change does not write this element
abbrev pub SparesElement : Reference → Change → Type 0
SparesElement reference (write to by value) = reference ≢ to
SparesElement reference change = ⊤

-- a change neither pushes to this stream nor takes from it
abbrev pub SparesStream : (level container : ℕ) → Change → Type 0
SparesStream level container (push other_level other value) = AreTwo level container other_level other
SparesStream level container (take other_level other position) = AreTwo level container other_level other
SparesStream level container change = ⊤
