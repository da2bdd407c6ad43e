-- What is read and changed is of these touches.
use Rattle.std.specs.Prelude.{List, ⊤}
use Rattle.std.specs.List.{AllByRecursion}
use Rattle.sd_work.specs.Change.{Change, nothing, write, push, take}
use Rattle.sd_work.specs.Touch.{Touch, reads, writes, pushes, takes}
use Rattle.sd_pieces.specs.course.Reading.{Reading, reads_element, reads_stream}
use Rattle.sd_pieces.specs.course.Course.{Course}

-- a reading as a touch: a stream that is asked for its oldest value is taken from
abbrev pub touch_of : Reading → Touch
touch_of (reads_element from) = reads from
touch_of (reads_stream level container) = takes level container

-- a change is one of these touches
abbrev pub IsChangeBy : (Touch → Type 0) → Change → Type 0
IsChangeBy By nothing = ⊤
IsChangeBy By (write to by value) = By (writes to by)
IsChangeBy By (push level container value) = By (pushes level container)
IsChangeBy By (take level container position) = By (takes level container)

-- each change is one of these touches
abbrev pub AreChangesBy : (Touch → Type 0) → List Change → Type 0
AreChangesBy By changes = AllByRecursion (IsChangeBy By) changes

-- each reading is one of these touches
abbrev pub AreReadingsBy : (Touch → Type 0) → List Reading → Type 0
AreReadingsBy By readings = AllByRecursion (λ reading. By (touch_of reading)) readings

-- all that a course reads and changes
abbrev pub IsCourseBy : {P : Type 0} → (Touch → Type 0) → Course P → Type 0
IsCourseBy By course = AreReadingsBy By course.readings × AreChangesBy By course.changes
