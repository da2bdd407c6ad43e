-- Files of a call that are read, or are not.
use Rattle.std.specs.Prelude.{◌≡◌, ℕ, ◌≤◌, List, [], length, Option, Some, None}
use Rattle.sd_io.specs.Count.{HasRisen}
use Rattle.sd_io.specs.Shelf.{IsTold, IsToldLonger}
use Rattle.sd_words.specs.Command.{Command, to_step}
use Rattle.sd_tool.specs.Answer.{Answer, read_fault, too_long}

-- what a shelf tells, and the counts of each name before and after it was used
pub record ShelfUse : Type 0 where
  pub told : List ℕ → Option (List ℕ)
  pub faults_before : List ℕ → ℕ
  pub faults_after : List ℕ → ℕ
  pub overruns_before : List ℕ → ℕ
  pub overruns_after : List ℕ → ℕ

abbrev pub shelf_use : {Shelf : Type 0} → (told : Shelf → List ℕ → Option (List ℕ)) → (faults : Shelf → List ℕ → ℕ) → (overruns : Shelf → List ℕ → ℕ) → Shelf → Shelf → ShelfUse
shelf_use told faults overruns before now = record {
  told = told before;
  faults_before = faults before;
  faults_after = faults now;
  overruns_before = overruns before;
  overruns_after = overruns now;
}

-- a file is read: these bytes, which are those told where some are, within the limit
pub record Reads (shelf : ShelfUse) (name : List ℕ) (limit : ℕ) (bytes : List ℕ) : Type 0 where
  pub told : IsTold (shelf.told name) bytes
  pub within : length bytes ≤ limit

-- a file is not read: its count of faults rose, or it is too long and its number of overruns rose
pub data Unread (shelf : ShelfUse) (name : List ℕ) (limit : ℕ) : Answer → Type 0 where
  faulty : HasRisen (shelf.faults_before name) (shelf.faults_after name) → Unread shelf name limit (read_fault name)
  longer : IsToldLonger (shelf.told name) limit → HasRisen (shelf.overruns_before name) (shelf.overruns_after name) → Unread shelf name limit (too_long name)

-- ---- files that a call need not name

-- the picks file of a command
abbrev pub picks_file : Command → Option (List ℕ)
picks_file (to_step step) = Some step.picks
picks_file command = None

-- a file is read where it is named; one that is not named is as an empty one
abbrev pub ReadsNamed : ShelfUse → Option (List ℕ) → (limit : ℕ) → (bytes : List ℕ) → Type 0
ReadsNamed shelf None limit bytes = bytes ≡ []
ReadsNamed shelf (Some name) limit bytes = Reads shelf name limit bytes

-- a file is named and is not read
abbrev pub UnreadNamed : ShelfUse → Option (List ℕ) → (limit : ℕ) → Answer → Type 0
UnreadNamed shelf None limit answer = ⊥
UnreadNamed shelf (Some name) limit answer = Unread shelf name limit answer
