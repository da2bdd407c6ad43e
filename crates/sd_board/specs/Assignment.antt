-- What is to be done on a board, what was done of it, and what stopped it.
use Rattle.std.specs.Prelude.{◌≡◌, ◌⊎◌, ℕ, suc, ◌<◌, List, [], ◌∷◌, ◌++◌, Option, Some, None, false, slice_get, ⊤}
use Rattle.sd_work.specs.Memory.{Memory, Memories}
use Rattle.sd_work.specs.Move.{fault_at}
use Rattle.sd_work.specs.Step.{Outcome, Faulted, Spent}
use Rattle.sd_work.specs.BigStep.{Reached, big_step}
use Rattle.sd_pieces.specs.cut.Merged.{AreElementsOfWidth}
use Rattle.sd_pieces.specs.history.Pieces.{Piece, Work}
use Rattle.sd_pieces.specs.history.History.{MayFollow, History}
use Rattle.sd_graph.specs.declared.place.Place.{Place}
use Rattle.sd_mem.specs.mem.Shaped.{Shaped, alone}
use Rattle.sd_cut.specs.Fits.{AreValuesOfWidth}
use Rattle.sd_cut.specs.Overlaid.{Overlaid}
use Rattle.sd_cut.specs.Using.{committed, Agrees}
use Rattle.sd_part.specs.Cut.{HasShapeOf}
use Rattle.sd_part.specs.declared.kept.Kept.{Kept}
use Rattle.sd_part.specs.declared.kept.Kept.TheVariants.{Fault, Turns}
use Rattle.sd_part.specs.declared.part_end.PartEnd.{PartEnd}
use Rattle.sd_part.specs.Part.{PartComesTo}

-- the work of items in pieces, the memory that it opens with, and how many turns it may take
pub record Assignment : Type 0 where
  pub work : Work Place
  pub opening : Shaped
  pub budget : ℕ

abbrev pub nothing_to_do : Assignment
nothing_to_do = record { work = record { pieces = []; before = λ from to. false }; opening = record { shapes = []; contents = [] }; budget = 0 }

-- a memory is like the one that the work opens with: it has the same shape, and elements and values of its widths
pub record IsLikeOpening (a : Assignment) (memory : Shaped) : Type 0 where
  pub shape : HasShapeOf memory a.opening
  pub elements : AreElementsOfWidth (alone memory)
  pub values : AreValuesOfWidth (alone memory)

-- pieces that were done one after another, each after those of the items before its item, leave these memories after so many turns
abbrev pub HasDone : Assignment → (history : List ℕ) → Memories → (turns : ℕ) → Type 0
HasDone a history memories turns = (most : ℕ) × History a.work most (alone a.opening) history memories turns

-- the work of a piece from these memories comes to this, with as many turns as the budget has
abbrev pub Comes : Assignment → Piece Place → Memories → Outcome Place Reached → Type 0
Comes a piece memories outcome = (most : ℕ) × (big_step piece.term most memories a.budget ≡ Some outcome)

-- How a piece ended on a cut: from each memory like the opening one that has what has to be as it was, its work comes to this end, and leaves the
-- memory in which the cut is committed.
abbrev pub IsEndOf : Assignment → (number : ℕ) → Overlaid → PartEnd → Type 0
IsEndOf a number cut end =
    (piece : Piece Place) (memory : Shaped) → slice_get a.work.pieces number ≡ Some piece → IsLikeOpening a memory → Agrees cut memory
    → (most : ℕ) → PartComesTo end a.budget (alone (committed cut memory)) (big_step piece.term most (alone memory) a.budget)

-- the work of each piece has an end, from each memory and with any turns
abbrev pub HaveEnds : Assignment → Type 0
HaveEnds a =
    (number : ℕ) (piece : Piece Place) (memory : Memory) (turns : ℕ) → slice_get a.work.pieces number ≡ Some piece
    → (most : ℕ) × (outcome : Outcome Place Reached) × (big_step piece.term most (memory ∷ []) turns ≡ Some outcome)

-- a piece that may follow on a beginning of this history, and the memories there
pub record Following (a : Assignment) (history : List ℕ) : Type 0 where
  pub earlier : List ℕ
  pub later : List ℕ
  pub is_beginning : history ≡ earlier ++ later
  pub memories : Memories
  pub turns : ℕ
  pub done : HasDone a earlier memories turns
  pub number : ℕ
  pub piece : Piece Place
  pub may_follow : MayFollow a.work earlier number piece

-- a beginning of this history has so many turns
pub record HasTurns (a : Assignment) (history : List ℕ) (turns : ℕ) : Type 0 where
  pub earlier : List ℕ
  pub later : List ℕ
  pub is_beginning : history ≡ earlier ++ later
  pub memories : Memories
  pub done : HasDone a earlier memories turns

-- What stopped a board with this history: the fault of a piece, done after a beginning of the history on which it may follow; or more turns
-- than the budget, which such a piece wants alone, or which a beginning of the history has.
abbrev pub Stops : Assignment → (history : List ℕ) → Kept → Type 0
Stops a history (Fault place kind) = (next : Following a history) × Comes a next.piece next.memories (Faulted (fault_at place kind))
Stops a history (Turns turns) =
    (a.budget < turns) × (((next : Following a history) × Comes a next.piece next.memories Spent × (turns ≡ suc a.budget)) ⊎ HasTurns a history turns)

abbrev pub IsStopped : Assignment → (history : List ℕ) → Option Kept → Type 0
IsStopped a history None = ⊤
IsStopped a history (Some kept) = Stops a history kept
