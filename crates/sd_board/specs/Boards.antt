-- What stands behind a board's lock, and what its steps make of it.
use Rattle.std.specs.Prelude.{◌≡◌, ◌↔◌, ℕ, ◌+◌, ◌*◌, ◌^◌, ◌<◌, ◌≤◌, List, map, length, Option, Some, None, if◌then◌else◌, nat_lt, Result, Ok, Err, IsTrue, ⊤}
use Rattle.sd_pieces.specs.history.Pieces.{Piece}
use Rattle.sd_pieces.specs.history.History.{HasAll}
use Rattle.sd_graph.specs.declared.place.Place.{Place}
use Rattle.sd_order.specs.table.Told.{told}
use Rattle.sd_order.specs.declared.table.order.Order.{Order}
use Rattle.sd_mem.specs.mem.Shaped.{Shaped, alone}
use Rattle.sd_cut.specs.Overlaid.{Overlaid}
use Rattle.sd_cut.specs.Using.{committed, Agrees}
use Rattle.sd_part.specs.declared.kept.Kept.{Kept}
use Rattle.sd_part.specs.declared.kept.Kept.TheVariants.{Turns}
use Rattle.sd_part.specs.declared.part_end.PartEnd.{PartEnd}
use Rattle.sd_part.specs.declared.part_end.PartEnd.TheVariants.{Done, Stopped}
use Rattle.sd_board.specs.declared.mark.Mark.TheVariants.{ToBegin, InWork}
use Rattle.sd_board.specs.declared.progress.Asked.{Asked}
use Rattle.sd_board.specs.declared.progress.Asked.TheVariants.{Begin, Wait, Over}
use Rattle.sd_board.specs.declared.job.Job.{Job}
use Rattle.sd_board.specs.declared.job.Step.{Step}
use Rattle.sd_board.specs.declared.job.Step.TheVariants as steps
use Rattle.sd_board.specs.declared.job.FinishError.{FinishError}
use Rattle.sd_board.specs.declared.job.FinishError.TheVariants.{NotInWork, Memory}
use Rattle.sd_board.specs.declared.job.Closed.{Closed}
use Rattle.sd_board.specs.Progress.{Progress, not_begun, Is, turned, with_finished, IsTold}
use Rattle.sd_board.specs.Assignment.{Assignment, IsLikeOpening, HasDone, HaveEnds, IsStopped}

-- the progress of the pieces, the memory and the turns of those that are finished, and what stopped the board, if it is stopped
pub record Board : Type 0 where
  pub progress : Progress
  pub memory : Shaped
  pub turns : ℕ
  pub stop : Option Kept

-- the item of each piece
abbrev pub items_of : Assignment → List ℕ
items_of a = map (λ (piece : Piece Place). piece.item) a.work.pieces

-- What holds of each board for an assignment: it has the assignment's pieces and their order; the history is one of these pieces from the opening memory,
-- with the board's memory and turns; and what stopped the board is as such a history tells.
pub record IsFor (a : Assignment) (b : Board) : Type 0 where
  pub items : b.progress.pieces.items ≡ items_of a
  pub order : (from to : ℕ) → told b.progress.pieces.order from to ≡ a.work.before from to
  pub memory : IsLikeOpening a b.memory
  pub done : HasDone a b.progress.history (alone b.memory) b.turns
  pub stopped : IsStopped a b.progress.history b.stop
  pub ends : HaveEnds a
  pub bounded : b.turns ≤ length b.progress.history * 2 ^ 40
  pub few : length a.work.pieces ≤ 2 ^ 20
  pub budget : a.budget ≤ 2 ^ 40

-- with other progress
abbrev pub with_progress : Progress → Board → Board
with_progress progress b = record b { progress = progress }

-- nothing was done yet
abbrev pub opened : List ℕ → Order → (memory : Shaped) → Board
opened items order memory = record { progress = not_begun items order; memory = memory; turns = 0; stop = None }

-- ---- taking

-- what a step tells of the progress
abbrev pub told_by : Step → Asked
told_by (steps.Job job) = Begin job.number
told_by steps.Wait = Wait
told_by steps.Over = Over

-- what a worker is told, and what comes of it: where the board is stopped that all is over, else what the progress tells
abbrev pub IsStepIf : Option Kept → Board → Step → Board → Type 0
IsStepIf (Some kept) b step after = (step ≡ steps.Over) × (after ≡ b)
IsStepIf None b step after = (progress : Progress) × IsTold b.progress (told_by step) progress × (after ≡ with_progress progress b)

abbrev pub IsStep : Board → Step → Board → Type 0
IsStep b step after = IsStepIf b.stop b step after

-- a piece that is begun is one of the work
abbrev pub IsOf : Assignment → Asked → Type 0
IsOf a (Begin number) = number < length a.work.pieces
IsOf a Wait = ⊤
IsOf a Over = ⊤

-- ---- finishing

-- a job may be finished: its piece is in work, and what has to be as it was when its cut was made is so in the memory
pub record CanFinish (b : Board) (number : ℕ) (cut : Overlaid) : Type 0 where
  pub in_work : Is b.progress.pieces number InWork
  pub agrees : Agrees cut b.memory

-- more turns than the budget stop a board
abbrev pub stop_after : (budget turns : ℕ) → Option Kept → Option Kept
stop_after budget turns stop = if nat_lt budget turns then Some (Turns turns) else stop

-- a board after a piece has ended: one that is done enters the history, and its effects the memory; one that is stopped stops the board
abbrev pub after_end : (budget : ℕ) → (number : ℕ) → Overlaid → PartEnd → Board → Board
after_end budget number cut (Done spent) b = record {
  progress = with_finished number b.progress;
  memory = committed cut b.memory;
  turns = b.turns + spent;
  stop = stop_after budget (b.turns + spent) b.stop;
}
after_end budget number cut (Stopped kept) b = record b { stop = Some kept }

-- how many pieces it adds to the history
abbrev pub count_of : PartEnd → ℕ
count_of (Done spent) = 1
count_of (Stopped kept) = 0

-- why a job is not finished: its piece is not in work, or what it read is not there any more; or, for a piece that is done and could be finished, want of memory
abbrev pub IsRefusal : Board → (number : ℕ) → Overlaid → PartEnd → FinishError → Type 0
IsRefusal b number cut end NotInWork = CanFinish b number cut → ⊥
IsRefusal b number cut end Memory = CanFinish b number cut × (count_of end ≡ 1)

-- what a finish makes of a board; where it is refused nothing changes, and all is handed back
abbrev pub IsFinish : (budget : ℕ) → Board → Job → Overlaid → PartEnd → Result Unit (FinishError × Job × Overlaid × PartEnd) → Board → Type 0
IsFinish budget b job cut end (Ok done) after = CanFinish b job.number cut × (after ≡ after_end budget job.number cut end b)
IsFinish budget b job cut end (Err refused) after =
    IsRefusal b job.number cut end refused.0 × (after ≡ b) × (refused.1 ≡ job) × (refused.2 ≡ cut) × (refused.3 ≡ end)

-- how many pieces a finish adds to the history
abbrev pub count_added : PartEnd → Result Unit (FinishError × Job × Overlaid × PartEnd) → ℕ
count_added end (Ok done) = count_of end
count_added end (Err refused) = 0

-- ---- giving back

-- a piece that is given back is to begin again, where it was in work
abbrev pub IsReturn : Board → (number : ℕ) → Board → Type 0
IsReturn b number after =
    (Is b.progress.pieces number InWork → after ≡ with_progress (turned number ToBegin b.progress) b)
    × ((Is b.progress.pieces number InWork → ⊥) → after ≡ b)

-- ---- closing

-- what is told of a board that was closed
pub record IsClosed (a : Assignment) (c : Closed) : Type 0 where
  pub memory : IsLikeOpening a c.memory
  pub done : HasDone a c.history.items (alone c.memory) c.turns
  pub stopped : IsStopped a c.history.items c.stopped
  pub whole : IsTrue c.is_whole ↔ HasAll a.work c.history.items
