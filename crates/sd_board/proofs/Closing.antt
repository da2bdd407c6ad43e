-- What is told of a board that was closed.
use Rattle.std.proofs.Common.{◌≡◌, ℕ, ◌+◌, List, Option, Some, None, IsTrue, refl, inl, inr, arith}
use Rattle.sd_work.specs.Residual.{Terms}
use Rattle.sd_work.specs.Step.{Done}
use Rattle.sd_work.specs.Run.{Left, Sequential}
use Rattle.sd_work.specs.Move.{fault_at}
use Rattle.sd_work.specs.OrderedPools.{HasOrderedPools}
use Rattle.sd_confluence.specs.Safe.{MayInterleave}
use Rattle.sd_confluence.specs.Alike.{AreAlike}
use Rattle.sd_pieces.specs.history.Pieces.{IsCut, graph_of_items}
use Rattle.sd_pieces.specs.history.DoneWithin.{IsDoneWithin}
use Rattle.sd_pieces.proofs.history_lemmas.Cutting.{history-sequential}
use Rattle.sd_pieces.proofs.history_lemmas.DoneRuns.{turns-enough, piece-no-fault, piece-not-spent}
use Rattle.sd_graph.specs.declared.place.Place.{Place}
use Rattle.sd_part.specs.declared.kept.Kept.{Kept}
use Rattle.sd_part.specs.declared.kept.Kept.TheVariants.{Fault, Turns}
use Rattle.sd_board.specs.declared.job.Closed.{Closed}
use Rattle.sd_board.specs.Assignment.{Assignment, IsStopped}
use Rattle.sd_board.specs.Boards.{IsClosed}

pub whole-sequential : (a : Assignment) (closed : Closed) (items : Terms Place) (left : ℕ)
    → IsClosed a closed → IsTrue closed.is_whole
    → IsCut 0 items a.work.pieces
    → MayInterleave (graph_of_items a.work.before items a.opening.contents) → HasOrderedPools 0 (graph_of_items a.work.before items a.opening.contents)
    → (end : Left) × Sequential (graph_of_items a.work.before items a.opening.contents) (closed.turns + left) (Done end)
    × AreAlike closed.memory.contents end.memory × (end.turns ≡ left)
whole-sequential a closed items left is whole cut may pools =
    history-sequential a.work items is.done.0 a.opening.contents closed.memory.contents closed.history.items closed.turns left cut may pools (is.whole.0 whole) is.done.1

pub not-stopped : (a : Assignment) (history : List ℕ) (items : Terms Place) (left : Left) (stop : Option Kept) → IsStopped a history stop → IsDoneWithin a.work items a.opening.contents a.budget left → stop ≡ None
not-stopped a history items left None s done = refl
not-stopped a history items left (Some (Fault place kind)) (next, comes) done =
    absurd (piece-no-fault a.work items a.opening.contents a.budget left next.done.0 next.earlier next.memories next.turns next.number next.piece comes.0 a.budget (fault_at place kind)
    done next.done.1 next.may_follow comes.1)
not-stopped a history items left (Some (Turns turns)) (over, inl (next, comes, one)) done =
    absurd (piece-not-spent a.work items a.opening.contents a.budget left next.done.0 next.earlier next.memories next.turns next.number next.piece comes.0 a.budget
    done next.done.1 next.may_follow (omega arith) comes.1)
not-stopped a history items left (Some (Turns turns)) (over, inr has) done =
    let e = turns-enough a.work items a.opening.contents a.budget left has.done.0 has.earlier has.memories turns done has.done.1 in
    absurd (omega arith)
