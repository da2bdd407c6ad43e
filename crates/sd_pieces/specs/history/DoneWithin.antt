-- Items whose sequential run is done within a budget of turns.
use Rattle.std.specs.Prelude.{ℕ}
use Rattle.sd_work.specs.Memory.{Memory}
use Rattle.sd_work.specs.Residual.{Terms}
use Rattle.sd_work.specs.Step.{Done}
use Rattle.sd_work.specs.Run.{Left, Sequential}
use Rattle.sd_work.specs.OrderedPools.{HasOrderedPools}
use Rattle.sd_confluence.specs.Safe.{MayInterleave}
use Rattle.sd_pieces.specs.history.Pieces.{Work, IsCut, graph_of_items}

-- items are cut into these pieces and may interleave, with pools in order, and their sequential run over this memory is done within so many turns and leaves this
pub record IsDoneWithin {P : Type 0} (work : Work P) (items : Terms P) (own : Memory) (turns : ℕ) (left : Left) : Type 0 where
  pub cut : IsCut 0 items work.pieces
  pub interleave : MayInterleave (graph_of_items work.before items own)
  pub pools : HasOrderedPools 0 (graph_of_items work.before items own)
  pub done : Sequential (graph_of_items work.before items own) turns (Done left)
