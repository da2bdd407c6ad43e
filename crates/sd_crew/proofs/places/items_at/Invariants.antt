use Rattle.std.proofs.Common.{◌≡◌, map, take}
use Rattle.sd_piece.specs.declared.piece.PieceAt.{PieceAt}
use Rattle.sd_crew.proofs.places.items_at.Given as goal

-- those so far
abbrev pub invariant-loop-at : goal.invariant-loop-at
invariant-loop-at l = l.items.items ≡ map (λ (at : PieceAt). at.item) (take l.at-index l.places)
