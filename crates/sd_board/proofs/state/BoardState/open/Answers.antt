use Rattle.std.proofs.Common.{◌≤◌, ◌^◌, refl, subst}
use Rattle.sd_board.proofs.Boards.{for-opened, for-moved}
use Rattle.sd_board.proofs.state.BoardState.open.Goals as goal

pub invariant_of-result : goal.invariant_of-result
invariant_of-result g c = (
  c.requires.budget,
  for-moved g.A.Assigned.assignment _ c.in-Ok.progress _ c.args.memory 0 _ _ c.in-Ok.ensures refl refl
      (for-opened g.A.Assigned.assignment c.args.items.items c.args.order c.args.memory c.requires.items c.requires.order c.requires.memory c.requires.like c.requires.ends c.requires.few
      (subst (λ n. n ≤ 2 ^ 40) c.requires.budget c.requires.small)),
)
