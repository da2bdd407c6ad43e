-- Steps by two takes of one pool commute.
use Rattle.std.proofs.Common.{◌≡◌, [], true, refl, sym, ◌∙◌, ap, subst, Contains}
use Rattle.sd_work.specs.Move.{Move, goes}
use Rattle.sd_work.specs.Residual.{Term}
use Rattle.sd_work.specs.Moves.{Path, moves}
use Rattle.sd_work.specs.Fire.{fire}
use Rattle.sd_work.specs.Settle.{settled}
use Rattle.sd_work.specs.Step.{Machine, Done, next_moves, moved, step}
use Rattle.sd_work.proofs.Leaving.{Leaves}
use Rattle.sd_work.proofs.left_to_right.LeftmostRuns.{machine, nothing_stays, moves_on}
use Rattle.sd_confluence.specs.Safe.{IsSafe}
use Rattle.sd_confluence.specs.Takes.{AreTwoTakes, behind_take, AreTermsReordered}
use Rattle.sd_confluence.proofs.commuting.Front.{other_pays}
use Rattle.sd_confluence.proofs.image.Images.{IsNext}
use Rattle.sd_confluence.proofs.left.MoveSettled.{next-settled}
use Rattle.sd_confluence.proofs.left.NextListed.{listed, next-moves}
use Rattle.sd_confluence.proofs.left.Reordered.{order-settled}
use Rattle.sd_confluence.proofs.left.StillSafe.{safe-left}
use Rattle.sd_confluence.proofs.left.Steps.{made, settled_move, unsettled_move}
use Rattle.sd_confluence.proofs.left.TwoTakes.{take-square}

-- the other take is next at its new position
pub take-stays : {P : Type 0} (m between : Machine P) (p q : Path) → Contains (next_moves m) p → Contains (next_moves m) q → AreTwoTakes m.term p q → step p m ≡ Done between → Contains (next_moves between) (behind_take p q)
take-stays {P} m between p q c d o e =
    let cp = next-moves m.term p [] c in
    let one = made m.term m.turns p between cp e in
    let sq = take-square m.term p q [] cp (next-moves m.term q [] d) o one.turn one.change one.left one.moves in
    let next : IsNext one.left (behind_take p q) [] = subst (IsNext one.left (behind_take p q)) (nothing_stays one.change) sq.1 in
    subst (λ (x : Machine P). Contains (moves x.term []) (behind_take p q)) one.is (listed (settled one.left) (behind_take p q) [] (next-settled true [] [] one.left (behind_take p q) next))

pub take-steps : {P : Type 0} (m between both : Machine P) (p q : Path) → IsSafe m.term → Contains (next_moves m) p → Contains (next_moves m) q → AreTwoTakes m.term p q → step p m ≡ Done between → step (behind_take p q) between ≡ Done both →
    (early : Machine P) × (last : Machine P) × (step q m ≡ Done early) × (step (behind_take q p) early ≡ Done last) × AreTermsReordered both.term last.term × (both.turns ≡ last.turns)
take-steps {P} m between both p q f c d o e g =
    let cp = next-moves m.term p [] c in
    let cq = next-moves m.term q [] d in
    let q' : Path = behind_take p q in
    let p' : Path = behind_take q p in
    let one = made m.term m.turns p between cp e in
    let x0 : Term P = one.left in
    let fx : IsSafe x0 = subst (λ (w : Move P (Term P)). Leaves IsSafe w) one.moves (safe-left m.term p [] cp f) in
    let sq = take-square m.term p q [] cp cq o one.turn one.change x0 one.moves in
    let nx : IsNext x0 q' [] = subst (IsNext x0 q') (nothing_stays one.change) sq.1 in
    let nsx : IsNext (settled x0) q' [] = next-settled true [] [] x0 q' nx in
    let two = made (settled x0) one.turns q' both nsx (subst (λ w. step q' w ≡ Done both) (sym one.is) g) in
    let y = unsettled_move x0 q' two.turn two.change two.left fx nx two.moves in
    let k = sq.2 two.turn two.change y.0 (subst (λ s. fire x0 q' s ≡ goes two.turn two.change y.0) (sym (nothing_stays one.change)) y.1) in
    let fe : IsSafe k.2 = subst (λ (w : Move P (Term P)). Leaves IsSafe w) k.4 (safe-left m.term q [] cq f) in
    let ne : IsNext k.2 p' [] = subst (IsNext k.2 p') (nothing_stays k.0) k.9 in
    let back : fire k.2 p' [] ≡ goes one.turn k.1 k.3 = subst (λ s. fire k.2 p' s ≡ goes one.turn k.1 k.3) (nothing_stays k.0) k.6 in
    let w = settled_move k.2 p' one.turn k.1 k.3 fe ne back in
    let pay = other_pays one.turn two.turn m.turns one.turns two.turns one.pays two.pays in (
      machine (settled k.2) pay.0,
      machine (settled w.0) two.turns,
      ap (moved m) k.4 ∙ moves_on m.term m.turns pay.0 two.turn k.0 k.2 (settled k.2) pay.1 refl,
      ap (moved (machine (settled k.2) pay.0)) w.1 ∙ moves_on (settled k.2) pay.0 two.turns one.turn k.1 w.0 (settled w.0) pay.2 refl,
      subst (λ (z : Machine P). AreTermsReordered z.term (settled w.0)) two.is
          (subst (AreTermsReordered (settled two.left)) (sym w.2) (subst (λ z. AreTermsReordered z (settled k.3)) (sym y.2) (order-settled true [] [] y.0 k.3 k.7))),
      sym (ap (λ (z : Machine P). z.turns) two.is),
    )
