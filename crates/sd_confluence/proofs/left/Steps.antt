-- Steps by next moves of two parts of a list commute.
use Rattle.std.proofs.Common.{◌≡◌, ℕ, [], Bool, true, refl, sym, ◌∙◌, ap, subst, Contains}
use Rattle.sd_work.specs.Change.{Change}
use Rattle.sd_work.specs.Move.{Move, fails, goes, no_move}
use Rattle.sd_work.specs.Residual.{Term}
use Rattle.sd_work.specs.Moves.{Path, moves}
use Rattle.sd_work.specs.Fire.{fire}
use Rattle.sd_work.specs.Settle.{settle, settled}
use Rattle.sd_work.specs.Step.{Machine, Done, next_moves, moved, step}
use Rattle.sd_work.proofs.Leaving.{Leaves}
use Rattle.sd_work.proofs.left_to_right.Leads.{Pays}
use Rattle.sd_work.proofs.left_to_right.LeftmostRuns.{machine, nothing_stays, moves_on}
use Rattle.sd_confluence.specs.Safe.{IsSafe}
use Rattle.sd_confluence.specs.Sides.{AreOfTwoParts, AreTermsAlike}
use Rattle.sd_confluence.proofs.bags.Works.{Answer, no_answer, act}
use Rattle.sd_confluence.proofs.commuting.Answers.{IsAnswer, can_answers}
use Rattle.sd_confluence.proofs.commuting.Front.{other_pays}
use Rattle.sd_confluence.proofs.image.Images.{work_of, route_of, IsNext}
use Rattle.sd_confluence.proofs.image.Link.{Matches, linked}
use Rattle.sd_confluence.proofs.image.NextLinked.{can_linked}
use Rattle.sd_confluence.proofs.left.AlikeSettled.{alike-settled}
use Rattle.sd_confluence.proofs.left.MoveSettled.{Same, Later, next-settled, moved-settled}
use Rattle.sd_confluence.proofs.left.NextListed.{listed, next-moves}
use Rattle.sd_confluence.proofs.left.Sides.{square}
use Rattle.sd_confluence.proofs.left.StillSafe.{safe-left}
use Rattle.sd_confluence.proofs.runs.Reaching.{failed, paid}

-- a next move answers
answers : {P : Type 0} (t : Term P) (p : Path) → IsNext t p [] → fire t p [] ≡ no_move → ⊥
answers {P} t p c e =
    let none : act (work_of t) (route_of t p []) [] ≡ no_answer = subst (λ (m : Move P (Term P)). Matches work_of [] m (act (work_of t) (route_of t p []) [])) e (linked t p []) in
    subst (λ (m : Answer P _). IsAnswer m) none (can_answers (work_of t) (route_of t p []) [] (can_linked t p [] c))

-- the move behind a step that was done
pub record Made {P : Type 0} (t : Term P) (n : ℕ) (p : Path) (x : Machine P) : Type 0 where
  pub turn : Bool
  pub change : Change
  pub left : Term P
  pub moves : fire t p [] ≡ goes turn change left
  pub turns : ℕ
  pub pays : Pays turn n turns
  pub is : machine (settled left) turns ≡ x

pub made : {P : Type 0} (t : Term P) (n : ℕ) (p : Path) (x : Machine P) → IsNext t p [] → step p (machine t n) ≡ Done x → Made t n p x
made {P} t n p x c e = go (fire t p []) refl e
  where
    go : (m : Move P (Term P)) → fire t p [] ≡ m → moved (machine t n) m ≡ Done x → Made t n p x
    go (fails b fault) q h = absurd (failed b n fault x h)
    go (goes b u y) q h = let r = paid t n b u y x h in record { turn = b; change = u; left = y; moves = q; turns = r.0; pays = r.1; is = r.2 }
    go no_move q h = absurd (answers t p c q)

-- a move of a term and of the settled one
pub settled_move : {P : Type 0} (t : Term P) (p : Path) (b : Bool) (u : Change) (y : Term P) → IsSafe t → IsNext t p [] → fire t p [] ≡ goes b u y → (x : Term P) × (fire (settled t) p [] ≡ goes b u x) × (settled x ≡ settled y)
settled_move {P} t p b u y f c e =
    let k : Same (Later true [] []) (goes b u y) (fire (settled t) p []) = subst (λ (m : Move P (Term P)). Same (Later true [] []) m (fire (settled t) p [])) e (moved-settled t p [] f c true []) in
    (k.0, k.1, subst (λ s. settle true [] s k.0 ≡ settle true [] s y) (nothing_stays u) (k.2 true [] (λ go. go) tt))

-- the move of a settled term is one of the term before it was settled
pub unsettled_move : {P : Type 0} (t : Term P) (p : Path) (b : Bool) (u : Change) (x : Term P) → IsSafe t → IsNext t p [] → fire (settled t) p [] ≡ goes b u x → (y : Term P) × (fire t p [] ≡ goes b u y) × (settled x ≡ settled y)
unsettled_move {P} t p b u x f c e = go (fire t p []) refl (moved-settled t p [] f c true [])
  where
    go : (m : Move P (Term P)) → fire t p [] ≡ m → Same (Later true [] []) m (fire (settled t) p []) → (y : Term P) × (fire t p [] ≡ goes b u y) × (settled x ≡ settled y)
    go (fails c' fault) q k = let bad : goes b u x ≡ fails c' fault = sym e ∙ k in cc
    go (goes c' v y) q k =
        let same : goes b u x ≡ goes c' v k.0 = sym e ∙ k.1 in
        let same_left : x ≡ k.0 = cc in
        let same_turn : c' ≡ b = cc in
        let same_change : v ≡ u = cc in
        (y, q ∙ (λ i. goes (same_turn i) (same_change i) y), ap settled same_left ∙ subst (λ s. settle true [] s k.0 ≡ settle true [] s y) (nothing_stays v) (k.2 true [] (λ go'. go') tt))
    go no_move q k = absurd (answers t p c q)

-- the other move stays next
pub stays_listed : {P : Type 0} (m between : Machine P) (p q : Path) → IsSafe m.term → Contains (next_moves m) p → Contains (next_moves m) q → AreOfTwoParts m.term p q → step p m ≡ Done between → Contains (next_moves between) q
stays_listed {P} m between p q f c d o e =
    let cp = next-moves m.term p [] c in
    let one = made m.term m.turns p between cp e in
    let sq = square m.term p q [] f cp (next-moves m.term q [] d) o one.turn one.change one.left one.moves in
    let next : IsNext one.left q [] = subst (IsNext one.left q) (nothing_stays one.change) sq.1 in
    subst (λ (x : Machine P). Contains (moves x.term []) q) one.is (listed (settled one.left) q [] (next-settled true [] [] one.left q next))

pub steps : {P : Type 0} (m between both : Machine P) (p q : Path) → IsSafe m.term → Contains (next_moves m) p → Contains (next_moves m) q → AreOfTwoParts m.term p q → step p m ≡ Done between → step q between ≡ Done both →
    (early : Machine P) × (last : Machine P) × (step q m ≡ Done early) × (step p early ≡ Done last) × AreTermsAlike both.term last.term × (both.turns ≡ last.turns)
steps {P} m between both p q f c d o e g =
    let cp = next-moves m.term p [] c in
    let cq = next-moves m.term q [] d in
    let one = made m.term m.turns p between cp e in
    let x0 : Term P = one.left in
    let fx : IsSafe x0 = subst (λ (w : Move P (Term P)). Leaves IsSafe w) one.moves (safe-left m.term p [] cp f) in
    let sq = square m.term p q [] f cp cq o one.turn one.change x0 one.moves in
    let nx : IsNext x0 q [] = subst (IsNext x0 q) (nothing_stays one.change) sq.1 in
    let nsx : IsNext (settled x0) q [] = next-settled true [] [] x0 q nx in
    let two = made (settled x0) one.turns q both nsx (subst (λ w. step q w ≡ Done both) (sym one.is) g) in
    let y = unsettled_move x0 q two.turn two.change two.left fx nx two.moves in
    let k = sq.2 two.turn two.change y.0 (subst (λ s. fire x0 q s ≡ goes two.turn two.change y.0) (sym (nothing_stays one.change)) y.1) in
    let fe : IsSafe k.0 = subst (λ (w : Move P (Term P)). Leaves IsSafe w) k.2 (safe-left m.term q [] cq f) in
    let ne : IsNext k.0 p [] = subst (IsNext k.0 p) (nothing_stays two.change) k.7 in
    let back : fire k.0 p [] ≡ goes one.turn one.change k.1 = subst (λ s. fire k.0 p s ≡ goes one.turn one.change k.1) (nothing_stays two.change) k.4 in
    let w = settled_move k.0 p one.turn one.change k.1 fe ne back in
    let pay = other_pays one.turn two.turn m.turns one.turns two.turns one.pays two.pays in (
      machine (settled k.0) pay.0,
      machine (settled w.0) two.turns,
      ap (moved m) k.2 ∙ moves_on m.term m.turns pay.0 two.turn two.change k.0 (settled k.0) pay.1 refl,
      ap (moved (machine (settled k.0) pay.0)) w.1 ∙ moves_on (settled k.0) pay.0 two.turns one.turn one.change w.0 (settled w.0) pay.2 refl,
      subst (λ (z : Machine P). AreTermsAlike z.term (settled w.0)) two.is
          (subst (AreTermsAlike (settled two.left)) (sym w.2) (subst (λ z. AreTermsAlike z (settled k.1)) (sym y.2) (alike-settled true [] [] [] y.0 k.1 tt k.5))),
      sym (ap (λ (z : Machine P). z.turns) two.is),
    )
