-- Pieces of items whose sequential run is done come to their ends within its turns.
use Rattle.std.proofs.Common.{◌≡◌, ℕ, zero, suc, pred, ◌+◌, ◌≤◌, ◌≢◌, List, [], ◌∷◌, ◌++◌, Option, Some, None, Bool, true, false, sym, ◌∙◌, ap, subst, arith}
use Rattle.sd_work.specs.Memory.{Memory, Memories}
use Rattle.sd_work.specs.Exit.{Values}
use Rattle.sd_work.specs.Move.{Fault}
use Rattle.sd_work.specs.Residual.{Items, Term, Terms, list, IsOrder}
use Rattle.sd_work.specs.WellFormed.{AreOrdered}
use Rattle.sd_work.specs.Step.{Outcome, Done, Faulted, Spent, opening}
use Rattle.sd_work.specs.BigStep.{Coming, reached, big_step}
use Rattle.sd_work.specs.Run.{Left, Run}
use Rattle.sd_work.proofs.left_to_right.Leads.{Pays}
use Rattle.sd_work.proofs.left_to_right.BigRuns.{big_run-sequential, sequential-big_run}
use Rattle.sd_confluence.specs.Safe.{MayInterleave}
use Rattle.sd_confluence.proofs.bags.Works.{Work as Bag, group, nest, and_work, act}
use Rattle.sd_confluence.proofs.bags.WorkTouches.{Safe}
use Rattle.sd_confluence.proofs.bags.WorkRuns.{Engine, Ends}
use Rattle.sd_confluence.proofs.commuting.Answers.{can_answers}
use Rattle.sd_confluence.proofs.commuting.Front.{moved_back, safe_step, front}
use Rattle.sd_confluence.proofs.image.Images.{frame_of, stack_of, work_of, works_of}
use Rattle.sd_confluence.proofs.image.SafeImage.{safe-image}
use Rattle.sd_confluence.proofs.runs.Nearer.{engine, sound-of, sound-settled, settled-sound, settled-before}
use Rattle.sd_confluence.proofs.runs.Reaching.{run-reaches}
use Rattle.sd_confluence.proofs.runs.Confluent.{run_ends}
use Rattle.sd_pieces.specs.history.Pieces.{Piece, Work, terms_of, piece_before, graph_of_items, graph_of_pieces}
use Rattle.sd_pieces.specs.history.History.{MayFollow, History, nothing_done, and_piece}
use Rattle.sd_pieces.specs.history.DoneWithin.{IsDoneWithin}
use Rattle.std.specs.Bool.{⊤}
use Rattle.sd_pieces.specs.course.Reading.{apply_all}
use Rattle.sd_pieces.specs.course.Course.{course, told, told_end, with_more, HasTurns}
use Rattle.sd_pieces.proofs.course_lemmas.Courses.{told-course}
use Rattle.sd_pieces.proofs.course_lemmas.MoreTurns.{course-more}
use Rattle.sd_pieces.proofs.course_lemmas.MoreAllowed.{more-allowed}
use Rattle.sd_pieces.proofs.history_lemmas.Ways.{plus}
use Rattle.sd_pieces.proofs.history_lemmas.Follows.{big-more, just-so-many}
use Rattle.sd_pieces.proofs.history_lemmas.OneEnd.{allowed-more, wants-one}
use Rattle.sd_pieces.proofs.history_lemmas.Whole.{nothing_updated, nest-owner, Cut, cut, After, may-go, flat_at, history-goes}
use Rattle.sd_pieces.proofs.history_lemmas.Cutting.{cut-run}
use Rattle.sd_pieces.proofs.history_lemmas.CutSafe.{cut-interleaves, cut-pools}
use Rattle.sd_pieces.proofs.history_lemmas.Halting.{Halts, halts-low, halts-along, halts-part, halts-owner, Comes, by-moves, term-comes}

-- ---- a run that is done

-- no turns come back on the way to an end
fewer-turns : {P : Type 0} (n : ℕ) (m e : Engine P) → Ends n m e → e.turns ≤ m.turns
fewer-turns {P} zero m e r = let same : m.turns ≡ e.turns = ap (λ (x : Engine P). x.turns) r.0 in omega arith
fewer-turns (suc n) m e r =
    let w = moved_back m.work m.turns (act m.work r.0 []) r.2 (can_answers m.work r.0 [] r.1) r.3 in
    less w.0 m.turns r.2.turns e.turns w.3 (fewer-turns n r.2 e r.4)
  where
    less : (b : Bool) (n k l : ℕ) → Pays b n k → l ≤ k → l ≤ n
    less true n k l p h = omega (arith, p)
    less false n k l p h = omega (arith, p)

-- with an end ahead, all moves of safe work go on
ends-halt : {P : Type 0} (n : ℕ) (m e : Engine P) → Safe m.work → Ends n m e → Halts e.turns n m.work [] m.turns
ends-halt zero m e s r = (fewer-turns zero m e r, r.1)
ends-halt (suc n) m e s r = (
  fewer-turns (suc n) m e r,
  λ p c.
      let f = front (suc n) m e s r p c in
      let w = moved_back m.work m.turns (act m.work p []) f.2 (can_answers m.work p [] c) f.3 in
      let same : f.0 ≡ n = sym (ap pred f.1) in
      let rest = ends-halt n f.2 e (safe_step m f.2 p s f.3) (subst (λ k. Ends k f.2 e) same f.4) in
      (w.0, w.1, f.2.work, f.2.turns, w.2, w.3, subst (λ z. Halts e.turns n f.2.work z f.2.turns) (sym (nothing_updated w.1)) rest),
)

-- the image of work whose run is done
run-halts : {P : Type 0} (term : Term P) (turns : ℕ) (picks : List ℕ) (left : Left) → MayInterleave term → Run term turns picks (Done left) → (k : ℕ) × Halts left.turns k (work_of term) [] turns
run-halts term turns picks left may h =
    let r = run-reaches h.0 picks (opening term turns) left h.1 in
    let sound = sound-of term may in
    let first = run_ends h.0 picks (opening term turns) r.0 (record { sound = sound-settled term sound; settled = settled-sound term sound }) r.1 in
    let whole = settled-before term sound first.0 turns (engine r.0.term r.0.turns) first.1 in
    let same : r.0.turns ≡ left.turns = sym (ap (λ (l : Left). l.turns) r.2) in
    (whole.0, subst (λ low. Halts low whole.0 (work_of term) [] turns) same (ends-halt whole.0 (engine term turns) (engine r.0.term r.0.turns) (safe-image term may.safe) whole.1))

-- ---- pieces

-- what a piece comes to from here, with so many turns left at least
record PieceComes {P : Type 0} (piece : Piece P) (memories : Memories) (rest low : ℕ) : Type 0 where
  pub comes : Comes (λ most. big_step piece.term most memories rest)
  pub enough : low ≤ comes.turns

-- where moves of the pieces halt, a piece that may follow on a history that left so many turns comes to its end
piece-comes : {P : Type 0} (work : Work P) (most : ℕ) (opening memories : Memories) (history : List ℕ) (turns rest number : ℕ) (piece : Piece P) (low k : ℕ)
    → IsOrder (piece_before work) → AreOrdered (terms_of work.pieces) → Halts low k (group (piece_before work) (works_of (terms_of work.pieces))) (stack_of opening) (turns + rest)
    → History work most opening history memories turns → MayFollow work history number piece → PieceComes piece memories rest low
piece-comes work most opening memories history turns rest number piece low k o f h g follows =
    let way = history-goes work most opening o f history memories turns g rest in
    let there = halts-along low k h way.1 in
    let c : Cut way.0 number (work_of piece.term) = cut way.0 number (work_of piece.term) (way.2.others number piece follows.is_piece follows.is_new) in
    let a : After work history (plus c.pre (and_work (work_of piece.term) c.post)) = subst (After work history) c.whole way.2 in
    let part = halts-part (piece_before work) o c.pre c.post (may-go work history number piece c.pre c.post (work_of piece.term) a c.count follows) low there.0 (work_of piece.term) (stack_of memories) rest
    (subst (λ ws. Halts low there.0 (group (piece_before work) ws) (stack_of memories) rest) c.whole there.2) in
    let ordered = flat_at work.pieces number piece f follows.is_piece in
    let x = term-comes piece.term ordered low there.0 memories rest part in
    let b = by-moves piece.term ordered memories rest x in
    let e = halts-along low there.0 part b.goes in
    record { comes = x; enough = halts-low low e.0 b.left (stack_of x.memories) x.turns e.2 }

-- a piece that came to its end so wants just so many turns
record JustWants {P : Type 0} (piece : Piece P) (memories : Memories) (rest low : ℕ) : Type 0 where
  pub allowed : ℕ
  pub after : Memories
  pub spent : ℕ
  pub left : ℕ
  pub sum : rest ≡ spent + left
  pub enough : low ≤ left
  pub done : big_step piece.term allowed memories spent ≡ reached after 0

just-wants : {P : Type 0} (piece : Piece P) (memories : Memories) (rest low : ℕ) → PieceComes piece memories rest low → JustWants piece memories rest low
just-wants piece memories rest low a =
    let x = a.comes in
    let so = just-so-many piece.term x.least memories x.memories rest x.turns (x.done x.least (omega arith)) in
    record { allowed = x.least; after = x.memories; spent = so.0; left = x.turns; sum = so.1; enough = a.enough; done = so.2 }

-- a history fits into the turns
history-fits : {P : Type 0} (work : Work P) (most : ℕ) (opening : Memories) (low k total : ℕ) → IsOrder (piece_before work) → AreOrdered (terms_of work.pieces)
    → Halts low k (group (piece_before work) (works_of (terms_of work.pieces))) (stack_of opening) total → (history : List ℕ) (memories : Memories) (turns : ℕ)
    → History work most opening history memories turns → (rest : ℕ) × (total ≡ turns + rest) × (low ≤ rest)
history-fits work most opening low k total o f h history memories turns nothing_done = (total, omega arith, halts-low low k (group (piece_before work) (works_of (terms_of work.pieces))) (stack_of opening) total h)
history-fits {P} work most opening low k total o f h history' memories' turns' (and_piece {history} {memories} {turns} number piece spent after g follows big) =
    let r = history-fits work most opening low k total o f h history memories turns g in
    let w = just-wants piece memories r.0 low
    (piece-comes work most opening memories history turns r.0 number piece low k o f (subst (λ n. Halts low k (group (piece_before work) (works_of (terms_of work.pieces))) (stack_of opening) n) r.1 h) g follows) in
    let one = wants-one piece.term (w.allowed + most) memories after w.after spent w.spent
    (more-allowed piece.term most (w.allowed + most) memories spent _ (omega arith) big) (more-allowed piece.term w.allowed (w.allowed + most) memories w.spent _ (omega arith) w.done) in
    (w.left, (let a = r.1 in let b = w.sum in let c = one.1 in omega arith), w.enough)

-- ---- items

-- the pieces of items whose sequential run is done: their group halts
record GroupHalts {P : Type 0} (work : Work P) (own : Memory) (budget low : ℕ) : Type 0 where
  pub order : IsOrder (piece_before work)
  pub ordered : AreOrdered (terms_of work.pieces)
  pub moves : ℕ
  pub halts : Halts low moves (group (piece_before work) (works_of (terms_of work.pieces))) (stack_of (own ∷ [])) budget

group-halts : {P : Type 0} (work : Work P) (items : Terms P) (own : Memory) (budget : ℕ) (left : Left) → IsDoneWithin work items own budget left → GroupHalts work own budget left.turns
group-halts {P} work items own budget left d =
    let may = cut-interleaves work items own d.cut d.interleave in
    let big = sequential-big_run (graph_of_items work.before items own) budget (Done left) d.interleave.ordered d.pools tt d.done in
    let run = big_run-sequential (graph_of_pieces work own) big.0 budget (Done left) may.ordered (cut-pools work items own 0 d.cut d.interleave.safe d.pools) (cut-run work work.before items own big.0 budget d.cut ∙ big.1) in
    let h = run-halts (graph_of_pieces work own) budget [] left may run in
    let body : ℕ → Values → Bag P = λ k e. work_of (list Items (piece_before work) (terms_of work.pieces)) in
    record {
      order = may.ordered.0.0;
      ordered = may.ordered.0.1;
      moves = h.0;
      halts = halts-owner (λ f t. nest body (λ k e. []) f 0 [] t) (nest-owner body (λ k e. []) 0 []) left.turns h.0 (frame_of own) (group (piece_before work) (works_of (terms_of work.pieces))) [] budget h.1;
    }

pub turns-enough : {P : Type 0} (work : Work P) (items : Terms P) (own : Memory) (budget : ℕ) (left : Left) (most : ℕ) (history : List ℕ) (memories : Memories) (turns : ℕ)
    → IsDoneWithin work items own budget left → History work most (own ∷ []) history memories turns → turns + left.turns ≤ budget
turns-enough work items own budget left most history memories turns d h =
    let g = group-halts work items own budget left d in
    let r = history-fits work most (own ∷ []) left.turns g.moves budget g.order g.ordered g.halts history memories turns h in
    let a = r.1 in
    let b = r.2 in
    omega arith

piece-wants : {P : Type 0} (work : Work P) (items : Terms P) (own : Memory) (budget : ℕ) (left : Left) (most : ℕ) (history : List ℕ) (memories : Memories) (turns number : ℕ) (piece : Piece P)
    → IsDoneWithin work items own budget left → History work most (own ∷ []) history memories turns → MayFollow work history number piece
    → (rest : ℕ) × (budget ≡ turns + rest) × JustWants piece memories rest left.turns
piece-wants work items own budget left most history memories turns number piece d h follows =
    let g = group-halts work items own budget left d in
    let r = history-fits work most (own ∷ []) left.turns g.moves budget g.order g.ordered g.halts history memories turns h in (
      r.0,
      r.1,
      just-wants piece memories r.0 left.turns
          (piece-comes work most (own ∷ []) memories history turns r.0 number piece left.turns g.moves g.order g.ordered
          (subst (λ n. Halts left.turns g.moves (group (piece_before work) (works_of (terms_of work.pieces))) (stack_of (own ∷ [])) n) r.1 g.halts) h follows),
    )

pub piece-done : {P : Type 0} (work : Work P) (items : Terms P) (own : Memory) (budget : ℕ) (left : Left) (most : ℕ) (history : List ℕ) (memories : Memories) (turns number : ℕ) (piece : Piece P)
    → IsDoneWithin work items own budget left → History work most (own ∷ []) history memories turns → MayFollow work history number piece
    → (more : ℕ) × (after : Memories) × (spent : ℕ) × History work more (own ∷ []) (history ++ number ∷ []) after (turns + spent)
piece-done work items own budget left most history memories turns number piece d h follows =
    let w = (piece-wants work items own budget left most history memories turns number piece d h follows).2 in (
      w.allowed + most,
      w.after,
      w.spent,
      and_piece number piece w.spent w.after (allowed-more work most (w.allowed + most) (own ∷ []) history memories turns (omega arith) h) follows
          (more-allowed piece.term w.allowed (w.allowed + most) memories w.spent _ (omega arith) w.done),
    )

-- an end is one end
abbrev IsDone : {P : Type 0} → Coming P → Type 0
IsDone (Some (Done now)) = ⊤
IsDone (Some (Faulted fault)) = ⊥
IsDone (Some Spent) = ⊥
IsDone None = ⊥

-- a fault stays one where more turns are left
fault-more : {P : Type 0} (t : Term P) (most : ℕ) (s : Memories) (n more : ℕ) (fault : Fault P) → big_step t most s n ≡ Some (Faulted fault) → big_step t most s (n + more) ≡ Some (Faulted fault)
fault-more {P} t most s n more fault h =
    let e : (course t most s n).end ≡ Some (Faulted fault) = end-of (course t most s n).end (sym (told-course t most s n) ∙ h) in
    told-course t most s (n + more)
    ∙ ap (λ c. told c s) (course-more t most s n more (subst HasTurns (sym e) tt))
    ∙ ap (λ x. told_end (with_more more x) (apply_all (course t most s n).changes s)) e
  where
    end-of : (end : Option (Outcome P ℕ)) → told_end end (apply_all (course t most s n).changes s) ≡ Some (Faulted fault) → end ≡ Some (Faulted fault)
    end-of (Some (Done m)) q = elim (subst IsDone q tt) [ ]
    end-of (Some (Faulted f)) q = cc
    end-of (Some Spent) q = cc
    end-of None q = cc

pub piece-no-fault : {P : Type 0} (work : Work P) (items : Terms P) (own : Memory) (budget : ℕ) (left : Left) (most : ℕ) (history : List ℕ) (memories : Memories) (turns number : ℕ) (piece : Piece P)
    (more allowed : ℕ) (fault : Fault P)
    → IsDoneWithin work items own budget left → History work most (own ∷ []) history memories turns → MayFollow work history number piece
    → big_step piece.term more memories allowed ≢ Some (Faulted fault)
piece-no-fault work items own budget left most history memories turns number piece more allowed fault d h follows bad =
    let w = (piece-wants work items own budget left most history memories turns number piece d h follows).2 in
    let all = w.allowed + more in
    let good : big_step piece.term all memories (w.spent + allowed) ≡ reached w.after allowed =
    big-more piece.term all memories w.after w.spent allowed (more-allowed piece.term w.allowed all memories w.spent _ (omega arith) w.done) in
    let same : allowed + w.spent ≡ w.spent + allowed = omega arith in
    let wrong : big_step piece.term all memories (w.spent + allowed) ≡ Some (Faulted fault) =
    ap (big_step piece.term all memories) (sym same) ∙ fault-more piece.term all memories allowed w.spent fault (more-allowed piece.term more all memories allowed _ (omega arith) bad) in
    subst IsDone (sym good ∙ wrong) tt

pub piece-not-spent : {P : Type 0} (work : Work P) (items : Terms P) (own : Memory) (budget : ℕ) (left : Left) (most : ℕ) (history : List ℕ) (memories : Memories) (turns number : ℕ) (piece : Piece P)
    (more allowed : ℕ)
    → IsDoneWithin work items own budget left → History work most (own ∷ []) history memories turns → MayFollow work history number piece
    → budget ≤ turns + allowed + left.turns → big_step piece.term more memories allowed ≢ Some Spent
piece-not-spent {P} work items own budget left most history memories turns number piece more allowed d h follows up bad =
    let r = piece-wants work items own budget left most history memories turns number piece d h follows in
    let w = r.2 in
    let all = w.allowed + more in
    let over = surplus w.spent allowed (let a = r.1 in let b = w.sum in let c = w.enough in omega arith) in
    let good : big_step piece.term all memories (w.spent + over.0) ≡ reached w.after over.0 =
    big-more piece.term all memories w.after w.spent over.0 (more-allowed piece.term w.allowed all memories w.spent _ (omega arith) w.done) in
    let wrong : big_step piece.term all memories (w.spent + over.0) ≡ Some Spent =
    ap (big_step piece.term all memories) (sym over.1) ∙ more-allowed piece.term more all memories allowed _ (omega arith) bad in
    subst IsDone (sym good ∙ wrong) tt
  where
    surplus : (a b : ℕ) → a ≤ b → (c : ℕ) × (b ≡ a + c)
    surplus zero b up = (b, omega arith)
    surplus (suc a) zero up = absurd (omega arith)
    surplus (suc a) (suc b) up = let r = surplus a b (omega arith) in (r.0, (let e = r.1 in omega arith))
