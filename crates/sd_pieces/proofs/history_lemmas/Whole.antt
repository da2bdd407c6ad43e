-- A history that has all pieces is a run.
use Rattle.std.proofs.Common.{◌≡◌, ◌⊎◌, ℕ, zero, suc, ◌+◌, ◌<◌, ◌==◌, List, [], ◌∷◌, ◌++◌, slice_get, Option, Some, None, Bool, true, false, not, ◌||◌, cond, refl, sym, ◌∙◌, ap, subst, inl, inr, arith}
use Rattle.std.proofs.lemmas.Bool.{eqb-true, eq-eqb}
use Rattle.sd_work.specs.Memory.{Memory, Memories}
use Rattle.sd_work.specs.Exit.{Values, Exit, first_exit}
use Rattle.sd_work.specs.Residual.{Items, Term, list, ended, IsOrder, ready_from}
use Rattle.sd_work.specs.Step.{Done, opening}
use Rattle.sd_work.specs.Run.{Left, Run}
use Rattle.sd_work.proofs.Flags.{both_true}
use Rattle.sd_work.specs.WellFormed.{IsOrdered, AreOrdered}
use Rattle.sd_confluence.specs.Safe.{MayInterleave}
use Rattle.sd_confluence.specs.Alike.{AreAlike}
use Rattle.sd_confluence.proofs.bags.BagMemory.{Frame, Stack, Update, keep, put, add, remove, updated, plain}
use Rattle.sd_confluence.proofs.bags.Works.{Work as Bag, group, nest, over, Works, no_works, and_work, is_over, all_over, overs, Route, act, Can, CanHere, owned_answer, follow}
use Rattle.sd_confluence.proofs.bags.WorkRuns.{Engine, answered, Ends}
use Rattle.sd_confluence.proofs.commuting.Front.{moved_on}
use Rattle.sd_confluence.proofs.commuting.NextMoves.{can_unfinished, can_here}
use Rattle.sd_confluence.proofs.image.Images.{frame_of, stack_of, work_of, works_of}
use Rattle.sd_confluence.proofs.image.AlikeImages.{left-alike}
use Rattle.sd_confluence.proofs.image.SafeImage.{safe-image}
use Rattle.sd_confluence.proofs.runs.Nearer.{sound-of, settled-sound, sound-settled, settled-nearer}
use Rattle.sd_confluence.proofs.runs.Reaching.{left_of, reaches-run}
use Rattle.sd_pieces.proofs.history_lemmas.AnyPicks.{ends-by-any-picks}
use Rattle.sd_pieces.specs.history.Pieces.{Piece, Work, terms_of, before_if, piece_before, graph_of_pieces}
use Rattle.sd_pieces.specs.history.History.{is_in_history, MayFollow, History, nothing_done, and_piece, HasAll}
use Rattle.sd_pieces.proofs.history_lemmas.Ways.{Goes, stays, moves, goes-then, plus, count_works, MayGo, group-goes, IsOwner, owner-goes}
use Rattle.sd_pieces.proofs.history_lemmas.Doing.{term-goes}
use Rattle.sd_pieces.proofs.history_lemmas.Follows.{big-more}

-- ---- works by their numbers

-- the work of this number, where there is one
abbrev pub nth : {P : Type 0} → Works P → ℕ → Option (Bag P)
nth no_works k = None
nth (and_work t ts) zero = Some t
nth (and_work t ts) (suc k) = nth ts k

-- works cut at one of them
pub record Cut {P : Type 0} (ws : Works P) (k : ℕ) (t : Bag P) : Type 0 where
  pub pre : Works P
  pub post : Works P
  pub whole : ws ≡ plus pre (and_work t post)
  pub count : count_works pre ≡ k

abbrev IsNothing : {A : Type 0} → Option A → Type 0
IsNothing None = Unit {0}
IsNothing (Some x) = ⊥

none_some : {A B : Type 0} {x : A} → None ≡ Some x → B
none_some e = elim (subst IsNothing e tt) [ ]

abbrev from_some : {A : Type 0} → A → Option A → A
from_some d None = d
from_some d (Some x) = x

pub cut : {P : Type 0} (ws : Works P) (k : ℕ) (t : Bag P) → nth ws k ≡ Some t → Cut ws k t
cut no_works k t e = none_some e
cut (and_work y ws) zero t e = record { pre = no_works; post = ws; whole = ap (λ o. and_work (from_some y o) ws) e; count = refl }
cut (and_work y ws) (suc k) t e = let c = cut ws k t e in record { pre = and_work y c.pre; post = c.post; whole = ap (and_work y) c.whole; count = ap suc c.count }

nth_here : {P : Type 0} (pre post : Works P) (t : Bag P) → nth (plus pre (and_work t post)) (count_works pre) ≡ Some t
nth_here no_works post t = refl
nth_here (and_work y pre) post t = nth_here pre post t

nth_other : {P : Type 0} (pre post : Works P) (t x : Bag P) (j : ℕ) → (count_works pre ≡ j → ⊥) → nth (plus pre (and_work x post)) j ≡ nth (plus pre (and_work t post)) j
nth_other no_works post t x zero h = elim (h refl) [ ]
nth_other no_works post t x (suc j) h = refl
nth_other (and_work y pre) post t x zero h = refl
nth_other (and_work y pre) post t x (suc j) h = nth_other pre post t x j (λ e. h (ap suc e))

nth_front : {P : Type 0} (pre post : Works P) (t : Bag P) (j : ℕ) → j < count_works pre → nth (plus pre (and_work t post)) j ≡ nth pre j
nth_front no_works post t j h = absurd (omega arith)
nth_front (and_work y pre) post t zero h = refl
nth_front (and_work y pre) post t (suc j) h = nth_front pre post t j (omega arith)

-- a work that is there is over
abbrev pub OverIf : {P : Type 0} → Option (Bag P) → Type 0
OverIf None = ⊥
OverIf (Some t) = is_over t ≡ true

abbrev is_over_if : {P : Type 0} → Option (Bag P) → Bool
is_over_if None = true
is_over_if (Some t) = is_over t

-- each work in front that is before the next one is over
ready_by : {P : Type 0} (before : ℕ → ℕ → Bool) (pre : Works P) (i k : ℕ) → ((j : ℕ) → j < count_works pre → before (i + j) k ≡ true → is_over_if (nth pre j) ≡ true) → ready_from before i (overs pre) k ≡ true
ready_by before no_works i k h = refl
ready_by before (and_work t pre) i k h =
    both_true (is_over t || not (before i k)) _
    (on (is_over t) (before i k) (λ e. h 0 (omega arith) (let same : i + 0 ≡ i = omega arith in ap (λ n. before n k) same ∙ e)))
    (ready_by before pre (suc i) k (λ j l e. h (suc j) (omega arith) (let same : i + suc j ≡ suc i + j = omega arith in ap (λ n. before n k) same ∙ e)))
  where
    on : (a b : Bool) → (b ≡ true → a ≡ true) → (a || not b) ≡ true
    on true b h = refl
    on false true h = h refl
    on false false h = refl

all_by : {P : Type 0} (ws : Works P) → ((j : ℕ) → is_over_if (nth ws j) ≡ true) → all_over ws ≡ true
all_by no_works h = refl
all_by (and_work t ws) h = both_true (is_over t) _ (h 0) (all_by ws (λ j. h (suc j)))

-- ---- after a history

-- pieces in the history are over, the others as they were
pub record After {P : Type 0} (work : Work P) (history : List ℕ) (ws : Works P) : Type 0 where
  pub finished : (k : ℕ) (p : Piece P) → slice_get work.pieces k ≡ Some p → is_in_history k history ≡ true → OverIf (nth ws k)
  pub others : (k : ℕ) (p : Piece P) → slice_get work.pieces k ≡ Some p → is_in_history k history ≡ false → nth ws k ≡ Some (work_of p.term)
  pub no_more : (k : ℕ) → slice_get work.pieces k ≡ None → nth ws k ≡ None

at_first : {P : Type 0} (ps : List (Piece P)) (k : ℕ) (p : Piece P) → slice_get ps k ≡ Some p → nth (works_of (terms_of ps)) k ≡ Some (work_of p.term)
at_first [] k p e = none_some e
at_first {P} (q ∷ ps) zero p e = ap (λ (o : Option (Piece P)). Some (work_of (from_some q o).term)) e
at_first (q ∷ ps) (suc k) p e = at_first ps k p e

none_first : {P : Type 0} (ps : List (Piece P)) (k : ℕ) → slice_get ps k ≡ None → nth (works_of (terms_of ps)) k ≡ None
none_first [] k e = refl
none_first (q ∷ ps) zero e = none_some (sym e)
none_first (q ∷ ps) (suc k) e = none_first ps k e

pub flat_at : {P : Type 0} (ps : List (Piece P)) (k : ℕ) (p : Piece P) → AreOrdered (terms_of ps) → slice_get ps k ≡ Some p → IsOrdered p.term
flat_at [] k p f e = none_some e
flat_at {P} (q ∷ ps) zero p f e = subst (λ (o : Option (Piece P)). IsOrdered (from_some q o).term) e f.0
flat_at (q ∷ ps) (suc k) p f e = flat_at ps k p f.1 e

pub stands-append : (j k : ℕ) (h : List ℕ) → is_in_history j (h ++ k ∷ []) ≡ (is_in_history j h || (k == j))
stands-append j k [] = or_false (k == j)
  where
    or_false : (b : Bool) → (b || false) ≡ b
    or_false true = refl
    or_false false = refl
stands-append j k (x ∷ h) = ap (λ b. (x == j) || b) (stands-append j k h) ∙ assoc (x == j) (is_in_history j h) (k == j)
  where
    assoc : (a b c : Bool) → (a || (b || c)) ≡ ((a || b) || c)
    assoc true b c = refl
    assoc false b c = refl

abbrev Untrue : Bool → Type 0
Untrue true = ⊥
Untrue false = Unit {0}

no : {A : Type 0} → false ≡ true → A
no e = elim (subst Untrue e tt) [ ]

is_this : (k j : ℕ) → ((k ≡ j) × ((k == j) ≡ true)) ⊎ ((k ≡ j → ⊥) × ((k == j) ≡ false))
is_this k j = on (k == j) refl
  where
    on : (b : Bool) → (k == j) ≡ b → ((k ≡ j) × ((k == j) ≡ true)) ⊎ ((k ≡ j → ⊥) × ((k == j) ≡ false))
    on true e = inl (eqb-true k j e, e)
    on false e = inr ((λ f. no (sym e ∙ eq-eqb k j f)), e)

not_this : (a b : Bool) → b ≡ false → (a || b) ≡ a
not_this true b e = refl
not_this false b e = e

-- a piece that followed is over, and nothing else changed
after-piece : {P : Type 0} (work : Work P) (h : List ℕ) (k : ℕ) (pre post : Works P) (t x : Bag P) → After work h (plus pre (and_work t post)) → count_works pre ≡ k → is_over x ≡ true →
    After work (h ++ k ∷ []) (plus pre (and_work x post))
after-piece work h k pre post t x a c o = record {
  finished = λ j p at st. on_finished j p at st (is_this k j);
  others = λ j p at st. on_other j p at st (is_this k j);
  no_more = λ j e. on_none j e (is_this k j);
}
  where
    other : (j : ℕ) → (k ≡ j → ⊥) → nth (plus pre (and_work x post)) j ≡ nth (plus pre (and_work t post)) j
    other j f = nth_other pre post t x j (λ e. f (sym c ∙ e))

    on_finished : (j : ℕ) (p : Piece _) → slice_get work.pieces j ≡ Some p → is_in_history j (h ++ k ∷ []) ≡ true → ((k ≡ j) × ((k == j) ≡ true)) ⊎ ((k ≡ j → ⊥) × ((k == j) ≡ false)) → OverIf (nth (plus pre (and_work x post)) j)
    on_finished j p at st (inl e) = subst (λ n. OverIf (nth (plus pre (and_work x post)) n)) (c ∙ e.0) (subst OverIf (sym (nth_here pre post x)) o)
    on_finished j p at st (inr e) =
        subst OverIf (sym (other j e.0)) (a.finished j p at (sym (not_this (is_in_history j h) (k == j) e.1) ∙ sym (stands-append j k h) ∙ st))

    on_other : (j : ℕ) (p : Piece _) → slice_get work.pieces j ≡ Some p → is_in_history j (h ++ k ∷ []) ≡ false → ((k ≡ j) × ((k == j) ≡ true)) ⊎ ((k ≡ j → ⊥) × ((k == j) ≡ false)) → nth (plus pre (and_work x post)) j ≡ Some (work_of p.term)
    on_other j p at st (inl e) = no (sym st ∙ stands-append j k h ∙ or_right (is_in_history j h) (k == j) e.1)
      where
        or_right : (a b : Bool) → b ≡ true → (a || b) ≡ true
        or_right true b e = refl
        or_right false b e = e
    on_other j p at st (inr e) = other j e.0 ∙ a.others j p at (sym (not_this (is_in_history j h) (k == j) e.1) ∙ sym (stands-append j k h) ∙ st)

    on_none : (j : ℕ) → slice_get work.pieces j ≡ None → ((k ≡ j) × ((k == j) ≡ true)) ⊎ ((k ≡ j → ⊥) × ((k == j) ≡ false)) → nth (plus pre (and_work x post)) j ≡ None
    on_none j e (inl f) = none_some (sym (a.no_more j e) ∙ subst (λ n. nth (plus pre (and_work t post)) n ≡ Some t) (c ∙ f.0) (nth_here pre post t))
    on_none j e (inr f) = other j f.0 ∙ a.no_more j e

-- what follows may go on
pub may-go : {P : Type 0} (work : Work P) (h : List ℕ) (k : ℕ) (p : Piece P) (pre post : Works P) (t : Bag P) → After work h (plus pre (and_work t post)) → count_works pre ≡ k → MayFollow work h k p → MayGo (piece_before work) pre
may-go {P} work h k p pre post t a c f = ready_by (piece_before work) pre 0 (count_works pre) each
  where
    over_if : (o : Option (Bag P)) → OverIf o → is_over_if o ≡ true
    over_if None e = elim e [ ]
    over_if (Some t) e = e

    on : (j : ℕ) (o : Option (Piece P)) → slice_get work.pieces j ≡ o → before_if work.before o (Some p) ≡ true → OverIf (nth (plus pre (and_work t post)) j)
    on j None e b = no b
    on j (Some q) e b = a.finished j q e (f.is_ready j q e b)

    each : (j : ℕ) → j < count_works pre → piece_before work (0 + j) (count_works pre) ≡ true → is_over_if (nth pre j) ≡ true
    each j l b =
        let same : 0 + j ≡ j = omega arith in
        ap is_over_if (sym (nth_front pre post t j l))
        ∙ over_if (nth (plus pre (and_work t post)) j)
        (on j (slice_get work.pieces j) refl
        (ap (before_if work.before (slice_get work.pieces j)) (sym f.is_piece) ∙ ap (λ n. piece_before work j n) (sym c) ∙ ap (λ n. piece_before work n (count_works pre)) (sym same) ∙ b))

-- a history is made by moves of the pieces
pub history-goes : {P : Type 0} (work : Work P) (most : ℕ) (opening : Memories) → IsOrder (piece_before work) → AreOrdered (terms_of work.pieces) → (h : List ℕ) (m : Memories) (turns : ℕ) → History work most opening h m turns → (rest : ℕ) →
    (ws : Works P) × Goes (group (piece_before work) (works_of (terms_of work.pieces))) (stack_of opening) (turns + rest) (group (piece_before work) ws) (stack_of m) rest × After work h ws
history-goes work most opening o f h m turns nothing_done rest =
    let same : 0 + rest ≡ rest = omega arith in (
      works_of (terms_of work.pieces),
      subst (λ n. Goes (group (piece_before work) (works_of (terms_of work.pieces))) (stack_of opening) n (group (piece_before work) (works_of (terms_of work.pieces))) (stack_of opening) rest) (sym same)
          (stays (group (piece_before work) (works_of (terms_of work.pieces))) (stack_of opening) rest),
      record { finished = λ k p at st. no st; others = λ k p at st. at_first work.pieces k p at; no_more = λ k e. none_first work.pieces k e },
    )
history-goes {P} work most opening o f h' m' turns' (and_piece {history} {memories} {turns} number piece spent after g follows big) rest =
    let r = history-goes work most opening o f history memories turns g (spent + rest) in
    let c : Cut r.0 number (work_of piece.term) = cut r.0 number (work_of piece.term) (r.2.others number piece follows.is_piece follows.is_new) in
    let a : After work history (plus c.pre (and_work (work_of piece.term) c.post)) = subst (After work history) c.whole r.2 in
    let t = term-goes piece.term (flat_at work.pieces number piece f follows.is_piece) most memories after (spent + rest) rest (big-more piece.term most memories after spent rest big) in
    let way = group-goes (piece_before work) o c.pre c.post (may-go work history number piece c.pre c.post (work_of piece.term) a c.count follows) t.1 in
    let sum : (turns + spent) + rest ≡ turns + (spent + rest) = omega arith in (
      plus c.pre (and_work t.0 c.post),
      subst (λ n. Goes (group (piece_before work) (works_of (terms_of work.pieces))) (stack_of opening) n (group (piece_before work) (plus c.pre (and_work t.0 c.post))) (stack_of after) rest) (sym sum)
          (goes-then r.1 (subst (λ ws. Goes (group (piece_before work) ws) (stack_of memories) (spent + rest) (group (piece_before work) (plus c.pre (and_work t.0 c.post))) (stack_of after) rest) (sym c.whole) way)),
      after-piece work history number c.pre c.post (work_of piece.term) t.0 a c.count t.2,
    )

-- ---- the whole run

-- a run of a graph acts as its state does
pub nest-owner : {P : Type 0} (body : ℕ → Values → Bag P) (exits : ℕ → Values → List (Exit P)) (state : ℕ) (values : Values) → IsOwner (λ f t. nest body exits f state values t)
nest-owner body exits state values = record {
  acts = λ f t p s c. ap (λ b. cond b (follow body exits f (first_exit (exits state values) (plain (f ∷ s)))) (owned_answer (λ g x. nest body exits g state values x) f (act t p (f ∷ s)))) (can_unfinished t p (f ∷ s) c);
  cans = λ f t p s c. can_here (is_over t) p (Can t p (f ∷ s)) (can_unfinished t p (f ∷ s) c) c;
}

pub nothing_updated : (u : Update) → updated u [] ≡ []
nothing_updated keep = refl
nothing_updated (put to by v) = refl
nothing_updated (add l c v) = refl
nothing_updated (remove l c v) = refl

-- moves to a work that has none
goes-ends : {P : Type 0} {w w' : Bag P} {s s' : Stack} {n n' : ℕ} → Goes w s n w' s' n' → s ≡ [] → ((p : Route) → Can w' p [] → ⊥) → (k : ℕ) × Ends k (record { work = w; turns = n }) (record { work = w'; turns = n' })
goes-ends (stays w s n) e h = (0, (refl, h))
goes-ends (moves w x w' s s' n m n' p b u c a y g) e h =
    let r = goes-ends g (ap (updated u) e ∙ nothing_updated u) h in
    (suc r.0, (p, subst (Can w p) e c, record { work = x; turns = m }, ap (answered w n) (ap (act w p) (sym e) ∙ a) ∙ moved_on w n m b u x y, r.1))

-- no exit is left
over-last : {P : Type 0} (body : ℕ → Values → Bag P) (exits : ℕ → Values → List (Exit P)) (f : Frame) (state : ℕ) (values : Values) (t : Bag P) (s : Stack) (n : ℕ) → exits state values ≡ [] → is_over t ≡ true →
    Goes (nest body exits f state values t) s n (over f) s n
over-last body exits f state values t s n e o =
    moves (nest body exits f state values t) (over f) (over f) s s n n n [] false keep (subst (λ b. CanHere b [] (Can t [] (f ∷ s))) (sym o) refl)
    (ap (λ b. cond b (follow body exits f (first_exit (exits state values) (plain (f ∷ s)))) (owned_answer (λ g x. nest body exits g state values x) f (act t [] (f ∷ s)))) o
    ∙ ap (λ es. follow body exits f (first_exit es (plain (f ∷ s)))) e)
    refl (stays (over f) s n)

abbrev first_of : Frame → Stack → Frame
first_of d [] = d
first_of d (f ∷ s) = f

abbrev others_of : Stack → Stack
others_of [] = []
others_of (f ∷ s) = s

pub whole-run : {P : Type 0} (work : Work P) (most : ℕ) (own memory : Memory) (history : List ℕ) (spent left : ℕ) (picks : List ℕ)
    → MayInterleave (graph_of_pieces work own) → HasAll work history
    → History work most (own ∷ []) history (memory ∷ []) spent
    → (end : Left) × Run (graph_of_pieces work own) (spent + left) picks (Done end) × AreAlike memory end.memory × (end.turns ≡ left)
whole-run {P} work most own memory history spent left picks may all h =
    let graph : Term P = graph_of_pieces work own in
    let sound = sound-of graph may in
    let r = history-goes work most (own ∷ []) may.ordered.0.0 may.ordered.0.1 history (memory ∷ []) spent h left in
    let q = owner-goes (λ f t. nest (λ k e. work_of (list Items (piece_before work) (terms_of work.pieces))) (λ k e. []) f 0 [] t) (nest-owner (λ k e. work_of (list Items (piece_before work) (terms_of work.pieces))) (λ k e. []) 0 []) r.1 (frame_of own) [] refl in
    let last = over-last (λ k e. work_of (list Items (piece_before work) (terms_of work.pieces))) (λ k e. []) q.0 0 [] (group (piece_before work) r.0) q.1 left refl (all_by r.0 (each r.0 r.2)) in
    let ends = goes-ends (goes-then q.3 last) refl (λ p c. none_here q.0 p q.1 c) in
    let near = settled-nearer graph sound ends.0 (spent + left) (record { work = over q.0; turns = left }) (safe-image graph may.safe) ends.1 in
    let w = ends-by-any-picks near.0 near.0 (omega arith) (opening graph (spent + left)) (record { work = over q.0; turns = left }) (record { sound = sound-settled graph sound; settled = settled-sound graph sound }) near.2 near.3 picks in
    let same : frame_of memory ≡ q.0 = ap (first_of q.0) q.2 in
    let alike = left-alike (record { term = ended memory; turns = left }) w.1 (ap (λ f. engine_of f left) same ∙ sym w.3) in
    (left_of w.1, (w.0, reaches-run w.0 picks (opening graph (spent + left)) w.1 w.2), alike.memory, sym alike.turns)
  where
    engine_of : Frame → ℕ → Engine P
    engine_of f n = record { work = over f; turns = n }

    none_here : (f : Frame) (p : Route) (s : Stack) → Can {P = P} (over f) p [] → ⊥
    none_here f p s c = c

    on : (j : ℕ) (ws : Works P) → After work history ws → (o : Option (Piece P)) → slice_get work.pieces j ≡ o → is_over_if (nth ws j) ≡ true
    on j ws a None e = ap is_over_if (a.no_more j e)
    on j ws a (Some p) e = over_if (nth ws j) (a.finished j p e (all j p e))
      where
        over_if : (o : Option (Bag P)) → OverIf o → is_over_if o ≡ true
        over_if None e = elim e [ ]
        over_if (Some t) e = e

    each : (ws : Works P) → After work history ws → (j : ℕ) → is_over_if (nth ws j) ≡ true
    each ws a j = on j ws a (slice_get work.pieces j) refl
