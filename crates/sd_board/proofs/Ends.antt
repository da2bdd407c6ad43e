-- The work of each piece has an end, where that of the items has one.
use Rattle.std.proofs.Common.{◌≡◌, ℕ, zero, suc, ◌<◌, List, [], ◌∷◌, ◌++◌, slice_get, Some, None, Bool, false, nat_lt, refl, subst, arith}
use Rattle.sd_work.specs.Memory.{Memory, Memories}
use Rattle.sd_work.specs.Residual.{Term, Terms, none, also, list, Items, Points, part_at, IsOrder}
use Rattle.sd_work.specs.Step.{Outcome}
use Rattle.sd_work.specs.Run.{Left, Run}
use Rattle.sd_work.specs.New.{IsNew, AreNew, UnfoldsNew, UnfoldNew}
use Rattle.sd_work.specs.WellFormed.{IsOrdered, AreOrdered, PaysCycles, PayCycles}
use Rattle.sd_work.specs.OrderedPools.{HasOrderedPools, HaveOrderedPools, DoesNotFeed}
use Rattle.sd_work.specs.BigStep.{Coming, Reached, and_then, big_step}
use Rattle.sd_work.specs.BigRun.{left_by, big_run}
use Rattle.sd_work.proofs.left_to_right.BigRuns.{sequential-big_run}
use Rattle.sd_work.proofs.ending.HaltingPools.{run-ends_with_pools}
use Rattle.sd_pieces.specs.history.Pieces.{Piece, Work, and_parts, all_parts, map_pieces, IsCut, no_items, as_it_is, in_pieces, graph_of_items}
use Rattle.sd_board.proofs.Marks.{none_some, some_same}

-- ---- one piece

-- a term whose runs, in a graph, all end and are those from left to right
record Ends {P : Type 0} (term : Term P) : Type 0 where
  pub pays : PaysCycles term
  pub is_new : IsNew term
  pub unfolds_new : UnfoldsNew term
  pub ordered : IsOrdered term
  pub pools : HasOrderedPools 1 term

abbrev AllEnd : {P : Type 0} → Terms P → Type 0
AllEnd none = Unit {0}
AllEnd (also term terms) = Ends term × AllEnd terms

-- ---- its run

abbrev earlier : ℕ → ℕ → Bool
earlier from to = nat_lt from to

earlier_is_order : IsOrder earlier
earlier_is_order = record { rises = λ j k h. grind arith; passes = λ i j k h h'. grind arith }

alone_feeds_none : {P : Type 0} (term : Term P) (i j : ℕ) → i < j → earlier i j ≡ false → DoesNotFeed (part_at (also term none) i) (part_at (also term none) j)
alone_feeds_none term i j less free = absurd (grind arith)

came-to : {P : Type 0} (coming : Coming P) (rest after : Memories → ℕ → Coming P) (outcome : Outcome P Left) → left_by (and_then (and_then coming rest) after) ≡ Some outcome → (came : Outcome P Reached) × (coming ≡ Some came)
came-to (Some came) rest after outcome e = (came, refl)
came-to None rest after outcome e = none_some e

term-ends : {P : Type 0} (term : Term P) (own : Memory) (turns : ℕ) → Ends term → (most : ℕ) × (outcome : Outcome P Reached) × (big_step term most (own ∷ []) turns ≡ Some outcome)
term-ends {P} term own turns h =
    let graph : Term P = graph_of_items earlier (also term none) own in
    let part : IsOrdered (list Items earlier (also term none)) = (earlier_is_order, (h.ordered, tt)) in
    let pools : HasOrderedPools 1 (list Items earlier (also term none)) = ((h.pools, tt), λ kind i j less free. alone_feeds_none term i j less free) in
    let run : (outcome : Outcome P Left) × Run graph turns [] outcome =
    run-ends_with_pools graph turns []
    ((h.pays, tt), λ state values. (h.pays, tt), record { rank = λ state. state; bound = 0; rises = λ state values. tt })
    ((h.unfolds_new, tt), λ state values. ((h.is_new, tt), (h.unfolds_new, tt))) in
    let big : (most : ℕ) × (big_run graph most turns ≡ Some run.0) = sequential-big_run graph turns run.0 (part, λ state values. part) (pools, λ state values. pools) tt run.1 in
    let came = came-to (big_step term big.0 (own ∷ []) turns) _ _ run.0 big.1 in
    (big.0, came.0, came.1)

-- ---- lists of terms

all-end : {P : Type 0} (terms : Terms P) → PayCycles terms → AreNew terms → UnfoldNew terms → AreOrdered terms → HaveOrderedPools 1 terms → AllEnd terms
all-end none p n u o q = tt
all-end (also term terms) p n u o q = (record { pays = p.0; is_new = n.0; unfolds_new = u.0; ordered = o.0; pools = q.0 }, all-end terms p.1 n.1 u.1 o.1 q.1)

all-pay : {P : Type 0} (terms : Terms P) → AllEnd terms → PayCycles terms
all-pay none h = tt
all-pay (also term terms) h = (h.0.pays, all-pay terms h.1)

all-new : {P : Type 0} (terms : Terms P) → AllEnd terms → AreNew terms
all-new none h = tt
all-new (also term terms) h = (h.0.is_new, all-new terms h.1)

all-unfold : {P : Type 0} (terms : Terms P) → AllEnd terms → UnfoldNew terms
all-unfold none h = tt
all-unfold (also term terms) h = (h.0.unfolds_new, all-unfold terms h.1)

all-ordered : {P : Type 0} (terms : Terms P) → AllEnd terms → AreOrdered terms
all-ordered none h = tt
all-ordered (also term terms) h = (h.0.ordered, all-ordered terms h.1)

all-pools : {P : Type 0} (terms : Terms P) → AllEnd terms → HaveOrderedPools 1 terms
all-pools none h = tt
all-pools (also term terms) h = (h.0.pools, all-pools terms h.1)

split : {P : Type 0} (terms others : Terms P) → AllEnd (and_parts terms others) → AllEnd terms × AllEnd others
split none others h = (tt, h)
split (also term terms) others h = let rest = split terms others h.1 in ((h.0, rest.0), rest.1)

-- ---- pieces

abbrev AllPiecesEnd : {P : Type 0} → List (Piece P) → Type 0
AllPiecesEnd [] = Unit {0}
AllPiecesEnd (piece ∷ pieces) = Ends piece.term × AllPiecesEnd pieces

run-ends : {P : Type 0} (before : ℕ → ℕ → Bool) (points : Terms P) → IsOrder before → AllEnd points → Ends (list Points before points)
run-ends before points order h = record {
  pays = all-pay points h;
  is_new = all-new points h;
  unfolds_new = all-unfold points h;
  ordered = (order, all-ordered points h);
  pools = (all-pools points h, λ is. cc);
}

runs-end : {P : Type 0} (item : ℕ) (before : ℕ → ℕ → Bool) (runs : List (Terms P)) → IsOrder before → AllEnd (all_parts runs) → AllPiecesEnd (map_pieces item before runs)
runs-end item before [] order h = tt
runs-end item before (points ∷ runs) order h = let both = split points (all_parts runs) h in (run-ends before points order both.0, runs-end item before runs order both.1)

joined : {P : Type 0} (pieces others : List (Piece P)) → AllPiecesEnd pieces → AllPiecesEnd others → AllPiecesEnd (pieces ++ others)
joined [] others h k = k
joined (piece ∷ pieces) others h k = (h.0, joined pieces others h.1 k)

-- the points of a map that ends
points-end : {P : Type 0} (before : ℕ → ℕ → Bool) (points : Terms P) → Ends (list Points before points) → AllEnd points
points-end before points h = all-end points h.pays h.is_new h.unfolds_new h.ordered.1 h.pools.0

pieces-end : {P : Type 0} {item : ℕ} {items : Terms P} {pieces : List (Piece P)} → IsCut item items pieces → AllEnd items → AllPiecesEnd pieces
pieces-end no_items h = tt
pieces-end (as_it_is term cut) h = (h.0, pieces-end cut h.1)
pieces-end (in_pieces {item} {items} {pieces} before runs never cut) h =
    joined (map_pieces item before runs) pieces (runs-end item before runs h.0.ordered.0 (points-end before (all_parts runs) h.0)) (pieces-end cut h.1)

one-ends : {P : Type 0} (pieces : List (Piece P)) (number : ℕ) (piece : Piece P) → AllPiecesEnd pieces → slice_get pieces number ≡ Some piece → Ends piece.term
one-ends [] number piece h at = none_some at
one-ends (first ∷ pieces) zero piece h at = subst (λ (p : Piece _). Ends p.term) (some_same first piece at) h.0
one-ends (first ∷ pieces) (suc number) piece h at = one-ends pieces number piece h.1 at

-- the items of a graph whose runs end
pub items-end : {P : Type 0} (work : Work P) (items : Terms P) (own : Memory) → IsCut 0 items work.pieces
    → PaysCycles (graph_of_items work.before items own) → UnfoldsNew (graph_of_items work.before items own)
    → IsOrdered (graph_of_items work.before items own) → HasOrderedPools 0 (graph_of_items work.before items own)
    → (number : ℕ) (piece : Piece P) (memory : Memory) (turns : ℕ) → slice_get work.pieces number ≡ Some piece
    → (most : ℕ) × (outcome : Outcome P Reached) × (big_step piece.term most (memory ∷ []) turns ≡ Some outcome)
items-end work items own cut pays new ordered pools number piece memory turns at =
    term-ends piece.term memory turns
    (one-ends work.pieces number piece (pieces-end cut (all-end items pays.0 (new.1 0 []).0 new.0 ordered.0.1 pools.0.0)) at)
