-- What workers do of a piece is what the board asks, and a board opens so.
use Rattle.std.proofs.Common.{◌≡◌, ℕ, suc, List, [], ◌∷◌, map, length, Some, None, true, slice_get, refl, sym, ◌∙◌, ap, subst, arith}
use Rattle.sd_work.specs.Residual.{Term}
use Rattle.sd_work.specs.BigStep.{big_step}
use Rattle.sd_pieces.specs.course.Shape.{stack_shape}
use Rattle.sd_pieces.specs.history.Pieces.{Piece}
use Rattle.sd_pieces.specs.history.History.{History, nothing_done}
use Rattle.sd_graph.specs.PlainTree.{GraphTree}
use Rattle.sd_graph.specs.TreeFold.{PlainItem, graph_tree, item_tree}
use Rattle.sd_graph.specs.TreeParts.{containers_of}
use Rattle.sd_graph.specs.Context.{own_reach}
use Rattle.sd_graph.specs.declared.place.Place.{Place}
use Rattle.sd_mem.specs.mem.Shaped.{Shaped, alone}
use Rattle.sd_windows.specs.MapPieces.{kind_piece}
use Rattle.sd_cut.specs.Overlaid.{Overlaid}
use Rattle.sd_cut.specs.Using.{committed}
use Rattle.sd_part.specs.Cut.{HasShapeOf}
use Rattle.sd_part.specs.Part.{part_term, PartComesTo}
use Rattle.sd_part.specs.Whole.{IsOfWidths}
use Rattle.sd_part.specs.declared.part_end.PartEnd.{PartEnd}
use Rattle.sd_piece.specs.Run.{IsPieceRun}
use Rattle.sd_piece.specs.declared.piece.Piece.{Piece as CutPiece}
use Rattle.sd_board.specs.Assignment.{Assignment, IsLikeOpening, IsEndOf, IsStopped}
use Rattle.sd_board.specs.Boards.{IsClosed}
use Rattle.sd_board.specs.declared.job.Closed.{Closed}
use Rattle.sd_graph.specs.Wiring.{before}
use Rattle.sd_safe.specs.pieces.ItemPieces.{state_items, state_place}
use Rattle.sd_safe.proofs.pieces_lemmas.StateRuns.{place-is}
use Rattle.sd_crew.specs.Stage.{tree_of}
use Rattle.sd_crew.specs.declared.stage.Stage.{Stage}
use Rattle.sd_crew.specs.Work.{StateWork, IsWorkAt, IsWorkOf, IsCutOf}
use Rattle.sd_crew.proofs.Placed.{zip-get}

same-some : {A : Type 0} (x y : A) → Some x ≡ Some y → x ≡ y
same-some x y e = cc

none-some : {A B : Type 0} {x : A} → None ≡ Some x → B
none-some e = cc

one-shape : (a b c : Shaped) → HasShapeOf a c → HasShapeOf b c → HasShapeOf a b
one-shape a b c h g = (h.0 ∙ sym g.0, h.1 ∙ sym g.1)

-- ---- a piece that was done

pub end-of : (a : Assignment) (work : StateWork) (number : ℕ) (piece : CutPiece) (left : Overlaid) (end : PartEnd) → IsWorkOf a work → IsCutOf a work number piece →
    IsPieceRun (graph_tree work.graph) piece work.turns left end → IsEndOf a number left end
end-of a work number piece left end of cut run = λ asked memory at like agrees most.
    let tree : GraphTree = graph_tree work.graph in
    let placed : IsWorkAt tree work.values cut.at asked = zip-get (IsWorkAt tree work.values) work.places a.work.pieces number cut.at asked of.each cut.is_at at in
    let meant = cut.cut.meant in
    let one : meant.0 ≡ placed.item = same-some meant.0 placed.item (sym meant.1 ∙ placed.meant) in
    let made = cut.cut.made memory (one-shape memory cut.memory a.opening like.shape cut.like.shape) like.elements like.values in
    let does : part_term tree (own_reach (containers_of tree)) piece.state piece.values.items (item_tree piece.item).1 (item_tree piece.item).0 ≡ asked.term =
    (λ i. part_term tree (own_reach (containers_of tree)) (cut.cut.same_state i) (cut.cut.same_values i) (meant.3 i).1 (meant.3 i).0)
    ∙ ap (λ (item : PlainItem). part_term tree (own_reach (containers_of tree)) cut.at.state work.values (kind_piece work.values cut.at.first cut.at.count item.1) item.0) one
    ∙ sym placed.term in
    subst (λ turns. PartComesTo end turns (alone (committed left memory)) (big_step asked.term most (alone memory) turns)) of.budget
    (subst (λ (term : Term Place). PartComesTo end work.turns (alone (committed left memory)) (big_step term most (alone memory) work.turns)) does (run memory made agrees most))

-- ---- a board that opens

pub like-itself : (a : Assignment) (memory : Shaped) → a.opening ≡ memory → IsOfWidths memory → IsLikeOpening a memory
like-itself a memory is widths = record { shape = (sym (ap (λ (m : Shaped). m.shapes) is), ap (λ (m : Shaped). stack_shape (alone m)) (sym is)); elements = widths.0; values = widths.1 }

pub as-many : {A B : Type 0} (f : A → B) (xs : List A) → length (map f xs) ≡ length xs
as-many f [] = refl
as-many f (x ∷ xs) = ap suc (as-many f xs)

-- the items of a stage are before each other as its work tells
pub before-is : (stage : Stage) (from to : ℕ) → before (containers_of (tree_of stage)) (state_items (tree_of stage) stage.state) from to
    ≡ before (state_place (tree_of stage) stage.state stage.values.now).containers (state_items (tree_of stage) stage.state) from to
before-is stage from to = ap (λ containers. before containers (state_items (tree_of stage) stage.state) from to) (sym (place-is (tree_of stage) stage.state stage.values.now).0)

-- ---- a board without pieces

no-pieces : (pieces : List (Piece Place)) (number : ℕ) (piece : Piece Place) → length pieces ≡ 0 → slice_get pieces number ≡ Some piece → ⊥
no-pieces [] number piece none at = none-some at
no-pieces (first ∷ pieces) number piece none at = absurd (omega (arith, none))

pub closed-at-once : (a : Assignment) (memory : Shaped) (closed : Closed) → a.opening ≡ memory → IsOfWidths memory → length a.work.pieces ≡ 0 →
    closed.memory ≡ memory → closed.turns ≡ 0 → closed.history.items ≡ [] → closed.is_whole ≡ true → closed.stopped ≡ None → IsClosed a closed
closed-at-once a memory closed is widths none same no_turns no_history whole not_stopped = record {
  memory = subst (IsLikeOpening a) (sym same) (like-itself a memory is widths);
  done = (
    0,
    subst (λ (history : List ℕ). History a.work 0 (alone a.opening) history (alone closed.memory) closed.turns) (sym no_history)
        (subst (λ turns. History a.work 0 (alone a.opening) [] (alone closed.memory) turns) (sym no_turns)
        (subst (λ (m : Shaped). History a.work 0 (alone a.opening) [] (alone m) 0) (is ∙ sym same) nothing_done)),
  );
  stopped = subst (IsStopped a closed.history.items) (sym not_stopped) tt;
  whole = (λ yes number piece at. elim (no-pieces a.work.pieces number piece none at) [ ], λ all. whole);
}
