-- What was cut of a memory for a piece may be run.
use Rattle.std.proofs.Common.{◌≡◌, ℕ, ℤ, List, [], map, length, ◌≤◌, ◌∷◌, Option, Some, None, Result, Ok, Err, IfErr, arith, sym, ◌∙◌, ap, subst}
use Rattle.sd_graph.specs.ContainerParts.{Containers}
use Rattle.sd_graph.specs.PlainTree.{GraphTree, KindTree}
use Rattle.sd_graph.specs.TreeFold.{PlainItem, item_tree, graph_tree, named_container}
use Rattle.sd_graph.specs.TreeParts.{containers_of}
use Rattle.sd_graph.specs.Upwards.{KindLeadsUpwards}
use Rattle.sd_prop.specs.propagation.Accesses.{kind_accesses}
use Rattle.sd_race.specs.cover.Fit.{IsFit}
use Rattle.sd_validity.specs.rules.Valid.{IsValid}
use Rattle.sd_safe.specs.normal.NormalForm.{IsGraphNormal}
use Rattle.sd_windows.specs.MapPieces.{kind_piece}
use Rattle.sd_mem.specs.mem.Shaped.{Shaped, alone}
use Rattle.sd_cut.specs.Fits.{AreValuesOfWidth}
use Rattle.sd_cut.specs.Windowed.{HaveDimensions}
use Rattle.sd_part.specs.Boxes.{NumberBox, number_box}
use Rattle.sd_part.specs.Outline.{IsOutline, piece_accesses}
use Rattle.sd_part.specs.declared.outline.Outline.{Outline}
use Rattle.sd_part.proofs.PieceAccesses.{outline-piece}
use Rattle.sd_part.specs.Cut.{IsJustCut}
use Rattle.sd_part.specs.Hulls.{AreBelow, AreEven, AreWindowsFor}
use Rattle.sd_part.proofs.JustCut.{just-holds, just-made}
use Rattle.sd_part.proofs.MarkedBoxes.{windows-shaped}
use Rattle.sd_part.proofs.PieceFit.{piece-fits, piece-leads}
use Rattle.sd_piece.specs.declared.piece.Piece.{Piece}
use Rattle.sd_piece.specs.declared.piece.PieceAt.{PieceAt}
use Rattle.sd_piece.specs.declared.error.PieceError.TheVariants.{NoItem, Foreign}
use Rattle.sd_cut.specs.declared.refusal.CutError.{CutError}
use Rattle.sd_cut.specs.declared.refusal.CutError.TheVariants.{Outside}
use Rattle.sd_cut.specs.declared.refusal.CutError.TheVariants as uncut
use Rattle.sd_cut.specs.declared.window.Window.{Window}
use Rattle.sd_cut.specs.Cutting as cutting
use Rattle.sd_cut.specs.Windowed.{window_at}
use Rattle.sd_graph.specs.declared.graph.Sdfg.{Sdfg}
use Rattle.sd_graph.specs.declared.graph.ItemKind.TheViews.{out-Sdfg}
use Rattle.sd_graph.proofs.TreeLemmas.{graph_opened}
use Rattle.sd_piece.specs.Held.{HasTouched}
use Rattle.sd_piece.specs.Piece.{item_meant, boxes_of, HasValues, HasPieceOf}
use Rattle.sd_piece.specs.Run.{IsCutFrom, IsRefusal, IsForeign, IsUncut}
use Rattle.sd_piece.proofs.Found.{item-fits, item-leads}
use Rattle.sd_piece.proofs.Touched.{arrays-touched, streams-touched, none-outside}

-- a piece of an item, its boxes, and what was just cut of a memory that has what they touch
pub piece-is-cut : (tree : GraphTree) (memory : Shaped) (values : List ℤ) (at : PieceAt) (item : PlainItem) (nodes : List ℕ) (piece : Piece) → IsValid tree → IsGraphNormal tree → AreValuesOfWidth (alone memory) →
    item_meant tree at ≡ Some item → HasValues values at.first at.count item.1 → piece.state ≡ at.state → piece.values.items ≡ values →
    item_tree piece.item ≡ (item.0, kind_piece values at.first at.count item.1) →
    piece.boxes.items ≡ boxes_of (containers_of tree) values (kind_piece values at.first at.count item.1) nodes → AreEven piece.boxes.items →
    HasTouched (containers_of tree) memory piece.boxes.items → IsJustCut piece.boxes.items memory piece.cut → AreBelow (length piece.cut.windows) piece.boxes.items →
    IsCutFrom tree memory values at piece
piece-is-cut tree memory values at item nodes piece valid normal widths is has state same_values made boxes even touched just below = record {
  meant = (item, is, has, made);
  same_state = state;
  same_values = same_values;
  may = record {
    fits = subst (λ (i : PlainItem). IsFit i.1 []) (sym made) (piece-fits item.1 values at.first at.count (item-fits tree at.state at.item item valid normal is));
    leads = subst (λ (i : PlainItem). KindLeadsUpwards i.1) (sym made) (piece-leads item.1 values at.first at.count (item-leads tree at.state at.item item valid is));
    boxes = (nodes, boxes ∙ sym (λ i. boxes_of (containers_of tree) (same_values i) (made i).1 nodes));
    holds = just-holds piece.boxes.items memory piece.cut just even (streams-touched (containers_of tree) memory piece.boxes.items piece.cut below touched) widths;
  };
  touched = touched;
  just = just;
  made = λ over same elements others.
      just-made piece.boxes.items (containers_of tree) memory over piece.cut just shaped (arrays-touched (containers_of tree) memory piece.boxes.items piece.cut just.windows touched) same elements others;
}
  where
    shaped : HaveDimensions (containers_of tree) piece.cut.windows
    shaped = windows-shaped (containers_of tree) values (kind_accesses (kind_piece values at.first at.count item.1) (containers_of tree) nodes) piece.cut.windows
        (subst (λ (l : List NumberBox). AreWindowsFor l piece.cut.windows) boxes just.windows)

-- ---- as it is found in code

-- the containers of a graph in code
pub containers_in : (g : Sdfg) → map named_container (out-Sdfg g).containers.entries ≡ containers_of (graph_tree g)
containers_in g = sym (ap containers_of (graph_opened g))

pub piece-is-cut-in : (tree : GraphTree) (containers : Containers) (memory : Shaped) (values : List ℤ) (at : PieceAt) (item : PlainItem) (nodes : List ℕ) (piece : Piece) → containers ≡ containers_of tree → IsValid tree → IsGraphNormal tree →
    AreValuesOfWidth (alone memory) → item_meant tree at ≡ Some item → HasValues values at.first at.count item.1 → piece.state ≡ at.state → piece.values.items ≡ values →
    item_tree piece.item ≡ (item.0, kind_piece values at.first at.count item.1) → piece.boxes.items ≡ boxes_of containers values (kind_piece values at.first at.count item.1) nodes → AreEven piece.boxes.items →
    HasTouched containers memory piece.boxes.items → IsJustCut piece.boxes.items memory piece.cut → AreBelow (length piece.cut.windows) piece.boxes.items → IsCutFrom tree memory values at piece
piece-is-cut-in tree containers memory values at item nodes piece same valid normal widths is has state same_values made boxes even touched just below =
    piece-is-cut tree memory values at item nodes piece valid normal widths is has state same_values made
    (boxes ∙ ap (λ (all : Containers). boxes_of all values (kind_piece values at.first at.count item.1) nodes) same) even
    (subst (λ (all : Containers). HasTouched all memory piece.boxes.items) same touched) just below

-- the boxes of a piece, by the outline of its item
pub boxes-outlined : (tree : GraphTree) (containers : Containers) (kind : KindTree) (outline : Outline) (values : List ℤ) (first count : ℕ) (boxes : List NumberBox) → containers ≡ containers_of tree →
    IsOutline (containers_of tree) kind outline → boxes ≡ map (number_box containers values) (piece_accesses values first count outline) → (nodes : List ℕ) × (boxes ≡ boxes_of containers values (kind_piece values first count kind) nodes)
boxes-outlined tree containers kind outline values first count boxes same is made =
    let accesses = outline-piece containers kind outline values first count (subst (λ (all : Containers). IsOutline all kind outline) (sym same) is) in
    (accesses.0, made ∙ ap (map (number_box containers values)) accesses.1)

-- what the memory has not
pub is-foreign : (tree : GraphTree) (containers : Containers) (memory : Shaped) (values : List ℤ) (at : PieceAt) (item : PlainItem) (nodes : List ℕ) (boxes : List NumberBox) → containers ≡ containers_of tree →
    item_meant tree at ≡ Some item → HasValues values at.first at.count item.1 → boxes ≡ boxes_of containers values (kind_piece values at.first at.count item.1) nodes → (HasTouched containers memory boxes → ⊥) →
    IsRefusal tree memory values at Foreign
is-foreign tree containers memory values at item nodes boxes same is has are not = (
  subst (HasPieceOf values at.first at.count) (sym is) has,
  subst (IsForeign tree memory values at) (sym is) (
    nodes,
    λ touched. not (subst (HasTouched containers memory) (sym are)
        (subst (λ (all : Containers). HasTouched all memory (boxes_of all values (kind_piece values at.first at.count item.1) nodes)) (sym same) touched)),
  ),
)

-- no window of what it has is outside
pub never-outside : (containers : Containers) (memory : Shaped) (values : List ℤ) (kind : KindTree) (nodes : List ℕ) (boxes : List NumberBox) (c : ℕ) →
    boxes ≡ boxes_of containers values kind nodes → HasTouched containers memory boxes → IsUncut boxes memory (Outside c) → ⊥
never-outside containers memory values kind nodes boxes c are touched refused =
    none-outside containers values (kind_accesses kind containers nodes) memory refused.0 c (subst (λ (l : List NumberBox). AreWindowsFor l refused.0) are refused.1) (subst (HasTouched containers memory) are touched) refused.2

-- no such piece
pub no-such-item : (tree : GraphTree) (memory : Shaped) (values : List ℤ) (at : PieceAt) → item_meant tree at ≡ None → IsRefusal tree memory values at NoItem
no-such-item tree memory values at is has = subst (HasPieceOf values at.first at.count) is has

pub no-such-piece : (tree : GraphTree) (memory : Shaped) (values : List ℤ) (at : PieceAt) (item : PlainItem) → item_meant tree at ≡ Some item → (HasValues values at.first at.count item.1 → ⊥) → IsRefusal tree memory values at NoItem
no-such-piece tree memory values at item is not has = not (subst (HasPieceOf values at.first at.count) is has)

-- ---- a cut of windows and streams

pub below-more : (n m : ℕ) (boxes : List NumberBox) → n ≤ m → AreBelow n boxes → AreBelow m boxes
below-more n m [] more below = tt
below-more n m (box ∷ boxes) more below = let first = below.0 in (omega (arith, first, more), below-more n m boxes more below.1)

uncut-is : (boxes : List NumberBox) (memory : Shaped) (windows : List (Option Window)) (error : CutError) → AreWindowsFor boxes windows → cutting.IsRefusal memory (window_at windows) error → IsUncut boxes memory error
uncut-is boxes memory windows (Outside container) for_them refused = (windows, for_them, refused)
uncut-is boxes memory windows uncut.Memory for_them refused = tt

pub uncut-so : (boxes : List NumberBox) (memory : Shaped) (windows : List (Option Window)) {A : Type 0} (result : Result A CutError) → AreWindowsFor boxes windows →
    IfErr result (cutting.IsRefusal memory (window_at windows)) → IfErr result (IsUncut boxes memory)
uncut-so boxes memory windows (Ok cut) for_them refused = tt
uncut-so boxes memory windows (Err error) for_them refused = uncut-is boxes memory windows error for_them refused
