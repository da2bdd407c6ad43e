-- Items are cut into the pieces of their maps.
use Rattle.std.proofs.Common.{◌≡◌, ℕ, suc, pos, ◌+◌, ◌≤◌, ◌<◌, ◌<ℤ◌, List, [], ◌∷◌, ◌++◌, map, length, sum, true, false, refl, sym, subst, arith}
use Rattle.std.proofs.lemmas.List.Sums.{sum_by-cons}
use Rattle.sd_range.specs.declared.range.Range.{Range}
use Rattle.sd_range.specs.Range.{range_values}
use Rattle.sd_range.specs.Points.{ranges_of, values_of_ranges, points_of_pieces}
use Rattle.sd_work.specs.Residual.{list, Points, Terms, also}
use Rattle.sd_graph.specs.PlainTree.{KindTree, task, map_scope, consume_scope, nested_graph, reduction, copy, ItemTrees, no_item, and_item}
use Rattle.sd_graph.specs.Context.{Context}
use Rattle.sd_graph.specs.Unfold.{point_terms, in_any_order, unfold_kind, unfold_items}
use Rattle.sd_graph.specs.declared.place.Place.{Place}
use Rattle.sd_pieces.specs.history.Pieces.{Piece, all_parts, map_pieces, IsCut, no_items, as_it_is, in_pieces}
use Rattle.sd_windows.specs.MapPieces.{at_each, pieces_from, kind_pieces, pieces_of_items, CutsAll, CutAllItems}
use Rattle.sd_windows.proofs.PiecePoints.{piece-terms, map-terms}

abbrev piece_of_kind : (item line : ℕ) → Context → KindTree → Piece Place
piece_of_kind item line context kind = record { item = item; term = unfold_kind kind line context }

-- the pieces of a map, from one value of its first parameter on, are runs of its points
run-pieces : (item line : ℕ) (context : Context) (param : ℕ × Range) (params : List (ℕ × Range)) (private : List ℕ) (body : ItemTrees) (first : ℕ) (counts : List ℕ) →
    pos 0 <ℤ param.1.step → first + sum counts ≤ length (range_values context.values param.1) →
    map (piece_of_kind item line context) (pieces_from context.values first counts (map_scope false (param ∷ params) private body))
    ≡ map_pieces item in_any_order (map (point_terms (at_each context (param ∷ params) private body)) (points_of_pieces first counts (values_of_ranges (ranges_of (param ∷ params)) context.values)))
run-pieces item line context param params private body first [] rises few = refl
run-pieces item line context param params private body first (count ∷ counts) rises few =
    let one_more : sum (count ∷ counts) ≡ count + sum counts = sum_by-cons (λ n. n) count counts in
    let here : first + count ≤ length (range_values context.values param.1) = omega arith in
    let later : (first + count) + sum counts ≤ length (range_values context.values param.1) = omega arith in
    λ i. record { item = item; term = piece-terms (param ∷ params) private body line context first count (rises, here) i } ∷ run-pieces item line context param params private body (first + count) counts rises later i

-- an item, before others that are cut
cut-kind : (kind : KindTree) (counts : List ℕ) (item line : ℕ) (context : Context) (others : Terms Place) (pieces : List (Piece Place)) → CutsAll context.values counts kind → IsCut (suc item) others pieces →
    IsCut item (also (unfold_kind kind line context) others) (map (piece_of_kind item line context) (kind_pieces context.values counts kind) ++ pieces)
cut-kind (task code ins outs) counts item line context others pieces h c = as_it_is _ c
cut-kind (map_scope true params private body) counts item line context others pieces h c = as_it_is _ c
cut-kind (map_scope false [] private body) counts item line context others pieces h c = elim h [ ]
cut-kind (map_scope false (param ∷ params) private body) counts item line context others pieces h c =
    let runs = map (point_terms (at_each context (param ∷ params) private body)) (points_of_pieces 0 counts (values_of_ranges (ranges_of (param ∷ params)) context.values)) in
    let some : 0 < length (param ∷ params) = omega arith in
    let few : 0 + sum counts ≤ length (range_values context.values param.1) = (let e = h.1 in omega arith) in
    let all = map-terms (param ∷ params) private body line context counts some h.1 in
    let cut : IsCut item (also (list Points in_any_order (all_parts runs)) others) (map_pieces item in_any_order runs ++ pieces) = in_pieces in_any_order runs (λ from to. refl) c in
    subst (λ t. IsCut item (also t others) (map (piece_of_kind item line context) (pieces_from context.values 0 counts (map_scope false (param ∷ params) private body)) ++ pieces)) (sym all)
    (subst (λ ps. IsCut item (also (list Points in_any_order (all_parts runs)) others) (ps ++ pieces)) (sym (run-pieces item line context param params private body 0 counts h.0 few)) cut)
cut-kind (consume_scope stream element private body) counts item line context others pieces h c = as_it_is _ c
cut-kind (nested_graph inner links) counts item line context others pieces h c = as_it_is _ c
cut-kind (reduction resolution axis identity from to) counts item line context others pieces h c = as_it_is _ c
cut-kind (copy from to) counts item line context others pieces h c = as_it_is _ c

pub cut-items : (items : ItemTrees) (counts : ℕ → List ℕ) (item : ℕ) (context : Context) → CutAllItems context.values counts item items →
    IsCut item (unfold_items items context) (pieces_of_items counts item items context)
cut-items no_item counts item context h = no_items
cut-items (and_item line kind items) counts item context h =
    cut-kind kind (counts item) item line context (unfold_items items context) (pieces_of_items counts (suc item) items context) h.0 (cut-items items counts (suc item) context h.1)
