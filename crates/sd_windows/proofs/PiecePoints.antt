-- A piece of a map has the points of its values, and the pieces in order have all points.
use Rattle.std.proofs.Common.{◌≡◌, ℕ, zero, suc, ◌+◌, ◌-◌, ◌≤◌, ◌<◌, ℤ, pos, ◌+ℤ◌, ◌-ℤ◌, ◌*ℤ◌, ◌<ℤ◌, List, [], ◌∷◌, ◌++◌, map, length, take, drop, sum, flat_map, false, refl, sym, ◌∙◌, ap, arith}
use Rattle.std.proofs.lemmas.Int.{ints}
use Rattle.std.proofs.lemmas.List.Concat.{flat_map-cons}
use Rattle.sd_range.specs.declared.range.Range.{Range}
use Rattle.sd_range.specs.Affine.{affine_value}
use Rattle.sd_range.specs.Range.{range_values, stepped, least_value}
use Rattle.sd_range.specs.Points.{tuples, ranges_of, values_of_ranges, piece_of, points_of_pieces, first_values}
use Rattle.sd_range.proofs.Stepped.{stepped-empty}
use Rattle.sd_range.proofs.Parts.{part_is}
use Rattle.sd_range.proofs.PieceLaws.{pieces-all}
use Rattle.sd_work.specs.Residual.{Term, list, Points, also}
use Rattle.sd_graph.specs.PlainTree.{map_scope, ItemTrees}
use Rattle.sd_graph.specs.Context.{Context}
use Rattle.sd_graph.specs.Unfold.{point_terms, in_any_order, unfold_kind}
use Rattle.sd_graph.specs.declared.place.Place.{Place}
use Rattle.sd_pieces.specs.history.Pieces.{and_parts, all_parts}
use Rattle.sd_windows.specs.MapPieces.{HasValues, number, last_of, range_piece, params_piece, kind_piece, at_each}

-- ---- values

-- an expression of a number alone
number-value : (values : List ℤ) (b : ℤ) → affine_value values (number b) ≡ b
number-value values b = omega (arith, ints)

least-number : (values : List ℤ) (e : ℤ) → least_value values (number e ∷ []) ≡ e
least-number values e = number-value values e

before_begin : (b : ℤ) → (b -ℤ pos 1) <ℤ b
before_begin b = omega (arith, ints)

stepped-piece : (begin last step : ℤ) (first count : ℕ) → pos 0 <ℤ step → first + count ≤ length (stepped begin last step) →
    stepped (begin +ℤ (pos first *ℤ step)) (last_of (begin +ℤ (pos first *ℤ step)) step count) step ≡ take count (drop first (stepped begin last step))
stepped-piece begin last step first zero rises h = stepped-empty (begin +ℤ (pos first *ℤ step)) ((begin +ℤ (pos first *ℤ step)) -ℤ pos 1) step (before_begin (begin +ℤ (pos first *ℤ step)))
stepped-piece begin last step first (suc more) rises h =
    part_is begin last step (begin +ℤ (pos first *ℤ step)) ((begin +ℤ (pos first *ℤ step)) +ℤ (pos more *ℤ step)) first (suc more) rises h (λ none. cc) refl
    (let one_less : suc more - 1 ≡ more = omega arith in ap (λ n. (begin +ℤ (pos first *ℤ step)) +ℤ (pos n *ℤ step)) (sym one_less))

range-piece : (values : List ℤ) (r : Range) (first count : ℕ) → pos 0 <ℤ r.step → first + count ≤ length (range_values values r) →
    range_values values (range_piece values first count r) ≡ take count (drop first (range_values values r))
range-piece values r first count rises h =
    (λ i. stepped (number-value values (affine_value values r.begin +ℤ (pos first *ℤ r.step)) i) (least-number values (last_of (affine_value values r.begin +ℤ (pos first *ℤ r.step)) r.step count) i) r.step)
    ∙ stepped-piece (affine_value values r.begin) (least_value values r.ends) r.step first count rises h

-- ---- points

params-piece : (values : List ℤ) (params : List (ℕ × Range)) (first count : ℕ) → HasValues values params first count →
    values_of_ranges (ranges_of (params_piece values first count params)) values ≡ piece_of first count (values_of_ranges (ranges_of params) values)
params-piece values [] first count h = refl
params-piece values (param ∷ params) first count h = ap (λ firsts. firsts ∷ values_of_ranges (ranges_of params) values) (range-piece values param.1 first count h.0 h.1)

-- the terms of points do not change
same-terms : (values : List ℤ) (params : List (ℕ × Range)) (first count : ℕ) (private : List ℕ) (body : ItemTrees) (context : Context) →
    at_each context (params_piece values first count params) private body ≡ at_each context params private body
same-terms values [] first count private body context = refl
same-terms values (param ∷ params) first count private body context = refl

-- a piece of a map has the terms of its points
pub piece-terms : (params : List (ℕ × Range)) (private : List ℕ) (body : ItemTrees) (line : ℕ) (context : Context) (first count : ℕ) → HasValues context.values params first count →
    unfold_kind (kind_piece context.values first count (map_scope false params private body)) line context
    ≡ list Points in_any_order (point_terms (at_each context params private body) (tuples (piece_of first count (values_of_ranges (ranges_of params) context.values))))
piece-terms params private body line context first count h =
    λ i. list Points in_any_order (point_terms (same-terms context.values params first count private body context i) (tuples (params-piece context.values params first count h i)))

-- ---- all pieces

terms-append : (f : List ℤ → Term Place) (ps qs : List (List ℤ)) → point_terms f (ps ++ qs) ≡ and_parts (point_terms f ps) (point_terms f qs)
terms-append f [] qs = refl
terms-append f (p ∷ ps) qs = ap (also (f p)) (terms-append f ps qs)

pub all-terms : (f : List ℤ → Term Place) (pss : List (List (List ℤ))) → point_terms f (flat_map (λ piece. piece) pss) ≡ all_parts (map (point_terms f) pss)
all-terms f [] = refl
all-terms f (ps ∷ pss) =
    ap (point_terms f) (flat_map-cons (λ piece. piece) ps pss) ∙ terms-append f ps (flat_map (λ piece. piece) pss) ∙ ap (and_parts (point_terms f ps)) (all-terms f pss)

-- a map is its pieces, one after another
pub map-terms : (params : List (ℕ × Range)) (private : List ℕ) (body : ItemTrees) (line : ℕ) (context : Context) (counts : List ℕ) → 0 < length params →
    sum counts ≡ length (first_values (values_of_ranges (ranges_of params) context.values)) →
    unfold_kind (map_scope false params private body) line context
    ≡ list Points in_any_order (all_parts (map (point_terms (at_each context params private body)) (points_of_pieces 0 counts (values_of_ranges (ranges_of params) context.values))))
map-terms params private body line context counts some all =
    ap (list Points in_any_order) (
    ap (point_terms (at_each context params private body)) (sym (pieces-all counts (values_of_ranges (ranges_of params) context.values) (some-ranges params some) all))
    ∙ all-terms (at_each context params private body) (points_of_pieces 0 counts (values_of_ranges (ranges_of params) context.values))
    )
  where
    some-ranges : (ps : List (ℕ × Range)) → 0 < length ps → 0 < length (values_of_ranges (ranges_of ps) context.values)
    some-ranges [] h = h
    some-ranges (param ∷ params) h = omega arith
