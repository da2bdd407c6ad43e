-- A map of one parameter that is cut into tiles does the same.
use Rattle.std.proofs.Common.{◌≡◌, ℕ, suc, ◌-◌, ◌<◌, ℤ, pos, ◌+ℤ◌, ◌*ℤ◌, ◌<ℤ◌, List, [], ◌∷◌, ◌++◌, map, length, Bool, refl, sym, ◌∙◌, ap, ap₂, subst, arith}
use Rattle.std.specs.List.{flat_map, fold}
use Rattle.std.specs.Int.{int_min}
use Rattle.std.proofs.lemmas.Int.{ints}
use Rattle.sd_range.specs.declared.affine.Affine.{Affine}
use Rattle.sd_range.specs.declared.range.Range.{Range}
use Rattle.sd_range.specs.Affine.{affine_value}
use Rattle.sd_range.specs.Range.{range_values, least_value, stepped}
use Rattle.sd_range.specs.Points.{tuples}
use Rattle.sd_work.specs.Memory.{Memory}
use Rattle.sd_work.specs.Exit.{Values}
use Rattle.sd_work.specs.Residual.{Term, list, Items, Points, owning, none, also}
use Rattle.sd_work.specs.BigStep.{big_step}
use Rattle.sd_graph.specs.PlainTree.{KindTree, map_scope, ItemTrees, no_item, and_item, GraphTree}
use Rattle.sd_graph.specs.Wiring.{has_number}
use Rattle.sd_range.specs.Variables.{with_variable}
use Rattle.sd_graph.specs.Context.{Context, private_memory}
use Rattle.sd_graph.specs.Unfold.{at_point, point_terms, in_any_order, order_of_points, unfold_kind, unfold_items}
use Rattle.sd_graph.specs.declared.place.Place.{Place}
use Rattle.sd_range.proofs.Variables.{variable_set, variable_kept}
use Rattle.sd_alike.specs.alike.Lift.{Lift, as_it_is, added}
use Rattle.sd_alike.specs.alike.SameWork.{DoesSame, DoSame, AgreeBelow}
use Rattle.sd_alike.specs.alike.Alike.{RangeBelow, KindBelow, ItemsBelow, NamesItsVariables, AreAlike}
use Rattle.sd_alike.specs.alike.Places.{graph_with, GraphLeads}
use Rattle.sd_alike.specs.alike.Tiles.{variable_plus, range_of_tiles, range_in_tile, IsTileable, tiled}
use Rattle.sd_alike.specs.alike.Rewritten.{ReplacesSame, RunsSame}
use Rattle.sd_alike.proofs.alike_lemmas.SameTerms.{also_same, owning_same}
use Rattle.sd_alike.proofs.alike_lemmas.SameValues.{least_where, agree_with}
use Rattle.sd_alike.proofs.alike_lemmas.SameTrees.{body_of, items_same, kind_same}
use Rattle.sd_alike.proofs.alike_lemmas.SamePlaces.{parts_do_same}
use Rattle.sd_alike.proofs.alike_lemmas.SplitMaps.{terms_of_both, map_both, own_behind, round_does_same}
use Rattle.sd_alike.proofs.alike_lemmas.CollapsedMaps.{same_on, alone_same}
use Rattle.sd_alike.proofs.alike_lemmas.TileNumbers.{numbers_of_tiles}
use Rattle.sd_alike.proofs.alike_lemmas.WholeRuns.{rewritten_runs_same}

-- ---- points of one parameter

abbrev point_of : ℤ → List ℤ
point_of value = value ∷ []

points_of_one : (values : List ℤ) → tuples (values ∷ []) ≡ map point_of values
points_of_one [] = refl
points_of_one (value ∷ values) = ap (λ others. point_of value ∷ others) (points_of_one values)

by_tiles : (most : ℕ) (lift : Lift) (term choice : List ℤ → Term Place) (tile : ℤ → List ℤ) →
    ((begin : ℤ) → DoSame most lift (point_terms term (map point_of (tile begin))) (also (choice (point_of begin)) none)) → (begins : List ℤ) →
    DoSame most lift (point_terms term (map point_of (flat_map tile begins))) (point_terms choice (map point_of begins))
by_tiles most lift term choice tile each [] = λ memories turns. refl
by_tiles most lift term choice tile each (begin ∷ begins) =
    subst (λ parts. DoSame most lift parts (point_terms choice (map point_of (begin ∷ begins))))
    (sym (ap (point_terms term) (map_both point_of (tile begin) (flat_map tile begins)) ∙ terms_of_both term (map point_of (tile begin)) (map point_of (flat_map tile begins))))
    (parts_do_same most lift (point_terms term (map point_of (tile begin))) (point_terms term (map point_of (flat_map tile begins))) (also (choice (point_of begin)) none) (point_terms choice (map point_of begins))
    (each begin) (by_tiles most lift term choice tile each begins))

-- ---- the range of a tile

fold_then : (start last : ℤ) (xs : List ℤ) → fold int_min start (xs ++ last ∷ []) ≡ int_min (fold int_min start xs) last
fold_then start last [] = refl
fold_then start last (x ∷ xs) = fold_then (int_min start x) last xs

least_then : (ends : List Affine) (end : Affine) (values : Values) → 0 < length ends → least_value values (ends ++ end ∷ []) ≡ int_min (least_value values ends) (affine_value values end)
least_then [] end values ended = absurd (omega (arith, ended))
least_then (first ∷ ends) end values ended =
    ap (fold int_min (affine_value values first)) (map_both (λ other. affine_value values other) ends (end ∷ []))
    ∙ fold_then (affine_value values first) (affine_value values end) (map (λ other. affine_value values other) ends)

plus_value : (number value : ℤ) → number +ℤ ((pos 1 *ℤ value) +ℤ pos 0) ≡ value +ℤ number
plus_value number value = omega (arith, ints)

begin_value : (value : ℤ) → pos 0 +ℤ ((pos 1 *ℤ value) +ℤ pos 0) ≡ value
begin_value value = omega (arith, ints)

-- variables below this one
fresh_kept : (count : ℕ) (value : ℤ) (values : Values) → AgreeBelow count values (with_variable count value values)
fresh_kept count value values = λ variable below. variable_kept count variable value values (λ same. below_itself count variable same below)
  where
    below_itself : (count variable : ℕ) → count ≡ variable → variable < count → ⊥
    below_itself count variable same below = omega (arith, same, below)

tile_values : (size count : ℕ) (range : Range) (begin : ℤ) (values : Values) → 0 < length range.ends → RangeBelow count range →
    range_values (with_variable count begin values) (range_in_tile size count range)
    ≡ stepped begin (int_min (least_value values range.ends) (begin +ℤ (range.step *ℤ pos (size - 1)))) range.step
tile_values size count range begin values ended below =
    ap₂ (λ first last. stepped first last range.step)
    (ap (λ value. pos 0 +ℤ ((pos 1 *ℤ value) +ℤ pos 0)) (variable_set count begin values) ∙ begin_value begin)
    (least_then range.ends (variable_plus count (range.step *ℤ pos (size - 1))) (with_variable count begin values) ended
    ∙ ap₂ int_min
    (least_where (λ variable. variable < count) values (with_variable count begin values) (fresh_kept count begin values) range.ends below.1)
    (ap (λ value. (range.step *ℤ pos (size - 1)) +ℤ ((pos 1 *ℤ value) +ℤ pos 0)) (variable_set count begin values) ∙ plus_value (range.step *ℤ pos (size - 1)) begin))

-- all tiles
all_tiles : (size : ℕ) (range : Range) (values : Values) → 0 < size → pos 0 <ℤ range.step →
    flat_map (λ begin. stepped begin (int_min (least_value values range.ends) (begin +ℤ (range.step *ℤ pos (size - 1)))) range.step) (range_values values (range_of_tiles size range)) ≡ range_values values range
all_tiles size range values sized rises =
    let whole : suc (size - 1) ≡ size = omega (arith, sized) in
    ap (λ size'. flat_map (λ begin. stepped begin (int_min (least_value values range.ends) (begin +ℤ (range.step *ℤ pos (size - 1)))) range.step)
    (stepped (affine_value values range.begin) (least_value values range.ends) (range.step *ℤ pos size')))
    (sym whole)
    ∙ numbers_of_tiles (size - 1) (affine_value values range.begin) (least_value values range.ends) range.step rises

-- ---- contexts

tile_alike : (count : ℕ) (context : Context) (parameter : ℕ) (range tiles inner : Range) (private : List ℕ) (begin value : ℤ) (memory : Memory) →
    AreAlike (added 1 memory) count (at_point context ((parameter, range) ∷ []) private (point_of value)) (at_point (at_point context ((count, tiles) ∷ []) [] (point_of begin)) ((parameter, inner) ∷ []) private (point_of value))
tile_alike count context parameter range tiles inner private begin value memory = record {
  containers = refl;
  values = agree_with count parameter value context.values (with_variable count begin context.values) (fresh_kept count begin context.values);
  reach = λ number. own_behind (has_number private number) context.containers number (context.reach number) memory;
}

tile_map : (most size : ℕ) (sequential : Bool) (parameter : ℕ) (range : Range) (private : List ℕ) (body : ItemTrees) (line : ℕ) (count : ℕ) (context : Context) →
    0 < size → pos 0 <ℤ range.step → 0 < length range.ends → RangeBelow count range → ItemsBelow count body →
    DoesSame most as_it_is (unfold_kind (map_scope sequential ((parameter, range) ∷ []) private body) line context)
    (unfold_kind (map_scope sequential ((count, range_of_tiles size range) ∷ []) [] (and_item line (map_scope sequential ((parameter, range_in_tile size count range) ∷ []) private body) no_item)) line context)
tile_map most size sequential parameter range private body line count context sized rises ended below_range below =
    let tiles : Range = range_of_tiles size range in
    let inner : Range = range_in_tile size count range in
    let own : Memory = private_memory context.containers [] in
    let term : List ℤ → Term Place = λ point. owning (private_memory context.containers private) (body_of body (at_point context ((parameter, range) ∷ []) private point)) in
    let choice : List ℤ → Term Place = λ point. owning own (body_of (and_item line (map_scope sequential ((parameter, inner) ∷ []) private body) no_item) (at_point context ((count, tiles) ∷ []) [] point)) in
    let tile : ℤ → List ℤ = λ begin. stepped begin (int_min (least_value context.values range.ends) (begin +ℤ (range.step *ℤ pos (size - 1)))) range.step in
    subst (λ points. DoSame most as_it_is (point_terms term points) (point_terms choice (tuples (range_values context.values tiles ∷ []))))
    (ap (map point_of) (all_tiles size range context.values sized rises) ∙ sym (points_of_one (range_values context.values range)))
    (subst (λ points. DoSame most as_it_is (point_terms term (map point_of (flat_map tile (range_values context.values tiles)))) (point_terms choice points))
    (sym (points_of_one (range_values context.values tiles)))
    (by_tiles most as_it_is term choice tile
    (λ begin.
    let within : Context = at_point context ((count, tiles) ∷ []) [] (point_of begin) in
    let inner_term : List ℤ → Term Place = λ point. owning (private_memory context.containers private) (body_of body (at_point within ((parameter, inner) ∷ []) private point)) in
    subst (λ inner_points. DoSame most as_it_is (point_terms term (map point_of (tile begin))) (also (owning own (list Items in_any_order (also (list Points (order_of_points sequential) (point_terms inner_term inner_points)) none))) none))
    (sym (ap (λ values. tuples (values ∷ [])) (tile_values size count range begin context.values ended below_range) ∙ points_of_one (tile begin)))
    (round_does_same most own (point_terms term (map point_of (tile begin))) (point_terms inner_term (map point_of (tile begin))) (order_of_points sequential) in_any_order
    (each_value own term inner_term (λ value. owning_same most (added 0 own) (private_memory context.containers private)
    (body_of body (at_point context ((parameter, range) ∷ []) private (point_of value))) (body_of body (at_point within ((parameter, inner) ∷ []) private (point_of value)))
    (items_same most body (added 1 own) count (at_point context ((parameter, range) ∷ []) private (point_of value)) (at_point within ((parameter, inner) ∷ []) private (point_of value)) below
    (tile_alike count context parameter range tiles inner private begin value own))) (tile begin))))
    (range_values context.values tiles)))
  where
    each_value : (own : Memory) (term other : List ℤ → Term Place) → ((value : ℤ) → DoesSame most (added 0 own) (term (point_of value)) (other (point_of value))) → (values : List ℤ) →
        DoSame most (added 0 own) (point_terms term (map point_of values)) (point_terms other (map point_of values))
    each_value own term other each [] = λ memories turns. refl
    each_value own term other each (value ∷ values) =
        also_same most (added 0 own) (term (point_of value)) (other (point_of value)) (point_terms term (map point_of values)) (point_terms other (map point_of values)) (each value) (each_value own term other each values)

tile_replaces : (size most : ℕ) → ReplacesSame most (IsTileable size) (tiled size)
tile_replaces size most variables line kind context other holds below alike =
    let one : KindTree = map_scope holds.sequential ((holds.parameter, holds.range) ∷ []) holds.private holds.body in
    let outer : KindTree = map_scope holds.sequential ((variables, range_of_tiles size holds.range) ∷ []) [] (and_item line (map_scope holds.sequential ((holds.parameter, range_in_tile size variables holds.range) ∷ []) holds.private holds.body) no_item) in
    let below_one : KindBelow variables one = subst (KindBelow variables) holds.shape below in
    subst (λ kind. DoSame most as_it_is (also (unfold_kind kind line context) none) (unfold_items (tiled size variables line kind) other)) (sym holds.shape)
    (alone_same most (unfold_kind one line context) (unfold_kind outer line other)
    (same_on (big_step (unfold_kind one line context) most) (big_step (unfold_kind one line other) most) (big_step (unfold_kind outer line other) most)
    (kind_same most one line as_it_is variables context other below_one alike)
    (tile_map most size holds.sequential holds.parameter holds.range holds.private holds.body line variables other holds.sized holds.rises holds.ended below_one.0.0 below_one.1)))

pub tiled_runs_same : (size : ℕ) (name : List ℕ) (tree : GraphTree) (path : List ℕ) → GraphLeads (IsTileable size) tree path → NamesItsVariables tree → RunsSame tree (graph_with (tiled size) (name ∷ []) tree path)
tiled_runs_same size name = rewritten_runs_same (IsTileable size) (tiled size) (name ∷ []) (tile_replaces size)
