-- A map over tiles round a map over the values of a tile does the same as the map's points, tile by tile.
use Rattle.std.proofs.Common.{Bool, ◌≡◌, ℕ, suc, ◌-◌, ◌<◌, ℤ, pos, ◌+ℤ◌, ◌*ℤ◌, ◌<ℤ◌, List, [], ◌∷◌, ◌++◌, map, length, refl, sym, ◌∙◌, ap, ap₂, subst, arith}
use Rattle.std.specs.List.{AllByRecursion, flat_map, fold}
use Rattle.std.specs.Int.{int_min}
use Rattle.std.proofs.lemmas.Int.{ints}
use Rattle.sd_range.specs.declared.affine.Affine.{Affine}
use Rattle.sd_range.specs.declared.range.Range.{Range}
use Rattle.sd_range.specs.Affine.{affine_value, variable_value}
use Rattle.sd_range.specs.Range.{range_values, least_value, stepped}
use Rattle.sd_range.specs.Points.{tuples, points, ranges_of}
use Rattle.sd_range.specs.Variables.{with_variable, with_variables}
use Rattle.sd_range.proofs.Variables.{variable_set, variable_kept}
use Rattle.sd_work.specs.Memory.{Memory}
use Rattle.sd_work.specs.Exit.{Values}
use Rattle.sd_work.specs.Residual.{Term, list, Items, Points, owning, none, also}
use Rattle.sd_graph.specs.PlainTree.{map_scope, ItemTrees, no_item, and_item}
use Rattle.sd_graph.specs.Wiring.{has_number}
use Rattle.sd_graph.specs.Context.{Context, private_memory}
use Rattle.sd_graph.specs.Unfold.{assigned, at_point, point_terms, in_any_order, order_of_points}
use Rattle.sd_graph.specs.declared.place.Place.{Place}
use Rattle.sd_alike.specs.alike.Lift.{as_it_is, added}
use Rattle.sd_alike.specs.alike.SameWork.{DoSame, AgreeBelow}
use Rattle.sd_alike.specs.alike.Alike.{RangeBelow, ItemsBelow, AreAlike}
use Rattle.sd_alike.specs.alike.Tiles.{variable_plus, range_of_tiles, range_in_tile}
use Rattle.sd_alike.proofs.alike_lemmas.SameTerms.{owning_same}
use Rattle.sd_alike.proofs.alike_lemmas.SameValues.{least_where, agree_all}
use Rattle.sd_alike.proofs.alike_lemmas.SameTrees.{body_of, points_do_same, items_same}
use Rattle.sd_alike.proofs.alike_lemmas.SamePlaces.{parts_do_same}
use Rattle.sd_alike.proofs.alike_lemmas.SplitMaps.{terms_of_both, map_both, own_behind, round_does_same}
use Rattle.sd_alike.proofs.alike_lemmas.TileNumbers.{numbers_of_tiles}
use Rattle.std.specs.Bool.{⊤}
use Rattle.sd_exchange.specs.tiles.Shuffled.{Shuffled}
use Rattle.sd_exchange.proofs.tiles_lemmas.TilePoints.{tiles-shuffled}
use Rattle.sd_exchange.specs.tiles.Tiled.{AreTileable, tile_params, params_in_tile}
use Rattle.sd_exchange.specs.tiles.TilePoints.{point_term, tile_of, tiles_of, tile_values, all_values, tile_points}

-- ---- the values of a tile

fold_then : (start last : ℤ) (xs : List ℤ) → fold int_min start (xs ++ last ∷ []) ≡ int_min (fold int_min start xs) last
fold_then start last [] = refl
fold_then start last (x ∷ xs) = fold_then (int_min start x) last xs

least_then : (ends : List Affine) (end : Affine) (values : Values) → 0 < length ends → least_value values (ends ++ end ∷ []) ≡ int_min (least_value values ends) (affine_value values end)
least_then [] end values ended = absurd (omega (arith, ended))
least_then (first ∷ ends) end values ended =
    ap (fold int_min (affine_value values first)) (map_both (affine_value values) ends (end ∷ []))
    ∙ fold_then (affine_value values first) (affine_value values end) (map (affine_value values) ends)

plus_value : (number value : ℤ) → number +ℤ ((pos 1 *ℤ value) +ℤ pos 0) ≡ value +ℤ number
plus_value number value = omega (arith, ints)

begin_value : (value : ℤ) → pos 0 +ℤ ((pos 1 *ℤ value) +ℤ pos 0) ≡ value
begin_value value = omega (arith, ints)

-- the range in a tile, where its variable has the tile's begin
tile_at : (size count variable : ℕ) (range : Range) (begin : ℤ) (values other : Values) → 0 < length range.ends → RangeBelow count range → AgreeBelow count values other → variable_value other variable ≡ begin →
    range_values other (range_in_tile size variable range) ≡ tile_of size range values begin
tile_at size count variable range begin values other ended below agree is =
    ap₂ (λ first last. stepped first last range.step)
    (ap (λ value. pos 0 +ℤ ((pos 1 *ℤ value) +ℤ pos 0)) is ∙ begin_value begin)
    (least_then range.ends (variable_plus variable (range.step *ℤ pos (size - 1))) other ended
    ∙ ap₂ int_min
    (least_where (λ variable. variable < count) values other agree range.ends below.1)
    (ap (λ value. (range.step *ℤ pos (size - 1)) +ℤ ((pos 1 *ℤ value) +ℤ pos 0)) is ∙ plus_value (range.step *ℤ pos (size - 1)) begin))

-- variables from this one on have these values
abbrev HaveValues : Values → (variable : ℕ) → List ℤ → Type 0
HaveValues values variable [] = ⊤
HaveValues values variable (begin ∷ point) = (variable_value values variable ≡ begin) × HaveValues values (suc variable) point

-- variables below those of tiles keep their values
tiles_kept : (sizes : List ℕ) (variable : ℕ) (params : List (ℕ × Range)) (point : List ℤ) (values : Values) (other : ℕ) → other < variable →
    variable_value (with_variables (assigned (tile_params sizes variable params) point) values) other ≡ variable_value values other
tiles_kept [] variable params point values other below = refl
tiles_kept (size ∷ sizes) variable [] point values other below = refl
tiles_kept (size ∷ sizes) variable (param ∷ params) [] values other below = refl
tiles_kept (size ∷ sizes) variable (param ∷ params) (begin ∷ point) values other below =
    tiles_kept sizes (suc variable) params point (with_variable variable begin values) other (omega (arith, below)) ∙ variable_kept variable other begin values (λ same. omega (arith, same, below))

tiles_have : (sizes : List ℕ) (variable : ℕ) (params : List (ℕ × Range)) (point : List ℤ) (values : Values) → AreTileable sizes params → length point ≡ length sizes →
    HaveValues (with_variables (assigned (tile_params sizes variable params) point) values) variable point
tiles_have [] variable params [] values fit long = tt
tiles_have [] variable params (begin ∷ point) values fit long = absurd (omega (arith, long))
tiles_have (size ∷ sizes) variable [] point values fit long = elim fit [ ]
tiles_have (size ∷ sizes) variable (param ∷ params) [] values fit long = absurd (omega (arith, long))
tiles_have (size ∷ sizes) variable (param ∷ params) (begin ∷ point) values fit long = (
  tiles_kept sizes (suc variable) params point (with_variable variable begin values) variable (omega arith) ∙ variable_set variable begin values,
  tiles_have sizes (suc variable) params point (with_variable variable begin values) fit.1 (omega (arith, long)),
)

-- the values of the inner ranges in a tile
inner_values : (sizes : List ℕ) (count variable : ℕ) (params : List (ℕ × Range)) (point : List ℤ) (values other : Values) → AreTileable sizes params → length point ≡ length sizes → AllByRecursion (λ param. RangeBelow count param.1) params →
    AgreeBelow count values other → HaveValues other variable point → map (range_values other) (ranges_of (params_in_tile sizes variable params)) ≡ tile_values (tiles_of sizes params values) point
inner_values [] count variable params point values other fit long below agree have = refl
inner_values (size ∷ sizes) count variable [] point values other fit long below agree have = elim fit [ ]
inner_values (size ∷ sizes) count variable (param ∷ params) [] values other fit long below agree have = absurd (omega (arith, long))
inner_values (size ∷ sizes) count variable (param ∷ params) (begin ∷ point) values other fit long below agree have = λ i.
    tile_at size count variable param.1 begin values other fit.0.1.0 below.0 agree have.0 i
    ∷ inner_values sizes count (suc variable) params point values other fit.1 (omega (arith, long)) below.1 agree have.1 i

-- all tiles of one parameter
all_tiles : (size : ℕ) (range : Range) (values : Values) → 0 < size → pos 0 <ℤ range.step → flat_map (tile_of size range values) (range_values values (range_of_tiles size range)) ≡ range_values values range
all_tiles size range values sized rises =
    let whole : suc (size - 1) ≡ size = omega (arith, sized) in
    ap (λ size'. flat_map (tile_of size range values) (stepped (affine_value values range.begin) (least_value values range.ends) (range.step *ℤ pos size'))) (sym whole)
    ∙ numbers_of_tiles (size - 1) (affine_value values range.begin) (least_value values range.ends) range.step rises

-- and of all
pub every_tile : (sizes : List ℕ) (variable : ℕ) (params : List (ℕ × Range)) (values : Values) → AreTileable sizes params →
    all_values (tiles_of sizes params values) (map (range_values values) (ranges_of (tile_params sizes variable params))) ≡ map (range_values values) (ranges_of params)
every_tile [] variable [] values fit = refl
every_tile [] variable (param ∷ params) values fit = elim fit [ ]
every_tile (size ∷ sizes) variable [] values fit = elim fit [ ]
every_tile (size ∷ sizes) variable (param ∷ params) values fit = λ i. all_tiles size param.1 values fit.0.0 fit.0.1.1 i ∷ every_tile sizes (suc variable) params values fit.1 i

pub as_many : (sizes : List ℕ) (variable : ℕ) (params : List (ℕ × Range)) (values : Values) → AreTileable sizes params → length (tiles_of sizes params values) ≡ length (map (range_values values) (ranges_of (tile_params sizes variable params)))
as_many [] variable params values fit = refl
as_many (size ∷ sizes) variable [] values fit = elim fit [ ]
as_many (size ∷ sizes) variable (param ∷ params) values fit = ap suc (as_many sizes (suc variable) params values fit.1)

many_tiles : (sizes : List ℕ) (variable : ℕ) (params : List (ℕ × Range)) (values : Values) → AreTileable sizes params → length (map (range_values values) (ranges_of (tile_params sizes variable params))) ≡ length sizes
many_tiles [] variable params values fit = refl
many_tiles (size ∷ sizes) variable [] values fit = elim fit [ ]
many_tiles (size ∷ sizes) variable (param ∷ params) values fit = ap suc (many_tiles sizes (suc variable) params values fit.1)

-- ---- tuples have a number of each list

all-map : {A B : Type 0} (P : B → Type 0) (f : A → B) (xs : List A) → AllByRecursion (λ x. P (f x)) xs → AllByRecursion P (map f xs)
all-map P f [] h = tt
all-map P f (x ∷ xs) h = (h.0, all-map P f xs h.1)

all-weaker : {A : Type 0} (P Q : A → Type 0) (xs : List A) → ((x : A) → P x → Q x) → AllByRecursion P xs → AllByRecursion Q xs
all-weaker P Q [] h all = tt
all-weaker P Q (x ∷ xs) h all = (h x all.0, all-weaker P Q xs h all.1)

all-both : {A : Type 0} (P : A → Type 0) (xs ys : List A) → AllByRecursion P xs → AllByRecursion P ys → AllByRecursion P (xs ++ ys)
all-both P [] ys first second = second
all-both P (x ∷ xs) ys first second = (first.0, all-both P xs ys first.1 second)

abbrev HasLength : (count : ℕ) → List ℤ → Type 0
HasLength count point = length point ≡ count

tuples-long : (lists : List (List ℤ)) → AllByRecursion (HasLength (length lists)) (tuples lists)
tuples-long [] = (refl, tt)
tuples-long (firsts ∷ lists) = go (tuples-long lists) firsts
  where
    go : AllByRecursion (HasLength (length lists)) (tuples lists) → (firsts : List ℤ) → AllByRecursion (HasLength (suc (length lists))) (flat_map (λ first. map (λ rest. first ∷ rest) (tuples lists)) firsts)
    go all [] = tt
    go all (first ∷ firsts) =
        all-both (HasLength (suc (length lists))) (map (λ rest. first ∷ rest) (tuples lists)) (flat_map (λ first. map (λ rest. first ∷ rest) (tuples lists)) firsts)
        (all-map (HasLength (suc (length lists))) (λ rest. first ∷ rest) (tuples lists) (all-weaker (HasLength (length lists)) (λ rest. HasLength (suc (length lists)) (first ∷ rest)) (tuples lists) (λ rest e. ap suc e) all))
        (go all firsts)

-- ---- contexts

same_numbers : (sizes : List ℕ) (variable : ℕ) (params : List (ℕ × Range)) (point : List ℤ) → AreTileable sizes params → assigned (params_in_tile sizes variable params) point ≡ assigned params point
same_numbers [] variable [] point fit = refl
same_numbers [] variable (param ∷ params) point fit = elim fit [ ]
same_numbers (size ∷ sizes) variable [] point fit = elim fit [ ]
same_numbers (size ∷ sizes) variable (param ∷ params) [] fit = refl
same_numbers (size ∷ sizes) variable (param ∷ params) (value ∷ point) fit = ap (λ rest. (param.0, value) ∷ rest) (same_numbers sizes (suc variable) params point fit.1)

agree_in_tile : (sizes : List ℕ) (count : ℕ) (params : List (ℕ × Range)) (point : List ℤ) (values : Values) → AgreeBelow count values (with_variables (assigned (tile_params sizes count params) point) values)
agree_in_tile sizes count params point values = λ variable below. tiles_kept sizes count params point values variable below

tile_alike : (sizes : List ℕ) (count : ℕ) (params : List (ℕ × Range)) (private : List ℕ) (context : Context) (tile point : List ℤ) (memory : Memory) → AreTileable sizes params →
    AreAlike (added 1 memory) count (at_point context params private point) (at_point (at_point context (tile_params sizes count params) [] tile) (params_in_tile sizes count params) private point)
tile_alike sizes count params private context tile point memory fit = record {
  containers = refl;
  values = λ variable below.
      ap (λ assignments. variable_value (with_variables assignments (with_variables (assigned (tile_params sizes count params) tile) context.values)) variable) (same_numbers sizes count params point fit)
      ∙ agree_all count (assigned params point) context.values (with_variables (assigned (tile_params sizes count params) tile) context.values) (agree_in_tile sizes count params tile context.values) variable below;
  reach = λ number. own_behind (has_number private number) context.containers number (context.reach number) memory;
}

-- ---- tile by tile

by_tiles : (most : ℕ) (term choice : List ℤ → Term Place) (tile : List ℤ → List (List ℤ)) (P : List ℤ → Type 0) → ((begin : List ℤ) → P begin → DoSame most as_it_is (point_terms term (tile begin)) (also (choice begin) none)) → (begins : List (List ℤ)) → AllByRecursion P begins →
    DoSame most as_it_is (point_terms term (flat_map tile begins)) (point_terms choice begins)
by_tiles most term choice tile P each [] all = λ memories turns. refl
by_tiles most term choice tile P each (begin ∷ begins) all =
    subst (λ parts. DoSame most as_it_is parts (point_terms choice (begin ∷ begins))) (sym (terms_of_both term (tile begin) (flat_map tile begins)))
    (parts_do_same most as_it_is (point_terms term (tile begin)) (point_terms term (flat_map tile begins)) (also (choice begin) none) (point_terms choice begins) (each begin all.0) (by_tiles most term choice tile P each begins all.1))

-- the map over tiles does the same as the points of all tiles
pub tiles_do_same : (most : ℕ) (sequential : Bool) (sizes : List ℕ) (count line : ℕ) (params : List (ℕ × Range)) (private : List ℕ) (body : ItemTrees) (context : Context) → AreTileable sizes params → AllByRecursion (λ param. RangeBelow count param.1) params → ItemsBelow count body →
    DoSame most as_it_is (point_terms (point_term params private body context) (flat_map (tile_points (tiles_of sizes params context.values)) (points (ranges_of (tile_params sizes count params)) context.values)))
    (point_terms (point_term (tile_params sizes count params) [] (and_item line (map_scope sequential (params_in_tile sizes count params) private body) no_item) context) (points (ranges_of (tile_params sizes count params)) context.values))
tiles_do_same most sequential sizes count line params private body context fit below_ranges below =
    let outer = tile_params sizes count params in
    let inner = params_in_tile sizes count params in
    let own = private_memory context.containers [] in
    let term = point_term params private body context in
    let choice = point_term outer [] (and_item line (map_scope sequential inner private body) no_item) context in
    by_tiles most term choice (tile_points (tiles_of sizes params context.values)) (HasLength (length sizes))
    (λ tile long.
    let within = at_point context outer [] tile in
    let inner_term = point_term inner private body within in
    subst (λ lists. DoSame most as_it_is (point_terms term (tile_points (tiles_of sizes params context.values) tile)) (also (owning own (list Items in_any_order (also (list Points (order_of_points sequential) (point_terms inner_term (tuples lists))) none))) none))
    (sym (inner_values sizes count count params tile context.values within.values fit long below_ranges (agree_in_tile sizes count params tile context.values) (tiles_have sizes count params tile context.values fit long)))
    (round_does_same most own (point_terms term (tile_points (tiles_of sizes params context.values) tile)) (point_terms inner_term (tile_points (tiles_of sizes params context.values) tile)) (order_of_points sequential) in_any_order
    (points_do_same most (added 0 own) term inner_term
    (λ point. owning_same most (added 0 own) (private_memory context.containers private) (body_of body (at_point context params private point)) (body_of body (at_point within inner private point))
    (items_same most body (added 1 own) count (at_point context params private point) (at_point within inner private point) below (tile_alike sizes count params private context tile point own fit)))
    (tile_points (tiles_of sizes params context.values) tile))))
    (points (ranges_of outer) context.values)
    (subst (λ long. AllByRecursion (HasLength long) (points (ranges_of outer) context.values)) (many_tiles sizes count params context.values fit) (tuples-long (map (range_values context.values) (ranges_of outer))))

-- the points of all tiles are those of the map
pub all-shuffled : (sizes : List ℕ) (variable : ℕ) (params : List (ℕ × Range)) (values : Values) → AreTileable sizes params →
    Shuffled (flat_map (tile_points (tiles_of sizes params values)) (points (ranges_of (tile_params sizes variable params)) values)) (points (ranges_of params) values)
all-shuffled sizes variable params values fit =
    subst (λ lists. Shuffled (flat_map (tile_points (tiles_of sizes params values)) (points (ranges_of (tile_params sizes variable params)) values)) (tuples lists)) (every_tile sizes variable params values fit)
    (tiles-shuffled (tiles_of sizes params values) (map (range_values values) (ranges_of (tile_params sizes variable params))) (as_many sizes variable params values fit))
