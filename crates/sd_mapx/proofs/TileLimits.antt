-- What the limits of a graph with a map in tiles tell of the map.
use Rattle.std.proofs.Common.{◌≡◌, ◌<◌, ◌^◌, ℕ, suc, nat_eq, nat_le, pos, int_le, int_lt, ◌<ℤ◌, List, [], ◌∷◌, ◌++◌, length, Option, Some, None, Bool, true, ◌&&◌, refl, ap, arith}
use Rattle.std.specs.List.{AllByRecursion, list_all}
use Rattle.std.proofs.lemmas.Int.{ints}
use Rattle.sd_range.specs.declared.affine.Affine.{Affine}
use Rattle.sd_range.specs.declared.range.Range.{Range}
use Rattle.sd_graph.specs.PlainTree.{KindTree, task, map_scope, consume_scope, nested_graph, reduction, copy, ItemTrees, GraphTree}
use Rattle.sd_validity.specs.rules.GraphParts.{variables_of}
use Rattle.sd_validity.specs.rules.Failing.{Holds}
use Rattle.sd_validity.specs.rules.Parts.{is_range_passed, are_params_passed, is_thing_passed}
use Rattle.sd_validity.specs.rules.Places.{Place, Scopes, item_places, all_places}
use Rattle.sd_validity.specs.rules.WithinLimits.{is_within, is_range_small, is_thing_small, elements_among, nodes_among, limits_tests, rule_7}
use Rattle.sd_validity.proofs.rules_lemmas.HoldingLemmas.{both, each_passes}
use Rattle.sd_safe.proofs.fit_lemmas.Members.{each-passes, same_number}
use Rattle.sd_alike.specs.alike.Places.{items_then, graph_with}
use Rattle.sd_alike.specs.alike.Tiles.{range_of_tiles, range_in_tile}
use Rattle.sd_exchange.specs.maps.OrderRewrites.{tiled_by}
use Rattle.sd_exchange.specs.tiles.Tiled.{tile_params, params_in_tile, AreTileable}
use Rattle.sd_mapx.specs.Found.{Found, found_at}
use Rattle.sd_mapx.specs.Conditions.{is_found}
use Rattle.sd_mapx.specs.MapTests.{is_size, has_sizes}
use Rattle.sd_mapx.specs.Results.{params_of}
use Rattle.sd_mapx.proofs.ConditionLaws.{HoldsFound}
use Rattle.sd_mapx.proofs.PlacedAfter.{graph_after}

-- ---- places within the limits

abbrev is_limited : Place → Bool
is_limited place = is_thing_passed limits_tests place.thing

abbrev IsLimited : Place → Type 0
IsLimited place = is_limited place ≡ true

limited : (before : List Place) (place : Place) → rule_7 before place ≡ true → is_limited place ≡ true
limited before place is = (both (is_thing_small (elements_among before) (nodes_among before) place place.thing) (is_limited place) is).1

each_limited : (tree : GraphTree) → Holds rule_7 tree → AllByRecursion IsLimited (all_places tree)
each_limited tree holds = each-passes IsLimited is_limited (λ place is. is) (all_places tree) (each_passes rule_7 is_limited limited [] (all_places tree) holds)

-- ---- the two maps of a map in tiles

-- the ranges of both pass
pub record AreTilesLimited (sizes : List ℕ) (variable : ℕ) (params : List (ℕ × Range)) : Type 0 where
  pub tiles : are_params_passed limits_tests (tile_params sizes variable params) ≡ true
  pub inner : are_params_passed limits_tests (params_in_tile sizes variable params) ≡ true

kind_limited : (sizes : List ℕ) (variables line : ℕ) (kind : KindTree) (behind : ItemTrees) (around : Place) (scopes : Scopes) (number : ℕ) → has_sizes sizes kind ≡ true →
    AllByRecursion IsLimited (item_places (items_then (tiled_by sizes variables line kind) behind) around scopes number) → AreTilesLimited sizes variables (params_of kind)
kind_limited sizes variables line (task code ins outs) behind around scopes number has each = cc
kind_limited sizes variables line (map_scope sequential params private body) behind around scopes number has each = record { tiles = each.0; inner = each.1.0 }
kind_limited sizes variables line (consume_scope stream element private body) behind around scopes number has each = cc
kind_limited sizes variables line (nested_graph inner links) behind around scopes number has each = cc
kind_limited sizes variables line (reduction resolution axis identity from to) behind around scopes number has each = cc
kind_limited sizes variables line (copy from to) behind around scopes number has each = cc

pub tiles_limited : (sizes : List ℕ) (names : List (List ℕ)) (tree : GraphTree) (place : List ℕ) (found : Found) → found_at tree place ≡ Some found → has_sizes sizes found.kind ≡ true →
    Holds rule_7 (graph_with (tiled_by sizes) names tree place) → AreTilesLimited sizes (length (variables_of found.tree)) (params_of found.kind)
tiles_limited sizes names tree place found is has holds =
    let there = graph_after IsLimited (tiled_by sizes) names tree [] 0 place found (each_limited (graph_with (tiled_by sizes) names tree place) holds) is in
    kind_limited sizes (length (variables_of found.tree)) there.line found.kind there.behind there.around there.scopes there.number has there.each

-- ---- ranges

-- a range that may be cut into tiles
record IsCuttable (range : Range) : Type 0 where
  ended : 0 < length range.ends
  rises : pos 0 <ℤ range.step
  few : length range.ends < 4

one_more : {A : Type 0} (all : List A) (last : A) → length (all ++ last ∷ []) ≡ suc (length all)
one_more [] last = refl
one_more (first ∷ all) last = ap suc (one_more all last)

-- the number of ends and the step of a range that passes
pub range_limits : (range : Range) → is_range_passed limits_tests range ≡ true → (is_within 1 4 (length range.ends) ≡ true) × ((int_le (pos 1) range.step ≡ true) × (int_lt range.step (pos (2 ^ 40)) ≡ true))
range_limits range is =
    let small = both (is_range_small range) (limits_tests.expression range.begin && list_all limits_tests.expression range.ends) is in
    let parts = both (is_within 1 4 (length range.ends)) (int_le (pos 1) range.step && int_lt range.step (pos (2 ^ 40))) small.0 in
    (parts.0, both (int_le (pos 1) range.step) (int_lt range.step (pos (2 ^ 40))) parts.1)

-- the range of the tiles has the old ends, and the range in a tile has the old step and one end more
is_cuttable : (size variable : ℕ) (range : Range) → is_range_passed limits_tests (range_of_tiles size range) ≡ true → is_range_passed limits_tests (range_in_tile size variable range) ≡ true → IsCuttable range
is_cuttable size variable range tiles inner =
    let outside = (range_limits (range_of_tiles size range) tiles).0 in
    let inside = range_limits (range_in_tile size variable range) inner in
    let ends : List Affine = (range_in_tile size variable range).ends in
    let least = (both (nat_le 1 (length range.ends)) (nat_le (length range.ends) 4) outside).0 in
    let most = (both (nat_le 1 (length ends)) (nat_le (length ends) 4) inside.0).1 in
    let rising = inside.1.0 in
    record { ended = grind (arith, least); rises = grind (arith, ints, rising); few = grind (arith, most, one_more range.ends) }

-- ---- maps

-- each range may have one end more
abbrev pub HaveFewEnds : List (ℕ × Range) → Type 0
HaveFewEnds params = AllByRecursion (λ (param : ℕ × Range). length param.1.ends < 4) params

-- there is a size for each parameter, and each range may be cut into tiles
abbrev pub IsCuttableMap : (sizes : List ℕ) → (variables : ℕ) → KindTree → Type 0
IsCuttableMap sizes variables (map_scope sequential params private body) = (length sizes ≡ length params) × (AreTileable sizes params × HaveFewEnds params)
IsCuttableMap sizes variables kind = ⊥

one_less : (a b : ℕ) → suc a ≡ suc b → a ≡ b
one_less a b same = omega (arith, same)

are_cuttable : (sizes : List ℕ) (variable : ℕ) (params : List (ℕ × Range)) → length sizes ≡ length params → list_all is_size sizes ≡ true →
    are_params_passed limits_tests (tile_params sizes variable params) ≡ true → are_params_passed limits_tests (params_in_tile sizes variable params) ≡ true → AreTileable sizes params × HaveFewEnds params
are_cuttable [] variable [] same each tiles inner = (tt, tt)
are_cuttable [] variable (param ∷ params) same each tiles inner = absurd (omega (arith, same))
are_cuttable (size ∷ sizes) variable [] same each tiles inner = absurd (omega (arith, same))
are_cuttable (size ∷ sizes) variable (param ∷ params) same each tiles inner =
    let sized = both (is_size size) (list_all is_size sizes) each in
    let outside = both (is_range_passed limits_tests (range_of_tiles size param.1)) (are_params_passed limits_tests (tile_params sizes (suc variable) params)) tiles in
    let inside = both (is_range_passed limits_tests (range_in_tile size variable param.1)) (are_params_passed limits_tests (params_in_tile sizes (suc variable) params)) inner in
    let least = (both (nat_le 2 size) (nat_le size 4096) sized.0).0 in
    let cut = is_cuttable size variable param.1 outside.0 inside.0 in
    let others = are_cuttable sizes (suc variable) params (one_less (length sizes) (length params) same) sized.1 outside.1 inside.1 in
    (((grind (arith, least), (cut.ended, cut.rises)), others.0), (cut.few, others.1))

cuttable_map : (sizes : List ℕ) (variables : ℕ) (kind : KindTree) → has_sizes sizes kind ≡ true → AreTilesLimited sizes variables (params_of kind) → IsCuttableMap sizes variables kind
cuttable_map sizes variables (task code ins outs) has limits = cc
cuttable_map sizes variables (map_scope sequential params private body) has limits =
    let sized = both (nat_eq (length sizes) (length params)) (list_all is_size sizes) has in
    let same = same_number (length sizes) (length params) sized.0 in
    (same, are_cuttable sizes variables params same sized.1 limits.tiles limits.inner)
cuttable_map sizes variables (consume_scope stream element private body) has limits = cc
cuttable_map sizes variables (nested_graph inner links) has limits = cc
cuttable_map sizes variables (reduction resolution axis identity from to) has limits = cc
cuttable_map sizes variables (copy from to) has limits = cc

pub found_cuttable : (sizes : List ℕ) (names : List (List ℕ)) (tree : GraphTree) (place : List ℕ) (found : Option Found) → found_at tree place ≡ found → is_found (has_sizes sizes) found ≡ true →
    Holds rule_7 (graph_with (tiled_by sizes) names tree place) → HoldsFound (IsCuttableMap sizes) found
found_cuttable sizes names tree place None is has holds = cc
found_cuttable sizes names tree place (Some found) is has holds = cuttable_map sizes (length (variables_of found.tree)) found.kind has (tiles_limited sizes names tree place found is has holds)
