-- A map over tiles ends as the points of its tiles, one tile after another.
use Rattle.std.specs.List.{AllByRecursion, flat_map}
use Rattle.std.proofs.Common.{◌≡◌, Bool, ℕ, ◌+◌, List, [], Option, Some, None, option_map, ◌∙◌, ap}
use Rattle.sd_range.specs.declared.range.Range.{Range}
use Rattle.sd_range.specs.Points.{points, ranges_of}
use Rattle.sd_work.specs.Residual.{Terms}
use Rattle.sd_work.specs.Step.{Done, Faulted, Spent}
use Rattle.sd_work.specs.BigStep.{Reached, Coming, big_parts}
use Rattle.sd_graph.specs.PlainTree.{map_scope, ItemTrees}
use Rattle.sd_graph.specs.Context.{Context}
use Rattle.sd_graph.specs.Unfold.{point_terms}
use Rattle.sd_alike.specs.alike.Lift.{as_it_is}
use Rattle.sd_alike.specs.alike.SameWork.{done_of, reached_in, DoSame}
use Rattle.sd_alike.specs.alike.Alike.{RangeBelow, ItemsBelow}
use Rattle.sd_alike.proofs.alike_lemmas.CollapsedMaps.{same_back}
use Rattle.sd_exchange.specs.tiles.Tiled.{AreTileable, tile_params, params_in_tile}
use Rattle.sd_exchange.specs.tiles.TilePoints.{tiles_of, tile_points}
use Rattle.sd_exchange.proofs.tiles_lemmas.ManyTiles.{tiles_do_same}
use Rattle.sd_exchange.specs.reorder.SafePools.{HaveSafePools}
use Rattle.sd_exchange.proofs.reorder_lemmas.Ends.{EndAlike}
use Rattle.sd_exchange.proofs.reorder_lemmas.Itself.{end-themselves}
use Rattle.sd_exchange.specs.ends.Points.{point_of, alone}

-- ---- work that does the same ends alike

abbrev done-or-none : {P : Type 0} → Option Reached → Coming P
done-or-none None = None
done-or-none (Some x) = Some (Done x)

is-done : {P : Type 0} (coming : Coming P) (now : Reached) → done_of coming ≡ Some now → coming ≡ Some (Done now)
is-done (Some (Done x)) now e = ap done-or-none e
is-done (Some (Faulted fault)) now e = cc
is-done (Some Spent) now e = cc
is-done None now e = cc

same-done : {P Q : Type 0} (coming : Coming P) (other : Coming Q) (now : Reached) → done_of other ≡ option_map (reached_in as_it_is) (done_of coming) → coming ≡ Some (Done now) → other ≡ Some (Done now)
same-done coming other now same done = is-done other now (same ∙ ap (λ c. option_map (reached_in as_it_is) (done_of c)) done)

pub same-ends : {P : Type 0} (parts others : Terms P) → ((most : ℕ) → DoSame most as_it_is parts others) → HaveSafePools parts → EndAlike parts others
same-ends parts others same safe = record {
  end = λ most n s v near.
      (let itself = (end-themselves parts safe).end most n s v near in
      record {
        done = λ x e.
            (let a = itself.done x e in
            (a.0, a.1, a.2, (λ m. same-done (big_parts parts most v (a.0 + m)) (big_parts others most v (a.0 + m)) (record { memories = a.1; turns = m }) (same most v (a.0 + m)) (a.3 m)), a.4));
      });
}

-- ---- tiles

pub tiles-end : (sequential : Bool) (sizes : List ℕ) (count line : ℕ) (params : List (ℕ × Range)) (private : List ℕ) (body : ItemTrees) (context : Context) → AreTileable sizes params → AllByRecursion (λ param. RangeBelow count param.1) params → ItemsBelow count body →
    (let by_tiles = point_terms (point_of params private body context) (flat_map (tile_points (tiles_of sizes params context.values)) (points (ranges_of (tile_params sizes count params)) context.values)) in
    HaveSafePools by_tiles → EndAlike by_tiles (point_terms (point_of (tile_params sizes count params) [] (alone line (map_scope sequential (params_in_tile sizes count params) private body)) context) (points (ranges_of (tile_params sizes count params)) context.values)))
tiles-end sequential sizes count line params private body context fit ranges below safe =
    same-ends _ _ (λ most. tiles_do_same most sequential sizes count line params private body context fit ranges below) safe

pub tiles-begin : (sequential : Bool) (sizes : List ℕ) (count line : ℕ) (params : List (ℕ × Range)) (private : List ℕ) (body : ItemTrees) (context : Context) → AreTileable sizes params → AllByRecursion (λ param. RangeBelow count param.1) params → ItemsBelow count body →
    (let tiled = point_terms (point_of (tile_params sizes count params) [] (alone line (map_scope sequential (params_in_tile sizes count params) private body)) context) (points (ranges_of (tile_params sizes count params)) context.values) in
    HaveSafePools tiled → EndAlike tiled (point_terms (point_of params private body context) (flat_map (tile_points (tiles_of sizes params context.values)) (points (ranges_of (tile_params sizes count params)) context.values))))
tiles-begin sequential sizes count line params private body context fit ranges below safe =
    same-ends _ _ (λ most. same_back (big_parts (point_terms (point_of params private body context) (flat_map (tile_points (tiles_of sizes params context.values)) (points (ranges_of (tile_params sizes count params)) context.values))) most) (big_parts (point_terms (point_of (tile_params sizes count params) [] (alone line (map_scope sequential (params_in_tile sizes count params) private body)) context) (points (ranges_of (tile_params sizes count params)) context.values)) most) (tiles_do_same most sequential sizes count line params private body context fit ranges below)) safe
