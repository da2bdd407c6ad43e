-- A map cut into tiles ends alike.
use Rattle.std.specs.List.{AllByRecursion, flat_map}
use Rattle.std.proofs.lemmas.List.{append-nil}
use Rattle.std.proofs.Common.{Bool, ◌≡◌, ◌≤◌, ◌<◌, suc, ℕ, ◌-◌, ℤ, pos, ◌*ℤ◌, ◌<ℤ◌, List, [], ◌∷◌, ◌++◌, length, refl, sym, ◌∙◌, ap, subst, arith}
use Rattle.sd_range.specs.declared.affine.Affine.{Affine}
use Rattle.sd_range.specs.declared.range.Range.{Range}
use Rattle.sd_range.specs.Points.{points, ranges_of}
use Rattle.sd_range.specs.Terms.{IsNormal}
use Rattle.sd_work.specs.Residual.{Points}
use Rattle.sd_subset.specs.boxes.Box.{Parameter}
use Rattle.sd_subset.specs.boxes.InForce.{IsOther, NamesOthers, RangeNamesOthers, IsNormalRange, AreDistinct, AreFresh, AreInForce}
use Rattle.sd_graph.specs.PlainTree.{map_scope, ItemTrees}
use Rattle.sd_graph.specs.ContainerParts.{Containers}
use Rattle.sd_graph.specs.Wiring.{Use, outside, kind_uses, item_uses}
use Rattle.sd_graph.specs.Context.{Context}
use Rattle.sd_graph.specs.Unfold.{order_of_points, point_terms, unfold_kind, unfold_items}
use Rattle.sd_prop.specs.propagation.ItemNodes.{nodes_behind}
use Rattle.sd_race.proofs.race_lemmas.Members.{all-joined}
use Rattle.sd_alike.specs.alike.Alike.{AffineBelow, RangeBelow}
use Rattle.sd_alike.specs.alike.Tiles.{variable_plus, range_of_tiles, range_in_tile}
use Rattle.sd_alike.proofs.alike_lemmas.TileNumbers.{jump_above}
use Rattle.sd_race.specs.cover.Fit.{IsFit}
use Rattle.sd_safe.specs.safe.Reached.{FindOnce, AreApartFor}
use Rattle.sd_safe.proofs.safe_lemmas.Accepting.{map-harmless}
use Rattle.sd_safe.proofs.safe_lemmas.GraphSafe.{points-compatible}
use Rattle.sd_exchange.proofs.tiles_lemmas.Shuffling.{same-shuffled, shuffled-back}
use Rattle.sd_exchange.specs.tiles.Tiled.{AreTileable, tile_params, params_in_tile, tiled_map}
use Rattle.sd_exchange.specs.tiles.TilePoints.{tiles_of, tile_points}
use Rattle.sd_exchange.proofs.tiles_lemmas.ManyTiles.{all-shuffled}
use Rattle.sd_exchange.specs.reorder.SafePools.{HasSafePools}
use Rattle.sd_exchange.specs.reorder.Reordered.{Reordered}
use Rattle.sd_exchange.proofs.reorder_lemmas.Ends.{EndsAlike, end-on, end-also, ends-list, end-reordered}
use Rattle.sd_exchange.proofs.reorder_lemmas.Itself.{each-itself, end-themselves}
use Rattle.sd_exchange.proofs.reorder_lemmas.Alike.{order-back, safe-reordered}
use Rattle.sd_exchange.specs.ends.Points.{point_of}
use Rattle.sd_exchange.proofs.ends_lemmas.Nesting.{rows-apart}
use Rattle.sd_exchange.proofs.ends_lemmas.Permuting.{shuffled-reordered}
use Rattle.sd_exchange.proofs.ends_lemmas.Tiling.{tiles-end, tiles-begin}
use Rattle.sd_exchange.specs.maps.AcceptedPools.{HaveAcceptedPools}
use Rattle.sd_exchange.specs.maps.MapTiled.{tile_names, MayTile, MapTiled, map_tiled, MapTiledBack, untiled}
use Rattle.sd_exchange.proofs.maps_lemmas.PoolsSafe.{apart-left, apart-right, kind-pools, items-pools}
use Rattle.sd_exchange.proofs.maps_lemmas.Keeping.{Keeps}
use Rattle.sd_exchange.proofs.maps_lemmas.StaysValid.{LeavesValid}
use Rattle.sd_exchange.proofs.maps_lemmas.Carrying.{range-mapped, Spares, AreNoNames, Carries, spares-both, spares-parts, all-carried}
use Rattle.sd_exchange.proofs.maps_lemmas.Congruent.{IsSound}

-- ---- the variables of tiles

below-other : (sizes : List ℕ) (variable : ℕ) (params : List Parameter) (other : ℕ) → other < variable → IsOther (tile_params sizes variable params) other
below-other [] variable params other less = tt
below-other (size ∷ sizes) variable [] other less = tt
below-other (size ∷ sizes) variable (param ∷ params) other less = ((λ e. omega (arith, e, less)), below-other sizes (suc variable) params other (omega (arith, less)))

-- what is below is none of them
abbrev Misses : (count : ℕ) → List Parameter → Type 0
Misses count own = (variable : ℕ) → variable < count → IsOther own variable

terms-miss : (count : ℕ) (own : List Parameter) → Misses count own → (terms : List (ℕ × ℤ)) → AllByRecursion (λ (term : ℕ × ℤ). term.0 < count) terms → AllByRecursion (λ (term : ℕ × ℤ). IsOther own term.0) terms
terms-miss count own misses [] each = tt
terms-miss count own misses (term ∷ terms) each = (misses term.0 each.0, terms-miss count own misses terms each.1)

ends-miss : (count : ℕ) (own : List Parameter) → Misses count own → (ends : List Affine) → AllByRecursion (AffineBelow count) ends → AllByRecursion (NamesOthers own) ends
ends-miss count own misses [] each = tt
ends-miss count own misses (end ∷ ends) each = (terms-miss count own misses end.terms each.0, ends-miss count own misses ends each.1)

range-misses : (count : ℕ) (own : List Parameter) → Misses count own → (r : Range) → RangeBelow count r → RangeNamesOthers own r
range-misses count own misses r below = (terms-miss count own misses r.begin.terms below.0, ends-miss count own misses r.ends below.1)

tiles-distinct : (sizes : List ℕ) (variable : ℕ) (params : List Parameter) → AreDistinct (tile_params sizes variable params)
tiles-distinct [] variable params = tt
tiles-distinct (size ∷ sizes) variable [] = tt
tiles-distinct (size ∷ sizes) variable (param ∷ params) = (below-other sizes (suc variable) params variable (omega arith), tiles-distinct sizes (suc variable) params)

tile-normal : (size : ℕ) (r : Range) → 0 < size → IsNormalRange r → IsNormalRange (range_of_tiles size r)
tile-normal size r sized normal =
    let whole : suc (size - 1) ≡ size = omega (arith, sized) in
    record {
      range = record { ended = normal.range.ended; few_ends = normal.range.few_ends; rises = subst (λ n. pos 0 <ℤ (r.step *ℤ pos n)) whole (jump_above (size - 1) r.step normal.range.rises) };
      begin = normal.begin;
      ends = normal.ends;
    }

tiles-normal : (sizes : List ℕ) (variable : ℕ) (params : List Parameter) → AreTileable sizes params → AllByRecursion (λ (param : Parameter). IsNormalRange param.1) params → AllByRecursion (λ (param : Parameter). IsNormalRange param.1) (tile_params sizes variable params)
tiles-normal [] variable params fit normal = tt
tiles-normal (size ∷ sizes) variable [] fit normal = tt
tiles-normal (size ∷ sizes) variable (param ∷ params) fit normal = (tile-normal size param.1 fit.0.0 normal.0, tiles-normal sizes (suc variable) params fit.1 normal.1)

-- ranges of tiles name what the ranges do
tiles-name : (own : List Parameter) (sizes : List ℕ) (variable : ℕ) (params : List Parameter) → AllByRecursion (λ (param : Parameter). RangeNamesOthers own param.1) params → AllByRecursion (λ (param : Parameter). RangeNamesOthers own param.1) (tile_params sizes variable params)
tiles-name own [] variable params named = tt
tiles-name own (size ∷ sizes) variable [] named = tt
tiles-name own (size ∷ sizes) variable (param ∷ params) named = (named.0, tiles-name own sizes (suc variable) params named.1)

each-misses : (count : ℕ) (own : List Parameter) → Misses count own → (params : List Parameter) → AllByRecursion (λ (param : Parameter). RangeBelow count param.1) params → AllByRecursion (λ (param : Parameter). RangeNamesOthers own param.1) params
each-misses count own misses [] each = tt
each-misses count own misses (param ∷ params) each = (range-misses count own misses param.1 each.0, each-misses count own misses params each.1)

around-misses : (count : ℕ) (own around : List Parameter) → Misses count own → AllByRecursion (λ (param : Parameter). (param.0 < count) × RangeBelow count param.1) around → Spares around own
around-misses count own [] misses each = record { others = tt; ranges = tt }
around-misses count own (param ∷ around) misses each =
    let rest = around-misses count own around misses each.1 in record { others = (misses param.0 each.0.0, rest.others); ranges = (range-misses count own misses param.1 each.0.1, rest.ranges) }

outer-fresh : (sequential : Bool) (containers : Containers) (around params : List Parameter) (private : List ℕ) (body : ItemTrees) (sizes : List ℕ) (count : ℕ) → MayTile sequential containers around params private body sizes count → AreFresh around (tile_params sizes count params)
outer-fresh sequential containers around params private body sizes count may =
    let own = tile_params sizes count params in
    let misses : Misses count own = λ variable less. below-other sizes count params variable less in
    let spares = around-misses count own around misses may.outer in
    record {
      distinct = tiles-distinct sizes count params;
      normal = tiles-normal sizes count params may.tileable may.valid.0.normal;
      others = spares.others;
      outer_ranges = spares.ranges;
      own_ranges = tiles-name own sizes count params (each-misses count own misses params may.ranges);
    }

-- ---- the parameters in a tile

in-tile : (sizes : List ℕ) (variable : ℕ) (params : List Parameter) (other : ℕ) → IsOther params other → IsOther (params_in_tile sizes variable params) other
in-tile [] variable params other is = tt
in-tile (size ∷ sizes) variable [] other is = tt
in-tile (size ∷ sizes) variable (param ∷ params) other is = (is.0, in-tile sizes (suc variable) params other is.1)

inner-distinct : (sizes : List ℕ) (variable : ℕ) (params : List Parameter) → AreDistinct params → AreDistinct (params_in_tile sizes variable params)
inner-distinct [] variable params distinct = tt
inner-distinct (size ∷ sizes) variable [] distinct = tt
inner-distinct (size ∷ sizes) variable (param ∷ params) distinct = (in-tile sizes (suc variable) params param.0 distinct.0, inner-distinct sizes (suc variable) params distinct.1)

one-more : (ends : List Affine) (end : Affine) → length (ends ++ end ∷ []) ≡ suc (length ends)
one-more [] end = refl
one-more (first ∷ ends) end = ap suc (one-more ends end)

in-tile-normal : (size variable : ℕ) (r : Range) → length r.ends < 4 → IsNormalRange r → IsNormalRange (range_in_tile size variable r)
in-tile-normal size variable r few normal =
    let many = one-more r.ends (variable_plus variable (r.step *ℤ pos (size - 1))) in
    record {
      range = record { ended = omega (arith, many); few_ends = omega (arith, many, few); rises = normal.range.rises };
      begin = ((λ e. cc), tt, tt);
      ends = all-joined (λ (end : Affine). IsNormal end.terms) r.ends (variable_plus variable (r.step *ℤ pos (size - 1)) ∷ []) normal.ends (((λ e. cc), tt, tt), tt);
    }

inner-normal : (sizes : List ℕ) (variable : ℕ) (params : List Parameter) → AllByRecursion (λ (param : Parameter). length param.1.ends < 4) params → AllByRecursion (λ (param : Parameter). IsNormalRange param.1) params → AllByRecursion (λ (param : Parameter). IsNormalRange param.1) (params_in_tile sizes variable params)
inner-normal [] variable params few normal = tt
inner-normal (size ∷ sizes) variable [] few normal = tt
inner-normal (size ∷ sizes) variable (param ∷ params) few normal = (in-tile-normal size variable param.1 few.0 normal.0, inner-normal sizes (suc variable) params few.1 normal.1)

-- the range in a tile names what the range does, and the tile's variable
in-tile-names : (own : List Parameter) (size variable : ℕ) (r : Range) → IsOther own variable → RangeNamesOthers own r → RangeNamesOthers own (range_in_tile size variable r)
in-tile-names own size variable r other named =
    ((other, tt), all-joined (NamesOthers own) r.ends (variable_plus variable (r.step *ℤ pos (size - 1)) ∷ []) named.1 ((other, tt), tt))

-- variables from here on are none of some that are below
from-here : (count : ℕ) (own : List Parameter) → AllByRecursion (λ (param : Parameter). param.0 < count) own → (variable : ℕ) → count ≤ variable → IsOther own variable
from-here count [] below variable least = tt
from-here count (param ∷ own) below variable least = ((λ e. (let less = below.0 in omega (arith, e, less, least))), from-here count own below.1 variable least)

inner-names : (count : ℕ) (own : List Parameter) (sizes : List ℕ) (variable : ℕ) (params : List Parameter) → count ≤ variable → ((other : ℕ) → count ≤ other → IsOther own other) → AllByRecursion (λ (param : Parameter). RangeNamesOthers own param.1) params →
    AllByRecursion (λ (param : Parameter). RangeNamesOthers own param.1) (params_in_tile sizes variable params)
inner-names count own [] variable params least above named = tt
inner-names count own (size ∷ sizes) variable [] least above named = tt
inner-names count own (size ∷ sizes) variable (param ∷ params) least above named =
    (in-tile-names own size variable param.1 (above variable least) named.0, inner-names count own sizes (suc variable) params (omega (arith, least)) above named.1)

tiles-above : (count : ℕ) (own : List Parameter) (sizes : List ℕ) (variable : ℕ) (params : List Parameter) → count ≤ variable → ((other : ℕ) → count ≤ other → IsOther own other) → AllByRecursion (λ (param : Parameter). IsOther own param.0) (tile_params sizes variable params)
tiles-above count own [] variable params least above = tt
tiles-above count own (size ∷ sizes) variable [] least above = tt
tiles-above count own (size ∷ sizes) variable (param ∷ params) least above = (above variable least, tiles-above count own sizes (suc variable) params (omega (arith, least)) above)

-- what spares parameters spares them in tiles
spares-in-tile : (around params : List Parameter) (sizes : List ℕ) (variable : ℕ) → AllByRecursion (λ (param : Parameter). IsOther params param.0) around → AllByRecursion (λ (param : Parameter). RangeNamesOthers params param.1) around → Spares around (params_in_tile sizes variable params)
spares-in-tile [] params sizes variable others ranges = record { others = tt; ranges = tt }
spares-in-tile (param ∷ around) params sizes variable others ranges =
    let rest = spares-in-tile around params sizes variable others.1 ranges.1 in
    record { others = (in-tile sizes variable params param.0 others.0, rest.others); ranges = (range-mapped params (params_in_tile sizes variable params) (in-tile sizes variable params) param.1 ranges.0, rest.ranges) }

inner-fresh : (sequential : Bool) (containers : Containers) (around params : List Parameter) (private : List ℕ) (body : ItemTrees) (sizes : List ℕ) (count : ℕ) → MayTile sequential containers around params private body sizes count → AreFresh (around ++ tile_params sizes count params) (params_in_tile sizes count params)
inner-fresh sequential containers around params private body sizes count may =
    let own = params_in_tile sizes count params in
    let above : (other : ℕ) → count ≤ other → IsOther own other = λ other least. in-tile sizes count params other (from-here count params may.own other least) in
    let first = spares-in-tile around params sizes count may.valid.0.others may.valid.0.outer_ranges in
    let named = each-mapped-own params may.valid.0.own_ranges in
    let second : Spares (tile_params sizes count params) own = record { others = tiles-above count own sizes count params (omega arith) above; ranges = tiles-name own sizes count params named } in
    let both = spares-both around (tile_params sizes count params) own first second in
    record {
      distinct = inner-distinct sizes count params may.valid.0.distinct;
      normal = inner-normal sizes count params may.few may.valid.0.normal;
      others = both.others;
      outer_ranges = both.ranges;
      own_ranges = inner-names count own sizes count params (omega arith) above named;
    }
  where
    each-mapped-own : (rest : List Parameter) → AllByRecursion (λ (param : Parameter). RangeNamesOthers params param.1) rest → AllByRecursion (λ (param : Parameter). RangeNamesOthers (params_in_tile sizes count params) param.1) rest
    each-mapped-own [] named = tt
    each-mapped-own (param ∷ rest) named = (range-mapped params (params_in_tile sizes count params) (in-tile sizes count params) param.1 named.0, each-mapped-own rest named.1)

-- ---- the body

no-tile : (own : List Parameter) (sizes : List ℕ) (variable : ℕ) (params : List Parameter) → AreNoNames (tile_names sizes variable) own → Spares params own → Spares (tile_params sizes variable params) own × Spares (params_in_tile sizes variable params) own
no-tile own [] variable params free spares = (record { others = tt; ranges = tt }, record { others = tt; ranges = tt })
no-tile own (size ∷ sizes) variable [] free spares = (record { others = tt; ranges = tt }, record { others = tt; ranges = tt })
no-tile own (size ∷ sizes) variable (param ∷ params) free spares =
    let rest = no-tile own sizes (suc variable) params (fewer own free) (record { others = spares.others.1; ranges = spares.ranges.1 }) in
    let other = not-this own free in (
      record { others = (other, rest.0.others); ranges = (spares.ranges.0, rest.0.ranges) },
      record { others = (spares.others.0, rest.1.others); ranges = (in-tile-names own size variable param.1 other spares.ranges.0, rest.1.ranges) },
    )
  where
    not-this : (own : List Parameter) → AreNoNames (variable ∷ tile_names sizes (suc variable)) own → IsOther own variable
    not-this [] free = tt
    not-this (parameter ∷ own) free = ((λ e. free.0.0 (sym e)), not-this own free.1)

    fewer : (own : List Parameter) → AreNoNames (variable ∷ tile_names sizes (suc variable)) own → AreNoNames (tile_names sizes (suc variable)) own
    fewer [] free = tt
    fewer (parameter ∷ own) free = (free.0.1, fewer own free.1)

tiles-carry : (around params : List Parameter) (sizes : List ℕ) (count : ℕ) → Carries (tile_names sizes count) (around ++ params) ((around ++ tile_params sizes count params) ++ params_in_tile sizes count params)
tiles-carry around params sizes count own free spares =
    let parts = spares-parts around params own spares in
    let tiles = no-tile own sizes count params free parts.1 in
    spares-both (around ++ tile_params sizes count params) (params_in_tile sizes count params) own (spares-both around (tile_params sizes count params) own parts.0 tiles.0) tiles.1

tiled-fit : (sequential : Bool) (containers : Containers) (around params : List Parameter) (private : List ℕ) (line : ℕ) (body : ItemTrees) (sizes : List ℕ) (count : ℕ) → MayTile sequential containers around params private body sizes count → IsFit (tiled_map sequential sizes count line params private body) around
tiled-fit sequential containers around params private line body sizes count may = (
  outer-fresh sequential containers around params private body sizes count may,
  (
    (
      inner-fresh sequential containers around params private body sizes count may,
      all-carried (tile_names sizes count) body (around ++ params) ((around ++ tile_params sizes count params) ++ params_in_tile sizes count params) (tiles-carry around params sizes count) may.spare may.valid.1,
    ),
    tt,
  ),
)

-- ---- uses

outside-none : (uses : List Use) → outside [] uses ≡ uses
outside-none [] = refl
outside-none (u ∷ uses) = ap (λ rest. u ∷ rest) (outside-none uses)

tiled-uses : (sequential : Bool) (params : List Parameter) (private : List ℕ) (line : ℕ) (body : ItemTrees) (sizes : List ℕ) (count : ℕ) (containers : Containers) → kind_uses (tiled_map sequential sizes count line params private body) containers ≡ kind_uses (map_scope sequential params private body) containers
tiled-uses sequential params private line body sizes count containers = outside-none (outside private (item_uses body containers) ++ []) ∙ append-nil (outside private (item_uses body containers))

-- ---- the work

-- the points in the order of tiles
order-of : (sequential : Bool) (around params : List Parameter) (private : List ℕ) (body : ItemTrees) (sizes : List ℕ) (count : ℕ) (context : Context) → MayTile sequential context.containers around params private body sizes count → AreInForce context.values around → FindOnce context.reach →
    AreApartFor context.reach (kind_uses (map_scope sequential params private body) context.containers) →
    Reordered (point_terms (point_of params private body context) (points (ranges_of params) context.values))
    (point_terms (point_of params private body context) (flat_map (tile_points (tiles_of sizes params context.values)) (points (ranges_of (tile_params sizes count params)) context.values)))
order-of sequential around params private body sizes count context may in_force once apart =
    let f = point_of params private body context in
    let all = points (ranges_of params) context.values in
    (shuffled-reordered f all (flat_map (tile_points (tiles_of sizes params context.values)) (points (ranges_of (tile_params sizes count params)) context.values))
    (shuffled-back _ _ (all-shuffled sizes count params context.values may.tileable))
    (rows-apart f all (λ i j less. points-compatible around params private body (nodes_behind may.nodes) context may.valid.0 may.valid.1 in_force once apart (map-harmless sequential params private body context.containers may.path around may.nodes may.free) i j less))).0

map-tiled : (sequential : Bool) (around params : List Parameter) (private : List ℕ) (line : ℕ) (body : ItemTrees) (sizes : List ℕ) (count : ℕ) (context : Context) → MayTile sequential context.containers around params private body sizes count → AreInForce context.values around → FindOnce context.reach →
    AreApartFor context.reach (kind_uses (map_scope sequential params private body) context.containers) → HaveAcceptedPools body context.containers → EndsAlike (unfold_kind (map_scope sequential params private body) line context) (unfold_kind (tiled_map sequential sizes count line params private body) line context)
map-tiled sequential around params private line body sizes count context may in_force once apart pools =
    let order = order-of sequential around params private body sizes count context may in_force once apart in
    let safe = kind-pools (map_scope sequential params private body) around line context may.valid in_force once apart pools in
    ends-list Points Points (order_of_points sequential) (order_of_points sequential) _ _
    (end-on _ _ _ (end-reordered _ _ order (each-itself _ safe))
    (tiles-end sequential sizes count line params private body context may.tileable may.ranges may.below (safe-reordered _ _ order safe)))

map-untiled : (sequential : Bool) (around params : List Parameter) (private : List ℕ) (line : ℕ) (body : ItemTrees) (sizes : List ℕ) (count : ℕ) (context : Context) → MayTile sequential context.containers around params private body sizes count → AreInForce context.values around → FindOnce context.reach →
    AreApartFor context.reach (kind_uses (map_scope sequential params private body) context.containers) → HaveAcceptedPools body context.containers → HasSafePools (unfold_kind (tiled_map sequential sizes count line params private body) line context) →
    EndsAlike (unfold_kind (tiled_map sequential sizes count line params private body) line context) (unfold_kind (map_scope sequential params private body) line context)
map-untiled sequential around params private line body sizes count context may in_force once apart pools safe_tiled =
    let order = order-of sequential around params private body sizes count context may in_force once apart in
    let safe = kind-pools (map_scope sequential params private body) around line context may.valid in_force once apart pools in
    ends-list Points Points (order_of_points sequential) (order_of_points sequential) _ _
    (end-on _ _ _ (tiles-begin sequential sizes count line params private body context may.tileable may.ranges may.below safe_tiled)
    (end-reordered _ _ (order-back _ _ order) (each-itself _ (safe-reordered _ _ order safe))))

-- ---- wherever it stands

pub tile-keeps : Keeps MapTiled
tile-keeps containers around items others (map_tiled sequential c a params private line body rest sizes count may) = record {
  uses = same-shuffled _ _ (ap (λ uses. uses ++ item_uses rest c) (sym (tiled-uses sequential params private line body sizes count c)));
  pools = λ p. ((p.0, tt), p.1);
}

pub tile-leaves_valid : LeavesValid MapTiled
tile-leaves_valid containers around items others (map_tiled sequential c a params private line body rest sizes count may) v = (tiled-fit sequential c a params private line body sizes count may, v.1)

pub tile-sound : IsSound MapTiled
tile-sound containers around items others (map_tiled sequential c a params private line body rest sizes count may) context same stand =
    let cs = context.containers in
    let P = map_scope sequential params private body in
    end-also _ _ _ _
    (map-tiled sequential a params private line body sizes count context (subst (λ k. MayTile sequential k a params private body sizes count) (sym same) may) stand.in_force stand.once
    (apart-left context.reach (kind_uses P cs) (item_uses rest cs) stand.apart) stand.pools.0)
    (end-themselves (unfold_items rest context) (items-pools rest a context stand.valid.1 stand.in_force stand.once (apart-right context.reach (kind_uses P cs) (item_uses rest cs) stand.apart) stand.pools.1))

pub tile-back-sound : IsSound MapTiledBack
tile-back-sound containers around items others (untiled c a new old (map_tiled sequential c' a' params private line body rest sizes count may)) context same stand =
    let cs = context.containers in
    let T = tiled_map sequential sizes count line params private body in
    let apart = apart-left context.reach (kind_uses T cs) (item_uses rest cs) stand.apart in
    end-also _ _ _ _
    (map-untiled sequential a' params private line body sizes count context (subst (λ k. MayTile sequential k a' params private body sizes count) (sym same) may) stand.in_force stand.once
    (subst (AreApartFor context.reach) (tiled-uses sequential params private line body sizes count cs) apart) stand.pools.0.0
    (kind-pools T a' line context stand.valid.0 stand.in_force stand.once apart stand.pools.0))
    (end-themselves (unfold_items rest context) (items-pools rest a' context stand.valid.1 stand.in_force stand.once (apart-right context.reach (kind_uses T cs) (item_uses rest cs) stand.apart) stand.pools.1))
