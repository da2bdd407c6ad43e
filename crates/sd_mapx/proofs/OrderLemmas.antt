-- Maps interchanged and cut into tiles, as the code makes them.
use Rattle.std.proofs.Common.{◌≡◌, ℕ, List, [], ◌∷◌, ◌++◌, map, Some, None, Bool, refl, ap, sym, ◌∙◌}
use Rattle.sd_range.specs.declared.range.Range.{Range}
use Rattle.sd_graph.specs.PlainTree.{KindTree, task, map_scope, consume_scope, nested_graph, reduction, copy, no_item, and_item}
use Rattle.sd_graph.specs.TreeFold.{items_listed, kind_tree, item_tree, item_trees}
use Rattle.sd_graph.specs.declared.graph.Item.{Item}
use Rattle.sd_graph.specs.declared.graph.ItemKind.{ItemKind}
use Rattle.sd_alike.specs.alike.Places.{items_then}
use Rattle.sd_exchange.specs.maps.OrderRewrites.{interchanged, tiled_by}
use Rattle.sd_exchange.specs.tiles.Tiled.{tile_params, params_in_tile}
use Rattle.sd_mapx.specs.Parts.{PlainPair, pair_in}
use Rattle.sd_mapx.proofs.MapLemmas.{pushed_as, of_pair}

-- an item that is no such pair stays
pub stays_interchanged : (variables line : ℕ) (kind : KindTree) → None ≡ pair_in kind → and_item line kind no_item ≡ interchanged variables line kind
stays_interchanged variables line (task code ins outs) is = refl
stays_interchanged variables line (map_scope sequential outer (first ∷ own) body) is = refl
stays_interchanged variables line (map_scope sequential outer [] no_item) is = refl
stays_interchanged variables line (map_scope sequential outer [] (and_item inner (task code ins outs) items)) is = refl
stays_interchanged variables line (map_scope sequential outer [] (and_item inner (map_scope inner_sequential params private body) no_item)) is = cc
stays_interchanged variables line (map_scope sequential outer [] (and_item inner (map_scope inner_sequential params private body) (and_item next other items))) is = refl
stays_interchanged variables line (map_scope sequential outer [] (and_item inner (consume_scope stream element private body) items)) is = refl
stays_interchanged variables line (map_scope sequential outer [] (and_item inner (nested_graph nested links) items)) is = refl
stays_interchanged variables line (map_scope sequential outer [] (and_item inner (reduction resolution axis identity from to) items)) is = refl
stays_interchanged variables line (map_scope sequential outer [] (and_item inner (copy from to) items)) is = refl
stays_interchanged variables line (consume_scope stream element private body) is = refl
stays_interchanged variables line (nested_graph inner links) is = refl
stays_interchanged variables line (reduction resolution axis identity from to) is = refl
stays_interchanged variables line (copy from to) is = refl

-- both maps with the parameters of the other, put in their place
pub put_interchanged : (variables line : ℕ) (pair : PlainPair) (made_outer made_inner : List (ℕ × Range)) (made_private : List ℕ) (made_body sole all old : List Item) (within kind : ItemKind) (old_kind : KindTree) →
    Some pair ≡ pair_in old_kind → made_outer ≡ pair.outer → made_inner ≡ pair.inner → made_private ≡ pair.private → item_trees made_body ≡ pair.body →
    kind_tree within ≡ map_scope pair.outer_sequential made_outer made_private (item_trees made_body) → item_trees sole ≡ and_item pair.line (kind_tree within) no_item →
    kind_tree kind ≡ map_scope pair.inner_sequential made_inner [] (item_trees sole) → all ≡ old ++ record { line = line; kind = kind } ∷ [] →
    item_trees all ≡ items_then (item_trees old) (interchanged variables line old_kind)
put_interchanged variables line pair made_outer made_inner made_private made_body sole all old within kind old_kind is outers inners privates bodies within_is sole_is kind_is all_is =
    let inside : item_trees sole ≡ and_item pair.line (map_scope pair.outer_sequential pair.outer pair.private pair.body) no_item =
    sole_is ∙ ap (λ within. and_item pair.line within no_item) (within_is ∙ (λ i. map_scope pair.outer_sequential (outers i) (privates i) (bodies i))) in
    pushed_as old line kind all (map_scope pair.inner_sequential made_inner [] (item_trees sole)) all_is kind_is
    ∙ ap (items_then (item_trees old))
    ((λ i. and_item line (map_scope pair.inner_sequential (inners i) [] (inside i)) no_item) ∙ sym (ap (interchanged variables line) (of_pair old_kind pair is)))

-- a map over tiles round one over the values of a tile, put in the place of a map
pub put_tiled : (variables line : ℕ) (sizes : List ℕ) (sequential : Bool) (params made_tiles made_within : List (ℕ × Range)) (private made_private : List ℕ) (body made_body sole all old : List Item) (inner kind : ItemKind) (old_kind : KindTree) →
    old_kind ≡ map_scope sequential params private (item_trees body) → made_tiles ≡ tile_params sizes variables params → made_within ≡ params_in_tile sizes variables params →
    made_private ≡ private → map item_tree made_body ≡ map item_tree body →
    kind_tree inner ≡ map_scope sequential made_within made_private (item_trees made_body) → item_trees sole ≡ and_item line (kind_tree inner) no_item →
    kind_tree kind ≡ map_scope sequential made_tiles [] (item_trees sole) → all ≡ old ++ record { line = line; kind = kind } ∷ [] →
    item_trees all ≡ items_then (item_trees old) (tiled_by sizes variables line old_kind)
put_tiled variables line sizes sequential params made_tiles made_within private made_private body made_body sole all old inner kind old_kind was tiles within privates bodies inner_is sole_is kind_is all_is =
    let inside : item_trees sole ≡ and_item line (map_scope sequential (params_in_tile sizes variables params) private (item_trees body)) no_item =
    sole_is ∙ ap (λ inner. and_item line inner no_item) (inner_is ∙ (λ i. map_scope sequential (within i) (privates i) (items_listed (bodies i)))) in
    pushed_as old line kind all (map_scope sequential made_tiles [] (item_trees sole)) all_is kind_is
    ∙ ap (items_then (item_trees old))
    ((λ i. and_item line (map_scope sequential (tiles i) [] (inside i)) no_item) ∙ sym (ap (tiled_by sizes variables line) was))
