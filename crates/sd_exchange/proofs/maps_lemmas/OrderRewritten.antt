-- The two rewrites where a path leads.
use Rattle.std.proofs.Common.{ℕ, List, [], ◌∷◌}
use Rattle.sd_subset.specs.boxes.Box.{Parameter}
use Rattle.sd_graph.specs.ContainerParts.{Containers}
use Rattle.sd_graph.specs.PlainTree.{KindTree, task, map_scope, consume_scope, nested_graph, reduction, copy, ItemTrees, no_item, and_item}
use Rattle.sd_alike.specs.alike.Places.{items_then}
use Rattle.sd_exchange.specs.maps.Tails.{tail_of}
use Rattle.sd_exchange.specs.maps.Interchange.{Interchanged, interchanged, InterchangedBack, back}
use Rattle.sd_exchange.specs.maps.MapTiled.{MapTiled, map_tiled, MapTiledBack, untiled}
use Rattle.sd_exchange.specs.maps.OrderRewrites as rewrites
use Rattle.sd_exchange.specs.maps.OrderRewrites.{CanInterchangeKind, CanInterchange, tiled_by, CanTileKind, CanTile}
use Rattle.sd_exchange.proofs.maps_lemmas.Keeping.{interchange-keeps}
use Rattle.sd_exchange.proofs.maps_lemmas.Interchanges.{interchange-sound, interchange-back-sound}
use Rattle.sd_exchange.proofs.maps_lemmas.StaysValid.{interchange-leaves_valid}
use Rattle.sd_exchange.proofs.maps_lemmas.MapsTiled.{tile-keeps, tile-leaves_valid, tile-sound, tile-back-sound}
use Rattle.sd_exchange.proofs.maps_lemmas.Tailings.{Gives, IsGood}

-- ---- interchange

interchange-kind : (c : Containers) (a : List Parameter) (variables line : ℕ) (kind : KindTree) (items : ItemTrees) → CanInterchangeKind c a kind → Interchanged c a (and_item line kind items) (items_then (rewrites.interchanged variables line kind) items)
interchange-kind c a variables line (task code ins outs) items can = elim can [ ]
interchange-kind c a variables line (map_scope outer_sequential outer [] (and_item inner_line (map_scope inner_sequential inner private body) no_item)) items can = interchanged outer_sequential inner_sequential c a outer inner private line line inner_line inner_line body items can
interchange-kind c a variables line (map_scope outer_sequential outer (k ∷ own) body) items can = elim can [ ]
interchange-kind c a variables line (map_scope outer_sequential outer [] no_item) items can = elim can [ ]
interchange-kind c a variables line (map_scope outer_sequential outer [] (and_item inner_line (task code ins outs) no_item)) items can = elim can [ ]
interchange-kind c a variables line (map_scope outer_sequential outer [] (and_item inner_line (consume_scope source element private body) no_item)) items can = elim can [ ]
interchange-kind c a variables line (map_scope outer_sequential outer [] (and_item inner_line (nested_graph inner links) no_item)) items can = elim can [ ]
interchange-kind c a variables line (map_scope outer_sequential outer [] (and_item inner_line (reduction resolution axis identity from to) no_item)) items can = elim can [ ]
interchange-kind c a variables line (map_scope outer_sequential outer [] (and_item inner_line (copy from to) no_item)) items can = elim can [ ]
interchange-kind c a variables line (map_scope outer_sequential outer [] (and_item inner_line (task code ins outs) (and_item there other rest))) items can = elim can [ ]
interchange-kind c a variables line (map_scope outer_sequential outer [] (and_item inner_line (map_scope inner_sequential inner private body) (and_item there other rest))) items can = elim can [ ]
interchange-kind c a variables line (map_scope outer_sequential outer [] (and_item inner_line (consume_scope source element private body) (and_item there other rest))) items can = elim can [ ]
interchange-kind c a variables line (map_scope outer_sequential outer [] (and_item inner_line (nested_graph inner links) (and_item there other rest))) items can = elim can [ ]
interchange-kind c a variables line (map_scope outer_sequential outer [] (and_item inner_line (reduction resolution axis identity from to) (and_item there other rest))) items can = elim can [ ]
interchange-kind c a variables line (map_scope outer_sequential outer [] (and_item inner_line (copy from to) (and_item there other rest))) items can = elim can [ ]
interchange-kind c a variables line (consume_scope source element private body) items can = elim can [ ]
interchange-kind c a variables line (nested_graph inner links) items can = elim can [ ]
interchange-kind c a variables line (reduction resolution axis identity from to) items can = elim can [ ]
interchange-kind c a variables line (copy from to) items can = elim can [ ]

interchange-gives : Gives CanInterchange (tail_of rewrites.interchanged) Interchanged
interchange-gives c a variables no_item can = elim can [ ]
interchange-gives c a variables (and_item line kind items) can = interchange-kind c a variables line kind items can

pub interchange-good : IsGood CanInterchange (tail_of rewrites.interchanged) Interchanged InterchangedBack
interchange-good = record {
  gives = interchange-gives;
  back = λ c a items others r. back c a others items r;
  keeps = interchange-keeps;
  leaves = interchange-leaves_valid;
  sound = interchange-sound;
  back_sound = interchange-back-sound;
}

-- ---- tiles

tile-kind : (sizes : List ℕ) (c : Containers) (a : List Parameter) (variables line : ℕ) (kind : KindTree) (items : ItemTrees) → CanTileKind sizes c a variables kind → MapTiled c a (and_item line kind items) (items_then (tiled_by sizes variables line kind) items)
tile-kind sizes c a variables line (task code ins outs) items can = elim can [ ]
tile-kind sizes c a variables line (map_scope sequential params private body) items can = map_tiled sequential c a params private line body items sizes variables can
tile-kind sizes c a variables line (consume_scope source element private body) items can = elim can [ ]
tile-kind sizes c a variables line (nested_graph inner links) items can = elim can [ ]
tile-kind sizes c a variables line (reduction resolution axis identity from to) items can = elim can [ ]
tile-kind sizes c a variables line (copy from to) items can = elim can [ ]

tile-gives : (sizes : List ℕ) → Gives (CanTile sizes) (tail_of (tiled_by sizes)) MapTiled
tile-gives sizes c a variables no_item can = elim can [ ]
tile-gives sizes c a variables (and_item line kind items) can = tile-kind sizes c a variables line kind items can

pub tile-good : (sizes : List ℕ) → IsGood (CanTile sizes) (tail_of (tiled_by sizes)) MapTiled MapTiledBack
tile-good sizes = record {
  gives = tile-gives sizes;
  back = λ c a items others r. untiled c a others items r;
  keeps = tile-keeps;
  leaves = tile-leaves_valid;
  sound = tile-sound;
  back_sound = tile-back-sound;
}
