-- MapFusion where a path leads.
use Rattle.std.proofs.Common.{◌≡◌, zero, suc, ℕ, List, Bool, refl, ap, subst}
use Rattle.sd_subset.specs.boxes.Box.{Parameter}
use Rattle.sd_graph.specs.ContainerParts.{Containers}
use Rattle.sd_graph.specs.PlainTree.{task, map_scope, consume_scope, nested_graph, reduction, copy, ItemTrees, no_item, and_item}
use Rattle.sd_alike.specs.alike.Places.{items_then}
use Rattle.sd_fuse.specs.maps.FusionRewrite.{items_before, items_from, fused_with, fused_by, CanFuseWith, CanFuse}
use Rattle.sd_fuse.specs.maps.MapsFused.{MapsFused, maps_fused}
use Rattle.sd_fuse.proofs.maps_lemmas.WholeFusion.{Steps, StepsBack, steps, steps-back, steps-keep, steps-leave_valid, steps-sound, steps-back-sound}
use Rattle.sd_exchange.proofs.maps_lemmas.Tailings.{Gives, IsGood}

pub parts-again : (number : ℕ) (items : ItemTrees) → items_then (items_before number items) (items_from number items) ≡ items
parts-again zero items = refl
parts-again (suc number) no_item = refl
parts-again (suc number) (and_item line kind items) = ap (and_item line kind) (parts-again number items)

fuse-with : (sequential : Bool) (c : Containers) (a params : List Parameter) (private : List ℕ) (line : ℕ) (body between behind : ItemTrees) → CanFuseWith c sequential a params private body between behind →
    MapsFused c a (and_item line (map_scope sequential params private body) (items_then between behind)) (fused_with line c sequential params private body between behind)
fuse-with sequential c a params private line body between no_item can = elim can [ ]
fuse-with sequential c a params private line body between (and_item there (task code ins outs) items) can = elim can [ ]
fuse-with sequential c a params private line body between (and_item there (map_scope second_sequential others own other) items) can = maps_fused sequential second_sequential c a params others private own line there body other between items can
fuse-with sequential c a params private line body between (and_item there (consume_scope source element own other) items) can = elim can [ ]
fuse-with sequential c a params private line body between (and_item there (nested_graph inner links) items) can = elim can [ ]
fuse-with sequential c a params private line body between (and_item there (reduction resolution axis identity from to) items) can = elim can [ ]
fuse-with sequential c a params private line body between (and_item there (copy from to) items) can = elim can [ ]

fuse-gives : (distance : ℕ) → Gives (CanFuse distance) (fused_by distance) MapsFused
fuse-gives distance c a variables no_item can = elim can [ ]
fuse-gives distance c a variables (and_item line (task code ins outs) items) can = elim can [ ]
fuse-gives distance c a variables (and_item line (map_scope sequential params private body) items) can =
    subst (λ rest. MapsFused c a (and_item line (map_scope sequential params private body) rest) (fused_with line c sequential params private body (items_before distance items) (items_from distance items))) (parts-again distance items)
    (fuse-with sequential c a params private line body (items_before distance items) (items_from distance items) can)
fuse-gives distance c a variables (and_item line (consume_scope source element private body) items) can = elim can [ ]
fuse-gives distance c a variables (and_item line (nested_graph inner links) items) can = elim can [ ]
fuse-gives distance c a variables (and_item line (reduction resolution axis identity from to) items) can = elim can [ ]
fuse-gives distance c a variables (and_item line (copy from to) items) can = elim can [ ]

pub fuse-good : (distance : ℕ) → IsGood (CanFuse distance) (fused_by distance) Steps StepsBack
fuse-good distance = record {
  gives = λ c a variables items can. steps c a items (fused_by distance variables c items) (fuse-gives distance c a variables items can);
  back = steps-back;
  keeps = steps-keep;
  leaves = steps-leave_valid;
  sound = steps-sound;
  back_sound = steps-back-sound;
}
