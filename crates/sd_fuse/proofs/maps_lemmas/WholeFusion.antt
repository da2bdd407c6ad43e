-- MapFusion, whole: items moved, parameters renamed, neighbours fused.
use Rattle.std.proofs.Common.{List}
use Rattle.sd_subset.specs.boxes.Box.{Parameter}
use Rattle.sd_graph.specs.ContainerParts.{Containers}
use Rattle.sd_graph.specs.PlainTree.{ItemTrees, no_item, and_item, map_scope}
use Rattle.sd_alike.specs.alike.Places.{items_then}
use Rattle.sd_exchange.specs.maps.Rewritten.{Rewrite, ItemsRewritten, at_once, in_later}
use Rattle.sd_fuse.specs.maps.InTurn.{InTurn, in_turn}
use Rattle.sd_fuse.specs.maps.Fused.{Fused, fused, FusedBack, apart_again}
use Rattle.sd_fuse.specs.maps.Gathered.{Gathered, gathered, GatheredBack, spread}
use Rattle.sd_fuse.specs.maps.MapRenamed.{MapRenamed, map_renamed, MapRenamedBack, named_again}
use Rattle.sd_fuse.specs.maps.MapsFused.{MapsFused, maps_fused}
use Rattle.sd_exchange.proofs.maps_lemmas.Keeping.{Keeps}
use Rattle.sd_exchange.proofs.maps_lemmas.StaysValid.{LeavesValid}
use Rattle.sd_exchange.proofs.maps_lemmas.Congruent.{IsSound}
use Rattle.sd_exchange.proofs.maps_lemmas.Interchanges.{items-back}
use Rattle.sd_fuse.proofs.maps_lemmas.InTurns.{turns-keep, turns-leave_valid, turns-sound, behind-sound, behind-keeps, behind-leaves_valid}
use Rattle.sd_fuse.proofs.maps_lemmas.MapsFused.{fuse-sound}
use Rattle.sd_fuse.proofs.maps_lemmas.FusedKept.{fuse-keeps, fuse-leaves_valid, fuse-back-sound, fuse-back-keeps, fuse-back-leaves_valid}
use Rattle.sd_fuse.proofs.maps_lemmas.Gathering.{gather-sound, gather-back-sound, gather-keeps, gather-leaves_valid}
use Rattle.sd_fuse.proofs.maps_lemmas.MapsRenamed.{rename-sound, rename-back-sound, rename-keeps, rename-leaves_valid, rename-back-keeps, rename-back-leaves_valid}

-- a rewrite behind other items
pub later : (R : Rewrite) (containers : Containers) (around : List Parameter) (front items others : ItemTrees) → ItemsRewritten R containers around items others → ItemsRewritten R containers around (items_then front items) (items_then front others)
later R containers around no_item items others r = r
later R containers around (and_item line kind front) items others r = in_later containers around line kind (items_then front items) (items_then front others) (later R containers around front items others r)

abbrev pub Inner : Rewrite
Inner = InTurn MapRenamed Fused

abbrev pub InnerBack : Rewrite
InnerBack = InTurn FusedBack MapRenamedBack

abbrev pub Steps : Rewrite
Steps = InTurn Gathered (ItemsRewritten Inner)

abbrev pub StepsBack : Rewrite
StepsBack = InTurn (ItemsRewritten InnerBack) GatheredBack

pub steps : (containers : Containers) (around : List Parameter) (items others : ItemTrees) → MapsFused containers around items others → Steps containers around items others
steps containers around items others (maps_fused first_sequential second_sequential c a params more private own line there body other between rest may) =
    in_turn c a _ _ _
    (gathered c a line there (map_scope first_sequential params private body) (map_scope second_sequential more own other) between rest may.free)
    (later Inner c a _ _ _
    (at_once c a _ _ (in_turn c a _ _ _ (map_renamed first_sequential second_sequential c a params more private own line there body other _ may.rename) (fused first_sequential second_sequential c a params private own may.nodes may.other_nodes line there body _ _ may.harmless may.private_to))))

inner-back : (containers : Containers) (around : List Parameter) (items others : ItemTrees) → Inner containers around items others → InnerBack containers around others items
inner-back containers around items others (in_turn c a old between new r s) = in_turn c a new between old (apart_again c a new between s) (named_again c a between old r)

pub steps-back : (containers : Containers) (around : List Parameter) (items others : ItemTrees) → Steps containers around items others → StepsBack containers around others items
steps-back containers around items others (in_turn c a old between new r s) = in_turn c a new between old (items-back Inner InnerBack inner-back c a between new s) (spread c a between old r)

inner-keeps : Keeps Inner
inner-keeps = turns-keep MapRenamed Fused rename-keeps fuse-keeps

inner-leaves_valid : LeavesValid Inner
inner-leaves_valid = turns-leave_valid MapRenamed Fused rename-leaves_valid fuse-leaves_valid

pub steps-keep : Keeps Steps
steps-keep = turns-keep Gathered (ItemsRewritten Inner) gather-keeps (behind-keeps Inner inner-keeps)

pub steps-leave_valid : LeavesValid Steps
steps-leave_valid = turns-leave_valid Gathered (ItemsRewritten Inner) gather-leaves_valid (behind-leaves_valid Inner inner-keeps inner-leaves_valid)

pub steps-sound : IsSound Steps
steps-sound = turns-sound Gathered (ItemsRewritten Inner) gather-keeps gather-leaves_valid gather-sound (behind-sound Inner (turns-sound MapRenamed Fused rename-keeps rename-leaves_valid rename-sound fuse-sound))

inner-back-keeps : Keeps InnerBack
inner-back-keeps = turns-keep FusedBack MapRenamedBack fuse-back-keeps rename-back-keeps

inner-back-leaves_valid : LeavesValid InnerBack
inner-back-leaves_valid = turns-leave_valid FusedBack MapRenamedBack fuse-back-leaves_valid rename-back-leaves_valid

pub steps-back-sound : IsSound StepsBack
steps-back-sound =
    turns-sound (ItemsRewritten InnerBack) GatheredBack (behind-keeps InnerBack inner-back-keeps) (behind-leaves_valid InnerBack inner-back-keeps inner-back-leaves_valid)
    (behind-sound InnerBack (turns-sound FusedBack MapRenamedBack fuse-back-keeps fuse-back-leaves_valid fuse-back-sound rename-back-sound)) gather-back-sound
