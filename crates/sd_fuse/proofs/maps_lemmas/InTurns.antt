-- What two rewrites keep, one behind the other keeps.
use Rattle.std.specs.List.{Contains}
use Rattle.std.proofs.Common.{◌≡◌, List, sym, subst}
use Rattle.sd_subset.specs.boxes.Box.{Parameter}
use Rattle.sd_graph.specs.ContainerParts.{Containers}
use Rattle.sd_graph.specs.PlainTree.{ItemTrees}
use Rattle.sd_graph.specs.Wiring.{Use, item_uses}
use Rattle.sd_graph.specs.Unfold.{unfold_items}
use Rattle.sd_graph.specs.Context.{Context}
use Rattle.sd_exchange.proofs.reorder_lemmas.Ends.{end-on}
use Rattle.sd_exchange.specs.maps.AcceptedPools.{HaveAcceptedPools}
use Rattle.sd_exchange.specs.maps.Rewritten.{Rewrite, ItemsRewritten}
use Rattle.sd_fuse.specs.maps.InTurn.{InTurn, in_turn}
use Rattle.sd_exchange.specs.tiles.Shuffled.{and_then}
use Rattle.sd_exchange.proofs.tiles_lemmas.Shuffling.{shuffled-back, shuffled-member}
use Rattle.sd_exchange.proofs.maps_lemmas.Keeping.{Keeps, items-kept}
use Rattle.sd_exchange.proofs.maps_lemmas.StaysValid.{LeavesValid, items-valid}
use Rattle.sd_exchange.proofs.maps_lemmas.Congruent.{Stand, IsSound, items-rewritten}

pub turns-keep : (R S : Rewrite) → Keeps R → Keeps S → Keeps (InTurn R S)
turns-keep R S keep then_keep containers around items others (in_turn c a old between new r s) =
    let first = keep c a old between r in
    let second = then_keep c a between new s in
    record { uses = and_then (item_uses old c) (item_uses between c) (item_uses new c) first.uses second.uses; pools = λ p. second.pools (first.pools p) }

pub turns-leave_valid : (R S : Rewrite) → LeavesValid R → LeavesValid S → LeavesValid (InTurn R S)
turns-leave_valid R S leave then_leave containers around items others (in_turn c a old between new r s) v = then_leave c a between new s (leave c a old between r v)

-- items that stand still do behind a rewrite
pub stand-on : (R : Rewrite) → Keeps R → LeavesValid R → (containers : Containers) (around : List Parameter) (items others : ItemTrees) → R containers around items others → (context : Context) → context.containers ≡ containers → Stand items around context → Stand others around context
stand-on R keep leave containers around items others r context same stand =
    let kept = keep containers around items others r in
    record {
      valid = leave containers around items others r stand.valid;
      in_force = stand.in_force;
      once = stand.once;
      apart = λ use' other member second.
          (let back = λ (u : Use) (m : Contains (item_uses others context.containers) u).
          subst (λ k. Contains (item_uses items k) u) (sym same) (shuffled-member (item_uses others containers) (item_uses items containers) (shuffled-back (item_uses items containers) (item_uses others containers) kept.uses) u (subst (λ k. Contains (item_uses others k) u) same m)) in
          stand.apart use' other (back use' member) (back other second));
      pools = subst (HaveAcceptedPools others) (sym same) (kept.pools (subst (HaveAcceptedPools items) same stand.pools));
    }

pub turns-sound : (R S : Rewrite) → Keeps R → LeavesValid R → IsSound R → IsSound S → IsSound (InTurn R S)
turns-sound R S keep leave sound then_sound containers around items others (in_turn c a old between new r s) context same stand =
    end-on (unfold_items old context) (unfold_items between context) (unfold_items new context)
    (sound c a old between r context same stand)
    (then_sound c a between new s context same (stand-on R keep leave c a old between r context same stand))

-- and behind other items
pub behind-sound : (R : Rewrite) → IsSound R → IsSound (ItemsRewritten R)
behind-sound R sound containers around items others r context same stand = items-rewritten R sound containers around items others r context same stand

pub behind-keeps : (R : Rewrite) → Keeps R → Keeps (ItemsRewritten R)
behind-keeps R keep containers around items others r = items-kept R keep containers around items others r

pub behind-leaves_valid : (R : Rewrite) → Keeps R → LeavesValid R → LeavesValid (ItemsRewritten R)
behind-leaves_valid R keep leave containers around items others r v = items-valid R keep leave containers around items others r v
