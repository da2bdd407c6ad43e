-- One list of items behind another: what both use, and what holds of both.
use Rattle.std.proofs.lemmas.List.{append_assoc}
use Rattle.std.proofs.Common.{◌≡◌, List, ◌++◌, refl, sym, ◌∙◌, ap}
use Rattle.sd_subset.specs.boxes.Box.{Parameter}
use Rattle.sd_graph.specs.ContainerParts.{Containers}
use Rattle.sd_graph.specs.PlainTree.{ItemTrees, no_item, and_item}
use Rattle.sd_graph.specs.Wiring.{kind_uses, item_uses}
use Rattle.sd_alike.specs.alike.Places.{items_then}
use Rattle.sd_race.specs.cover.Fit.{AreFit}
use Rattle.sd_exchange.specs.maps.AcceptedPools.{HaveAcceptedPools}

pub then-uses : (items others : ItemTrees) (containers : Containers) → item_uses (items_then items others) containers ≡ item_uses items containers ++ item_uses others containers
then-uses no_item others containers = refl
then-uses (and_item line kind items) others containers =
    ap (λ uses. kind_uses kind containers ++ uses) (then-uses items others containers) ∙ sym (append_assoc (kind_uses kind containers) (item_uses items containers) (item_uses others containers))

pub then-fit : (items others : ItemTrees) (around : List Parameter) → AreFit items around → AreFit others around → AreFit (items_then items others) around
then-fit no_item others around h k = k
then-fit (and_item line kind items) others around h k = (h.0, then-fit items others around h.1 k)

pub fit-then : (items others : ItemTrees) (around : List Parameter) → AreFit (items_then items others) around → AreFit items around × AreFit others around
fit-then no_item others around h = (tt, h)
fit-then (and_item line kind items) others around h = let r = fit-then items others around h.1 in ((h.0, r.0), r.1)

pub then-accepted : (items others : ItemTrees) (containers : Containers) → HaveAcceptedPools items containers → HaveAcceptedPools others containers → HaveAcceptedPools (items_then items others) containers
then-accepted no_item others containers h k = k
then-accepted (and_item line kind items) others containers h k = (h.0, then-accepted items others containers h.1 k)

pub accepted-then : (items others : ItemTrees) (containers : Containers) → HaveAcceptedPools (items_then items others) containers → HaveAcceptedPools items containers × HaveAcceptedPools others containers
accepted-then no_item others containers h = (tt, h)
accepted-then (and_item line kind items) others containers h = let r = accepted-then items others containers h.1 in ((h.0, r.0), r.1)
