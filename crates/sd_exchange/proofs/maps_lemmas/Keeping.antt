-- A rewrite that keeps uses and accesses, but for boxes, keeps accepted consume scopes.
use Rattle.std.specs.List.{Contains}
use Rattle.std.proofs.Common.{Option, Some, None, suc, ◌≡◌, ℕ, List, [], ◌∷◌, ◌++◌, map, Bool, true, false, cond, not, refl, sym, ◌∙◌, ap, subst}
use Rattle.std.proofs.lemmas.List.{map-append}
use Rattle.sd_range.proofs.Members.{Contains-map, Contains-from_map}
use Rattle.sd_subset.specs.boxes.Box.{Parameter}
use Rattle.sd_graph.specs.ContainerParts.{Containers}
use Rattle.sd_graph.specs.Mode.{Take, do_conflict}
use Rattle.sd_graph.specs.Wiring.{Use, has_number, outside, nested_uses, exit_uses, kind_uses, item_uses, state_uses, graph_uses}
use Rattle.sd_graph.specs.PlainTree.{KindTree, task, map_scope, consume_scope, nested_graph, reduction, copy, ItemTrees, no_item, and_item, StateTrees, GraphTree}
use Rattle.sd_race.proofs.cover_lemmas.UsesOf.{of_access}
use Rattle.sd_exchange.specs.maps.AcceptedPools.{HasAcceptedPools, HaveAcceptedPools, StatesHaveAcceptedPools, GraphHasAcceptedPools}
use Rattle.sd_exchange.specs.maps.Rewritten.{Rewrite, KindRewritten, in_map, in_pool, in_nested, ItemsRewritten, at_once, in_first, in_later, StatesRewritten, in_state, in_states, GraphRewritten, in_graph}
use Rattle.sd_exchange.specs.maps.Interchange.{Interchanged, interchanged}
use Rattle.sd_exchange.specs.maps.Accepting.{IsConsumeAccepted}
use Rattle.sd_safe.proofs.safe_lemmas.Accepting.{AreFree}
use Rattle.sd_exchange.specs.tiles.Shuffled.{Shuffled}
use Rattle.sd_exchange.specs.tiles.Shuffled as shuffled
use Rattle.sd_exchange.proofs.tiles_lemmas.Shuffling.{same-shuffled, shuffled-back, shuffled-member, shuffled-behind, shuffled-before}
use Rattle.sd_exchange.proofs.maps_lemmas.Shuffling.{outside-shuffled, nested-shuffled}
use Rattle.sd_graph.specs.declared.link.Link.{Link}
use Rattle.sd_graph.specs.Mode.{Mode}
use Rattle.sd_graph.specs.Wiring.{use_of, link_uses, modes_on, output_mode}
use Rattle.sd_graph.specs.Mode.{Read, joined_mode}
use Rattle.sd_prop.specs.propagation.ItemNodes.{own_node, nodes_behind, past}
use Rattle.sd_prop.specs.propagation.Accesses.{access_of, output_access, link_accesses}
use Rattle.sd_prop.specs.propagation.Accesses.{Access, access_replaced, outside_accesses, nested_accesses, take_access, kind_accesses, item_accesses}

-- container and mode of each access
abbrev pub modes : List Access → List Use
modes accesses = map of_access accesses

modes-replaced : (parameters : List Parameter) (accesses : List Access) → modes (map (access_replaced parameters) accesses) ≡ modes accesses
modes-replaced parameters [] = refl
modes-replaced parameters (access ∷ accesses) = ap (λ rest. of_access access ∷ rest) (modes-replaced parameters accesses)

modes-outside : (own : List ℕ) (accesses : List Access) → modes (outside_accesses own accesses) ≡ outside own (modes accesses)
modes-outside own [] = refl
modes-outside own (access ∷ accesses) =
    go (not (has_number own access.container)) ∙ ap (λ rest. cond (not (has_number own access.container)) (of_access access ∷ rest) rest) (modes-outside own accesses)
  where
    go : (b : Bool) → modes (cond b (access ∷ outside_accesses own accesses) (outside_accesses own accesses)) ≡ cond b (of_access access ∷ modes (outside_accesses own accesses)) (modes (outside_accesses own accesses))
    go true = refl
    go false = refl

modes-links : (node : ℕ) (mode : Link → Mode) (links : List Link) → modes (map (λ link. access_of node (mode link) link) links) ≡ map (λ link. use_of (mode link) link) links
modes-links node mode [] = refl
modes-links node mode (link ∷ links) = ap (λ rest. use_of (mode link) link ∷ rest) (modes-links node mode links)

modes-nested : (node : ℕ) (inner : List Use) (number : ℕ) (links : List Link) → modes (nested_accesses node inner number links) ≡ nested_uses inner number links
modes-nested node inner number [] = refl
modes-nested node inner number (link ∷ links) =
    map-append of_access (link_accesses node link (joined_mode (modes_on number inner))) (nested_accesses node inner (suc number) links)
    ∙ λ i. go (joined_mode (modes_on number inner)) i ++ modes-nested node inner (suc number) links i
  where
    go : (mode : Option Mode) → modes (link_accesses node link mode) ≡ link_uses link mode
    go None = refl
    go (Some mode) = refl

mutual
  -- they are what items do to containers, whatever their nodes are
  pub kind-modes : (kind : KindTree) (containers : Containers) (nodes : List ℕ) → modes (kind_accesses kind containers nodes) ≡ kind_uses kind containers
  kind-modes (task code ins outs) containers nodes =
      map-append of_access (map (access_of (own_node nodes) Read) ins) (map (output_access containers (own_node nodes)) outs)
      ∙ λ i. modes-links (own_node nodes) (λ link. Read) ins i ++ modes-links (own_node nodes) (output_mode containers) outs i
  kind-modes (map_scope sequential parameters private body) containers nodes =
      modes-replaced parameters (outside_accesses private (item_accesses body containers (nodes_behind nodes))) ∙ modes-outside private (item_accesses body containers (nodes_behind nodes))
      ∙ ap (outside private) (item-modes body containers (nodes_behind nodes))
  kind-modes (consume_scope source element private body) containers nodes =
      ap (λ uses. of_access (take_access (own_node nodes) source) ∷ uses) (modes-outside (element ∷ private) (item_accesses body containers (nodes_behind nodes)) ∙ ap (outside (element ∷ private)) (item-modes body containers (nodes_behind nodes)))
  kind-modes (nested_graph inner links) containers nodes = modes-nested (own_node nodes) (graph_uses inner) 0 links
  kind-modes (reduction resolution axis identity from to) containers nodes = refl
  kind-modes (copy from to) containers nodes = refl

  pub item-modes : (items : ItemTrees) (containers : Containers) (nodes : List ℕ) → modes (item_accesses items containers nodes) ≡ item_uses items containers
  item-modes no_item containers nodes = refl
  item-modes (and_item line kind items) containers nodes =
      map-append of_access (kind_accesses kind containers nodes) (item_accesses items containers (past kind nodes))
      ∙ λ i. kind-modes kind containers nodes i ++ item-modes items containers (past kind nodes) i

-- a consume body is accepted by its modes
pub modes-accepted : (own : List ℕ) (body : ItemTrees) (containers : Containers) (nodes : List ℕ) → IsConsumeAccepted (outside own (item_uses body containers)) → AreFree (outside_accesses own (item_accesses body containers nodes))
modes-accepted own body containers nodes accepted access other member second =
    let accesses = outside_accesses own (item_accesses body containers nodes) in
    let same = modes-outside own (item_accesses body containers nodes) ∙ ap (outside own) (item-modes body containers nodes) in
    accepted (of_access access) (of_access other)
    (subst (λ uses. Contains uses (of_access access)) same (Contains-map of_access accesses access member))
    (subst (λ uses. Contains uses (of_access other)) same (Contains-map of_access accesses other second))

-- and the other way
pub accepted-modes : (own : List ℕ) (body : ItemTrees) (containers : Containers) (nodes : List ℕ) → AreFree (outside_accesses own (item_accesses body containers nodes)) → IsConsumeAccepted (outside own (item_uses body containers))
accepted-modes own body containers nodes free use' other member second same conflict =
    let accesses = outside_accesses own (item_accesses body containers nodes) in
    let is = modes-outside own (item_accesses body containers nodes) ∙ ap (outside own) (item-modes body containers nodes) in
    let a = Contains-from_map of_access accesses use' (subst (λ uses. Contains uses use') (sym is) member) in
    let b = Contains-from_map of_access accesses other (subst (λ uses. Contains uses other) (sym is) second) in
    let container : a.0.container ≡ use'.container = ap (λ (u : Use). u.container) a.2 in
    let container' : b.0.container ≡ other.container = ap (λ (u : Use). u.container) b.2 in
    let mode : a.0.mode ≡ use'.mode = ap (λ (u : Use). u.mode) a.2 in
    let mode' : b.0.mode ≡ other.mode = ap (λ (u : Use). u.mode) b.2 in
    free a.0 b.0 a.1 b.1 (container ∙ same ∙ sym container') ((λ i. do_conflict (mode i) (mode' i)) ∙ conflict)

-- the same modes in another order
shuffled-accepted : (uses others : List Use) → Shuffled uses others → IsConsumeAccepted uses → IsConsumeAccepted others
shuffled-accepted uses others s accepted use' other member second =
    let back = shuffled-back uses others s in accepted use' other (shuffled-member others uses back use' member) (shuffled-member others uses back other second)

-- what a rewrite keeps of items
pub record ItemsKept (containers : Containers) (items others : ItemTrees) : Type 0 where
  pub uses : Shuffled (item_uses items containers) (item_uses others containers)
  pub pools : HaveAcceptedPools items containers → HaveAcceptedPools others containers

record KindKept (containers : Containers) (kind other : KindTree) : Type 0 where
  uses : Shuffled (kind_uses kind containers) (kind_uses other containers)
  pools : HasAcceptedPools kind containers → HasAcceptedPools other containers

record StatesKept (containers : Containers) (states others : StateTrees) : Type 0 where
  uses : Shuffled (state_uses states containers) (state_uses others containers)
  pools : StatesHaveAcceptedPools states containers → StatesHaveAcceptedPools others containers

abbrev pub Keeps : Rewrite → Type 0
Keeps R = (containers : Containers) (around : List Parameter) (items others : ItemTrees) → R containers around items others → ItemsKept containers items others

mutual
  kind-kept : (R : Rewrite) → Keeps R → (c : Containers) (a : List Parameter) (kind other : KindTree) → KindRewritten R c a kind other → KindKept c kind other
  kind-kept R h c a kind other (in_map sequential containers around parameters private body new r) =
      let k = items-kept R h containers (around ++ parameters) body new r in
      record { uses = outside-shuffled private (item_uses body containers) (item_uses new containers) k.uses; pools = k.pools }
  kind-kept R h c a kind other (in_pool containers around source element private body new r) =
      let k = items-kept R h containers around body new r in
      let out = outside-shuffled (element ∷ private) (item_uses body containers) (item_uses new containers) k.uses in
      record {
        uses = shuffled.behind (record { container = source; mode = Take }) (outside (element ∷ private) (item_uses body containers)) (outside (element ∷ private) (item_uses new containers)) out;
        pools = λ p. (shuffled-accepted (outside (element ∷ private) (item_uses body containers)) (outside (element ∷ private) (item_uses new containers)) out p.0, k.pools p.1);
      }
  kind-kept R h c a kind other (in_nested containers around tree new links r) =
      let k = graph-kept R h tree new r in
      record { uses = same-shuffled _ _ (nested-shuffled (graph_uses tree) (graph_uses new) k.0 0 links); pools = k.1 }

  pub items-kept : (R : Rewrite) → Keeps R → (c : Containers) (a : List Parameter) (items others : ItemTrees) → ItemsRewritten R c a items others → ItemsKept c items others
  items-kept R h c a items others (at_once containers around old new r) = h containers around old new r
  items-kept R h c a items others (in_first containers around line kind other rest r) =
      let k = kind-kept R h containers around kind other r in
      record { uses = shuffled-before (kind_uses kind containers) (kind_uses other containers) (item_uses rest containers) k.uses; pools = λ p. (k.pools p.0, p.1) }
  items-kept R h c a items others (in_later containers around line kind old new r) =
      let k = items-kept R h containers around old new r in
      record { uses = shuffled-behind (kind_uses kind containers) (item_uses old containers) (item_uses new containers) k.uses; pools = λ p. (p.0, k.pools p.1) }

  states-kept : (R : Rewrite) → Keeps R → (c : Containers) (states others : StateTrees) → StatesRewritten R c states others → StatesKept c states others
  states-kept R h c states others (in_state containers old new exits rest r) =
      let k = items-kept R h containers [] old new r in
      record { uses = shuffled-before (item_uses old containers) (item_uses new containers) (exit_uses exits ++ state_uses rest containers) k.uses; pools = λ p. (k.pools p.0, p.1) }
  states-kept R h c states others (in_states containers items exits old new r) =
      let k = states-kept R h containers old new r in
      record {
        uses = shuffled-behind (item_uses items containers) (exit_uses exits ++ state_uses old containers) (exit_uses exits ++ state_uses new containers) (shuffled-behind (exit_uses exits) (state_uses old containers) (state_uses new containers) k.uses);
        pools = λ p. (p.0, k.pools p.1);
      }

  pub graph-kept : (R : Rewrite) → Keeps R → (tree other : GraphTree) → GraphRewritten R tree other → Shuffled (graph_uses tree) (graph_uses other) × (GraphHasAcceptedPools tree → GraphHasAcceptedPools other)
  graph-kept R h tree other (in_graph name containers arguments variables symbols states others r) =
      let k = states-kept R h containers states others r in (k.uses, k.pools)

-- ---- an interchange does

pub interchange-keeps : Keeps Interchanged
interchange-keeps containers around items others (interchanged first_sequential second_sequential c a first second private place there line other body rest may) = record { uses = shuffled.as_it_is _; pools = λ p. p }
