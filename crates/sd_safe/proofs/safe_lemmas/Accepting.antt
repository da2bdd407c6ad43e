-- What accepted scopes say of each two of their accesses.
use Rattle.std.specs.List.{Contains}
use Rattle.std.proofs.Common.{◌≡◌, ℕ, List, ◌++◌, Bool, true, refl}
use Rattle.sd_subset.specs.boxes.Box.{Parameter}
use Rattle.sd_subset.specs.boxes.Apart.{AreHarmless}
use Rattle.sd_graph.specs.ContainerParts.{Containers}
use Rattle.sd_graph.specs.Mode.{do_conflict}
use Rattle.sd_graph.specs.PlainTree.{KindTree, ItemTrees}
use Rattle.sd_prop.specs.propagation.ItemNodes.{nodes_behind, past}
use Rattle.sd_prop.specs.propagation.Accesses.{Access, outside_accesses, item_accesses}
use Rattle.sd_prop.specs.propagation.Scopes.{points, elements, scope_of, scopes_itself, scopes_inside, item_scopes}
use Rattle.sd_race.specs.race.Pairs.{IsFreeOfRaces, IsScopeAccepted, AreScopesAccepted}
use Rattle.sd_race.proofs.race_lemmas.Members.{all-parts, accepted-two}

-- of a map's body: each two in modes that conflict are harmless
abbrev pub AreMapHarmless : (around own : List Parameter) → List Access → Type 0
AreMapHarmless around own accesses = (access other : Access) → Contains accesses access → Contains accesses other →
    access.container ≡ other.container → do_conflict access.mode other.mode ≡ true → AreHarmless around own access.box other.box

-- of a consume body: no two are in modes that conflict
abbrev pub AreFree : List Access → Type 0
AreFree accesses = (access other : Access) → Contains accesses access → Contains accesses other → access.container ≡ other.container → do_conflict access.mode other.mode ≡ true → ⊥

pub map-harmless : (sequential : Bool) (params : List Parameter) (private : List ℕ) (body : ItemTrees) (containers : Containers) (path : List ℕ) (around : List Parameter) (nodes : List ℕ) → IsFreeOfRaces (scope_of (points sequential params) private body containers path around nodes) →
    AreMapHarmless around params (outside_accesses private (item_accesses body containers (nodes_behind nodes)))
map-harmless sequential params private body containers path around nodes free access other member second =
    accepted-two (scope_of (points sequential params) private body containers path around nodes) (outside_accesses private (item_accesses body containers (nodes_behind nodes))) free access other member second

pub elements-free : (own : List ℕ) (body : ItemTrees) (containers : Containers) (path : List ℕ) (around : List Parameter) (nodes : List ℕ) → IsScopeAccepted (scope_of elements own body containers path around nodes) →
    AreFree (outside_accesses own (item_accesses body containers (nodes_behind nodes)))
elements-free own body containers path around nodes accepted access other member second =
    accepted-two (scope_of elements own body containers path around nodes) (outside_accesses own (item_accesses body containers (nodes_behind nodes))) (accepted refl) access other member second

-- the scopes of a list are those of its first item and those of the others
pub record OfItems (kind : KindTree) (items : ItemTrees) (containers : Containers) (path : List ℕ) (around : List Parameter) (nodes : List ℕ) : Type 0 where
  pub itself : AreScopesAccepted (scopes_itself kind containers path around nodes)
  pub within : AreScopesAccepted (scopes_inside kind containers path around nodes)
  pub others : AreScopesAccepted (item_scopes items containers path around (past kind nodes))

pub of_items : (kind : KindTree) (items : ItemTrees) (containers : Containers) (path : List ℕ) (around : List Parameter) (nodes : List ℕ) →
    AreScopesAccepted (scopes_itself kind containers path around nodes ++ (scopes_inside kind containers path around nodes ++ item_scopes items containers path around (past kind nodes))) → OfItems kind items containers path around nodes
of_items kind items containers path around nodes accepted =
    let first = all-parts IsScopeAccepted (scopes_itself kind containers path around nodes) (scopes_inside kind containers path around nodes ++ item_scopes items containers path around (past kind nodes)) accepted in
    let rest = all-parts IsScopeAccepted (scopes_inside kind containers path around nodes) (item_scopes items containers path around (past kind nodes)) first.1 in
    record { itself = first.0; within = rest.0; others = rest.1 }
