-- What an item touches, told by the accesses of the item alone in a graph.
use Rattle.std.proofs.Common.{◌≡◌, ℕ, nat_eq, List, [], ◌∷◌, ◌++◌, map, Bool, true, false, if◌then◌else◌, refl, ap, sym, ◌∙◌}
use Rattle.std.specs.List.{filter, fold}
use Rattle.std.proofs.lemmas.List.{append-nil}
use Rattle.sd_subset.specs.boxes.Hull.{hull}
use Rattle.sd_graph.specs.ContainerParts.{Containers, container_at, extents_of}
use Rattle.sd_graph.specs.PlainTree.{KindTree, map_scope, no_item, and_item}
use Rattle.sd_prop.specs.propagation.ItemNodes.{item_nodes, nodes_behind}
use Rattle.sd_prop.specs.propagation.Accesses.{Access, outside_accesses, kind_accesses}
use Rattle.sd_prop.specs.propagation.Scopes.{all_scopes}
use Rattle.sd_lower.specs.Kinds.{with_container}
use Rattle.sd_lower.specs.Hulls.{boxes_of, hulls_of, item_hulls, enclosed, graph_of, first_accesses}
use Rattle.sd_lower.proofs.AnyNodes.{bare, kind-bare}

-- ---- nodes make no difference

known-bare : (known : List ℕ) (xs : List Access) → fold with_container known (map bare xs) ≡ fold with_container known xs
known-bare known [] = refl
known-bare known (x ∷ xs) = known-bare (with_container known x) xs

boxes-bare : (xs : List Access) (container : ℕ) → boxes_of (map bare xs) container ≡ boxes_of xs container
boxes-bare [] container = refl
boxes-bare (x ∷ xs) container = on (nat_eq x.container container) (boxes-bare xs container)
  where
    on : (b : Bool) → boxes_of (map bare xs) container ≡ boxes_of xs container →
        map (λ (access : Access). access.box) (if b then bare x ∷ filter (λ (access : Access). nat_eq access.container container) (map bare xs) else filter (λ (access : Access). nat_eq access.container container) (map bare xs))
        ≡ map (λ (access : Access). access.box) (if b then x ∷ filter (λ (access : Access). nat_eq access.container container) xs else filter (λ (access : Access). nat_eq access.container container) xs)
    on true rest = ap (λ boxes. x.box ∷ boxes) rest
    on false rest = rest

hulls-bare : (containers : Containers) (xs : List Access) → hulls_of containers (map bare xs) ≡ hulls_of containers xs
hulls-bare containers xs =
    λ i. map (λ (container : ℕ). record { container = container; bounds = hull (extents_of (container_at containers container)) (boxes-bare xs container i) }) (known-bare [] xs i)

pub hulls-same : (containers : Containers) (xs ys : List Access) → map bare xs ≡ map bare ys → hulls_of containers xs ≡ hulls_of containers ys
hulls-same containers xs ys e = sym (hulls-bare containers xs) ∙ ap (hulls_of containers) e ∙ hulls-bare containers ys

-- ---- an item alone

outside-none : (accesses : List Access) → outside_accesses [] accesses ≡ accesses
outside-none [] = refl
outside-none (access ∷ accesses) = ap (λ all. access ∷ all) (outside-none accesses)

pub alone-hulls : (containers : Containers) (line : ℕ) (kind : KindTree) →
    hulls_of containers (first_accesses (all_scopes (graph_of containers (enclosed (line, kind))))) ≡ item_hulls containers kind
alone-hulls containers line kind =
    let nodes = nodes_behind (item_nodes containers (and_item line (map_scope false [] [] (and_item line kind no_item)) no_item)) in
    ap (hulls_of containers) (outside-none (kind_accesses kind containers nodes ++ []) ∙ append-nil (kind_accesses kind containers nodes))
    ∙ hulls-same containers (kind_accesses kind containers nodes) (kind_accesses kind containers []) (kind-bare kind containers nodes [])
