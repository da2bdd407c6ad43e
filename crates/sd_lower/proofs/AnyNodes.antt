-- The numbers of nodes make no difference to accesses but for their nodes.
use Rattle.std.proofs.Common.{◌≡◌, ℕ, suc, List, [], ◌∷◌, ◌++◌, map, Bool, true, false, not, Option, Some, None, if◌then◌else◌, refl, ap, sym, ◌∙◌}
use Rattle.sd_subset.specs.boxes.Box.{Parameter}
use Rattle.sd_graph.specs.declared.link.Link.{Link}
use Rattle.sd_graph.specs.ContainerParts.{Containers}
use Rattle.sd_graph.specs.Mode.{Mode, Read, joined_mode}
use Rattle.sd_graph.specs.Wiring.{Use, has_number, modes_on, graph_uses}
use Rattle.sd_graph.specs.PlainTree.{KindTree, task, map_scope, consume_scope, nested_graph, reduction, copy, ItemTrees, no_item, and_item}
use Rattle.sd_prop.specs.propagation.ItemNodes.{own_node, nodes_behind, past}
use Rattle.sd_prop.specs.propagation.Accesses.{Access, access_of, output_access, link_accesses, nested_accesses, take_access, access_replaced, outside_accesses, kind_accesses, item_accesses}

-- an access without its node
abbrev pub bare : Access → Access
bare access = record access { node = 0 }

map-append : {A B : Type 0} (f : A → B) (xs ys : List A) → map f (xs ++ ys) ≡ map f xs ++ map f ys
map-append f [] ys = refl
map-append f (x ∷ xs) ys = ap (λ zs. f x ∷ zs) (map-append f xs ys)

-- lists that are the same without nodes, one behind the other
append-bare : (xs ys us vs : List Access) → map bare xs ≡ map bare us → map bare ys ≡ map bare vs → map bare (xs ++ ys) ≡ map bare (us ++ vs)
append-bare xs ys us vs e f = map-append bare xs ys ∙ (λ i. e i ++ f i) ∙ sym (map-append bare us vs)

links-bare : (n m : ℕ) (f : ℕ → Link → Access) → ((link : Link) → bare (f n link) ≡ bare (f m link)) → (links : List Link) → map bare (map (f n) links) ≡ map bare (map (f m) links)
links-bare n m f same [] = refl
links-bare n m f same (link ∷ links) = λ i. same link i ∷ links-bare n m f same links i

replaced-bare : (params : List Parameter) (xs : List Access) → map bare (map (access_replaced params) xs) ≡ map (access_replaced params) (map bare xs)
replaced-bare params [] = refl
replaced-bare params (x ∷ xs) = ap (λ zs. access_replaced params (bare x) ∷ zs) (replaced-bare params xs)

outside-bare : (own : List ℕ) (xs : List Access) → map bare (outside_accesses own xs) ≡ outside_accesses own (map bare xs)
outside-bare own [] = refl
outside-bare own (x ∷ xs) = on (not (has_number own x.container)) (outside-bare own xs)
  where
    on : (b : Bool) → map bare (outside_accesses own xs) ≡ outside_accesses own (map bare xs) →
        map bare (if b then x ∷ outside_accesses own xs else outside_accesses own xs) ≡ (if b then bare x ∷ outside_accesses own (map bare xs) else outside_accesses own (map bare xs))
    on true rest = ap (λ zs. bare x ∷ zs) rest
    on false rest = rest

link-bare : (n m : ℕ) (link : Link) (mode : Option Mode) → map bare (link_accesses n link mode) ≡ map bare (link_accesses m link mode)
link-bare n m link None = refl
link-bare n m link (Some mode) = refl

nested-bare : (n m : ℕ) (inner : List Use) (number : ℕ) (links : List Link) → map bare (nested_accesses n inner number links) ≡ map bare (nested_accesses m inner number links)
nested-bare n m inner number [] = refl
nested-bare n m inner number (link ∷ links) =
    append-bare (link_accesses n link (joined_mode (modes_on number inner))) (nested_accesses n inner (suc number) links) (link_accesses m link (joined_mode (modes_on number inner))) (nested_accesses m inner (suc number) links)
    (link-bare n m link (joined_mode (modes_on number inner))) (nested-bare n m inner (suc number) links)

-- those of other containers too
outside-same : (own : List ℕ) (xs ys : List Access) → map bare xs ≡ map bare ys → map bare (outside_accesses own xs) ≡ map bare (outside_accesses own ys)
outside-same own xs ys e = outside-bare own xs ∙ ap (outside_accesses own) e ∙ sym (outside-bare own ys)

mutual
  pub kind-bare : (kind : KindTree) (containers : Containers) (nodes others : List ℕ) → map bare (kind_accesses kind containers nodes) ≡ map bare (kind_accesses kind containers others)
  kind-bare (task code ins outs) containers nodes others =
      append-bare (map (access_of (own_node nodes) Read) ins) (map (output_access containers (own_node nodes)) outs) (map (access_of (own_node others) Read) ins) (map (output_access containers (own_node others)) outs)
      (links-bare (own_node nodes) (own_node others) (λ n. access_of n Read) (λ link. refl) ins) (links-bare (own_node nodes) (own_node others) (output_access containers) (λ link. refl) outs)
  kind-bare (map_scope sequential params private body) containers nodes others =
      replaced-bare params (outside_accesses private (item_accesses body containers (nodes_behind nodes)))
      ∙ ap (map (access_replaced params)) (outside-same private (item_accesses body containers (nodes_behind nodes)) (item_accesses body containers (nodes_behind others)) (items-bare body containers (nodes_behind nodes) (nodes_behind others)))
      ∙ sym (replaced-bare params (outside_accesses private (item_accesses body containers (nodes_behind others))))
  kind-bare (consume_scope stream element private body) containers nodes others =
      ap (λ zs. bare (take_access 0 stream) ∷ zs) (outside-same (element ∷ private) (item_accesses body containers (nodes_behind nodes)) (item_accesses body containers (nodes_behind others)) (items-bare body containers (nodes_behind nodes) (nodes_behind others)))
  kind-bare (nested_graph inner links) containers nodes others = nested-bare (own_node nodes) (own_node others) (graph_uses inner) 0 links
  kind-bare (reduction resolution axis identity from to) containers nodes others = refl
  kind-bare (copy from to) containers nodes others = refl

  items-bare : (items : ItemTrees) (containers : Containers) (nodes others : List ℕ) → map bare (item_accesses items containers nodes) ≡ map bare (item_accesses items containers others)
  items-bare no_item containers nodes others = refl
  items-bare (and_item line kind items) containers nodes others =
      append-bare (kind_accesses kind containers nodes) (item_accesses items containers (past kind nodes)) (kind_accesses kind containers others) (item_accesses items containers (past kind others))
      (kind-bare kind containers nodes others) (items-bare items containers (past kind nodes) (past kind others))
