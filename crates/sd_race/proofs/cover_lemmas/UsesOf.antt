-- The accesses of items are in the modes in which they use their containers, and their boxes are in normal form.
use Rattle.std.specs.List.{AllByRecursion, Contains}
use Rattle.std.proofs.Common.{Option, Some, None, inl, inr, suc, ℕ, List, [], ◌∷◌, ◌++◌, map, not, ap, subst}
use Rattle.std.proofs.lemmas.Bool.{cases_Bool}
use Rattle.std.proofs.lemmas.List.Elements.{Contains-append_left, Contains-append_right, Contains-append_cases}
use Rattle.sd_range.proofs.Members.{Contains-nil, Contains-first, Contains-cases, Contains-map, Contains-from_map}
use Rattle.sd_subset.specs.boxes.Box.{Parameter}
use Rattle.sd_subset.specs.boxes.InForce.{IsNormalBox}
use Rattle.sd_subset.proofs.boxes_lemmas.Bounding.{normal-replaced}
use Rattle.sd_graph.specs.declared.link.Link.{Link}
use Rattle.sd_graph.specs.ContainerParts.{Containers}
use Rattle.sd_graph.specs.PlainTree.{KindTree, task, map_scope, consume_scope, nested_graph, reduction, copy, ItemTrees, no_item, and_item}
use Rattle.sd_graph.specs.Mode.{Mode, Read, Write, joined_mode}
use Rattle.sd_graph.specs.Wiring.{Use, use_of, output_mode, output_use, reduction_mode, has_number, outside, modes_on, link_uses, nested_uses, graph_uses, kind_uses, item_uses}
use Rattle.sd_prop.specs.propagation.ItemNodes.{own_node, nodes_behind, past}
use Rattle.sd_prop.specs.propagation.Accesses.{Access, access_of, output_access, access_replaced, outside_accesses, link_accesses, nested_accesses, take_access, kind_accesses, item_accesses}
use Rattle.sd_race.specs.cover.Fit.{IsNormalLink, IsFit, AreFit}
use Rattle.sd_race.proofs.cover_lemmas.Among.{among-filter, among-filtered}
use Rattle.sd_race.proofs.cover_lemmas.Indices.{normal-box_of}

-- an access is in a mode in which its container is used
abbrev pub of_access : Access → Use
of_access access = record { container = access.container; mode = access.mode }

abbrev pub AreUsesOf : List Use → List Access → Type 0
AreUsesOf uses accesses = (access : Access) → Contains accesses access → Contains uses (of_access access)

-- of lists put together
uses-append : (uses others : List Use) (accesses more : List Access) → AreUsesOf uses accesses → AreUsesOf others more → AreUsesOf (uses ++ others) (accesses ++ more)
uses-append uses others accesses more first second access member = elim (Contains-append_cases accesses more access member) [
  | inl here ↦ Contains-append_left uses others (of_access access) (first access here)
  | inr there ↦ Contains-append_right uses others (of_access access) (second access there)
]

-- of accesses of links
uses-links : (node : ℕ) (mode : Link → Mode) (links : List Link) → AreUsesOf (map (λ link. use_of (mode link) link) links) (map (λ link. access_of node (mode link) link) links)
uses-links node mode links access member =
    let (link, among, is) = Contains-from_map (λ link. access_of node (mode link) link) links access member in
    subst (Contains (map (λ link. use_of (mode link) link) links)) (ap of_access is) (Contains-map (λ link. use_of (mode link) link) links link among)

pub uses-outside : (own : List ℕ) (uses : List Use) (accesses : List Access) → AreUsesOf uses accesses → AreUsesOf (outside own uses) (outside_accesses own accesses)
uses-outside own uses accesses each access member =
    let stays = among-filtered (λ (other : Access). not (has_number own other.container)) accesses access member in
    among-filter (λ (use' : Use). not (has_number own use'.container)) uses (of_access access) (each access stays.0) stays.1

uses-replaced : (own : List Parameter) (uses : List Use) (accesses : List Access) → AreUsesOf uses accesses → AreUsesOf uses (map (access_replaced own) accesses)
uses-replaced own uses accesses each access member =
    let (other, among, is) = Contains-from_map (access_replaced own) accesses access member in subst (Contains uses) (ap of_access is) (each other among)

uses-one : (access : Access) → AreUsesOf (of_access access ∷ []) (access ∷ [])
uses-one access other member = elim (Contains-cases access [] other member) [
  | inl is ↦ subst (Contains (of_access access ∷ [])) (ap of_access is) (Contains-first (of_access access) [])
  | inr none ↦ absurd (Contains-nil other none)
]

uses-none : AreUsesOf [] []
uses-none access member = absurd (Contains-nil access member)

uses-joined : (node : ℕ) (link : Link) (mode : Option Mode) → AreUsesOf (link_uses link mode) (link_accesses node link mode)
uses-joined node link None = uses-none
uses-joined node link (Some mode) = uses-one (access_of node mode link)

uses-nested : (node : ℕ) (inner : List Use) (number : ℕ) (links : List Link) → AreUsesOf (nested_uses inner number links) (nested_accesses node inner number links)
uses-nested node inner number [] = uses-none
uses-nested node inner number (link ∷ links) =
    let mode = joined_mode (modes_on number inner) in
    uses-append (link_uses link mode) (nested_uses inner (suc number) links) (link_accesses node link mode) (nested_accesses node inner (suc number) links)
    (uses-joined node link mode) (uses-nested node inner (suc number) links)

mutual
  pub uses-kind : (kind : KindTree) (containers : Containers) (nodes : List ℕ) → AreUsesOf (kind_uses kind containers) (kind_accesses kind containers nodes)
  uses-kind (task code ins outs) containers nodes =
      uses-append (map (use_of Read) ins) (map (output_use containers) outs) (map (access_of (own_node nodes) Read) ins) (map (output_access containers (own_node nodes)) outs)
      (uses-links (own_node nodes) (λ link. Read) ins) (uses-links (own_node nodes) (output_mode containers) outs)
  uses-kind (map_scope sequential parameters private body) containers nodes =
      uses-replaced parameters (outside private (item_uses body containers)) (outside_accesses private (item_accesses body containers (nodes_behind nodes)))
      (uses-outside private (item_uses body containers) (item_accesses body containers (nodes_behind nodes)) (uses-items body containers (nodes_behind nodes)))
  uses-kind (consume_scope stream element private body) containers nodes =
      uses-append (of_access (take_access (own_node nodes) stream) ∷ []) (outside (element ∷ private) (item_uses body containers)) (take_access (own_node nodes) stream ∷ []) (outside_accesses (element ∷ private) (item_accesses body containers (nodes_behind nodes)))
      (uses-one (take_access (own_node nodes) stream)) (uses-outside (element ∷ private) (item_uses body containers) (item_accesses body containers (nodes_behind nodes)) (uses-items body containers (nodes_behind nodes)))
  uses-kind (nested_graph inner links) containers nodes = uses-nested (own_node nodes) (graph_uses inner) 0 links
  uses-kind (reduction resolution axis identity from to) containers nodes =
      uses-append (use_of Read from ∷ []) (use_of (reduction_mode resolution identity) to ∷ []) (access_of (own_node nodes) Read from ∷ []) (access_of (own_node nodes) (reduction_mode resolution identity) to ∷ [])
      (uses-one (access_of (own_node nodes) Read from)) (uses-one (access_of (own_node nodes) (reduction_mode resolution identity) to))
  uses-kind (copy from to) containers nodes =
      uses-append (use_of Read from ∷ []) (use_of Write to ∷ []) (access_of (own_node nodes) Read from ∷ []) (access_of (own_node nodes) Write to ∷ [])
      (uses-one (access_of (own_node nodes) Read from)) (uses-one (access_of (own_node nodes) Write to))

  pub uses-items : (items : ItemTrees) (containers : Containers) (nodes : List ℕ) → AreUsesOf (item_uses items containers) (item_accesses items containers nodes)
  uses-items no_item containers nodes = uses-none
  uses-items (and_item line kind items) containers nodes =
      uses-append (kind_uses kind containers) (item_uses items containers) (kind_accesses kind containers nodes) (item_accesses items containers (past kind nodes)) (uses-kind kind containers nodes) (uses-items items containers (past kind nodes))

-- boxes in normal form
abbrev pub AreNormal : List Access → Type 0
AreNormal accesses = AllByRecursion (λ (access : Access). IsNormalBox access.box) accesses

normal-append : (accesses more : List Access) → AreNormal accesses → AreNormal more → AreNormal (accesses ++ more)
normal-append [] more first second = second
normal-append (access ∷ accesses) more first second = (first.0, normal-append accesses more first.1 second)

normal-links : (node : ℕ) (mode : Link → Mode) (links : List Link) → AllByRecursion IsNormalLink links → AreNormal (map (λ link. access_of node (mode link) link) links)
normal-links node mode [] each = tt
normal-links node mode (link ∷ links) each = (normal-box_of link.memlet.subset.dims each.0, normal-links node mode links each.1)

pub normal-outside : (own : List ℕ) (accesses : List Access) → AreNormal accesses → AreNormal (outside_accesses own accesses)
normal-outside own [] each = tt
normal-outside own (access ∷ accesses) each = elim (cases_Bool (not (has_number own access.container))) [
  | inl stays ↦ rw stays (each.0, normal-outside own accesses each.1)
  | inr goes ↦ rw goes (normal-outside own accesses each.1)
]

normal-each_replaced : (own : List Parameter) (accesses : List Access) → AreNormal accesses → AreNormal (map (access_replaced own) accesses)
normal-each_replaced own [] each = tt
normal-each_replaced own (access ∷ accesses) each = (normal-replaced own access.box each.0, normal-each_replaced own accesses each.1)

normal-joined : (node : ℕ) (link : Link) (mode : Option Mode) → IsNormalLink link → AreNormal (link_accesses node link mode)
normal-joined node link None normal = tt
normal-joined node link (Some mode) normal = (normal-box_of link.memlet.subset.dims normal, tt)

normal-nested : (node : ℕ) (inner : List Use) (number : ℕ) (links : List Link) → AllByRecursion IsNormalLink links → AreNormal (nested_accesses node inner number links)
normal-nested node inner number [] each = tt
normal-nested node inner number (link ∷ links) each =
    let mode = joined_mode (modes_on number inner) in
    normal-append (link_accesses node link mode) (nested_accesses node inner (suc number) links) (normal-joined node link mode each.0) (normal-nested node inner (suc number) links each.1)

mutual
  pub normal-kind : (kind : KindTree) (containers : Containers) (nodes : List ℕ) (around : List Parameter) → IsFit kind around → AreNormal (kind_accesses kind containers nodes)
  normal-kind (task code ins outs) containers nodes around fit =
      normal-append (map (access_of (own_node nodes) Read) ins) (map (output_access containers (own_node nodes)) outs) (normal-links (own_node nodes) (λ link. Read) ins fit.0) (normal-links (own_node nodes) (output_mode containers) outs fit.1)
  normal-kind (map_scope sequential parameters private body) containers nodes around fit =
      normal-each_replaced parameters (outside_accesses private (item_accesses body containers (nodes_behind nodes))) (normal-outside private (item_accesses body containers (nodes_behind nodes)) (normal-items body containers (nodes_behind nodes) (around ++ parameters) fit.1))
  normal-kind (consume_scope stream element private body) containers nodes around fit =
      (tt, normal-outside (element ∷ private) (item_accesses body containers (nodes_behind nodes)) (normal-items body containers (nodes_behind nodes) around fit))
  normal-kind (nested_graph inner links) containers nodes around fit = normal-nested (own_node nodes) (graph_uses inner) 0 links fit.0
  normal-kind (reduction resolution axis identity from to) containers nodes around fit = (normal-box_of from.memlet.subset.dims fit.0, (normal-box_of to.memlet.subset.dims fit.1, tt))
  normal-kind (copy from to) containers nodes around fit = (normal-box_of from.memlet.subset.dims fit.0, (normal-box_of to.memlet.subset.dims fit.1, tt))

  pub normal-items : (items : ItemTrees) (containers : Containers) (nodes : List ℕ) (around : List Parameter) → AreFit items around → AreNormal (item_accesses items containers nodes)
  normal-items no_item containers nodes around fit = tt
  normal-items (and_item line kind items) containers nodes around fit =
      normal-append (kind_accesses kind containers nodes) (item_accesses items containers (past kind nodes)) (normal-kind kind containers nodes around fit.0) (normal-items items containers (past kind nodes) around fit.1)
