-- Items with variables renamed use the same containers, and are before the same items.
use Rattle.std.proofs.Common.{◌≡◌, suc, ℕ, List, [], ◌∷◌, ◌++◌, map, Option, Some, None, refl, ap}
use Rattle.sd_graph.specs.declared.link.Link.{Link}
use Rattle.sd_graph.specs.PlainTree.{KindTree, task, map_scope, consume_scope, nested_graph, reduction, copy, ItemTrees, no_item, and_item}
use Rattle.sd_graph.specs.ContainerParts.{Containers}
use Rattle.sd_graph.specs.Mode.{Mode, Read, Take, joined_mode}
use Rattle.sd_graph.specs.Wiring.{Use, use_of, output_use, outside, modes_on, link_uses, nested_uses, graph_uses, kind_uses, item_uses, uses_of_each, is_before, before}
use Rattle.sd_fuse.specs.renamed.Renamed.{Names, link_renamed, kind_renamed, items_renamed}

reads-renamed : (names : Names) (links : List Link) → map (use_of Read) (map (link_renamed names) links) ≡ map (use_of Read) links
reads-renamed names [] = refl
reads-renamed names (link ∷ links) = ap (λ rest. use_of Read link ∷ rest) (reads-renamed names links)

outputs-renamed : (names : Names) (containers : Containers) (links : List Link) → map (output_use containers) (map (link_renamed names) links) ≡ map (output_use containers) links
outputs-renamed names containers [] = refl
outputs-renamed names containers (link ∷ links) = ap (λ rest. output_use containers link ∷ rest) (outputs-renamed names containers links)

nested-renamed : (names : Names) (inner : List Use) (number : ℕ) (links : List Link) → nested_uses inner number (map (link_renamed names) links) ≡ nested_uses inner number links
nested-renamed names inner number [] = refl
nested-renamed names inner number (link ∷ links) = λ i. go (joined_mode (modes_on number inner)) i ++ nested-renamed names inner (suc number) links i
  where
    go : (mode : Option Mode) → link_uses (link_renamed names link) mode ≡ link_uses link mode
    go None = refl
    go (Some mode) = refl

mutual
  pub kind-uses-renamed : (names : Names) (kind : KindTree) (containers : Containers) → kind_uses (kind_renamed names kind) containers ≡ kind_uses kind containers
  kind-uses-renamed names (task code ins outs) containers = λ i. reads-renamed names ins i ++ outputs-renamed names containers outs i
  kind-uses-renamed names (map_scope sequential params private body) containers = ap (outside private) (uses-renamed names body containers)
  kind-uses-renamed names (consume_scope source element private body) containers = ap (λ uses. record { container = source; mode = Take } ∷ outside (element ∷ private) uses) (uses-renamed names body containers)
  kind-uses-renamed names (nested_graph inner links) containers = nested-renamed names (graph_uses inner) 0 links
  kind-uses-renamed names (reduction resolution axis identity from to) containers = refl
  kind-uses-renamed names (copy from to) containers = refl

  pub uses-renamed : (names : Names) (items : ItemTrees) (containers : Containers) → item_uses (items_renamed names items) containers ≡ item_uses items containers
  uses-renamed names no_item containers = refl
  uses-renamed names (and_item line kind items) containers = λ i. kind-uses-renamed names kind containers i ++ uses-renamed names items containers i

each-renamed : (names : Names) (items : ItemTrees) (containers : Containers) → uses_of_each (items_renamed names items) containers ≡ uses_of_each items containers
each-renamed names no_item containers = refl
each-renamed names (and_item line kind items) containers = λ i. kind-uses-renamed names kind containers i ∷ each-renamed names items containers i

pub before-renamed : (names : Names) (items : ItemTrees) (containers : Containers) → before containers (items_renamed names items) ≡ before containers items
before-renamed names items containers = λ i from to. is_before (each-renamed names items containers i) from to
