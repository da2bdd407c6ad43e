-- The expressions of items with variables renamed are in normal form.
use Rattle.std.specs.List.{AllByRecursion}
use Rattle.std.proofs.Common.{ℕ, List, [], ◌∷◌, map}
use Rattle.sd_range.specs.declared.range.Range.{Range}
use Rattle.sd_range.specs.declared.subset.Dim.{Dim}
use Rattle.sd_range.specs.declared.subset.Dim.TheVariants.{Index, Span}
use Rattle.sd_graph.specs.declared.link.Link.{Link}
use Rattle.sd_graph.specs.PlainTree.{KindTree, task, map_scope, consume_scope, nested_graph, reduction, copy, ItemTrees, no_item, and_item}
use Rattle.sd_safe.specs.normal.NormalForm.{IsDimNormal, IsLinkNormal, AreLinksNormal, AreParamsNormal, IsKindNormal, AreItemsNormal}
use Rattle.sd_fuse.specs.renamed.Renamed.{Names, dim_renamed, link_renamed, ranges_renamed, kind_renamed, items_renamed}
use Rattle.sd_fuse.proofs.maps_lemmas.RenamedFit.{terms-normal, ends-normal}

dims-normal : (names : Names) (dims : List Dim) → AllByRecursion IsDimNormal (map (dim_renamed names) dims)
dims-normal names [] = tt
dims-normal names (Index at ∷ dims) = (terms-normal names at.terms, dims-normal names dims)
dims-normal names (Span r ∷ dims) = ((terms-normal names r.begin.terms, ends-normal names r.ends), dims-normal names dims)

link-normal : (names : Names) (link : Link) → IsLinkNormal (link_renamed names link)
link-normal names link = dims-normal names link.memlet.subset.dims

links-normal : (names : Names) (links : List Link) → AreLinksNormal (map (link_renamed names) links)
links-normal names [] = tt
links-normal names (link ∷ links) = (link-normal names link, links-normal names links)

params-normal : (names : Names) (params : List (ℕ × Range)) → AreParamsNormal (ranges_renamed names params)
params-normal names [] = tt
params-normal names (param ∷ params) = ((terms-normal names param.1.begin.terms, ends-normal names param.1.ends), params-normal names params)

mutual
  kind-normal : (names : Names) (kind : KindTree) → IsKindNormal kind → IsKindNormal (kind_renamed names kind)
  kind-normal names (task code ins outs) normal = (links-normal names ins, links-normal names outs)
  kind-normal names (map_scope sequential params private body) normal = (params-normal names params, items-normal names body normal.1)
  kind-normal names (consume_scope stream element private body) normal = items-normal names body normal
  kind-normal names (nested_graph inner links) normal = (links-normal names links, normal.1)
  kind-normal names (reduction resolution axis identity from to) normal = (link-normal names from, link-normal names to)
  kind-normal names (copy from to) normal = (link-normal names from, link-normal names to)

  pub items-normal : (names : Names) (items : ItemTrees) → AreItemsNormal items → AreItemsNormal (items_renamed names items)
  items-normal names no_item normal = tt
  items-normal names (and_item line kind items) normal = (kind-normal names kind normal.0, items-normal names items normal.1)
