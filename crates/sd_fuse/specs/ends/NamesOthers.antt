-- Work that names none of some variables.
use Rattle.std.specs.Prelude.{List, ⊤}
use Rattle.std.specs.List.{AllByRecursion}
use Rattle.sd_range.specs.declared.subset.Dim.{Dim}
use Rattle.sd_range.specs.declared.subset.Dim.TheVariants.{Index, Span}
use Rattle.sd_subset.specs.boxes.Box.{Parameter}
use Rattle.sd_subset.specs.boxes.InForce.{IsOther, NamesOthers, RangeNamesOthers}
use Rattle.sd_graph.specs.declared.link.Link.{Link}
use Rattle.sd_graph.specs.PlainTree.{TaskletTree, KindTree, task, map_scope, consume_scope, nested_graph, reduction, copy, ItemTrees, no_item, and_item}

abbrev pub DimNamesOthers : List Parameter → Dim → Type 0
DimNamesOthers own (Index at) = NamesOthers own at
DimNamesOthers own (Span r) = RangeNamesOthers own r

abbrev pub LinkNamesOthers : List Parameter → Link → Type 0
LinkNamesOthers own link = AllByRecursion (DimNamesOthers own) link.memlet.subset.dims

abbrev pub CodeNamesOthers : List Parameter → TaskletTree → Type 0
CodeNamesOthers own code = AllByRecursion (IsOther own) code.variables

abbrev mutual
  -- an item names none of these parameters; a nested graph has variables of its own
  pub KindNamesOthers : List Parameter → KindTree → Type 0
  KindNamesOthers own (task code ins outs) = CodeNamesOthers own code × AllByRecursion (LinkNamesOthers own) ins × AllByRecursion (LinkNamesOthers own) outs
  KindNamesOthers own (map_scope sequential params private body) = AllByRecursion (λ (parameter : Parameter). RangeNamesOthers own parameter.1) params × ItemsNameOthers own body
  KindNamesOthers own (consume_scope stream element private body) = ItemsNameOthers own body
  KindNamesOthers own (nested_graph inner links) = AllByRecursion (LinkNamesOthers own) links
  KindNamesOthers own (reduction resolution axis identity from to) = LinkNamesOthers own from × LinkNamesOthers own to
  KindNamesOthers own (copy from to) = LinkNamesOthers own from × LinkNamesOthers own to

  pub ItemsNameOthers : List Parameter → ItemTrees → Type 0
  ItemsNameOthers own no_item = ⊤
  ItemsNameOthers own (and_item line kind items) = KindNamesOthers own kind × ItemsNameOthers own items
