-- The expressions of a graph are in normal form: the variables of their terms rise, and no coefficient is zero.
use Rattle.std.specs.Prelude.{ℕ, List, ⊤, Option, Some, None}
use Rattle.std.specs.List.{AllByRecursion}
use Rattle.sd_range.specs.Terms.{IsNormal}
use Rattle.sd_range.specs.declared.affine.Affine.{Affine}
use Rattle.sd_range.specs.declared.range.Range.{Range}
use Rattle.sd_range.specs.declared.subset.Dim.{Dim}
use Rattle.sd_range.specs.declared.subset.Dim.TheVariants.{Index, Span}
use Rattle.sd_graph.specs.declared.link.Link.{Link}
use Rattle.sd_graph.specs.declared.container.Container.{Container}
use Rattle.sd_graph.specs.PlainTree.{GuardTree, ExitTree, KindTree, task, map_scope, consume_scope, nested_graph, reduction, copy, ItemTrees, no_item, and_item, StateTrees, no_state, and_state, GraphTree, graph}

abbrev pub IsAffineNormal : Affine → Type 0
IsAffineNormal a = IsNormal a.terms

abbrev pub AreAffinesNormal : List Affine → Type 0
AreAffinesNormal all = AllByRecursion IsAffineNormal all

-- the begin and the ends of a range
abbrev pub IsRangeNormal : Range → Type 0
IsRangeNormal r = IsAffineNormal r.begin × AreAffinesNormal r.ends

abbrev pub IsDimNormal : Dim → Type 0
IsDimNormal (Index at) = IsAffineNormal at
IsDimNormal (Span r) = IsRangeNormal r

-- the subset of a link
abbrev pub IsLinkNormal : Link → Type 0
IsLinkNormal link = AllByRecursion IsDimNormal link.memlet.subset.dims

abbrev pub AreLinksNormal : List Link → Type 0
AreLinksNormal links = AllByRecursion IsLinkNormal links

-- the ranges of a map's parameters
abbrev pub AreParamsNormal : List (ℕ × Range) → Type 0
AreParamsNormal params = AllByRecursion (λ param. IsRangeNormal param.1) params

-- what a condition reads
abbrev pub IsConditionNormal : Option GuardTree → Type 0
IsConditionNormal None = ⊤
IsConditionNormal (Some guard) = AreLinksNormal guard.reads

-- a transition, with what it gives to variables
abbrev pub IsExitNormal : ExitTree → Type 0
IsExitNormal exit = IsConditionNormal exit.when × AllByRecursion (λ (assignment : ℕ × Affine). IsAffineNormal assignment.1) exit.set

-- the extents of containers
abbrev pub AreContainersNormal : List (List ℕ × Container) → Type 0
AreContainersNormal containers = AllByRecursion (λ (entry : List ℕ × Container). AreAffinesNormal entry.1.extents) containers

abbrev mutual
  pub IsKindNormal : KindTree → Type 0
  IsKindNormal (task code ins outs) = AreLinksNormal ins × AreLinksNormal outs
  IsKindNormal (map_scope sequential params private body) = AreParamsNormal params × AreItemsNormal body
  IsKindNormal (consume_scope stream element private body) = AreItemsNormal body
  IsKindNormal (nested_graph inner links) = AreLinksNormal links × IsGraphNormal inner
  IsKindNormal (reduction resolution axis identity from to) = IsLinkNormal from × IsLinkNormal to
  IsKindNormal (copy from to) = IsLinkNormal from × IsLinkNormal to

  pub AreItemsNormal : ItemTrees → Type 0
  AreItemsNormal no_item = ⊤
  AreItemsNormal (and_item line kind items) = IsKindNormal kind × AreItemsNormal items

  pub AreStatesNormal : StateTrees → Type 0
  AreStatesNormal no_state = ⊤
  AreStatesNormal (and_state items exits states) = (AreItemsNormal items × AllByRecursion IsExitNormal exits) × AreStatesNormal states

  -- all expressions of a graph and of those nested in it
  pub IsGraphNormal : GraphTree → Type 0
  IsGraphNormal (graph name containers arguments variables symbols states) = AreContainersNormal containers × AreStatesNormal states
