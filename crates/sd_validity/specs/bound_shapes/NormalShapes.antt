-- Ranges, links and items whose expressions are in normal form.
use Rattle.std.specs.Prelude.{⊤}
use Rattle.std.specs.List.{AllByRecursion}
use Rattle.sd_range.specs.Terms.{IsNormal}
use Rattle.sd_range.specs.declared.affine.Affine.{Affine}
use Rattle.sd_range.specs.declared.range.Range.{Range}
use Rattle.sd_graph.specs.PlainTree.{KindTree, task, map_scope, consume_scope, nested_graph, reduction, copy}
use Rattle.sd_graph.specs.declared.link.Link.{Link}
use Rattle.sd_validity.specs.rules.Parts.{link_spans}

abbrev pub IsNormalAffine : Affine → Type 0
IsNormalAffine a = IsNormal a.terms

abbrev pub IsNormalRange : Range → Type 0
IsNormalRange range = IsNormalAffine range.begin × AllByRecursion IsNormalAffine range.ends

-- the ranges of a link
abbrev pub HasNormalRanges : Link → Type 0
HasNormalRanges link = AllByRecursion IsNormalRange (link_spans link)

-- the two sides of a copy or a reduction
abbrev pub HasNormalSides : KindTree → Type 0
HasNormalSides (task code ins outs) = ⊤
HasNormalSides (map_scope sequential params private body) = ⊤
HasNormalSides (consume_scope stream element private body) = ⊤
HasNormalSides (nested_graph inner links) = ⊤
HasNormalSides (reduction resolution axis identity from to) = HasNormalRanges from × HasNormalRanges to
HasNormalSides (copy from to) = HasNormalRanges from × HasNormalRanges to
