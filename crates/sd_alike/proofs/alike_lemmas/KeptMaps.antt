-- Collapsed, expanded and tiled maps name the variables of their graph alone.
use Rattle.std.proofs.Common.{ℕ, ◌+◌, ◌-◌, ◌<◌, pos, ◌*ℤ◌, List, [], ◌∷◌, ◌++◌, ◌||◌, sym, subst, arith}
use Rattle.std.specs.List.{AllByRecursion}
use Rattle.sd_graph.specs.PlainTree.{KindTree, map_scope, no_item, and_item, GraphTree}
use Rattle.sd_alike.specs.alike.Alike.{AffineBelow, RangeBelow, KindBelow, ItemsBelow, NamesItsVariables}
use Rattle.sd_alike.specs.alike.Places.{graph_with, GraphLeads}
use Rattle.sd_alike.specs.alike.Maps.{IsCollapsible, collapsed, IsExpandable, expanded}
use Rattle.sd_alike.specs.alike.Tiles.{variable_plus, range_in_tile, IsTileable, tiled}
use Rattle.sd_alike.specs.alike.Rewritten.{ReplacesBelow}
use Rattle.sd_alike.proofs.alike_lemmas.KeptVariables.{kind_more, graph_kept}

both_all : {A : Type 0} (P : A → Type 0) (xs ys : List A) → AllByRecursion P xs → AllByRecursion P ys → AllByRecursion P (xs ++ ys)
both_all P [] ys all also_all = also_all
both_all P (x ∷ xs) ys all also_all = (all.0, both_all P xs ys all.1 also_all)

collapse_below : ReplacesBelow IsCollapsible collapsed 0
collapse_below variables line kind holds below =
    let outer : KindTree = map_scope holds.outer_sequential holds.outer [] (and_item holds.inner_line (map_scope holds.inner_sequential holds.inner holds.private holds.body) no_item) in
    let one : KindTree = map_scope (holds.outer_sequential || holds.inner_sequential) (holds.outer ++ holds.inner) holds.private holds.body in
    let below_outer : KindBelow variables outer = subst (KindBelow variables) holds.shape below in
    let below_one : KindBelow variables one = (both_all (λ param. RangeBelow variables param.1) holds.outer holds.inner below_outer.0 below_outer.1.0.0, below_outer.1.0.1) in
    subst (λ kind. ItemsBelow (variables + 0) (collapsed variables line kind)) (sym holds.shape) (kind_more variables (variables + 0) (omega arith) one below_one, tt)

expand_below : ReplacesBelow IsExpandable expanded 0
expand_below variables line kind holds below =
    let one : KindTree = map_scope holds.sequential (holds.first ∷ holds.second ∷ holds.others) holds.private holds.body in
    let outer : KindTree = map_scope holds.sequential (holds.first ∷ []) [] (and_item line (map_scope holds.sequential (holds.second ∷ holds.others) holds.private holds.body) no_item) in
    let below_one : KindBelow variables one = subst (KindBelow variables) holds.shape below in
    let below_outer : KindBelow variables outer = ((below_one.0.0, tt), ((below_one.0.1, below_one.1), tt)) in
    subst (λ kind. ItemsBelow (variables + 0) (expanded variables line kind)) (sym holds.shape) (kind_more variables (variables + 0) (omega arith) outer below_outer, tt)

tile_below : (size : ℕ) → ReplacesBelow (IsTileable size) (tiled size) 1
tile_below size variables line kind holds below =
    let one : KindTree = map_scope holds.sequential ((holds.parameter, holds.range) ∷ []) holds.private holds.body in
    let below_one : KindBelow variables one = subst (KindBelow variables) holds.shape below in
    let more : KindBelow (variables + 1) one = kind_more variables (variables + 1) (omega arith) one below_one in
    let named : variables < variables + 1 = omega arith in
    let inner : RangeBelow (variables + 1) (range_in_tile size variables holds.range) =
    ((named, tt), both_all (AffineBelow (variables + 1)) holds.range.ends (variable_plus variables (holds.range.step *ℤ pos (size - 1)) ∷ []) more.0.0.1 ((named, tt), tt)) in
    subst (λ kind. ItemsBelow (variables + 1) (tiled size variables line kind)) (sym holds.shape)
    (((more.0.0, tt), (((inner, tt), more.1), tt)), tt)

pub collapsed_kept : (tree : GraphTree) (path : List ℕ) → GraphLeads IsCollapsible tree path → NamesItsVariables tree → NamesItsVariables (graph_with collapsed [] tree path)
collapsed_kept = graph_kept IsCollapsible collapsed [] collapse_below

pub expanded_kept : (tree : GraphTree) (path : List ℕ) → GraphLeads IsExpandable tree path → NamesItsVariables tree → NamesItsVariables (graph_with expanded [] tree path)
expanded_kept = graph_kept IsExpandable expanded [] expand_below

pub tiled_kept : (size : ℕ) (name : List ℕ) (tree : GraphTree) (path : List ℕ) → GraphLeads (IsTileable size) tree path → NamesItsVariables tree → NamesItsVariables (graph_with (tiled size) (name ∷ []) tree path)
tiled_kept size name = graph_kept (IsTileable size) (tiled size) (name ∷ []) (tile_below size)
