-- The accesses of a piece, by the outline of its item.
use Rattle.std.proofs.Common.{◌≡◌, ℕ, ℤ, List, [], ◌∷◌, map, true, false, refl, ◌∙◌, ap}
use Rattle.sd_subset.specs.boxes.Box.{Box, bounds_replaced}
use Rattle.sd_graph.specs.ContainerParts.{Containers}
use Rattle.sd_graph.specs.PlainTree.{KindTree, task, map_scope, consume_scope, nested_graph, reduction, copy}
use Rattle.sd_windows.specs.MapPieces.{params_piece, kind_piece}
use Rattle.sd_prop.specs.propagation.Accesses.{Access, access_replaced, kind_accesses}
use Rattle.sd_part.specs.declared.outline.Outline.{Outline}
use Rattle.sd_part.specs.Outline.{cut_params, open_accesses, IsOutline, piece_accesses}

box-same : (box : Box) → map (bounds_replaced []) box ≡ box
box-same [] = refl
box-same (bounds ∷ box) = ap (λ b. bounds ∷ b) (box-same box)

-- without parameters nothing is replaced
none-replaced : (accesses : List Access) → map (access_replaced []) accesses ≡ accesses
none-replaced [] = refl
none-replaced (access ∷ accesses) = λ i. (record access { box = box-same access.box i }) ∷ none-replaced accesses i

by-kind : (kind : KindTree) (containers : Containers) (nodes : List ℕ) (values : List ℤ) (first count : ℕ) →
    map (access_replaced (params_piece values first count (cut_params kind))) (open_accesses kind containers nodes) ≡ kind_accesses (kind_piece values first count kind) containers nodes
by-kind (task code ins outs) containers nodes values first count = none-replaced (kind_accesses (task code ins outs) containers nodes)
by-kind (map_scope true params private body) containers nodes values first count = none-replaced (kind_accesses (map_scope true params private body) containers nodes)
by-kind (map_scope false params private body) containers nodes values first count = refl
by-kind (consume_scope stream element private body) containers nodes values first count = none-replaced (kind_accesses (consume_scope stream element private body) containers nodes)
by-kind (nested_graph inner links) containers nodes values first count = none-replaced (kind_accesses (nested_graph inner links) containers nodes)
by-kind (reduction resolution axis identity from to) containers nodes values first count = none-replaced (kind_accesses (reduction resolution axis identity from to) containers nodes)
by-kind (copy from to) containers nodes values first count = none-replaced (kind_accesses (copy from to) containers nodes)

pub outline-piece : (containers : Containers) (kind : KindTree) (outline : Outline) (values : List ℤ) (first count : ℕ) → IsOutline containers kind outline →
    (nodes : List ℕ) × (piece_accesses values first count outline ≡ kind_accesses (kind_piece values first count kind) containers nodes)
outline-piece containers kind outline values first count is =
    (is.nodes, (λ i. map (access_replaced (params_piece values first count (is.params i))) (is.accesses i)) ∙ by-kind kind containers is.nodes values first count)
