-- The order edges of an item of a list.
use Rattle.std.specs.Prelude.{ℕ, ◌-◌, List, length, Option}
use Rattle.sd_graph.specs.PlainTree.{KindTree}
use Rattle.sd_graph.specs.ContainerParts.{Containers}
use Rattle.sd_wire.specs.declared.wiring.drawing.Drawing.{Drawing}
use Rattle.sd_wire.specs.wiring.Drawing.{with_reads, with_nodes_of, with_writes}

-- an item's first node
abbrev pub first_node : KindTree → Containers → (scope : Option ℕ) → (own : List ℕ) → (line : ℕ) → Drawing → ℕ
first_node kind containers scope own line drawing = length (with_reads kind containers scope own line drawing).nodes

-- what is drawn of an item before its order edges
abbrev pub without_order : KindTree → Containers → (scope : Option ℕ) → (own : List ℕ) → (line : ℕ) → Drawing → Drawing
without_order kind containers scope own line drawing =
    let inside : Drawing = with_nodes_of kind containers scope line (with_reads kind containers scope own line drawing) in
    with_writes kind containers scope own line (length inside.nodes - 1) inside
