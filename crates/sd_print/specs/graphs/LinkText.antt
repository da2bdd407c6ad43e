-- The texts of memlets and edges.
use Rattle.std.specs.Prelude.{ℕ, ℤ, pos, List, [], ◌++◌, codes, Option, Some, None, if◌then◌else◌}
use Rattle.std.specs.Ordering.{int_eq}
use Rattle.std.specs.Fmt.{decimal, signed_decimal}
use Rattle.sd_num.specs.declared.resolution.Resolution.{Resolution}
use Rattle.sd_num.specs.declared.resolution.Resolution.TheVariants.{Sum, Product, Min, Max, And, Or, Xor, Last}
use Rattle.sd_graph.specs.ContainerParts.{Containers, container_at, is_stream, name_at}
use Rattle.sd_graph.specs.declared.link.Link.{Link}
use Rattle.sd_graph.specs.declared.wired.Edge.{Edge}
use Rattle.sd_print.specs.graphs.SubsetText.{dims_text}

abbrev pub resolution_word : Resolution → List ℕ
resolution_word Sum = codes "sum"
resolution_word Product = codes "product"
resolution_word Min = codes "min"
resolution_word Max = codes "max"
resolution_word And = codes "and"
resolution_word Or = codes "or"
resolution_word Xor = codes "xor"
resolution_word Last = codes "last"

-- the volume and the resolution, where the volume is not 1 or a resolution stands
abbrev pub volume_text : ℤ → Option Resolution → List ℕ
volume_text volume None = if int_eq volume (pos 1) then [] else codes "(" ++ (signed_decimal volume ++ codes ")")
volume_text volume (Some resolution) = codes "(" ++ (signed_decimal volume ++ (codes ", " ++ (resolution_word resolution ++ codes ")")))

-- what passes along an edge without a link: a container at a scope, nothing where it only orders
abbrev pub bare_text : Containers → Option ℕ → List ℕ
bare_text containers None = []
bare_text containers (Some container) = codes " " ++ name_at containers container

module _ (names : List (List ℕ)) (containers : Containers) (order : List ℕ) where
  -- a subset in brackets; a stream has none
  abbrev pub subset_text : Link → List ℕ
  subset_text link =
      if is_stream (container_at containers link.memlet.container).kind
      then []
      else codes "[" ++ (dims_text names order link.memlet.subset.dims ++ codes "]")

  -- a memlet, and its connector
  abbrev pub link_text : Link → List ℕ
  link_text link =
      name_at containers link.memlet.container ++ (volume_text link.memlet.volume link.memlet.resolution ++ (subset_text link ++ (codes " " ++ link.connector)))

  -- what passes along an edge
  abbrev pub carried_text : Option Link → Option ℕ → List ℕ
  carried_text None container = bare_text containers container
  carried_text (Some link) container = codes " " ++ link_text link

  abbrev pub edge_text : Edge → List ℕ
  edge_text edge = codes "edge " ++ (decimal edge.from ++ (codes " " ++ (decimal edge.to ++ (carried_text edge.link edge.container ++ codes "\n"))))
