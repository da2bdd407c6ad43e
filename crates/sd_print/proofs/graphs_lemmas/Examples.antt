-- Nodes of maps and lines of containers, with their texts.
use Rattle.std.proofs.Common.{◌≡◌, ℕ, pos, List, [], ◌∷◌, None, Bool, true, false, refl, codes}
use Rattle.std.specs.Fmt.{digits}
use Rattle.sd_num.specs.declared.width.Width.{Width}
use Rattle.sd_num.specs.declared.width.Width.TheVariants.{W32, W64}
use Rattle.sd_range.specs.declared.affine.Affine.{Affine}
use Rattle.sd_graph.specs.PlainTree.{map_scope, no_item, and_item}
use Rattle.sd_graph.specs.declared.container.ContainerKind.{ContainerKind}
use Rattle.sd_graph.specs.declared.container.ContainerKind.TheVariants.{Argument, Transient, Private, Stream, PrivateStream}
use Rattle.sd_graph.specs.declared.wired.NodeKind.TheVariants.{MapEntry}
use Rattle.sd_print.specs.graphs.NodeText.{labels, node_text}
use Rattle.sd_print.specs.graphs.GraphText.{container_text}

abbrev number : (value : ℕ) → Affine
number value = record { constant = pos value; terms = [] }

-- node 1, the entry of a map of i from 0 to 3
abbrev map_node : (sequential : Bool) → List ℕ
map_node sequential =
    node_text [] 1 (record { scope = None; kind = MapEntry; line = 6 })
    (labels (codes "i" ∷ []) [] (0 ∷ []) (and_item 6 (map_scope sequential ((0, record { begin = number 0; ends = number 3 ∷ []; step = pos 1 }) ∷ []) [] no_item) no_item))

a_sequential_map : map_node true ≡ codes "node 1 map i=0:4 sequential\n"
unfolding digits
a_sequential_map = refl

a_map_in_any_order : map_node false ≡ codes "node 1 map i=0:4\n"
unfolding digits
a_map_in_any_order = refl

-- a container X of 3 times 4 elements, which has none where it is a stream
abbrev line_of : ContainerKind → Width → List ℕ
line_of kind width = container_text [] (codes "X", record { extents = number 3 ∷ number 4 ∷ []; kind = kind; width = width })

containers_of_32_bits :
    (line_of Argument W32 ≡ codes "array32 X[3,4]\n") × (line_of Transient W32 ≡ codes "transient32 X[3,4]\n") × (line_of Private W32 ≡ codes "private32 X[3,4]\n")
    × (line_of Stream W32 ≡ codes "stream32 X\n") × (line_of PrivateStream W32 ≡ codes "private stream32 X\n")
unfolding digits
containers_of_32_bits = (refl, refl, refl, refl, refl)

containers_of_64_bits :
    (line_of Argument W64 ≡ codes "array X[3,4]\n") × (line_of Transient W64 ≡ codes "transient X[3,4]\n") × (line_of Private W64 ≡ codes "private X[3,4]\n")
    × (line_of Stream W64 ≡ codes "stream X\n") × (line_of PrivateStream W64 ≡ codes "private stream X\n")
unfolding digits
containers_of_64_bits = (refl, refl, refl, refl, refl)
