-- The memory that a run of a graph opens with has elements of its containers' widths.
use Rattle.std.proofs.Common.{◌≡◌, ℕ, zero, suc, ℤ, pos, List, [], ◌∷◌, map, replicate, Some, Bool, true, false, if◌then◌else◌, slice_get, slice_index_or, subst, arith}
use Rattle.std.specs.Prelude.{option_and_then}
use Rattle.sd_range.specs.Points.{product}
use Rattle.sd_num.specs.Width.{wrapped_to, IsElement}
use Rattle.sd_num.specs.declared.width.Width.{Width}
use Rattle.sd_num.specs.declared.width.Width.TheVariants.{W32, W64}
use Rattle.sd_num.proofs.StoredLemmas.{IsElement-wrapped_to}
use Rattle.sd_work.specs.Memory.{Contents, array, stream, absent, width_of, elements_of}
use Rattle.sd_pieces.specs.cut.Merged.{AreElementsOfWidth}
use Rattle.sd_graph.specs.PlainTree.{GraphTree}
use Rattle.sd_graph.specs.TreeParts.{containers_of}
use Rattle.sd_graph.specs.ContainerParts.{Containers, extents_of, is_argument, is_of_run, is_stream, opening_contents}
use Rattle.sd_graph.specs.Unfold.{opening_from, opening_memory}
use Rattle.sd_graph.specs.declared.container.Container.{Container}

-- each element of contents is one of their width
abbrev OfWidth : Contents → Type 0
OfWidth contents = (element : ℕ) (value : ℤ) → slice_get (elements_of contents) element ≡ Some value → IsElement (width_of contents) value

same_value : (first second : ℤ) → Some first ≡ Some second → first ≡ second
same_value first second e = cc

wrapped_ones : (width : Width) (given : List ℤ) (element : ℕ) (value : ℤ) → slice_get (map (wrapped_to width) given) element ≡ Some value → IsElement width value
wrapped_ones width [] element value e = cc
wrapped_ones width (one ∷ given) zero value e = subst (IsElement width) (same_value (wrapped_to width one) value e) (IsElement-wrapped_to width one)
wrapped_ones width (one ∷ given) (suc element) value e = wrapped_ones width given element value e

zero_one : (width : Width) → IsElement width (pos 0)
zero_one W32 = record { sfits = omega arith }
zero_one W64 = record { sfits = omega arith }

zeros : (width : Width) (count element : ℕ) (value : ℤ) → slice_get (replicate count (pos 0)) element ≡ Some value → IsElement width value
zeros width zero element value e = cc
zeros width (suc count) zero value e = subst (IsElement width) (same_value (pos 0) value e) (zero_one width)
zeros width (suc count) (suc element) value e = zeros width count element value e

nothing : (width : Width) → OfWidth (stream width [])
nothing width element value e = cc

begun : (streams : Bool) (width : Width) (count : ℕ) → OfWidth (if streams then stream width [] else array width (replicate count (pos 0)))
begun true width count = nothing width
begun false width count = zeros width count

opened : (argument own : Bool) (container : Container) (given : List ℤ) →
    OfWidth (if argument then array container.width (map (wrapped_to container.width) given) else if own then opening_contents container else absent)
opened true own container given = wrapped_ones container.width given
opened false true container given = begun (is_stream container.kind) container.width (product (extents_of container))
opened false false container given = λ element value e. cc

opened_from : (given : List (List ℤ)) (number : ℕ) (containers : Containers) (container element : ℕ) (value : ℤ) →
    option_and_then (λ contents. slice_get (elements_of contents) element) (slice_get (opening_from given number containers) container) ≡ Some value →
    IsElement (width_of (slice_index_or (opening_from given number containers) container (stream W64 []))) value
opened_from given number [] container element value e = cc
opened_from given number (entry ∷ entries) zero element value e =
    opened (is_argument entry.1.kind) (is_of_run entry.1.kind) entry.1 (slice_index_or given number []) element value e
opened_from given number (entry ∷ entries) (suc container) element value e = opened_from given (suc number) entries container element value e

pub opens : (tree : GraphTree) (given : List (List ℤ)) → AreElementsOfWidth (opening_memory tree given ∷ [])
opens tree given = λ container element value e. opened_from given 0 (containers_of tree) container element value e
