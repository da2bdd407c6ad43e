-- Accesses of small graphs, computed: their nodes, boxes and scopes.
use Rattle.std.proofs.Common.{◌≡◌, ℕ, ℤ, pos, neg_ℤ, List, [], ◌∷◌, map, Some, None, Bool, true, false, codes, refl}
use Rattle.sd_num.specs.declared.resolution.Resolution.{Resolution}
use Rattle.sd_num.specs.declared.resolution.Resolution.TheVariants.{Sum, Or}
use Rattle.sd_range.specs.declared.affine.Affine.{Affine}
use Rattle.sd_range.specs.declared.subset.Dim.TheVariants.{Index, Span}
use Rattle.sd_subset.specs.boxes.Box.{Box}
use Rattle.sd_graph.specs.PlainTree.{no_act, task, map_scope, consume_scope, no_item, and_item, no_state, and_state, GraphTree, graph, TaskletTree}
use Rattle.sd_graph.specs.Mode.{Mode, Read, Write, Resolve, Push}
use Rattle.sd_graph.specs.declared.container.ContainerKind.TheVariants.{Argument, Private, Stream}
use Rattle.sd_graph.proofs.examples.ExampleParts.{constant, affine, of_variable, from_to, link_of, code_of, container_of}
use Rattle.sd_prop.specs.propagation.Accesses.{Access}
use Rattle.sd_prop.specs.propagation.Scopes.{points, Scope, all_scopes, accesses_at}
use Rattle.sd_prop.specs.propagation.Joined.{annotated}

abbrev pub access_by : (node container : ℕ) → Mode → Box → Access
access_by node container mode box = record { node = node; container = container; mode = mode; box = box }

-- one number in each dimension
abbrev pub element_at : List Affine → Box
element_at [] = []
element_at (at ∷ others) = record { low = at; high = at } ∷ element_at others

abbrev pub from_below : (first last : ℤ) → Box
from_below first last = record { low = constant first; high = constant last } ∷ []

-- code of no account: boxes do not look at it
abbrev pub any_code : TaskletTree
any_code = code_of [] [] [] 0 no_act

-- the variable 0 and a number
abbrev pub shifted : ℤ → Affine
shifted number = affine number ((0, pos 1) ∷ [])

-- for i from 0 to 3: A[i] = A[i + by], in the state 1, one point after another where it is sequential
abbrev pub shift_of : (sequential : Bool) → (by : ℤ) → GraphTree
shift_of sequential by =
    graph (codes "sh") ((codes "A", container_of (constant (pos 8) ∷ []) Argument) ∷ []) 1 (codes "i" ∷ []) 0
    (and_state no_item [] (and_state (and_item 5 (map_scope sequential ((0, from_to (pos 0) (pos 3)) ∷ []) [] (and_item 6 (task any_code
    (link_of (codes "_in1") 0 (Index (shifted by) ∷ []) None ∷ []) (link_of (codes "_out") 0 (Index (shifted (pos 0)) ∷ []) None ∷ [])) no_item)) no_item) [] no_state))

abbrev pub shift : (by : ℤ) → GraphTree
shift by = shift_of false by

accesses_of_a_shift : accesses_at (shift (pos 1)) (1 ∷ 1 ∷ []) ≡ Some (
    access_by 2 0 Read (element_at (shifted (pos 1) ∷ [])) ∷ access_by 2 0 Write (element_at (shifted (pos 0) ∷ [])) ∷ [])
accesses_of_a_shift = refl

-- what is told of it: read A[4:8], write A[0:4]
a_shift_as_a_whole : annotated (shift (pos 4)) ≡ (1 ∷ 1 ∷ [], access_by 2 0 Read (from_below (pos 4) (pos 7)) ∷ access_by 2 0 Write (from_below (pos 0) (pos 3)) ∷ []) ∷ []
a_shift_as_a_whole = refl

-- the scope of a sequential map is marked, and has the same accesses
mark_of_a_sequential_shift : map (λ (scope : Scope). scope.over) (all_scopes (shift_of true (pos 1))) ≡ points true ((0, from_to (pos 0) (pos 3)) ∷ []) ∷ []
mark_of_a_sequential_shift = refl

accesses_of_a_sequential_shift : accesses_at (shift_of true (pos 1)) (1 ∷ 1 ∷ []) ≡ accesses_at (shift (pos 1)) (1 ∷ 1 ∷ [])
accesses_of_a_sequential_shift = refl

-- no scope has the path of a tasklet
a_tasklet_is_no_scope : accesses_at (shift (pos 1)) (1 ∷ 2 ∷ []) ≡ None
a_tasklet_is_no_scope = refl

-- Two maps in the body of a map: `for i in 2:5`, in it an empty tasklet for each of `j in 0:0`, and for each of `k in 0:0` a tasklet that reads A[i - 1, 0]
-- and writes B[i - 2, k], and one that resolves A[3, 0]. Its nodes are the accesses of A and B, the entries 2 (of i), 3 (of j), 6 (of k) and the tasklets 4, 7, 8.
abbrev pub scopes_in_a_scope : GraphTree
scopes_in_a_scope =
    graph (codes "main") ((codes "A", container_of (constant (pos 4) ∷ constant (pos 4) ∷ []) Argument) ∷ (codes "B", container_of (constant (pos 4) ∷ constant (pos 4) ∷ []) Argument) ∷ []) 2
    (codes "i" ∷ codes "j" ∷ codes "k" ∷ []) 0
    (and_state (and_item 11 (map_scope false ((0, from_to (pos 2) (pos 4)) ∷ []) [] (
    and_item 12 (map_scope false ((1, from_to (pos 0) (neg_ℤ (pos 1))) ∷ []) [] (and_item 13 (task any_code [] []) no_item)) (
    and_item 15 (map_scope false ((2, from_to (pos 0) (neg_ℤ (pos 1))) ∷ []) [] (
    and_item 16 (task any_code (link_of (codes "_in1") 0 (Index (shifted (neg_ℤ (pos 1))) ∷ Index (constant (pos 0)) ∷ []) None ∷ link_of (codes "_in2") 1 (Index (shifted (neg_ℤ (pos 2))) ∷ Index (of_variable 2) ∷ []) None ∷ [])
    (link_of (codes "_out") 1 (Index (shifted (neg_ℤ (pos 2))) ∷ Index (of_variable 2) ∷ []) None ∷ [])) (
    and_item 17 (task any_code [] (link_of (codes "o") 0 (Index (constant (pos 3)) ∷ Index (constant (pos 0)) ∷ []) (Some Or) ∷ [])) no_item))) no_item))) no_item) [] no_state)

-- a scope goes before those in it, and has the parameters of the maps around it
paths_of_the_scopes : map (λ (scope : Scope). scope.path) (all_scopes scopes_in_a_scope) ≡ (0 ∷ 2 ∷ []) ∷ (0 ∷ 3 ∷ []) ∷ (0 ∷ 6 ∷ []) ∷ []
paths_of_the_scopes = refl

parameters_around_the_scopes : map (λ (scope : Scope). scope.around) (all_scopes scopes_in_a_scope)
    ≡ [] ∷ ((0, from_to (pos 2) (pos 4)) ∷ []) ∷ ((0, from_to (pos 2) (pos 4)) ∷ []) ∷ []
parameters_around_the_scopes = refl

-- in the outer body the inner parameter is replaced
accesses_of_the_outer : accesses_at scopes_in_a_scope (0 ∷ 2 ∷ []) ≡ Some (
    access_by 7 0 Read (element_at (shifted (neg_ℤ (pos 1)) ∷ constant (pos 0) ∷ []))
    ∷ access_by 7 1 Read (record { low = shifted (neg_ℤ (pos 2)); high = shifted (neg_ℤ (pos 2)) } ∷ record { low = constant (pos 0); high = constant (neg_ℤ (pos 1)) } ∷ [])
    ∷ access_by 7 1 Write (record { low = shifted (neg_ℤ (pos 2)); high = shifted (neg_ℤ (pos 2)) } ∷ record { low = constant (pos 0); high = constant (neg_ℤ (pos 1)) } ∷ [])
    ∷ access_by 8 0 (Resolve Or) (element_at (constant (pos 3) ∷ constant (pos 0) ∷ [])) ∷ [])
accesses_of_the_outer = refl

-- in the inner one it stays
accesses_of_the_inner : accesses_at scopes_in_a_scope (0 ∷ 6 ∷ []) ≡ Some (
    access_by 7 0 Read (element_at (shifted (neg_ℤ (pos 1)) ∷ constant (pos 0) ∷ []))
    ∷ access_by 7 1 Read (element_at (shifted (neg_ℤ (pos 2)) ∷ of_variable 2 ∷ []))
    ∷ access_by 7 1 Write (element_at (shifted (neg_ℤ (pos 2)) ∷ of_variable 2 ∷ []))
    ∷ access_by 8 0 (Resolve Or) (element_at (constant (pos 3) ∷ constant (pos 0) ∷ [])) ∷ [])
accesses_of_the_inner = refl

-- A consume scope that resolves R[0] and pushes into its own stream, behind a tasklet that fills the stream. The take is an access of the list, not of the body.
abbrev pub drain : Resolution → GraphTree
drain resolution =
    graph (codes "fib") ((codes "iv", container_of (constant (pos 1) ∷ []) Argument) ∷ (codes "res", container_of (constant (pos 1) ∷ []) Argument) ∷ (codes "S", container_of [] Stream) ∷ (codes "e", container_of (constant (pos 1) ∷ []) Private) ∷ []) 2 [] 0
    (and_state no_item [] (and_state (and_item 5 (task any_code (link_of (codes "inp") 0 (Span (from_to (pos 0) (pos 0)) ∷ []) None ∷ []) (link_of (codes "out") 2 [] None ∷ [])) no_item) [] (
    and_state (and_item 9 (consume_scope 2 3 [] (and_item 9 (task any_code (link_of (codes "e") 3 (Index (constant (pos 0)) ∷ []) None ∷ [])
    (link_of (codes "sout") 2 [] None ∷ link_of (codes "val") 1 (Index (constant (pos 0)) ∷ []) (Some resolution) ∷ [])) no_item)) no_item) [] no_state)))

a_drain_as_a_whole : annotated (drain Sum) ≡ (2 ∷ 1 ∷ [], access_by 2 2 Push [] ∷ access_by 2 1 (Resolve Sum) (from_below (pos 0) (pos 0)) ∷ []) ∷ []
a_drain_as_a_whole = refl
