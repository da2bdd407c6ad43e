-- A memory of a graph has what the pieces of the graph's items touch.
use Rattle.std.proofs.Common.{◌≡◌, Some, ◌⊎◌, inl, inr, ℕ, zero, suc, ◌<◌, nat_eq, nat_lt, ℤ, List, [], ◌∷◌, map, length, Bool, true, false, ◌&&◌, ◌||◌, if◌then◌else◌, slice_index_or, refl, sym, ◌∙◌, ap, subst, arith}
use Rattle.std.specs.List.{AllByRecursion, AllZip, Contains, list_any}
use Rattle.std.proofs.lemmas.Bool.{and_parts, eqb-true}
use Rattle.sd_range.proofs.Members.{Contains-first, Contains-later, Contains-from_map}
use Rattle.sd_work.specs.Memory.{Contents, array, stream, Memory}
use Rattle.sd_num.specs.declared.width.Width.TheVariants.{W64}
use Rattle.sd_graph.specs.ContainerParts.{Containers, container_at, extents_of, is_stream}
use Rattle.sd_graph.specs.GraphMemory.{IsContentsOf, AreContentsOf, IsMemoryOf}
use Rattle.sd_graph.specs.InForce.{is_private, IsInForce}
use Rattle.sd_graph.specs.Mode.{Mode, Read, Write, Resolve, Push, Take}
use Rattle.sd_graph.specs.PlainTree.{KindTree, GraphTree}
use Rattle.sd_graph.specs.TreeFold.{PlainItem}
use Rattle.sd_graph.specs.TreeParts.{containers_of}
use Rattle.sd_graph.specs.Wiring.{kind_uses}
use Rattle.sd_graph.specs.declared.container.Container.{Container}
use Rattle.sd_prop.specs.propagation.Accesses.{Access, kind_accesses}
use Rattle.sd_race.proofs.cover_lemmas.UsesOf.{of_access, uses-kind}
use Rattle.sd_validity.specs.rules.Valid.{IsValid}
use Rattle.sd_validity.proofs.rules_lemmas.InForceLemmas.{names_what_is_in_force}
use Rattle.sd_validity.proofs.rules_lemmas.InPlaceLemmas.{has_streams_in_place}
use Rattle.sd_safe.specs.normal.NormalForm.{IsGraphNormal}
use Rattle.sd_safe.specs.pieces.ItemPieces.{state_items}
use Rattle.sd_windows.specs.MapPieces.{kind_piece}
use Rattle.sd_mem.specs.mem.Shaped.{Shaped, IsStream}
use Rattle.sd_mem.specs.mem.GraphContents.{shapes_of}
use Rattle.sd_mem.proofs.mem_lemmas.GraphWholes.{whole_here}
use Rattle.sd_part.specs.declared.boxes.interval.Interval.{Interval}
use Rattle.sd_part.specs.Boxes.{NumberBox, number_box, intervals_at}
use Rattle.sd_part.specs.Hulls.{has_index, has_elements, is_of_elements}
use Rattle.sd_part.proofs.Intervals.{IsWithinExtent, intervals-within}
use Rattle.sd_part.proofs.PieceFit.{piece-fits}
use Rattle.sd_piece.specs.Held.{HasArray, HasTouched, HasTouchedSo}
use Rattle.sd_piece.specs.Piece.{item_of, boxes_of}
use Rattle.sd_piece.proofs.Found.{item-fits}
use Rattle.sd_piece.proofs.Right.{RightAs, IsRight, AreRight, kind-right, state-placed, piece-placed}
use Rattle.sd_piece.proofs.Touched.{each-of}

no : true ≡ false → ⊥
no e = cc

-- ---- arrays

-- a container of which a box has an index has no extent 0
some-extents : (intervals : List Interval) (extents : List ℕ) → AllZip IsWithinExtent intervals extents → has_index intervals ≡ true → AllByRecursion (λ extent. 0 < extent) extents
some-extents [] [] within is = tt
some-extents [] (extent ∷ extents) within is = absurd within
some-extents (interval ∷ intervals) [] within is = absurd within
some-extents (interval ∷ intervals) (extent ∷ extents) within is =
    let parts = and_parts (nat_lt 0 interval.count) (has_index intervals) is in
    let fits = within.0 in
    let first = parts.0 in
    let some : 0 < interval.count = grind (arith, first) in
    (omega (arith, fits, some), some-extents intervals extents within.1 parts.1)

shape-in : (containers : Containers) (c : ℕ) → c < length containers → is_stream (container_at containers c).kind ≡ false → slice_index_or (shapes_of containers) c [] ≡ extents_of (container_at containers c)
shape-in [] c below is = absurd (omega (arith, below))
shape-in (entry ∷ containers) zero below is = ap (λ (b : Bool). if b then [] else extents_of entry.1) is
shape-in (entry ∷ containers) (suc c) below is = shape-in containers c (omega (arith, below)) is

array-here : (containers : Containers) (memory : Shaped) (c : ℕ) → memory.shapes ≡ shapes_of containers → AreContentsOf containers memory.contents → c < length containers →
    is_private (container_at containers c).kind ≡ false → is_stream (container_at containers c).kind ≡ false →
    AllByRecursion (λ extent. 0 < extent) (extents_of (container_at containers c)) → HasArray (extents_of (container_at containers c)) memory c
array-here containers memory c shapes are below shared is some = record {
  some = some;
  shape = ap (λ (l : List (List ℕ)). slice_index_or l c []) shapes ∙ shape-in containers c below is;
  here = whole_here containers memory c shapes are below is shared;
}

-- ---- streams

stream-contents : (container : Container) (contents : Contents) → is_stream container.kind ≡ true → IsContentsOf container contents → IsStream contents
stream-contents container (array width elements) is of = absurd (no (sym is ∙ of.0))
stream-contents container (stream width values) is of = tt

stream-here : (containers : Containers) (memory : Memory) (c : ℕ) → AreContentsOf containers memory → c < length containers → is_private (container_at containers c).kind ≡ false → is_stream (container_at containers c).kind ≡ true →
    (c < length memory) × IsStream (slice_index_or memory c (stream W64 []))
stream-here [] memory c are below shared is = absurd (omega (arith, below))
stream-here (entry ∷ containers) [] c are below shared is = absurd are
stream-here (entry ∷ containers) (contents ∷ memory) zero are below shared is = (
  omega arith,
  elim are.0 [
    | inl private ↦ absurd (no (sym private ∙ shared))
    | inr of ↦ stream-contents entry.1 contents is of
  ],
)
stream-here (entry ∷ containers) (contents ∷ memory) (suc c) are below shared is =
    let rest = stream-here containers memory c are.1 (omega (arith, below)) shared is in let less = rest.0 in (omega (arith, less), rest.1)

-- ---- boxes

none-of : {A : Type 0} (test : A → Bool) (xs : List A) → ((x : A) → Contains xs x → test x ≡ false) → list_any test xs ≡ false
none-of test [] each = refl
none-of test (x ∷ xs) each = ap (λ (b : Bool). b || list_any test xs) (each x (Contains-first x xs)) ∙ none-of test xs (λ other member. each other (Contains-later x xs other member))

-- what is in force in a state belongs to no scope
shared-here : (b : Bool) → (b ≡ false) ⊎ (false ≡ true) → b ≡ false
shared-here b (inl is) = is
shared-here b (inr e) = cc

-- an access of a state's item to a container that is what its mode is for
abbrev IsRightAccess : Containers → Access → Type 0
IsRightAccess containers access = IsRight containers [] (of_access access)

-- a stream is not touched as an array
not-array : (containers : Containers) (access : Access) → is_stream (container_at containers access.container).kind ≡ true → RightAs containers access.container access.mode → is_of_elements access.mode ≡ false
not-array containers access is right = on access.mode right
  where
    on : (mode : Mode) → RightAs containers access.container mode → is_of_elements mode ≡ false
    on Read right = absurd (no (sym is ∙ right))
    on Write right = absurd (no (sym is ∙ right))
    on (Resolve by) right = absurd (no (sym is ∙ right))
    on Push right = refl
    on Take right = refl

no-elements : (containers : Containers) (values : List ℤ) (accesses : List Access) (c : ℕ) → ((access : Access) → Contains accesses access → IsRightAccess containers access) → is_stream (container_at containers c).kind ≡ true →
    has_elements (map (number_box containers values) accesses) c ≡ false
no-elements containers values accesses c right is =
    none-of (λ (box : NumberBox). nat_eq box.container c && is_of_elements box.mode) (map (number_box containers values) accesses) (λ box member.
    let from = Contains-from_map (number_box containers values) accesses box member in
    subst (λ (b : NumberBox). (nat_eq b.container c && is_of_elements b.mode) ≡ false) from.2 (on from.0 (nat_eq from.0.container c) refl (right from.0 from.1)))
  where
    on : (access : Access) (b : Bool) → nat_eq access.container c ≡ b → IsRightAccess containers access → (b && is_of_elements access.mode) ≡ false
    on access false e right = refl
    on access true e right =
        not-array containers access (subst (λ (k : ℕ). is_stream (container_at containers k).kind ≡ true) (sym (eqb-true access.container c e)) is) right.1

-- where a box is of an array, or of a stream
as-array : (containers : Containers) (memory : Shaped) (values : List ℤ) (boxes : List NumberBox) (access : Access) → memory.shapes ≡ shapes_of containers → AreContentsOf containers memory.contents → IsInForce containers [] access.container →
    is_stream (container_at containers access.container).kind ≡ false → HasTouchedSo true containers memory boxes (number_box containers values access)
as-array containers memory values boxes access shapes are force is = λ some.
    array-here containers memory access.container shapes are force.0 (shared-here (is_private (container_at containers access.container).kind) force.1) is
    (some-extents (intervals_at values (extents_of (container_at containers access.container)) access.box) (extents_of (container_at containers access.container))
    (intervals-within values (extents_of (container_at containers access.container)) access.box) some)

as-stream : (containers : Containers) (memory : Shaped) (values : List ℤ) (accesses : List Access) (access : Access) → AreContentsOf containers memory.contents → IsInForce containers [] access.container →
    ((other : Access) → Contains accesses other → IsRightAccess containers other) → is_stream (container_at containers access.container).kind ≡ true →
    HasTouchedSo false containers memory (map (number_box containers values) accesses) (number_box containers values access)
as-stream containers memory values accesses access are force all is = (
  stream-here containers memory.contents access.container are force.0 (shared-here (is_private (container_at containers access.container).kind) force.1) is,
  no-elements containers values accesses access.container all is,
)

box-touched : (containers : Containers) (memory : Shaped) (values : List ℤ) (accesses : List Access) (access : Access) → memory.shapes ≡ shapes_of containers → AreContentsOf containers memory.contents →
    ((other : Access) → Contains accesses other → IsRightAccess containers other) → IsRightAccess containers access →
    HasTouchedSo (is_of_elements access.mode) containers memory (map (number_box containers values) accesses) (number_box containers values access)
box-touched containers memory values accesses access shapes are all right = on access.mode right.1
  where
    on : (mode : Mode) → RightAs containers access.container mode → HasTouchedSo (is_of_elements mode) containers memory (map (number_box containers values) accesses) (number_box containers values access)
    on Read is = as-array containers memory values (map (number_box containers values) accesses) access shapes are right.0 is
    on Write is = as-array containers memory values (map (number_box containers values) accesses) access shapes are right.0 is
    on (Resolve by) is = as-array containers memory values (map (number_box containers values) accesses) access shapes are right.0 is
    on Push is = as-stream containers memory values accesses access are right.0 all is
    on Take is = as-stream containers memory values accesses access are right.0 all is

-- what accesses that are right touch
accesses-touched : (containers : Containers) (memory : Shaped) (values : List ℤ) (accesses : List Access) → memory.shapes ≡ shapes_of containers → AreContentsOf containers memory.contents →
    ((access : Access) → Contains accesses access → IsRightAccess containers access) → HasTouched containers memory (map (number_box containers values) accesses)
accesses-touched containers memory values accesses shapes are right box member =
    let from = Contains-from_map (number_box containers values) accesses box member in
    subst (λ (b : NumberBox). HasTouchedSo (is_of_elements b.mode) containers memory (map (number_box containers values) accesses) b) from.2
    (box-touched containers memory values accesses from.0 shapes are right (right from.0 from.1))

kind-touched : (containers : Containers) (memory : Shaped) (values : List ℤ) (kind : KindTree) (nodes : List ℕ) → memory.shapes ≡ shapes_of containers → AreContentsOf containers memory.contents →
    AreRight containers [] (kind_uses kind containers) → HasTouched containers memory (boxes_of containers values kind nodes)
kind-touched containers memory values kind nodes shapes are right =
    accesses-touched containers memory values (kind_accesses kind containers nodes) shapes are
    (λ access among. each-of (IsRight containers []) (kind_uses kind containers) (of_access access) right (uses-kind kind containers nodes access among))

pub memory-has : (tree : GraphTree) (memory : Shaped) (values : List ℤ) (state n first count : ℕ) (item : PlainItem) (nodes : List ℕ) → IsValid tree → IsGraphNormal tree →
    memory.shapes ≡ shapes_of (containers_of tree) → IsMemoryOf tree memory.contents → item_of (state_items tree state) n ≡ Some item →
    HasTouched (containers_of tree) memory (boxes_of (containers_of tree) values (kind_piece values first count item.1) nodes)
memory-has tree memory values state n first count item nodes valid normal shapes are is =
    let kind = kind_piece values first count item.1 in
    let placed = piece-placed (containers_of tree) values first count item.1 (state-placed tree state n item (names_what_is_in_force tree valid.names) (has_streams_in_place tree valid.streams) is) in
    kind-touched (containers_of tree) memory values kind nodes shapes are
    (kind-right kind (containers_of tree) [] [] placed.0 placed.1 (piece-fits item.1 values first count (item-fits tree state n item valid normal is)))
