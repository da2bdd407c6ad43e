-- What plans tell of small graphs, worked out by hand.
use Rattle.std.proofs.Common.{◌≡◌, ℕ, ℤ, pos, List, [], ◌∷◌, true, false, refl}
use Rattle.std.specs.Prelude.{codes}
use Rattle.sd_num.specs.declared.width.Width.TheVariants.{W64}
use Rattle.sd_graph.specs.ContainerParts.{Containers}
use Rattle.sd_graph.specs.Mode.{Mode, Read, Write}
use Rattle.sd_graph.specs.declared.container.Container.{Container}
use Rattle.sd_graph.specs.declared.container.ContainerKind.TheVariants.{Argument}
use Rattle.sd_prop.specs.propagation.Accesses.{Access}
use Rattle.sd_prop.specs.propagation.Scopes.{Over, points, elements, Scope}
use Rattle.sd_lower.specs.Pieces.{piece_count, values_before, values_in_each}
use Rattle.sd_lower.specs.Kinds.{containers_in, kind_of, scope_kinds}
use Rattle.sd_lower.specs.Hulls.{hulls_of}
use Rattle.sd_lower.specs.PlanText.{lines_over}
use Rattle.sd_lower.specs.declared.kinds.Kind.TheVariants.{Shared, Copied}

-- seven values among three workers, and three among 64
seven_among_three : values_in_each 7 3 ≡ 2 ∷ 2 ∷ 3 ∷ []
seven_among_three = refl

the_last_of_three_begins_at_four : values_before 7 3 2 ≡ 4
the_last_of_three_begins_at_four = refl

three_among_many : values_in_each 3 64 ≡ 1 ∷ 1 ∷ 1 ∷ []
three_among_many = refl

no_values_have_no_piece : piece_count 0 4 ≡ 0
no_values_have_no_piece = refl

-- two arrays of nine elements
abbrev array_of_nine : List ℕ → List ℕ × Container
array_of_nine name = (name, record { extents = (record { constant = pos 9; terms = [] }) ∷ []; kind = Argument; width = W64 })

abbrev two_arrays : Containers
two_arrays = array_of_nine (codes "A") ∷ array_of_nine (codes "B") ∷ []

-- an access of the elements from one to another
abbrev accessed : Mode → (container : ℕ) → (low high : ℤ) → Access
accessed mode container low high = record { node = 2; container = container; mode = mode; box = (record { low = record { constant = low; terms = [] }; high = record { constant = high; terms = [] } }) ∷ [] }

-- two elements of A are read, an element of B is read and written
abbrev some : List Access
some = accessed Read 0 (pos 7) (pos 7) ∷ accessed Read 1 (pos 3) (pos 4) ∷ accessed Read 0 (pos 2) (pos 2) ∷ accessed Write 1 (pos 3) (pos 3) ∷ []

the_containers_in_order : containers_in some ≡ 0 ∷ 1 ∷ []
the_containers_in_order = refl

what_is_only_read_is_shared : kind_of some 0 ≡ Shared
what_is_only_read_is_shared = refl

what_is_written_too_is_copied : kind_of some 1 ≡ Copied
what_is_written_too_is_copied = refl

a_hull_has_all_boxes_of_its_container : hulls_of two_arrays some ≡
    (record { container = 0; bounds = (record { low = record { constant = pos 2; terms = [] }; high = record { constant = pos 7; terms = [] } }) ∷ [] })
    ∷ (record { container = 1; bounds = (record { low = record { constant = pos 3; terms = [] }; high = record { constant = pos 4; terms = [] } }) ∷ [] }) ∷ []
a_hull_has_all_boxes_of_its_container = refl

-- with an empty path, which has no text
abbrev scope_over : Over → Scope
scope_over over = record { path = []; containers = two_arrays; around = []; over = over; accesses = some }

its_lines : lines_over (points false []) two_arrays (scope_over (points false [])) ≡ codes "scope : A shared\nscope : B copied\n"
its_lines = refl

points_one_by_one_are_one_piece : lines_over (points true []) two_arrays (scope_over (points true [])) ≡ codes "scope : sequential\n"
points_one_by_one_are_one_piece = refl

points_one_by_one_have_no_kinds : scope_kinds (scope_over (points true [])) ≡ []
points_one_by_one_have_no_kinds = refl

values_of_a_stream_are_a_board : lines_over elements two_arrays (scope_over elements) ≡ codes "scope : board\n"
values_of_a_stream_are_a_board = refl
