-- Containers and memories by the graph are those by the statements.
use Rattle.std.proofs.Common.{◌≡◌, ◌∙◌, ℕ, zero, suc, ℤ, pos, List, [], ◌∷◌, map, replicate, Bool, true, false, if◌then◌else◌, slice_index_or, nat_eq, refl, ap, sym}
use Rattle.std.specs.List.{list_any}
use Rattle.sd_range.specs.Points.{product}
use Rattle.sd_work.specs.Memory.{array, stream, absent}
use Rattle.sd_graph.specs.ContainerParts as parts
use Rattle.sd_graph.specs.ContainerParts.{Containers, container_at, no_container, is_stream, is_of_run}
use Rattle.sd_graph.specs.Wiring.{has_number}
use Rattle.sd_graph.specs.Context as graph
use Rattle.sd_graph.specs.Context.{Context, Reach, memory_from, private_memory}
use Rattle.sd_graph.specs.declared.container.Container.{Container}
use Rattle.sd_graph.specs.declared.container.ContainerKind.{ContainerKind}
use Rattle.sd_graph.specs.declared.container.ContainerKind.TheVariants.{Argument, Transient, Private, Stream, PrivateStream}
use Rattle.sd_valid.specs.BoundExpression.{bound_container}
use Rattle.sd_valid.specs.SizedWork.{sized_containers}
use Rattle.sd_task.specs.in_force.Subsets.{are_units}
use Rattle.sd_task.specs.task.Table.{Table, extents_at}
use Rattle.sd_says.specs.Held as said
use Rattle.sd_says.specs.Held.{Shape, array_of, a_stream, Held, extents_of_shape}
use Rattle.sd_says.specs.Declared.{Owner, of_caller, of_run, of_scope, Declaration, no_declaration, declaration_at, memory_where, scope_memory, run_memory, own_held}
use Rattle.sd_says.specs.Declared as declared
use Rattle.sd_tie.specs.elements.Tied.{shape_of, held_at}
use Rattle.sd_tie.specs.items.Standing.{owner_of, declared_by}

contents_tied : (container : Container) → parts.opening_contents container ≡ said.opening_contents container.width (shape_of container)
contents_tied container = go (is_stream container.kind)
  where
    go : (streams : Bool) → (if streams then stream container.width [] else array container.width (replicate (product (parts.extents_of container)) (pos 0))) ≡ said.opening_contents container.width (if streams then a_stream else array_of (parts.extents_of container))
    go true = refl
    go false = refl

-- a memory
memory_tied : (has : ℕ → ContainerKind → Bool) (has_owner : ℕ → Owner → Bool) → ((number : ℕ) (kind : ContainerKind) → has number kind ≡ has_owner number (owner_of kind)) →
    (sizes : List ℤ) (all : Containers) (number : ℕ) → memory_from has number (sized_containers sizes all) ≡ memory_where has_owner number (map (declared_by sizes) all)
memory_tied has has_owner same sizes [] number = refl
memory_tied has has_owner same sizes (entry ∷ all) number =
    λ i. (if same number entry.1.kind i then contents_tied (bound_container sizes entry.1) i else absent) ∷ memory_tied has has_owner same sizes all (suc number) i

pub scope_memory_tied : (sizes : List ℤ) (all : Containers) (own : List ℕ) → private_memory (sized_containers sizes all) own ≡ scope_memory (map (declared_by sizes) all) own
scope_memory_tied sizes all own = memory_tied (λ number kind. has_number own number) (λ number owner. list_any (nat_eq number) own) (λ number kind. refl) sizes all 0

of_run_same : (kind : ContainerKind) → is_of_run kind ≡ declared.is_of_run (owner_of kind)
of_run_same Argument = refl
of_run_same Transient = refl
of_run_same Private = refl
of_run_same Stream = refl
of_run_same PrivateStream = refl

pub run_memory_tied : (sizes : List ℤ) (all : Containers) → memory_from (λ number kind. is_of_run kind) 0 (sized_containers sizes all) ≡ run_memory (map (declared_by sizes) all)
run_memory_tied sizes all = memory_tied (λ number kind. is_of_run kind) (λ number owner. declared.is_of_run owner) (λ number kind. of_run_same kind) sizes all 0

-- ---- by number

pub declaration_tied : (sizes : List ℤ) (all : Containers) (number : ℕ) → declaration_at (map (declared_by sizes) all) number ≡ declared_by sizes (slice_index_or all number no_container)
declaration_tied sizes [] number = refl
declaration_tied sizes (entry ∷ all) zero = refl
declaration_tied sizes (entry ∷ all) (suc number) = declaration_tied sizes all number

pub container_tied : (sizes : List ℤ) (all : Containers) (number : ℕ) → container_at (sized_containers sizes all) number ≡ bound_container sizes (slice_index_or all number no_container).1
container_tied sizes [] number = refl
container_tied sizes (entry ∷ all) zero = refl
container_tied sizes (entry ∷ all) (suc number) = container_tied sizes all number

pub extents_tied : (all : Containers) (number : ℕ) → extents_at all number ≡ (slice_index_or all number no_container).1.extents
extents_tied [] number = refl
extents_tied (entry ∷ all) zero = refl
extents_tied (entry ∷ all) (suc number) = extents_tied all number

-- the width of a container
pub width_tied : (sizes : List ℤ) (all : List Declaration) (table : Table) (context : Context) (number : ℕ) → context.containers ≡ sized_containers sizes table.all → all ≡ map (declared_by sizes) table.all →
    (container_at context.containers number).width ≡ (declaration_at all number).width
width_tied sizes all table context number containers declared =
    ap (λ known. (container_at known number).width) containers ∙ ap (λ (container : Container). container.width) (container_tied sizes table.all number)
    ∙ ap (λ (declaration : Declaration). declaration.width) (sym (declaration_tied sizes table.all number)) ∙ ap (λ known. (declaration_at known number).width) (sym declared)

-- a container of the innermost memory
reach_tied : (container : Container) (number : ℕ) → extents_of_shape (shape_of container) ≡ parts.extents_of container → graph.found container ≡ said.element_number (extents_of_shape (shape_of container))
reach_tied container number e = ap said.element_number (sym e)

pub own_tied : (sizes : List ℤ) (all : List Declaration) (table : Table) (context : Context) (number : ℕ) → context.containers ≡ sized_containers sizes table.all → all ≡ map (declared_by sizes) table.all →
    extents_of_shape (shape_of (container_at context.containers number)) ≡ parts.extents_of (container_at context.containers number) → context.reach number ≡ graph.own_reach context.containers number →
    held_at table context number ≡ own_held all number
own_tied sizes all table context number containers declared bare reach =
    let shape : shape_of (container_at context.containers number) ≡ (declaration_at all number).shape =
    ap (λ known. shape_of (container_at known number)) containers ∙ ap shape_of (container_tied sizes table.all number)
    ∙ ap (λ (declaration : Declaration). declaration.shape) (sym (declaration_tied sizes table.all number)) ∙ ap (λ known. (declaration_at known number).shape) (sym declared) in
    let unit : are_units (extents_at table.all number) ≡ (declaration_at all number).unit =
    ap are_units (extents_tied table.all number) ∙ ap (λ (declaration : Declaration). declaration.unit) (sym (declaration_tied sizes table.all number)) ∙ ap (λ known. (declaration_at known number).unit) (sym declared) in
    let here : context.reach number ≡ said.own_reach (shape_of (container_at context.containers number)) number =
    reach ∙ ap (λ find. record { level = 0; container = number; find = find }) (reach_tied (container_at context.containers number) number bare) in
    (λ i. record { shape = shape i; unit = unit i; reach = (here ∙ ap (λ known. said.own_reach known number) shape) i })
