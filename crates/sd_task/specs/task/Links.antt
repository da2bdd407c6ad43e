-- The links of connectors.
use Rattle.std.specs.Prelude.{ℕ, ℤ, pos, List, map, Option, None, option_map, unwrap_or}
use Rattle.sd_lex.specs.PlainTree.{Expressions, Dimension, Memlet}
use Rattle.sd_lex.specs.declared.syntax.memlet.Lambda.{Lambda}
use Rattle.sd_lex.specs.declared.syntax.memlet.Lambda.TheVariants as lambda
use Rattle.sd_num.specs.declared.resolution.Resolution.{Resolution}
use Rattle.sd_num.specs.declared.resolution.Resolution.TheVariants.{Sum, Product, Min, Max, And, Or, Xor, Last}
use Rattle.sd_range.specs.declared.subset.Dim.{Dim}
use Rattle.sd_range.specs.declared.subset.Dim.TheVariants.{Index}
use Rattle.sd_graph.specs.declared.link.Link.{Link}
use Rattle.sd_graph.specs.declared.tasklet.Port.{Port}
use Rattle.sd_program.specs.Names.{Name}
use Rattle.sd_program.specs.Affines.{affines_of}
use Rattle.sd_task.specs.task.Table.{Table, container_number, extents_at}
use Rattle.sd_task.specs.in_force.Subsets.{subset_of, connector_subset, ranges_among}

-- the resolution that a lambda stands for
abbrev pub resolution_of : Lambda → Resolution
resolution_of lambda.Sum = Sum
resolution_of lambda.Product = Product
resolution_of lambda.Min = Min
resolution_of lambda.Max = Max
resolution_of lambda.And = And
resolution_of lambda.Or = Or
resolution_of lambda.Xor = Xor
resolution_of lambda.Last = Last

abbrev pub link_to : (connector : Name) → (container : ℕ) → List Dim → (volume : ℤ) → Option Resolution → Link
link_to connector container dims volume resolution =
    record { connector = connector; memlet = record { container = container; subset = record { dims = dims }; volume = volume; resolution = resolution } }

-- one element
abbrev pub element_link : Table → (connector : Name) → Name → Expressions → Option Resolution → Link
element_link table connector name at resolution =
    link_to connector (container_number table name) (map Index (affines_of table.variables at)) (pos 1) resolution

-- a subset of a container, of the volume 1
abbrev pub subset_link : Table → (connector : Name) → Name → List Dimension → Link
subset_link table connector name dimensions =
    let container : ℕ = container_number table name in
    link_to connector container (subset_of table.variables dimensions (extents_at table.all container)) (pos 1) None

-- what a tasklet's connector moves; the volume is 1 where none is written
abbrev pub memlet_link : Table → (connector : Name) → Memlet → Link
memlet_link table connector memlet =
    let container : ℕ = container_number table memlet.name in
    link_to connector container (connector_subset table.variables memlet.dimensions (extents_at table.all container))
    (unwrap_or memlet.volume (pos 1)) (option_map resolution_of memlet.lambda)

abbrev pub port_of : (connector : Name) → (dims : ℕ) → Port
port_of connector dims = record { connector = connector; dims = dims }

-- the connectors of links: each has the ranges of its subset as dimensions
abbrev pub ports_of : List Link → List Port
ports_of links = map (λ link. port_of link.connector (ranges_among link.memlet.subset.dims)) links
