-- Which containers an item reads and writes, in order of first mention, and what passes into it and out of it.
use Rattle.std.specs.Prelude.{ℕ, suc, nat_eq, List, [], ◌∷◌, ◌++◌, length, map, Option, Some, None, Bool, true, false, not, ◌&&◌, if◌then◌else◌}
use Rattle.std.specs.List.{filter, list_any}
use Rattle.sd_num.specs.declared.resolution.Resolution.{Resolution}
use Rattle.sd_graph.specs.PlainTree.{KindTree, task, map_scope, consume_scope, nested_graph, reduction, copy}
use Rattle.sd_graph.specs.ContainerParts.{Containers, container_at}
use Rattle.sd_graph.specs.InForce.{is_private}
use Rattle.sd_graph.specs.LoopScope.{numbers_below}
use Rattle.sd_graph.specs.Mode.{Mode, Read, Write, Resolve, Push, Take, joined_mode}
use Rattle.sd_graph.specs.Wiring.{Use, has_number, modes_on, kind_uses, graph_uses}
use Rattle.sd_graph.specs.declared.link.Link.{Link}
use Rattle.sd_wire.specs.declared.wiring.access.Access.{Access}
use Rattle.sd_wire.specs.declared.wiring.access.Access.TheVariants.{Reads, Writes}
use Rattle.sd_wire.specs.declared.wiring.passing.Passing.{Passing}
use Rattle.sd_wire.specs.declared.wiring.mode.UseMode.{UseMode}
use Rattle.sd_wire.specs.declared.wiring.mode.UseMode.TheVariants as coded

-- a mode as the code has it
abbrev pub mode_of : UseMode → Mode
mode_of coded.Read = Read
mode_of coded.Write = Write
mode_of (coded.Resolve by) = Resolve by
mode_of coded.Push = Push
mode_of coded.Take = Take

-- to take is to read; to resolve and to push are to write
abbrev pub is_of : Access → Mode → Bool
is_of Reads Read = true
is_of Reads Write = false
is_of Reads (Resolve by) = false
is_of Reads Push = false
is_of Reads Take = true
is_of Writes Read = false
is_of Writes Write = true
is_of Writes (Resolve by) = true
is_of Writes Push = true
is_of Writes Take = false

-- numbers with one more, which goes last unless it is there
abbrev pub with_number : (known : List ℕ) → (number : ℕ) → List ℕ
with_number known number = if has_number known number then known else known ++ number ∷ []

abbrev pub with_numbers : (known : List ℕ) → List ℕ → List ℕ
with_numbers known [] = known
with_numbers known (number ∷ numbers) = with_numbers (with_number known number) numbers

-- the containers of what an item does, in order of first mention
abbrev pub mentioned : List Use → List ℕ
mentioned uses = with_numbers [] (map (λ use'. use'.container) uses)

-- one of the uses of a container is of this access
abbrev pub has_access : Access → List Use → (container : ℕ) → Bool
has_access access uses container = list_any (λ use'. nat_eq use'.container container && is_of access use'.mode) uses

-- the containers that are read, or those that are written, in order of first mention
abbrev pub containers_by : Access → List Use → List ℕ
containers_by access uses = filter (has_access access uses) (mentioned uses)

-- the containers of a state's own: those of the graph that are not private
abbrev pub own_of_state : Containers → List ℕ
own_of_state containers = filter (λ number. not (is_private (container_at containers number).kind)) (numbers_below (length containers))

-- a connector's link
abbrev pub by_link : Link → Passing
by_link link = record { container = link.memlet.container; link = Some link }

-- a container that passes the entry or the exit of a scope
abbrev pub by_container : (container : ℕ) → Passing
by_container container = record { container = container; link = None }

-- a parameter is used, and so
abbrev pub is_mode_of : Access → Option Mode → Bool
is_mode_of access None = false
is_mode_of access (Some mode) = is_of access mode

-- the links of a nested graph by which it reads, or writes, the first of which is for the parameter of this number
abbrev pub links_by : Access → List Use → (number : ℕ) → List Link → List Link
links_by access inner number [] = []
links_by access inner number (link ∷ links) =
    (if is_mode_of access (joined_mode (modes_on number inner)) then link ∷ [] else []) ++ links_by access inner (suc number) links

abbrev pub task_links : Access → (ins outs : List Link) → List Link
task_links Reads ins outs = ins
task_links Writes ins outs = outs

abbrev pub moved_link : Access → (from to : Link) → Link
moved_link Reads from to = from
moved_link Writes from to = to

-- what passes into an item, or out of it: one for each connector, or one for each container for a scope
abbrev pub passing : Access → KindTree → Containers → List Passing
passing access (task code ins outs) containers = map by_link (task_links access ins outs)
passing access (map_scope sequential params private body) containers = map by_container (containers_by access (kind_uses (map_scope sequential params private body) containers))
passing access (consume_scope stream element private body) containers =
    map by_container (containers_by access (kind_uses (consume_scope stream element private body) containers))
passing access (nested_graph inner links) containers = map by_link (links_by access (graph_uses inner) 0 links)
passing access (reduction resolution axis identity from to) containers = by_link (moved_link access from to) ∷ []
passing access (copy from to) containers = by_link (moved_link access from to) ∷ []
