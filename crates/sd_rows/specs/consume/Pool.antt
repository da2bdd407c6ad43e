-- A consume scope whose body is one tasklet.
use Rattle.std.specs.Prelude.{◌≡◌, ℕ, suc, ◌<◌, ℤ, List, length}
use Rattle.std.specs.List.{AllZip}
use Rattle.sd_num.specs.declared.width.Width.{Width}
use Rattle.sd_work.specs.Memory.{Memory}
use Rattle.sd_work.specs.BigStep.{Reached, Coming}
use Rattle.sd_graph.specs.PlainTree.{TaskletTree, task, no_item, and_item, ItemTrees}
use Rattle.sd_graph.specs.ContainerParts.{container_at}
use Rattle.sd_graph.specs.TaskletMeaning.{Inputs}
use Rattle.sd_graph.specs.Context.{Context, place_at}
use Rattle.sd_graph.specs.Unfold.{at_element, element_memory}
use Rattle.sd_graph.specs.declared.link.Link.{Link}
use Rattle.sd_graph.specs.declared.place.Place.{Place}
use Rattle.sd_tcode.specs.tcode.Compiled.{Compiled}
use Rattle.sd_mem.specs.declared.machine.address.Station.{Station}
use Rattle.sd_mem.specs.declared.machine.end.End.{End}
use Rattle.sd_mem.specs.declared.machine.end.End.TheVariants as ends
use Rattle.sd_row.specs.declared.instance.accesses.Accesses.{Accesses}
use Rattle.sd_row.specs.instance.Known.{AreKnown, AreOutward}
use Rattle.sd_rows.specs.declared.consume.source.Source.{Source}
use Rattle.sd_rows.specs.declared.consume.taking.TakingEnd.{TakingEnd}
use Rattle.sd_rows.specs.declared.consume.taking.TakingEnd.TheVariants.{Finished, Fault, OutOfTurns}
use Rattle.sd_rows.specs.consume.Body.{IsBody}
use Rattle.sd_rows.specs.consume.Own.{IsSource}
use Rattle.sd_rows.specs.consume.Taking.{consume_coming}

-- a tasklet in its line as the body of a consume scope, and where the scope stands
pub record Pool : Type 0 where
  pub tree : TaskletTree
  pub ins : List Link
  pub outs : List Link
  pub line : ℕ
  pub stream : ℕ
  pub element : ℕ
  pub private : List ℕ
  pub context : Context

-- that of a tasklet with these links
abbrev pub pool_of : TaskletTree → (ins outs : List Link) → (line stream element : ℕ) → (private : List ℕ) → Context → Pool
pool_of tree ins outs line stream element private context =
    record { tree = tree; ins = ins; outs = outs; line = line; stream = stream; element = element; private = private; context = context }

-- the body of the scope
abbrev pub body_of : Pool → ItemTrees
body_of pool = and_item pool.line (task pool.tree pool.ins pool.outs) no_item

-- where the element of a value stands
abbrev pub inside : Pool → (value : ℤ) → Context
inside pool value = at_element pool.context pool.element pool.private value

-- the memory of the element of a value
abbrev pub pool_memory : Pool → (value : ℤ) → Memory
pool_memory pool value = element_memory pool.context pool.element pool.private value

-- the width of what shows the value of an element
abbrev pub element_width : Pool → Width
element_width pool = (container_at pool.context.containers pool.element).width

-- what the scope comes to from here
abbrev pub pool_coming : Pool → Reached → (most : ℕ) → Coming Place
pool_coming pool now most = consume_coming (body_of pool) pool.stream pool.element pool.private pool.context now most

-- code that is given this, with these accesses and sources of its inputs, for the elements of a scope, whose values come from here
pub record IsPool (compiled : Compiled) (given : Inputs) (accesses : Accesses) (sources : List Source) (from : Station) (element : ℕ) (outs : List Link) (here : Context) (pool : Pool) : Type 0 where
  pub body : IsBody pool.tree pool.ins outs compiled given here
  pub known : AreKnown pool.tree pool.ins outs 0 here here accesses
  pub outward : AreOutward here outs
  pub same_outs : pool.outs ≡ outs
  pub same_element : element ≡ pool.element
  pub there : pool.element < length pool.context.containers
  pub inputs : AllZip (IsSource element) accesses.reads.items sources
  pub first : ℤ
  pub stands : here ≡ inside pool first
  pub level : from.level ≡ suc (pool.context.reach pool.stream).level
  pub container : from.container ≡ (pool.context.reach pool.stream).container

-- how the taking of values ends, with the place of a fault
abbrev pub end_of_taking : Pool → TakingEnd → End
end_of_taking pool Finished = ends.Finished
end_of_taking pool (Fault value kind) = ends.Fault (place_at (inside pool value) pool.line) kind
end_of_taking pool OutOfTurns = ends.OutOfTurns
