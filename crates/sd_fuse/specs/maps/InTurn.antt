-- Two rewrites, one behind the other.
use Rattle.std.specs.Prelude.{List}
use Rattle.sd_subset.specs.boxes.Box.{Parameter}
use Rattle.sd_graph.specs.ContainerParts.{Containers}
use Rattle.sd_graph.specs.PlainTree.{ItemTrees}
use Rattle.sd_exchange.specs.maps.Rewritten.{Rewrite}

pub data InTurn (R S : Rewrite) : Containers → List Parameter → ItemTrees → ItemTrees → Type 0 where
  in_turn : (containers : Containers) (around : List Parameter) (items between others : ItemTrees) → R containers around items between → S containers around between others → InTurn R S containers around items others
