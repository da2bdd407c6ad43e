use Rattle.std.proofs.Common.{◌≡◌, ◌++◌, map}
use Rattle.sd_graph.specs.LoopScope.{numbers_below}
use Rattle.sd_crew.specs.Places.{place_of}
use Rattle.sd_crew.proofs.places.push_places.Given as goal

-- those so far
abbrev pub invariant-loop-piece : goal.invariant-loop-piece
invariant-loop-piece l = l.places.items ≡ l.initial.places.items ++ map (place_of l.state l.item l.values l.workers) (numbers_below l.piece)
