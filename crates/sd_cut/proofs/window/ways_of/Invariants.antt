use Rattle.std.proofs.Common.{◌≡◌, ◌++◌, map, length, drop}
use Rattle.sd_graph.specs.TreeFold.{named_container}
use Rattle.sd_cut.specs.Windowed.{ways_from}
use Rattle.sd_cut.proofs.window.ways_of.Given as goal

-- the ways so far, and those left
abbrev pub invariant-loop-window : goal.invariant-loop-window
invariant-loop-window l =
    l.ways.items ++ ways_from (map named_container l.containers.entries) (length l.ways.items) (drop l.window-index l.windows) ≡ ways_from (map named_container l.containers.entries) 0 l.windows
