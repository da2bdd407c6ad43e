-- Two maps over the same points, point by point.
use Rattle.std.specs.Prelude.{◌≡◌, List, true}
use Rattle.std.specs.List.{Contains}
use Rattle.sd_subset.specs.boxes.Box.{Parameter}
use Rattle.sd_subset.specs.boxes.Apart.{AreHarmless}
use Rattle.sd_graph.specs.Mode.{do_conflict}
use Rattle.sd_prop.specs.propagation.Accesses.{Access}

-- each conflicting pair of accesses, one of each body, is harmless
abbrev pub CrossHarmlessly : (around params : List Parameter) → List Access → List Access → Type 0
CrossHarmlessly around params first second = (access other : Access) → Contains first access → Contains second other →
    access.container ≡ other.container → do_conflict access.mode other.mode ≡ true → AreHarmless around params access.box other.box
