-- What a tree of what is left keeps of the values that wait in streams.
use Rattle.std.specs.Prelude.{nat_eq, List, [], ◌∷◌, length, Bool, true, ◌&&◌, ◌||◌}
use Rattle.sd_work.specs.Memory.{Memories, waiting}
use Rattle.sd_left.specs.declared.left.left.Left.{Left as LeftNow}
use Rattle.sd_left.specs.declared.left.left.Bodies.{Bodies as BodiesNow}
use Rattle.sd_left.specs.declared.left.left.Body.{Body as BodyNow}
use Rattle.sd_left.specs.declared.left.left.Run.{Run as RunNow}
use Rattle.sd_left.specs.declared.left.left.Left.TheOpen.{Left-F, Bodies-F, Body-F, Run-F, Instance, Doing, Points, Sparse, Pool, Nested}
use Rattle.sd_left.specs.declared.left.left.Left.TheFolds.{fold-Left, fold-Bodies, fold-Body, fold-Run}

-- over these memories
abbrev pub Told : Type 0
Told = Memories → Bool

-- each of these holds over memories
abbrev pub all_hold : List Told → Memories → Bool
all_hold [] memories = true
all_hold (first ∷ rest) memories = first memories && all_hold rest memories

abbrev pub waits_step : Left-F Told Told Told Told → Told
waits_step (Instance instance) memories = true
waits_step (Doing doing) memories = true
waits_step (Points sequential points) memories = points memories
waits_step (Sparse sequential tasks points) memories = true
waits_step (Pool stream active kept closed) memories =
    closed || (nat_eq kept (length (waiting stream.level stream.container memories)) && active memories)
waits_step (Nested run) memories = run.value memories

abbrev pub bodies_waits_step : Bodies-F Told Told Told Told → Told
bodies_waits_step bodies memories = all_hold bodies.bodies.items memories

abbrev pub body_waits_step : Body-F Told Told Told Told → Told
body_waits_step body memories = all_hold body.parts.items (body.own.contents ∷ memories)

abbrev pub run_waits_step : Run-F Told Told Told Told → Told
run_waits_step run memories = run.ended || run.body memories

-- each unfinished pool has the number of values that wait in its stream, over these memories
abbrev pub is_counted : LeftNow → Told
is_counted = fold-Left Told Told Told Told waits_step bodies_waits_step body_waits_step run_waits_step

abbrev pub are_bodies_counted : BodiesNow → Told
are_bodies_counted = fold-Bodies Told Told Told Told waits_step bodies_waits_step body_waits_step run_waits_step

abbrev pub is_body_counted : BodyNow → Told
is_body_counted = fold-Body Told Told Told Told waits_step bodies_waits_step body_waits_step run_waits_step

abbrev pub is_run_counted : RunNow → Told
is_run_counted = fold-Run Told Told Told Told waits_step bodies_waits_step body_waits_step run_waits_step
