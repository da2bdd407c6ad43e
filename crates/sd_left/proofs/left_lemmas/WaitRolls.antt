-- What a tree keeps of waiting values, one layer opened.
use Rattle.std.proofs.Common.{◌≡◌, ℕ, ◌∷◌, map, length, Bool, ◌&&◌, ◌||◌, nat_eq, ap, Box}
use Rattle.std.specs.declared.alloc.Global.{Global}
use Rattle.sd_work.specs.Memory.{Memories, waiting}
use Rattle.sd_mem.specs.declared.machine.address.Station.{Station}
use Rattle.sd_left.specs.declared.left.left.Left as shape
use Rattle.sd_left.specs.declared.left.left.Left.TheOpen as layer
use Rattle.sd_left.specs.declared.left.left.Left.TheViews.{out-Bodies, out-Body, out-Run}
use Rattle.sd_left.specs.declared.left.left.Left.TheFolds.{fold-roll-Left, fold_out-Bodies, fold_out-Body, fold_out-Run}
use Rattle.sd_left.specs.declared.left.left.Bodies.{Bodies as BodiesNow}
use Rattle.sd_left.specs.declared.left.left.Body.{Body as BodyNow}
use Rattle.sd_left.specs.declared.left.left.Run.{Run as RunNow}
use Rattle.sd_left.specs.left.Waits.{Told, all_hold, waits_step, bodies_waits_step, body_waits_step, run_waits_step, is_counted, are_bodies_counted, is_body_counted, is_run_counted}

module _ (memories : Memories) where
  pub points_counted : (sequential : Bool) (points : BodiesNow) → is_counted (shape.Points sequential points) memories ≡ are_bodies_counted points memories
  unfolding shape.roll-Left denote.Hole.Carrier.roll
  points_counted sequential points = ap (λ (told : Told). told memories) (fold-roll-Left Told Told Told Told waits_step bodies_waits_step body_waits_step run_waits_step (layer.Points sequential points))

  pub pool_counted : (stream : Station) (active : BodiesNow) (kept : ℕ) (closed : Bool) → is_counted (shape.Pool stream active kept closed) memories
      ≡ (closed || (nat_eq kept (length (waiting stream.level stream.container memories)) && are_bodies_counted active memories))
  unfolding shape.roll-Left denote.Hole.Carrier.roll
  pool_counted stream active kept closed = ap (λ (told : Told). told memories) (fold-roll-Left Told Told Told Told waits_step bodies_waits_step body_waits_step run_waits_step (layer.Pool stream active kept closed))

  pub nested_counted : (run : Box RunNow Global) → is_counted (shape.Nested run) memories ≡ is_run_counted run.value memories
  unfolding shape.roll-Left denote.Hole.Carrier.roll
  nested_counted run = ap (λ (told : Told). told memories) (fold-roll-Left Told Told Told Told waits_step bodies_waits_step body_waits_step run_waits_step (layer.Nested run))

  pub bodies_counted : (bodies : BodiesNow) → are_bodies_counted bodies memories ≡ all_hold (map is_body_counted (out-Bodies bodies).bodies.items) memories
  bodies_counted bodies = ap (λ (told : Told). told memories) (fold_out-Bodies Told Told Told Told waits_step bodies_waits_step body_waits_step run_waits_step bodies)

  pub body_counted : (body : BodyNow) → is_body_counted body memories ≡ all_hold (map is_counted (out-Body body).parts.items) ((out-Body body).own.contents ∷ memories)
  body_counted body = ap (λ (told : Told). told memories) (fold_out-Body Told Told Told Told waits_step bodies_waits_step body_waits_step run_waits_step body)

  pub run_counted : (run : RunNow) → is_run_counted run memories ≡ ((out-Run run).ended || is_body_counted (out-Run run).body memories)
  run_counted run = ap (λ (told : Told). told memories) (fold_out-Run Told Told Told Told waits_step bodies_waits_step body_waits_step run_waits_step run)
