-- Runs that go on with another body over their memory.
use Rattle.std.proofs.Common.{◌≡◌, List, sym, ap, ◌∙◌}
use Rattle.sd_work.specs.Memory.{Memory}
use Rattle.sd_mem.specs.mem.Shaped.{Shaped}
use Rattle.sd_left.specs.tree.Standing.{ItemLeft, BodyLeft, RunLeft}
use Rattle.sd_left.specs.declared.left.left.Left.{Left as LeftNow}
use Rattle.sd_left.specs.declared.left.left.Bodies.{Bodies as BodiesNow}
use Rattle.sd_left.specs.declared.left.left.Body.{Body as BodyNow}
use Rattle.sd_left.specs.declared.left.left.Run.{Run as RunNow}
use Rattle.sd_left.specs.declared.left.left.Left.TheOpen.{Run-F}
use Rattle.sd_left.specs.declared.left.left.Left.TheViews.{out-Body, roll-Body, out-Run, roll-Run}
use Rattle.sd_left.specs.declared.left.left.Left.TheFolds.{fold-roll-Body, fold-roll-Run}
use Rattle.sd_left.specs.left.Kept.{left_step, bodies_step, body_step, run_step, body_kept, run_kept}
use Rattle.sd_left.proofs.left_lemmas.Rolls.{body_opened, run_opened}

-- the same body over another memory
abbrev pub over_memory : BodyLeft → Memory → BodyLeft
over_memory body memory = record { at = body.at; own = memory; order = body.order; parts = body.parts }

abbrev pub over : BodyNow → Shaped → BodyNow
over body own = roll-Body (record (out-Body body) { own = own })

pub kept_over : (body : BodyNow) (own : Shaped) → body_kept (over body own) ≡ over_memory (body_kept body) own.contents
kept_over body own =
    fold-roll-Body ItemLeft (List BodyLeft) BodyLeft RunLeft left_step bodies_step body_step run_step (record (out-Body body) { own = own })
    ∙ sym (ap (λ (b : BodyLeft). over_memory b own.contents) (body_opened body))

pub run_rolled : (run : Run-F LeftNow BodiesNow BodyNow RunNow) → run_kept (roll-Run run) ≡ record { state = run.state; ended = run.ended; body = body_kept run.body }
run_rolled run = fold-roll-Run ItemLeft (List BodyLeft) BodyLeft RunLeft left_step bodies_step body_step run_step run

pub own_of : (run : RunNow) → (run_kept run).body.own ≡ (out-Body (out-Run run).body).own.contents
own_of run = ap (λ (r : RunLeft). r.body.own) (run_opened run) ∙ ap (λ (b : BodyLeft). b.own) (body_opened (out-Run run).body)
