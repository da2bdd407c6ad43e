-- Bodies whose memory is lent and given back, and the runs that they are of.
use Rattle.std.proofs.Common.{◌≡◌, ℕ, suc, ℤ, List, ◌∷◌, map, Bool, true, false, ◌||◌, refl, sym, ap, ap₂, ◌∙◌, subst}
use Rattle.sd_work.specs.Memory.{Memory, Memories}
use Rattle.sd_work.specs.Residual.{Term, nested, ended}
use Rattle.sd_work.specs.Settle.{settle}
use Rattle.sd_graph.specs.PlainTree.{ItemTrees, GraphTree}
use Rattle.sd_graph.specs.TreeParts.{states_of_graph, items_at}
use Rattle.sd_graph.specs.Context.{Reach, Context}
use Rattle.sd_graph.specs.declared.place.Frame.{Frame}
use Rattle.sd_mem.specs.machine.Coming.{state_context, state_term, exits_of}
use Rattle.sd_mem.specs.mem.Shaped.{Shaped}
use Rattle.sd_order.specs.table.Told.{told}
use Rattle.sd_left.specs.tree.Standing.{ItemLeft, BodyLeft, RunLeft, body_left, run_left}
use Rattle.sd_left.specs.declared.left.left.Left.{Left as LeftNow}
use Rattle.sd_left.specs.declared.left.left.Bodies.{Bodies as BodiesNow}
use Rattle.sd_left.specs.declared.left.left.Body.{Body as BodyNow}
use Rattle.sd_left.specs.declared.left.left.Run.{Run as RunNow}
use Rattle.sd_left.specs.declared.left.left.Left.TheOpen.{Body-F}
use Rattle.sd_left.specs.declared.left.left.Left.TheViews.{out-Body, roll-Body, out-roll-Body, out-Run}
use Rattle.sd_left.specs.declared.left.left.Left.TheFolds.{fold-roll-Body}
use Rattle.sd_left.specs.left.Kept.{left_step, bodies_step, body_step, run_step, left_of, body_kept, run_kept}
use Rattle.sd_left.specs.left.Waits.{all_hold, is_counted, is_body_counted}
use Rattle.sd_left.specs.left.Telling.{Telling}
use Rattle.sd_left.specs.left.Tells.{body_tells, run_tells}
use Rattle.sd_left.proofs.left_lemmas.Rolls.{body_opened, run_opened}
use Rattle.sd_left.proofs.left_lemmas.WaitRolls.{body_counted, run_counted}
use Rattle.sd_left.proofs.left_lemmas.TellRolls.{body_rolled, body_told, run_told}
use Rattle.sd_fire.specs.settle.Cleared.{ClearsTo}
use Rattle.sd_fire.specs.settle.Settled.{AreItemsSettled, IsBodySettled, IsRunSettled}
use Rattle.sd_fire.proofs.settle_lemmas.Cleared.{clear-inside}

-- a body with another memory
abbrev pub over : BodyNow → Shaped → BodyNow
over body own = roll-Body (record (out-Body body) { own = own })

kept_over : (body : BodyNow) (own : Shaped) → body_kept (over body own) ≡ record { at = (out-Body body).at.items; own = own.contents; order = told (out-Body body).order; parts = map left_of (out-Body body).parts.items }
kept_over body own = fold-roll-Body ItemLeft (List BodyLeft) BodyLeft RunLeft left_step bodies_step body_step run_step (record (out-Body body) { own = own })

right_over : (body : BodyNow) (own : Shaped) → (body_tells (over body own)).is_right ≡ (body_tells body).is_right
right_over body own = ap (λ (t : Telling). t.is_right) (body_rolled (record (out-Body body) { own = own }) ∙ sym (body_told body))

-- its items have the same to do
work_over : (body : BodyNow) (own : Shaped) (items : ItemTrees) (context : Context) → body_left (body_kept (over body own)) items context ≡ body_left (body_kept body) items context
work_over body own items context =
    ap (λ (b : BodyLeft). body_left b items context) (kept_over body own) ∙ sym (ap (λ (b : BodyLeft). body_left b items context) (body_opened body))

at_over : (body : BodyNow) (own : Shaped) → (body_kept (over body own)).at ≡ (body_kept body).at
at_over body own = ap (λ (b : BodyLeft). b.at) (kept_over body own) ∙ sym (ap (λ (b : BodyLeft). b.at) (body_opened body))

own_kept : (body : BodyNow) → (body_kept body).own ≡ (out-Body body).own.contents
own_kept body = ap (λ (b : BodyLeft). b.own) (body_opened body)

-- the memory is lent, the items are settled, and it is given back
pub body_settled : (may_go : Bool) (clear inside : ℕ) (memories : Memories) (body moved : BodyNow) (lent back : Shaped) → inside ≡ suc clear → back.contents ≡ (out-Body body).own.contents
    → (body_tells body).is_right ≡ true
    → ((body_tells (over body lent)).is_right ≡ true → AreItemsSettled (over body lent) moved may_go inside ((out-Body body).own.contents ∷ memories))
    → IsBodySettled body (over moved back) may_go clear memories
body_settled may_go clear inside memories body moved lent back deeper same right settles =
    let own = (out-Body body).own.contents in
    let items_are = settles (right_over body lent ∙ right) in
    let opened : out-Body (over moved back) ≡ record (out-Body moved) { own = back } = out-roll-Body (record (out-Body moved) { own = back }) in
    record {
      settled = λ cleared clears items context.
          work_over moved back items context
          ∙ items_are.settled (true ∷ cleared) (subst (λ (n : ℕ). ClearsTo (true ∷ cleared) n) (sym deeper) (clear-inside cleared clear clears)) items context
          ∙ ap₂ (λ (o : Memory) (work : Term _). settle may_go (true ∷ cleared) (o ∷ memories) work) (sym (own_kept body)) (work_over body lent items context);
      at = at_over moved back ∙ items_are.at ∙ at_over body lent;
      own = ap (λ (b : BodyLeft). b.own) (kept_over moved back) ∙ same ∙ sym (own_kept body);
      counted = body_counted memories (over moved back)
          ∙ ap (λ (x : Body-F LeftNow BodiesNow BodyNow RunNow). all_hold (map is_counted x.parts.items) (x.own.contents ∷ memories)) opened
          ∙ ap (λ (o : Memory). all_hold (map is_counted (out-Body moved).parts.items) (o ∷ memories)) same
          ∙ items_are.counted;
      right = right_over moved back ∙ items_are.right;
    }

-- ---- runs

run_right : (run : RunNow) → (run_tells run).is_right ≡ (body_tells (out-Run run).body).is_right
run_right run = ap (λ (t : Telling). t.is_right) (run_told run)

-- a run that has ended stays as it is
pub ended_settled : (may_go : Bool) (clear : ℕ) (memories : Memories) (run : RunNow) → (out-Run run).ended ≡ true → (run_tells run).is_right ≡ true → IsRunSettled run run may_go clear memories
ended_settled may_go clear memories run over right = record {
  settled = λ cleared clears tree reach around.
      let work : run_left (run_kept run) tree reach around ≡ ended (body_kept (out-Run run).body).own =
      ap (λ (r : RunLeft). run_left r tree reach around)
      (run_opened run ∙ ap (λ (e : Bool). record { state = (out-Run run).state; ended = e; body = body_kept (out-Run run).body }) over) in
      work ∙ ap (settle may_go cleared memories) (sym work);
  counted = run_counted memories run ∙ ap (λ (e : Bool). e || is_body_counted (out-Run run).body memories) over;
  right = right;
}

abbrev going : ℕ → BodyLeft → RunLeft
going state body = record { state = state; ended = false; body = body }

going-settled : (may_go : Bool) (cleared : List Bool) (memories : Memories) (state : ℕ) (old new : BodyLeft) (tree : GraphTree) (reach : ℕ → Reach) (around : List Frame)
    → new.own ≡ old.own → new.at ≡ old.at
    → ((items : ItemTrees) (context : Context) → body_left new items context ≡ settle may_go (true ∷ cleared) (old.own ∷ memories) (body_left old items context))
    → run_left (going state new) tree reach around ≡ settle may_go cleared memories (run_left (going state old) tree reach around)
going-settled may_go cleared memories state old new tree reach around own at settled =
    ap₂ (λ (o : Memory) (v : List ℤ). nested (state_term tree reach around) (exits_of tree reach around) o state v (body_left new (items_at (states_of_graph tree) state) (state_context tree reach around state v))) own at
    ∙ ap (nested (state_term tree reach around) (exits_of tree reach around) old.own state old.at)
    (settled (items_at (states_of_graph tree) state) (state_context tree reach around state old.at))

run_is : (run : RunNow) (state : ℕ) → (out-Run run).state ≡ state → (out-Run run).ended ≡ false → run_kept run ≡ going state (body_kept (out-Run run).body)
run_is run state same_state on =
    run_opened run ∙ ap₂ (λ (s : ℕ) (e : Bool). record { state = s; ended = e; body = body_kept (out-Run run).body }) same_state on

-- a run that goes on is settled where its items are
pub run_settled : (may_go : Bool) (clear : ℕ) (memories : Memories) (run new : RunNow) → (out-Run new).state ≡ (out-Run run).state → (out-Run new).ended ≡ (out-Run run).ended → (out-Run run).ended ≡ false
    → (run_tells run).is_right ≡ true → ((body_tells (out-Run run).body).is_right ≡ true → IsBodySettled (out-Run run).body (out-Run new).body may_go clear memories)
    → IsRunSettled run new may_go clear memories
run_settled may_go clear memories run new same_state same_end on right settles =
    let body = settles (sym (run_right run) ∙ right) in
    record {
      settled = λ cleared clears tree reach around.
          ap (λ (r : RunLeft). run_left r tree reach around) (run_is new (out-Run run).state same_state (same_end ∙ on))
          ∙ going-settled may_go cleared memories (out-Run run).state (body_kept (out-Run run).body) (body_kept (out-Run new).body) tree reach around body.own body.at (body.settled cleared clears)
          ∙ ap (λ (r : RunLeft). settle may_go cleared memories (run_left r tree reach around)) (sym (run_is run (out-Run run).state refl on));
      counted = run_counted memories new
          ∙ ap (λ (e : Bool). e || is_body_counted (out-Run new).body memories) (same_end ∙ on)
          ∙ body.counted;
      right = run_right new ∙ body.right;
    }
