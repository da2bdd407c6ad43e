-- Ways into maps, consume scopes and runs of graphs.
use Rattle.std.proofs.Common.{◌≡◌, ℕ, suc, ◌+◌, ◌-◌, ◌<◌, nat_eq, nat_lt, List, [], ◌∷◌, Bool, true, false, cond, if◌then◌else◌, not, ◌&&◌, ◌||◌, refl, sym, ap, ap₂, ◌∙◌, subst, arith}
use Rattle.sd_work.specs.Memory.{Memories}
use Rattle.sd_work.specs.Residual.{Points, Terms, list, none, also, is_ready, finished, flags_of}
use Rattle.sd_moves.specs.numbered.Counts.{count}
use Rattle.sd_moves.specs.numbered.Places.{here_or_later, place_of, place_in_parts}
use Rattle.sd_graph.specs.PlainTree.{GraphTree}
use Rattle.sd_graph.specs.TreeParts.{states_of_graph, items_at}
use Rattle.sd_graph.specs.Context.{Reach}
use Rattle.sd_graph.specs.Unfold.{in_any_order}
use Rattle.sd_graph.specs.declared.place.Frame.{Frame}
use Rattle.sd_graph.specs.declared.place.Place.{Place}
use Rattle.sd_mem.specs.machine.Coming.{state_context}
use Rattle.sd_left.specs.tree.Standing.{RunLeft, body_left, state_left, run_going, run_left}
use Rattle.sd_left.proofs.tree_lemmas.Points.{any-ready}
use Rattle.sd_left.specs.declared.left.left.Run.{Run as RunNow}
use Rattle.sd_left.specs.declared.left.left.Left.TheViews.{out-Run}
use Rattle.sd_left.specs.left.Kept.{body_kept, run_kept}
use Rattle.sd_left.specs.left.Waits.{is_body_counted, is_run_counted}
use Rattle.sd_left.specs.left.Telling.{Telling}
use Rattle.sd_left.specs.left.Tells.{body_tells, run_tells}
use Rattle.sd_left.proofs.left_lemmas.Rolls.{run_opened}
use Rattle.sd_left.proofs.left_lemmas.WaitRolls.{run_counted}
use Rattle.sd_left.proofs.left_lemmas.TellRolls.{run_told}
use Rattle.sd_left.proofs.left_lemmas.Sameness.{both-true}
use Rattle.sd_left.proofs.left_lemmas.Showing.{body-shows-all}

later-same : (move counted : ℕ) (here : List ℕ) (one other : ℕ → List ℕ) → ((rest : ℕ) → one rest ≡ other rest) → here_or_later move counted here one ≡ here_or_later move counted here other
later-same move counted here one other same = ap (λ (later : List ℕ). if nat_lt move counted then here else later) (same (move - counted))

-- which points are finished is not asked
any-place : (parts : Terms Place) (flags others : List Bool) (number : ℕ) (memories : Memories) (move : ℕ)
    → place_in_parts in_any_order flags number parts memories move ≡ place_in_parts in_any_order others number parts memories move
any-place none flags others number memories move = refl
any-place (also part parts) flags others number memories move =
    ap (λ (ready : Bool). here_or_later move (cond ready (count part memories) 0) (number ∷ place_of part memories move) (place_in_parts in_any_order flags (suc number) parts memories))
    (any-ready flags 0 number ∙ sym (any-ready others 0 number))
    ∙ later-same move (cond (is_ready in_any_order others number) (count part memories) 0) (number ∷ place_of part memories move)
    (place_in_parts in_any_order flags (suc number) parts memories) (place_in_parts in_any_order others (suc number) parts memories) (any-place parts flags others (suc number) memories)

pub any-order-place : (parts : Terms Place) (memories : Memories) (move : ℕ) → place_of (list Points in_any_order parts) memories move ≡ place_in_parts in_any_order [] 0 parts memories move
any-order-place parts memories move = any-place parts (flags_of parts) [] 0 memories move

-- a consume scope that has moves is open
pub open-held : (closed : Bool) (kept values moves number : ℕ) (held : Bool) → number < cond closed 0 (moves + kept) → (closed || (nat_eq kept values && held)) ≡ true → held ≡ true
open-held true kept values moves number held less counted = absurd (omega (arith, less))
open-held false kept values moves number held less counted = (both-true (nat_eq kept values) held counted).1

module _ (run : RunNow) (tree : GraphTree) (reach : ℕ → Reach) (around : List Frame) (memories : Memories) (number : ℕ) where
  abbrev kept : RunLeft
  kept = record { state = (out-Run run).state; ended = (out-Run run).ended; body = body_kept (out-Run run).body }

  here : place_of (run_left (run_kept run) tree reach around) memories number ≡ place_of (run_going (out-Run run).ended kept tree reach around) memories number
  here = ap (λ (left : RunLeft). place_of (run_left left tree reach around) memories number) (run_opened run)

  pub ended-place : (out-Run run).ended ≡ true → place_of (run_left (run_kept run) tree reach around) memories number ≡ []
  ended-place over = here ∙ ap (λ (ended : Bool). place_of (run_going ended kept tree reach around) memories number) over

  in-state : (out-Run run).ended ≡ false → place_of (run_left (run_kept run) tree reach around) memories number
      ≡ cond (finished (state_left kept tree reach around)) [] (place_of (state_left kept tree reach around) (kept.body.own ∷ memories) number)
  in-state going = here ∙ ap (λ (ended : Bool). place_of (run_going ended kept tree reach around) memories number) going

  module _ (right : (run_tells run).is_right ≡ true) (going : (out-Run run).ended ≡ false) where
    pub state-right : (body_tells (out-Run run).body).is_right ≡ true
    state-right = sym (ap (λ (t : Telling). t.is_right) (run_told run)) ∙ right

    state-over : finished (state_left kept tree reach around) ≡ not (body_tells (out-Run run).body).is_unfinished
    state-over = (body-shows-all (out-Run run).body state-right).over (items_at (states_of_graph tree) (out-Run run).state) (state_context tree reach around (out-Run run).state (body_kept (out-Run run).body).at)

    pub over-place : (body_tells (out-Run run).body).is_unfinished ≡ false → place_of (run_left (run_kept run) tree reach around) memories number ≡ []
    over-place over = in-state going ∙ ap (λ (end : Bool). cond end [] (place_of (state_left kept tree reach around) (kept.body.own ∷ memories) number)) (state-over ∙ ap not over)

    module _ (busy : (body_tells (out-Run run).body).is_unfinished ≡ true) where
      pub busy-place : place_of (run_left (run_kept run) tree reach around) memories number
          ≡ place_of (body_left (body_kept (out-Run run).body) (items_at (states_of_graph tree) (out-Run run).state) (state_context tree reach around (out-Run run).state (body_kept (out-Run run).body).at)) ((body_kept (out-Run run).body).own ∷ memories) number
      busy-place = in-state going ∙ ap (λ (end : Bool). cond end [] (place_of (state_left kept tree reach around) (kept.body.own ∷ memories) number)) (state-over ∙ ap not busy)

      pub state-held : is_run_counted run memories ≡ true → is_body_counted (out-Run run).body memories ≡ true
      state-held held = sym (ap (λ (over : Bool). over || is_body_counted (out-Run run).body memories) going) ∙ sym (run_counted memories run) ∙ held

      pub state-less : number < (run_tells run).moves → number < (body_tells (out-Run run).body).moves
      state-less less = subst (λ (moves : ℕ). number < moves)
          (ap (λ (t : Telling). t.moves) (run_told run) ∙ ap₂ (λ (over unfinished : Bool). cond over 0 (cond unfinished (body_tells (out-Run run).body).moves 1)) going busy) less
