-- How many loops are about a state, with sizes or without.
use Rattle.std.proofs.Common.{◌≡◌, ◌∙◌, ℕ, zero, suc, nat_eq, ℤ, List, [], ◌∷◌, map, length, Bool, not, ◌&&◌, ◌||◌, refl, ap}
use Rattle.std.specs.List.{filter, list_any}
use Rattle.std.proofs.Math.Path.{fun_ext}
use Rattle.sd_graph.specs.PlainTree.{ExitTree, StateTrees, GraphTree, graph}
use Rattle.sd_graph.specs.TreeParts.{count_states, exits_at, states_of_graph}
use Rattle.sd_graph.specs.LoopScope.{numbers_below, leads_within, leads_to, is_on_loop}
use Rattle.sd_wire.specs.loops.Marks.{returns_to}
use Rattle.sd_wire.specs.loops.About.{does_loop_from, is_in_loop, loops_about}
use Rattle.sd_valid.specs.BoundTree.{bound_exit, bound_states, bound_graph}
use Rattle.sd_valid.proofs.SizedLoops.{count_same, exits_at_same, loops_same}
use Rattle.sd_validity.specs.rules.Places.{loops_at}

-- a test that sizes do not change
any_same : (sizes : List ℤ) (test other : ExitTree → Bool) (exits : List ExitTree) → ((exit : ExitTree) → test (bound_exit sizes exit) ≡ other exit) → list_any test (map (bound_exit sizes) exits) ≡ list_any other exits
any_same sizes test other [] same = refl
any_same sizes test other (exit ∷ exits) same = rw (same exit, any_same sizes test other exits same) refl

leads_same : (sizes : List ℤ) (states : StateTrees) (avoided most from to : ℕ) → leads_within (bound_states sizes states) avoided most from to ≡ leads_within states avoided most from to
leads_same sizes states avoided zero from to = refl
leads_same sizes states avoided (suc most) from to =
    ap (λ (any : Bool). nat_eq from to || any)
    (ap (list_any (λ exit. not (nat_eq exit.to avoided) && leads_within (bound_states sizes states) avoided most exit.to to)) (exits_at_same sizes states from)
    ∙ any_same sizes (λ exit. not (nat_eq exit.to avoided) && leads_within (bound_states sizes states) avoided most exit.to to) (λ exit. not (nat_eq exit.to avoided) && leads_within states avoided most exit.to to) (exits_at states from)
    (λ exit. ap (λ (leads : Bool). not (nat_eq exit.to avoided) && leads) (leads_same sizes states avoided most exit.to to)))

pub to_same : (sizes : List ℤ) (states : StateTrees) (avoided from to : ℕ) → leads_to (bound_states sizes states) avoided from to ≡ leads_to states avoided from to
to_same sizes states avoided from to =
    ap (λ (most : ℕ). leads_within (bound_states sizes states) avoided most from to) (count_same sizes states) ∙ leads_same sizes states avoided (count_states states) from to

from_same : (sizes : List ℤ) (states : StateTrees) (state begin end : ℕ) → does_loop_from (bound_states sizes states) state begin end ≡ does_loop_from states state begin end
from_same sizes states state begin end =
    ap (λ (any : Bool). any && is_on_loop (bound_states sizes states) begin end state)
    (ap (list_any (returns_to begin)) (exits_at_same sizes states end) ∙ any_same sizes (returns_to begin) (returns_to begin) (exits_at states end) (λ exit. refl))
    ∙ ap (λ (one : Bool). list_any (returns_to begin) (exits_at states end) && (one && leads_to (bound_states sizes states) begin state end)) (to_same sizes states begin begin state)
    ∙ ap (λ (one : Bool). list_any (returns_to begin) (exits_at states end) && (leads_to states begin begin state && one)) (to_same sizes states begin state end)

in_same : (sizes : List ℤ) (states : StateTrees) (state begin : ℕ) → is_in_loop (bound_states sizes states) state begin ≡ is_in_loop states state begin
in_same sizes states state begin =
    ap (λ (test : ℕ → Bool). list_any test (numbers_below (count_states (bound_states sizes states)))) (fun_ext (from_same sizes states state begin))
    ∙ ap (λ (count : ℕ). list_any (does_loop_from states state begin) (numbers_below count)) (count_same sizes states)

about_states : (sizes : List ℤ) (states : StateTrees) (state : ℕ) → loops_about (bound_states sizes states) state ≡ loops_about states state
about_states sizes states state =
    ap (λ (test : ℕ → Bool). length (filter test (numbers_below (count_states (bound_states sizes states))))) (fun_ext (in_same sizes states state))
    ∙ ap (λ (count : ℕ). length (filter (is_in_loop states state) (numbers_below count))) (count_same sizes states)

pub about_same : (sizes : List ℤ) (tree : GraphTree) (state : ℕ) → loops_about (states_of_graph (bound_graph sizes tree)) state ≡ loops_about (states_of_graph tree) state
about_same sizes (graph name containers arguments variables symbols states) state = about_states sizes states state

pub at_same : (sizes : List ℤ) (tree : GraphTree) (state : ℕ) → loops_at (bound_graph sizes tree) state ≡ loops_at tree state
at_same sizes (graph name containers arguments variables symbols states) state = loops_same sizes states (length variables) state
