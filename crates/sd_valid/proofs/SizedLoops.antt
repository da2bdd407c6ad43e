-- Which loop variables are in force, with sizes or without.
use Rattle.std.proofs.Common.{◌≡◌, ℕ, zero, suc, nat_eq, ℤ, List, [], ◌∷◌, map, Bool, not, ◌&&◌, ◌||◌, refl, ap, ◌∙◌}
use Rattle.std.specs.List.{filter, flat_map, list_any}
use Rattle.std.proofs.Math.Path.{fun_ext}
use Rattle.sd_range.specs.declared.affine.Affine.{Affine}
use Rattle.sd_graph.specs.PlainTree.{ExitTree, StateTrees, no_state, and_state}
use Rattle.sd_graph.specs.TreeParts.{count_states, exits_at}
use Rattle.sd_graph.specs.LoopScope.{numbers_below, leads_within, leads_to, is_on_loop, closes_loop, is_in_force, loops_in_force}
use Rattle.sd_valid.specs.BoundExpression.{bound_assignment}
use Rattle.sd_valid.specs.BoundTree.{bound_exit, bound_states}

pub count_same : (sizes : List ℤ) (states : StateTrees) → count_states (bound_states sizes states) ≡ count_states states
count_same sizes no_state = refl
count_same sizes (and_state items exits states) = rw (count_same sizes states) refl

pub exits_at_same : (sizes : List ℤ) (states : StateTrees) (state : ℕ) → exits_at (bound_states sizes states) state ≡ map (bound_exit sizes) (exits_at states state)
exits_at_same sizes no_state state = refl
exits_at_same sizes (and_state items exits states) zero = refl
exits_at_same sizes (and_state items exits states) (suc state) = exits_at_same sizes states state

-- a test that sizes do not change
any_same : (sizes : List ℤ) (test other : ExitTree → Bool) (exits : List ExitTree) → ((exit : ExitTree) → test (bound_exit sizes exit) ≡ other exit) → list_any test (map (bound_exit sizes) exits) ≡ list_any other exits
any_same sizes test other [] same = refl
any_same sizes test other (exit ∷ exits) same = rw (same exit, any_same sizes test other exits same) refl

leads_same : (sizes : List ℤ) (states : StateTrees) (avoided most from to : ℕ) → leads_within (bound_states sizes states) avoided most from to ≡ leads_within states avoided most from to
leads_same sizes states avoided zero from to = refl
leads_same sizes states avoided (suc most) from to =
    ap (λ (any : Bool). nat_eq from to || any)
    (ap (list_any (λ exit. not (nat_eq exit.to avoided) && leads_within (bound_states sizes states) avoided most exit.to to)) (exits_at_same sizes states from)
    ∙ any_same sizes (λ exit. not (nat_eq exit.to avoided) && leads_within (bound_states sizes states) avoided most exit.to to) (λ exit. not (nat_eq exit.to avoided) && leads_within states avoided most exit.to to) (exits_at states from)
    (λ exit. ap (λ (leads : Bool). not (nat_eq exit.to avoided) && leads) (leads_same sizes states avoided most exit.to to)))

to_same : (sizes : List ℤ) (states : StateTrees) (avoided from to : ℕ) → leads_to (bound_states sizes states) avoided from to ≡ leads_to states avoided from to
to_same sizes states avoided from to =
    ap (λ (most : ℕ). leads_within (bound_states sizes states) avoided most from to) (count_same sizes states) ∙ leads_same sizes states avoided (count_states states) from to

sets_same : (sizes : List ℤ) (variable : ℕ) (set : List (ℕ × Affine)) → list_any (λ assignment. nat_eq assignment.0 variable) (map (bound_assignment sizes) set) ≡ list_any (λ assignment. nat_eq assignment.0 variable) set
sets_same sizes variable [] = refl
sets_same sizes variable (assignment ∷ set) = rw (sets_same sizes variable set) refl

closes_same : (sizes : List ℤ) (begin variable : ℕ) (exit : ExitTree) → closes_loop begin variable (bound_exit sizes exit) ≡ closes_loop begin variable exit
closes_same sizes begin variable exit = rw (sets_same sizes variable exit.set) refl

-- a state in which a variable is in force
end_same : (sizes : List ℤ) (states : StateTrees) (state begin variable end : ℕ) →
    (list_any (closes_loop begin variable) (exits_at (bound_states sizes states) end) && is_on_loop (bound_states sizes states) begin end state)
    ≡ (list_any (closes_loop begin variable) (exits_at states end) && is_on_loop states begin end state)
end_same sizes states state begin variable end =
    ap (λ (any : Bool). any && is_on_loop (bound_states sizes states) begin end state)
    (ap (list_any (closes_loop begin variable)) (exits_at_same sizes states end) ∙ any_same sizes (closes_loop begin variable) (closes_loop begin variable) (exits_at states end) (closes_same sizes begin variable))
    ∙ ap (λ (one : Bool). list_any (closes_loop begin variable) (exits_at states end) && (one && leads_to (bound_states sizes states) begin state end)) (to_same sizes states begin begin state)
    ∙ ap (λ (one : Bool). list_any (closes_loop begin variable) (exits_at states end) && (leads_to states begin begin state && one)) (to_same sizes states begin state end)

in_force_same : (sizes : List ℤ) (states : StateTrees) (state begin variable : ℕ) → is_in_force (bound_states sizes states) state begin variable ≡ is_in_force states state begin variable
in_force_same sizes states state begin variable =
    ap (λ (test : ℕ → Bool). list_any test (numbers_below (count_states (bound_states sizes states)))) (fun_ext (end_same sizes states state begin variable))
    ∙ ap (λ (count : ℕ). list_any (λ end. list_any (closes_loop begin variable) (exits_at states end) && is_on_loop states begin end state) (numbers_below count)) (count_same sizes states)

-- the loop variables in force in a state
pub loops_same : (sizes : List ℤ) (states : StateTrees) (variables state : ℕ) → loops_in_force (bound_states sizes states) variables state ≡ loops_in_force states variables state
loops_same sizes states variables state =
    ap (λ (test : ℕ → ℕ → Bool). flat_map (λ begin. filter (test begin) (numbers_below variables)) (numbers_below (count_states (bound_states sizes states))))
    (fun_ext (λ begin. fun_ext (in_force_same sizes states state begin)))
    ∙ ap (λ (count : ℕ). flat_map (λ begin. filter (is_in_force states state begin) (numbers_below variables)) (numbers_below count)) (count_same sizes states)
