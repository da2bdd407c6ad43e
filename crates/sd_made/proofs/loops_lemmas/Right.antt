-- The transitions of a state of a bound graph are right.
use Rattle.std.proofs.Common.{◌≡◌, ◌∙◌, ◌⊎◌, inl, inr, ℕ, zero, suc, ◌<◌, ◌≤◌, nat_eq, nat_lt, ℤ, List, [], ◌∷◌, map, length, Bool, true, false, not, ◌&&◌, ◌||◌, if◌then◌else◌, refl, ap, sym, subst, arith}
use Rattle.std.specs.List.{AllByRecursion, list_all}
use Rattle.sd_range.specs.declared.affine.Affine.{Affine}
use Rattle.sd_graph.specs.PlainTree.{StateTrees, no_state, and_state, ExitTree}
use Rattle.sd_graph.specs.TreeParts.{count_states, exits_at}
use Rattle.sd_graph.specs.LoopScope.{leads_to}
use Rattle.sd_graph.specs.Upwards.{ExitsLeadUpwards}
use Rattle.sd_valid.specs.BoundExpression.{bound_assignment}
use Rattle.sd_valid.specs.BoundTree.{bound_exit, bound_states}
use Rattle.sd_valid.proofs.SizedLoops.{count_same, exits_at_same}
use Rattle.sd_made.specs.elab.LoopShape.{SetsLoopVariable, SetLoopVariables}
use Rattle.sd_made.specs.elab.EnteredLoops.{IsEnteredAtBegin}
use Rattle.sd_made.proofs.elab_lemmas.LoopEntries.{ClosesLoopAlone}
use Rattle.sd_validity.specs.rules.Transitions.{leads_right, begins_loop, is_step_of, is_kept_out, is_entered_at_begin, sets_loop_variable, is_exit_right}
use Rattle.sd_validity.proofs.bound_places_lemmas.LoopsAbout.{to_same}
use Rattle.sd_made.proofs.loops_lemmas.Affine.{begins_bound, step_bound}

-- the variables that a transition sets are no size symbols, which are the first so many
abbrev pub IsOwn : (symbols : ℕ) → ExitTree → Type 0
IsOwn symbols exit = AllByRecursion (λ assignment. symbols ≤ assignment.0) exit.set

-- a state with a transition is there
pub some_state : (states : StateTrees) (state : ℕ) (exit : ExitTree) (exits : List ExitTree) → exits_at states state ≡ exit ∷ exits → state < count_states states
some_state no_state state exit exits e = cc
some_state (and_state items own states) zero exit exits e = omega arith
some_state (and_state items own states) (suc state) exit exits e = omega (arith, some_state states state exit exits e)

-- ---- where a transition leads

leads : (count state to : ℕ) (back : Bool) → state < count → (back ≡ true → to ≤ state) → (back ≡ true) ⊎ ((state < to) × (to < count)) → (nat_lt to count && (if back then not (nat_lt state to) else nat_lt state to)) ≡ true
leads count state to true there least up =
    let most : to ≤ state = least refl in
    let below : nat_lt to count ≡ true = grind (arith, most, there) in
    let not_above : nat_lt state to ≡ false = grind (arith, most) in
    rw (below, not_above) refl
leads count state to false there least (inl marked) = cc
leads count state to false there least (inr up) =
    let below : nat_lt to count ≡ true = grind (arith, up.1) in
    let above : nat_lt state to ≡ true = grind (arith, up.0) in
    rw (below, above) refl

module _ (sizes : List ℤ) (states : StateTrees) where
  -- ---- loops are entered at their begins

  out_of : (begin from end : ℕ) → leads_to states begin from end ≡ false → is_kept_out (bound_states sizes states) begin from end ≡ true
  out_of begin from end none = either (nat_eq from begin) (leads_to (bound_states sizes states) begin from end) (to_same sizes states begin from end ∙ none)
    where
      either : (same leads : Bool) → leads ≡ false → (same || not leads) ≡ true
      either true leads none = refl
      either false leads none = ap not none

  same_begin : (begin end : ℕ) → begin ≡ 0 → is_kept_out (bound_states sizes states) begin 0 end ≡ true
  same_begin begin end e =
      let same : nat_eq 0 begin ≡ true = grind (arith, e) in
      rw same refl

  first_kept : (begin end : ℕ) → (begin ≡ 0) ⊎ (leads_to states begin 0 end ≡ false) → is_kept_out (bound_states sizes states) begin 0 end ≡ true
  first_kept begin end (inl e) = same_begin begin end e
  first_kept begin end (inr none) = out_of begin 0 end none

  entered_bound : (begin end : ℕ) (exits : List ExitTree) → IsEnteredAtBegin states begin end exits → is_entered_at_begin (bound_states sizes states) begin end (map (bound_exit sizes) exits) ≡ true
  entered_bound begin end [] is = absurd is
  entered_bound begin end (first ∷ []) is = absurd is
  entered_bound begin end (first ∷ second ∷ []) is = rw (first_kept begin end is.0) (out_of begin second.to end is.1)
  entered_bound begin end (first ∷ second ∷ third ∷ exits) is = absurd is

  -- ---- what a transition sets

  turns : (back steps : Bool) → (back ≡ true → steps ≡ true) → (not back || steps) ≡ true
  turns true steps is = is refl
  turns false steps is = refl

  assignment_right : (begin : ℕ → ℕ) (state : ℕ) (exit : ExitTree) (assignment : ℕ × Affine) → length sizes ≤ assignment.0 → ClosesLoopAlone states state exit → SetsLoopVariable states begin exit assignment →
      sets_loop_variable (bound_states sizes states) state (bound_exit sizes exit) (bound_assignment sizes assignment) ≡ true
  assignment_right begin state exit assignment high closed set =
      subst (λ exits. (begins_loop assignment.0 exits && (not exit.back || (is_step_of assignment.0 (bound_assignment sizes assignment).1 && is_entered_at_begin (bound_states sizes states) exit.to state exits))) ≡ true)
      (sym (exits_at_same sizes states exit.to))
      (rw (begins_bound sizes assignment.0 (exits_at states exit.to) high set.1)
      (turns exit.back _ (λ marked. rw (step_bound sizes assignment.0 assignment.1 high (set.2 marked)) (entered_bound exit.to state (exits_at states exit.to) (closed marked).0))))

  assignments_right : (begin : ℕ → ℕ) (state : ℕ) (exit : ExitTree) (set : List (ℕ × Affine)) → AllByRecursion (λ assignment. length sizes ≤ assignment.0) set → ClosesLoopAlone states state exit →
      AllByRecursion (SetsLoopVariable states begin exit) set → list_all (sets_loop_variable (bound_states sizes states) state (bound_exit sizes exit)) (map (bound_assignment sizes) set) ≡ true
  assignments_right begin state exit [] high closed sets = refl
  assignments_right begin state exit (assignment ∷ set) high closed sets =
      rw (assignment_right begin state exit assignment high.0 closed sets.0) (assignments_right begin state exit set high.1 closed sets.1)

  exit_right : (begin : ℕ → ℕ) (state : ℕ) (exit : ExitTree) → state < count_states states → (exit.back ≡ true) ⊎ ((state < exit.to) × (exit.to < count_states states)) → ClosesLoopAlone states state exit →
      AllByRecursion (SetsLoopVariable states begin exit) exit.set → IsOwn (length sizes) exit → is_exit_right (bound_states sizes states) state (bound_exit sizes exit) ≡ true
  exit_right begin state exit there up closed sets own =
      let to : leads_right (count_states (bound_states sizes states)) state (bound_exit sizes exit) ≡ true =
      ap (λ count. leads_right count state (bound_exit sizes exit)) (count_same sizes states) ∙ leads (count_states states) state exit.to exit.back there (λ marked. (closed marked).1.0) up in
      rw to (assignments_right begin state exit exit.set own closed sets)

  pub exits_right : (begin : ℕ → ℕ) (state : ℕ) (exits : List ExitTree) → ((exit : ExitTree) (others : List ExitTree) → exits ≡ exit ∷ others → state < count_states states) → ExitsLeadUpwards (count_states states) state exits →
      AllByRecursion (ClosesLoopAlone states state) exits → SetLoopVariables states begin exits → AllByRecursion (IsOwn (length sizes)) exits → list_all (is_exit_right (bound_states sizes states) state) (map (bound_exit sizes) exits) ≡ true
  exits_right begin state [] there up closed sets own = refl
  exits_right begin state (exit ∷ exits) there up closed sets own =
      let here : state < count_states states = there exit exits refl in
      rw (exit_right begin state exit here up.0 closed.0 sets.0 own.0) (exits_right begin state exits (λ other others e. here) up.1 closed.1 sets.1 own.1)
