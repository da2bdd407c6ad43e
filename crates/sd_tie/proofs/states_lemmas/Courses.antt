-- What a run comes to from the end of a state on, exit by exit.
use Rattle.std.proofs.Common.{◌≡◌, ◌∙◌, ℕ, zero, suc, ◌+◌, ℤ, List, [], ◌∷◌, map, Some, Result, Ok, Err, Bool, true, false, refl, ap, arith}
use Rattle.std.specs.Bool.{⊤}
use Rattle.sd_range.specs.Affine.{affine_value}
use Rattle.sd_range.specs.Variables.{with_variables}
use Rattle.sd_range.specs.declared.affine.Affine.{Affine}
use Rattle.sd_work.specs.Memory.{Memories}
use Rattle.sd_work.specs.Move.{Fault}
use Rattle.sd_work.specs.Exit.{Values, Exit, first_exit, or_later, passed}
use Rattle.sd_work.specs.Step.{Outcome, Done, Faulted, Spent}
use Rattle.sd_work.specs.BigStep.{Reached, Coming, reached, and_then, after_exit, big_step, big_parts}
use Rattle.sd_graph.specs.PlainTree.{StateTrees, no_state, and_state, no_item, GuardTree, ExitTree}
use Rattle.sd_graph.specs.TreeParts.{items_at, exits_at}
use Rattle.sd_graph.specs.ContainerParts.{Containers}
use Rattle.sd_graph.specs.Context.{Reach, Context}
use Rattle.sd_graph.specs.Unfold.{guard_of}
use Rattle.sd_graph.specs.declared.place.Frame.{Frame}
use Rattle.sd_graph.specs.declared.place.Place.{Place}
use Rattle.sd_valid.specs.SizedValues.{sized}
use Rattle.sd_valid.specs.SizedWork.{at_sizes, sized_items, sized_state, sized_exit}
use Rattle.sd_program.specs.Names.{Name}
use Rattle.sd_elab.specs.states.Exits.{plainly, setting, if_holds, back_to}
use Rattle.sd_tie.specs.items.Follows.{Follows}
use Rattle.sd_tie.specs.states.Course.{Comes, here, loops_at, does, on_from, EndsAt}

-- ---- two bounds

pub comes_step : (run more : ℕ → ℕ → Coming Place) → ((e m : ℕ) → run (suc e) m ≡ more e m) → (o : Outcome Place Reached) → Comes more o → Comes run o
comes_step run more same o h = (
  suc h.0,
  λ i j.
      (let e : suc h.0 + i ≡ suc (h.0 + i) = omega arith in
      let f : suc h.0 + j ≡ h.0 + suc j = omega arith in
      ap (λ n. run n (suc h.0 + j)) e ∙ same (h.0 + i) (suc h.0 + j) ∙ ap (more (h.0 + i)) f ∙ h.1 i (suc j)),
)

pub comes_then : (first : ℕ → Coming Place) (next : ℕ → ℕ → Memories → ℕ → Coming Place) (now : Reached) (o : Outcome Place Reached) → Follows first (Done now) →
    Comes (λ e m. next e m now.memories now.turns) o → Comes (λ e m. and_then (first m) (next e m)) o
comes_then first next now o f h = (
  f.0 + h.0,
  λ i j.
      (let e : (f.0 + h.0) + j ≡ f.0 + (h.0 + j) = omega arith in
      let e' : (f.0 + h.0) + j ≡ h.0 + (f.0 + j) = omega arith in
      let e'' : (f.0 + h.0) + i ≡ h.0 + (f.0 + i) = omega arith in
      ap (λ x. and_then x (next ((f.0 + h.0) + i) ((f.0 + h.0) + j))) (ap first e ∙ f.1 (h.0 + j))
      ∙ (λ k. next (e'' k) (e' k) now.memories now.turns) ∙ h.1 (f.0 + i) (f.0 + j)),
)

abbrev Stops : Outcome Place Reached → Type 0
Stops (Done now) = ⊥
Stops (Faulted fault) = ⊤
Stops Spent = ⊤

pub comes_stop : (first : ℕ → Coming Place) (next : ℕ → ℕ → Memories → ℕ → Coming Place) (o : Outcome Place Reached) → Stops o → Follows first o → Comes (λ e m. and_then (first m) (next e m)) o
comes_stop first next (Done now) s f = absurd s
comes_stop first next (Faulted fault) s f = (f.0, λ i j. ap (λ x. and_then x (next (f.0 + i) (f.0 + j))) (f.1 j))
comes_stop first next Spent s f = (f.0, λ i j. ap (λ x. and_then x (next (f.0 + i) (f.0 + j))) (f.1 j))

-- the items of a state
pub state_items : (sizes : List ℤ) (states : StateTrees) (state : ℕ) (context : Context) (m : ℕ) (memories : Memories) (turns : ℕ) →
    big_step (sized_state sizes states state context) m memories turns ≡ big_parts (sized_items sizes (items_at states state) context) m memories turns
state_items sizes no_state state context m memories turns = refl
state_items sizes (and_state items exits states) zero context m memories turns = refl
state_items sizes (and_state items exits states) (suc state) context m memories turns = state_items sizes states state context m memories turns

-- variables that are set at once
abbrev pub assigned_values : (sizes : List ℤ) → List (ℕ × Affine) → Values → Values
assigned_values sizes assigned values = with_variables (map (λ assignment. (assignment.0, affine_value (sized sizes values) assignment.1)) assigned) values

module _ (sizes : List ℤ) (containers : Containers) (names : List Name) (states : StateTrees) (reach : ℕ → Reach) (around : List Frame) where
  abbrev pub there : ℕ → Values → Context
  there k values = here sizes containers names states reach around (loops_at sizes containers names states reach around k) values

  abbrev pub run_from : ℕ → Values → Memories → ℕ → (e m : ℕ) → Coming Place
  run_from k values memories turns e m = on_from sizes containers names states reach around k values memories turns e m

  abbrev pub Ends : ℕ → Values → Memories → ℕ → Outcome Place Reached → Type 0
  Ends k values memories turns o = EndsAt sizes containers names states reach around k values memories turns o

  abbrev pub state_does : (m k : ℕ) → Values → Memories → ℕ → Coming Place
  state_does m k values memories turns = does sizes containers names states reach around m k values memories turns

  -- by an exit
  abbrev pub by : Exit Place → Memories → ℕ → (e m : ℕ) → Coming Place
  by exit memories turns e m = and_then (state_does m exit.state exit.values memories turns) (λ memories turns. run_from exit.state exit.values memories turns e m)

  -- the exit that is taken
  pub takes_exit : (k : ℕ) (values : Values) (memories : Memories) (turns : ℕ) (exits : List ExitTree) → exits_at states k ≡ exits → (e m : ℕ) →
      run_from k values memories turns (suc e) m ≡ after_exit (first_exit (map (sized_exit sizes (there k values)) exits) memories) memories turns (λ exit turns. by exit memories turns e m)
  takes_exit k values memories turns exits h e m =
      ap (λ exits. after_exit (first_exit (map (sized_exit sizes (there k values)) exits) memories) memories turns (λ exit turns. by exit memories turns e m)) h

  -- a state without items
  pub idle_by : (n : ℕ) → items_at states n ≡ no_item → (values : Values) (memories : Memories) (turns : ℕ) (e m : ℕ) →
      and_then (state_does m n values memories turns) (λ memories turns. run_from n values memories turns e m) ≡ run_from n values memories turns e m
  idle_by n h values memories turns e m =
      ap (λ work. and_then work (λ memories turns. run_from n values memories turns e m))
      (state_items sizes states n (there n values) m memories turns ∙ ap (λ items. big_parts (sized_items sizes items (there n values)) m memories turns) h)

  -- an exit without a mark or a condition, into a state without items
  pub set_ends : (c n : ℕ) (variable : ℕ) (value : Affine) → exits_at states c ≡ setting n variable value ∷ [] → items_at states n ≡ no_item → (values : Values) (memories : Memories) (turns : ℕ) (o : Outcome Place Reached) →
      Ends n (assigned_values sizes ((variable, value) ∷ []) values) memories turns o → Ends c values memories turns o
  set_ends c n variable value w i values memories turns o h =
      comes_step (run_from c values memories turns) (run_from n (assigned_values sizes ((variable, value) ∷ []) values) memories turns)
      (λ e m. takes_exit c values memories turns (setting n variable value ∷ []) w e m ∙ idle_by n i (assigned_values sizes ((variable, value) ∷ []) values) memories turns e m) o h

  pub plain_ends : (c n : ℕ) → exits_at states c ≡ plainly n ∷ [] → items_at states n ≡ no_item → (values : Values) (memories : Memories) (turns : ℕ) (o : Outcome Place Reached) →
      Ends n values memories turns o → Ends c values memories turns o
  plain_ends c n w i values memories turns o h =
      comes_step (run_from c values memories turns) (run_from n values memories turns)
      (λ e m. takes_exit c values memories turns (plainly n ∷ []) w e m ∙ idle_by n i values memories turns e m) o h

  -- a marked one
  pub marked_ends : (c n : ℕ) (assigned : List (ℕ × Affine)) → exits_at states c ≡ back_to n assigned ∷ [] → items_at states n ≡ no_item → (values : Values) (memories : Memories) (turns : ℕ) (o : Outcome Place Reached) →
      Ends n (assigned_values sizes assigned values) memories turns o → Ends c values memories (suc turns) o
  marked_ends c n assigned w i values memories turns o h =
      comes_step (run_from c values memories (suc turns)) (run_from n (assigned_values sizes assigned values) memories turns)
      (λ e m. takes_exit c values memories (suc turns) (back_to n assigned ∷ []) w e m ∙ idle_by n i (assigned_values sizes assigned values) memories turns e m) o h

  pub marked_spent : (c n : ℕ) (assigned : List (ℕ × Affine)) → exits_at states c ≡ back_to n assigned ∷ [] → (values : Values) (memories : Memories) → Ends c values memories 0 Spent
  marked_spent c n assigned w values memories =
      comes_step (run_from c values memories 0) (λ e m. Some Spent) (λ e m. takes_exit c values memories 0 (back_to n assigned ∷ []) w e m) Spent (0, λ i j. refl)

  -- no exit
  pub last_ends : (c : ℕ) → exits_at states c ≡ [] → (values : Values) (memories : Memories) (turns : ℕ) → Ends c values memories turns (Done (record { memories = memories; turns = turns }))
  last_ends c w values memories turns =
      comes_step (run_from c values memories turns) (λ e m. reached memories turns) (λ e m. takes_exit c values memories turns [] w e m) _ (0, λ i j. refl)

  -- a condition, and what is taken by it
  abbrev pub Passed : (k : ℕ) → GuardTree → Values → Memories → Result Bool (Fault Place)
  Passed k guard values memories = passed (Some (guard_of (at_sizes sizes (there k values)) guard)) memories

  module _ (k h f : ℕ) (guard : GuardTree) (w : exits_at states k ≡ if_holds guard h ∷ plainly f ∷ []) (values : Values) (memories : Memories) (turns : ℕ) where
    asked : (test : Result Bool (Fault Place)) → Passed k guard values memories ≡ test → (e m : ℕ) →
        run_from k values memories turns (suc e) m
        ≡ after_exit (or_later test (sized_exit sizes (there k values) (if_holds guard h)) (Ok (Some (sized_exit sizes (there k values) (plainly f))))) memories turns (λ exit turns. by exit memories turns e m)
    asked test p e m =
        takes_exit k values memories turns (if_holds guard h ∷ plainly f ∷ []) w e m
        ∙ ap (λ (t : Result Bool (Fault Place)). after_exit (or_later t (sized_exit sizes (there k values) (if_holds guard h)) (Ok (Some (sized_exit sizes (there k values) (plainly f))))) memories turns (λ exit turns. by exit memories turns e m)) p

    pub true_ends : Passed k guard values memories ≡ Ok true → items_at states h ≡ no_item → (o : Outcome Place Reached) → Ends h values memories turns o → Ends k values memories turns o
    true_ends p i o g = comes_step (run_from k values memories turns) (run_from h values memories turns) (λ e m. asked (Ok true) p e m ∙ idle_by h i values memories turns e m) o g

    pub false_ends : Passed k guard values memories ≡ Ok false → items_at states f ≡ no_item → (o : Outcome Place Reached) → Ends f values memories turns o → Ends k values memories turns o
    false_ends p i o g = comes_step (run_from k values memories turns) (run_from f values memories turns) (λ e m. asked (Ok false) p e m ∙ idle_by f i values memories turns e m) o g

    pub fault_ends : (fault : Fault Place) → Passed k guard values memories ≡ Err fault → Ends k values memories turns (Faulted fault)
    fault_ends fault p = comes_step (run_from k values memories turns) (λ e m. Some (Faulted fault)) (λ e m. asked (Err fault) p e m) (Faulted fault) (0, λ i j. refl)
