-- Conditions, and the first exit that may be taken.
use Rattle.std.proofs.Common.{◌≡◌, ℕ, ◌<◌, ℤ, ◌+◌, List, [], ◌∷◌, map, length, drop, get_or, Option, Some, None, option_map, Result, Ok, Err, Bool, true, false, refl, sym, ap, ◌∙◌, subst}
use Rattle.std.proofs.lemmas.List.{length-map}
use Rattle.sd_work.specs.declared.fault.FaultKind.{FaultKind}
use Rattle.sd_work.specs.declared.fault.FaultKind.TheVariants.{Subscript}
use Rattle.sd_work.specs.Memory.{Memories}
use Rattle.sd_work.specs.Move.{fault_at}
use Rattle.sd_work.specs.Move as move
use Rattle.sd_work.specs.Exit.{all_seen, placed, decided, passed, or_later, first_exit}
use Rattle.sd_work.specs.Exit as work
use Rattle.sd_graph.specs.PlainTree.{GuardTree, ExitTree}
use Rattle.sd_graph.specs.TreeFold.{exit_tree, guard_tree}
use Rattle.sd_graph.specs.declared.exit.Exit.{Exit}
use Rattle.sd_graph.specs.declared.exit.Guard.{Guard}
use Rattle.sd_graph.specs.TaskletMeaning.{Effect, Meaning, and_then, meaning_of}
use Rattle.sd_graph.specs.Context.{Context, place_at}
use Rattle.sd_graph.specs.Unfold.{does_hold, guard_of, exit_of}
use Rattle.sd_graph.specs.declared.place.Place.{Place}
use Rattle.sd_leaves.specs.leaves.Given.{given_at}
use Rattle.sd_mem.specs.machine.Coming.{IsExit}
use Rattle.sd_leaves.specs.declared.leaves.exit.Next.TheVariants.{By, Fault}
use Rattle.sd_leaves.specs.leaves.Next.{IsNext, condition_of, condition_of_values}
use Rattle.sd_leaves.specs.leaves.Read.{links_seen}
use Rattle.sd_leaves.proofs.leaves_lemmas.Instances.{meant}
use Rattle.sd_leaves.proofs.leaves_lemmas.Lists.{from_here, present}
use Rattle.sd_leaves.proofs.leaves_lemmas.ReadValues.{all_values, seen_by_links}

module _ (context : Context) (guard : GuardTree) (memories : Memories) where
  condition_is : (seen : Option (List (List ℤ))) → links_seen context guard.reads memories ≡ seen →
      condition_of (guard_of context guard) memories ≡ condition_of_values (guard_of context guard).holds (option_map all_values seen)
  condition_is seen is = ap (condition_of_values (guard_of context guard).holds) (seen_by_links context guard.reads memories ∙ ap (option_map all_values) is)

  -- an access of a condition is outside
  pub condition_outside : links_seen context guard.reads memories ≡ None → condition_of (guard_of context guard) memories ≡ Err Subscript
  condition_outside outside = condition_is None outside

  -- a condition whose code answers this
  pub condition_answers : (read : List (List ℤ)) (answer : Meaning (List Effect)) → links_seen context guard.reads memories ≡ Some read →
      meaning_of guard.code (given_at context guard.code guard.reads [] read) ≡ answer →
      condition_of (guard_of context guard) memories ≡ and_then answer (λ effects. Ok (does_hold effects))
  condition_answers read answer is same =
      condition_is (Some read) is
      ∙ ap (λ meaning. and_then meaning (λ effects. Ok (does_hold effects))) (meant context guard.code guard.reads [] memories read is ∙ same)

by_values : (guard : work.Guard Place) (values : Option (List ℤ)) → decided guard values ≡ placed guard.place (condition_of_values guard.holds values)
by_values guard None = refl
by_values guard (Some values) = refl

module _ (context : Context) (exit : ExitTree) (later : List ExitTree) (memories : Memories) where
  abbrev behind : Result (Option (work.Exit Place)) (move.Fault Place)
  behind = first_exit (map (exit_of context) later) memories

  -- an exit without a condition is taken
  pub always_taken : exit.when ≡ None → first_exit (map (exit_of context) (exit ∷ later)) memories ≡ Ok (Some (exit_of context exit))
  always_taken without = ap (λ when. or_later (passed (option_map (guard_of context) when) memories) (exit_of context exit) behind) without

  module _ (guard : GuardTree) (is : exit.when ≡ Some guard) where
    by_condition : (answer : Result Bool FaultKind) → condition_of (guard_of context guard) memories ≡ answer →
        first_exit (map (exit_of context) (exit ∷ later)) memories ≡ or_later (placed (place_at context guard.line) answer) (exit_of context exit) behind
    by_condition answer same =
        ap (λ when. or_later (passed (option_map (guard_of context) when) memories) (exit_of context exit) behind) is
        ∙ ap (λ passes. or_later passes (exit_of context exit) behind) (by_values (guard_of context guard) (all_seen (guard_of context guard).reads memories))
        ∙ ap (λ answer. or_later (placed (place_at context guard.line) answer) (exit_of context exit) behind) same

    -- its condition holds
    pub taken : condition_of (guard_of context guard) memories ≡ Ok true → first_exit (map (exit_of context) (exit ∷ later)) memories ≡ Ok (Some (exit_of context exit))
    taken holds = by_condition (Ok true) holds

    -- its condition does not hold
    pub passed_by : condition_of (guard_of context guard) memories ≡ Ok false → first_exit (map (exit_of context) (exit ∷ later)) memories ≡ first_exit (map (exit_of context) later) memories
    passed_by not_held = by_condition (Ok false) not_held

    -- its condition comes to a fault
    pub condition_fails : (kind : FaultKind) → condition_of (guard_of context guard) memories ≡ Err kind →
        first_exit (map (exit_of context) (exit ∷ later)) memories ≡ Err (fault_at (place_at context guard.line) kind)
    condition_fails kind fails = by_condition (Err kind) fails

-- the exit of a number of a list, where no exit before it may be taken
module _ (context : Context) (exits : List Exit) (memories : Memories) (number : ℕ) (exit : Exit) (within : number < length exits) (is : exit ≡ get_or exits number exit)
    (not_before : first_exit (map (exit_of context) (map exit_tree exits)) memories ≡ first_exit (map (exit_of context) (map exit_tree (drop number exits))) memories) where
  abbrev later : List ExitTree
  later = map exit_tree (drop (number + 1) exits)

  exit_here : first_exit (map (exit_of context) (map exit_tree exits)) memories ≡ first_exit (map (exit_of context) (exit_tree exit ∷ later)) memories
  exit_here = not_before ∙ ap (λ left. first_exit (map (exit_of context) (map exit_tree left)) memories) (from_here exits number exit within is)

  is_next : first_exit (map (exit_of context) (exit_tree exit ∷ later)) memories ≡ Ok (Some (exit_of context (exit_tree exit))) →
      IsNext context (map exit_tree exits) memories (By number)
  is_next first = (
    subst (λ (count : ℕ). number < count) (sym (length-map exits exit_tree)) within,
    subst (λ (there : Option ExitTree). IsExit context there (map exit_tree exits) memories) (sym (present exit_tree exits number exit within is)) (exit_here ∙ first),
  )

  -- it has no condition
  pub next_always : exit.when ≡ None → IsNext context (map exit_tree exits) memories (By number)
  next_always without = is_next (always_taken context (exit_tree exit) later memories (ap (option_map guard_tree) without))

  module _ (guard : Guard) (when : exit.when ≡ Some guard) where
    -- its condition holds
    pub next_holds : Ok true ≡ condition_of (guard_of context (guard_tree guard)) memories → IsNext context (map exit_tree exits) memories (By number)
    next_holds holds = is_next (taken context (exit_tree exit) later memories (guard_tree guard) (ap (option_map guard_tree) when) (sym holds))

    -- it does not hold
    pub next_later : Ok false ≡ condition_of (guard_of context (guard_tree guard)) memories →
        first_exit (map (exit_of context) (map exit_tree exits)) memories ≡ first_exit (map (exit_of context) later) memories
    next_later not_held = exit_here ∙ passed_by context (exit_tree exit) later memories (guard_tree guard) (ap (option_map guard_tree) when) (sym not_held)

    -- it comes to a fault
    pub next_fails : (kind : FaultKind) (place : Place) → Err kind ≡ condition_of (guard_of context (guard_tree guard)) memories → place ≡ place_at context guard.line →
        IsNext context (map exit_tree exits) memories (Fault place kind)
    next_fails kind place fails place_is =
        exit_here ∙ condition_fails context (exit_tree exit) later memories (guard_tree guard) (ap (option_map guard_tree) when) kind (sym fails) ∙ ap (λ place. Err (fault_at place kind)) (sym place_is)
