-- The states in which the variables of loops are in force.
use Rattle.std.proofs.Common.{◌≡◌, ◌⊎◌, inl, inr, ℕ, zero, suc, ◌<◌, ◌≤◌, List, [], ◌∷◌, ◌++◌, map, length, Bool, true, false, not, ◌&&◌, ◌||◌, nat_eq, cond, if◌then◌else◌, slice_index_or, refl, ap, sym, ◌∙◌, arith, append-nil}
use Rattle.std.specs.List.{list_any, filter, flat_map}
use Rattle.std.proofs.lemmas.List.Folds.{list_any-append}
use Rattle.std.proofs.lemmas.List.Elements.{filter-append}
use Rattle.std.proofs.lemmas.List.Concat.{flat_map-append}
use Rattle.sd_range.specs.declared.affine.Affine.{Affine}
use Rattle.sd_graph.specs.PlainTree.{StateTrees, no_state, and_state, ExitTree}
use Rattle.sd_graph.specs.TreeParts.{count_states, exits_at}
use Rattle.sd_graph.specs.LoopScope.{numbers_below, closes_loop, leads_within, leads_to, is_on_loop, is_in_force}
use Rattle.sd_graph.specs.Wiring.{has_number}
use Rattle.sd_graph.proofs.Among.{nat_eq_same, or_first, or_second}
use Rattle.sd_wire.specs.declared.loops.span.LoopSpan.{LoopSpan}
use Rattle.sd_wire.specs.declared.loops.span.LoopEnd.{LoopEnd}
use Rattle.sd_wire.specs.loops.Marks.{variables_set, closing_variables}
use Rattle.sd_wire.specs.loops.Spans.{is_before_end, leads_to_end, variables_in}
use Rattle.sd_wire.proofs.loops_lemmas.Loops.{none_passes}
use Rattle.sd_wire.proofs.loops_lemmas.Spread.{or_cases}

-- ---- variables that no marked transition sets

not_true : (is : Bool) → (is ≡ true → false ≡ true) → is ≡ false
not_true true h = sym (h refl)
not_true false h = refl

among_set : (variable : ℕ) (set : List (ℕ × Affine)) → list_any (λ assignment. nat_eq assignment.0 variable) set ≡ true → has_number (map (λ assignment. assignment.0) set) variable ≡ true
among_set variable [] h = cc
among_set variable (assignment ∷ set) h = elim (or_cases (nat_eq assignment.0 variable) (list_any (λ assignment. nat_eq assignment.0 variable) set) h) [
  | inl here ↦ (let same : variable ≡ assignment.0 = grind (arith, here) in
      or_first (nat_eq variable assignment.0) (has_number (map (λ assignment. assignment.0) set) variable) (nat_eq_same variable assignment.0 same))
  | inr there ↦ or_second (nat_eq variable assignment.0) (has_number (map (λ assignment. assignment.0) set) variable) (among_set variable set there)
]

set_found : (back to : Bool) (variable : ℕ) (set : List (ℕ × Affine)) → (back && (to && list_any (λ assignment. nat_eq assignment.0 variable) set)) ≡ true →
    has_number (if back && to then map (λ assignment. assignment.0) set else []) variable ≡ true
set_found true true variable set h = among_set variable set h
set_found true false variable set h = cc
set_found false to variable set h = cc

either_has : (first second : List ℕ) (variable : ℕ) → (has_number first variable || has_number second variable) ≡ true → has_number (first ++ second) variable ≡ true
either_has first second variable h = list_any-append (nat_eq variable) first second ∙ h

closed_by : (begin variable : ℕ) (exits : List ExitTree) → list_any (closes_loop begin variable) exits ≡ true → has_number (flat_map (variables_set begin) exits) variable ≡ true
closed_by begin variable [] h = cc
closed_by begin variable (exit ∷ exits) h = either_has (variables_set begin exit) (flat_map (variables_set begin) exits) variable
    (elim (or_cases (closes_loop begin variable exit) (list_any (closes_loop begin variable) exits) h) [
      | inl here ↦ or_first (has_number (variables_set begin exit) variable) (has_number (flat_map (variables_set begin) exits) variable) (set_found exit.back (nat_eq exit.to begin) variable exit.set here)
      | inr there ↦ or_second (has_number (variables_set begin exit) variable) (has_number (flat_map (variables_set begin) exits) variable) (closed_by begin variable exits there)
    ])

closed_at : (begin variable : ℕ) (states : StateTrees) (number : ℕ) → list_any (closes_loop begin variable) (exits_at states number) ≡ true → has_number (closing_variables begin states) variable ≡ true
closed_at begin variable no_state number h = cc
closed_at begin variable (and_state items exits states) zero h = either_has (flat_map (variables_set begin) exits) (closing_variables begin states) variable
    (or_first (has_number (flat_map (variables_set begin) exits) variable) (has_number (closing_variables begin states) variable) (closed_by begin variable exits h))
closed_at begin variable (and_state items exits states) (suc number) h = either_has (flat_map (variables_set begin) exits) (closing_variables begin states) variable
    (or_second (has_number (flat_map (variables_set begin) exits) variable) (has_number (closing_variables begin states) variable) (closed_at begin variable states number h))

pub not_closing : (states : StateTrees) (state begin variable : ℕ) → has_number (closing_variables begin states) variable ≡ false → is_in_force states state begin variable ≡ false
not_closing states state begin variable none = none_passes _ no_end (numbers_below (count_states states))
  where
    no_end : (end : ℕ) → (list_any (closes_loop begin variable) (exits_at states end) && is_on_loop states begin end state) ≡ false
    no_end end = ap (λ (b : Bool). b && is_on_loop states begin end state) (not_true (list_any (closes_loop begin variable) (exits_at states end)) (λ h. sym none ∙ closed_at begin variable states end h))

-- ---- ends of loops

both_apart : (first closes second : Bool) → (closes && (first && second)) ≡ (first && (closes && second))
both_apart true closes second = refl
both_apart false true second = refl
both_apart false false second = refl

or_apart : (first one others : Bool) → ((first && one) || (first && others)) ≡ (first && (one || others))
or_apart true one others = refl
or_apart false one others = refl

none_apart : (first : Bool) → false ≡ (first && false)
none_apart true = refl
none_apart false = refl

-- a state is in force where the begin leads to it and it leads to an end
pub apart : (states : StateTrees) (state begin variable : ℕ) (ends : List ℕ) →
    list_any (λ end. list_any (closes_loop begin variable) (exits_at states end) && is_on_loop states begin end state) ends
    ≡ (leads_to states begin begin state && list_any (is_before_end states begin variable state) ends)
apart states state begin variable [] = none_apart (leads_to states begin begin state)
apart states state begin variable (end ∷ ends) =
    (λ i. both_apart (leads_to states begin begin state) (list_any (closes_loop begin variable) (exits_at states end)) (leads_to states begin state end) i || apart states state begin variable ends i)
    ∙ or_apart (leads_to states begin begin state) (is_before_end states begin variable state end) (list_any (is_before_end states begin variable state) ends)

pub or_nothing : (b : Bool) → (b || false) ≡ b
or_nothing true = refl
or_nothing false = refl

-- one number more
pub any_next : (test : ℕ → Bool) (count next : ℕ) → next ≡ suc count → list_any test (numbers_below next) ≡ (list_any test (numbers_below count) || test count)
any_next test count next is =
    ap (λ (n : ℕ). list_any test (numbers_below n)) is ∙ list_any-append test (numbers_below count) (count ∷ []) ∙ ap (λ (b : Bool). list_any test (numbers_below count) || b) (or_nothing (test count))

pub any_last : (state : ℕ) (ends : List LoopEnd) (end : LoopEnd) → list_any (leads_to_end state) (ends ++ end ∷ []) ≡ (list_any (leads_to_end state) ends || leads_to_end state end)
any_last state ends end = list_any-append (leads_to_end state) ends (end ∷ []) ∙ ap (λ (b : Bool). list_any (leads_to_end state) ends || b) (or_nothing (leads_to_end state end))

-- ---- states that are not there

no_exits : (states : StateTrees) (state : ℕ) → count_states states ≤ state → exits_at states state ≡ []
no_exits no_state state h = refl
no_exits (and_state items exits states) zero h = absurd (omega (arith, h))
no_exits (and_state items exits states) (suc state) h = no_exits states state (omega (arith, h))

other_state : (from to : ℕ) → to < from → nat_eq from to ≡ false
other_state from to less = not_true (nat_eq from to) (λ h. (let same : from ≡ to = grind (arith, h) in absurd (omega (arith, same, less))))

leads_nowhere : (states : StateTrees) (avoided most from to : ℕ) → count_states states ≤ from → to < from → leads_within states avoided most from to ≡ false
leads_nowhere states avoided zero from to missing less = other_state from to less
leads_nowhere states avoided (suc most) from to missing less =
    (λ i. other_state from to less i || list_any (λ exit. not (nat_eq exit.to avoided) && leads_within states avoided most exit.to to) (no_exits states from missing i))

none_below : (test : ℕ → Bool) (count : ℕ) → ((number : ℕ) → number < count → test number ≡ false) → list_any test (numbers_below count) ≡ false
none_below test zero none = refl
none_below test (suc count) none =
    any_next test count (suc count) refl ∙ (λ i. none_below test count (λ number less. none number (omega (arith, less))) i || none count (omega arith) i)

and_false : (b : Bool) → (b && false) ≡ false
and_false true = refl
and_false false = refl

pub not_there : (states : StateTrees) (state begin variable : ℕ) → count_states states ≤ state → is_in_force states state begin variable ≡ false
not_there states state begin variable missing =
    apart states state begin variable (numbers_below (count_states states))
    ∙ ap (λ (b : Bool). leads_to states begin begin state && b) (none_below (is_before_end states begin variable state) (count_states states) no_end)
    ∙ and_false (leads_to states begin begin state)
  where
    no_end : (end : ℕ) → end < count_states states → is_before_end states begin variable state end ≡ false
    no_end end less =
        ap (λ (b : Bool). list_any (closes_loop begin variable) (exits_at states end) && b) (leads_nowhere states begin (count_states states) state end missing (omega (arith, missing, less)))
        ∙ and_false (list_any (closes_loop begin variable) (exits_at states end))

-- ---- tables

pub at_more : (table : List Bool) (is : Bool) (state : ℕ) → state < length table → slice_index_or (table ++ is ∷ []) state false ≡ slice_index_or table state false
at_more [] is state less = absurd (omega (arith, less))
at_more (first ∷ table) is zero less = refl
at_more (first ∷ table) is (suc state) less = at_more table is state (omega (arith, less))

pub at_last : (table : List Bool) (is : Bool) (state : ℕ) → state ≡ length table → slice_index_or (table ++ is ∷ []) state false ≡ is
at_last [] is zero same = refl
at_last [] is (suc state) same = absurd (omega (arith, same))
at_last (first ∷ table) is zero same = absurd (omega (arith, same))
at_last (first ∷ table) is (suc state) same = at_last table is state (omega (arith, same))

pub at_end : (table : List Bool) (state : ℕ) → length table ≤ state → slice_index_or table state false ≡ false
at_end [] state h = refl
at_end (first ∷ table) zero h = absurd (omega (arith, h))
at_end (first ∷ table) (suc state) h = at_end table state (omega (arith, h))

-- ---- the variables in force in a state

-- a variable that is in force, alone
abbrev shown : Bool → ℕ → List ℕ
shown true variable = variable ∷ []
shown false variable = []

abbrev is_in : (state : ℕ) → LoopSpan → Bool
is_in state span = slice_index_or span.states.items state false

shown_more : (here : Bool) (state : ℕ) (first : LoopSpan) (spans : List LoopSpan) → map (λ span. span.variable) (cond here (first ∷ filter (is_in state) spans) (filter (is_in state) spans)) ≡ shown here first.variable ++ variables_in spans state
shown_more true state first spans = refl
shown_more false state first spans = refl

and_then : (first more last : List ℕ) (here : Bool) (variable : ℕ) → more ≡ first ++ last → (shown here variable ++ more) ≡ ((shown here variable ++ first) ++ last)
and_then first more last true variable is = ap (λ (l : List ℕ). variable ∷ l) is
and_then first more last false variable is = is

span_more : (spans : List LoopSpan) (span : LoopSpan) (state : ℕ) → variables_in (spans ++ span ∷ []) state ≡ variables_in spans state ++ shown (is_in state span) span.variable
span_more [] span state = shown_more (is_in state span) state span [] ∙ append-nil (shown (is_in state span) span.variable)
span_more (first ∷ spans) span state =
    shown_more (is_in state first) state first (spans ++ span ∷ [])
    ∙ and_then (variables_in spans state) (variables_in (spans ++ span ∷ []) state) (shown (is_in state span) span.variable) (is_in state first) first.variable (span_more spans span state)
    ∙ ap (λ (l : List ℕ). l ++ shown (is_in state span) span.variable) (sym (shown_more (is_in state first) state first spans))

kept_one : (here : Bool) (test : ℕ → Bool) (number : ℕ) → test number ≡ here → filter test (number ∷ []) ≡ shown here number
kept_one true test number is = rw is refl
kept_one false test number is = rw is refl

append_more : (first second third : List ℕ) → ((first ++ second) ++ third) ≡ (first ++ (second ++ third))
append_more [] second third = refl
append_more (number ∷ first) second third = ap (λ (l : List ℕ). number ∷ l) (append_more first second third)

-- one variable more, with its table
pub span_pushed : (test : ℕ → Bool) (spans more : List LoopSpan) (span : LoopSpan) (state number : ℕ) → more ≡ spans ++ span ∷ [] → span.variable ≡ number →
    slice_index_or span.states.items state false ≡ test number → variables_in more state ≡ variables_in spans state ++ filter test (number ∷ [])
span_pushed test spans more span state number grown named told =
    ap (λ (l : List LoopSpan). variables_in l state) grown
    ∙ span_more spans span state
    ∙ ap (λ (l : List ℕ). variables_in spans state ++ l) ((λ i. shown (told i) (named i)) ∙ sym (kept_one (test number) test number refl))

-- one that is not in force
pub span_passed : (test : ℕ → Bool) (number : ℕ) (kept : List ℕ) → test number ≡ false → kept ≡ kept ++ filter test (number ∷ [])
span_passed test number kept told = sym (append-nil kept) ∙ ap (λ (l : List ℕ). kept ++ l) (sym (kept_one false test number told))

-- one number more
pub kept_next : (test : ℕ → Bool) (number next : ℕ) (before so_far more : List ℕ) → next ≡ suc number → so_far ≡ before ++ filter test (numbers_below number) →
    more ≡ so_far ++ filter test (number ∷ []) → more ≡ before ++ filter test (numbers_below next)
kept_next test number next before so_far more is so_far_is more_is =
    more_is ∙ ap (λ (l : List ℕ). l ++ filter test (number ∷ [])) so_far_is
    ∙ append_more before (filter test (numbers_below number)) (filter test (number ∷ []))
    ∙ ap (λ (l : List ℕ). before ++ l) (sym (filter-append test (numbers_below number) (number ∷ [])) ∙ ap (λ (n : ℕ). filter test (numbers_below n)) (sym is))

-- none of them
pub none_kept : (test : ℕ → Bool) (count : ℕ) (kept : List ℕ) → ((number : ℕ) → test number ≡ false) → kept ≡ kept ++ filter test (numbers_below count)
none_kept test zero kept none = sym (append-nil kept)
none_kept test (suc count) kept none =
    kept_next test count (suc count) kept kept kept refl (none_kept test count kept none) (span_passed test count kept (none count))

-- one begin more
pub begun_next : (made : ℕ → List ℕ) (number next : ℕ) (so_far more : List ℕ) → next ≡ suc number → so_far ≡ flat_map made (numbers_below number) →
    more ≡ so_far ++ made number → more ≡ flat_map made (numbers_below next)
begun_next made number next so_far more is so_far_is more_is =
    more_is ∙ ap (λ (l : List ℕ). l ++ made number) so_far_is
    ∙ ap (λ (l : List ℕ). flat_map made (numbers_below number) ++ l) (sym (append-nil (made number)))
    ∙ sym (flat_map-append made (numbers_below number) (number ∷ [])) ∙ ap (λ (n : ℕ). flat_map made (numbers_below n)) (sym is)

pub no_number : (numbers : List ℕ) (number : ℕ) → length numbers ≡ 0 → has_number numbers number ≡ false
no_number [] number none = refl
no_number (first ∷ numbers) number none = absurd (omega (arith, none))

-- ---- numbers

pub less_or_more : (number other : ℕ) → (number < other) ⊎ (other ≤ number)
less_or_more zero zero = inr (omega arith)
less_or_more zero (suc other) = inl (omega arith)
less_or_more (suc number) zero = inr (omega arith)
less_or_more (suc number) (suc other) = elim (less_or_more number other) [
  | inl less ↦ inl (omega (arith, less))
  | inr more ↦ inr (omega (arith, more))
]

pub less_or_same : (number other : ℕ) → number ≤ other → (number < other) ⊎ (number ≡ other)
less_or_same number other within = elim (less_or_more number other) [
  | inl less ↦ inl less
  | inr more ↦ inr (omega (arith, more, within))
]
