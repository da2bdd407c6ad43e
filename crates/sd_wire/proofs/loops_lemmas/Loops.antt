-- Loops that are there, and graphs without one.
use Rattle.std.proofs.Common.{◌≡◌, ℕ, zero, suc, ◌<◌, List, [], ◌∷◌, length, Bool, true, false, ◌&&◌, ◌||◌, nat_eq, refl, ap, subst, ◌∙◌, arith}
use Rattle.std.specs.List.{list_any, filter, flat_map}
use Rattle.std.proofs.lemmas.List.Folds.{list_any-append}
use Rattle.sd_graph.specs.PlainTree.{StateTrees, no_state, and_state, ExitTree}
use Rattle.sd_graph.specs.TreeParts.{exits_at, count_states}
use Rattle.sd_graph.specs.LoopScope.{numbers_below, closes_loop, is_on_loop, is_in_force, loops_in_force}
use Rattle.sd_wire.specs.loops.About.{does_loop_from, is_in_loop, loops_about}
use Rattle.sd_wire.specs.loops.Marks.{is_any_marked, is_begin, returns_to}

or_true : (b : Bool) → (b || (true || false)) ≡ true
or_true true = refl
or_true false = refl

-- a test of a number below another
last_or_before : (test : ℕ → Bool) (count number : ℕ) → number < suc count → test number ≡ true → (number < count → list_any test (numbers_below count) ≡ true) →
    (last : Bool) → nat_eq number count ≡ last → list_any test (numbers_below (suc count)) ≡ true
last_or_before test count number below is before true last =
    let same : number ≡ count = grind (arith, last) in
    list_any-append test (numbers_below count) (count ∷ [])
    ∙ ap (λ (b : Bool). list_any test (numbers_below count) || (b || false)) (subst (λ (n : ℕ). test n ≡ true) same is)
    ∙ or_true (list_any test (numbers_below count))
last_or_before test count number below is before false last =
    let less : number < count = grind (arith, last, below) in
    list_any-append test (numbers_below count) (count ∷ []) ∙ ap (λ (b : Bool). b || list_any test (count ∷ [])) (before less)

pub any_below : (test : ℕ → Bool) (count number : ℕ) → number < count → test number ≡ true → list_any test (numbers_below count) ≡ true
any_below test zero number below is = absurd (omega arith)
any_below test (suc count) number below is = last_or_before test count number below is (λ less. any_below test count number less is) (nat_eq number count) refl

-- one number more
pub any_more : (test : ℕ → Bool) (count next : ℕ) → next ≡ suc count → list_any test (numbers_below count) ≡ false → test count ≡ false → list_any test (numbers_below next) ≡ false
any_more test count next is none last =
    ap (λ (n : ℕ). list_any test (numbers_below n)) is ∙ list_any-append test (numbers_below count) (count ∷ []) ∙ (λ i. none i || (last i || false))

-- ---- states to which no marked transition leads

both_false : (a b : Bool) → (a || b) ≡ false → (a ≡ false) × (b ≡ false)
both_false true b is = cc
both_false false b is = (refl, is)

-- a transition that does not return to a state closes no loop there
not_closed : (back to sets : Bool) → (back && to) ≡ false → (back && (to && sets)) ≡ false
not_closed true true sets is = cc
not_closed true false sets is = refl
not_closed false to sets is = refl

no_closing : (begin variable : ℕ) (exits : List ExitTree) → list_any (returns_to begin) exits ≡ false → list_any (closes_loop begin variable) exits ≡ false
no_closing begin variable [] is = refl
no_closing begin variable (exit ∷ exits) is =
    let parts = both_false (returns_to begin exit) (list_any (returns_to begin) exits) is in
    λ i. not_closed exit.back (nat_eq exit.to begin) (list_any (λ assignment. nat_eq assignment.0 variable) exit.set) parts.0 i || no_closing begin variable exits parts.1 i

no_closing_at : (begin variable : ℕ) (states : StateTrees) (number : ℕ) → is_begin begin states ≡ false → list_any (closes_loop begin variable) (exits_at states number) ≡ false
no_closing_at begin variable no_state number is = refl
no_closing_at begin variable (and_state items exits states) zero is = no_closing begin variable exits (both_false (list_any (returns_to begin) exits) (is_begin begin states) is).0
no_closing_at begin variable (and_state items exits states) (suc number) is = no_closing_at begin variable states number (both_false (list_any (returns_to begin) exits) (is_begin begin states) is).1

-- a test that no number passes
pub none_passes : (test : ℕ → Bool) → ((number : ℕ) → test number ≡ false) → (numbers : List ℕ) → list_any test numbers ≡ false
none_passes test none [] = refl
none_passes test none (number ∷ numbers) = rw (none number) (none_passes test none numbers)

none_kept : (test : ℕ → Bool) → ((number : ℕ) → test number ≡ false) → (numbers : List ℕ) → filter test numbers ≡ []
none_kept test none [] = refl
none_kept test none (number ∷ numbers) = rw (none number) (none_kept test none numbers)

none_made : (made : ℕ → List ℕ) → ((number : ℕ) → made number ≡ []) → (numbers : List ℕ) → flat_map made numbers ≡ []
none_made made none [] = refl
none_made made none (number ∷ numbers) = grind (arith, none number, none_made made none numbers)

-- no variable of a loop with this begin is in force
pub no_variables : (states : StateTrees) (variables state begin : ℕ) → is_begin begin states ≡ false → filter (is_in_force states state begin) (numbers_below variables) ≡ []
no_variables states variables state begin is = none_kept (is_in_force states state begin) (λ variable. none_passes _ (no_end variable) (numbers_below (count_states states))) (numbers_below variables)
  where
    no_end : (variable end : ℕ) → (list_any (closes_loop begin variable) (exits_at states end) && is_on_loop states begin end state) ≡ false
    no_end variable end = ap (λ (b : Bool). b && is_on_loop states begin end state) (no_closing_at begin variable states end is)

-- ---- graphs without a marked transition

unmarked : (begin : ℕ) (exits : List ExitTree) → list_any (λ exit. exit.back) exits ≡ false → list_any (returns_to begin) exits ≡ false
unmarked begin [] is = refl
unmarked begin (exit ∷ exits) is =
    let parts = both_false exit.back (list_any (λ exit. exit.back) exits) is in
    rw parts.0 (unmarked begin exits parts.1)

no_begin : (begin : ℕ) (states : StateTrees) → is_any_marked states ≡ false → is_begin begin states ≡ false
no_begin begin no_state is = refl
no_begin begin (and_state items exits states) is =
    let parts = both_false (list_any (λ exit. exit.back) exits) (is_any_marked states) is in
    λ i. unmarked begin exits parts.0 i || no_begin begin states parts.1 i

pub no_loops : (states : StateTrees) (variables state : ℕ) → is_any_marked states ≡ false → loops_in_force states variables state ≡ []
no_loops states variables state is = none_made _ (λ begin. no_variables states variables state begin (no_begin begin states is)) (numbers_below (count_states states))

-- ---- loops about a state

no_return_at : (begin : ℕ) (states : StateTrees) (number : ℕ) → is_begin begin states ≡ false → list_any (returns_to begin) (exits_at states number) ≡ false
no_return_at begin no_state number is = refl
no_return_at begin (and_state items exits states) zero is = (both_false (list_any (returns_to begin) exits) (is_begin begin states) is).0
no_return_at begin (and_state items exits states) (suc number) is = no_return_at begin states number (both_false (list_any (returns_to begin) exits) (is_begin begin states) is).1

pub none_about : (states : StateTrees) (state : ℕ) → is_any_marked states ≡ false → loops_about states state ≡ 0
none_about states state is = ap (λ (kept : List ℕ). length kept) (none_kept (is_in_loop states state) (λ begin. none_passes _ (no_end begin) (numbers_below (count_states states))) (numbers_below (count_states states)))
  where
    no_end : (begin end : ℕ) → does_loop_from states state begin end ≡ false
    no_end begin end = ap (λ (b : Bool). b && is_on_loop states begin end state) (no_return_at begin states end (no_begin begin states is))
