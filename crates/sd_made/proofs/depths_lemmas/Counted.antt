-- No more loops are about a state of a graph than those whose begin and end it stands between.
use Rattle.std.proofs.Common.{◌≡◌, ◌∙◌, ◌⊎◌, inl, inr, ℕ, zero, suc, ◌+◌, ◌<◌, ◌≤◌, nat_eq, nat_le, List, [], ◌∷◌, ◌++◌, length, Bool, true, false, not, ◌&&◌, ◌||◌, refl, ap, sym, subst, arith, ne_eqb}
use Rattle.std.specs.List.{AllByRecursion, filter, list_any}
use Rattle.sd_graph.specs.PlainTree.{StateTrees, ExitTree}
use Rattle.sd_graph.specs.TreeParts.{count_states, exits_at}
use Rattle.sd_graph.specs.LoopScope.{numbers_below, leads_to, is_on_loop}
use Rattle.sd_graph.proofs.Among.{true_is_not_false}
use Rattle.sd_wire.specs.loops.Marks.{returns_to}
use Rattle.sd_wire.specs.loops.About.{does_loop_from, is_in_loop, loops_about}
use Rattle.sd_made.proofs.elab_lemmas.StateRanges.{split}
use Rattle.sd_made.proofs.elab_lemmas.LoopEntries.{ClosesLoopAlone}
use Rattle.sd_made.proofs.loops_shown_lemmas.Closing.{both_true}
use Rattle.sd_made.proofs.depths_lemmas.Loops.{Loops, one_if, most_one, is_in, about, IsAmong}

-- ---- how many numbers pass a test

abbrev passing : (ℕ → Bool) → List ℕ → ℕ
passing test [] = 0
passing test (number ∷ numbers) = one_if (test number) + passing test numbers

filtered : (test : ℕ → Bool) (numbers : List ℕ) → length (filter test numbers) ≡ passing test numbers
filtered test [] = refl
filtered test (number ∷ numbers) = by_test (test number) refl (filtered test numbers)
  where
    by_test : (here : Bool) → test number ≡ here → length (filter test numbers) ≡ passing test numbers → length (filter test (number ∷ numbers)) ≡ passing test (number ∷ numbers)
    by_test true e others = rw e (omega (arith, others))
    by_test false e others = rw e (omega (arith, others))

passing_joined : (test : ℕ → Bool) (first second : List ℕ) → passing test (first ++ second) ≡ passing test first + passing test second
passing_joined test [] second = omega arith
passing_joined test (number ∷ first) second = omega (arith, passing_joined test first second)

last_passing : (test : ℕ → Bool) (count : ℕ) → passing test (numbers_below (suc count)) ≡ passing test (numbers_below count) + one_if (test count)
last_passing test count = omega (arith, passing_joined test (numbers_below count) (count ∷ []))

none_passing : (test : ℕ → Bool) → ((number : ℕ) → test number ≡ true → ⊥) → (count : ℕ) → passing test (numbers_below count) ≡ 0
none_passing test none zero = refl
none_passing test none (suc count) = omega (arith, last_passing test count, none_passing test none count, ap one_if (is_false (test count) (none count)))
  where
    is_false : (here : Bool) → (here ≡ true → ⊥) → here ≡ false
    is_false true not_true = absurd (not_true refl)
    is_false false not_true = refl

-- all but one number
abbrev but : (ℕ → Bool) → (one : ℕ) → ℕ → Bool
but test one number = test number && not (nat_eq number one)

but_other : (test : ℕ → Bool) (one number : ℕ) → nat_eq number one ≡ false → but test one number ≡ test number
but_other test one number e = ap (λ same. test number && not same) e ∙ and_true (test number)
  where
    and_true : (here : Bool) → (here && true) ≡ here
    and_true true = refl
    and_true false = refl

same_below : (test : ℕ → Bool) (one count : ℕ) → count ≤ one → passing test (numbers_below count) ≡ passing (but test one) (numbers_below count)
same_below test one zero less = refl
same_below test one (suc count) less =
    omega (
      arith,
      last_passing test count,
      last_passing (but test one) count,
      same_below test one count (omega (arith, less)),
      ap one_if (but_other test one count (ne_eqb count one (λ e. omega (arith, e, less)))),
    )

one_less : (test : ℕ → Bool) (one count : ℕ) → passing test (numbers_below count) ≤ 1 + passing (but test one) (numbers_below count)
one_less test one zero = omega arith
one_less test one (suc count) = by_same (nat_eq count one) refl (one_less test one count)
  where
    by_same : (same : Bool) → nat_eq count one ≡ same → passing test (numbers_below count) ≤ 1 + passing (but test one) (numbers_below count) →
        passing test (numbers_below (suc count)) ≤ 1 + passing (but test one) (numbers_below (suc count))
    by_same true e less =
        let is : count ≡ one = grind (arith, e) in
        omega (arith, last_passing test count, last_passing (but test one) count, same_below test one count (omega (arith, is)), most_one (test count))
    by_same false e less =
        omega (arith, last_passing test count, last_passing (but test one) count, less, ap one_if (but_other test one count e))

-- ---- begins of loops about a state

abbrev IsFound : Loops → (state begin : ℕ) → Type 0
IsFound loops state begin = (end : ℕ) × IsAmong loops (begin, end) × (begin ≤ state) × (state ≤ end)

but_is : (test other : Bool) → (test && not other) ≡ true → (test ≡ true) × (other ≡ false)
but_is true true is = cc
but_is true false is = (refl, refl)
but_is false other is = cc

inside : (state begin end : ℕ) → begin ≤ state → state ≤ end → is_in state (begin, end) ≡ true
inside state begin end least most =
    let first : nat_le begin state ≡ true = grind (arith, least) in
    let second : nat_le state end ≡ true = grind (arith, most) in
    rw (first, second) refl

few_found : (loops : Loops) (state : ℕ) (test : ℕ → Bool) → ((begin : ℕ) → test begin ≡ true → IsFound loops state begin) → (count : ℕ) → passing test (numbers_below count) ≤ about loops state
few_found [] state test found count = omega (arith, none_passing test (λ begin is. (found begin is).1) count)
few_found (loop ∷ loops) state test found count =
    by_test (is_in state loop) refl (few_found loops state (but test loop.0) others count) (λ out. few_found loops state test (without out) count)
  where
    others : (begin : ℕ) → but test loop.0 begin ≡ true → IsFound loops state begin
    others begin is =
        let both = but_is (test begin) (nat_eq begin loop.0) is in
        let of = found begin both.0 in
        elim of.1 [
          | inl here ↦ absurd (apart begin both.1 (ap (λ loop. loop.0) here))
          | inr there ↦ (of.0, there, of.2, of.3)
        ]
      where
        apart : (begin : ℕ) → nat_eq begin loop.0 ≡ false → loop.0 ≡ begin → ⊥
        apart begin e same = absurd (grind (arith, e, same))

    without : is_in state loop ≡ false → (begin : ℕ) → test begin ≡ true → IsFound loops state begin
    without out begin is =
        let of = found begin is in
        elim of.1 [
          | inl here ↦ absurd (true_is_not_false (is_in state loop) (subst (λ loop. is_in state loop ≡ true) (sym here) (inside state begin of.0 of.2 of.3)) out)
          | inr there ↦ (of.0, there, of.2, of.3)
        ]

    by_test : (here : Bool) → is_in state loop ≡ here → passing (but test loop.0) (numbers_below count) ≤ about loops state →
        (is_in state loop ≡ false → passing test (numbers_below count) ≤ about loops state) → passing test (numbers_below count) ≤ one_if (is_in state loop) + about loops state
    by_test true e less more = rw e (omega (arith, one_less test loop.0 count, less))
    by_test false e less more = rw e (omega (arith, more e))

-- ---- of a graph

any_member : {A : Type 0} (test : A → Bool) (members : List A) → list_any test members ≡ true → (member : A) × (test member ≡ true)
any_member test [] h = cc
any_member {A} test (member ∷ members) h = one (test member) refl h (any_member test members)
  where
    one : (here : Bool) → test member ≡ here → (here || list_any test members) ≡ true → (list_any test members ≡ true → (other : A) × (test other ≡ true)) → (other : A) × (test other ≡ true)
    one true e h later = (member, e)
    one false e h later = later h

-- each marked transition closes one of these loops
abbrev pub Closes : Loops → (state : ℕ) → ExitTree → Type 0
Closes loops state exit = exit.back ≡ true → IsAmong loops (exit.to, state)

module _ (states : StateTrees) (loops : Loops) (closed : (number : ℕ) → AllByRecursion (ClosesLoopAlone states number) (exits_at states number))
    (closes : (number : ℕ) → AllByRecursion (Closes loops number) (exits_at states number)) where
  abbrev IsClosed : (begin end : ℕ) → Type 0
  IsClosed begin end = IsAmong loops (begin, end) × ((number : ℕ) → (number < begin) ⊎ (end < number) → leads_to states begin number end ≡ false)

  closing : (begin end : ℕ) (exits : List ExitTree) → AllByRecursion (ClosesLoopAlone states end) exits → AllByRecursion (Closes loops end) exits → list_any (returns_to begin) exits ≡ true → IsClosed begin end
  closing begin end [] alone all h = cc
  closing begin end (exit ∷ exits) alone all h = one (returns_to begin exit) refl h (closing begin end exits alone.1 all.1)
    where
      one : (here : Bool) → returns_to begin exit ≡ here → (here || list_any (returns_to begin) exits) ≡ true → (list_any (returns_to begin) exits ≡ true → IsClosed begin end) → IsClosed begin end
      one true e h later =
          let marked = both_true exit.back (nat_eq exit.to begin) e in
          let same : exit.to ≡ begin = grind (arith, marked.1) in
          subst (λ begin. IsClosed begin end) same (all.0 marked.0, (alone.0 marked.0).1.1)
      one false e h later = later h

  found : (state begin : ℕ) → is_in_loop states state begin ≡ true → IsFound loops state begin
  found state begin h =
      let some = any_member (does_loop_from states state begin) (numbers_below (count_states states)) h in
      let end : ℕ = some.0 in
      let both = both_true (list_any (returns_to begin) (exits_at states end)) (is_on_loop states begin end state) some.1 in
      let on = both_true (leads_to states begin begin state) (leads_to states begin state end) both.1 in
      let of = closing begin end (exits_at states end) (closed end) (closes end) both.0 in
      elim (split state begin) [
        | inl lower ↦ absurd (true_is_not_false (leads_to states begin state end) on.1 (of.1 state (inl lower)))
        | inr least ↦ elim (split end state) [
          | inl higher ↦ absurd (true_is_not_false (leads_to states begin state end) on.1 (of.1 state (inr higher)))
          | inr most ↦ (end, of.0, least, most)
        ]
      ]

  pub fewer_about : (state : ℕ) → loops_about states state ≤ about loops state
  fewer_about state =
      omega (arith, filtered (is_in_loop states state) (numbers_below (count_states states)), few_found loops state (is_in_loop states state) (found state) (count_states states))
