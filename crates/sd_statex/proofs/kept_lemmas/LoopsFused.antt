-- The loop variables in force in a state are in force where it stands in the graph with two states fused.
use Rattle.std.proofs.Common.{◌≡◌, ◌≢◌, ◌⊎◌, inl, inr, ℕ, zero, suc, ◌<◌, List, [], ◌∷◌, ◌++◌, nat_eq, Bool, true, false, cond, not, ◌&&◌, ◌||◌, refl, sym, ◌∙◌, ap, subst, arith}
use Rattle.std.specs.List.{AllByRecursion, list_any, filter, flat_map}
use Rattle.sd_graph.specs.PlainTree.{StateTrees, ExitTree}
use Rattle.sd_graph.specs.TreeParts.{exits_at, count_states}
use Rattle.sd_graph.specs.Wiring.{has_number}
use Rattle.sd_graph.specs.LoopScope.{numbers_below, leads_within, leads_to, is_on_loop, closes_loop, is_in_force, loops_in_force}
use Rattle.sd_graph.proofs.LoopPaths.{paths_are_found}
use Rattle.sd_statex.specs.states.FusedStates.{lowered, exit_lowered, exits_lowered, fused, plain_exit, AreFusible}
use Rattle.sd_statex.proofs.states_lemmas.StatesFused.{is_same_state}
use Rattle.sd_statex.proofs.kept_lemmas.Moved.{equal, is_equal, is_other, differ, lowered_apart, moved, moved_second, moved_apart, moved_below, exits_moved}

-- ---- tests

pub either : (a b : Bool) → (a || b) ≡ true → (a ≡ true) ⊎ (b ≡ true)
either true b is = inl refl
either false b is = inr is

or_first : (a b : Bool) → a ≡ true → (a || b) ≡ true
or_first true b is = refl
or_first false b is = cc

or_second : (a b : Bool) → b ≡ true → (a || b) ≡ true
or_second true b is = refl
or_second false b is = is

and_both : (a b : Bool) → (a && b) ≡ true → (a ≡ true) × (b ≡ true)
and_both true b is = (refl, is)
and_both false b is = cc

joined : (a b : Bool) → a ≡ true → b ≡ true → (a && b) ≡ true
joined true b is also = also
joined false b is also = cc

not_equal : (a b : ℕ) → a ≢ b → not (nat_eq a b) ≡ true
not_equal a b apart = ap not (is_other a b apart)

is_apart : (a b : ℕ) → not (nat_eq a b) ≡ true → a ≢ b
is_apart a b is = differ a b (none (nat_eq a b) is)
  where
    none : (same : Bool) → not same ≡ true → same ≡ false
    none true is = cc
    none false is = refl

-- ---- numbers below another

any_both : (test : ℕ → Bool) (first rest : List ℕ) → list_any test (first ++ rest) ≡ (list_any test first || list_any test rest)
any_both test [] rest = refl
any_both test (one ∷ first) rest = ap (λ more. test one || more) (any_both test first rest) ∙ or_assoc (test one) (list_any test first) (list_any test rest)
  where
    or_assoc : (a b c : Bool) → (a || (b || c)) ≡ ((a || b) || c)
    or_assoc true b c = refl
    or_assoc false b c = refl

or_none : (a : Bool) → (a || false) ≡ a
or_none true = refl
or_none false = refl

-- one of them passes a test
abbrev pub OneBelow : (test : ℕ → Bool) → (count : ℕ) → Type 0
OneBelow test count = (number : ℕ) × ((number < count) × (test number ≡ true))

one_more : (test : ℕ → Bool) (count : ℕ) → OneBelow test count → OneBelow test (suc count)
one_more test count there = (there.0, (omega (arith, there.1.0), there.1.1))

pub one_below : (test : ℕ → Bool) (count : ℕ) → list_any test (numbers_below count) ≡ true → OneBelow test count
one_below test zero is = cc
one_below test (suc count) is = elim (either (list_any test (numbers_below count)) (test count || false) (sym (any_both test (numbers_below count) (count ∷ [])) ∙ is)) [
  | inl before ↦ one_more test count (one_below test count before)
  | inr last ↦ (count, (omega arith, sym (or_none (test count)) ∙ last))
]

less_yet : (number count : ℕ) → number < suc count → number ≢ count → number < count
less_yet number count below apart = let other : nat_eq number count ≡ false = is_other number count apart in grind (arith, below, other)

pub below_one : (test : ℕ → Bool) (count number : ℕ) → number < count → test number ≡ true → list_any test (numbers_below count) ≡ true
below_one test zero number below is = absurd (omega (arith, below))
below_one test (suc count) number below is = any_both test (numbers_below count) (count ∷ []) ∙ elim (is_same_state number count) [
  | inl same ↦ or_second (list_any test (numbers_below count)) (test count || false) (or_none (test count) ∙ subst (λ n. test n ≡ true) same is)
  | inr apart ↦ or_first (list_any test (numbers_below count)) (test count || false) (below_one test count number (less_yet number count below apart) is)
]

has_both : (first rest : List ℕ) (n : ℕ) → has_number (first ++ rest) n ≡ (has_number first n || has_number rest n)
has_both [] rest n = refl
has_both (one ∷ first) rest n = ap (λ more. nat_eq n one || more) (has_both first rest n) ∙ or_assoc (nat_eq n one) (has_number first n) (has_number rest n)
  where
    or_assoc : (a b c : Bool) → (a || (b || c)) ≡ ((a || b) || c)
    or_assoc true b c = refl
    or_assoc false b c = refl

-- a number is one of those that some give
flat_any : (made : ℕ → List ℕ) (numbers : List ℕ) (n : ℕ) → has_number (flat_map made numbers) n ≡ list_any (λ number. has_number (made number) n) numbers
flat_any made [] n = refl
flat_any made (number ∷ numbers) n = has_both (made number) (flat_map made numbers) n ∙ ap (λ more. has_number (made number) n || more) (flat_any made numbers n)

-- a number passes a test and is one of these
kept_any : (test : ℕ → Bool) (numbers : List ℕ) (n : ℕ) → has_number (filter test numbers) n ≡ (has_number numbers n && test n)
kept_any test [] n = refl
kept_any test (number ∷ numbers) n = one (kept_any test numbers n) (test number) refl
  where
    same : (number n : ℕ) (passes : Bool) → test number ≡ passes → nat_eq n number ≡ true → test n ≡ passes
    same number n passes is equals = ap test (equal n number equals) ∙ is

    true_case : (here there now : Bool) → (here ≡ true → now ≡ true) → (here || (there && now)) ≡ ((here || there) && now)
    true_case true there now is = sym (is refl)
    true_case false there now is = refl

    false_case : (here there now : Bool) → (here ≡ true → now ≡ false) → (there && now) ≡ ((here || there) && now)
    false_case true true now is = refl
    false_case true false now is = sym (is refl)
    false_case false there now is = refl

    one : has_number (filter test numbers) n ≡ (has_number numbers n && test n) → (passes : Bool) → test number ≡ passes → has_number (cond (test number) (number ∷ filter test numbers) (filter test numbers)) n ≡ ((nat_eq n number || has_number numbers n) && test n)
    one rest true is =
        ap (λ passes. has_number (cond passes (number ∷ filter test numbers) (filter test numbers)) n) is
        ∙ ap (λ more. nat_eq n number || more) rest
        ∙ true_case (nat_eq n number) (has_number numbers n) (test n) (same number n true is)
    one rest false is =
        ap (λ passes. has_number (cond passes (number ∷ filter test numbers) (filter test numbers)) n) is
        ∙ rest
        ∙ false_case (nat_eq n number) (has_number numbers n) (test n) (same number n false is)

module _ (first second : ℕ) (states : StateTrees) (fusible : AreFusible first second states) where
  abbrev after : StateTrees
  after = fused first second states

  abbrev place : (state : ℕ) → ℕ
  place state = moved first second state

  -- ---- paths

  abbrev goes_on : (avoided most to : ℕ) → ExitTree → Bool
  goes_on avoided most to exit = not (nat_eq exit.to avoided) && leads_within states avoided most exit.to to

  abbrev goes_on_after : (avoided most to : ℕ) → ExitTree → Bool
  goes_on_after avoided most to exit = not (nat_eq exit.to avoided) && leads_within after avoided most exit.to to

  -- a path of some length
  abbrev LeadsAfter : (avoided from to : ℕ) → Type 0
  LeadsAfter avoided from to = (most : ℕ) × (leads_within after avoided most from to ≡ true)

  abbrev GoesOnAfter : (avoided to : ℕ) → List ExitTree → Type 0
  GoesOnAfter avoided to exits = (most : ℕ) × (list_any (goes_on_after avoided most to) exits ≡ true)

  module _ (avoided : ℕ) (stays : avoided ≢ second) where
    -- by one of these transitions
    any_moved : (most to : ℕ) → ((from : ℕ) → leads_within states avoided most from to ≡ true → LeadsAfter (lowered second avoided) (place from) (place to)) →
        (exits : List ExitTree) → AllByRecursion (λ exit. exit.to ≢ second) exits → list_any (goes_on avoided most to) exits ≡ true → GoesOnAfter (lowered second avoided) (place to) (exits_lowered second exits)
    any_moved most to rest [] apart is = cc
    any_moved most to rest (exit ∷ exits) apart is = elim (either (goes_on avoided most to exit) (list_any (goes_on avoided most to) exits) is) [
      | inl here ↦ (
          let parts = and_both (not (nat_eq exit.to avoided)) (leads_within states avoided most exit.to to) here in
          let there = rest exit.to parts.1 in (
            there.0,
            or_first (goes_on_after (lowered second avoided) there.0 (place to) (exit_lowered second exit)) (list_any (goes_on_after (lowered second avoided) there.0 (place to)) (exits_lowered second exits))
                (joined (not (nat_eq (lowered second exit.to) (lowered second avoided))) (leads_within after (lowered second avoided) there.0 (lowered second exit.to) (place to))
                (not_equal (lowered second exit.to) (lowered second avoided) (λ same. is_apart exit.to avoided parts.0 (lowered_apart second exit.to avoided apart.0 stays same)))
                (subst (λ from. leads_within after (lowered second avoided) there.0 from (place to) ≡ true) (moved_apart first second exit.to apart.0) there.1)),
          )
          )
      | inr later ↦ (
          let there = any_moved most to rest exits apart.1 later in
          (there.0, or_second (goes_on_after (lowered second avoided) there.0 (place to) (exit_lowered second exit)) (list_any (goes_on_after (lowered second avoided) there.0 (place to)) (exits_lowered second exits)) there.1)
          )
    ]

    -- out of the first a path goes on from the second, which stands where the first one does
    on_from_first : (most from to : ℕ) → from ≡ first → list_any (goes_on avoided most to) (exits_at states from) ≡ true → leads_within states avoided most second to ≡ true
    on_from_first most from to same on =
        let by_step : (goes_on avoided most to (plain_exit second) || false) ≡ true = sym (ap (list_any (goes_on avoided most to)) (ap (exits_at states) same ∙ fusible.step)) ∙ on in
        (and_both (not (nat_eq second avoided)) (leads_within states avoided most second to) (sym (or_none (goes_on avoided most to (plain_exit second))) ∙ by_step)).1

    as_first : (from to : ℕ) → from ≡ first → LeadsAfter (lowered second avoided) (place second) (place to) → LeadsAfter (lowered second avoided) (place from) (place to)
    as_first from to same there = (
      there.0,
      subst (λ from. leads_within after (lowered second avoided) there.0 from (place to) ≡ true)
          (moved_second first second ∙ sym (moved_apart first second first fusible.apart) ∙ ap place (sym same)) there.1,
    )

    -- out of any other it goes on by the same transition
    on_from_other : (from to : ℕ) → from ≢ first → GoesOnAfter (lowered second avoided) (place to) (exits_lowered second (exits_at states from)) → LeadsAfter (lowered second avoided) (place from) (place to)
    on_from_other from to other there = (
      suc there.0,
      or_second (nat_eq (place from) (place to)) (list_any (goes_on_after (lowered second avoided) there.0 (place to)) (exits_at after (place from)))
          (ap (list_any (goes_on_after (lowered second avoided) there.0 (place to))) (exits_moved first second states fusible from other) ∙ there.1),
    )

    within_moved : (most from to : ℕ) → leads_within states avoided most from to ≡ true → LeadsAfter (lowered second avoided) (place from) (place to)
    within_moved zero from to is = (0, is_equal (place from) (place to) (ap place (equal from to is)))
    within_moved (suc most) from to is = elim (either (nat_eq from to) (list_any (goes_on avoided most to) (exits_at states from)) is) [
      | inl same ↦ (0, is_equal (place from) (place to) (ap place (equal from to same)))
      | inr on ↦ elim (is_same_state from first) [
        | inl same ↦ as_first from to same (within_moved most second to (on_from_first most from to same on))
        | inr other ↦ on_from_other from to other (any_moved most to (λ from is. within_moved most from to is) (exits_at states from) (fusible.entry from other) on)
      ]
    ]

    leads_moved : (from to : ℕ) → leads_to states avoided from to ≡ true → leads_to after (lowered second avoided) (place from) (place to) ≡ true
    leads_moved from to is =
        let there = within_moved (count_states states) from to is in
        paths_are_found after (lowered second avoided) there.0 (place from) (place to) there.1

  -- ---- loops

  -- a loop is closed by one of these transitions
  abbrev ClosesMoved : (begin variable : ℕ) → List ExitTree → Type 0
  ClosesMoved begin variable exits = (begin ≢ second) × (list_any (closes_loop (lowered second begin) variable) (exits_lowered second exits) ≡ true)

  closes_here : (begin variable : ℕ) (exit : ExitTree) (exits : List ExitTree) → exit.to ≢ second → closes_loop begin variable exit ≡ true → ClosesMoved begin variable (exit ∷ exits)
  closes_here begin variable exit exits apart here =
      let sets : Bool = list_any (λ assignment. nat_eq assignment.0 variable) exit.set in
      let marked = and_both exit.back (nat_eq exit.to begin && sets) here in
      let parts = and_both (nat_eq exit.to begin) sets marked.1 in
      let same : exit.to ≡ begin = equal exit.to begin parts.0 in (
        subst (λ to. to ≢ second) same apart,
        or_first (closes_loop (lowered second begin) variable (exit_lowered second exit)) (list_any (closes_loop (lowered second begin) variable) (exits_lowered second exits))
            (joined exit.back (nat_eq (lowered second exit.to) (lowered second begin) && sets) marked.0
            (joined (nat_eq (lowered second exit.to) (lowered second begin)) sets (is_equal (lowered second exit.to) (lowered second begin) (ap (lowered second) same)) parts.1)),
      )

  closes_later : (begin variable : ℕ) (exit : ExitTree) (exits : List ExitTree) → ClosesMoved begin variable exits → ClosesMoved begin variable (exit ∷ exits)
  closes_later begin variable exit exits rest =
      (rest.0, or_second (closes_loop (lowered second begin) variable (exit_lowered second exit)) (list_any (closes_loop (lowered second begin) variable) (exits_lowered second exits)) rest.1)

  closes_moved : (begin variable : ℕ) (exits : List ExitTree) → AllByRecursion (λ exit. exit.to ≢ second) exits → list_any (closes_loop begin variable) exits ≡ true → ClosesMoved begin variable exits
  closes_moved begin variable [] apart is = cc
  closes_moved begin variable (exit ∷ exits) apart is = elim (either (closes_loop begin variable exit) (list_any (closes_loop begin variable) exits) is) [
    | inl here ↦ closes_here begin variable exit exits apart.0 here
    | inr later ↦ closes_later begin variable exit exits (closes_moved begin variable exits apart.1 later)
  ]

  -- none is closed out of the first
  never_first : (begin variable : ℕ) → list_any (closes_loop begin variable) (exits_at states first) ≡ true → ⊥
  never_first begin variable is = never (sym (ap (list_any (closes_loop begin variable)) fusible.step) ∙ is)
    where
      never : false ≡ true → ⊥
      never is = cc

  force_moved : (state begin variable : ℕ) → is_in_force states state begin variable ≡ true → (begin ≢ second) × (is_in_force after (place state) (lowered second begin) variable ≡ true)
  force_moved state begin variable is =
      let test : ℕ → Bool = λ end. list_any (closes_loop begin variable) (exits_at states end) && is_on_loop states begin end state in
      let there = one_below test (count_states states) is in
      by there.0 there.1.0 (and_both (list_any (closes_loop begin variable) (exits_at states there.0)) (is_on_loop states begin there.0 state) there.1.1) (is_same_state there.0 first)
    where
      by : (end : ℕ) → end < count_states states → (list_any (closes_loop begin variable) (exits_at states end) ≡ true) × (is_on_loop states begin end state ≡ true) → (end ≡ first) ⊎ (end ≢ first) →
          (begin ≢ second) × (is_in_force after (place state) (lowered second begin) variable ≡ true)
      by end below (closes, on) (inl same) = absurd (never_first begin variable (subst (λ end. list_any (closes_loop begin variable) (exits_at states end) ≡ true) same closes))
      by end below (closes, on) (inr other) =
          let closed = closes_moved begin variable (exits_at states end) (fusible.entry end other) closes in
          let ways = and_both (leads_to states begin begin state) (leads_to states begin state end) on in
          let begins : lowered second begin ≡ place begin = sym (moved_apart first second begin closed.0) in (
            closed.0,
            below_one (λ end. list_any (closes_loop (lowered second begin) variable) (exits_at after end) && is_on_loop after (lowered second begin) end (place state)) (count_states after) (place end)
                (moved_below first second states fusible end below)
                (joined (list_any (closes_loop (lowered second begin) variable) (exits_at after (place end))) (is_on_loop after (lowered second begin) (place end) (place state))
                (ap (list_any (closes_loop (lowered second begin) variable)) (exits_moved first second states fusible end other) ∙ closed.1)
                (joined (leads_to after (lowered second begin) (lowered second begin) (place state)) (leads_to after (lowered second begin) (place state) (place end))
                (subst (λ from. leads_to after (lowered second begin) from (place state) ≡ true) (sym begins) (leads_moved begin closed.0 begin state ways.0))
                (leads_moved begin closed.0 state end ways.1))),
          )

  pub loops_moved : (variables state variable : ℕ) → has_number (loops_in_force states variables state) variable ≡ true → has_number (loops_in_force after variables (place state)) variable ≡ true
  loops_moved variables state variable is =
      let made : ℕ → List ℕ = λ begin. filter (is_in_force states state begin) (numbers_below variables) in
      let made_after : ℕ → List ℕ = λ begin. filter (is_in_force after (place state) begin) (numbers_below variables) in
      let there = one_below (λ begin. has_number (made begin) variable) (count_states states) (sym (flat_any made (numbers_below (count_states states)) variable) ∙ is) in
      let parts = and_both (has_number (numbers_below variables) variable) (is_in_force states state there.0 variable)
      (sym (kept_any (is_in_force states state there.0) (numbers_below variables) variable) ∙ there.1.1) in
      let force = force_moved state there.0 variable parts.1 in
      flat_any made_after (numbers_below (count_states after)) variable
      ∙ below_one (λ begin. has_number (made_after begin) variable) (count_states after) (lowered second there.0)
      (subst (λ begin. begin < count_states after) (moved_apart first second there.0 force.0) (moved_below first second states fusible there.0 there.1.0))
      (kept_any (is_in_force after (place state) (lowered second there.0)) (numbers_below variables) variable
      ∙ joined (has_number (numbers_below variables) variable) (is_in_force after (place state) (lowered second there.0) variable) parts.0 force.1)
