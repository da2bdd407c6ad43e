-- Which loops the states of statements close.
use Rattle.std.proofs.Common.{◌≡◌, ◌⊎◌, inl, inr, ℕ, zero, suc, ◌+◌, ◌<◌, ◌≤◌, List, [], ◌∷◌, Bool, true, false, ◌&&◌, ◌||◌, nat_eq, refl, ap, ◌∙◌, subst, arith}
use Rattle.std.specs.List.{AllByRecursion, list_any}
use Rattle.std.proofs.lemmas.List.Folds.{list_any-append}
use Rattle.sd_lex.specs.PlainTree.{StatementTree, argument_array, local_array, local_stream, for_loop, while_loop, branch, Block, no_statement, and_statement}
use Rattle.sd_range.specs.declared.affine.Affine.{Affine}
use Rattle.sd_graph.specs.PlainTree.{StateTrees, ExitTree, GuardTree}
use Rattle.sd_graph.specs.TreeParts.{count_states, exits_at}
use Rattle.sd_graph.specs.LoopScope.{numbers_below, leads_to, closes_loop, is_on_loop, is_in_force}
use Rattle.sd_graph.proofs.Among.{or_first, or_second, true_is_not_false}
use Rattle.sd_program.specs.Declared.{states_in, states_in_all}
use Rattle.sd_elab.specs.items.Counts.{variables_in, variables_in_all}
use Rattle.sd_elab.specs.states.Exits.{plainly, setting, if_holds, back_to}
use Rattle.sd_made.proofs.elab_lemmas.StateRanges.{split}
use Rattle.sd_made.proofs.elab_lemmas.LoopEntries.{ClosesLoopAlone}
use Rattle.sd_made.proofs.loops_shown_lemmas.Flows.{Before, FlowsOne, FlowsAll}

-- ---- tests

pub both_true : (first second : Bool) → (first && second) ≡ true → (first ≡ true) × (second ≡ true)
both_true true second h = (refl, h)
both_true false second h = cc

pub and_true : (first second : Bool) → first ≡ true → second ≡ true → (first && second) ≡ true
and_true true second h g = g
and_true false second h g = cc

any_member : {A : Type 0} (test : A → Bool) (members : List A) → list_any test members ≡ true → (member : A) × (test member ≡ true)
any_member test [] h = cc
any_member {A} test (member ∷ members) h = one (test member) refl h (any_member test members)
  where
    one : (here : Bool) → test member ≡ here → (here || list_any test members) ≡ true → (list_any test members ≡ true → (other : A) × (test other ≡ true)) → (other : A) × (test other ≡ true)
    one true e h later = (member, e)
    one false e h later = later h

pub any_below : (test : ℕ → Bool) (count number : ℕ) → number < count → test number ≡ true → list_any test (numbers_below count) ≡ true
any_below test zero number l is = absurd (omega (arith, l))
any_below test (suc count) number l is = list_any-append test (numbers_below count) (count ∷ []) ∙ elim (split number count) [
  | inl less ↦ or_first (list_any test (numbers_below count)) (list_any test (count ∷ [])) (any_below test count number less is)
  | inr last ↦ or_second (list_any test (numbers_below count)) (list_any test (count ∷ []))
      (or_first (test count) false (subst (λ number. test number ≡ true) (omega (arith, last, l)) is))
]

-- a marked transition that sets nothing closes no loop, and one that sets a variable closes its loop
sets_nothing : (same : Bool) → ((same && false) || false) ≡ true → ⊥
sets_nothing true h = cc
sets_nothing false h = cc

or_false : (b : Bool) → (b || false) ≡ true → b ≡ true
or_false true h = refl
or_false false h = h

pub sets_one : (state begin number variable : ℕ) → ((nat_eq state begin && (nat_eq number variable || false)) || false) ≡ true → (state ≡ begin) × (number ≡ variable)
sets_one state begin number variable h =
    let both = both_true (nat_eq state begin) (nat_eq number variable || false) (or_false (nat_eq state begin && (nat_eq number variable || false)) h) in
    let of = or_false (nat_eq number variable) both.1 in
    (grind (arith, both.0), grind (arith, of))

module _ (states : StateTrees) where
  -- a transition out of this state closes a loop with this begin and this variable
  abbrev pub Closes : (begin variable end : ℕ) → Type 0
  Closes begin variable end = list_any (closes_loop begin variable) (exits_at states end) ≡ true

  pub no_closing : (begin variable end : ℕ) (exits : List ExitTree) → exits_at states end ≡ exits → list_any (closes_loop begin variable) exits ≡ false → Closes begin variable end → ⊥
  no_closing begin variable end exits e none closes = true_is_not_false (list_any (closes_loop begin variable) (exits_at states end)) closes (ap (list_any (closes_loop begin variable)) e ∙ none)

  -- ---- from other states no path leads to the end of the loop

  alone : (begin variable end : ℕ) (exits : List ExitTree) → AllByRecursion (ClosesLoopAlone states end) exits → list_any (closes_loop begin variable) exits ≡ true →
      (begin ≤ end) × ((number : ℕ) → (number < begin) ⊎ (end < number) → leads_to states begin number end ≡ false)
  alone begin variable end [] all h = cc
  alone begin variable end (exit ∷ exits) all h = one (closes_loop begin variable exit) refl h (alone begin variable end exits all.1)
    where
      Alone : Type 0
      Alone = (begin ≤ end) × ((number : ℕ) → (number < begin) ⊎ (end < number) → leads_to states begin number end ≡ false)

      one : (here : Bool) → closes_loop begin variable exit ≡ here → (here || list_any (closes_loop begin variable) exits) ≡ true → (list_any (closes_loop begin variable) exits ≡ true → Alone) → Alone
      one true e h later =
          let marked = both_true exit.back (nat_eq exit.to begin && list_any (λ assignment. nat_eq assignment.0 variable) exit.set) e in
          let leads = both_true (nat_eq exit.to begin) (list_any (λ assignment. nat_eq assignment.0 variable) exit.set) marked.1 in
          let same : exit.to ≡ begin = grind (arith, leads.0) in
          subst (λ begin. (begin ≤ end) × ((number : ℕ) → (number < begin) ⊎ (end < number) → leads_to states begin number end ≡ false)) same (all.0 marked.0).1
      one false e h later = later h

  module _ (closed : (number : ℕ) → AllByRecursion (ClosesLoopAlone states number) (exits_at states number)) where
    -- a variable that is in force in a state is that of a loop whose states are round it
    pub in_force_closes : (state begin variable : ℕ) → is_in_force states state begin variable ≡ true → (end : ℕ) × Closes begin variable end × (begin ≤ state) × (state ≤ end)
    in_force_closes state begin variable h =
        let found = any_member (λ end. list_any (closes_loop begin variable) (exits_at states end) && is_on_loop states begin end state) (numbers_below (count_states states)) h in
        let end : ℕ = found.0 in
        let both = both_true (list_any (closes_loop begin variable) (exits_at states end)) (is_on_loop states begin end state) found.1 in
        let on = both_true (leads_to states begin begin state) (leads_to states begin state end) both.1 in
        let of = alone begin variable end (exits_at states end) (closed end) both.0 in
        elim (split state begin) [
          | inl lower ↦ absurd (true_is_not_false (leads_to states begin state end) on.1 (of.1 state (inl lower)))
          | inr least ↦ elim (split end state) [
            | inl higher ↦ absurd (true_is_not_false (leads_to states begin state end) on.1 (of.1 state (inr higher)))
            | inr most ↦ (end, both.0, least, most)
          ]
        ]

  pub in_force_is : (state begin variable end : ℕ) → Closes begin variable end → end < count_states states → leads_to states begin begin state ≡ true → leads_to states begin state end ≡ true →
      is_in_force states state begin variable ≡ true
  in_force_is state begin variable end closes l to_state to_end =
      any_below (λ end. list_any (closes_loop begin variable) (exits_at states end) && is_on_loop states begin end state) (count_states states) end l
      (and_true (list_any (closes_loop begin variable) (exits_at states end)) (is_on_loop states begin end state) closes
      (and_true (leads_to states begin begin state) (leads_to states begin state end) to_state to_end))

  -- ---- the loops that statements close begin in their own states

  abbrev Inside : (count state : ℕ) → Type 0
  Inside count state = (from begin variable end : ℕ) → from + 1 ≡ state → Closes begin variable end → from ≤ end → end < from + count → from < begin

  plain_inside : (state : ℕ) → Before states state (plainly state ∷ []) → Inside 1 state
  plain_inside state before from begin variable end e closes l h =
      absurd (no_closing begin variable end (plainly state ∷ []) (before end (omega (arith, e, l, h))) refl closes)

  -- the end of a loop that an `if` closes, in one of its blocks
  pub if_ends : (body state : ℕ) (guard : GuardTree) → Before states state (if_holds guard state ∷ plainly (state + 1 + body) ∷ []) → Before states (state + 1 + body) (plainly (state + 1 + body) ∷ []) →
      Inside body (state + 1) → (from begin variable end : ℕ) → from + 1 ≡ state → Closes begin variable end → from ≤ end → end < from + (1 + body + 1) →
      (state ≤ end) × (end < state + body) × (state < begin)
  if_ends body state guard enters leaves inner from begin variable end e closes l h = elim (split end state) [
    | inl first ↦ absurd (no_closing begin variable end (if_holds guard state ∷ plainly (state + 1 + body) ∷ []) (enters end (omega (arith, e, l, first))) refl closes)
    | inr later ↦ elim (split end (state + body)) [
      | inl inside ↦ (later, inside, inner state begin variable end refl closes later inside)
      | inr last ↦ absurd (no_closing begin variable end (plainly (state + 1 + body) ∷ []) (leaves end (omega (arith, e, last, h))) refl closes)
    ]
  ]

  pub if_else_ends : (body other state : ℕ) (guard : GuardTree) → Before states state (if_holds guard state ∷ plainly (state + 1 + body) ∷ []) →
      Before states (state + 1 + body) (plainly (state + 1 + body + 1 + other) ∷ []) → Before states (state + 1 + body + 1 + other) (plainly (state + 1 + body + 1 + other) ∷ []) →
      Inside body (state + 1) → Inside other (state + 1 + body + 1) → (from begin variable end : ℕ) → from + 1 ≡ state → Closes begin variable end → from ≤ end → end < from + (1 + body + (1 + other + 1)) →
      ((state ≤ end) × (end < state + body) × (state < begin)) ⊎ ((state + 1 + body ≤ end) × (end < state + 1 + body + other) × (state + 1 + body < begin))
  if_else_ends body other state guard enters leaves leaves_other inner inner_other from begin variable end e closes l h = elim (split end state) [
    | inl first ↦ absurd (no_closing begin variable end (if_holds guard state ∷ plainly (state + 1 + body) ∷ []) (enters end (omega (arith, e, l, first))) refl closes)
    | inr later ↦ elim (split end (state + body)) [
      | inl inside ↦ inl (later, inside, inner state begin variable end refl closes later inside)
      | inr last ↦ elim (split end (state + 1 + body)) [
        | inl middle ↦ absurd (no_closing begin variable end (plainly (state + 1 + body + 1 + other) ∷ []) (leaves end (omega (arith, last, middle))) refl closes)
        | inr beyond ↦ elim (split end (state + 1 + body + other)) [
          | inl in_other ↦ inr (beyond, in_other, inner_other (state + 1 + body) begin variable end refl closes beyond in_other)
          | inr behind ↦ absurd (no_closing begin variable end (plainly (state + 1 + body + 1 + other) ∷ []) (leaves_other end (omega (arith, e, behind, h))) refl closes)
        ]
      ]
    ]
  ]

  pub loop_ends : (body state : ℕ) (opening back : ExitTree) (guard : GuardTree) → opening.back ≡ false → Before states state (opening ∷ []) →
      Before states (state + 1) (if_holds guard (state + 1) ∷ plainly (state + 1 + 1 + body) ∷ []) → Inside body (state + 1 + 1) →
      (from begin variable end : ℕ) → from + 1 ≡ state → Closes begin variable end → from ≤ end → end < from + (2 + body + 1) →
      ((state + 1 ≤ end) × (end < state + 1 + body) × (state + 1 < begin)) ⊎ (end ≡ state + 1 + body)
  loop_ends body state opening back guard plain enters begins inner from begin variable end e closes l h = elim (split end state) [
    | inl first ↦ absurd (no_closing begin variable end (opening ∷ []) (enters end (omega (arith, e, l, first)))
        (ap (λ marked. (marked && (nat_eq opening.to begin && list_any (λ assignment. nat_eq assignment.0 variable) opening.set)) || false) plain) closes)
    | inr later ↦ elim (split end (state + 1)) [
      | inl at_begin ↦ absurd (no_closing begin variable end (if_holds guard (state + 1) ∷ plainly (state + 1 + 1 + body) ∷ []) (begins end (omega (arith, later, at_begin))) refl closes)
      | inr beyond ↦ elim (split end (state + 1 + body)) [
        | inl inside ↦ inl (beyond, inside, inner (state + 1) begin variable end refl closes beyond inside)
        | inr last ↦ inr (omega (arith, e, last, h))
      ]
    ]
  ]

  -- what the end of a loop's block closes
  pub while_closes : (body state begin variable end : ℕ) → Before states (state + 1 + 1 + body) (back_to state [] ∷ []) → end ≡ state + 1 + body → Closes begin variable end → ⊥
  while_closes body state begin variable end turns e closes =
      sets_nothing (nat_eq state begin) (subst (λ exits. list_any (closes_loop begin variable) exits ≡ true) (turns end (omega (arith, e))) closes)

  pub for_closes : (body state number begin variable end : ℕ) (next : Affine) → Before states (state + 1 + 1 + body) (back_to state ((number, next) ∷ []) ∷ []) → end ≡ state + 1 + body → Closes begin variable end →
      (state ≡ begin) × (number ≡ variable)
  for_closes body state number begin variable end next turns e closes =
      sets_one state begin number variable (subst (λ exits. list_any (closes_loop begin variable) exits ≡ true) (turns end (omega (arith, e))) closes)

  both_inside : (first rest state : ℕ) → Inside first state → Inside rest (state + first) → Inside (first + rest) state
  both_inside first rest state one all from begin variable end e closes l h = elim (split end (from + first)) [
    | inl low ↦ one from begin variable end e closes l low
    | inr high ↦ (let above : from + first < begin = all (from + first) begin variable end (omega (arith, e)) closes high (omega (arith, h)) in omega (arith, above))
  ]

  mutual
    pub one_inside : (first : StatementTree) (state variable : ℕ) → FlowsOne states first state variable → Inside (states_in first) state
    one_inside (argument_array line name bits extents) state variable flows = λ from begin other end e closes l h. absurd (omega (arith, l, h))
    one_inside (local_array line name extents bits) state variable flows = λ from begin other end e closes l h. absurd (omega (arith, l, h))
    one_inside (local_stream line name bits size) state variable flows = λ from begin other end e closes l h. absurd (omega (arith, l, h))
    one_inside (branch line when body no_statement) state variable flows = λ from begin other end e closes l h.
        (let is = if_ends (states_in_all body) state flows.0 flows.1 flows.3 (all_inside body (state + 1) variable flows.2) from begin other end e closes l h in omega (arith, e, is.2))
    one_inside (branch line when body (and_statement first rest)) state variable flows = λ from begin other end e closes l h.
        elim (if_else_ends (states_in_all body) (states_in first + states_in_all rest) state flows.0 flows.1 flows.3.0 flows.3.2 (all_inside body (state + 1) variable flows.2)
        (both_inside (states_in first) (states_in_all rest) (state + 1 + states_in_all body + 1) (one_inside first (state + 1 + states_in_all body + 1) (variable + variables_in_all body) flows.3.1.0)
        (all_inside rest (state + 1 + states_in_all body + 1 + states_in first) (variable + variables_in_all body + variables_in first) flows.3.1.1)) from begin other end e closes l h) [
          | inl body_is ↦ omega (arith, e, body_is.2)
          | inr other_is ↦ omega (arith, e, other_is.2)
        ]
    one_inside (while_loop line when body) state variable flows = λ from begin other end e closes l h.
        elim (loop_ends (states_in_all body) state (plainly state) (back_to state []) flows.0 refl flows.1 flows.2 (all_inside body (state + 1 + 1) variable flows.3) from begin other end e closes l h) [
          | inl is ↦ omega (arith, e, is.2)
          | inr last ↦ absurd (while_closes (states_in_all body) state begin other end flows.4 last closes)
        ]
    one_inside (for_loop line name start stop step body) state variable flows = λ from begin other end e closes l h.
        elim (loop_ends (states_in_all body) state (setting state variable flows.1) (back_to state ((variable, flows.2) ∷ [])) flows.0 refl flows.3 flows.4 (all_inside body (state + 1 + 1) (variable + 1) flows.5) from begin other end e closes l h) [
          | inl is ↦ omega (arith, e, is.2)
          | inr last ↦ (let is = for_closes (states_in_all body) state variable begin other end flows.2 flows.6 last closes in omega (arith, e, is.0))
        ]
    one_inside statement state variable flows = plain_inside state flows

    pub all_inside : (block : Block) (state variable : ℕ) → FlowsAll states block state variable → Inside (states_in_all block) state
    all_inside no_statement state variable flows = λ from begin other end e closes l h. absurd (omega (arith, l, h))
    all_inside (and_statement first rest) state variable flows =
        both_inside (states_in first) (states_in_all rest) state (one_inside first state variable flows.0) (all_inside rest (state + states_in first) (variable + variables_in first) flows.1)
