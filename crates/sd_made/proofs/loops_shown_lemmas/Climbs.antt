-- In the states that a block makes a path leads from the first one to each, and from each to the last one.
use Rattle.std.proofs.Common.{◌≡◌, inl, inr, ℕ, zero, suc, ◌+◌, ◌<◌, ◌≤◌, List, [], ◌∷◌, false, nat_eq, refl, subst, arith, ne_eqb}
use Rattle.sd_lex.specs.PlainTree.{StatementTree, argument_array, local_array, local_stream, for_loop, while_loop, branch, Block, no_statement, and_statement}
use Rattle.sd_graph.specs.PlainTree.{StateTrees, ExitTree, GuardTree}
use Rattle.sd_program.specs.Declared.{states_in, states_in_all}
use Rattle.sd_elab.specs.items.Counts.{variables_in, variables_in_all}
use Rattle.sd_elab.specs.states.Exits.{plainly, if_holds}
use Rattle.sd_made.proofs.elab_lemmas.StateRanges.{split}
use Rattle.sd_made.proofs.loops_shown_lemmas.Paths.{Leads, stays, longer, joined, first_way, second_way}
use Rattle.sd_made.proofs.loops_shown_lemmas.Flows.{Before, FlowsOne, FlowsAll}

-- what is left
pub left_of : (part whole : ℕ) → part ≤ whole → (rest : ℕ) × (part + rest ≡ whole)
left_of zero whole l = (whole, omega arith)
left_of (suc part) zero l = absurd (omega (arith, l))
left_of (suc part) (suc whole) l = (let more = left_of part whole (omega (arith, l)) in (more.0, omega (arith, more.1)))

pub apart : (number other : ℕ) → other < number → nat_eq number other ≡ false
apart number other l = ne_eqb number other (λ e. omega (arith, e, l))

module _ (states : StateTrees) (avoided : ℕ) where
  -- from the state before to each state, and from each of them to the last one
  abbrev pub Both : (count from : ℕ) → Type 0
  Both count from =
      ((to most : ℕ) → from ≤ to → to ≤ from + count → to ≤ from + most → Leads states avoided most from to)
      × ((number : ℕ) → from ≤ number → number ≤ from + count → Leads states avoided count number (from + count))

  abbrev pub Climbs : (count state : ℕ) → Type 0
  Climbs count state = (from : ℕ) → from + 1 ≡ state → avoided ≤ from → Both count from

  plain_climbs : (state : ℕ) → Before states state (plainly state ∷ []) → Climbs 1 state
  plain_climbs state before from e a = (up, down)
    where
      one : Leads states avoided 1 from (from + 1)
      one = subst (λ to. Leads states avoided 1 from to) (omega (arith, e)) (first_way states avoided from (plainly state) [] (before from e) (apart state avoided (omega (arith, e, a))))

      up : (to most : ℕ) → from ≤ to → to ≤ from + 1 → to ≤ from + most → Leads states avoided most from to
      up to most l h m = elim (split to (from + 1)) [
        | inl here ↦ stays states avoided most from to (omega (arith, l, here))
        | inr next ↦ longer states avoided 1 most from to (omega (arith, next, m)) (subst (λ to. Leads states avoided 1 from to) (omega (arith, next, h)) one)
      ]

      down : (number : ℕ) → from ≤ number → number ≤ from + 1 → Leads states avoided 1 number (from + 1)
      down number l h = elim (split number (from + 1)) [
        | inl here ↦ subst (λ number. Leads states avoided 1 number (from + 1)) (omega (arith, l, here)) one
        | inr next ↦ stays states avoided 1 number (from + 1) (omega (arith, next, h))
      ]

  none_climbs : (state : ℕ) → Climbs 0 state
  none_climbs state from e a = (λ to most l h m. stays states avoided most from to (omega (arith, l, h)), λ number l h. stays states avoided 0 number (from + 0) (omega (arith, l, h)))

  both_climb : (first rest state : ℕ) → Climbs first state → Climbs rest (state + first) → Climbs (first + rest) state
  both_climb first rest state one all from e a =
      let here = one from e a in
      let there = all (from + first) (omega (arith, e)) (omega (arith, a)) in
      let whole : Leads states avoided first from (from + first) = here.0 (from + first) first (omega arith) (omega arith) (omega arith) in (
        (λ to most l h m. elim (split to (from + first)) [
          | inl low ↦ here.0 to most l (omega (arith, low)) m
          | inr high ↦ (let more = left_of first most (omega (arith, high, m)) in
              joined states avoided first more.0 most from (from + first) to (omega (arith, more.1)) whole (there.0 to more.0 high (omega (arith, h)) (omega (arith, m, more.1))))
        ]),
        (λ number l h. elim (split number (from + first)) [
          | inl low ↦ subst (λ to. Leads states avoided (first + rest) number to) (omega arith)
              (joined states avoided first rest (first + rest) number (from + first) (from + first + rest) (omega arith) (here.1 number l (omega (arith, low))) (there.0 (from + first + rest) rest (omega arith) (omega arith) (omega arith)))
          | inr high ↦ subst (λ to. Leads states avoided (first + rest) number to) (omega arith)
              (longer states avoided rest (first + rest) number (from + first + rest) (omega arith) (there.1 number high (omega (arith, h))))
        ]),
      )

  -- a loop, whose block has so many states
  loop_climbs : (body state : ℕ) (opening back : ExitTree) (others : List ExitTree) (guard : GuardTree) → opening.to ≡ state → back.to ≡ state → Before states state (opening ∷ []) →
      Before states (state + 1) (if_holds guard (state + 1) ∷ plainly (state + 1 + 1 + body) ∷ []) → Before states (state + 1 + 1 + body) (back ∷ []) → Climbs body (state + 1 + 1) → Climbs (2 + body + 1) state
  loop_climbs body state opening back others guard to_begin to_again enters begins turns inner from e a = (up, down)
    where
      into : Leads states avoided 1 from state
      into = subst (λ to. Leads states avoided 1 from to) to_begin (first_way states avoided from opening [] (enters from e) (apart opening.to avoided (omega (arith, to_begin, e, a))))

      inside : Leads states avoided 1 state (state + 1)
      inside = first_way states avoided state (if_holds guard (state + 1)) (plainly (state + 1 + 1 + body) ∷ []) (begins state refl) (apart (state + 1) avoided (omega (arith, e, a)))

      out : Leads states avoided 1 state (state + 1 + 1 + body)
      out = second_way states avoided state (if_holds guard (state + 1)) (plainly (state + 1 + 1 + body)) [] (begins state refl) (apart (state + 1 + 1 + body) avoided (omega (arith, e, a)))

      again : Leads states avoided 1 (state + 1 + body) state
      again = subst (λ to. Leads states avoided 1 (state + 1 + body) to) to_again (first_way states avoided (state + 1 + body) back [] (turns (state + 1 + body) (omega arith)) (apart back.to avoided (omega (arith, to_again, e, a))))

      block : Both body (state + 1)
      block = inner (state + 1) refl (omega (arith, e, a))

      up : (to most : ℕ) → from ≤ to → to ≤ from + (2 + body + 1) → to ≤ from + most → Leads states avoided most from to
      up to most l h m = elim (split to state) [
        | inl here ↦ stays states avoided most from to (omega (arith, l, here, e))
        | inr later ↦ elim (split to (state + 1)) [
          | inl begin ↦ longer states avoided 1 most from to (omega (arith, e, later, m)) (subst (λ to. Leads states avoided 1 from to) (omega (arith, begin, later)) into)
          | inr beyond ↦ elim (split to (state + 1 + 1 + body)) [
            | inl in_block ↦ (let more = left_of 2 most (omega (arith, beyond, m, e)) in
                joined states avoided 2 more.0 most from (state + 1) to (omega (arith, more.1))
                (joined states avoided 1 1 2 from state (state + 1) (omega arith) into inside)
                (block.0 to more.0 beyond (omega (arith, in_block)) (omega (arith, m, e, more.1))))
            | inr behind ↦ longer states avoided 2 most from to (omega (arith, behind, m, e))
                (subst (λ to. Leads states avoided 2 from to) (omega (arith, behind, h, e)) (joined states avoided 1 1 2 from state (state + 1 + 1 + body) (omega arith) into out))
          ]
        ]
      ]

      last : state + 1 + 1 + body ≡ from + (2 + body + 1)
      last = omega (arith, e)

      down : (number : ℕ) → from ≤ number → number ≤ from + (2 + body + 1) → Leads states avoided (2 + body + 1) number (from + (2 + body + 1))
      down number l h = subst (λ to. Leads states avoided (2 + body + 1) number to) last (elim (split number state) [
        | inl here ↦ subst (λ number. Leads states avoided (2 + body + 1) number (state + 1 + 1 + body)) (omega (arith, l, here, e))
            (joined states avoided 1 1 (2 + body + 1) from state (state + 1 + 1 + body) (omega arith) into out)
        | inr later ↦ elim (split number (state + 1)) [
          | inl begin ↦ subst (λ number. Leads states avoided (2 + body + 1) number (state + 1 + 1 + body)) (omega (arith, begin, later))
              (longer states avoided 1 (2 + body + 1) state (state + 1 + 1 + body) (omega arith) out)
          | inr beyond ↦ elim (split number (state + 1 + 1 + body)) [
            | inl in_block ↦ joined states avoided body 2 (2 + body + 1) number (state + 1 + body) (state + 1 + 1 + body) (omega arith) (block.1 number beyond (omega (arith, in_block)))
                (joined states avoided 1 1 2 (state + 1 + body) state (state + 1 + 1 + body) (omega arith) again out)
            | inr behind ↦ stays states avoided (2 + body + 1) number (state + 1 + 1 + body) (omega (arith, behind, h, e))
          ]
        ]
      ])

  -- an `if` without `else`, whose block has so many states
  if_climbs : (body state : ℕ) (guard : GuardTree) → Before states state (if_holds guard state ∷ plainly (state + 1 + body) ∷ []) → Before states (state + 1 + body) (plainly (state + 1 + body) ∷ []) →
      Climbs body (state + 1) → Climbs (1 + body + 1) state
  if_climbs body state guard enters leaves inner from e a = (up, down)
    where
      into : Leads states avoided 1 from state
      into = first_way states avoided from (if_holds guard state) (plainly (state + 1 + body) ∷ []) (enters from e) (apart state avoided (omega (arith, e, a)))

      past : Leads states avoided 1 from (state + 1 + body)
      past = second_way states avoided from (if_holds guard state) (plainly (state + 1 + body)) [] (enters from e) (apart (state + 1 + body) avoided (omega (arith, e, a)))

      on : Leads states avoided 1 (state + body) (state + 1 + body)
      on = first_way states avoided (state + body) (plainly (state + 1 + body)) [] (leaves (state + body) (omega arith)) (apart (state + 1 + body) avoided (omega (arith, e, a)))

      block : Both body state
      block = inner state refl (omega (arith, e, a))

      up : (to most : ℕ) → from ≤ to → to ≤ from + (1 + body + 1) → to ≤ from + most → Leads states avoided most from to
      up to most l h m = elim (split to state) [
        | inl here ↦ stays states avoided most from to (omega (arith, l, here, e))
        | inr later ↦ elim (split to (state + 1 + body)) [
          | inl in_block ↦ (let more = left_of 1 most (omega (arith, later, m, e)) in
              joined states avoided 1 more.0 most from state to (omega (arith, more.1)) into (block.0 to more.0 later (omega (arith, in_block)) (omega (arith, m, e, more.1))))
          | inr behind ↦ longer states avoided 1 most from to (omega (arith, behind, m, e)) (subst (λ to. Leads states avoided 1 from to) (omega (arith, behind, h, e)) past)
        ]
      ]

      last : state + 1 + body ≡ from + (1 + body + 1)
      last = omega (arith, e)

      down : (number : ℕ) → from ≤ number → number ≤ from + (1 + body + 1) → Leads states avoided (1 + body + 1) number (from + (1 + body + 1))
      down number l h = subst (λ to. Leads states avoided (1 + body + 1) number to) last (elim (split number state) [
        | inl here ↦ subst (λ number. Leads states avoided (1 + body + 1) number (state + 1 + body)) (omega (arith, l, here, e)) (longer states avoided 1 (1 + body + 1) from (state + 1 + body) (omega arith) past)
        | inr later ↦ elim (split number (state + 1 + body)) [
          | inl in_block ↦ joined states avoided body 1 (1 + body + 1) number (state + body) (state + 1 + body) (omega arith) (block.1 number later (omega (arith, in_block))) on
          | inr behind ↦ stays states avoided (1 + body + 1) number (state + 1 + body) (omega (arith, behind, h, e))
        ]
      ])

  -- an `if` with an `else`, whose blocks have so many states
  if_else_climbs : (body other state : ℕ) (guard : GuardTree) → Before states state (if_holds guard state ∷ plainly (state + 1 + body) ∷ []) →
      Before states (state + 1 + body) (plainly (state + 1 + body + 1 + other) ∷ []) → Before states (state + 1 + body + 1 + other) (plainly (state + 1 + body + 1 + other) ∷ []) →
      Climbs body (state + 1) → Climbs other (state + 1 + body + 1) → Climbs (1 + body + (1 + other + 1)) state
  if_else_climbs body other state guard enters leaves leaves_other inner inner_other from e a = (up, down)
    where
      into : Leads states avoided 1 from state
      into = first_way states avoided from (if_holds guard state) (plainly (state + 1 + body) ∷ []) (enters from e) (apart state avoided (omega (arith, e, a)))

      past : Leads states avoided 1 from (state + 1 + body)
      past = second_way states avoided from (if_holds guard state) (plainly (state + 1 + body)) [] (enters from e) (apart (state + 1 + body) avoided (omega (arith, e, a)))

      on : Leads states avoided 1 (state + body) (state + 1 + body + 1 + other)
      on = first_way states avoided (state + body) (plainly (state + 1 + body + 1 + other)) [] (leaves (state + body) (omega arith)) (apart (state + 1 + body + 1 + other) avoided (omega (arith, e, a)))

      on_other : Leads states avoided 1 (state + 1 + body + other) (state + 1 + body + 1 + other)
      on_other = first_way states avoided (state + 1 + body + other) (plainly (state + 1 + body + 1 + other)) [] (leaves_other (state + 1 + body + other) (omega arith)) (apart (state + 1 + body + 1 + other) avoided (omega (arith, e, a)))

      block : Both body state
      block = inner state refl (omega (arith, e, a))

      block_other : Both other (state + 1 + body)
      block_other = inner_other (state + 1 + body) refl (omega (arith, e, a))

      through : Leads states avoided (1 + other + 1) from (state + 1 + body + 1 + other)
      through = joined states avoided (1 + other) 1 (1 + other + 1) from (state + 1 + body + other) (state + 1 + body + 1 + other) (omega arith)
          (joined states avoided 1 other (1 + other) from (state + 1 + body) (state + 1 + body + other) (omega arith) past (block_other.0 (state + 1 + body + other) other (omega arith) (omega arith) (omega arith))) on_other

      up : (to most : ℕ) → from ≤ to → to ≤ from + (1 + body + (1 + other + 1)) → to ≤ from + most → Leads states avoided most from to
      up to most l h m = elim (split to state) [
        | inl here ↦ stays states avoided most from to (omega (arith, l, here, e))
        | inr later ↦ elim (split to (state + 1 + body)) [
          | inl in_block ↦ (let more = left_of 1 most (omega (arith, later, m, e)) in
              joined states avoided 1 more.0 most from state to (omega (arith, more.1)) into (block.0 to more.0 later (omega (arith, in_block)) (omega (arith, m, e, more.1))))
          | inr behind ↦ elim (split to (state + 1 + body + 1 + other)) [
            | inl in_other ↦ (let more = left_of 1 most (omega (arith, later, m, e)) in
                joined states avoided 1 more.0 most from (state + 1 + body) to (omega (arith, more.1)) past (block_other.0 to more.0 behind (omega (arith, in_other)) (omega (arith, m, e, more.1))))
            | inr beyond ↦ longer states avoided (1 + other + 1) most from to (omega (arith, beyond, m, e)) (subst (λ to. Leads states avoided (1 + other + 1) from to) (omega (arith, beyond, h, e)) through)
          ]
        ]
      ]

      last : (state + 1 + body + 1 + other) ≡ from + (1 + body + (1 + other + 1))
      last = omega (arith, e)

      down : (number : ℕ) → from ≤ number → number ≤ from + (1 + body + (1 + other + 1)) → Leads states avoided (1 + body + (1 + other + 1)) number (from + (1 + body + (1 + other + 1)))
      down number l h = subst (λ to. Leads states avoided (1 + body + (1 + other + 1)) number to) last (elim (split number state) [
        | inl here ↦ subst (λ number. Leads states avoided (1 + body + (1 + other + 1)) number (state + 1 + body + 1 + other)) (omega (arith, l, here, e)) (longer states avoided (1 + other + 1) (1 + body + (1 + other + 1)) from (state + 1 + body + 1 + other) (omega arith) through)
        | inr later ↦ elim (split number (state + 1 + body)) [
          | inl in_block ↦ joined states avoided body 1 (1 + body + (1 + other + 1)) number (state + body) (state + 1 + body + 1 + other) (omega arith) (block.1 number later (omega (arith, in_block))) on
          | inr behind ↦ elim (split number (state + 1 + body + 1 + other)) [
            | inl in_other ↦ joined states avoided other 1 (1 + body + (1 + other + 1)) number (state + 1 + body + other) (state + 1 + body + 1 + other) (omega arith) (block_other.1 number behind (omega (arith, in_other))) on_other
            | inr beyond ↦ stays states avoided (1 + body + (1 + other + 1)) number (state + 1 + body + 1 + other) (omega (arith, beyond, h, e))
          ]
        ]
      ])

  mutual
    pub one_climbs : (first : StatementTree) (state variable : ℕ) → FlowsOne states first state variable → Climbs (states_in first) state
    one_climbs (argument_array line name bits extents) state variable flows = none_climbs state
    one_climbs (local_array line name extents bits) state variable flows = none_climbs state
    one_climbs (local_stream line name bits size) state variable flows = none_climbs state
    one_climbs (branch line when body no_statement) state variable flows =
        if_climbs (states_in_all body) state flows.0 flows.1 flows.3 (all_climb body (state + 1) variable flows.2)
    one_climbs (branch line when body (and_statement first rest)) state variable flows =
        if_else_climbs (states_in_all body) (states_in first + states_in_all rest) state flows.0 flows.1 flows.3.0 flows.3.2 (all_climb body (state + 1) variable flows.2)
        (both_climb (states_in first) (states_in_all rest) (state + 1 + states_in_all body + 1)
        (one_climbs first (state + 1 + states_in_all body + 1) (variable + variables_in_all body) flows.3.1.0)
        (all_climb rest (state + 1 + states_in_all body + 1 + states_in first) (variable + variables_in_all body + variables_in first) flows.3.1.1))
    one_climbs (while_loop line when body) state variable flows =
        loop_climbs (states_in_all body) state (plainly state) _ [] flows.0 refl refl flows.1 flows.2 flows.4 (all_climb body (state + 1 + 1) variable flows.3)
    one_climbs (for_loop line name begin end step body) state variable flows =
        loop_climbs (states_in_all body) state _ _ [] flows.0 refl refl flows.3 flows.4 flows.6 (all_climb body (state + 1 + 1) (variable + 1) flows.5)
    one_climbs statement state variable flows = plain_climbs state flows

    pub all_climb : (block : Block) (state variable : ℕ) → FlowsAll states block state variable → Climbs (states_in_all block) state
    all_climb no_statement state variable flows = none_climbs state
    all_climb (and_statement first rest) state variable flows =
        both_climb (states_in first) (states_in_all rest) state (one_climbs first state variable flows.0) (all_climb rest (state + states_in first) (variable + variables_in first) flows.1)
