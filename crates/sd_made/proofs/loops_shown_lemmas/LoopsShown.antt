-- The loop variables in force in the states of statements are those of the loops round them.
use Rattle.std.proofs.Common.{◌≡◌, ◌∙◌, ◌⊎◌, inl, inr, ℕ, ◌+◌, ◌<◌, ◌≤◌, ℤ, [], ◌∷◌, Option, Bool, true, false, ◌&&◌, ◌||◌, nat_eq, refl, sym, subst, arith}
use Rattle.std.specs.List.{AllByRecursion, filter, flat_map, list_any}
use Rattle.sd_lex.specs.PlainTree.{Expression, StatementTree, argument_array, local_array, local_stream, for_loop, while_loop, branch, Block, no_statement, and_statement}
use Rattle.sd_graph.specs.PlainTree.{StateTrees}
use Rattle.sd_graph.specs.TreeParts.{count_states, exits_at}
use Rattle.sd_graph.specs.LoopScope.{numbers_below, leads_to, closes_loop, is_in_force, loops_in_force}
use Rattle.sd_graph.proofs.Among.{or_first, or_second, nat_eq_same}
use Rattle.sd_program.specs.Names.{Name}
use Rattle.sd_program.specs.Declared.{states_in, states_in_all}
use Rattle.sd_elab.specs.items.Counts.{variables_in, variables_in_all}
use Rattle.sd_elab.specs.states.Exits.{plainly, setting, if_holds, back_to}
use Rattle.sd_made.proofs.elab_lemmas.StateRanges.{split}
use Rattle.sd_made.proofs.elab_lemmas.LoopEntries.{ClosesLoopAlone}
use Rattle.sd_made.specs.loops_shown.Shown.{ShowsOne, ShowsAll}
use Rattle.sd_made.proofs.loops_shown_lemmas.Paths.{Leads, longer, joined, stays, first_way}
use Rattle.sd_made.proofs.loops_shown_lemmas.Flows.{Before, FlowsOne, FlowsAll}
use Rattle.sd_made.proofs.loops_shown_lemmas.Climbs.{Both, apart, all_climb}
use Rattle.sd_made.proofs.loops_shown_lemmas.Listed.{Loops, is_loop, is_about, listed, AreNested, nested_more, loops_listed}
use Rattle.sd_made.proofs.loops_shown_lemmas.Closing.{both_true, and_true, Closes, in_force_closes, in_force_is, if_ends, if_else_ends, loop_ends, while_closes, for_closes, all_inside}

same_truth : (first second : Bool) → (first ≡ true → second ≡ true) → (second ≡ true → first ≡ true) → first ≡ second
same_truth true second there back = sym (there refl)
same_truth false true there back = back refl
same_truth false false there back = refl

or_either : {P : Type 0} (first second : Bool) → (first || second) ≡ true → (first ≡ true → P) → (second ≡ true → P) → P
or_either true second h f g = f refl
or_either false second h f g = g h

module _ (states : StateTrees) (variables : ℕ) (closed : (number : ℕ) → AllByRecursion (ClosesLoopAlone states number) (exits_at states number)) where
  -- a loop round a state behind this one, up to so many behind it, that is closed by none of the states between, is one of these
  abbrev Only : Loops → (from count : ℕ) → Type 0
  Only loops from count =
      (begin variable end state : ℕ) → Closes states begin variable end → begin ≤ state → state ≤ end → from < state → state ≤ from + count → (end < from) ⊎ (from + count ≤ end) → is_about loops begin variable ≡ true

  -- each of the loops is in force there
  abbrev Each : Loops → (from count : ℕ) → Type 0
  Each loops from count = (begin variable state : ℕ) → is_about loops begin variable ≡ true → from < state → state ≤ from + count → is_in_force states state begin variable ≡ true

  -- what the states between close round a state
  abbrev Own : Loops → (from count state : ℕ) → Type 0
  Own loops from count state = (begin variable end : ℕ) → Closes states begin variable end → begin ≤ state → state ≤ end → from ≤ end → end < from + count → is_about loops begin variable ≡ true

  here : (loops : Loops) (from count state : ℕ) → AreNested variables (count_states states) loops → Only loops from count → Each loops from count → from < state → state ≤ from + count → Own loops from count state →
      loops_in_force states variables state ≡ listed loops
  here loops from count state nested only each l h own =
      (λ i. flat_map (λ begin. filter (λ variable. same begin variable i) (numbers_below variables)) (numbers_below (count_states states))) ∙ loops_listed variables (count_states states) loops nested
    where
      about : (begin variable : ℕ) → is_in_force states state begin variable ≡ true → is_about loops begin variable ≡ true
      about begin variable force =
          let of = in_force_closes states closed state begin variable force in
          elim (split of.0 from) [
            | inl before ↦ only begin variable of.0 state of.1 of.2 of.3 l h (inl before)
            | inr later ↦ elim (split of.0 (from + count)) [
              | inl inside ↦ own begin variable of.0 of.1 of.2 of.3 later inside
              | inr behind ↦ only begin variable of.0 state of.1 of.2 of.3 l h (inr behind)
            ]
          ]

      same : (begin variable : ℕ) → is_in_force states state begin variable ≡ is_about loops begin variable
      same begin variable = same_truth (is_in_force states state begin variable) (is_about loops begin variable) (about begin variable) (λ is. each begin variable state is l h)

  -- round a state that no loop is round
  pub none_here : (state : ℕ) → ((begin variable end : ℕ) → Closes states begin variable end → begin ≤ state → state ≤ end → ⊥) → loops_in_force states variables state ≡ []
  none_here state none = (λ i. flat_map (λ begin. filter (λ variable. same begin variable i) (numbers_below variables)) (numbers_below (count_states states))) ∙ loops_listed variables (count_states states) [] tt
    where
      same : (begin variable : ℕ) → is_in_force states state begin variable ≡ is_about [] begin variable
      same begin variable = same_truth (is_in_force states state begin variable) (is_about [] begin variable)
          (λ force. (let of = in_force_closes states closed state begin variable force in absurd (none begin variable of.0 of.1 of.2 of.3))) (λ is. cc)

  -- what is said of more states holds of fewer
  each_fewer : (loops : Loops) (from count low less : ℕ) → from ≤ low → low + less ≤ from + count → Each loops from count → Each loops low less
  each_fewer loops from count low less l h each begin variable state is above below = each begin variable state is (omega (arith, l, above)) (omega (arith, h, below))

  only_fewer : (loops : Loops) (from count low less : ℕ) → from ≤ low → low + less ≤ from + count → Only loops from count →
      ((begin variable end state : ℕ) → Closes states begin variable end → begin ≤ state → state ≤ end → low < state → state ≤ low + less → from ≤ end → end < from + count → (end < low) ⊎ (low + less ≤ end) → is_about loops begin variable ≡ true) →
      Only loops low less
  only_fewer loops from count low less l h only between begin variable end state closes least most above below outside = elim (split end from) [
    | inl before ↦ only begin variable end state closes least most (omega (arith, l, above)) (omega (arith, h, below)) (inl before)
    | inr later ↦ elim (split end (from + count)) [
      | inl inside ↦ between begin variable end state closes least most above below later inside outside
      | inr behind ↦ only begin variable end state closes least most (omega (arith, l, above)) (omega (arith, h, below)) (inr behind)
    ]
  ]

  -- where so many states stand
  abbrev Stand : Loops → (from state count : ℕ) → Type 0
  Stand loops from state count = (from + 1 ≡ state) × AreNested variables state loops × Only loops from count × Each loops from count × (from + count < count_states states)

  in_graph : (loops : Loops) (from state count : ℕ) → Stand loops from state count → AreNested variables (count_states states) loops
  in_graph loops from state count stand = nested_more variables state (count_states states) loops (omega (arith, stand.0, stand.4)) stand.1

  abbrev OneShown : StatementTree → Type 0
  OneShown first =
      (loops : Loops) (from state variable : ℕ) → Stand loops from state (states_in first) → variable + variables_in first ≤ variables → FlowsOne states first state variable →
      ShowsOne (loops_in_force states variables) first state variable (listed loops)

  abbrev AllShown : Block → Type 0
  AllShown block =
      (loops : Loops) (from state variable : ℕ) → Stand loops from state (states_in_all block) → variable + variables_in_all block ≤ variables → FlowsAll states block state variable →
      ShowsAll (loops_in_force states variables) block state variable (listed loops)

  plain_shown : (loops : Loops) (from state : ℕ) → Stand loops from state 1 → Before states state (plainly state ∷ []) → loops_in_force states variables state ≡ listed loops
  plain_shown loops from state stand before =
      here loops from 1 state (in_graph loops from state 1 stand) stand.2 stand.3 (omega (arith, stand.0)) (omega (arith, stand.0)) own
    where
      own : Own loops from 1 state
      own begin variable end closes least most above below = absurd (omega (arith, stand.0, most, below))

  -- ---- branches

  if_shown : (line : ℕ) (when : Expression) (body : Block) → AllShown body → OneShown (branch line when body no_statement)
  if_shown line when body all loops from state variable stand few flows = (
    here loops from (1 + states_in_all body + 1) state (in_graph loops from state (1 + states_in_all body + 1) stand) stand.2 stand.3 (omega (arith, stand.0)) (omega (arith, stand.0))
        (λ begin other end closes least most above below. (let is = ends begin other end closes above below in absurd (omega (arith, least, is.2)))),
    all loops state (state + 1) variable (
      refl,
      nested_more variables state (state + 1) loops (omega arith) stand.1,
      only_fewer loops from (1 + states_in_all body + 1) state (states_in_all body) (omega (arith, stand.0)) (omega (arith, stand.0)) stand.2
          (λ begin other end place closes least most low less above below outside. (let is = ends begin other end closes above below in elim outside [ inl l ↦ absurd (omega (arith, l, is.0)) | inr h ↦ absurd (omega (arith, h, is.1)) ])),
      each_fewer loops from (1 + states_in_all body + 1) state (states_in_all body) (omega (arith, stand.0)) (omega (arith, stand.0)) stand.3,
      omega (arith, stand.0, stand.4),
    ) (omega (arith, few)) flows.2,
    here loops from (1 + states_in_all body + 1) (state + 1 + states_in_all body) (in_graph loops from state (1 + states_in_all body + 1) stand) stand.2 stand.3 (omega (arith, stand.0)) (omega (arith, stand.0))
        (λ begin other end closes least most above below. (let is = ends begin other end closes above below in absurd (omega (arith, most, is.1)))),
  )
    where
      ends : (begin other end : ℕ) → Closes states begin other end → from ≤ end → end < from + (1 + states_in_all body + 1) → (state ≤ end) × (end < state + states_in_all body) × (state < begin)
      ends begin other end closes above below = if_ends states (states_in_all body) state flows.0 flows.1 flows.3 (all_inside states body (state + 1) variable flows.2) from begin other end stand.0 closes above below

  if_else_shown : (line : ℕ) (when : Expression) (body : Block) (first : StatementTree) (rest : Block) → AllShown body → AllShown (and_statement first rest) → OneShown (branch line when body (and_statement first rest))
  if_else_shown line when body first rest all all_other loops from state variable stand few flows = (
    here loops from (1 + states_in_all body + (1 + (states_in first + states_in_all rest) + 1)) state (in_graph loops from state (1 + states_in_all body + (1 + (states_in first + states_in_all rest) + 1)) stand) stand.2 stand.3 (omega (arith, stand.0)) (omega (arith, stand.0))
        (λ begin other end closes least most above below. elim (ends begin other end closes above below) [ inl is ↦ absurd (omega (arith, least, is.2)) | inr is ↦ absurd (omega (arith, least, is.2)) ]),
    all loops state (state + 1) variable (
      refl,
      nested_more variables state (state + 1) loops (omega arith) stand.1,
      only_fewer loops from (1 + states_in_all body + (1 + (states_in first + states_in_all rest) + 1)) state (states_in_all body) (omega (arith, stand.0)) (omega (arith, stand.0)) stand.2
          (λ begin other end place closes least most low less above below outside. elim (ends begin other end closes above below) [
            | inl is ↦ elim outside [ inl l ↦ absurd (omega (arith, l, is.0)) | inr h ↦ absurd (omega (arith, h, is.1)) ]
            | inr is ↦ absurd (omega (arith, least, less, is.2))
          ]),
      each_fewer loops from (1 + states_in_all body + (1 + (states_in first + states_in_all rest) + 1)) state (states_in_all body) (omega (arith, stand.0)) (omega (arith, stand.0)) stand.3,
      omega (arith, stand.0, stand.4),
    ) (omega (arith, few)) flows.2,
    (
      here loops from (1 + states_in_all body + (1 + (states_in first + states_in_all rest) + 1)) (state + 1 + states_in_all body) (in_graph loops from state (1 + states_in_all body + (1 + (states_in first + states_in_all rest) + 1)) stand) stand.2 stand.3 (omega (arith, stand.0)) (omega (arith, stand.0))
          (λ begin other end closes least most above below. elim (ends begin other end closes above below) [ inl is ↦ absurd (omega (arith, most, is.1)) | inr is ↦ absurd (omega (arith, least, is.2)) ]),
      all_other loops (state + 1 + states_in_all body) ((state + 1 + states_in_all body) + 1) (variable + variables_in_all body) (
        refl,
        nested_more variables state ((state + 1 + states_in_all body) + 1) loops (omega arith) stand.1,
        only_fewer loops from (1 + states_in_all body + (1 + (states_in first + states_in_all rest) + 1)) (state + 1 + states_in_all body) (states_in first + states_in_all rest) (omega (arith, stand.0)) (omega (arith, stand.0)) stand.2
            (λ begin other end place closes least most low less above below outside. elim (ends begin other end closes above below) [
              | inl is ↦ absurd (omega (arith, most, low, is.1))
              | inr is ↦ elim outside [ inl l ↦ absurd (omega (arith, l, is.0)) | inr h ↦ absurd (omega (arith, h, is.1)) ]
            ]),
        each_fewer loops from (1 + states_in_all body + (1 + (states_in first + states_in_all rest) + 1)) (state + 1 + states_in_all body) (states_in first + states_in_all rest) (omega (arith, stand.0)) (omega (arith, stand.0)) stand.3,
        omega (arith, stand.0, stand.4),
      ) (omega (arith, few)) flows.3.1,
      here loops from (1 + states_in_all body + (1 + (states_in first + states_in_all rest) + 1)) ((state + 1 + states_in_all body) + 1 + (states_in first + states_in_all rest)) (in_graph loops from state (1 + states_in_all body + (1 + (states_in first + states_in_all rest) + 1)) stand) stand.2 stand.3 (omega (arith, stand.0)) (omega (arith, stand.0))
          (λ begin other end closes least most above below. elim (ends begin other end closes above below) [ inl is ↦ absurd (omega (arith, most, is.1)) | inr is ↦ absurd (omega (arith, most, is.1)) ]),
    ),
  )
    where
      ends : (begin other end : ℕ) → Closes states begin other end → from ≤ end → end < from + (1 + states_in_all body + (1 + (states_in first + states_in_all rest) + 1)) →
          ((state ≤ end) × (end < state + states_in_all body) × (state < begin)) ⊎ ((state + 1 + states_in_all body ≤ end) × (end < state + 1 + states_in_all body + (states_in first + states_in_all rest)) × (state + 1 + states_in_all body < begin))
      ends begin other end closes above below =
          if_else_ends states (states_in_all body) (states_in first + states_in_all rest) state flows.0 flows.1 flows.3.0 flows.3.2 (all_inside states body (state + 1) variable flows.2)
          (all_inside states (and_statement first rest) (state + 1 + states_in_all body + 1) (variable + variables_in_all body) flows.3.1) from begin other end stand.0 closes above below

  -- ---- loops

  while_shown : (line : ℕ) (when : Expression) (body : Block) → AllShown body → OneShown (while_loop line when body)
  while_shown line when body all loops from state variable stand few flows = (
    here loops from (2 + states_in_all body + 1) state (in_graph loops from state (2 + states_in_all body + 1) stand) stand.2 stand.3 (omega (arith, stand.0)) (omega (arith, stand.0))
        (λ begin other end closes least most above below. (let is = ends begin other end closes above below in absurd (omega (arith, least, is.2)))),
    here loops from (2 + states_in_all body + 1) (state + 1) (in_graph loops from state (2 + states_in_all body + 1) stand) stand.2 stand.3 (omega (arith, stand.0)) (omega (arith, stand.0))
        (λ begin other end closes least most above below. (let is = ends begin other end closes above below in absurd (omega (arith, least, is.2)))),
    all loops (state + 1) (state + 1 + 1) variable (
      refl,
      nested_more variables state (state + 1 + 1) loops (omega arith) stand.1,
      only_fewer loops from (2 + states_in_all body + 1) (state + 1) (states_in_all body) (omega (arith, stand.0)) (omega (arith, stand.0)) stand.2
          (λ begin other end place closes least most low less above below outside. (let is = ends begin other end closes above below in elim outside [ inl l ↦ absurd (omega (arith, l, is.0)) | inr h ↦ absurd (omega (arith, h, is.1)) ])),
      each_fewer loops from (2 + states_in_all body + 1) (state + 1) (states_in_all body) (omega (arith, stand.0)) (omega (arith, stand.0)) stand.3,
      omega (arith, stand.0, stand.4),
    ) few flows.3,
    here loops from (2 + states_in_all body + 1) (state + 1 + 1 + states_in_all body) (in_graph loops from state (2 + states_in_all body + 1) stand) stand.2 stand.3 (omega (arith, stand.0)) (omega (arith, stand.0))
        (λ begin other end closes least most above below. (let is = ends begin other end closes above below in absurd (omega (arith, most, is.1)))),
  )
    where
      ends : (begin other end : ℕ) → Closes states begin other end → from ≤ end → end < from + (2 + states_in_all body + 1) → (state + 1 ≤ end) × (end < state + 1 + states_in_all body) × (state + 1 < begin)
      ends begin other end closes above below =
          elim (loop_ends states (states_in_all body) state (plainly state) (back_to state []) flows.0 refl flows.1 flows.2 (all_inside states body (state + 1 + 1) variable flows.3) from begin other end stand.0 closes above below) [
            | inl is ↦ is
            | inr last ↦ absurd (while_closes states (states_in_all body) state begin other end flows.4 last closes)
          ]

  for_shown : (line : ℕ) (name : Name) (start : Option Expression) (stop : Expression) (step : Option ℤ) (body : Block) → AllShown body → OneShown (for_loop line name start stop step body)
  for_shown line name start stop step body all loops from state variable stand few flows = (
    here inner from (2 + states_in_all body) state nested only each (omega (arith, stand.0)) (omega (arith, stand.0))
        (λ begin other end closes least most above below. elim (ends begin other end closes above (omega (arith, below))) [ inl is ↦ absurd (omega (arith, least, is.2)) | inr last ↦ absurd (omega (arith, last, below, stand.0)) ]),
    here inner from (2 + states_in_all body) (state + 1) nested only each (omega (arith, stand.0)) (omega (arith, stand.0))
        (λ begin other end closes least most above below. elim (ends begin other end closes above (omega (arith, below))) [ inl is ↦ absurd (omega (arith, least, is.2)) | inr last ↦ absurd (omega (arith, last, below, stand.0)) ]),
    all inner (state + 1) (state + 1 + 1) (variable + 1) (
      refl,
      (omega arith, omega (arith, few), stand.1),
      only_fewer inner from (2 + states_in_all body) (state + 1) (states_in_all body) (omega (arith, stand.0)) (omega (arith, stand.0)) only
          (λ begin other end place closes least most low less above below outside. elim (ends begin other end closes above (omega (arith, below))) [
            | inl is ↦ elim outside [ inl l ↦ absurd (omega (arith, l, is.0)) | inr h ↦ absurd (omega (arith, h, is.1)) ]
            | inr last ↦ absurd (omega (arith, last, below, stand.0))
          ]),
      each_fewer inner from (2 + states_in_all body) (state + 1) (states_in_all body) (omega (arith, stand.0)) (omega (arith, stand.0)) each,
      omega (arith, stand.0, stand.4),
    ) (omega (arith, few)) flows.5,
    here loops from (2 + states_in_all body + 1) (state + 1 + 1 + states_in_all body) (in_graph loops from state (2 + states_in_all body + 1) stand) stand.2 stand.3 (omega (arith, stand.0)) (omega (arith, stand.0))
        (λ begin other end closes least most above below. elim (ends begin other end closes above below) [ inl is ↦ absurd (omega (arith, most, is.1)) | inr last ↦ absurd (omega (arith, most, last)) ]),
  )
    where
      inner : Loops
      inner = (state, variable) ∷ loops

      nested : AreNested variables (count_states states) inner
      nested = (omega (arith, stand.0, stand.4), omega (arith, few), stand.1)

      ends : (begin other end : ℕ) → Closes states begin other end → from ≤ end → end < from + (2 + states_in_all body + 1) → ((state + 1 ≤ end) × (end < state + 1 + states_in_all body) × (state + 1 < begin)) ⊎ (end ≡ state + 1 + states_in_all body)
      ends begin other end closes above below =
          loop_ends states (states_in_all body) state (setting state variable flows.1) (back_to state ((variable, flows.2) ∷ [])) flows.0 refl flows.3 flows.4 (all_inside states body (state + 1 + 1) (variable + 1) flows.5) from begin other end stand.0 closes above below

      only : Only inner from (2 + states_in_all body)
      only begin other end place closes least most low less outside = elim (split end from) [
        | inl before ↦ or_second (is_loop begin other (state, variable)) (is_about loops begin other) (stand.2 begin other end place closes least most low (omega (arith, less)) (inl before))
        | inr later ↦ elim (split end (from + (2 + states_in_all body + 1))) [
          | inl inside ↦ elim (ends begin other end closes later inside) [
            | inl is ↦ elim outside [ inl l ↦ absurd (omega (arith, l, later)) | inr h ↦ absurd (omega (arith, h, is.1, stand.0)) ]
            | inr last ↦ (let is = for_closes states (states_in_all body) state variable begin other end flows.2 flows.6 last closes in
                or_first (is_loop begin other (state, variable)) (is_about loops begin other) (and_true (nat_eq state begin) (nat_eq variable other) (nat_eq_same state begin is.0) (nat_eq_same variable other is.1)))
          ]
          | inr behind ↦ or_second (is_loop begin other (state, variable)) (is_about loops begin other) (stand.2 begin other end place closes least most low (omega (arith, less)) (inr behind))
        ]
      ]

      -- ---- the loop itself

      guard_exits : exits_at states state ≡ if_holds flows.0 (state + 1) ∷ plainly (state + 1 + 1 + states_in_all body) ∷ []
      guard_exits = flows.4 state refl

      block : Both states state (states_in_all body) (state + 1)
      block = all_climb states state body (state + 1 + 1) (variable + 1) flows.5 (state + 1) refl (omega arith)

      to_block : Leads states state 1 state (state + 1)
      to_block = first_way states state state (if_holds flows.0 (state + 1)) (plainly (state + 1 + 1 + states_in_all body) ∷ []) guard_exits (apart (state + 1) state (omega arith))

      to_state : (place : ℕ) → state ≤ place → place ≤ state + 1 + states_in_all body → leads_to states state state place ≡ true
      to_state place least most = elim (split place (state + 1)) [
        | inl first ↦ stays states state (count_states states) state place (omega (arith, first, least))
        | inr later ↦ joined states state 1 (states_in_all body) (count_states states) state (state + 1) place (omega (arith, stand.4)) to_block (block.0 place (states_in_all body) later most most)
      ]

      to_end : (place : ℕ) → state ≤ place → place ≤ state + 1 + states_in_all body → leads_to states state place (state + 1 + states_in_all body) ≡ true
      to_end place least most = elim (split place (state + 1)) [
        | inl first ↦ subst (λ place. leads_to states state place (state + 1 + states_in_all body) ≡ true) (omega (arith, first, least))
            (joined states state 1 (states_in_all body) (count_states states) state (state + 1) (state + 1 + states_in_all body) (omega (arith, stand.4)) to_block (block.0 (state + 1 + states_in_all body) (states_in_all body) (omega arith) (omega arith) (omega arith)))
        | inr later ↦ longer states state (states_in_all body) (count_states states) place (state + 1 + states_in_all body) (omega (arith, stand.4)) (block.1 place later most)
      ]

      closes_itself : Closes states state variable (state + 1 + states_in_all body)
      closes_itself = subst (λ exits. list_any (closes_loop state variable) exits ≡ true) (sym (flows.6 (state + 1 + states_in_all body) (omega arith)))
          (or_first (nat_eq state state && (nat_eq variable variable || false)) false
          (and_true (nat_eq state state) (nat_eq variable variable || false) (nat_eq_same state state refl) (or_first (nat_eq variable variable) false (nat_eq_same variable variable refl))))

      itself : (place : ℕ) → state ≤ place → place ≤ state + 1 + states_in_all body → is_in_force states place state variable ≡ true
      itself place least most = in_force_is states place state variable (state + 1 + states_in_all body) closes_itself (omega (arith, stand.0, stand.4)) (to_state place least most) (to_end place least most)

      each : Each inner from (2 + states_in_all body)
      each begin other place is low less = or_either (is_loop begin other (state, variable)) (is_about loops begin other) is
          (λ this. (let both = both_true (nat_eq state begin) (nat_eq variable other) this in
          let begins : state ≡ begin = grind (arith, both.0) in
          let of : variable ≡ other = grind (arith, both.1) in
          subst (λ begin. is_in_force states place begin other ≡ true) begins
          (subst (λ other. is_in_force states place state other ≡ true) of (itself place (omega (arith, low, stand.0)) (omega (arith, less, stand.0))))))
          (λ another. stand.3 begin other place another low (omega (arith, less)))

  -- ---- blocks

  both_shown : (first : StatementTree) (rest : Block) → OneShown first → AllShown rest → AllShown (and_statement first rest)
  both_shown first rest one all loops from state variable stand few flows = (
    one loops from state variable (
      stand.0,
      stand.1,
      only_fewer loops from (states_in first + states_in_all rest) from (states_in first) (omega arith) (omega arith) stand.2
          (λ begin other end place closes least most low less above below outside. elim outside [
            | inl l ↦ absurd (omega (arith, l, above))
            | inr h ↦ (let over = all_inside states rest (state + states_in first) (variable + variables_in first) flows.1 (from + states_in first) begin other end (omega (arith, stand.0)) closes h (omega (arith, below)) in absurd (omega (arith, over, least, less)))
          ]),
      each_fewer loops from (states_in first + states_in_all rest) from (states_in first) (omega arith) (omega arith) stand.3,
      omega (arith, stand.4),
    ) (omega (arith, few)) flows.0,
    all loops (from + states_in first) (state + states_in first) (variable + variables_in first) (
      omega (arith, stand.0),
      nested_more variables state (state + states_in first) loops (omega arith) stand.1,
      only_fewer loops from (states_in first + states_in_all rest) (from + states_in first) (states_in_all rest) (omega arith) (omega arith) stand.2
          (λ begin other end place closes least most low less above below outside. elim outside [
            | inl l ↦ absurd (omega (arith, l, most, low))
            | inr h ↦ absurd (omega (arith, h, below))
          ]),
      each_fewer loops from (states_in first + states_in_all rest) (from + states_in first) (states_in_all rest) (omega arith) (omega arith) stand.3,
      omega (arith, stand.4),
    ) (omega (arith, few)) flows.1,
  )

  mutual
    one_shown : (first : StatementTree) → OneShown first
    one_shown (argument_array line name bits extents) = λ loops from state variable stand few flows. tt
    one_shown (local_array line name extents bits) = λ loops from state variable stand few flows. tt
    one_shown (local_stream line name bits size) = λ loops from state variable stand few flows. tt
    one_shown (branch line when body no_statement) = if_shown line when body (all_shown body)
    one_shown (branch line when body (and_statement first rest)) = if_else_shown line when body first rest (all_shown body) (both_shown first rest (one_shown first) (all_shown rest))
    one_shown (while_loop line when body) = while_shown line when body (all_shown body)
    one_shown (for_loop line name begin end step body) = for_shown line name begin end step body (all_shown body)
    one_shown statement = λ loops from state variable stand few flows. plain_shown loops from state stand flows

    pub all_shown : (block : Block) → AllShown block
    all_shown no_statement = λ loops from state variable stand few flows. tt
    all_shown (and_statement first rest) = both_shown first rest (one_shown first) (all_shown rest)
