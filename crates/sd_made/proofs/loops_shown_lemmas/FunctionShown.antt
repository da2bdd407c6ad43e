-- The loop variables in force in the states of a program.
use Rattle.std.proofs.Common.{◌≡◌, inl, inr, ℕ, zero, suc, ◌+◌, ◌<◌, ◌≤◌, List, [], ◌∷◌, length, refl, ap, zero-add, arith}
use Rattle.sd_lex.specs.PlainTree.{FunctionTree}
use Rattle.sd_graph.specs.PlainTree.{StateTrees, no_item, GraphTree}
use Rattle.sd_graph.specs.TreeFold.{PlainState, states_listed}
use Rattle.sd_graph.specs.TreeParts.{exits_at}
use Rattle.sd_graph.specs.LoopScope.{loops_in_force}
use Rattle.sd_program.specs.Names.{Name}
use Rattle.sd_program.specs.Declared.{states_in_all}
use Rattle.sd_elab.specs.items.Counts.{variables_in_all}
use Rattle.sd_elab.specs.states.Standing.{Standing}
use Rattle.sd_elab.specs.elab.Elaboration.{start_of, states_of_function}
use Rattle.sd_made.proofs.elab_lemmas.StateLists.{states_counted, has_itself}
use Rattle.sd_made.proofs.elab_lemmas.StateCounts.{all_counted}
use Rattle.sd_made.proofs.elab_lemmas.StateRanges.{split}
use Rattle.sd_made.proofs.elab_lemmas.LoopsClosed.{function_closes}
use Rattle.sd_made.specs.loops_shown.Shown.{ShowsAll}
use Rattle.sd_made.proofs.loops_shown_lemmas.Flows.{Before, FlowsAll, all_flow}
use Rattle.sd_made.proofs.loops_shown_lemmas.Closing.{no_closing, all_inside}
use Rattle.sd_made.proofs.loops_shown_lemmas.LoopsShown.{all_shown, none_here}

none_past : (listed : List PlainState) (state : ℕ) → length listed ≤ state → exits_at (states_listed listed) state ≡ []
none_past [] state past = refl
none_past (first ∷ listed) zero past = absurd (omega (arith, past))
none_past (first ∷ listed) (suc state) past = none_past listed state (omega (arith, past))

module _ (symbols : List Name) (graphs : Name → GraphTree) (function : FunctionTree) (variables : ℕ) where
  abbrev listed : List PlainState
  listed = states_of_function symbols graphs function

  abbrev states : StateTrees
  states = states_listed listed

  abbrev start : Standing
  start = start_of symbols function

  counted : length listed ≡ states_in_all function.body + 1
  counted = all_counted graphs function.body start no_item []

  flows : FlowsAll states function.body 1 start.variable × Before states (1 + states_in_all function.body) []
  flows = all_flow graphs states function.body start no_item [] (has_itself (exits_at states) 0 listed (λ state. ap (exits_at states) (zero-add state)))

  no_way : (end : ℕ) → 0 + states_in_all function.body ≤ end → exits_at states end ≡ []
  no_way end higher = elim (split end (states_in_all function.body + 1)) [
    | inl last ↦ flows.1 end (omega (arith, last, higher))
    | inr past ↦ none_past listed end (omega (arith, past, counted))
  ]

  pub function_shown : length symbols + variables_in_all function.body ≤ variables → ShowsAll (loops_in_force states variables) function.body 1 start.variable []
  function_shown few =
      all_shown states variables (function_closes symbols graphs function) function.body [] 0 1 start.variable (
        refl,
        tt,
        (λ begin other end place closes least most low less outside. elim outside [
          | inl lower ↦ absurd (omega (arith, lower))
          | inr higher ↦ absurd (no_closing states begin other end [] (no_way end higher) refl closes)
        ]),
        (λ begin other place is low less. cc),
        omega (arith, states_counted listed, counted),
      ) few flows.0

  -- the state before them is in no loop
  pub none_shown_first : loops_in_force states variables 0 ≡ []
  none_shown_first = none_here states variables (function_closes symbols graphs function) 0
      (λ begin other end closes least most. elim (split end (states_in_all function.body)) [
        | inl inside ↦ (let above : 0 < begin = all_inside states function.body 1 start.variable flows.0 0 begin other end refl closes most (omega (arith, inside)) in omega (arith, above, least))
        | inr higher ↦ no_closing states begin other end [] (no_way end (omega (arith, higher))) refl closes
      ])
