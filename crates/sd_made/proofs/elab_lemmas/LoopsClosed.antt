-- Each marked transition of a program's graph closes a loop that is entered at its begin alone.
use Rattle.std.proofs.Common.{◌≡◌, ◌⊎◌, inl, inr, ℕ, zero, suc, ◌+◌, ◌<◌, ◌≤◌, List, [], ◌∷◌, ◌++◌, length, false, refl, sym, subst, arith, zero-add, ap}
use Rattle.std.specs.Prelude.{⊤}
use Rattle.std.specs.List.{AllByRecursion}
use Rattle.sd_lex.specs.PlainTree.{StatementTree, argument_array, local_array, local_stream, assign, copy, reduce, map_scope, tasklet, consume_scope, call, for_loop, while_loop, branch, input, output, set, set_at, tasklet_branch, Block, no_statement, and_statement, FunctionTree, ProgramTree}
use Rattle.sd_range.specs.Arithmetic.{affine_zero}
use Rattle.sd_graph.specs.PlainTree.{ItemTrees, no_item, ExitTree, GuardTree, GraphTree, StateTrees}
use Rattle.sd_graph.specs.TreeFold.{PlainState, states_listed}
use Rattle.sd_graph.specs.TreeParts.{exits_at}
use Rattle.sd_program.specs.Names.{Name}
use Rattle.sd_program.specs.Declared.{states_in, states_in_all, states_in_other}
use Rattle.sd_task.specs.in_force.Ranges.{affine_or}
use Rattle.sd_task.specs.task.ElementCode.{guard_of, below}
use Rattle.sd_elab.specs.states.Exits.{plainly, setting, if_holds, back_to, stepped_on}
use Rattle.sd_elab.specs.states.Standing.{Standing, behind, behind_all, state_behind, with_loop_variable}
use Rattle.sd_elab.specs.states.States.{chained, chained_all}
use Rattle.sd_elab.specs.elab.Elaboration.{start_of, states_of_function, graph_of}
use Rattle.sd_made.specs.elab.EnteredLoops.{HasEnteredLoops, EntersLoopsAtBegins}
use Rattle.sd_made.proofs.elab_lemmas.StateLists.{has_itself}
use Rattle.sd_made.proofs.elab_lemmas.StateCounts.{all_counted}
use Rattle.sd_made.proofs.elab_lemmas.StateRanges.{split, Has, loop_inside, else_states, behind_states, statement_within, block_within}
use Rattle.sd_made.proofs.elab_lemmas.LoopEntries.{IsOut, all_out_more, IsEntered, ClosesLoopAlone, closes_too, unmarked, loop_entered, block_entered, turn_closes}
use Rattle.sd_made.proofs.elab_lemmas.ThroughoutLemmas.{program_throughout}

module _ (graphs : Name → GraphTree) (states : StateTrees) where
  -- the transitions of a state, those of this one
  abbrev Closed : (number : ℕ) → List ExitTree → Type 0
  Closed number exits = AllByRecursion (ClosesLoopAlone states number) exits

  abbrev Leaves : (current high last : ℕ) → Type 0
  Leaves current high last = (number : ℕ) → number + 1 ≡ last → AllByRecursion (IsOut current high) (exits_at states number)

  one_closed : (at : Standing) (items : ItemTrees) (listed : List PlainState) → Has graphs states at.state ((items, plainly at.state ∷ []) ∷ listed) → (number : ℕ) →
      at.state ≤ number + 1 → number + 1 < at.state + 1 → Closed number (exits_at states number)
  one_closed at items listed has number from before =
      subst (AllByRecursion (ClosesLoopAlone states number)) (sym (has.0 number (omega (arith, from, before)))) (unmarked states number (plainly at.state) refl, tt)

  -- ---- an `if`: its first block, of so many states, and what is behind it

  module _ (body other : Block) (at middle : Standing) (current join high : ℕ) (guard : GuardTree) (e : current + 1 ≡ at.state) (stands : middle.state ≡ at.state + 1 + states_in_all body)
      (later : middle.state ≤ join) (last : join + 1 ≡ high) (here : exits_at states current ≡ if_holds guard at.state ∷ plainly middle.state ∷ [])
      (entered : IsEntered states current high) (leaves : Leaves current high high)
      (body_has : Has graphs states (at.state + 1) (chained_all graphs body (state_behind at) no_item (plainly join ∷ [])))
      (rest_has : ((other ≡ no_statement) × (join ≡ middle.state)) ⊎ (Has graphs states (middle.state + 1) (chained_all graphs other (state_behind middle) no_item (plainly join ∷ [])) × (join ≡ middle.state + 1 + states_in_all other)))
    where
      -- the state before the first block
      before_body : (low top : ℕ) → at.state ≤ low → (middle.state ≤ low) ⊎ (top ≤ middle.state) → (number : ℕ) → current ≤ number → number < at.state → AllByRecursion (IsOut low top) (exits_at states number)
      before_body low top least either number from to =
          subst (λ number. AllByRecursion (IsOut low top) (exits_at states number)) (omega (arith, e, from, to)) (subst (AllByRecursion (IsOut low top)) (sym here) (inl least, (either, tt)))

      -- the states behind the first block
      behind_body : (number : ℕ) → middle.state ≤ number → AllByRecursion (IsOut at.state middle.state) (exits_at states number)
      behind_body number from = elim (split number high) [
        | inl less ↦ elim (split number join) [
          | inl inner ↦ elim rest_has [
            | inl none ↦ absurd (omega (arith, from, inner, none.1))
            | inr some ↦ block_within graphs states (IsOut at.state middle.state) (middle.state + 1) high (λ exit least most. inr (omega (arith, least))) other (state_behind middle) no_item (plainly join ∷ [])
                (omega arith) (omega (arith, some.1, last)) some.0 (inr later, tt) number (omega (arith, from)) (omega (arith, inner, some.1))
          ]
          | inr same ↦ all_out_more current high at.state middle.state (omega (arith, e)) (omega (arith, later, last)) (exits_at states number) (leaves number (omega (arith, same, less, last)))
        ]
        | inr more ↦ all_out_more current high at.state middle.state (omega (arith, e)) (omega (arith, later, last)) (exits_at states number) (entered number (inr more))
      ]

      body_entered : IsEntered states at.state middle.state
      body_entered number (inl lower) = elim (split number current) [
        | inl less ↦ all_out_more current high at.state middle.state (omega (arith, e)) (omega (arith, later, last)) (exits_at states number) (entered number (inl less))
        | inr same ↦ before_body at.state middle.state (omega arith) (inr (omega arith)) number same lower
      ]
      body_entered number (inr higher) = behind_body number higher

      else_entered : IsEntered states middle.state join
      else_entered number (inl lower) = elim (split number at.state) [
        | inl less ↦ elim (split number current) [
          | inl outside ↦ all_out_more current high middle.state join (omega (arith, e, stands)) (omega (arith, last)) (exits_at states number) (entered number (inl outside))
          | inr same ↦ before_body middle.state join (omega (arith, stands)) (inl (omega arith)) number same less
        ]
        | inr inside ↦ block_within graphs states (IsOut middle.state join) (at.state + 1) middle.state (λ exit least most. inl (omega (arith, most))) body (state_behind at) no_item (plainly join ∷ [])
            (omega arith) (omega (arith, stands)) body_has (inr (omega arith), tt) number (omega (arith, inside)) (omega (arith, lower, stands))
      ]
      else_entered number (inr higher) = elim (split number high) [
        | inl less ↦ all_out_more current high middle.state join (omega (arith, e, stands)) (omega (arith, last)) (exits_at states number) (leaves number (omega (arith, less, higher, last)))
        | inr more ↦ all_out_more current high middle.state join (omega (arith, e, stands)) (omega (arith, last)) (exits_at states number) (entered number (inr more))
      ]

  -- ---- two statements of a block, the first with so many states

  module _ (first : StatementTree) (rest : Block) (at : Standing) (items made : ItemTrees) (exits : List ExitTree) (current : ℕ) (e : current + 1 ≡ at.state)
      (has : Has graphs states at.state (chained graphs first at items (λ items. chained_all graphs rest (behind first at) items exits)))
      (rest_has : Has graphs states (at.state + states_in first) (chained_all graphs rest (behind first at) made exits))
      (entered : IsEntered states current (at.state + (states_in first + states_in_all rest))) (out : AllByRecursion (IsOut current (at.state + (states_in first + states_in_all rest))) exits)
    where
      -- the states behind the first one
      rest_out : (number : ℕ) → at.state + states_in first ≤ number + 1 → number < at.state + (states_in first + states_in_all rest) → AllByRecursion (IsOut current (at.state + states_in first)) (exits_at states number)
      rest_out number from to =
          block_within graphs states (IsOut current (at.state + states_in first)) (at.state + states_in first) (at.state + states_in first + states_in_all rest) (λ exit least most. inr least) rest (behind first at) made exits
          (omega arith) (omega arith) rest_has
          (all_out_more current (at.state + (states_in first + states_in_all rest)) current (at.state + states_in first) (omega arith) (omega arith) exits out) number from (omega (arith, to))

      first_entered : IsEntered states current (at.state + states_in first)
      first_entered number (inl lower) =
          all_out_more current (at.state + (states_in first + states_in_all rest)) current (at.state + states_in first) (omega arith) (omega arith) (exits_at states number) (entered number (inl lower))
      first_entered number (inr higher) = elim (split number (at.state + (states_in first + states_in_all rest))) [
        | inl less ↦ rest_out number (omega (arith, higher)) less
        | inr more ↦ all_out_more current (at.state + (states_in first + states_in_all rest)) current (at.state + states_in first) (omega arith) (omega arith) (exits_at states number) (entered number (inr more))
      ]

      rest_entered : IsEntered states (current + states_in first) (at.state + states_in first + states_in_all rest)
      rest_entered number (inl lower) = elim (split number current) [
        | inl less ↦ all_out_more current (at.state + (states_in first + states_in_all rest)) (current + states_in first) (at.state + states_in first + states_in_all rest) (omega arith) (omega arith) (exits_at states number) (entered number (inl less))
        | inr inside ↦ statement_within graphs states (IsOut (current + states_in first) (at.state + states_in first + states_in_all rest)) at.state (at.state + states_in first) (λ exit least most. inl (omega (arith, most, e)))
            first at items (λ items. chained_all graphs rest (behind first at) items exits) (omega arith) (omega arith) has number (omega (arith, inside, e)) (omega (arith, lower, e))
      ]
      rest_entered number (inr higher) =
          all_out_more current (at.state + (states_in first + states_in_all rest)) (current + states_in first) (at.state + states_in first + states_in_all rest) (omega arith) (omega arith) (exits_at states number) (entered number (inr (omega (arith, higher))))

  -- ---- a loop

  loop_closed : (at inside : Standing) (items : ItemTrees) (body : Block) (first : ExitTree) (guard : GuardTree) (turn : ExitTree) (rest : List PlainState) (current : ℕ) → current + 1 ≡ at.state →
      first.to ≡ at.state → first.back ≡ false → turn.to ≡ at.state → inside.state ≡ at.state + 1 + 1 →
      Has graphs states at.state
      ((items, first ∷ []) ∷ (no_item, if_holds guard (at.state + 1) ∷ plainly (at.state + 1 + 1 + states_in_all body) ∷ []) ∷ (chained_all graphs body inside no_item (turn ∷ []) ++ rest)) →
      IsEntered states current (at.state + (2 + states_in_all body + 1)) → Leaves current (at.state + (2 + states_in_all body + 1)) (at.state + (2 + states_in_all body + 1)) →
      (IsEntered states (at.state + 1) (at.state + 1 + 1 + states_in_all body) → AllByRecursion (IsOut (at.state + 1) (at.state + 1 + 1 + states_in_all body)) (turn ∷ []) →
      ((number : ℕ) → number + 1 ≡ at.state + 1 + 1 + states_in_all body → Closed number (turn ∷ [])) → (number : ℕ) → at.state + 1 + 1 ≤ number + 1 →
      number + 1 < at.state + 1 + 1 + states_in_all body + 1 → Closed number (exits_at states number)) →
      (number : ℕ) → at.state ≤ number + 1 → number + 1 < at.state + (2 + states_in_all body + 1) → Closed number (exits_at states number)
  loop_closed at inside items body first guard turn rest current e to plain again stands has entered leaves block number from before =
      let head : exits_at states at.state ≡ if_holds guard (at.state + 1) ∷ plainly (at.state + 1 + 1 + states_in_all body) ∷ [] = has.1.0 at.state refl in
      let loop : IsEntered states at.state (at.state + 1 + 1 + states_in_all body) = loop_entered states graphs at current (states_in_all body) first e to (has.0 current e) entered leaves in
      elim (split (number + 1) (at.state + 1)) [
        | inl here ↦ subst (AllByRecursion (ClosesLoopAlone states number)) (sym (has.0 number (omega (arith, from, here)))) (unmarked states number first plain, tt)
        | inr later ↦ elim (split (number + 1) (at.state + 1 + 1)) [
          | inl begin ↦ subst (AllByRecursion (ClosesLoopAlone states number)) (sym (has.1.0 number (omega (arith, later, begin))))
              (unmarked states number (if_holds guard (at.state + 1)) refl, (unmarked states number (plainly (at.state + 1 + 1 + states_in_all body)) refl, tt))
          | inr beyond ↦ block (block_entered states graphs at (states_in_all body) guard head loop) (inl (omega (arith, again)), tt)
              (λ number ends. (turn_closes states graphs at (states_in_all body) guard turn (omega (arith, e)) again head loop number ends, tt)) number beyond (omega (arith, before))
        ]
      ]

  -- ---- each transition

  mutual
    statement_closed : (statement : StatementTree) (at : Standing) (items : ItemTrees) (rest : ItemTrees → List PlainState) (current : ℕ) → current + 1 ≡ at.state →
        Has graphs states at.state (chained graphs statement at items rest) → IsEntered states current (at.state + states_in statement) →
        Leaves current (at.state + states_in statement) (at.state + states_in statement) → (number : ℕ) →
        at.state ≤ number + 1 → number + 1 < at.state + states_in statement → Closed number (exits_at states number)
    statement_closed (argument_array line name bits extents) at items rest current e has entered leaves number from before = absurd (omega (arith, from, before))
    statement_closed (local_array line name extents bits) at items rest current e has entered leaves number from before = absurd (omega (arith, from, before))
    statement_closed (local_stream line name bits size) at items rest current e has entered leaves number from before = absurd (omega (arith, from, before))
    statement_closed (branch line when body other) at items rest current e has entered leaves number from before =
        let middle : Standing = behind_all body (state_behind at) in
        let guard : GuardTree = guard_of at.table line when in
        let made = else_states graphs states other middle (at.state + 1) (λ join. chained_all graphs body (state_behind at) no_item (plainly join ∷ [])) rest (states_in_all body) refl
        (λ join. all_counted graphs body (state_behind at) no_item (plainly join ∷ [])) has.1 in
        let high : ℕ = at.state + (1 + states_in_all body + states_in_other other) in
        let last : made.0 + 1 ≡ high = omega (arith, made.2) in
        elim (split (number + 1) (at.state + 1)) [
          | inl first ↦ subst (AllByRecursion (ClosesLoopAlone states number)) (sym (has.0 number (omega (arith, from, first))))
              (unmarked states number (if_holds guard at.state) refl, (unmarked states number (plainly middle.state) refl, tt))
          | inr later ↦ elim (split (number + 1) (middle.state + 1)) [
            | inl inside ↦ block_closed body (state_behind at) no_item (plainly made.0 ∷ []) at.state refl made.3
                (body_entered body other at middle current made.0 high guard e refl made.1 last (has.0 current e) entered leaves made.3 made.5) (inr made.1, tt)
                (λ number ends. (unmarked states number (plainly made.0) refl, tt)) number later inside
            | inr beyond ↦ elim made.5 [
              | inl none ↦ absurd (omega (arith, beyond, before, last, none.1))
              | inr some ↦ block_closed other (state_behind middle) no_item (plainly made.0 ∷ []) middle.state refl some.0
                  (subst (IsEntered states middle.state) some.1 (else_entered body other at middle current made.0 high guard e refl made.1 last (has.0 current e) entered leaves made.3 made.5))
                  (inr (omega (arith, some.1)), tt)
                  (λ number ends. (unmarked states number (plainly made.0) refl, tt)) number beyond (omega (arith, before, last, some.1))
            ]
          ]
        ]
    statement_closed (while_loop line when body) at items rest current e has entered leaves number from before =
        let turn : ExitTree = back_to at.state [] in
        loop_closed at (state_behind (state_behind at)) items body (plainly at.state) (guard_of at.table line when) turn (rest no_item) current e refl refl refl refl has entered leaves
        (λ inner. block_closed body (state_behind (state_behind at)) no_item (turn ∷ []) (at.state + 1) refl (loop_inside graphs states at (state_behind (state_behind at)) body (turn ∷ []) (rest no_item) refl has.1.1) inner)
        number from before
    statement_closed (for_loop line name start end step body) at items rest current e has entered leaves number from before =
        let inside : Standing = with_loop_variable name (state_behind (state_behind at)) in
        let turn : ExitTree = back_to at.state ((at.variable, stepped_on at.variable step) ∷ []) in
        loop_closed at inside items body (setting at.state at.variable (affine_or affine_zero at.table.variables start)) (below inside.table line name end) turn (rest no_item) current e refl refl refl refl has entered leaves
        (λ inner. block_closed body inside no_item (turn ∷ []) (at.state + 1) refl (loop_inside graphs states at inside body (turn ∷ []) (rest no_item) refl has.1.1) inner)
        number from before
    statement_closed (assign line name target add value) at items rest current e has entered leaves number from before = one_closed at items _ has number from before
    statement_closed (copy line to to_dimensions from_name from_dimensions) at items rest current e has entered leaves number from before = one_closed at items _ has number from before
    statement_closed (reduce line lambda from_name to axis identity) at items rest current e has entered leaves number from before = one_closed at items _ has number from before
    statement_closed (map_scope line parameters ranges body) at items rest current e has entered leaves number from before = one_closed at items _ has number from before
    statement_closed (tasklet line body) at items rest current e has entered leaves number from before = one_closed at items _ has number from before
    statement_closed (consume_scope line stream size name element worker body) at items rest current e has entered leaves number from before = one_closed at items _ has number from before
    statement_closed (call line name arguments) at items rest current e has entered leaves number from before = one_closed at items _ has number from before
    statement_closed (input line connector memlet) at items rest current e has entered leaves number from before = one_closed at items _ has number from before
    statement_closed (output line connector memlet) at items rest current e has entered leaves number from before = one_closed at items _ has number from before
    statement_closed (set line name value) at items rest current e has entered leaves number from before = one_closed at items _ has number from before
    statement_closed (set_at line name target value) at items rest current e has entered leaves number from before = one_closed at items _ has number from before
    statement_closed (tasklet_branch line when body other) at items rest current e has entered leaves number from before = one_closed at items _ has number from before

    pub block_closed : (block : Block) (at : Standing) (items : ItemTrees) (exits : List ExitTree) (current : ℕ) → current + 1 ≡ at.state → Has graphs states at.state (chained_all graphs block at items exits) →
        IsEntered states current (at.state + states_in_all block) → AllByRecursion (IsOut current (at.state + states_in_all block)) exits →
        ((number : ℕ) → number + 1 ≡ at.state + states_in_all block → Closed number exits) → (number : ℕ) →
        at.state ≤ number + 1 → number + 1 < at.state + states_in_all block + 1 → Closed number (exits_at states number)
    block_closed no_statement at items exits current e has entered out ends number from before =
        subst (AllByRecursion (ClosesLoopAlone states number)) (sym (has.0 number (omega (arith, from, before)))) (ends number (omega (arith, from, before)))
    block_closed (and_statement first rest) at items exits current e has entered out ends number from before =
        let made = behind_states graphs states first at items (λ items. chained_all graphs rest (behind first at) items exits) has in
        elim (split (number + 1) (at.state + states_in first)) [
          | inl here ↦ statement_closed first at items (λ items. chained_all graphs rest (behind first at) items exits) current e has
              (first_entered first rest at items made.0 exits current e has made.1 entered out)
              (λ number last. rest_out first rest at items made.0 exits current e has made.1 entered out number (omega (arith, last)) (omega (arith, last))) number from here
          | inr later ↦ block_closed rest (behind first at) made.0 exits (current + states_in first) (omega (arith, e)) made.1
              (rest_entered first rest at items made.0 exits current e has made.1 entered out)
              (all_out_more current (at.state + (states_in first + states_in_all rest)) (current + states_in first) (at.state + states_in first + states_in_all rest) (omega arith) (omega arith) exits out)
              (λ number last. ends number (omega (arith, last))) number later (omega (arith, before))
        ]

-- ---- graphs

-- from outside the states of a function no transition leads into them: there is none
nothing_outside : (exits : List ExitTree) (low high : ℕ) → exits ≡ [] → AllByRecursion (IsOut low high) exits
nothing_outside exits low high none = subst (AllByRecursion (IsOut low high)) (sym none) tt

none_past : (listed : List PlainState) (state : ℕ) → length listed ≤ state → exits_at (states_listed listed) state ≡ []
none_past [] state past = refl
none_past (first ∷ listed) zero past = absurd (omega (arith, past))
none_past (first ∷ listed) (suc state) past = none_past listed state (omega (arith, past))

-- each transition of a function's states
pub function_closes : (symbols : List Name) (graphs : Name → GraphTree) (function : FunctionTree) (number : ℕ) →
    AllByRecursion (ClosesLoopAlone (states_listed (states_of_function symbols graphs function)) number) (exits_at (states_listed (states_of_function symbols graphs function)) number)
function_closes symbols graphs function number =
    let listed : List PlainState = states_of_function symbols graphs function in
    let states : StateTrees = states_listed listed in
    let start : Standing = start_of symbols function in
    let counted : length listed ≡ states_in_all function.body + 1 = all_counted graphs function.body start no_item [] in
    let has : Has graphs states 1 listed = has_itself (exits_at states) 0 listed (λ state. ap (exits_at states) (zero-add state)) in
    elim (split number (states_in_all function.body + 1)) [
      | inl inside ↦ block_closed graphs states function.body start no_item [] 0 refl has (outside listed (states_in_all function.body) counted) tt (λ number ends. tt) number (omega arith) (omega (arith, inside))
      | inr beyond ↦ subst (AllByRecursion (ClosesLoopAlone states number)) (sym (none_past listed number (omega (arith, beyond, counted)))) tt
    ]
  where
    outside : (listed : List PlainState) (many : ℕ) → length listed ≡ many + 1 → IsEntered (states_listed listed) 0 (1 + many)
    outside listed many counted number (inl lower) = absurd (omega (arith, lower))
    outside listed many counted number (inr higher) = nothing_outside (exits_at (states_listed listed) number) 0 (1 + many) (none_past listed number (omega (arith, higher, counted)))

function_enters : (symbols : List Name) (graphs : Name → GraphTree) (function : FunctionTree) → ⊤ → HasEnteredLoops (states_listed (states_of_function symbols graphs function))
function_enters symbols graphs function any number =
    let states : StateTrees = states_listed (states_of_function symbols graphs function) in
    closes_too states number (exits_at states number) (function_closes symbols graphs function number)

all_functions : (functions : List FunctionTree) → AllByRecursion (λ function. ⊤) functions
all_functions [] = tt
all_functions (function ∷ functions) = (tt, all_functions functions)

pub program_enters_loops_at_begins : (source : ProgramTree) → EntersLoopsAtBegins (graph_of source)
program_enters_loops_at_begins source =
    program_throughout HasEnteredLoops (λ state. tt) source.symbols (λ function. ⊤) (function_enters source.symbols) source.functions (all_functions source.functions)
