-- The states of a program's block, one after another: what stands in them, and which loops their transitions close.
use Rattle.std.proofs.Common.{◌≡◌, ◌⊎◌, inl, inr, ℕ, suc, ◌+◌, ◌≤◌, List, [], ◌∷◌, ◌++◌, length, None, false, refl, sym, subst, arith, add-zero}
use Rattle.std.specs.List.{AllByRecursion}
use Rattle.sd_lex.specs.PlainTree.{StatementTree, argument_array, local_array, local_stream, for_loop, while_loop, branch, Block, no_statement, and_statement}
use Rattle.sd_graph.specs.PlainTree.{ItemTrees, no_item, GraphTree, ExitTree}
use Rattle.sd_graph.specs.TreeFold.{PlainState}
use Rattle.sd_program.specs.Names.{Name}
use Rattle.sd_program.specs.Declared.{states_in, states_in_all, states_in_other}
use Rattle.sd_program.specs.Place.{Place, program, past, past_all, in_loop, EveryAt, EveryFrom}
use Rattle.sd_elab.specs.items.Items.{items_with}
use Rattle.sd_elab.specs.states.Exits.{plainly, back_to, stepped_on, if_holds}
use Rattle.sd_elab.specs.states.Standing.{Standing, behind, behind_all, state_behind, with_loop_variable}
use Rattle.sd_elab.specs.states.States.{chained, chained_all, chained_other}
use Rattle.sd_task.specs.task.ElementCode.{guard_of, below}
use Rattle.sd_made.proofs.elab_lemmas.StateCounts.{one_counted, all_counted}
use Rattle.sd_validity.specs.rules.Places.{no_scopes}
use Rattle.sd_made.proofs.depths_lemmas.Loops.{Loops, about, AboutOne, AboutAll}
use Rattle.sd_made.proofs.depths_lemmas.Starts.{IsOne, StartsOne, StartsAll}
use Rattle.sd_made.proofs.depths_lemmas.Counted.{Closes}
use Rattle.sd_made.proofs.depths_lemmas.Made.{IsCondition, IsGoing}
use Rattle.sd_made.proofs.depths_lemmas.Alone.{StatesAlone, states_joined}
use Rattle.sd_made.proofs.depths_lemmas.Items.{Do, Items, item_made}

-- a transition sets no variable, or leads to the begin of a `for` loop
abbrev pub IsSetting : (starts : List ℕ) → ExitTree → Type 0
IsSetting starts exit = (exit.set ≡ []) ⊎ IsOne starts exit.to

-- it has the condition of a statement, if any: that of a branch or a `while` loop where no `for` loop begins
abbrev pub IsAsking : (Given : Place → StatementTree → Type 0) → (starts : List ℕ) → (state : ℕ) → ExitTree → Type 0
IsAsking Given starts state exit = (exit.when ≡ None) ⊎ ((IsCondition Given exit × (IsOne starts state → ⊥)) ⊎ IsGoing Given exit)

-- and it closes one of the loops, where it is marked
abbrev pub Leave : (Given : Place → StatementTree → Type 0) → Loops → (starts : List ℕ) → (state : ℕ) → ExitTree → Type 0
Leave Given loops starts state exit = Closes loops state exit × IsSetting starts exit × IsAsking Given starts state exit

module _ (Given : Place → StatementTree → Type 0) (Nested : GraphTree → Type 0) (loops : Loops) (starts : List ℕ) (graphs : Name → GraphTree)
    (inner : (name : Name) → Nested (graphs name)) where
  abbrev Held : ItemTrees → (state : ℕ) → Type 0
  Held items state = Items Given Nested (Leave Given loops starts) loops graphs inner items state no_scopes

  abbrev Exits : (state : ℕ) → List ExitTree → Type 0
  Exits state exits = AllByRecursion (Leave Given loops starts state) exits

  abbrev States : List PlainState → (number : ℕ) → Type 0
  States states number = StatesAlone Nested (Leave Given loops starts) (Do Given Nested (Leave Given loops starts) loops graphs inner) states number

  both_states : (first second : List PlainState) (number next : ℕ) → number + length first ≡ next → States first number → States second next → States (first ++ second) number
  both_states = states_joined Nested (Leave Given loops starts) (Do Given Nested (Leave Given loops starts) loops graphs inner)

  -- a transition that is not marked
  plain_exit : (state to : ℕ) → Exits state (plainly to ∷ [])
  plain_exit state to = (((λ marked. cc), inl refl, inl refl), tt)

  -- what follows from the state of this number on
  abbrev Follows : (ItemTrees → List PlainState) → (number : ℕ) → Type 0
  Follows rest number = (items : ItemTrees) → Held items number → States (rest items) number

  -- a statement that makes one state with one item
  made_state : (statement : StatementTree) (at : Standing) (items : ItemTrees) (rest : ItemTrees → List PlainState) (number : ℕ) (place : Place) → place.around ≡ program → suc number ≡ at.state →
      EveryAt Given place statement → about loops at.state ≤ place.depth → Held items number → Follows rest (number + 1) →
      States ((items, plainly at.state ∷ []) ∷ rest (items_with graphs statement false at.table at.container at.variable no_item)) number
  made_state statement at items rest number place around next given deep items_here follows =
      let made : ItemTrees = items_with graphs statement false at.table at.container at.variable no_item in
      let one : number + 1 ≡ suc number = omega arith in
      let here : at.state ≡ number + 1 = omega (arith, next) in (
        plain_exit number at.state,
        items_here,
        subst (States (rest made)) one
            (follows made
            (subst (Held made) here
            (item_made Given Nested (Leave Given loops starts) loops graphs inner at.state statement false at.table at.container at.variable no_item no_scopes place around (omega (arith, deep)) given tt))),
      )

  mutual
    statement_made : (statement : StatementTree) (at : Standing) (items : ItemTrees) (rest : ItemTrees → List PlainState) (number : ℕ) (place : Place) → place.around ≡ program → suc number ≡ at.state →
        EveryAt Given place statement → AboutOne loops statement at.state place.depth → StartsOne starts statement at.state → Held items number → Follows rest (number + states_in statement) → States (chained graphs statement at items rest) number
    statement_made (argument_array line name bits extents) at items rest number place around next given deep begun items_here follows =
        subst (States (rest items)) (add-zero number) (follows items (subst (Held items) (sym (add-zero number)) items_here))
    statement_made (local_array line name extents bits) at items rest number place around next given deep begun items_here follows =
        subst (States (rest items)) (add-zero number) (follows items (subst (Held items) (sym (add-zero number)) items_here))
    statement_made (local_stream line name bits size) at items rest number place around next given deep begun items_here follows =
        subst (States (rest items)) (add-zero number) (follows items (subst (Held items) (sym (add-zero number)) items_here))
    statement_made (branch line when body other) at items rest number place around next given deep begun items_here follows =
        let first : ℕ → List PlainState = λ join. chained_all graphs body (state_behind at) no_item (plainly join ∷ []) in
        let last : number + (1 + states_in_all body + states_in_other other) ≡ at.state + states_in_all body + states_in_other other = omega (arith, next) in (
          (
            (
              (λ marked. cc),
              inl refl,
              inr (inl (
                record {
                  place = place;
                  statement = branch line when body other;
                  table = at.table;
                  line = line;
                  when = when;
                  to = at.state;
                  given = given;
                  asked = (refl, refl);
                  made = refl;
                },
                begun.0 number (omega (arith, next)),
              )),
            ),
            plain_exit number (at.state + 1 + states_in_all body),
          ),
          items_here,
          subst (States (chained_other graphs other (behind_all body (state_behind at)) first rest)) (sym next)
              (other_made other (behind_all body (state_behind at)) first rest at.state (states_in_all body) (past_all body place) around (omega arith) given.1.1 deep.1 begun.2
              (λ join. all_counted graphs body (state_behind at) no_item (plainly join ∷ []))
              (λ join. block_made body (state_behind at) no_item (plainly join ∷ []) at.state place around (omega arith) given.1.0 deep.0 begun.1 tt (plain_exit (at.state + states_in_all body) join))
              (λ items holds. subst (States (rest items)) last (follows items (subst (Held items) (sym last) holds)))),
        )
    statement_made (while_loop line when body) at items rest number place around next given deep begun items_here follows =
        let back : List ExitTree = back_to at.state [] ∷ [] in
        let inner_states : List PlainState = chained_all graphs body (state_behind (state_behind at)) no_item back in
        let on : at.state + 1 ≡ suc at.state = omega arith in (
          plain_exit number at.state,
          items_here,
          subst (States ((no_item, if_holds (guard_of at.table line when) (at.state + 1) ∷ plainly (at.state + 1 + 1 + states_in_all body) ∷ []) ∷ (inner_states ++ rest no_item))) (sym next) (
            (
              (
                (λ marked. cc),
                inl refl,
                inr (inl (
                  record {
                    place = place;
                    statement = while_loop line when body;
                    table = at.table;
                    line = line;
                    when = when;
                    to = at.state + 1;
                    given = given;
                    asked = (refl, refl);
                    made = refl;
                  },
                  begun.0 at.state refl,
                )),
              ),
              plain_exit at.state (at.state + 1 + 1 + states_in_all body),
            ),
            tt,
            both_states inner_states (rest no_item) (suc at.state) (number + (2 + states_in_all body + 1)) (omega (arith, next, all_counted graphs body (state_behind (state_behind at)) no_item back))
                (subst (States inner_states) on
                (block_made body (state_behind (state_behind at)) no_item back (at.state + 1) (in_loop place) around (omega arith) given.1 deep.1 begun.1 tt (((λ marked. deep.0), inl refl, inl refl), tt)))
                (follows no_item tt),
          ),
        )
    statement_made (for_loop line name begin end step body) at items rest number place around next given deep begun items_here follows =
        let standing : Standing = with_loop_variable name (state_behind (state_behind at)) in
        let back : List ExitTree = back_to at.state ((at.variable, stepped_on at.variable step) ∷ []) ∷ [] in
        let inner_states : List PlainState = chained_all graphs body standing no_item back in
        let on : at.state + 1 ≡ suc at.state = omega arith in (
          (((λ marked. cc), inr begun.0, inl refl), tt),
          items_here,
          subst (States ((no_item, if_holds (below standing.table line name end) (at.state + 1) ∷ plainly (at.state + 1 + 1 + states_in_all body) ∷ []) ∷ (inner_states ++ rest no_item))) (sym next) (
            (
              (
                (λ marked. cc),
                inl refl,
                inr (inr (record {
                  place = place;
                  line = line;
                  name = name;
                  begin = begin;
                  end = end;
                  step = step;
                  body = body;
                  table = standing.table;
                  to = at.state + 1;
                  given = given;
                  made = refl;
                })),
              ),
              plain_exit at.state (at.state + 1 + 1 + states_in_all body),
            ),
            tt,
            both_states inner_states (rest no_item) (suc at.state) (number + (2 + states_in_all body + 1)) (omega (arith, next, all_counted graphs body standing no_item back))
                (subst (States inner_states) on (block_made body standing no_item back (at.state + 1) (in_loop place) around (omega arith) given.1 deep.1 begun.1 tt (((λ marked. deep.0), inr begun.0, inl refl), tt)))
                (follows no_item tt),
          ),
        )
    statement_made statement at items rest number place around next given deep begun items_here follows = made_state statement at items rest number place around next given deep items_here follows

    -- a block; the last state has these transitions
    pub block_made : (block : Block) (at : Standing) (items : ItemTrees) (exits : List ExitTree) (number : ℕ) (place : Place) → place.around ≡ program → suc number ≡ at.state →
        EveryFrom Given place block → AboutAll loops block at.state place.depth → StartsAll starts block at.state → Held items number → Exits (number + states_in_all block) exits → States (chained_all graphs block at items exits) number
    block_made no_statement at items exits number place around next given deep begun items_here last = (subst (λ number. Exits number exits) (add-zero number) last, items_here, tt)
    block_made (and_statement first rest) at items exits number place around next given deep begun items_here last =
        let end : number + (states_in first + states_in_all rest) ≡ number + states_in first + states_in_all rest = omega arith in
        statement_made first at items (λ items. chained_all graphs rest (behind first at) items exits) number place around next given.0 deep.0 begun.0 items_here
        (λ items holds.
        block_made rest (behind first at) items exits (number + states_in first) (past first place) around (omega (arith, next)) given.1 deep.1 begun.1 holds (subst (λ number. Exits number exits) end last))

    -- behind the first block of a branch, whose states begin with this number
    other_made : (other : Block) (at : Standing) (first : ℕ → List PlainState) (rest : ItemTrees → List PlainState) (number count : ℕ) (place : Place) → place.around ≡ program → suc (number + count) ≡ at.state →
        EveryFrom Given place other → AboutAll loops other (at.state + 1) place.depth → StartsAll starts other (at.state + 1) → ((join : ℕ) → length (first join) ≡ count + 1) → ((join : ℕ) → States (first join) number) →
        Follows rest (number + count + states_in_other other) → States (chained_other graphs other at first rest) number
    other_made no_statement at first rest number count place around next given deep begun counted holds follows =
        both_states (first at.state) (rest no_item) number (number + count + 1) (omega (arith, counted at.state)) (holds at.state) (follows no_item tt)
    other_made (and_statement statement others) at first rest number count place around next given deep begun counted holds follows =
        let join : ℕ = at.state + 1 + (states_in statement + states_in_all others) in
        let behind_first : ItemTrees → List PlainState = λ items. chained_all graphs others (behind statement (state_behind at)) items (plainly join ∷ []) in
        let inner_states : List PlainState = chained graphs statement (state_behind at) no_item behind_first in
        let lengths : length inner_states ≡ states_in statement + (states_in_all others + 1) =
        one_counted graphs statement (state_behind at) no_item behind_first (states_in_all others + 1) (λ items. all_counted graphs others (behind statement (state_behind at)) items (plainly join ∷ [])) in
        both_states (first join) (inner_states ++ rest no_item) number at.state (omega (arith, counted join, next)) (holds join)
        (both_states inner_states (rest no_item) at.state (number + count + (1 + (states_in statement + states_in_all others) + 1)) (omega (arith, lengths, next))
        (statement_made statement (state_behind at) no_item behind_first at.state place around (omega arith) given.0 deep.0 begun.0 tt
        (λ items items_here.
        block_made others (behind statement (state_behind at)) items (plainly join ∷ []) (at.state + states_in statement) (past statement place) around (omega arith) given.1 deep.1 begun.1 items_here
        (plain_exit (at.state + states_in statement + states_in_all others) join)))
        (follows no_item tt))
