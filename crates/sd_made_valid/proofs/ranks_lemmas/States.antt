-- The states of a program's block: what their items and transitions name is of lower levels.
use Rattle.std.proofs.Common.{◌≡◌, ◌∙◌, ◌⊎◌, inl, inr, ℕ, suc, ◌+◌, ◌<◌, ◌≤◌, List, [], ◌∷◌, ◌++◌, length, map, Option, false, if◌then◌else◌, refl, sym, subst, arith, add-zero}
use Rattle.std.specs.Prelude.{⊤}
use Rattle.std.specs.List.{AllByRecursion}
use Rattle.sd_range.specs.Arithmetic.{affine_zero}
use Rattle.sd_lex.specs.PlainTree.{Expression, named, two, StatementTree, argument_array, local_array, local_stream, for_loop, while_loop, branch, Block, no_statement, and_statement}
use Rattle.sd_lex.specs.declared.syntax.operator.TwoSign.TheVariants.{Less}
use Rattle.sd_graph.specs.PlainTree.{ItemTrees, no_item, GraphTree, ExitTree}
use Rattle.sd_graph.specs.TreeFold.{PlainState}
use Rattle.sd_program.specs.Names.{Name}
use Rattle.sd_program.specs.Declared.{containers_in, containers_in_all, states_in, states_in_all, states_in_other}
use Rattle.sd_program.specs.Place.{Place, past, past_all, in_loop, EveryAt, EveryFrom}
use Rattle.sd_task.specs.in_force.Ranges.{affine_or}
use Rattle.sd_task.specs.task.Table.{Table}
use Rattle.sd_task.specs.task.ElementCode.{guard_of, below as loop_guard}
use Rattle.sd_elab.specs.items.Counts.{variables_in, variables_in_all}
use Rattle.sd_elab.specs.items.NamesBehind.{table_behind_state, table_behind_all}
use Rattle.sd_elab.specs.items.Items.{items_with}
use Rattle.sd_elab.specs.states.Exits.{plainly, back_to, stepped_on, if_holds}
use Rattle.sd_elab.specs.states.Standing.{Standing, behind, behind_all, state_behind, with_loop_variable}
use Rattle.sd_elab.specs.states.States.{chained, chained_all, chained_other}
use Rattle.sd_made.proofs.elab_lemmas.StateCounts.{one_counted as states_one, all_counted as states_all}
use Rattle.sd_validity.specs.rules.Ranks.{begin_naming, condition_naming}
use Rattle.sd_validity.specs.levels.Levels.{IsSizeOrLower, IsConditionPlaced}
use Rattle.sd_made.proofs.places_lemmas.Named.{or_named}
use Rattle.sd_made.proofs.depths_lemmas.Starts.{IsOne, StartsOne, StartsAll}
use Rattle.sd_made.proofs.depths_lemmas.States.{IsSetting}
use Rattle.sd_made_valid.proofs.ranks_lemmas.Levels.{levels_of, levels_of_all, one_counted, all_counted, AreFrom, from_both}
use Rattle.sd_made_valid.proofs.ranks_lemmas.Below.{AreBelow, named_by, below_deeper, below_more}
use Rattle.sd_made_valid.proofs.ranks_lemmas.Items.{Given, block_depth, affine_listed, Lower, ItemsRight, item_right}
use Rattle.sd_made_valid.proofs.ranks_lemmas.Conditions.{guard_placed, below_lower}

-- with so many size symbols; `for` loops begin at these states
module _ (symbols : ℕ) (level : ℕ → ℕ) (starts : List ℕ) where
  -- a condition where a `for` loop begins names lower variables
  abbrev pub IsRightCondition : (state : ℕ) → ExitTree → Type 0
  IsRightCondition state exit = ((IsOne starts state → ⊥) ⊎ AllByRecursion (Lower symbols level) (condition_naming exit.when)) × IsConditionPlaced exit.when

  -- so does a begin, and what is set has a level below seven
  abbrev pub IsRightSet : ExitTree → Type 0
  IsRightSet exit = AllByRecursion (Lower symbols level) (if exit.back then [] else map begin_naming exit.set) × AllByRecursion (λ assignment. level assignment.0 < 7) exit.set

  abbrev pub IsRightExit : (state : ℕ) → ExitTree → Type 0
  IsRightExit state exit = IsSetting starts exit × (IsRightCondition state exit × IsRightSet exit)

  abbrev Exits : (state : ℕ) → List ExitTree → Type 0
  Exits state exits = AllByRecursion (IsRightExit state) exits

  abbrev Held : ItemTrees → Type 0
  Held items = ItemsRight symbols level items

  -- the states from this number on
  abbrev pub StatesRight : List PlainState → (number : ℕ) → Type 0
  StatesRight [] number = ⊤
  StatesRight (state ∷ states) number = Exits number state.1 × (Held state.0 × StatesRight states (suc number))

  both_states : (first second : List PlainState) (number next : ℕ) → number + length first ≡ next → StatesRight first number → StatesRight second next → StatesRight (first ++ second) number
  both_states [] second number next e right others = subst (StatesRight second) (omega (arith, e)) others
  both_states (state ∷ first) second number next e right others = (right.0, (right.1.0, both_states first second (suc number) next (omega (arith, e)) right.1.1 others))

  -- a transition without a condition that sets nothing
  plain_exit : (state to : ℕ) → Exits state (plainly to ∷ [])
  plain_exit state to = ((inl refl, ((inr tt, tt), (tt, tt))), tt)

  -- what is told of a statement where it stands
  abbrev Levels : (variable : ℕ) → List ℕ → Type 0
  Levels variable levels = AreFrom level variable levels

  abbrev Below : (depth : ℕ) → Table → Type 0
  Below depth table = AreBelow symbols level depth table.variables

  mutual
    same_variables : (statement : StatementTree) (container : ℕ) (table : Table) → table.variables ≡ (table_behind_state statement container table).variables
    same_variables (local_array line name extents bits) container table = refl
    same_variables (local_stream line name bits size) container table = refl
    same_variables (for_loop line name begin end step body) container table = all_same_variables body container table
    same_variables (while_loop line when body) container table = all_same_variables body container table
    same_variables (branch line when body other) container table =
        all_same_variables body container table ∙ all_same_variables other (container + containers_in_all body) (table_behind_all body container table)
    same_variables statement container table = refl

    all_same_variables : (block : Block) (container : ℕ) (table : Table) → table.variables ≡ (table_behind_all block container table).variables
    all_same_variables no_statement container table = refl
    all_same_variables (and_statement first rest) container table =
        same_variables first container table ∙ all_same_variables rest (container + containers_in first) (table_behind_state first container table)

  below_past : (statement : StatementTree) (container depth : ℕ) (table : Table) → Below depth table → Below depth (table_behind_state statement container table)
  below_past statement container depth table are = subst (AreBelow symbols level depth) (same_variables statement container table) are

  below_past_all : (block : Block) (container depth : ℕ) (table : Table) → Below depth table → Below depth (table_behind_all block container table)
  below_past_all block container depth table are = subst (AreBelow symbols level depth) (all_same_variables block container table) are

  -- ---- loops

  -- the begin of a loop
  begin_lower : (variable depth : ℕ) (table : Table) (begin : Option Expression) → level variable ≡ depth → Below depth table → Lower symbols level (begin_naming (variable, affine_or affine_zero table.variables begin))
  begin_lower variable depth table begin e are =
      affine_listed (IsSizeOrLower symbols level variable) (affine_or affine_zero table.variables begin)
      (or_named (IsSizeOrLower symbols level variable) table.variables (λ name other found. named_by symbols level depth variable other e (are name other found)) affine_zero begin tt)

  -- with the variable of a loop
  below_inside : (name : Name) (at : Standing) (depth : ℕ) → level at.variable ≡ depth → Below depth at.table → Below (depth + 1) (with_loop_variable name at).table
  below_inside name at depth e are =
      below_more symbols level (name ∷ []) at.variable depth at.table.variables (λ number least most. subst (λ number. level number ≡ depth) (omega (arith, least, most)) e) are

  module _ (graphs : Name → GraphTree) where
    -- what follows from the state of this number on
    abbrev Follows : (ItemTrees → List PlainState) → (number : ℕ) → Type 0
    Follows rest number = (items : ItemTrees) → Held items → StatesRight (rest items) number

    -- a statement that makes one state with one item
    made_state : (statement : StatementTree) (at : Standing) (items : ItemTrees) (rest : ItemTrees → List PlainState) (number : ℕ) (place : Place) → EveryAt Given place statement →
        Levels at.variable (levels_of statement place.depth) → Below place.depth at.table → Held items → Follows rest (number + 1) →
        StatesRight ((items, plainly at.state ∷ []) ∷ rest (items_with graphs statement false at.table at.container at.variable no_item)) number
    made_state statement at items rest number place given levels below items_here follows =
        let made : ItemTrees = items_with graphs statement false at.table at.container at.variable no_item in
        let one : number + 1 ≡ suc number = omega arith in (
          plain_exit number at.state,
          (items_here, subst (StatesRight (rest made)) one (follows made (item_right symbols level graphs statement false at.table at.container at.variable no_item place given levels below tt))),
        )

    mutual
      statement_right : (statement : StatementTree) (at : Standing) (items : ItemTrees) (rest : ItemTrees → List PlainState) (number : ℕ) (place : Place) → suc number ≡ at.state → EveryAt Given place statement →
          StartsOne starts statement at.state → Levels at.variable (levels_of statement place.depth) → Below place.depth at.table → Held items → Follows rest (number + states_in statement) →
          StatesRight (chained graphs statement at items rest) number
      statement_right (argument_array line name bits extents) at items rest number place next given begun levels below items_here follows =
          subst (StatesRight (rest items)) (add-zero number) (follows items items_here)
      statement_right (local_array line name extents bits) at items rest number place next given begun levels below items_here follows = subst (StatesRight (rest items)) (add-zero number) (follows items items_here)
      statement_right (local_stream line name bits size) at items rest number place next given begun levels below items_here follows = subst (StatesRight (rest items)) (add-zero number) (follows items items_here)
      statement_right (branch line when body other) at items rest number place next given begun levels below items_here follows =
          let first : ℕ → List PlainState = λ join. chained_all graphs body (state_behind at) no_item (plainly join ∷ []) in
          let last : number + (1 + states_in_all body + states_in_other other) ≡ at.state + states_in_all body + states_in_other other = omega (arith, next) in
          let both : Levels at.variable (levels_of_all body place.depth) × Levels (at.variable + variables_in_all body) (levels_of_all other place.depth) =
          from_both level (levels_of_all body place.depth) (levels_of_all other place.depth) at.variable (at.variable + variables_in_all body) (omega (arith, all_counted body place.depth)) levels in (
            ((inl refl, ((inl (begun.0 number (omega (arith, next))), guard_placed at.table line when), (tt, tt))), plain_exit number (at.state + 1 + states_in_all body)),
            (
              items_here,
              subst (StatesRight (chained_other graphs other (behind_all body (state_behind at)) first rest)) (sym next)
                  (other_right other (behind_all body (state_behind at)) first rest at.state (states_in_all body) (past_all body place) (omega arith) given.1.1 begun.2 both.1
                  (below_past_all body at.container place.depth at.table below) (λ join. states_all graphs body (state_behind at) no_item (plainly join ∷ []))
                  (λ join. block_right body (state_behind at) no_item (plainly join ∷ []) at.state place (omega arith) given.1.0 begun.1 both.0 below tt (plain_exit (at.state + states_in_all body) join))
                  (λ items holds. subst (StatesRight (rest items)) last (follows items holds))),
            ),
          )
      statement_right (while_loop line when body) at items rest number place next given begun levels below items_here follows =
          let back : List ExitTree = back_to at.state [] ∷ [] in
          let inner_states : List PlainState = chained_all graphs body (state_behind (state_behind at)) no_item back in
          let on : at.state + 1 ≡ suc at.state = omega arith in (
            plain_exit number at.state,
            (
              items_here,
              subst (StatesRight ((no_item, if_holds (guard_of at.table line when) (at.state + 1) ∷ plainly (at.state + 1 + 1 + states_in_all body) ∷ []) ∷ (inner_states ++ rest no_item))) (sym next) (
                ((inl refl, ((inl (begun.0 at.state refl), guard_placed at.table line when), (tt, tt))), plain_exit at.state (at.state + 1 + 1 + states_in_all body)),
                (
                  tt,
                  both_states inner_states (rest no_item) (suc at.state) (number + (2 + states_in_all body + 1)) (omega (arith, next, states_all graphs body (state_behind (state_behind at)) no_item back))
                      (subst (StatesRight inner_states) on
                      (block_right body (state_behind (state_behind at)) no_item back (at.state + 1) (in_loop place) (omega arith) given.1 begun.1 levels
                      (below_deeper symbols level place.depth at.table.variables below) tt ((inl refl, ((inr tt, tt), (tt, tt))), tt)))
                      (follows no_item tt),
                ),
              ),
            ),
          )
      statement_right (for_loop line name begin end step body) at items rest number place next given begun levels below items_here follows =
          let standing : Standing = with_loop_variable name (state_behind (state_behind at)) in
          let back : List ExitTree = back_to at.state ((at.variable, stepped_on at.variable step) ∷ []) ∷ [] in
          let inner_states : List PlainState = chained_all graphs body standing no_item back in
          let on : at.state + 1 ≡ suc at.state = omega arith in
          let few : place.depth + 1 ≤ 7 = block_depth (in_loop place) body given.0.1.0 given.1 in
          let low : level at.variable < 7 = omega (arith, levels.0, few) in (
            ((inr begun.0, ((inr tt, tt), ((begin_lower at.variable place.depth at.table begin levels.0 below, tt), (low, tt)))), tt),
            (
              items_here,
              subst (StatesRight ((no_item, if_holds (loop_guard standing.table line name end) (at.state + 1) ∷ plainly (at.state + 1 + 1 + states_in_all body) ∷ []) ∷ (inner_states ++ rest no_item))) (sym next) (
                (
                  (inl refl, ((inr (below_lower symbols level place.depth at.table line name at.variable end below levels.0 given.0.1.1), guard_placed standing.table line (two Less (named name) end)), (tt, tt))),
                  plain_exit at.state (at.state + 1 + 1 + states_in_all body),
                ),
                (
                  tt,
                  both_states inner_states (rest no_item) (suc at.state) (number + (2 + states_in_all body + 1)) (omega (arith, next, states_all graphs body standing no_item back))
                      (subst (StatesRight inner_states) on
                      (block_right body standing no_item back (at.state + 1) (in_loop place) (omega arith) given.1 begun.1 levels.1 (below_inside name at place.depth levels.0 below) tt
                      ((inr begun.0, ((inr tt, tt), (tt, (low, tt)))), tt)))
                      (follows no_item tt),
                ),
              ),
            ),
          )
      statement_right statement at items rest number place next given begun levels below items_here follows = made_state statement at items rest number place given levels below items_here follows

      -- a block; the last state has these transitions
      pub block_right : (block : Block) (at : Standing) (items : ItemTrees) (exits : List ExitTree) (number : ℕ) (place : Place) → suc number ≡ at.state → EveryFrom Given place block → StartsAll starts block at.state →
          Levels at.variable (levels_of_all block place.depth) → Below place.depth at.table → Held items → Exits (number + states_in_all block) exits → StatesRight (chained_all graphs block at items exits) number
      block_right no_statement at items exits number place next given begun levels below items_here last = (subst (λ number. Exits number exits) (add-zero number) last, (items_here, tt))
      block_right (and_statement first rest) at items exits number place next given begun levels below items_here last =
          let end : number + (states_in first + states_in_all rest) ≡ number + states_in first + states_in_all rest = omega arith in
          let both : Levels at.variable (levels_of first place.depth) × Levels (at.variable + variables_in first) (levels_of_all rest place.depth) =
          from_both level (levels_of first place.depth) (levels_of_all rest place.depth) at.variable (at.variable + variables_in first) (omega (arith, one_counted first place.depth)) levels in
          statement_right first at items (λ items. chained_all graphs rest (behind first at) items exits) number place next given.0 begun.0 both.0 below items_here
          (λ items holds.
          block_right rest (behind first at) items exits (number + states_in first) (past first place) (omega (arith, next)) given.1 begun.1 both.1 (below_past first at.container place.depth at.table below) holds
          (subst (λ number. Exits number exits) end last))

      -- behind the first block of a branch, whose states begin with this number
      other_right : (other : Block) (at : Standing) (first : ℕ → List PlainState) (rest : ItemTrees → List PlainState) (number count : ℕ) (place : Place) → suc (number + count) ≡ at.state → EveryFrom Given place other →
          StartsAll starts other (at.state + 1) → Levels at.variable (levels_of_all other place.depth) → Below place.depth at.table → ((join : ℕ) → length (first join) ≡ count + 1) →
          ((join : ℕ) → StatesRight (first join) number) → Follows rest (number + count + states_in_other other) → StatesRight (chained_other graphs other at first rest) number
      other_right no_statement at first rest number count place next given begun levels below counted holds follows =
          both_states (first at.state) (rest no_item) number (number + count + 1) (omega (arith, counted at.state)) (holds at.state) (follows no_item tt)
      other_right (and_statement statement others) at first rest number count place next given begun levels below counted holds follows =
          let join : ℕ = at.state + 1 + (states_in statement + states_in_all others) in
          let behind_first : ItemTrees → List PlainState = λ items. chained_all graphs others (behind statement (state_behind at)) items (plainly join ∷ []) in
          let inner_states : List PlainState = chained graphs statement (state_behind at) no_item behind_first in
          let lengths : length inner_states ≡ states_in statement + (states_in_all others + 1) =
          states_one graphs statement (state_behind at) no_item behind_first (states_in_all others + 1) (λ items. states_all graphs others (behind statement (state_behind at)) items (plainly join ∷ [])) in
          let both : Levels at.variable (levels_of statement place.depth) × Levels (at.variable + variables_in statement) (levels_of_all others place.depth) =
          from_both level (levels_of statement place.depth) (levels_of_all others place.depth) at.variable (at.variable + variables_in statement) (omega (arith, one_counted statement place.depth)) levels in
          both_states (first join) (inner_states ++ rest no_item) number at.state (omega (arith, counted join, next)) (holds join)
          (both_states inner_states (rest no_item) at.state (number + count + (1 + (states_in statement + states_in_all others) + 1)) (omega (arith, lengths, next))
          (statement_right statement (state_behind at) no_item behind_first at.state place (omega arith) given.0 begun.0 both.0 below tt
          (λ items items_here.
          block_right others (behind statement (state_behind at)) items (plainly join ∷ []) (at.state + states_in statement) (past statement place) (omega arith) given.1 begun.1 both.1
          (below_past statement at.container place.depth at.table below) items_here (plain_exit (at.state + states_in statement + states_in_all others) join)))
          (follows no_item tt))
