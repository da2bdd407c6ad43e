-- In the states of a program each variable that is named where another is given its range, its begin or its end has a lower level.
use Rattle.std.proofs.Common.{◌≡◌, inl, inr, ℕ, zero, suc, ◌<◌, List, [], ◌∷◌, ◌++◌, length, map, replicate, nat_eq, Bool, true, false, if◌then◌else◌, refl, sym, subst}
use Rattle.std.specs.Prelude.{⊤}
use Rattle.std.specs.List.{AllByRecursion, filter}
use Rattle.std.proofs.lemmas.List.{length-replicate}
use Rattle.sd_range.specs.declared.affine.Affine.{Affine}
use Rattle.sd_range.specs.declared.range.Range.{Range}
use Rattle.sd_lex.specs.PlainTree.{FunctionTree}
use Rattle.sd_graph.specs.PlainTree as plain
use Rattle.sd_graph.specs.PlainTree.{KindTree, ItemTrees, no_item, and_item, StateTrees, no_state, and_state, GraphTree, ExitTree}
use Rattle.sd_graph.specs.TreeFold.{PlainState, states_listed}
use Rattle.sd_graph.specs.TreeParts.{exits_at}
use Rattle.sd_program.specs.Names.{Name}
use Rattle.sd_program.specs.Place.{in_function, EveryOfFunction}
use Rattle.sd_elab.specs.elab.Elaboration.{start_of, states_of_function}
use Rattle.sd_validity.specs.rules.Ranks.{Naming, param_namings, begin_naming, begin_namings, condition_naming, set_by, set_to, begun_at, is_begun, end_namings, kind_namings, item_namings, namings_from, namings}
use Rattle.sd_validity.specs.levels.Levels.{IsLowerBesideSizes, IsConditionPlaced, AreEndsPlaced}
use Rattle.sd_validity.proofs.levels_lemmas.Named.{joined}
use Rattle.sd_made.proofs.depths_lemmas.Starts.{IsOne, starts_of_all, block_starts}
use Rattle.sd_made.proofs.depths_lemmas.States.{IsSetting}
use Rattle.sd_made.proofs.depths_lemmas.Begun.{none_begun}
use Rattle.sd_made_valid.proofs.ranks_lemmas.Levels.{levels_of_all, AreFrom, level_in, from_behind}
use Rattle.sd_made_valid.proofs.ranks_lemmas.Below.{all_so, symbols_below}
use Rattle.sd_made_valid.proofs.ranks_lemmas.Items.{Given, Lower, IsRightParam, KindRight, ItemsRight}
use Rattle.sd_made_valid.proofs.ranks_lemmas.States.{IsRightCondition, IsRightExit, StatesRight, block_right}

-- the items of states
abbrev pub AllItemsRight : (symbols : ℕ) → (level : ℕ → ℕ) → StateTrees → Type 0
AllItemsRight symbols level no_state = ⊤
AllItemsRight symbols level (and_state items exits states) = ItemsRight symbols level items × AllItemsRight symbols level states

-- levels of the variables of states, with so many size symbols: what variables name is of lower levels, and those of maps and loops are below seven
pub record HasLevels (symbols : ℕ) (states : StateTrees) : Type 0 where
  pub level : ℕ → ℕ
  pub placed : AreEndsPlaced states
  pub lower : AllByRecursion (IsLowerBesideSizes symbols level) (namings states)
  pub items : AllItemsRight symbols level states
  pub begun : (state : ℕ) → AllByRecursion (λ variable. level variable < 7) (begun_at states state)

module _ (symbols : ℕ) (level : ℕ → ℕ) where
  -- ---- items

  params_lower : (params : List (ℕ × Range)) → AllByRecursion (IsRightParam symbols level) params → AllByRecursion (Lower symbols level) (param_namings params)
  params_lower [] all = tt
  params_lower (param ∷ params) all = (all.0.1, params_lower params all.1)

  mutual
    kind_lower : (kind : KindTree) → KindRight symbols level kind → AllByRecursion (Lower symbols level) (kind_namings kind)
    kind_lower (plain.task code ins outs) right = tt
    kind_lower (plain.map_scope sequential params private body) right = joined (Lower symbols level) (param_namings params) (item_namings body) (params_lower params right.0) (items_lower body right.1)
    kind_lower (plain.consume_scope stream element private body) right = items_lower body right
    kind_lower (plain.nested_graph inner links) right = tt
    kind_lower (plain.reduction resolution axis identity from to) right = tt
    kind_lower (plain.copy from to) right = tt

    items_lower : (items : ItemTrees) → ItemsRight symbols level items → AllByRecursion (Lower symbols level) (item_namings items)
    items_lower no_item right = tt
    items_lower (and_item line kind items) right = joined (Lower symbols level) (kind_namings kind) (item_namings items) (kind_lower kind right.0) (items_lower items right.1)

  -- ---- transitions

  module _ (starts : List ℕ) where
    begins_lower : (state : ℕ) (exits : List ExitTree) → AllByRecursion (IsRightExit symbols level starts state) exits → AllByRecursion (Lower symbols level) (begin_namings exits)
    begins_lower state [] right = tt
    begins_lower state (exit ∷ exits) right =
        joined (Lower symbols level) (if exit.back then [] else map begin_naming exit.set) (begin_namings exits) right.0.1.1.0 (begins_lower state exits right.1)

    filtered : (test : Naming → Bool) (all : List Naming) → AllByRecursion (Lower symbols level) all → AllByRecursion (Lower symbols level) (filter test all)
    filtered test [] right = tt
    filtered test (naming ∷ all) right = by_test (test naming) refl (filtered test all right.1) where
      by_test : (here : Bool) → test naming ≡ here → AllByRecursion (Lower symbols level) (filter test all) → AllByRecursion (Lower symbols level) (filter test (naming ∷ all))
      by_test true e others = rw e (right.0, others)
      by_test false e others = rw e others

    -- where no variable is given its begin there is no end
    none_filtered : (all : List Naming) → AllByRecursion (Lower symbols level) (filter (is_begun []) all)
    none_filtered [] = tt
    none_filtered (naming ∷ all) = none_filtered all

    condition_lower : (state : ℕ) (begun : List ℕ) (exit : ExitTree) → ((IsOne starts state → ⊥) → begun ≡ []) → IsRightCondition symbols level starts state exit →
        AllByRecursion (Lower symbols level) (filter (is_begun begun) (condition_naming exit.when))
    condition_lower state begun exit none (inl apart, placed) =
        subst (λ begun. AllByRecursion (Lower symbols level) (filter (is_begun begun) (condition_naming exit.when))) (sym (none apart)) (none_filtered (condition_naming exit.when))
    condition_lower state begun exit none (inr right, placed) = filtered (is_begun begun) (condition_naming exit.when) right

    ends_lower : (state : ℕ) (begun : List ℕ) (exits : List ExitTree) → ((IsOne starts state → ⊥) → begun ≡ []) → AllByRecursion (IsRightExit symbols level starts state) exits →
        AllByRecursion (Lower symbols level) (end_namings begun exits)
    ends_lower state begun [] none right = tt
    ends_lower state begun (exit ∷ exits) none right =
        joined (Lower symbols level) (filter (is_begun begun) (condition_naming exit.when)) (end_namings begun exits) (condition_lower state begun exit none right.0.1.0) (ends_lower state begun exits none right.1)

    -- ---- states

    states_lower : (all : StateTrees) (states : List PlainState) (number : ℕ) → ((state : ℕ) → (IsOne starts state → ⊥) → begun_at all state ≡ []) → StatesRight symbols level starts states number →
        AllByRecursion (Lower symbols level) (namings_from all number (states_listed states))
    states_lower all [] number none right = tt
    states_lower all (state ∷ states) number none right =
        let begun : List ℕ = begun_at all number in
        joined (Lower symbols level) (begin_namings state.1 ++ end_namings begun state.1) (item_namings state.0 ++ namings_from all (suc number) (states_listed states))
        (joined (Lower symbols level) (begin_namings state.1) (end_namings begun state.1) (begins_lower number state.1 right.0) (ends_lower number begun state.1 (none number) right.0))
        (joined (Lower symbols level) (item_namings state.0) (namings_from all (suc number) (states_listed states)) (items_lower state.0 right.1.0) (states_lower all states (suc number) none right.1.1))

    states_placed : (states : List PlainState) (number : ℕ) → StatesRight symbols level starts states number → AreEndsPlaced (states_listed states)
    states_placed [] number right = tt
    states_placed (state ∷ states) number right =
        (all_so (IsRightExit symbols level starts number) (λ exit. IsConditionPlaced exit.when) (λ exit right. right.1.0.1) state.1 right.0, states_placed states (suc number) right.1.1)

    states_items : (states : List PlainState) (number : ℕ) → StatesRight symbols level starts states number → AllItemsRight symbols level (states_listed states)
    states_items [] number right = tt
    states_items (state ∷ states) number right = (right.1.0, states_items states (suc number) right.1.1)

    -- the transitions out of a state
    setting_from : (states : List PlainState) (first number : ℕ) → StatesRight symbols level starts states first → AllByRecursion (IsSetting starts) (exits_at (states_listed states) number)
    setting_from [] first number right = tt
    setting_from (state ∷ states) first zero right = all_so (IsRightExit symbols level starts first) (IsSetting starts) (λ exit right. right.0) state.1 right.0
    setting_from (state ∷ states) first (suc number) right = setting_from states (suc first) number right.1.1

    abbrev AreLow : List ℕ → Type 0
    AreLow variables = AllByRecursion (λ variable. level variable < 7) variables

    variables_low : (set : List (ℕ × Affine)) → AllByRecursion (λ assignment. level assignment.0 < 7) set → AreLow (map (λ assignment. assignment.0) set)
    variables_low [] all = tt
    variables_low (assignment ∷ set) all = (all.0, variables_low set all.1)

    either_low : (test : Bool) (set : List (ℕ × Affine)) → AllByRecursion (λ assignment. level assignment.0 < 7) set → AreLow (if test then map (λ assignment. assignment.0) set else [])
    either_low true set all = variables_low set all
    either_low false set all = tt

    set_low : (state from : ℕ) (exits : List ExitTree) → AllByRecursion (IsRightExit symbols level starts from) exits → AreLow (set_to state exits)
    set_low state from [] right = tt
    set_low state from (exit ∷ exits) right =
        joined (λ variable. level variable < 7) (set_by state exit) (set_to state exits) (either_low (nat_eq exit.to state) exit.set right.0.1.1.1) (set_low state from exits right.1)

    begun_low : (state : ℕ) (states : List PlainState) (number : ℕ) → StatesRight symbols level starts states number → AreLow (begun_at (states_listed states) state)
    begun_low state [] number right = tt
    begun_low state (one ∷ states) number right =
        joined (λ variable. level variable < 7) (set_to state one.1) (begun_at (states_listed states) state) (set_low state number one.1 right.0) (begun_low state states (suc number) right.1.1)

-- ---- one program

pub function_levels : (names : List Name) (graphs : Name → GraphTree) (above : List FunctionTree) (function : FunctionTree) → EveryOfFunction Given above function →
    HasLevels (length names) (states_listed (states_of_function names graphs function))
function_levels names graphs above function given =
    let symbols : ℕ = length names in
    let before : List ℕ = replicate symbols 0 in
    let levels : List ℕ = levels_of_all function.body 0 in
    let level : ℕ → ℕ = level_in (before ++ levels) in
    let starts : List ℕ = starts_of_all function.body 1 in
    let states : List PlainState = states_of_function names graphs function in
    let from : AreFrom level symbols levels = subst (λ variable. AreFrom level variable levels) (length-replicate symbols 0) (from_behind before levels) in
    let right : StatesRight symbols level starts states 0 =
    block_right symbols level starts graphs function.body (start_of names function) no_item [] 0 (in_function above function.arguments) refl given.1 (block_starts function.body) from
    (symbols_below symbols level names refl) tt tt in
    let none : (state : ℕ) → (IsOne starts state → ⊥) → begun_at (states_listed states) state ≡ [] =
    λ state apart. none_begun starts (states_listed states) state (λ number. setting_from symbols level starts states 0 number right) apart in
    record {
      level = level;
      placed = states_placed symbols level starts states 0 right;
      lower = states_lower symbols level starts (states_listed states) states 0 none right;
      items = states_items symbols level starts states 0 right;
      begun = λ state. begun_low symbols level starts state states 0 right;
    }
