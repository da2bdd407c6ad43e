-- The code of a tasklet's lines names inputs with as many subscripts as they have dimensions, variables that are used and locals in force.
use Rattle.std.proofs.Common.{◌≡◌, ◌∙◌, ℕ, ◌+◌, ◌<◌, ◌≤◌, nat_lt, nat_eq, ℤ, List, [], ◌∷◌, ◌++◌, length, Option, Some, None, unwrap_or, is_some, Bool, true, false, cond, ◌||◌, if◌then◌else◌, bytes_eq, refl, subst, arith}
use Rattle.std.specs.Bool.{⊤}
use Rattle.std.specs.List.{AllByRecursion}
use Rattle.std.proofs.lemmas.Bool.{lt-ltb}
use Rattle.std.proofs.lemmas.List.Folds.{list_any-append}
use Rattle.sd_lex.specs.PlainTree.{Expression, number, named, element_at, one, two, choice, Expressions, no_expression, and_expression, StatementTree, set, set_at, tasklet_branch, Block, no_statement, and_statement}
use Rattle.sd_graph.specs.PlainTree as plain
use Rattle.sd_graph.specs.PlainTree.{ValueTree, ActTree, ActTrees, TaskletTree}
use Rattle.sd_graph.specs.Wiring.{has_number}
use Rattle.sd_graph.proofs.Among.{nat_eq_same, or_first, or_second}
use Rattle.sd_program.specs.Names.{Name, Named, in_force}
use Rattle.sd_program.specs.Place.{length_of}
use Rattle.sd_task.specs.task.UsedVariables.{variable_value}
use Rattle.sd_task.specs.tasklets.Code.{named_value, assigned, followed_by, task_value, task_values, act_of, acts_of}
use Rattle.sd_task.specs.tasklet_names.UsedNames.{named_variable, is_assigned, locals_behind, next_behind, next_behind_all, used_value, used_values, used_acts, used_acts_all}
use Rattle.sd_valid.specs.BoundCode.{names_symbol, bound_value, bound_values, bound_act, bound_acts}
use Rattle.sd_validity.specs.rules.CodeNames as names
use Rattle.sd_validity.specs.rules.CodeNames.{count_values, is_input, is_output, is_value_known, are_values_known, is_act_known, are_acts_known}
use Rattle.sd_made.proofs.names_lemmas.UsedPlaces.{Has, IsUsed, place_found, kept_one, has_one, used_more}
use Rattle.sd_made_valid.specs.tasks.Counted.{CountsInputs, CountInputs, IsCounted, AreCounted}
use Rattle.sd_made_valid.proofs.tasks_lemmas.Ports.{Test, Matches, AreMatched}

-- ---- connectors

inside : (first other : ℕ) → Some first ≡ Some other → first ≡ other
inside first other e = cc

-- what has so many dimensions has its number
numbered : (test : Test) (connector dimensions : Option ℕ) (count other : ℕ) → Matches test connector dimensions → dimensions ≡ Some count → test (unwrap_or connector other) count ≡ true
numbered test None None count other matches e = cc
numbered test None (Some own) count other matches e = absurd matches
numbered test (Some connector) None count other matches e = absurd matches
numbered test (Some connector) (Some own) count other matches e = subst (λ count. test connector count ≡ true) (inside own count e) matches

-- what has a number and no dimensions
scalar : (test : Test) (connector : ℕ) (dimensions : Option ℕ) → Matches test (Some connector) dimensions → ((count : ℕ) → dimensions ≡ Some count → count ≡ 0) → test connector 0 ≡ true
scalar test connector None matches none = absurd matches
scalar test connector (Some count) matches none = subst (λ count. test connector count ≡ true) (none count refl) matches

-- ---- locals

-- each of these is in force and below a bound
abbrev pub AreLocals : (bound : ℕ) → (held : List ℕ) → Named ℕ → Type 0
AreLocals bound held numbers = AllByRecursion (λ entry. (has_number held entry.1 ≡ true) × (entry.1 < bound)) numbers

local_of : (bound : ℕ) (held : List ℕ) (numbers : Named ℕ) (name : Name) (place : ℕ) → AreLocals bound held numbers → in_force numbers name ≡ Some place → (has_number held place ≡ true) × (place < bound)
local_of bound held [] name place are e = cc
local_of bound held (entry ∷ numbers) name place are e = go (bytes_eq name entry.0) e (local_of bound held numbers name place are.1)
  where
    go : (same : Bool) → cond same (Some entry.1) (in_force numbers name) ≡ Some place → (in_force numbers name ≡ Some place → (has_number held place ≡ true) × (place < bound)) → (has_number held place ≡ true) × (place < bound)
    go true e later = subst (λ place. (has_number held place ≡ true) × (place < bound)) (inside entry.1 place e) are.0
    go false e later = later e

-- one more is in force
locals_more : (bound : ℕ) (held : List ℕ) (more : ℕ) (numbers : Named ℕ) → AreLocals bound held numbers → AreLocals bound (held ++ more ∷ []) numbers
locals_more bound held more [] are = tt
locals_more bound held more (entry ∷ numbers) are =
    ((list_any-append (nat_eq entry.1) held (more ∷ []) ∙ or_first (has_number held entry.1) (has_number (more ∷ []) entry.1) are.0.0, are.0.1), locals_more bound held more numbers are.1)

has_last : (held : List ℕ) (more : ℕ) → has_number (held ++ more ∷ []) more ≡ true
has_last held more = list_any-append (nat_eq more) held (more ∷ []) ∙ or_second (has_number held more) (has_number (more ∷ []) more) (or_first (nat_eq more more) false (nat_eq_same more more refl))

-- ---- variables that are used stay among those used

kept_named : (connector local known : Option ℕ) (used : List ℕ) (other : ℕ) → Has used other → Has (named_variable connector local known used) other
kept_named (Some connector) local known used other h = h
kept_named None (Some local) known used other h = h
kept_named None None known used other h = kept_one used known other h

module _ (variables ins outs : Named ℕ) where
  mutual
    kept_value : (locals : Named ℕ) (expression : Expression) (used : List ℕ) (other : ℕ) → Has used other → Has (used_value variables ins outs locals expression used) other
    kept_value locals (number value) used other h = h
    kept_value locals (named name) used other h = kept_named (in_force ins name) (in_force locals name) (in_force variables name) used other h
    kept_value locals (element_at name at) used other h = kept_values locals at used other h
    kept_value locals (one sign of) used other h = kept_value locals of used other h
    kept_value locals (two sign left right) used other h = kept_value locals right (used_value variables ins outs locals left used) other (kept_value locals left used other h)
    kept_value locals (choice value when last) used other h =
        kept_value locals last (used_value variables ins outs locals when (used_value variables ins outs locals value used)) other
        (kept_value locals when (used_value variables ins outs locals value used) other (kept_value locals value used other h))

    kept_values : (locals : Named ℕ) (expressions : Expressions) (used : List ℕ) (other : ℕ) → Has used other → Has (used_values variables ins outs locals expressions used) other
    kept_values locals no_expression used other h = h
    kept_values locals (and_expression first rest) used other h = kept_values locals rest (used_value variables ins outs locals first used) other (kept_value locals first used other h)

  mutual
    kept_acts : (first : StatementTree) (numbers : Named ℕ) (next : ℕ) (used : List ℕ) (other : ℕ) → Has used other → Has (used_acts variables ins outs first numbers next used) other
    kept_acts (set line name value) numbers next used other h = kept_value numbers value used other h
    kept_acts (set_at line name at value) numbers next used other h = kept_value numbers value (used_values variables ins outs numbers at used) other (kept_values numbers at used other h)
    kept_acts (tasklet_branch line when body last) numbers next used other h =
        kept_acts_all last numbers (next_behind_all variables ins outs body numbers next) (used_acts_all variables ins outs body numbers next (used_value variables ins outs numbers when used)) other
        (kept_acts_all body numbers next (used_value variables ins outs numbers when used) other (kept_value numbers when used other h))
    kept_acts statement numbers next used other h = h

    kept_acts_all : (block : Block) (numbers : Named ℕ) (next : ℕ) (used : List ℕ) (other : ℕ) → Has used other → Has (used_acts_all variables ins outs block numbers next used) other
    kept_acts_all no_statement numbers next used other h = h
    kept_acts_all (and_statement first rest) numbers next used other h =
        kept_acts_all rest (locals_behind variables ins outs first numbers next) (next_behind variables ins outs first numbers next) (used_acts variables ins outs first numbers next used) other (kept_acts first numbers next used other h)

  -- and numbers grow
  mutual
    grows : (first : StatementTree) (numbers : Named ℕ) (next : ℕ) → next ≤ next_behind variables ins outs first numbers next
    grows (set line name value) numbers next = go (is_assigned variables ins outs numbers name)
      where
        go : (is : Bool) → next ≤ cond is next (next + 1)
        go true = omega arith
        go false = omega arith
    grows (tasklet_branch line when body other) numbers next = omega (arith, grow body numbers next, grow other numbers (next_behind_all variables ins outs body numbers next))
    grows statement numbers next = omega arith

    grow : (block : Block) (numbers : Named ℕ) (next : ℕ) → next ≤ next_behind_all variables ins outs block numbers next
    grow no_statement numbers next = omega arith
    grow (and_statement first rest) numbers next =
        omega (arith, grows first numbers next, grow rest (locals_behind variables ins outs first numbers next) (next_behind variables ins outs first numbers next))

-- ---- code, whose connectors by name have these numbers and dimensions

module _ (sizes : List ℤ) (variables ins outs in_dimensions out_dimensions : Named ℕ) (code : TaskletTree) (matched_ins : AreMatched (is_input code) ins in_dimensions) (matched_outs : AreMatched (is_output code) outs out_dimensions) where
  abbrev Within : List ℕ → Type 0
  Within used = (other : ℕ) → Has used other → Has code.variables other

  abbrev known : List ℕ → ValueTree → Bool
  known held value = is_value_known code held (bound_value sizes code.variables value)

  variable_known : (held : List ℕ) (symbol : Bool) (value : ℤ) (place : ℕ) → nat_lt place (length code.variables) ≡ true → is_value_known code held (if symbol then plain.literal value else plain.variable place) ≡ true
  variable_known held true value place there = refl
  variable_known held false value place there = there

  used_known : (held : List ℕ) (found : Option ℕ) → IsUsed code.variables found → known held (variable_value code.variables found) ≡ true
  used_known held None used = refl
  used_known held (Some variable) used = variable_known held (names_symbol (length sizes) code.variables _) _ _ (lt-ltb _ (length code.variables) (place_found variable code.variables used).0)

  name_known : (held : List ℕ) (connector dimensions own found : Option ℕ) (start : List ℕ) → Matches (is_input code) connector dimensions → ((count : ℕ) → dimensions ≡ Some count → count ≡ 0) →
      ((number : ℕ) → own ≡ Some number → has_number held number ≡ true) → Within (named_variable connector own found start) → known held (named_value connector own (variable_value code.variables found)) ≡ true
  name_known held (Some connector) dimensions own found start matches none locals within = rw (scalar (is_input code) connector dimensions matches none) refl
  name_known held None dimensions (Some own) found start matches none locals within = locals own refl
  name_known held None dimensions None found start matches none locals within = used_known held found (used_more _ code.variables within found (has_one start found))

  counted : (numbers : Named ℕ) (at : Expressions) → count_values (bound_values sizes code.variables (task_values variables ins outs code.variables numbers at)) ≡ length_of at
  counted numbers no_expression = refl
  counted numbers (and_expression first rest) = omega (arith, counted numbers rest)

  module _ (bound : ℕ) (held : List ℕ) (numbers : Named ℕ) (are : AreLocals bound held numbers) where
    mutual
      value_known : (expression : Expression) (start : List ℕ) → CountsInputs in_dimensions expression → Within (used_value variables ins outs numbers expression start) →
          known held (task_value variables ins outs code.variables numbers expression) ≡ true
      value_known (number value) start counts within = refl
      value_known (named name) start counts within =
          name_known held (in_force ins name) (in_force in_dimensions name) (in_force numbers name) (in_force variables name) start (matched_ins name) counts (λ number e. (local_of bound held numbers name number are e).0) within
      value_known (element_at name at) start counts within =
          rw (counted numbers at, numbered (is_input code) (in_force ins name) (in_force in_dimensions name) (length_of at) 0 (matched_ins name) counts.0) (values_known at start counts.1 within)
      value_known (one sign of) start counts within = value_known of start counts within
      value_known (two sign left right) start counts within =
          let first : List ℕ = used_value variables ins outs numbers left start in
          rw (value_known left start counts.0 (λ other h. within other (kept_value variables ins outs numbers right first other h))) (value_known right first counts.1 within)
      value_known (choice value when last) start counts within =
          let first : List ℕ = used_value variables ins outs numbers value start in
          let second : List ℕ = used_value variables ins outs numbers when first in
          rw (
            value_known value start counts.0 (λ other h. within other (kept_value variables ins outs numbers last second other (kept_value variables ins outs numbers when first other h))),
            value_known when first counts.1.0 (λ other h. within other (kept_value variables ins outs numbers last second other h)),
          )
          (value_known last second counts.1.1 within)

      values_known : (expressions : Expressions) (start : List ℕ) → CountInputs in_dimensions expressions → Within (used_values variables ins outs numbers expressions start) →
          are_values_known code held (bound_values sizes code.variables (task_values variables ins outs code.variables numbers expressions)) ≡ true
      values_known no_expression start counts within = refl
      values_known (and_expression first rest) start counts within =
          let used : List ℕ = used_value variables ins outs numbers first start in
          rw (value_known first start counts.0 (λ other h. within other (kept_values variables ins outs numbers rest used other h))) (values_known rest used counts.1 within)

  -- ---- lines

  abbrev bound_line : ActTree → ActTree
  bound_line act = bound_act sizes code.variables act

  -- the code of a line, if it has any
  abbrev IsLineKnown : List ℕ → Option ActTree → Type 0
  IsLineKnown held None = ⊤
  IsLineKnown held (Some act) = is_act_known code held (bound_line act) ≡ true

  abbrev held_behind : List ℕ → Option ActTree → List ℕ
  held_behind held None = held
  held_behind held (Some act) = names.locals_behind (bound_line act) held

  followed : (held : List ℕ) (found : Option ActTree) (rest : ActTrees) → IsLineKnown held found → are_acts_known code (held_behind held found) (bound_acts sizes code.variables rest) ≡ true →
      are_acts_known code held (bound_acts sizes code.variables (followed_by found rest)) ≡ true
  followed held None rest is others = others
  followed held (Some act) rest is others = rw is others

  abbrev IsRight : List ℕ → Option ActTree → Named ℕ → Type 0
  IsRight held found behind = IsLineKnown held found × AreLocals code.locals (held_behind held found) behind

  set_known : (held : List ℕ) (numbers : Named ℕ) (next : ℕ) (name : Name) (value : ValueTree) (connector dimensions found : Option ℕ) → AreLocals code.locals held numbers → known held value ≡ true →
      Matches (is_output code) connector dimensions → ((count : ℕ) → dimensions ≡ Some count → count ≡ 0) → in_force numbers name ≡ found → cond (is_some connector || is_some found) next (next + 1) ≤ code.locals →
      IsRight held (Some (assigned connector (unwrap_or found next) value)) (cond (is_some connector || is_some found) numbers ((name, next) ∷ numbers))
  set_known held numbers next name value (Some connector) dimensions found are is matches none e room = (rw (scalar (is_output code) connector dimensions matches none) is, are)
  set_known held numbers next name value None dimensions (Some own) are is matches none e room =
      (rw (lt-ltb own code.locals (local_of code.locals held numbers name own are e).1) is, locals_more code.locals held own numbers are)
  set_known held numbers next name value None dimensions None are is matches none e room =
      let below : next < code.locals = omega (arith, room) in
      (rw (lt-ltb next code.locals below) is, ((has_last held next, below), locals_more code.locals held next numbers are))

  mutual
    line_known : (first : StatementTree) (held : List ℕ) (numbers : Named ℕ) (next : ℕ) (start : List ℕ) → AreLocals code.locals held numbers → IsCounted in_dimensions out_dimensions first →
        next_behind variables ins outs first numbers next ≤ code.locals → Within (used_acts variables ins outs first numbers next start) →
        IsRight held (act_of variables ins outs code.variables first numbers next) (locals_behind variables ins outs first numbers next)
    line_known (set line name value) held numbers next start are counts room within =
        set_known held numbers next name (task_value variables ins outs code.variables numbers value) (in_force outs name) (in_force out_dimensions name) (in_force numbers name) are
        (value_known code.locals held numbers are value start counts.1 within) (matched_outs name) counts.0 refl room
    line_known (set_at line name at value) held numbers next start are counts room within =
        let used : List ℕ = used_values variables ins outs numbers at start in
        let places = values_known code.locals held numbers are at start counts.1.0 (λ other h. within other (kept_value variables ins outs numbers value used other h)) in
        let given = value_known code.locals held numbers are value used counts.1.1 within in
        (rw (counted numbers at, numbered (is_output code) (in_force outs name) (in_force out_dimensions name) (length_of at) 0 (matched_outs name) counts.0, places) given, are)
    line_known (tasklet_branch line when body other) held numbers next start are counts room within =
        let middle : ℕ = next_behind_all variables ins outs body numbers next in
        let asked : List ℕ = used_value variables ins outs numbers when start in
        let used : List ℕ = used_acts_all variables ins outs body numbers next asked in
        let condition = value_known code.locals held numbers are when start counts.0
        (λ variable h. within variable (kept_acts_all variables ins outs other numbers middle used variable (kept_acts_all variables ins outs body numbers next asked variable h))) in
        let first = lines_known body held numbers next asked are counts.1.0 (omega (arith, room, grow variables ins outs other numbers middle)) (λ variable h. within variable (kept_acts_all variables ins outs other numbers middle used variable h)) in
        (rw (condition, first) (lines_known other held numbers middle used are counts.1.1 room within), are)
    line_known statement held numbers next start are counts room within = (tt, are)

    pub lines_known : (block : Block) (held : List ℕ) (numbers : Named ℕ) (next : ℕ) (start : List ℕ) → AreLocals code.locals held numbers → AreCounted in_dimensions out_dimensions block →
        next_behind_all variables ins outs block numbers next ≤ code.locals → Within (used_acts_all variables ins outs block numbers next start) →
        are_acts_known code held (bound_acts sizes code.variables (acts_of variables ins outs code.variables block numbers next)) ≡ true
    lines_known no_statement held numbers next start are counts room within = refl
    lines_known (and_statement first rest) held numbers next start are counts room within =
        let after : Named ℕ = locals_behind variables ins outs first numbers next in
        let following : ℕ = next_behind variables ins outs first numbers next in
        let used : List ℕ = used_acts variables ins outs first numbers next start in
        let found : Option ActTree = act_of variables ins outs code.variables first numbers next in
        let line = line_known first held numbers next start are counts.0 (omega (arith, room, grow variables ins outs rest after following)) (λ variable h. within variable (kept_acts_all variables ins outs rest after following used variable h)) in
        followed held found (acts_of variables ins outs code.variables rest after following) line.0 (lines_known rest (held_behind held found) after following used line.1 counts.1 room within)
