-- A list's own containers, by their names and by their numbers, and where they stand.
use Rattle.std.proofs.Common.{◌≡◌, ◌∙◌, ◌⊎◌, inl, inr, ℕ, ◌+◌, ◌<◌, ◌≤◌, List, [], ◌∷◌, ◌++◌, map, nat_eq, Bool, true, false, ◌&&◌, ◌||◌, bytes_eq, refl, ap, sym, subst, arith}
use Rattle.std.specs.Prelude.{⊤}
use Rattle.std.specs.List.{AllByRecursion}
use Rattle.std.proofs.lemmas.List.Folds.{list_any-append}
use Rattle.std.proofs.lemmas.Slice.Eq.{bytes_eq-Decides}
use Rattle.sd_lex.specs.PlainTree.{StatementTree, argument_array, local_array, local_stream, for_loop, while_loop, branch, Block, no_statement, and_statement}
use Rattle.sd_source.specs.nodes.Names.{is_among, with_name, noted}
use Rattle.sd_source.specs.nodes.SourceItems.{declared_by, with_locals}
use Rattle.sd_source.specs.nodes.SourceNodes.{with_declared, with_all_declared}
use Rattle.sd_graph.specs.Wiring.{has_number}
use Rattle.sd_graph.proofs.Among.{OneOf}
use Rattle.sd_program.specs.Names.{Name}
use Rattle.sd_program.specs.Declared.{containers_in, containers_in_all}
use Rattle.sd_program.specs.Place.{scope, Place, past, EveryAt, EveryFrom}
use Rattle.sd_program.specs.Known.{StandsIn, IsPlaced}
use Rattle.sd_elab.specs.items.NamesBehind.{own_before, own_of}
use Rattle.sd_made.proofs.elab_lemmas.ContainersMade.{holds_here}
use Rattle.sd_validity.proofs.bound_places_lemmas.EachPlace.{all_joined}
use Rattle.sd_made.proofs.counted_lemmas.Noted.{has_noted}
use Rattle.sd_made.proofs.counted_lemmas.Noted as counted_noted
use Rattle.sd_made.proofs.counted_lemmas.Agreed.{NumbersDiffer, NamesDiffer, IsOwn}
use Rattle.sd_made.proofs.nodes_lemmas.Entries.{Entry, name_of, number_of, entries_in, level_of, level_in, all_weaker, each_is_one, level_holds, all_levels_hold, IsBetween, entries_between, all_between, differ_joined, AreApart, same_tests}

-- ---- numbers

pub map_joined : {A B : Type 0} (f : A → B) (first second : List A) → map f (first ++ second) ≡ map f first ++ map f second
map_joined f [] second = refl
map_joined f (member ∷ first) second = ap (λ rest. f member ∷ rest) (map_joined f first second)

pub not_in_scope : (place : Place) (statement : StatementTree) → place.around ≡ scope → EveryAt IsPlaced place statement → StandsIn scope statement
not_in_scope place statement around placed = subst (λ kind. StandsIn kind statement) around (holds_here IsPlaced place statement placed)

-- of a scope
before_numbers : (statement : StatementTree) (container : ℕ) (place : Place) (rest : List ℕ) → place.around ≡ scope → EveryAt IsPlaced place statement →
    own_before statement container rest ≡ map number_of (level_of statement container) ++ rest
before_numbers (argument_array line name bits extents) container place rest around placed = absurd (not_in_scope place (argument_array line name bits extents) around placed)
before_numbers (local_array line name extents bits) container place rest around placed = refl
before_numbers (local_stream line name bits size) container place rest around placed = refl
before_numbers (for_loop line name begin end step body) container place rest around placed = absurd (not_in_scope place (for_loop line name begin end step body) around placed)
before_numbers (while_loop line when body) container place rest around placed = absurd (not_in_scope place (while_loop line when body) around placed)
before_numbers (branch line when body other) container place rest around placed = absurd (not_in_scope place (branch line when body other) around placed)
before_numbers statement container place rest around placed = refl

pub scope_numbers : (body : Block) (container : ℕ) (place : Place) → place.around ≡ scope → EveryFrom IsPlaced place body → own_of body container ≡ map number_of (level_in body container)
scope_numbers no_statement container place around placed = refl
scope_numbers (and_statement first rest) container place around placed =
    before_numbers first container place (own_of rest (container + containers_in first)) around placed.0
    ∙ ap (λ numbers. map number_of (level_of first container) ++ numbers) (scope_numbers rest (container + containers_in first) (past first place) around placed.1)
    ∙ sym (map_joined number_of (level_of first container) (level_in rest (container + containers_in first)))

-- ---- names

or_true : (test : Bool) → (test && true) ≡ test
or_true true = refl
or_true false = refl

or_assoc : (a b c : Bool) → ((a || b) || c) ≡ (a || (b || c))
or_assoc true b c = refl
or_assoc false b c = refl

or_none : (test : Bool) → (test || false) ≡ test
or_none true = refl
or_none false = refl

all_names : (known names : List Name) → noted known names ≡ counted_noted.noted bytes_eq bytes_eq-Decides (λ name. true) known names
all_names known [] = refl
all_names known (name ∷ names) = all_names (with_name known name) names

pub among_noted : (known names : List Name) (wanted : Name) → is_among (noted known names) wanted ≡ (is_among known wanted || is_among names wanted)
among_noted known names wanted =
    ap (λ names. is_among names wanted) (all_names known names) ∙ has_noted bytes_eq bytes_eq-Decides (λ name. true) known names wanted
    ∙ ap (λ found. is_among known wanted || found) (or_true (is_among names wanted))

-- two lists one behind the other
among_both : (known : Bool) (first second : List Entry) (wanted : Name) → ((known || is_among (map name_of first) wanted) || is_among (map name_of second) wanted) ≡ (known || is_among (map name_of (first ++ second)) wanted)
among_both known first second wanted =
    or_assoc known (is_among (map name_of first) wanted) (is_among (map name_of second) wanted)
    ∙ ap (λ found. known || found)
    (sym (list_any-append (bytes_eq wanted) (map name_of first) (map name_of second)) ∙ ap (λ names. is_among names wanted) (sym (map_joined name_of first second)))

-- of a scope
scope_declares : (statement : StatementTree) (container : ℕ) (place : Place) → place.around ≡ scope → EveryAt IsPlaced place statement → declared_by statement ≡ map name_of (level_of statement container)
scope_declares (argument_array line name bits extents) container place around placed = absurd (not_in_scope place (argument_array line name bits extents) around placed)
scope_declares (local_array line name extents bits) container place around placed = refl
scope_declares (local_stream line name bits size) container place around placed = refl
scope_declares (for_loop line name begin end step body) container place around placed = absurd (not_in_scope place (for_loop line name begin end step body) around placed)
scope_declares (while_loop line when body) container place around placed = absurd (not_in_scope place (while_loop line when body) around placed)
scope_declares (branch line when body other) container place around placed = absurd (not_in_scope place (branch line when body other) around placed)
scope_declares statement container place around placed = refl

scope_names_behind : (body : Block) (known : List Name) (container : ℕ) (place : Place) (wanted : Name) → place.around ≡ scope → EveryFrom IsPlaced place body →
    is_among (with_locals known body) wanted ≡ (is_among known wanted || is_among (map name_of (level_in body container)) wanted)
scope_names_behind no_statement known container place wanted around placed = sym (or_none (is_among known wanted))
scope_names_behind (and_statement first rest) known container place wanted around placed =
    scope_names_behind rest (noted known (declared_by first)) (container + containers_in first) (past first place) wanted around placed.1
    ∙ ap (λ found. found || is_among (map name_of (level_in rest (container + containers_in first))) wanted)
    (among_noted known (declared_by first) wanted ∙ ap (λ names. is_among known wanted || is_among names wanted) (scope_declares first container place around placed.0))
    ∙ among_both (is_among known wanted) (level_of first container) (level_in rest (container + containers_in first)) wanted

pub scope_names : (body : Block) (container : ℕ) (place : Place) (wanted : Name) → place.around ≡ scope → EveryFrom IsPlaced place body →
    is_among (with_locals [] body) wanted ≡ is_among (map name_of (level_in body container)) wanted
scope_names body container place wanted around placed = scope_names_behind body [] container place wanted around placed

-- of a program
mutual
  program_names : (statement : StatementTree) (known : List Name) (container : ℕ) (wanted : Name) →
      is_among (with_declared known statement) wanted ≡ (is_among known wanted || is_among (map name_of (level_of statement container)) wanted)
  program_names (argument_array line name bits extents) known container wanted = among_noted known (name ∷ []) wanted
  program_names (local_array line name extents bits) known container wanted = among_noted known (name ∷ []) wanted
  program_names (local_stream line name bits size) known container wanted = among_noted known (name ∷ []) wanted
  program_names (for_loop line name begin end step body) known container wanted = all_program_names body known container wanted
  program_names (while_loop line when body) known container wanted = all_program_names body known container wanted
  program_names (branch line when body other) known container wanted =
      all_program_names other (with_all_declared known body) (container + containers_in_all body) wanted
      ∙ ap (λ found. found || is_among (map name_of (level_in other (container + containers_in_all body))) wanted) (all_program_names body known container wanted)
      ∙ among_both (is_among known wanted) (level_in body container) (level_in other (container + containers_in_all body)) wanted
  program_names statement known container wanted = sym (or_none (is_among known wanted))

  pub all_program_names : (block : Block) (known : List Name) (container : ℕ) (wanted : Name) →
      is_among (with_all_declared known block) wanted ≡ (is_among known wanted || is_among (map name_of (level_in block container)) wanted)
  all_program_names no_statement known container wanted = sym (or_none (is_among known wanted))
  all_program_names (and_statement first rest) known container wanted =
      all_program_names rest (with_declared known first) (container + containers_in first) wanted
      ∙ ap (λ found. found || is_among (map name_of (level_in rest (container + containers_in first))) wanted) (program_names first known container wanted)
      ∙ among_both (is_among known wanted) (level_of first container) (level_in rest (container + containers_in first)) wanted

-- those of arguments and of a body
pub function_names : (arguments body : Block) (wanted : Name) →
    is_among (with_all_declared (with_all_declared [] arguments) body) wanted ≡ is_among (map name_of (level_in arguments 0 ++ level_in body (containers_in_all arguments))) wanted
function_names arguments body wanted =
    all_program_names body (with_all_declared [] arguments) (containers_in_all arguments) wanted
    ∙ ap (λ found. found || is_among (map name_of (level_in body (containers_in_all arguments))) wanted) (all_program_names arguments [] 0 wanted)
    ∙ among_both false (level_in arguments 0) (level_in body (containers_in_all arguments)) wanted

-- ---- entries of a level

pub level_between : (statement : StatementTree) (container : ℕ) → AllByRecursion (IsBetween container (container + containers_in statement)) (level_of statement container)
level_between statement container = level_holds (IsBetween container (container + containers_in statement)) statement container (entries_between statement container)

pub levels_between : (block : Block) (container : ℕ) → AllByRecursion (IsBetween container (container + containers_in_all block)) (level_in block container)
levels_between block container = all_levels_hold (IsBetween container (container + containers_in_all block)) block container (all_between block container)

mutual
  level_differs : (statement : StatementTree) (container : ℕ) → NumbersDiffer name_of number_of (level_of statement container)
  level_differs (argument_array line name bits extents) container = (tt, tt)
  level_differs (local_array line name extents bits) container = (tt, tt)
  level_differs (local_stream line name bits size) container = (tt, tt)
  level_differs (for_loop line name begin end step body) container = all_levels_differ body container
  level_differs (while_loop line when body) container = all_levels_differ body container
  level_differs (branch line when body other) container =
      differ_joined container (container + containers_in_all body) (container + containers_in_all body + containers_in_all other) (level_in body container)
      (level_in other (container + containers_in_all body)) (levels_between body container) (levels_between other (container + containers_in_all body)) (all_levels_differ body container)
      (all_levels_differ other (container + containers_in_all body))
  level_differs statement container = tt

  pub all_levels_differ : (block : Block) (container : ℕ) → NumbersDiffer name_of number_of (level_in block container)
  all_levels_differ no_statement container = tt
  all_levels_differ (and_statement first rest) container =
      differ_joined container (container + containers_in first) (container + containers_in first + containers_in_all rest) (level_of first container)
      (level_in rest (container + containers_in first)) (level_between first container) (levels_between rest (container + containers_in first)) (level_differs first container)
      (all_levels_differ rest (container + containers_in first))

-- where two entries are one or apart, entries with different numbers have different names
module _ (Is : Entry → Type 0) (apart : (entry other : Entry) → Is entry → Is other → AreApart entry other) where
  other_names : (entry : Entry) (entries : List Entry) → Is entry → AllByRecursion Is entries → AllByRecursion (λ other. nat_eq other.number entry.number ≡ false) entries →
      AllByRecursion (λ other. bytes_eq other.name entry.name ≡ false) entries
  other_names entry [] is all differ = tt
  other_names entry (other ∷ entries) is all differ =
      (sym (same_tests entry other (apart entry other is all.0)) ∙ swapped other.number entry.number differ.0, other_names entry entries is all.1 differ.1)
    where
      swapped : (m n : ℕ) → nat_eq m n ≡ false → nat_eq n m ≡ false
      swapped m n e = grind (arith, e)

  pub level_names_differ : (entries : List Entry) → AllByRecursion Is entries → NumbersDiffer name_of number_of entries → NamesDiffer name_of number_of entries
  level_names_differ [] all differ = tt
  level_names_differ (entry ∷ entries) all differ = (other_names entry entries all.0 all.1 differ.0, level_names_differ entries all.1 differ.1)

  -- those of a scope
  pub scope_is_own : (body : Block) (container : ℕ) (place : Place) → place.around ≡ scope → EveryFrom IsPlaced place body → AllByRecursion Is (entries_in body container) →
      IsOwn name_of number_of (level_in body container) (own_of body container) (with_locals [] body)
  scope_is_own body container place around placed has = record {
    numbers = λ number. ap (λ (numbers : List ℕ). has_number numbers number) (scope_numbers body container place around placed);
    names = λ name. scope_names body container place name around placed;
    numbers_differ = all_levels_differ body container;
    names_differ = level_names_differ (level_in body container) (all_levels_hold Is body container has) (all_levels_differ body container);
  }

-- ---- where the entries of a level stand

-- not among so many numbers from one on
abbrev pub IsOutside : (container count : ℕ) → Entry → Type 0
IsOutside container count entry = container ≤ entry.number → entry.number < container + count → ⊥

-- no entry is inside what an item declares
abbrev mutual
  pub IsClear : List Entry → StatementTree → (container : ℕ) → Type 0
  IsClear all (argument_array line name bits extents) container = ⊤
  IsClear all (local_array line name extents bits) container = ⊤
  IsClear all (local_stream line name bits size) container = ⊤
  IsClear all (for_loop line name begin end step body) container = AreClear all body container
  IsClear all (while_loop line when body) container = AreClear all body container
  IsClear all (branch line when body other) container = AreClear all body container × AreClear all other (container + containers_in_all body)
  IsClear all statement container = AllByRecursion (IsOutside container (containers_in statement)) all

  pub AreClear : List Entry → Block → (container : ℕ) → Type 0
  AreClear all no_statement container = ⊤
  AreClear all (and_statement first rest) container = IsClear all first container × AreClear all rest (container + containers_in first)

-- before these numbers, of the level, or behind them
abbrev pub Lies : (container count : ℕ) → (level : List Entry) → Entry → Type 0
Lies container count level entry = (entry.number < container) ⊎ (OneOf (λ same. same ≡ entry) level ⊎ (container + count ≤ entry.number))

one_of_either : (first second : List Entry) (entry : Entry) → OneOf (λ same. same ≡ entry) (first ++ second) → OneOf (λ same. same ≡ entry) first ⊎ OneOf (λ same. same ≡ entry) second
one_of_either [] second entry one = inr one
one_of_either (member ∷ first) second entry (inl here) = inl (inl here)
one_of_either (member ∷ first) second entry (inr later) = elim (one_of_either first second entry later) [
  | inl one ↦ inl (inr one)
  | inr one ↦ inr one
]

found_between : (least most : ℕ) (entries : List Entry) (entry : Entry) → AllByRecursion (IsBetween least most) entries → OneOf (λ same. same ≡ entry) entries → IsBetween least most entry
found_between least most [] entry all one = elim one [ ]
found_between least most (first ∷ entries) entry all (inl here) = subst (IsBetween least most) here all.0
found_between least most (first ∷ entries) entry all (inr later) = found_between least most entries entry all.1 later

lies_in_first : (container one more most : ℕ) (first second : List Entry) (entry : Entry) → AllByRecursion (IsBetween (container + one) most) second → Lies container (one + more) (first ++ second) entry → Lies container one first entry
lies_in_first container one more most first second entry between (inl before) = inl before
lies_in_first container one more most first second entry between (inr (inl there)) = elim (one_of_either first second entry there) [
  | inl here ↦ inr (inl here)
  | inr later ↦ inr (inr (found_between (container + one) most second entry between later).0)
]
lies_in_first container one more most first second entry between (inr (inr behind)) = inr (inr (omega (arith, behind)))

lies_in_second : (container one more : ℕ) (first second : List Entry) (entry : Entry) → AllByRecursion (IsBetween container (container + one)) first → Lies container (one + more) (first ++ second) entry → Lies (container + one) more second entry
lies_in_second container one more first second entry between (inl before) = inl (omega (arith, before))
lies_in_second container one more first second entry between (inr (inl there)) = elim (one_of_either first second entry there) [
  | inl here ↦ inl (found_between container (container + one) first entry between here).1
  | inr later ↦ inr (inl later)
]
lies_in_second container one more first second entry between (inr (inr behind)) = inr (inr (omega (arith, behind)))

is_outside : (container count : ℕ) (entry : Entry) → Lies container count [] entry → IsOutside container count entry
is_outside container count entry (inl before) least most = absurd (omega (arith, before, least))
is_outside container count entry (inr (inl one)) least most = elim one [ ]
is_outside container count entry (inr (inr behind)) least most = absurd (omega (arith, behind, most))

module _ (all : List Entry) where
  abbrev AllLie : (container count : ℕ) → List Entry → Type 0
  AllLie container count level = AllByRecursion (Lies container count level) all

  both_lie : (container one more : ℕ) (first second : List Entry) → AllByRecursion (IsBetween container (container + one)) first → AllByRecursion (IsBetween (container + one) (container + one + more)) second →
      AllLie container (one + more) (first ++ second) → AllLie container one first × AllLie (container + one) more second
  both_lie container one more first second below above lie = (
    all_weaker (Lies container (one + more) (first ++ second)) (Lies container one first) all (λ entry lies. lies_in_first container one more (container + one + more) first second entry above lies) lie,
    all_weaker (Lies container (one + more) (first ++ second)) (Lies (container + one) more second) all (λ entry lies. lies_in_second container one more first second entry below lies) lie,
  )

  mutual
    is_clear : (statement : StatementTree) (container : ℕ) → AllLie container (containers_in statement) (level_of statement container) → IsClear all statement container
    is_clear (argument_array line name bits extents) container lie = tt
    is_clear (local_array line name extents bits) container lie = tt
    is_clear (local_stream line name bits size) container lie = tt
    is_clear (for_loop line name begin end step body) container lie = are_clear body container lie
    is_clear (while_loop line when body) container lie = are_clear body container lie
    is_clear (branch line when body other) container lie =
        let both : AllLie container (containers_in_all body) (level_in body container) × AllLie (container + containers_in_all body) (containers_in_all other) (level_in other (container + containers_in_all body)) =
        both_lie container (containers_in_all body) (containers_in_all other) (level_in body container) (level_in other (container + containers_in_all body)) (levels_between body container)
        (levels_between other (container + containers_in_all body)) lie in
        (are_clear body container both.0, are_clear other (container + containers_in_all body) both.1)
    is_clear statement container lie = all_weaker (Lies container (containers_in statement) []) (IsOutside container (containers_in statement)) all (is_outside container (containers_in statement)) lie

    pub are_clear : (block : Block) (container : ℕ) → AllLie container (containers_in_all block) (level_in block container) → AreClear all block container
    are_clear no_statement container lie = tt
    are_clear (and_statement first rest) container lie =
        let both : AllLie container (containers_in first) (level_of first container) × AllLie (container + containers_in first) (containers_in_all rest) (level_in rest (container + containers_in first)) =
        both_lie container (containers_in first) (containers_in_all rest) (level_of first container) (level_in rest (container + containers_in first)) (level_between first container)
        (levels_between rest (container + containers_in first)) lie in
        (is_clear first container both.0, are_clear rest (container + containers_in first) both.1)

-- the entries of a scope are clear of its items
pub scope_is_clear : (body : Block) (container : ℕ) → AreClear (level_in body container) body container
scope_is_clear body container =
    are_clear (level_in body container) body container
    (all_weaker (λ entry. OneOf (λ same. same ≡ entry) (level_in body container)) (Lies container (containers_in_all body) (level_in body container)) (level_in body container) (λ entry one. inr (inl one))
    (each_is_one (level_in body container)))

-- so are those of a program, its arguments too
pub program_is_clear : (arguments body : Block) → AreClear (level_in arguments 0 ++ level_in body (containers_in_all arguments)) body (containers_in_all arguments)
program_is_clear arguments body =
    let first : ℕ = containers_in_all arguments in
    let level : List Entry = level_in body first in
    are_clear (level_in arguments 0 ++ level) body first
    (all_joined (Lies first (containers_in_all body) level) (level_in arguments 0) level
    (all_weaker (IsBetween 0 (0 + first)) (Lies first (containers_in_all body) level) (level_in arguments 0) (λ entry between. inl (omega (arith, between.1))) (levels_between arguments 0))
    (all_weaker (λ entry. OneOf (λ same. same ≡ entry) level) (Lies first (containers_in_all body) level) level (λ entry one. inr (inl one)) (each_is_one level)))
