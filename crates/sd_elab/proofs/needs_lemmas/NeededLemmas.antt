-- What is made of programs one after another, each by what it calls: what is not needed makes no difference.
use Rattle.std.proofs.Common.{◌≡◌, ◌∙◌, List, [], ◌∷◌, ◌++◌, ◌||◌, Bool, true, false, unwrap_or, if◌then◌else◌, refl, ap, sym, subst, bytes_eq, arith, true≢false}
use Rattle.std.proofs.lemmas.Slice.Eq.{bytes_eq-Decides}
use Rattle.std.specs.List.{AllByRecursion}
use Rattle.sd_lex.specs.PlainTree.{FunctionTree}
use Rattle.sd_source.specs.nodes.Items.{Name}
use Rattle.sd_source.specs.nodes.Names.{is_among, with_name, noted}
use Rattle.sd_program.specs.Names.{Named, in_force}
use Rattle.sd_elab.specs.needs.Needed.{called_in, needed_from}

-- ---- names that are noted

among_append : (names others : List Name) (name : Name) → is_among (names ++ others) name ≡ (is_among names name || is_among others name)
among_append [] others name = refl
among_append (first ∷ names) others name = grind (arith, among_append names others name)

among_with_by : (names : List Name) (new name : Name) (there same : Bool) → is_among names new ≡ there → bytes_eq name new ≡ same → is_among (with_name names new) name ≡ (is_among names name || bytes_eq name new)
among_with_by names new name false same absent compared = grind (arith, absent, among_append names (new ∷ []) name)
among_with_by names new name true false present compared = grind (arith, present, compared)
among_with_by names new name true true present compared =
    let equal : name ≡ new = (bytes_eq-Decides name new).0 compared in
    let found : is_among names name ≡ true = subst (λ other. is_among names other ≡ true) (sym equal) present in
    grind (arith, present, compared, found)

among_with : (names : List Name) (new name : Name) → is_among (with_name names new) name ≡ (is_among names name || bytes_eq name new)
among_with names new name = among_with_by names new name (is_among names new) (bytes_eq name new) refl refl

pub among_noted : (known names : List Name) (name : Name) → is_among (noted known names) name ≡ (is_among known name || is_among names name)
among_noted known [] name = grind arith
among_noted known (first ∷ names) name = grind (arith, among_noted (with_name known first) names name, among_with known first name)

among_known : (known names : List Name) (name : Name) → is_among known name ≡ true → is_among (noted known names) name ≡ true
among_known known names name there = grind (arith, among_noted known names name, there)

pub among_new : (known names : List Name) (name : Name) → is_among names name ≡ true → is_among (noted known names) name ≡ true
among_new known names name there = grind (arith, among_noted known names name, there)

-- ---- what holds of each of several names

pub each_among : (P : Name → Type 0) (names : List Name) → ((name : Name) → is_among names name ≡ true → P name) → AllByRecursion P names
each_among P [] all = tt
each_among P (first ∷ names) all =
    let same : bytes_eq first first ≡ true = (bytes_eq-Decides first first).1 refl in
    (all first (grind (arith, same)), each_among P names (λ name there. all name (grind (arith, there))))

pub each_before : (P : Name → Type 0) (names others : List Name) → AllByRecursion P (names ++ others) → AllByRecursion P names
each_before P [] others all = tt
each_before P (first ∷ names) others all = (all.0, each_before P names others all.1)

pub each_behind : (P : Name → Type 0) (names others : List Name) → AllByRecursion P (names ++ others) → AllByRecursion P others
each_behind P [] others all = all
each_behind P (first ∷ names) others all = each_behind P names others all.1

-- ---- programs that are needed

needed_holds_by : (P : FunctionTree → Type 0) (names : List Name) (function : FunctionTree) (before : List FunctionTree) (there : Bool) → is_among names function.name ≡ there →
    P function → ((others : List Name) → AllByRecursion P (needed_from others before)) → AllByRecursion P (needed_from names (function ∷ before))
needed_holds_by P names function before true there holds all =
    subst (λ (choice : Bool). AllByRecursion P (if choice then function ∷ needed_from (noted names (called_in function.body)) before else needed_from names before)) (sym there)
    (holds, all (noted names (called_in function.body)))
needed_holds_by P names function before false there holds all =
    subst (λ (choice : Bool). AllByRecursion P (if choice then function ∷ needed_from (noted names (called_in function.body)) before else needed_from names before)) (sym there)
    (all names)

-- what holds of each program holds of each that is needed
pub needed_holds : (P : FunctionTree → Type 0) (names : List Name) (functions : List FunctionTree) → AllByRecursion P functions → AllByRecursion P (needed_from names functions)
needed_holds P names [] all = tt
needed_holds P names (function ∷ before) all =
    needed_holds_by P names function before (is_among names function.name) refl all.0 (λ others. needed_holds P others before all.1)

other_name_by : (names : List Name) (name wanted : Name) (same : Bool) → bytes_eq wanted name ≡ same → is_among names name ≡ false → is_among names wanted ≡ true → bytes_eq wanted name ≡ false
other_name_by names name wanted false compared absent present = compared
other_name_by names name wanted true compared absent present =
    absurd (true≢false (sym present ∙ ap (is_among names) ((bytes_eq-Decides wanted name).0 compared) ∙ absent))

-- a name that is there is not one that is not
other_name : (names : List Name) (name wanted : Name) → is_among names name ≡ false → is_among names wanted ≡ true → bytes_eq wanted name ≡ false
other_name names name wanted absent present = other_name_by names name wanted (bytes_eq wanted name) refl absent present

module _ (Made : Type 0) (none : Made) (make : (Name → Made) → FunctionTree → Made) where
  -- what was made for the latest program of a name
  abbrev pub made_for : Named Made → Name → Made
  made_for made name = unwrap_or (in_force made name) none

  -- what is made of programs, the latest first, by what those before them made
  abbrev pub made_of : List FunctionTree → Named Made
  made_of [] = []
  made_of (function ∷ before) = (function.name, make (made_for (made_of before)) function) ∷ made_of before

  -- a program that two lists begin with
  found_first : (first second : Named Made) (name wanted : Name) (made other : Made) (same : Bool) → bytes_eq wanted name ≡ same →
      made ≡ other → made_for first wanted ≡ made_for second wanted → made_for ((name, made) ∷ first) wanted ≡ made_for ((name, other) ∷ second) wanted
  found_first first second name wanted made other true compared equal found = grind (arith, compared, equal)
  found_first first second name wanted made other false compared equal found = grind (arith, compared, found)

  -- a program of another name
  found_behind : (rest : Named Made) (name wanted : Name) (made : Made) → bytes_eq wanted name ≡ false → made_for rest wanted ≡ made_for ((name, made) ∷ rest) wanted
  found_behind rest name wanted made compared = grind (arith, compared)

  -- a program depends on those alone that it calls
  abbrev pub DependsOnCalls : Type 0
  DependsOnCalls = (first second : Name → Made) (function : FunctionTree) → AllByRecursion (λ name. first name ≡ second name) (called_in function.body) → make first function ≡ make second function

  needed_suffice_by : DependsOnCalls → (names : List Name) (function : FunctionTree) (before : List FunctionTree) (wanted : Name) (there : Bool) → is_among names function.name ≡ there → is_among names wanted ≡ true →
      ((others : List Name) (name : Name) → is_among others name ≡ true → made_for (made_of (needed_from others before)) name ≡ made_for (made_of before) name) →
      made_for (made_of (needed_from names (function ∷ before))) wanted ≡ made_for (made_of (function ∷ before)) wanted
  needed_suffice_by depends names function before wanted true there want suffice =
      let called : List Name = called_in function.body in
      let kept : List FunctionTree = needed_from (noted names called) before in
      let made : Made = make (made_for (made_of kept)) function in
      let same : made ≡ make (made_for (made_of before)) function =
      depends (made_for (made_of kept)) (made_for (made_of before)) function
      (each_among (λ name. made_for (made_of kept) name ≡ made_for (made_of before) name) called
      (λ name call. suffice (noted names called) name (among_new names called name call))) in
      ap (λ (choice : Bool). made_for (made_of (if choice then function ∷ kept else needed_from names before)) wanted) there
      ∙ found_first (made_of kept) (made_of before) function.name wanted made (make (made_for (made_of before)) function) (bytes_eq wanted function.name) refl same
      (suffice (noted names called) wanted (among_known names called wanted want))
  needed_suffice_by depends names function before wanted false there want suffice =
      let kept : List FunctionTree = needed_from (noted names (called_in function.body)) before in
      ap (λ (choice : Bool). made_for (made_of (if choice then function ∷ kept else needed_from names before)) wanted) there
      ∙ suffice names wanted want
      ∙ found_behind (made_of before) function.name wanted (make (made_for (made_of before)) function) (other_name names function.name wanted there want)

  -- under a name that is wanted the needed programs make what all of them make
  pub needed_suffice : DependsOnCalls → (names : List Name) (functions : List FunctionTree) (wanted : Name) → is_among names wanted ≡ true →
      made_for (made_of (needed_from names functions)) wanted ≡ made_for (made_of functions) wanted
  needed_suffice depends names [] wanted want = refl
  needed_suffice depends names (function ∷ before) wanted want =
      needed_suffice_by depends names function before wanted (is_among names function.name) refl want (λ others name there. needed_suffice depends others before name there)
