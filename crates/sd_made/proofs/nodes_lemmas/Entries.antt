-- The containers that a program declares, each with its name and its number.
use Rattle.std.proofs.Common.{◌≡◌, ◌∙◌, ◌⊎◌, inl, inr, ℕ, ◌+◌, ◌<◌, ◌≤◌, List, [], ◌∷◌, ◌++◌, map, nat_eq, Bool, true, false, cond, bytes_eq, refl, ap, sym, subst, arith, append_assoc, append-nil}
use Rattle.std.specs.List.{AllByRecursion, IsDistinct}
use Rattle.std.proofs.lemmas.Map.Keys.{IsDistinct-head, IsDistinct-tail}
use Rattle.std.proofs.lemmas.Slice.Eq.{bytes_eq-Decides}
use Rattle.sd_lex.specs.PlainTree.{StatementTree, argument_array, local_array, local_stream, map_scope, consume_scope, for_loop, while_loop, branch, Block, no_statement, and_statement}
use Rattle.sd_lex.specs.StatementKind.{has_connector}
use Rattle.sd_graph.proofs.Among.{OneOf, nat_eq_same}
use Rattle.sd_program.specs.Names.{Name}
use Rattle.sd_program.specs.Place.{Holder, of_dimensions, of_values, length_of, dimensions_of}
use Rattle.sd_program.specs.Declared.{containers_in, containers_in_all}
use Rattle.sd_program.specs.DeclaredNames.{declared_names, declared_names_all}
use Rattle.sd_validity.proofs.bound_places_lemmas.EachPlace.{all_joined}
use Rattle.sd_made.proofs.counted_lemmas.Agreed.{NumbersDiffer, NamesDiffer}

pub record Entry : Type 0 where
  pub name : Name
  pub holder : Holder
  pub number : ℕ

abbrev pub entry_of : Name → Holder → ℕ → Entry
entry_of name holder number = record { name = name; holder = holder; number = number }

abbrev pub name_of : Entry → Name
name_of entry = entry.name

abbrev pub number_of : Entry → ℕ
number_of entry = entry.number

-- those that a statement declares, in the blocks below it too, where the first container has this number; the element of one tasklet aside
abbrev mutual
  pub entries_of : StatementTree → (container : ℕ) → List Entry
  entries_of (argument_array line name bits extents) container = entry_of name (of_dimensions (dimensions_of extents)) container ∷ []
  entries_of (local_array line name extents bits) container = entry_of name (of_dimensions (length_of extents)) container ∷ []
  entries_of (local_stream line name bits size) container = entry_of name of_values container ∷ []
  entries_of (map_scope line parameters ranges body) container = entries_in body container
  entries_of (consume_scope line stream size name element worker body) container =
      cond (has_connector body) [] (entry_of element (of_dimensions 1) container ∷ entries_in body (container + 1))
  entries_of (for_loop line name begin end step body) container = entries_in body container
  entries_of (while_loop line when body) container = entries_in body container
  entries_of (branch line when body other) container = entries_in body container ++ entries_in other (container + containers_in_all body)
  entries_of statement container = []

  pub entries_in : Block → (container : ℕ) → List Entry
  entries_in no_statement container = []
  entries_in (and_statement first rest) container = entries_of first container ++ entries_in rest (container + containers_in first)

-- those of the list in which a statement stands: what scopes declare is not among them
abbrev mutual
  pub level_of : StatementTree → (container : ℕ) → List Entry
  level_of (argument_array line name bits extents) container = entry_of name (of_dimensions (dimensions_of extents)) container ∷ []
  level_of (local_array line name extents bits) container = entry_of name (of_dimensions (length_of extents)) container ∷ []
  level_of (local_stream line name bits size) container = entry_of name of_values container ∷ []
  level_of (for_loop line name begin end step body) container = level_in body container
  level_of (while_loop line when body) container = level_in body container
  level_of (branch line when body other) container = level_in body container ++ level_in other (container + containers_in_all body)
  level_of statement container = []

  pub level_in : Block → (container : ℕ) → List Entry
  level_in no_statement container = []
  level_in (and_statement first rest) container = level_of first container ++ level_in rest (container + containers_in first)

-- ---- lists

pub all_first : {A : Type 0} (P : A → Type 0) (first second : List A) → AllByRecursion P (first ++ second) → AllByRecursion P first
all_first P [] second all = tt
all_first P (member ∷ first) second all = (all.0, all_first P first second all.1)

pub all_second : {A : Type 0} (P : A → Type 0) (first second : List A) → AllByRecursion P (first ++ second) → AllByRecursion P second
all_second P [] second all = all
all_second P (member ∷ first) second all = all_second P first second all.1

pub all_weaker : {A : Type 0} (P Q : A → Type 0) (members : List A) → ((member : A) → P member → Q member) → AllByRecursion P members → AllByRecursion Q members
all_weaker P Q [] so all = tt
all_weaker P Q (member ∷ members) so all = (so member all.0, all_weaker P Q members so all.1)

-- each member is one of them
pub each_is_one : {A : Type 0} (members : List A) → AllByRecursion (λ member. OneOf (λ other. other ≡ member) members) members
each_is_one [] = tt
each_is_one (member ∷ members) =
    (inl refl, all_weaker (λ other. OneOf (λ same. same ≡ other) members) (λ other. OneOf (λ same. same ≡ other) (member ∷ members)) members (λ other one. inr one) (each_is_one members))

map_joined : {A B : Type 0} (f : A → B) (first second : List A) → map f (first ++ second) ≡ map f first ++ map f second
map_joined f [] second = refl
map_joined f (member ∷ first) second = ap (λ rest. f member ∷ rest) (map_joined f first second)

-- ---- the level of a statement is among what it declares

module _ (P : Entry → Type 0) where
  mutual
    pub level_holds : (statement : StatementTree) (container : ℕ) → AllByRecursion P (entries_of statement container) → AllByRecursion P (level_of statement container)
    level_holds (argument_array line name bits extents) container all = all
    level_holds (local_array line name extents bits) container all = all
    level_holds (local_stream line name bits size) container all = all
    level_holds (for_loop line name begin end step body) container all = all_levels_hold body container all
    level_holds (while_loop line when body) container all = all_levels_hold body container all
    level_holds (branch line when body other) container all =
        all_joined P (level_in body container) (level_in other (container + containers_in_all body))
        (all_levels_hold body container (all_first P (entries_in body container) (entries_in other (container + containers_in_all body)) all))
        (all_levels_hold other (container + containers_in_all body) (all_second P (entries_in body container) (entries_in other (container + containers_in_all body)) all))
    level_holds statement container all = tt

    pub all_levels_hold : (block : Block) (container : ℕ) → AllByRecursion P (entries_in block container) → AllByRecursion P (level_in block container)
    all_levels_hold no_statement container all = tt
    all_levels_hold (and_statement first rest) container all =
        all_joined P (level_of first container) (level_in rest (container + containers_in first))
        (level_holds first container (all_first P (entries_of first container) (entries_in rest (container + containers_in first)) all))
        (all_levels_hold rest (container + containers_in first) (all_second P (entries_of first container) (entries_in rest (container + containers_in first)) all))

-- ---- their numbers

-- from one number on, and before another one
abbrev pub IsBetween : (least most : ℕ) → Entry → Type 0
IsBetween least most entry = (least ≤ entry.number) × (entry.number < most)

wider : (least most low high : ℕ) → low ≤ least → most ≤ high → (entries : List Entry) → AllByRecursion (IsBetween least most) entries → AllByRecursion (IsBetween low high) entries
wider least most low high below above entries all =
    all_weaker (IsBetween least most) (IsBetween low high) entries (λ entry between. (omega (arith, below, between.0), omega (arith, above, between.1))) all

between_joined : (least middle most : ℕ) (first second : List Entry) → least ≤ middle → middle ≤ most → AllByRecursion (IsBetween least middle) first → AllByRecursion (IsBetween middle most) second →
    AllByRecursion (IsBetween least most) (first ++ second)
between_joined least middle most first second below above all others =
    all_joined (IsBetween least most) first second (wider least middle least most (omega arith) above first all) (wider middle most least most below (omega arith) second others)

scope_between : (is_task : Bool) (element : Name) (container count : ℕ) (entries : List Entry) → AllByRecursion (IsBetween (container + 1) (container + 1 + count)) entries →
    AllByRecursion (IsBetween container (container + (1 + count))) (cond is_task [] (entry_of element (of_dimensions 1) container ∷ entries))
scope_between true element container count entries all = tt
scope_between false element container count entries all =
    ((omega arith, omega arith), wider (container + 1) (container + 1 + count) container (container + (1 + count)) (omega arith) (omega arith) entries all)

one_between : (name : Name) (holder : Holder) (container : ℕ) → AllByRecursion (IsBetween container (container + 1)) (entry_of name holder container ∷ [])
one_between name holder container = ((omega arith, omega arith), tt)

mutual
  pub entries_between : (statement : StatementTree) (container : ℕ) → AllByRecursion (IsBetween container (container + containers_in statement)) (entries_of statement container)
  entries_between (argument_array line name bits extents) container = one_between name (of_dimensions (dimensions_of extents)) container
  entries_between (local_array line name extents bits) container = one_between name (of_dimensions (length_of extents)) container
  entries_between (local_stream line name bits size) container = one_between name of_values container
  entries_between (map_scope line parameters ranges body) container = all_between body container
  entries_between (consume_scope line stream size name element worker body) container =
      scope_between (has_connector body) element container (containers_in_all body) (entries_in body (container + 1)) (all_between body (container + 1))
  entries_between (for_loop line name begin end step body) container = all_between body container
  entries_between (while_loop line when body) container = all_between body container
  entries_between (branch line when body other) container =
      wider container (container + containers_in_all body + containers_in_all other) container (container + (containers_in_all body + containers_in_all other)) (omega arith) (omega arith) _
      (between_joined container (container + containers_in_all body) (container + containers_in_all body + containers_in_all other) (entries_in body container)
      (entries_in other (container + containers_in_all body)) (omega arith) (omega arith) (all_between body container) (all_between other (container + containers_in_all body)))
  entries_between statement container = tt

  pub all_between : (block : Block) (container : ℕ) → AllByRecursion (IsBetween container (container + containers_in_all block)) (entries_in block container)
  all_between no_statement container = tt
  all_between (and_statement first rest) container =
      wider container (container + containers_in first + containers_in_all rest) container (container + (containers_in first + containers_in_all rest)) (omega arith) (omega arith) _
      (between_joined container (container + containers_in first) (container + containers_in first + containers_in_all rest) (entries_of first container)
      (entries_in rest (container + containers_in first)) (omega arith) (omega arith) (entries_between first container) (all_between rest (container + containers_in first)))

other_number : (m n : ℕ) → m < n → nat_eq n m ≡ false
other_number m n less = grind (arith, less)

-- no two numbers of two lists are one, where those of the first are all lower
above_first : (first : Entry) (middle most : ℕ) (others : List Entry) → first.number < middle → AllByRecursion (IsBetween middle most) others →
    AllByRecursion (λ other. nat_eq other.number first.number ≡ false) others
above_first first middle most others less all =
    all_weaker (IsBetween middle most) (λ other. nat_eq other.number first.number ≡ false) others (λ other between. other_number first.number other.number (omega (arith, less, between.0))) all

pub differ_joined : (least middle most : ℕ) (first second : List Entry) → AllByRecursion (IsBetween least middle) first → AllByRecursion (IsBetween middle most) second →
    NumbersDiffer name_of number_of first → NumbersDiffer name_of number_of second → NumbersDiffer name_of number_of (first ++ second)
differ_joined least middle most [] second all others differ differs = differs
differ_joined least middle most (entry ∷ first) second all others differ differs = (
  all_joined (λ other. nat_eq other.number entry.number ≡ false) first second differ.0 (above_first entry middle most second all.0.1 others),
  differ_joined least middle most first second all.1 others differ.1 differs,
)

scope_differ : (is_task : Bool) (element : Name) (container most : ℕ) (entries : List Entry) → AllByRecursion (IsBetween (container + 1) most) entries → NumbersDiffer name_of number_of entries →
    NumbersDiffer name_of number_of (cond is_task [] (entry_of element (of_dimensions 1) container ∷ entries))
scope_differ true element container most entries all differ = tt
scope_differ false element container most entries all differ = (above_first (entry_of element (of_dimensions 1) container) (container + 1) most entries (omega arith) all, differ)

mutual
  entries_differ : (statement : StatementTree) (container : ℕ) → NumbersDiffer name_of number_of (entries_of statement container)
  entries_differ (argument_array line name bits extents) container = (tt, tt)
  entries_differ (local_array line name extents bits) container = (tt, tt)
  entries_differ (local_stream line name bits size) container = (tt, tt)
  entries_differ (map_scope line parameters ranges body) container = all_differ body container
  entries_differ (consume_scope line stream size name element worker body) container =
      scope_differ (has_connector body) element container (container + 1 + containers_in_all body) (entries_in body (container + 1)) (all_between body (container + 1)) (all_differ body (container + 1))
  entries_differ (for_loop line name begin end step body) container = all_differ body container
  entries_differ (while_loop line when body) container = all_differ body container
  entries_differ (branch line when body other) container =
      differ_joined container (container + containers_in_all body) (container + containers_in_all body + containers_in_all other) (entries_in body container)
      (entries_in other (container + containers_in_all body)) (all_between body container) (all_between other (container + containers_in_all body)) (all_differ body container)
      (all_differ other (container + containers_in_all body))
  entries_differ statement container = tt

  pub all_differ : (block : Block) (container : ℕ) → NumbersDiffer name_of number_of (entries_in block container)
  all_differ no_statement container = tt
  all_differ (and_statement first rest) container =
      differ_joined container (container + containers_in first) (container + containers_in first + containers_in_all rest) (entries_of first container)
      (entries_in rest (container + containers_in first)) (entries_between first container) (all_between rest (container + containers_in first)) (entries_differ first container)
      (all_differ rest (container + containers_in first))

-- two blocks one behind the other
pub both_differ : (first second : Block) → NumbersDiffer name_of number_of (entries_in first 0 ++ entries_in second (containers_in_all first))
both_differ first second =
    differ_joined 0 (containers_in_all first) (containers_in_all first + containers_in_all second) (entries_in first 0) (entries_in second (containers_in_all first))
    (wider 0 (0 + containers_in_all first) 0 (containers_in_all first) (omega arith) (omega arith) (entries_in first 0) (all_between first 0)) (all_between second (containers_in_all first))
    (all_differ first 0) (all_differ second (containers_in_all first))

-- ---- their names

names_behind : (names : List Name) (first second : List Entry) → (names ++ map name_of first) ++ map name_of second ≡ names ++ map name_of (first ++ second)
names_behind names first second = append_assoc names (map name_of first) (map name_of second) ∙ ap (λ others. names ++ others) (sym (map_joined name_of first second))

scope_names : (is_task : Bool) (names inner : List Name) (entry : Entry) (entries : List Entry) → inner ≡ (names ++ entry.name ∷ []) ++ map name_of entries →
    cond is_task names inner ≡ names ++ map name_of (cond is_task [] (entry ∷ entries))
scope_names true names inner entry entries e = sym (append-nil names)
scope_names false names inner entry entries e = e ∙ append_assoc names (entry.name ∷ []) (map name_of entries)

mutual
  names_told : (statement : StatementTree) (names : List Name) (container : ℕ) → declared_names statement names ≡ names ++ map name_of (entries_of statement container)
  names_told (argument_array line name bits extents) names container = refl
  names_told (local_array line name extents bits) names container = refl
  names_told (local_stream line name bits size) names container = refl
  names_told (map_scope line parameters ranges body) names container = all_names_told body names container
  names_told (consume_scope line stream size name element worker body) names container =
      scope_names (has_connector body) names (declared_names_all body (names ++ element ∷ [])) (entry_of element (of_dimensions 1) container) (entries_in body (container + 1))
      (all_names_told body (names ++ element ∷ []) (container + 1))
  names_told (for_loop line name begin end step body) names container = all_names_told body names container
  names_told (while_loop line when body) names container = all_names_told body names container
  names_told (branch line when body other) names container =
      all_names_told other (declared_names_all body names) (container + containers_in_all body)
      ∙ ap (λ (first : List Name). first ++ map name_of (entries_in other (container + containers_in_all body))) (all_names_told body names container)
      ∙ names_behind names (entries_in body container) (entries_in other (container + containers_in_all body))
  names_told statement names container = sym (append-nil names)

  pub all_names_told : (block : Block) (names : List Name) (container : ℕ) → declared_names_all block names ≡ names ++ map name_of (entries_in block container)
  all_names_told no_statement names container = sym (append-nil names)
  all_names_told (and_statement first rest) names container =
      all_names_told rest (declared_names first names) (container + containers_in first)
      ∙ ap (λ (before : List Name). before ++ map name_of (entries_in rest (container + containers_in first))) (names_told first names container)
      ∙ names_behind names (entries_of first container) (entries_in rest (container + containers_in first))

-- of arguments and of a body
pub function_names_told : (arguments body : Block) → declared_names_all body (declared_names_all arguments []) ≡ map name_of (entries_in arguments 0 ++ entries_in body (containers_in_all arguments))
function_names_told arguments body =
    all_names_told body (declared_names_all arguments []) (containers_in_all arguments)
    ∙ ap (λ (first : List Name). first ++ map name_of (entries_in body (containers_in_all arguments))) (all_names_told arguments [] 0)
    ∙ names_behind [] (entries_in arguments 0) (entries_in body (containers_in_all arguments))

-- so they differ where the names that are declared do
name_heads : (entry : Entry) (entries : List Entry) → AllByRecursion (λ other. bytes_eq entry.name other ≡ false) (map name_of entries) → AllByRecursion (λ other. bytes_eq other.name entry.name ≡ false) entries
name_heads entry [] all = tt
name_heads entry (other ∷ entries) all = (by (bytes_eq other.name entry.name) refl, name_heads entry entries all.1)
  where
    by : (is : Bool) → bytes_eq other.name entry.name ≡ is → is ≡ false
    by true e =
        let there : bytes_eq entry.name other.name ≡ true = (bytes_eq-Decides entry.name other.name).1 (sym ((bytes_eq-Decides other.name entry.name).0 e)) in
        sym there ∙ all.0
    by false e = refl

pub names_differ : (entries : List Entry) → IsDistinct bytes_eq (map name_of entries) → NamesDiffer name_of number_of entries
names_differ [] distinct = tt
names_differ (entry ∷ entries) distinct =
    (name_heads entry entries (IsDistinct-head bytes_eq entry.name (map name_of entries) distinct), names_differ entries (IsDistinct-tail bytes_eq entry.name (map name_of entries) distinct))

-- ---- two of them are one, or neither their names nor their numbers are the same

abbrev pub AreApart : Entry → Entry → Type 0
AreApart entry other = (entry ≡ other) ⊎ ((bytes_eq other.name entry.name ≡ false) × (nat_eq entry.number other.number ≡ false))

found_in : (P : Entry → Type 0) (entries : List Entry) (entry : Entry) → AllByRecursion P entries → OneOf (λ same. same ≡ entry) entries → P entry
found_in P [] entry all one = elim one [ ]
found_in P (first ∷ entries) entry all (inl here) = subst P here all.0
found_in P (first ∷ entries) entry all (inr later) = found_in P entries entry all.1 later

swapped_names : (first second : Entry) → bytes_eq first.name second.name ≡ false → bytes_eq second.name first.name ≡ false
swapped_names first second differ = by (bytes_eq second.name first.name) refl
  where
    by : (is : Bool) → bytes_eq second.name first.name ≡ is → is ≡ false
    by true e =
        let there : bytes_eq first.name second.name ≡ true = (bytes_eq-Decides first.name second.name).1 (sym ((bytes_eq-Decides second.name first.name).0 e)) in
        sym there ∙ differ
    by false e = refl

swapped_numbers : (m n : ℕ) → nat_eq m n ≡ false → nat_eq n m ≡ false
swapped_numbers m n differ = grind (arith, differ)

pub one_or_apart : (entries : List Entry) (entry other : Entry) → NumbersDiffer name_of number_of entries → NamesDiffer name_of number_of entries → OneOf (λ same. same ≡ entry) entries →
    OneOf (λ same. same ≡ other) entries → AreApart entry other
one_or_apart [] entry other numbers names one another = elim one [ ]
one_or_apart (first ∷ entries) entry other numbers names (inl here) (inl there) = inl (sym here ∙ there)
one_or_apart (first ∷ entries) entry other numbers names (inl here) (inr later) =
    let name : bytes_eq other.name first.name ≡ false = found_in (λ other. bytes_eq other.name first.name ≡ false) entries other names.0 later in
    let number : nat_eq other.number first.number ≡ false = found_in (λ other. nat_eq other.number first.number ≡ false) entries other numbers.0 later in
    subst (λ entry. AreApart entry other) here (inr (name, swapped_numbers other.number first.number number))
one_or_apart (first ∷ entries) entry other numbers names (inr later) (inl there) =
    let name : bytes_eq entry.name first.name ≡ false = found_in (λ other. bytes_eq other.name first.name ≡ false) entries entry names.0 later in
    let number : nat_eq entry.number first.number ≡ false = found_in (λ other. nat_eq other.number first.number ≡ false) entries entry numbers.0 later in
    subst (λ other. AreApart entry other) there (inr (swapped_names entry first name, number))
one_or_apart (first ∷ entries) entry other numbers names (inr later) (inr after) = one_or_apart entries entry other numbers.1 names.1 later after

-- so a number and a name are those of one entry, or of none
pub same_tests : (entry other : Entry) → AreApart entry other → nat_eq entry.number other.number ≡ bytes_eq other.name entry.name
same_tests entry other (inl same) =
    subst (λ (other : Entry). nat_eq entry.number other.number ≡ bytes_eq other.name entry.name) same
    (nat_eq_same entry.number entry.number refl ∙ sym ((bytes_eq-Decides entry.name entry.name).1 refl))
same_tests entry other (inr apart) = apart.1 ∙ sym apart.0

-- an array is no stream
pub other_holder : (entry other : Entry) (count : ℕ) → entry.holder ≡ of_values → other.holder ≡ of_dimensions count → AreApart entry other → nat_eq entry.number other.number ≡ false
other_holder entry other count stream array (inl same) =
    let both : of_values ≡ of_dimensions count = sym stream ∙ ap (λ (entry : Entry). entry.holder) same ∙ array in
    cc
other_holder entry other count stream array (inr apart) = apart.1
