-- The first case that refuses entries as they are kept is the first one that refuses the members that they are of.
use Rattle.std.proofs.Common.{◌≡◌, ℕ, suc, ℤ, List, [], ◌∷◌, ◌++◌, append_assoc, append-nil, map, Bool, true, false, cond, ◌||◌, not, bytes_eq, Ok, Err, Option, Some, None, option_map, option_and_then, slice_get, length, ne_eqb, arith, refl, ap, sym, ◌∙◌}
use Rattle.std.specs.Option.{is_none, option_or, option_map_or}
use Rattle.std.specs.List.{find, filter_map, cons_option, list_any, AllByRecursion}
use Rattle.std.proofs.lemmas.Cmp.{nat_list_eq_equiv}
use Rattle.std.specs.BTreeMap.{get_by_text}
use Rattle.serde_json.specs.Data.{Data, null, boolean, number, string, array, object, Items, no_items, item, Members}
use Rattle.serde_json.specs.Find.{get_member, as_i64}
use Rattle.sd_json.specs.NestedLists.{whole_number, numbers_of, shape_of, all_have, count_of}
use Rattle.sd_json.specs.Names.{is_extra}
use Rattle.sd_json.specs.Given.{Contents}
use Rattle.sd_json.specs.ArraysReading.{is_missing, is_no_size, has_no_number, is_ragged, refusal_of, entries_reading, contents_in, size_in, array_of, array_in}
use Rattle.sd_json.specs.Entries.{entry_of, size_of, size_kept, array_kept, has_fault, AreKept}
use Rattle.sd_json.specs.declared.names.Names.{Names}
use Rattle.sd_json.specs.declared.kept.Kept.{Kept}
use Rattle.sd_json.specs.declared.error.InputError.{InputError}
use Rattle.sd_json.specs.declared.error.InputError.TheVariants as error
use Rattle.sd_json.specs.declared.fault.Fault.{Fault}
use Rattle.sd_json.specs.declared.fault.Fault.TheVariants.{Missing, NoSize, NoNumber, Ragged}

-- ---- the size of a leaf

one_back : (found : Option ℤ) → option_and_then (λ numbers. slice_get numbers 0) (option_map (λ n. n ∷ []) found) ≡ found
one_back None = refl
one_back (Some n) = refl

-- a list is no size, whatever its numbers
no_leaf : (all : Bool) (count : ℕ) (inner : List ℕ) (numbers : Option (List ℤ)) →
    size_of (record { numbers = numbers; shape = cond all (Some (suc count ∷ inner)) None }) ≡ None
no_leaf true count inner numbers = ap (λ leaf. cond leaf (option_and_then (λ n. slice_get n 0) numbers) None) (ne_eqb (suc (length inner)) 0 (λ none. omega arith))
no_leaf false count inner numbers = refl

list_is_no_size : (first : Option (List ℕ)) (others : Items) (numbers : Option (List ℤ)) →
    size_of (record { numbers = numbers; shape = option_and_then (λ shape. cond (all_have shape others) (Some (suc (count_of others) ∷ shape)) None) first }) ≡ None
list_is_no_size None others numbers = refl
list_is_no_size (Some shape) others numbers = no_leaf (all_have shape others) (count_of others) shape numbers

-- the size of what is kept is that of the value
pub size_of_kept : (value : Data) → size_of (entry_of value) ≡ whole_number value
size_of_kept null = refl
size_of_kept (boolean b) = refl
size_of_kept (number n) = one_back (as_i64 n)
size_of_kept (string s) = refl
size_of_kept (object fields) = refl
size_of_kept (array no_items) = refl
size_of_kept (array (item first others)) = list_is_no_size (shape_of first) others (numbers_of (array (item first others)))

-- ---- faults

missing_same : (found : Option Data) → has_fault Missing (option_map entry_of found) ≡ is_none found
missing_same None = refl
missing_same (Some value) = refl

no_size_same : (found : Option Data) → has_fault NoSize (option_map entry_of found) ≡ option_map_or (λ value. is_none (whole_number value)) found false
no_size_same None = refl
no_size_same (Some value) = ap is_none (size_of_kept value)

no_number_same : (found : Option Data) → has_fault NoNumber (option_map entry_of found) ≡ option_map_or (λ value. is_none (numbers_of value)) found false
no_number_same None = refl
no_number_same (Some value) = refl

ragged_same : (found : Option Data) → has_fault Ragged (option_map entry_of found) ≡ option_map_or (λ value. is_none (shape_of value)) found false
ragged_same None = refl
ragged_same (Some value) = refl

-- the first case of five that were looked for
abbrev pub refusal_from : (missing extra size leaf ragged : Option (List ℕ)) → Option InputError
refusal_from missing extra size leaf ragged =
    option_or (option_map error.Missing missing) (option_or (option_map error.Extra extra) (option_or (option_map error.NotANumber size) (option_or (option_map error.NotANumber leaf) (option_map error.Ragged ragged))))

-- ---- names that are looked for

abbrev AreSought : Names → List (List ℕ) → Type 0
AreSought names all = AllByRecursion (λ name. is_extra names name ≡ false) all

one_or : (first rest : Bool) → rest ≡ true → (first || rest) ≡ true
one_or true rest found = refl
one_or false rest found = found

among : (name : List ℕ) (before behind : List (List ℕ)) → list_any (bytes_eq name) (before ++ name ∷ behind) ≡ true
among name [] behind = ap (λ same. same || list_any (bytes_eq name) behind) (nat_list_eq_equiv.refl name)
among name (first ∷ before) behind = one_or (bytes_eq name first) (list_any (bytes_eq name) (before ++ name ∷ behind)) (among name before behind)

part_is_sought : (names : Names) (before all behind : List (List ℕ)) → names.symbols ++ names.arguments ≡ before ++ (all ++ behind) → AreSought names all
part_is_sought names before [] behind is = tt
part_is_sought names before (name ∷ all) behind is = (
  ap (λ every. not (list_any (bytes_eq name) every)) is ∙ ap not (among name before (all ++ behind)),
  part_is_sought names (before ++ name ∷ []) all behind (is ∙ sym (append_assoc before (name ∷ []) (all ++ behind))),
)

pub symbols_are_sought : (names : Names) → AreSought names names.symbols
symbols_are_sought names = part_is_sought names [] names.symbols names.arguments refl

pub arguments_are_sought : (names : Names) → AreSought names names.arguments
arguments_are_sought names = part_is_sought names names.symbols names.arguments [] (ap (λ arguments. names.symbols ++ arguments) (sym (append-nil names.arguments)))

module _ (names : Names) (kept : Kept) (fields : Members) (are : AreKept names kept fields) where
  found : (fault : Fault) (test : List ℕ → Bool) → ((name : List ℕ) → has_fault fault (option_map entry_of (get_member name fields)) ≡ test name) → (all : List (List ℕ)) → AreSought names all →
      find (λ name. has_fault fault (get_by_text kept.entries name)) all ≡ find test all
  found fault test same [] sought = refl
  found fault test same (name ∷ all) sought = λ i. cond ((ap (has_fault fault) (are.sought name sought.0) ∙ same name) i) (Some name) (found fault test same all sought.1 i)

  -- what was looked for in the entries, or is still to be, makes the first case
  pub refused : (missing extra size leaf ragged : Option (List ℕ)) → missing ≡ find (λ name. has_fault Missing (get_by_text kept.entries name)) names.arguments
      → extra ≡ kept.extra → size ≡ find (λ name. has_fault NoSize (get_by_text kept.entries name)) names.symbols
      → leaf ≡ find (λ name. has_fault NoNumber (get_by_text kept.entries name)) names.arguments → ragged ≡ find (λ name. has_fault Ragged (get_by_text kept.entries name)) names.arguments
      → refusal_from missing extra size leaf ragged ≡ refusal_of names fields
  refused missing extra size leaf ragged m e s n r =
      let arguments = arguments_are_sought names in
      let a = m ∙ found Missing (is_missing fields) (λ name. missing_same (get_member name fields)) names.arguments arguments in
      let b = e ∙ are.extra in
      let c = s ∙ found NoSize (is_no_size fields) (λ name. no_size_same (get_member name fields)) names.symbols (symbols_are_sought names) in
      let d = n ∙ found NoNumber (has_no_number fields) (λ name. no_number_same (get_member name fields)) names.arguments arguments in
      let f = r ∙ found Ragged (is_ragged fields) (λ name. ragged_same (get_member name fields)) names.arguments arguments in
      λ i. refusal_from (a i) (b i) (c i) (d i) (f i)

-- ---- sizes and arrays

size_same : (symbol : List ℕ) (found : Option Data) → size_kept symbol (option_map entry_of found) ≡ option_map (λ size. (symbol, size)) (option_and_then whole_number found)
size_same symbol None = refl
size_same symbol (Some value) = ap (option_map (λ size. (symbol, size))) (size_of_kept value)

array_same : (found : Option Data) → array_kept (option_map entry_of found) ≡ option_map_or array_of found (record { shape = []; elements = [] })
array_same None = refl
array_same (Some value) = refl

module _ (names : Names) (kept : Kept) (fields : Members) (are : AreKept names kept fields) where
  sizes_of : (symbols : List (List ℕ)) → AreSought names symbols → filter_map (λ symbol. size_kept symbol (get_by_text kept.entries symbol)) symbols ≡ filter_map (size_in fields) symbols
  sizes_of [] sought = refl
  sizes_of (symbol ∷ symbols) sought = λ i. cons_option ((ap (size_kept symbol) (are.sought symbol sought.0) ∙ size_same symbol (get_member symbol fields)) i) (sizes_of symbols sought.1 i)

  arrays_of : (arguments : List (List ℕ)) → AreSought names arguments → map (λ argument. array_kept (get_by_text kept.entries argument)) arguments ≡ map (array_in fields) arguments
  arrays_of [] sought = refl
  arrays_of (argument ∷ arguments) sought = λ i. (ap array_kept (are.sought argument sought.0) ∙ array_same (get_member argument fields)) i ∷ arrays_of arguments sought.1 i

  -- the sizes that are kept are those of the members
  pub sizes_same : filter_map (λ symbol. size_kept symbol (get_by_text kept.entries symbol)) names.symbols ≡ filter_map (size_in fields) names.symbols
  sizes_same = sizes_of names.symbols (symbols_are_sought names)

  -- and so are the arrays
  pub arrays_same : map (λ argument. array_kept (get_by_text kept.entries argument)) names.arguments ≡ map (array_in fields) names.arguments
  arrays_same = arrays_of names.arguments (arguments_are_sought names)

pub same_contents : (a b : Contents) → a.sizes ≡ b.sizes → a.arrays ≡ b.arrays → a ≡ b
same_contents a b sizes arrays = λ i. record { sizes = sizes i; arrays = arrays i }

-- entries that no case refuses give their sizes and arrays
pub unrefused_reading : (names : Names) (fields : Members) (given : Contents) → refusal_of names fields ≡ None → contents_in names fields ≡ given → entries_reading names (Some fields) ≡ Ok given
unrefused_reading names fields given none is = ap (λ refusal. option_map_or Err refusal (Ok (contents_in names fields))) none ∙ ap Ok is
