-- What an arrays file gives are elements of 64 bits.
use Rattle.std.proofs.Common.{◌≡◌, ℕ, zero, suc, ◌^◌, ◌≤◌, ◌&&◌, ◌==◌, ℤ, pos, neg_ℤ, List, [], ◌∷◌, ◌++◌, map, drop, slice_index, slice_index_or, Bool, true, false, Option, Some, None, IfSome, option_map, option_and_then, unwrap_or, Ok, Err, if◌then◌else◌, nat_lt, nat_le, FitsSigned, w64, ltb-true, leb-true, Ordering, Less, Equal, Greater, nat_cmp, refl, sym, subst, arith}
use Rattle.std.specs.Prelude.{⊤}
use Rattle.std.specs.Option.{option_map_or}
use Rattle.std.specs.List.{AllByRecursion}
use Rattle.std.specs.Ordering.{match_ordering}
use Rattle.std.specs.Cmp.Lexicographic.{slice_cmp}
use Rattle.std.specs.Str.{is_utf8}
use Rattle.std.specs.Float.{binary64, float_is_finite}
use Rattle.fast_float.specs.Text.{minus, Parts, scan, digits_of, nearest, with_sign}
use Rattle.json.specs.Json as json
use Rattle.json.specs.Lex.{tokens}
use Rattle.serde_json.specs.Data.{Num, negative, float, unsigned, Data, number, array, object, Items, item, Members, no_members, member, put}
use Rattle.serde_json.specs.Find.{get_member, as_object, as_i64}
use Rattle.serde_json.specs.Read.{is_integer, float_of, number_from, number_of, of_json, of_items, of_members, max_depth}
use Rattle.sd_num.specs.Width.{wrapped_to}
use Rattle.sd_num.specs.declared.width.Width.{Width}
use Rattle.sd_num.specs.declared.width.Width.TheVariants.{W64}
use Rattle.sd_num.proofs.StoredLemmas.{wrapped_to-element}
use Rattle.sd_json.specs.ArraysReading.{entries_of, refusal_of, array_of, array_in, contents_in, entries_reading, arrays_reading}
use Rattle.sd_json.specs.Given.{Contents}
use Rattle.sd_json.specs.NestedLists.{joined, numbers_of, numbers_of_items}
use Rattle.sd_json.specs.declared.array.Array.{Array}
use Rattle.sd_json.specs.declared.error.InputError.{InputError}
use Rattle.sd_json.specs.declared.error.InputError.TheVariants.{NotJson}
use Rattle.sd_json.specs.declared.names.Names.{Names}
use Rattle.sd_read.proofs.readable_lemmas.kept.Steps.{refused_is_none, same_value}

-- ---- lists of elements

abbrev pub AreElements : List ℤ → Type 0
AreElements numbers = AllByRecursion (FitsSigned w64) numbers

both_are : (first second : List ℤ) → AreElements first → AreElements second → AreElements (first ++ second)
both_are [] second are then_are = then_are
both_are (z ∷ first) second are then_are = (are.0, both_are first second are.1 then_are)

joined_are : (first second : Option (List ℤ)) → IfSome first AreElements → IfSome second AreElements → IfSome (joined first second) AreElements
joined_are None second are then_are = tt
joined_are (Some first) None are then_are = tt
joined_are (Some first) (Some second) are then_are = both_are first second are then_are

-- wrapping them to 64 bits changes nothing
pub elements_kept : (width : Width) → width ≡ W64 → (numbers : List ℤ) → AreElements numbers → map (wrapped_to width) numbers ≡ numbers
elements_kept width wide numbers are = subst (λ width. map (wrapped_to width) numbers ≡ numbers) (sym wide) (kept numbers are) where
  kept : (numbers : List ℤ) → AreElements numbers → map (wrapped_to W64) numbers ≡ numbers
  kept [] are = refl
  kept (z ∷ numbers) are = (λ i. wrapped_to-element W64 z are.0 i ∷ kept numbers are.1 i)

-- each of some lists, and the empty one
pub each_is : (given : List (List ℤ)) (place : ℕ) → AllByRecursion AreElements given → AreElements (slice_index_or given place [])
each_is [] place are = tt
each_is (first ∷ given) zero are = are.0
each_is (first ∷ given) (suc place) are = each_is given place are.1

-- ---- what is found

mapped : {A B : Type 0} (f : A → B) (P : A → Type 0) (Q : B → Type 0) → ((a : A) → P a → Q (f a)) → (found : Option A) → IfSome found P → IfSome (option_map f found) Q
mapped f P Q sends None holds = tt
mapped f P Q sends (Some a) holds = sends a holds

chained : {A B : Type 0} (f : A → Option B) (P : A → Type 0) (Q : B → Type 0) → ((a : A) → P a → IfSome (f a) Q) → (found : Option A) → IfSome found P → IfSome (option_and_then f found) Q
chained f P Q sends None holds = tt
chained f P Q sends (Some a) holds = sends a holds

-- ---- numbers

-- the whole number that it is, where it is one, is an element
abbrev IsElementIfWhole : Num → Type 0
IsElementIfWhole n = IfSome (as_i64 n) (FitsSigned w64)

without_sign : (n : ℕ) → IsElementIfWhole (unsigned n)
without_sign n = by (nat_lt n (2 ^ 63)) refl where
  by : (small : Bool) → nat_lt n (2 ^ 63) ≡ small → IfSome (if small then Some (pos n) else None) (FitsSigned w64)
  by true is = grind (arith, ltb-true n (2 ^ 63) is)
  by false is = tt

below_zero : (n : ℕ) → n ≤ 2 ^ 63 → FitsSigned w64 (neg_ℤ (pos n))
below_zero zero small = grind arith
below_zero (suc n) small = grind (arith, small)

no_whole : (sign : Bool) (p : Parts) → IfSome (float_of sign p) IsElementIfWhole
no_whole sign p = by (float_is_finite (nearest binary64 sign p)) where
  by : (finite : Bool) → IfSome (if finite then Some (float (nearest binary64 sign p)) else None) IsElementIfWhole
  by true = tt
  by false = tt

from_parts : (sign : Bool) (p : Parts) → IfSome (number_from sign p) IsElementIfWhole
from_parts false p = by (is_integer p && nat_lt (digits_of p) (2 ^ 64)) where
  by : (whole : Bool) → IfSome (if whole then Some (unsigned (digits_of p)) else float_of false p) IsElementIfWhole
  by true = without_sign (digits_of p)
  by false = no_whole false p
from_parts true p = by (is_integer p) (nat_lt 0 (digits_of p)) (nat_le (digits_of p) (2 ^ 63)) refl where
  by : (whole some small : Bool) → nat_le (digits_of p) (2 ^ 63) ≡ small →
      IfSome (if whole && some && small then Some (negative (with_sign true (digits_of p))) else float_of true p) IsElementIfWhole
  by true true true is = below_zero (digits_of p) (leb-true (digits_of p) (2 ^ 63) is)
  by true true false is = no_whole true p
  by true false small is = no_whole true p
  by false some small is = no_whole true p

number_is : (s : List ℕ) → IfSome (number_of s) IsElementIfWhole
unfolding number_of
number_is s = by (slice_index s 0 == minus) where
  by : (signed : Bool) → IfSome (if signed then number_from true (scan (drop 1 s)) else number_from false (scan s)) IsElementIfWhole
  by true = from_parts true (scan (drop 1 s))
  by false = from_parts false (scan s)

-- ---- values

-- the numbers of a value, where it has numbers, are elements
abbrev HasElements : Data → Type 0
HasElements value = IfSome (numbers_of value) AreElements

abbrev HaveElements : Items → Type 0
HaveElements items = IfSome (numbers_of_items items) AreElements

leaf_has : (n : Num) → IsElementIfWhole n → HasElements (number n)
leaf_has n is = mapped (λ z. z ∷ []) (FitsSigned w64) AreElements (λ z fits. (fits, tt)) (as_i64 n) is

no_numbers : (found : Option Members) → IfSome (option_map object found) HasElements
no_numbers None = tt
no_numbers (Some _) = tt

mutual
  value_has : (value : json.Json) → IfSome (of_json value) HasElements
  value_has json.null = tt
  value_has (json.boolean b) = tt
  value_has (json.number s) = mapped number IsElementIfWhole HasElements leaf_has (number_of s) (number_is s)
  value_has (json.string s) = tt
  value_has (json.array items) = mapped array HaveElements HasElements (λ items have. have) (of_items items) (items_have items)
  value_has (json.object members) = no_numbers (of_members members no_members)

  items_have : (items : json.Items) → IfSome (of_items items) HaveElements
  items_have json.no_items = tt
  items_have (json.item first others) =
      chained (λ value. option_map (item value) (of_items others)) HasElements HaveElements
      (λ value has. mapped (item value) HaveElements HaveElements (λ items have. joined_are (numbers_of value) (numbers_of_items items) has have) (of_items others) (items_have others))
      (of_json first) (value_has first)

-- ---- entries

abbrev EachHas : Members → Type 0
EachHas no_members = ⊤
EachHas (member name value entries) = HasElements value × EachHas entries

put_has : (name : List ℕ) (value : Data) (entries : Members) → HasElements value → EachHas entries → EachHas (put name value entries)
put_has name value no_members has each = (has, tt)
put_has name value (member other old entries) has each = placed (slice_cmp nat_cmp name other) (put_has name value entries has each.1) where
  placed : (ordering : Ordering) → EachHas (put name value entries) →
      EachHas (match_ordering ordering (member name value (member other old entries)) (member other value entries) (member other old (put name value entries)))
  placed Less rest = (has, each)
  placed Equal rest = (has, each.1)
  placed Greater rest = (each.0, rest)

found_has : (name : List ℕ) (entries : Members) → EachHas entries → IfSome (get_member name entries) HasElements
found_has name no_members each = tt
found_has name (member other value entries) each = chosen (slice_cmp nat_cmp name other) (found_has name entries each.1) where
  chosen : (ordering : Ordering) → IfSome (get_member name entries) HasElements → IfSome (match_ordering ordering (get_member name entries) (Some value) (get_member name entries)) HasElements
  chosen Less rest = rest
  chosen Equal rest = each.0
  chosen Greater rest = rest

members_have : (members : json.Members) (found : Members) → EachHas found → IfSome (of_members members found) EachHas
members_have json.no_members found each = each
members_have (json.member name value members) found each =
    chained (λ value. of_members members (put name value found)) HasElements EachHas (λ value has. members_have members (put name value found) (put_has name value found has each)) (of_json value) (value_has value)

object_has : (value : json.Json) → IfSome (option_and_then as_object (of_json value)) EachHas
object_has json.null = tt
object_has (json.boolean b) = tt
object_has (json.number s) = by (number_of s) where
  by : (found : Option Num) → IfSome (option_and_then as_object (option_map number found)) EachHas
  by None = tt
  by (Some n) = tt
object_has (json.string s) = tt
object_has (json.array items) = by (of_items items) where
  by : (found : Option Items) → IfSome (option_and_then as_object (option_map array found)) EachHas
  by None = tt
  by (Some items) = tt
object_has (json.object members) = by (of_members members no_members) (members_have members no_members tt) where
  by : (found : Option Members) → IfSome found EachHas → IfSome (option_and_then as_object (option_map object found)) EachHas
  by None each = tt
  by (Some entries) each = each

entries_have : (bytes : List ℕ) → IfSome (entries_of bytes) EachHas
entries_have bytes = by (is_utf8 bytes) (option_and_then (λ p. json.if_last p.0 p.1) (json.value max_depth (tokens bytes))) where
  by : (utf8 : Bool) (found : Option json.Json) → IfSome (if utf8 then option_and_then as_object (option_and_then of_json found) else None) EachHas
  by true None = tt
  by true (Some value) = object_has value
  by false found = tt

-- ---- arrays

abbrev HasOnlyElements : Array → Type 0
HasOnlyElements one = AreElements one.elements

numbers_are : (numbers : Option (List ℤ)) → IfSome numbers AreElements → AreElements (unwrap_or numbers [])
numbers_are None are = tt
numbers_are (Some numbers) are = are

array_is : (entries : Members) (argument : List ℕ) → EachHas entries → HasOnlyElements (array_in entries argument)
array_is entries argument each = by (get_member argument entries) (found_has argument entries each) where
  by : (found : Option Data) → IfSome found HasElements → HasOnlyElements (option_map_or array_of found (record { shape = []; elements = [] }))
  by None has = tt
  by (Some value) has = numbers_are (numbers_of value) has

arrays_are : (entries : Members) (arguments : List (List ℕ)) → EachHas entries → AllByRecursion HasOnlyElements (map (array_in entries) arguments)
arrays_are entries [] each = tt
arrays_are entries (argument ∷ arguments) each = (array_is entries argument each, arrays_are entries arguments each)

arrays_given : (names : Names) (bytes : List ℕ) (contents : Contents) → arrays_reading names bytes ≡ Ok contents → AllByRecursion HasOnlyElements contents.arrays
arrays_given names bytes contents is = by_entries (entries_of bytes) (entries_have bytes) is where
  by_refusal : (entries : Members) → EachHas entries → (refusal : Option InputError) → option_map_or Err refusal (Ok (contents_in names entries)) ≡ Ok contents → AllByRecursion HasOnlyElements contents.arrays
  by_refusal entries each None is =
      subst (λ (contents : Contents). AllByRecursion HasOnlyElements contents.arrays) (same_value (option_map_or Err None (Ok (contents_in names entries))) contents is) (arrays_are entries names.arguments each)
  by_refusal entries each (Some error) is = refused_is_none error contents is

  by_entries : (found : Option Members) → IfSome found EachHas → entries_reading names found ≡ Ok contents → AllByRecursion HasOnlyElements contents.arrays
  by_entries None each is = refused_is_none NotJson contents is
  by_entries (Some entries) each is = by_refusal entries each (refusal_of names entries) is

in_lists : (arrays : List Array) → AllByRecursion HasOnlyElements arrays → AllByRecursion AreElements (map (λ one. one.elements) arrays)
in_lists [] are = tt
in_lists (one ∷ arrays) are = (are.0, in_lists arrays are.1)

-- each number of an array that a file gives is an element
pub elements_given : (names : Names) (bytes : List ℕ) (contents : Contents) → arrays_reading names bytes ≡ Ok contents → AllByRecursion AreElements (map (λ one. one.elements) contents.arrays)
elements_given names bytes contents is = in_lists contents.arrays (arrays_given names bytes contents is)
