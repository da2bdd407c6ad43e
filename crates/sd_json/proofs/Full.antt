-- A value with a shape has a number for each element of it.
use Rattle.std.proofs.Common.{◌≡◌, ℕ, zero, suc, ◌+◌, ◌*◌, ◌<◌, ℤ, List, [], ◌∷◌, ◌++◌, map, length, Bool, true, false, cond, ◌&&◌, Option, Some, None, option_map, option_and_then, unwrap_or, refl, ap, sym, ◌∙◌, arith, length-append, get_or}
use Rattle.std.specs.Option.{is_none, option_or, option_map_or}
use Rattle.std.specs.List.{find}
use Rattle.std.specs.Cmp.Lexicographic.{same_text}
use Rattle.std.proofs.lemmas.Option.{same_Some}
use Rattle.sd_range.specs.Points.{product}
use Rattle.sd_range.proofs.TupleLaws.{product-cons}
use Rattle.serde_json.specs.Data.{Data, null, boolean, number, string, array, object, Items, no_items, item, Members}
use Rattle.serde_json.specs.Find.{get_member, as_i64}
use Rattle.sd_json.specs.NestedLists.{joined, numbers_of, numbers_of_items, count_of, shape_of, all_have, is_shape}
use Rattle.sd_json.specs.Given.{IsFull}
use Rattle.sd_json.specs.ArraysReading.{is_missing, is_no_size, has_no_number, is_ragged, least_extra, refusal_of, array_of, array_in}
use Rattle.sd_json.specs.declared.array.Array.{Array}
use Rattle.sd_json.specs.declared.names.Names.{Names}
use Rattle.sd_json.specs.declared.error.InputError.{InputError}
use Rattle.sd_json.specs.declared.error.InputError.TheVariants as error

-- both parts of a list of numbers
both_numbers : (first rest : Option (List ℤ)) (numbers : List ℤ) → joined first rest ≡ Some numbers →
    (here more : List ℤ) × (first ≡ Some here) × (rest ≡ Some more) × (numbers ≡ here ++ more)
both_numbers None rest numbers e = cc
both_numbers (Some here) None numbers e = cc
both_numbers (Some here) (Some more) numbers e = (here, more, refl, refl, sym (same_Some _ _ e))

-- the shape of the first item, and that all others have it
pub both_shapes : (first : Option (List ℕ)) (others : Items) (shape : List ℕ) → option_and_then (λ s. cond (all_have s others) (Some (suc (count_of others) ∷ s)) None) first ≡ Some shape →
    (inner : List ℕ) × (first ≡ Some inner) × (all_have inner others ≡ true) × (shape ≡ suc (count_of others) ∷ inner)
both_shapes None others shape e = cc
both_shapes (Some inner) others shape e = by (all_have inner others) refl e
  where
    by : (all : Bool) → all_have inner others ≡ all → cond all (Some (suc (count_of others) ∷ inner)) None ≡ Some shape →
        (s : List ℕ) × (Some inner ≡ Some s) × (all_have s others ≡ true) × (shape ≡ suc (count_of others) ∷ s)
    by true all is = (inner, refl, all, sym (same_Some _ _ is))
    by false all is = cc

pub and_both : (first second : Bool) → (first && second) ≡ true → (first ≡ true) × (second ≡ true)
and_both true second all = (refl, all)
and_both false second all = cc

pub is_this_shape : (found : Option (List ℕ)) (shape : List ℕ) → is_shape found shape ≡ true → found ≡ Some shape
is_this_shape None shape is = cc
is_this_shape (Some other) shape is = ap Some (same_text other shape (sym is))

leaf_is_full : (found : Option ℤ) (shape : List ℕ) (numbers : List ℤ) → Some [] ≡ Some shape → option_map (λ n. n ∷ []) found ≡ Some numbers → length numbers ≡ product shape
leaf_is_full None shape numbers s n = cc
leaf_is_full (Some value) shape numbers s n = ap length (sym (same_Some _ _ n)) ∙ ap product (same_Some _ _ s)

empty_is_full : (shape : List ℕ) (numbers : List ℤ) → Some (0 ∷ []) ≡ Some shape → Some [] ≡ Some numbers → length numbers ≡ product shape
empty_is_full shape numbers s n = ap length (sym (same_Some _ _ n)) ∙ ap product (same_Some _ _ s)

list_is_full : (count size : ℕ) (here more numbers : List ℤ) (inner shape : List ℕ) → numbers ≡ here ++ more → shape ≡ suc count ∷ inner → length here ≡ product inner → length more ≡ count * product inner → length numbers ≡ product shape
list_is_full count size here more numbers inner shape n s first rest =
    ap length n ∙ length-append here more ∙ (λ i. first i + rest i) ∙ sym (ap product s ∙ product-cons (suc count) inner ∙ omega arith)

items_are_full : (count size : ℕ) (here more numbers : List ℤ) → numbers ≡ here ++ more → length here ≡ size → length more ≡ count * size → length numbers ≡ suc count * size
items_are_full count size here more numbers n first rest = ap length n ∙ length-append here more ∙ (λ i. first i + rest i) ∙ omega arith

mutual
  pub full : (value : Data) (shape : List ℕ) (numbers : List ℤ) → shape_of value ≡ Some shape → numbers_of value ≡ Some numbers → length numbers ≡ product shape
  full null shape numbers s n = cc
  full (boolean b) shape numbers s n = cc
  full (string t) shape numbers s n = cc
  full (object fields) shape numbers s n = cc
  full (number value) shape numbers s n = leaf_is_full (as_i64 value) shape numbers s n
  full (array no_items) shape numbers s n = empty_is_full shape numbers s n
  full (array (item first others)) shape numbers s n =
      let p = both_shapes (shape_of first) others shape s in
      let q = both_numbers (numbers_of first) (numbers_of_items others) numbers n in
      list_is_full (count_of others) 0 q.0 q.1 numbers p.0 shape q.4 p.3 (full first p.0 q.0 p.1 q.2) (all_full others p.0 q.1 p.2 q.3)

  all_full : (items : Items) (shape : List ℕ) (numbers : List ℤ) → all_have shape items ≡ true → numbers_of_items items ≡ Some numbers → length numbers ≡ count_of items * product shape
  all_full no_items shape numbers s n = let none : length numbers ≡ 0 = ap length (sym (same_Some _ _ n)) in omega (arith, none)
  all_full (item first others) shape numbers s n =
      let p = and_both (is_shape (shape_of first) shape) (all_have shape others) s in
      let q = both_numbers (numbers_of first) (numbers_of_items others) numbers n in
      items_are_full (count_of others) (product shape) q.0 q.1 numbers q.4 (full first shape q.0 (is_this_shape (shape_of first) shape p.0) q.2) (all_full others shape q.1 p.1 q.3)

-- ---- arrays

none_of_two : (first second : Option (List ℕ)) → option_or first second ≡ None → (first ≡ None) × (second ≡ None)
none_of_two None second none = (refl, none)
none_of_two (Some first) second none = cc

none_of_cond : (test : Bool) (here : List ℕ) (rest : Option (List ℕ)) → cond test (Some here) rest ≡ None → (test ≡ false) × (rest ≡ None)
none_of_cond true here rest none = cc
none_of_cond false here rest none = (refl, none)

-- an entry that is there, has numbers and has a shape is full
array_is_full : (found : Option Data) → is_none found ≡ false → option_map_or (λ value. is_none (numbers_of value)) found false ≡ false → option_map_or (λ value. is_none (shape_of value)) found false ≡ false →
    IsFull (option_map_or array_of found (record { shape = []; elements = [] }))
array_is_full None there numbers shape = cc
array_is_full (Some value) there numbers shape = by (shape_of value) (numbers_of value) refl refl numbers shape
  where
    by : (s : Option (List ℕ)) (n : Option (List ℤ)) → shape_of value ≡ s → numbers_of value ≡ n → is_none n ≡ false → is_none s ≡ false → length (unwrap_or n []) ≡ product (unwrap_or s [])
    by None n is has whole some = cc
    by (Some s) None is has whole some = cc
    by (Some s) (Some n) is has whole some = full value s n is has

-- the arrays of arguments with which nothing is wrong are full
pub arrays_are_full : (fields : Members) (arguments : List (List ℕ)) → find (is_missing fields) arguments ≡ None → find (has_no_number fields) arguments ≡ None → find (is_ragged fields) arguments ≡ None →
    (k : ℕ) (d : Array) → k < length (map (array_in fields) arguments) → IsFull (get_or (map (array_in fields) arguments) k d)
arrays_are_full fields [] missing leaf ragged k d less = absurd (omega arith)
arrays_are_full fields (first ∷ others) missing leaf ragged zero d less =
    array_is_full (get_member first fields) (none_of_cond (is_missing fields first) first _ missing).0 (none_of_cond (has_no_number fields first) first _ leaf).0 (none_of_cond (is_ragged fields first) first _ ragged).0
arrays_are_full fields (first ∷ others) missing leaf ragged (suc k) d less =
    arrays_are_full fields others (none_of_cond (is_missing fields first) first _ missing).1 (none_of_cond (has_no_number fields first) first _ leaf).1 (none_of_cond (is_ragged fields first) first _ ragged).1 k d (omega arith)

none_of_errors : (first : Option InputError) (second : Option InputError) → option_or first second ≡ None → (first ≡ None) × (second ≡ None)
none_of_errors None second none = (refl, none)
none_of_errors (Some first) second none = cc

none_told : (told : List ℕ → InputError) (found : Option (List ℕ)) → option_map told found ≡ None → found ≡ None
none_told told None none = refl
none_told told (Some name) none = cc

-- so are those of a file that is not refused
pub unrefused_are_full : (names : Names) (fields : Members) → refusal_of names fields ≡ None → (k : ℕ) (d : Array) → k < length (map (array_in fields) names.arguments) → IsFull (get_or (map (array_in fields) names.arguments) k d)
unrefused_are_full names fields none =
    let a = none_of_errors (option_map error.Missing (find (is_missing fields) names.arguments)) _ none in
    let b = none_of_errors (option_map error.Extra (least_extra names fields)) _ a.1 in
    let e = none_of_errors (option_map error.NotANumber (find (is_no_size fields) names.symbols)) _ b.1 in
    let f = none_of_errors (option_map error.NotANumber (find (has_no_number fields) names.arguments)) _ e.1 in
    arrays_are_full fields names.arguments (none_told error.Missing _ a.0) (none_told error.NotANumber _ f.0) (none_told error.Ragged _ f.1)
