-- A value of an arrays file as an array: the whole numbers at the leaves of nested lists, and the lengths of the lists.
use Rattle.std.specs.Prelude.{ℕ, suc, ℤ, List, [], ◌∷◌, ◌++◌, Bool, true, false, ◌&&◌, Option, Some, None, option_map, option_and_then, nat_eq, if◌then◌else◌}
use Rattle.std.specs.Option.{option_map_or}
use Rattle.std.specs.Cmp.Lexicographic.{pointwise}
use Rattle.serde_json.specs.Data.{Data, null, boolean, number, string, array, object, Items, no_items, item}
use Rattle.serde_json.specs.Find.{as_number, as_i64}

-- the whole number from -2^63 to 2^63-1 that a value is, where it is one
abbrev pub whole_number : Data → Option ℤ
whole_number value = option_and_then as_i64 (as_number value)

-- the one number of a leaf
abbrev pub leaf_numbers : Data → Option (List ℤ)
leaf_numbers leaf = option_map (λ number. number ∷ []) (whole_number leaf)

-- one list behind another, where both are there
abbrev pub joined : Option (List ℤ) → Option (List ℤ) → Option (List ℤ)
joined first second = option_and_then (λ before. option_map (λ behind. before ++ behind) second) first

abbrev mutual
  -- the numbers of a value from left to right; a value that is no list is a leaf, and each leaf has to be a whole number
  pub numbers_of : Data → Option (List ℤ)
  numbers_of null = leaf_numbers null
  numbers_of (boolean b) = leaf_numbers (boolean b)
  numbers_of (number n) = leaf_numbers (number n)
  numbers_of (string s) = leaf_numbers (string s)
  numbers_of (object fields) = leaf_numbers (object fields)
  numbers_of (array items) = numbers_of_items items

  -- the numbers of all items of a list
  pub numbers_of_items : Items → Option (List ℤ)
  numbers_of_items no_items = Some []
  numbers_of_items (item first others) = joined (numbers_of first) (numbers_of_items others)

-- how many items a list has
abbrev pub count_of : Items → ℕ
count_of no_items = 0
count_of (item first others) = suc (count_of others)

-- a shape was found, and it is this one
abbrev pub is_shape : Option (List ℕ) → (shape : List ℕ) → Bool
is_shape found shape = option_map_or (λ s. pointwise nat_eq s shape) found false

abbrev mutual
  -- the shape of a value: that of a leaf is empty
  pub shape_of : Data → Option (List ℕ)
  shape_of null = Some []
  shape_of (boolean b) = Some []
  shape_of (number n) = Some []
  shape_of (string s) = Some []
  shape_of (object fields) = Some []
  shape_of (array items) = shape_of_items items

  -- the shape of a list: 0 alone where it is empty, else its length and then the shape of its first item, which all others have too
  pub shape_of_items : Items → Option (List ℕ)
  shape_of_items no_items = Some (0 ∷ [])
  shape_of_items (item first others) = option_and_then (λ shape. if all_have shape others then Some (suc (count_of others) ∷ shape) else None) (shape_of first)

  -- each item of a list has this shape
  pub all_have : (shape : List ℕ) → Items → Bool
  all_have shape no_items = true
  all_have shape (item first others) = is_shape (shape_of first) shape && all_have shape others
