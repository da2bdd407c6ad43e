-- What a walk over a text keeps of the values that it has read.
use Rattle.std.specs.Prelude.{ℕ, ◌+◌, ◌==◌, ℤ, List, [], ◌∷◌, Bool, true, false, Option, Some, None, option_map, if◌then◌else◌}
use Rattle.std.specs.Option.{option_map_or}
use Rattle.json.specs.Token.{Token, begin_object, end_object, begin_array, end_array, key, string, number, boolean, null, bad}
use Rattle.serde_json.specs.Data.{Data, Items, no_items, item}
use Rattle.sd_json.specs.NestedLists.{joined, numbers_of, numbers_of_items, is_shape, shape_of, shape_of_items}

-- the items of a list that were read: how many, and the shape of all of them, where they have one
pub record RowsRead : Type 0 where
  pub count : ℕ
  pub shape : Option (List ℕ)

-- no item of a list
abbrev pub no_rows : RowsRead
no_rows = record { count = 0; shape = None }

-- both have a shape, and it is one
abbrev pub have_one_shape : (first second : Option (List ℕ)) → Bool
have_one_shape first second = option_map_or (λ shape. is_shape second shape) first false

-- one item more, with this shape
abbrev pub rows_with : RowsRead → (shape : Option (List ℕ)) → RowsRead
rows_with rows shape = record {
  count = rows.count + 1;
  shape = if rows.count == 0 then shape else (if have_one_shape rows.shape shape then rows.shape else None);
}

-- leaves and other items, which were counted apart; the others have this shape, where they have one
abbrev pub rows_counted : (leaves others : ℕ) → (shape : Option (List ℕ)) → RowsRead
rows_counted leaves others shape = record {
  count = leaves + others;
  shape = if leaves == 0 then shape else (if others == 0 then Some [] else (if have_one_shape shape (Some []) then shape else None));
}

-- the shape of a list of these items
abbrev pub shape_of_rows : RowsRead → Option (List ℕ)
shape_of_rows rows = if rows.count == 0 then Some (0 ∷ []) else option_map (λ shape. rows.count ∷ shape) rows.shape

-- the shape of a list of these items and of those that are left
abbrev pub shape_from : RowsRead → Items → Option (List ℕ)
shape_from rows no_items = shape_of_rows rows
shape_from rows (item first others) = shape_from (rows_with rows (shape_of first)) others

-- the shape of a value, and its numbers behind those before it
abbrev pub value_kept : (before : Option (List ℤ)) → Data → Option (List ℕ) × Option (List ℤ)
value_kept before value = (shape_of value, joined before (numbers_of value))

-- the same of a list
abbrev pub items_kept : (before : Option (List ℤ)) → Items → Option (List ℕ) × Option (List ℤ)
items_kept before items = (shape_of_items items, joined before (numbers_of_items items))

-- the same of a list, some items of which were read
abbrev pub items_kept_from : RowsRead → (before : Option (List ℤ)) → Items → Option (List ℕ) × Option (List ℤ)
items_kept_from rows before items = (shape_from rows items, joined before (numbers_of_items items))

-- an object comes first
abbrev pub opens_object : List Token → Bool
opens_object [] = false
opens_object (begin_object ∷ rest) = true
opens_object (end_object ∷ rest) = false
opens_object (begin_array ∷ rest) = false
opens_object (end_array ∷ rest) = false
opens_object (key s ∷ rest) = false
opens_object (string s ∷ rest) = false
opens_object (number s ∷ rest) = false
opens_object (boolean b ∷ rest) = false
opens_object (null ∷ rest) = false
opens_object (bad ∷ rest) = false
