-- The shape of a value, as a relation.
use Rattle.std.specs.Prelude.{◌≡◌, ℕ, suc, List, [], ◌∷◌, ⊤}
use Rattle.serde_json.specs.Data.{Data, null, boolean, number, string, array, object, Items, no_items, item}
use Rattle.sd_json.specs.NestedLists.{count_of}

abbrev mutual
  -- a leaf has the empty shape, and a list whose items all have one shape has its length and then that shape; an empty list has 0 alone
  pub HasShape : Data → (shape : List ℕ) → Type 0
  HasShape null shape = shape ≡ []
  HasShape (boolean b) shape = shape ≡ []
  HasShape (number n) shape = shape ≡ []
  HasShape (string s) shape = shape ≡ []
  HasShape (object fields) shape = shape ≡ []
  HasShape (array no_items) shape = shape ≡ 0 ∷ []
  HasShape (array (item first others)) shape = (inner : List ℕ) × (shape ≡ suc (count_of others) ∷ inner) × HasShape first inner × AllHave others inner

  -- each item of a list has this shape
  pub AllHave : Items → (shape : List ℕ) → Type 0
  AllHave no_items shape = ⊤
  AllHave (item first others) shape = HasShape first shape × AllHave others shape
