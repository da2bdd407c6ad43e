-- The shape that is found is the one that a value has.
use Rattle.std.proofs.Common.{◌≡◌, ℕ, List, Bool, true, false, ◌&&◌, Option, Some, None, nat_eq, refl, sym, ap, ◌∙◌}
use Rattle.std.specs.Cmp.Lexicographic.{pointwise}
use Rattle.std.proofs.lemmas.Cmp.{nat_list_eq_equiv}
use Rattle.std.proofs.lemmas.Option.{same_Some}
use Rattle.serde_json.specs.Data.{Data, null, boolean, number, string, array, object, Items, no_items, item}
use Rattle.sd_json.specs.NestedLists.{shape_of, all_have, is_shape}
use Rattle.sd_json.specs.Shape.{HasShape, AllHave}
use Rattle.sd_json.proofs.Full.{both_shapes, and_both, is_this_shape}

shape_is : (found : Option (List ℕ)) (shape : List ℕ) → found ≡ Some shape → is_shape found shape ≡ true
shape_is None shape is = cc
shape_is (Some other) shape is = ap (λ s. pointwise nat_eq s shape) (same_Some _ _ is) ∙ nat_list_eq_equiv.refl shape

two_true : (first second : Bool) → first ≡ true → second ≡ true → (first && second) ≡ true
two_true true second one other = other
two_true false second one other = cc

mutual
  -- what is found is a shape of the value
  pub found_has : (value : Data) (shape : List ℕ) → shape_of value ≡ Some shape → HasShape value shape
  found_has null shape is = sym (same_Some _ _ is)
  found_has (boolean b) shape is = sym (same_Some _ _ is)
  found_has (number n) shape is = sym (same_Some _ _ is)
  found_has (string s) shape is = sym (same_Some _ _ is)
  found_has (object fields) shape is = sym (same_Some _ _ is)
  found_has (array no_items) shape is = sym (same_Some _ _ is)
  found_has (array (item first others)) shape is =
      let p = both_shapes (shape_of first) others shape is in (p.0, p.3, found_has first p.0 p.1, all_found others p.0 p.2)

  all_found : (items : Items) (shape : List ℕ) → all_have shape items ≡ true → AllHave items shape
  all_found no_items shape all = tt
  all_found (item first others) shape all =
      let p = and_both (is_shape (shape_of first) shape) (all_have shape others) all in (found_has first shape (is_this_shape (shape_of first) shape p.0), all_found others shape p.1)

mutual
  -- a shape of the value is found
  pub has_found : (value : Data) (shape : List ℕ) → HasShape value shape → shape_of value ≡ Some shape
  has_found null shape has = ap Some (sym has)
  has_found (boolean b) shape has = ap Some (sym has)
  has_found (number n) shape has = ap Some (sym has)
  has_found (string s) shape has = ap Some (sym has)
  has_found (object fields) shape has = ap Some (sym has)
  has_found (array no_items) shape has = ap Some (sym has)
  has_found (array (item first others)) shape has = rw (has_found first has.0 has.2) (rw (all_has others has.0 has.3) (ap Some (sym has.1)))

  all_has : (items : Items) (shape : List ℕ) → AllHave items shape → all_have shape items ≡ true
  all_has no_items shape all = refl
  all_has (item first others) shape all = two_true (is_shape (shape_of first) shape) (all_have shape others) (shape_is (shape_of first) shape (has_found first shape all.0)) (all_has others shape all.1)
