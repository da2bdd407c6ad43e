-- What code is given, element by element and variable by variable.
use Rattle.std.proofs.Common.{◌≡◌, ℕ, ◌+◌, ◌<◌, ◌≤◌, ℤ, List, [], ◌∷◌, length, map, take, get_or, slice_index_or, slice_set, refl, sym, ap, ◌∙◌, arith, subst}
use Rattle.std.specs.List.{AllByRecursion}
use Rattle.std.proofs.lemmas.List.{length-set, length-map}
use Rattle.sd_graph.specs.TaskletMeaning.{Inputs}
use Rattle.sd_tcode.specs.tcode.Held.{room_for, with_element, with_variable}
use Rattle.sd_row.specs.declared.row.row.Row.{Row}
use Rattle.sd_row.specs.declared.row.track.Track.{Track}
use Rattle.sd_tcode.specs.declared.columns.spacing.Spaced.{Spaced}
use Rattle.sd_row.specs.row.Point.{HasScalars}
use Rattle.sd_row.proofs.row_lemmas.Filled.{set_next, set_all, all_set, all_at, one_set}

-- there is room for one element
pub room_there : (inputs : Inputs) (connector many : ℕ) → AllByRecursion (λ values. length values ≡ 1) inputs.values → length inputs.values ≡ many → connector < many → 0 < room_for inputs connector
room_there inputs connector many singles count within =
    let one = all_at (λ values. length values ≡ 1) inputs.values connector [] singles (omega (arith, count, within)) in
    omega (arith, one)

-- the first so many inputs have the elements that are made of these members
pub record IsLoaded {A : Type 0} (made : A → ℤ) (members : List A) (number : ℕ) (old now : Inputs) : Type 0 where
  pub taken : take number now.values ≡ map (λ member. made member ∷ []) (take number members)
  pub many : length now.values ≡ length members
  pub singles : AllByRecursion (λ values. length values ≡ 1) now.values
  pub extents : now.extents ≡ old.extents
  pub variables : now.variables ≡ old.variables

module _ {A : Type 0} (made : A → ℤ) (members : List A) where
  pub none_loaded : (old : Inputs) → length old.values ≡ length members → AllByRecursion (λ values. length values ≡ 1) old.values → IsLoaded made members 0 old old
  none_loaded old many singles = record { taken = refl; many = many; singles = singles; extents = refl; variables = refl }

  pub one_loaded : (number : ℕ) (old now new : Inputs) (member : A) (value : ℤ) → IsLoaded made members number old now → number < length members → member ≡ get_or members number member →
      value ≡ made member → new ≡ with_element now number 0 value → IsLoaded made members (number + 1) old new
  one_loaded number old now new member value loaded within is value_is step =
      let before : List ℤ = slice_index_or now.values number [] in
      let single : length before ≡ 1 = all_at (λ values. length values ≡ 1) now.values number [] loaded.singles (omega (arith, loaded.many, within)) in
      let after : slice_set before 0 value ≡ value ∷ [] = one_set before value single in
      let values : new.values ≡ slice_set now.values number (value ∷ []) = ap (λ (inputs : Inputs). inputs.values) step ∙ ap (slice_set now.values number) after in
      record {
        taken = ap (take (number + 1)) values ∙ set_next (λ member. made member ∷ []) members now.values number member (value ∷ []) within loaded.many is (ap (λ value. value ∷ []) value_is) loaded.taken;
        many = ap length values ∙ length-set now.values number (value ∷ []) ∙ loaded.many;
        singles = subst (AllByRecursion (λ values. length values ≡ 1)) (sym values) (all_set (λ values. length values ≡ 1) now.values number (value ∷ []) loaded.singles refl);
        extents = ap (λ (inputs : Inputs). inputs.extents) step ∙ loaded.extents;
        variables = ap (λ (inputs : Inputs). inputs.variables) step ∙ loaded.variables;
      }

  pub all_loaded : (number : ℕ) (old now : Inputs) → length members ≤ number → IsLoaded made members number old now → now ≡ record old { values = map (λ member. made member ∷ []) members }
  all_loaded number old now over loaded = λ i. record {
    values = set_all (λ member. made member ∷ []) members now.values number over loaded.many loaded.taken i;
    extents = loaded.extents i;
    variables = loaded.variables i;
  }

-- the first so many variables have the values that are made of these members
pub record AreSet {A : Type 0} (made : A → ℤ) (members : List A) (number : ℕ) (old now : Inputs) : Type 0 where
  pub taken : take number now.variables ≡ map made (take number members)
  pub many : length now.variables ≡ length members
  pub values : now.values ≡ old.values
  pub extents : now.extents ≡ old.extents

module _ {A : Type 0} (made : A → ℤ) (members : List A) where
  pub none_set : (old : Inputs) → length old.variables ≡ length members → AreSet made members 0 old old
  none_set old many = record { taken = refl; many = many; values = refl; extents = refl }

  pub one_more_set : (number : ℕ) (old now new : Inputs) (member : A) (value : ℤ) → AreSet made members number old now → number < length members → member ≡ get_or members number member →
      value ≡ made member → new ≡ with_variable now number value → AreSet made members (number + 1) old new
  one_more_set number old now new member value before within is value_is step =
      let variables : new.variables ≡ slice_set now.variables number value = ap (λ (inputs : Inputs). inputs.variables) step in
      record {
        taken = ap (take (number + 1)) variables ∙ set_next made members now.variables number member value within before.many is value_is before.taken;
        many = ap length variables ∙ length-set now.variables number value ∙ before.many;
        values = ap (λ (inputs : Inputs). inputs.values) step ∙ before.values;
        extents = ap (λ (inputs : Inputs). inputs.extents) step ∙ before.extents;
      }

  pub all_are_set : (number : ℕ) (old now : Inputs) → length members ≤ number → AreSet made members number old now → now ≡ record old { variables = map made members }
  all_are_set number old now over are = λ i. record {
    values = are.values i;
    extents = are.extents i;
    variables = set_all made members now.variables number over are.many are.taken i;
  }

all_single : {A : Type 0} (made : A → ℤ) (members : List A) → AllByRecursion (λ values. length values ≡ 1) (map (λ member. made member ∷ []) members)
all_single made [] = tt
all_single made (member ∷ members) = (refl, all_single made members)

-- what is given at a point are scalars again
pub scalars_again : (row : Row) (connectors : ℕ) (read : Track → ℤ) (value : Spaced → ℤ) (old new : Inputs) → HasScalars row connectors old →
    new.values ≡ map (λ track. read track ∷ []) row.reads.items → new.variables ≡ map value row.variables.items → new.extents ≡ old.extents → HasScalars row connectors new
scalars_again row connectors read value old new scalars values variables extents = record {
  singles = subst (AllByRecursion (λ values. length values ≡ 1)) (sym values) (all_single read row.reads.items);
  reads = ap length values ∙ length-map row.reads.items (λ track. read track ∷ []);
  variables = ap length variables ∙ length-map row.variables.items value;
  extents = extents ∙ scalars.extents;
  few_reads = scalars.few_reads;
  few_variables = scalars.few_variables;
}
