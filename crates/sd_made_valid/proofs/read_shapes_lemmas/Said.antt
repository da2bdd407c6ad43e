-- An accepted copy, reduction, call or declaration fits, whatever numbers the variables have.
use Rattle.std.proofs.Common.{◌≡◌, ℕ, zero, suc, ◌+◌, nat_eq, nat_lt, if◌then◌else◌, ℤ, pos, negsuc, List, [], ◌∷◌, ◌++◌, map, length, take, drop, Bool, true, false, not, ◌||◌, Option, Some, None, option_map, bytes_eq, refl, ap, sym, ◌∙◌, subst, arith}
use Rattle.std.specs.Bool.{⊤}
use Rattle.std.specs.List.{AllByRecursion, list_any, zip}
use Rattle.std.specs.Ordering.{int_eq}
use Rattle.std.specs.Cmp.Lexicographic.{pointwise}
use Rattle.std.proofs.lemmas.Bool.{eqb-true}
use Rattle.std.proofs.lemmas.Bool.Decides.{Decides-int_eq}
use Rattle.std.proofs.lemmas.List.{length-map}
use Rattle.sd_range.specs.declared.affine.Affine.{Affine}
use Rattle.sd_lex.specs.PlainTree.{Expression, Dimension, FunctionTree}
use Rattle.sd_names.specs.declared.meaning.Container.TheVariants.{Array}
use Rattle.sd_names.specs.declared.meaning.Parameter.{Parameter}
use Rattle.sd_names.specs.declared.meaning.Signature.{Signature}
use Rattle.sd_names.specs.Names.{Name, Names, listed, place_of, is_among, meaning_of, signature_by, extents_of, extents_by}
use Rattle.sd_names.specs.Extents.{are_same, or_one}
use Rattle.sd_uses.specs.declared.stretch.Stretch.{Stretch}
use Rattle.sd_uses.specs.ShapeMismatch.{is_same_stretch, any_other_step, is_no_argument, is_shared, is_no_call, is_no_copy, without_axis, left_over, is_left_over}
use Rattle.sd_uses.specs.ShapeMismatch as accepted
use Rattle.sd_uses.specs.UnknownName.{is_unknown_use}
use Rattle.sd_uses.specs.Uses.{part, argument}
use Rattle.sd_program.specs.Bounds.{EachDimension}
use Rattle.sd_program.specs.Names.{Named, in_force}
use Rattle.sd_read.proofs.readable_lemmas.kept.Affine.{negated}
use Rattle.sd_read.proofs.readable_lemmas.kept.Passing.{neither, true_is_not_false, false_is_not_true}
use Rattle.sd_made_valid.proofs.read_shapes_lemmas.Signatures.{AreTold, by_signature}
use Rattle.sd_made_valid.specs.read_shapes.Fits.{AreExtents, values, subset_of, extents_of_programs, OfTwo, HasShape, HaveShapes}
use Rattle.sd_made_valid.proofs.read_shapes_lemmas.Values.{IsListed, by_place}
use Rattle.sd_made_valid.proofs.read_shapes_lemmas.Stretches.{same_extents, same_stretches, IsSound, stretches_in, turn, turn_stretch, subset_turned, lengths_turned, one_turned, extents_turned}
use Rattle.sd_made_valid.proofs.read_shapes_lemmas.Sound.{array_of}

-- the parameters of a program have these extents
abbrev pub AreOf : List Name → (Name → ℕ) → List Parameter → List (List Expression) → Type 0
AreOf symbols place [] [] = ⊤
AreOf symbols place [] (extents ∷ rest) = ⊥
AreOf symbols place (parameter ∷ parameters) [] = ⊥
AreOf symbols place (parameter ∷ parameters) (extents ∷ rest) = (AreExtents symbols extents × (parameter.extents ≡ map (by_place place) extents)) × AreOf symbols place parameters rest

abbrev pub TellsExtents : List FunctionTree → List Name → (Name → ℕ) → Name → Signature → Type 0
TellsExtents above symbols place name signature' = (parameters : List (List Expression)) × ((in_force (extents_of_programs above) name ≡ Some parameters) × AreOf symbols place signature'.parameters parameters)

-- what is known of the names in force: each size symbol has its place, and each array its extents
pub record AreNamed (names : Names) (symbols : List Name) (place : Name → ℕ) (arrays : Named (List Expression)) (above : List FunctionTree) : Type 0 where
  pub kept : (name : Name) → is_among symbols name ≡ true → IsListed names.meanings name × (place_of names.meanings name ≡ place name)
  pub held : (name : Name) (extents : List Affine) → listed names.containers name ≡ Some (Array extents) →
      (written : List Expression) × ((in_force arrays name ≡ Some written) × (AreExtents symbols written × (extents ≡ map (by_place place) written)))
  pub told : AreTold (TellsExtents above symbols place) names.meanings

-- ---- lists

taken : (f : Affine → Affine) (count : ℕ) (extents : List Affine) → take count (map f extents) ≡ map f (take count extents)
taken f zero [] = refl
taken f (suc count) [] = refl
taken f zero (extent ∷ extents) = refl
taken f (suc count) (extent ∷ extents) = ap (λ rest. f extent ∷ rest) (taken f count extents)

dropped : (f : Affine → Affine) (count : ℕ) (extents : List Affine) → drop count (map f extents) ≡ map f (drop count extents)
dropped f zero [] = refl
dropped f (suc count) [] = refl
dropped f zero (extent ∷ extents) = refl
dropped f (suc count) (extent ∷ extents) = dropped f count extents

joined : (f : Affine → Affine) (first second : List Affine) → map f first ++ map f second ≡ map f (first ++ second)
joined f [] second = refl
joined f (extent ∷ first) second = ap (λ rest. f extent ∷ rest) (joined f first second)

-- what a reduction leaves does not look at the extents
left_turned : (f : Affine → Affine) (axis : Option ℤ) (extents : List Affine) → left_over axis (map f extents) ≡ option_map (map f) (left_over axis extents)
left_turned f None extents = refl
left_turned f (Some (negsuc below)) extents = refl
left_turned f (Some (pos axis)) extents =
    ap (λ count. if nat_lt axis count then Some (take axis (map f extents) ++ drop (axis + 1) (map f extents)) else None) (length-map extents f)
    ∙ by_test (nat_lt axis (length extents)) where
      by_test : (test : Bool) → (if test then Some (take axis (map f extents) ++ drop (axis + 1) (map f extents)) else None) ≡ option_map (map f) (if test then Some (take axis extents ++ drop (axis + 1) extents) else None)
      by_test true = ap Some ((λ i. taken f axis extents i ++ dropped f (axis + 1) extents i) ∙ joined f (take axis extents) (drop (axis + 1) extents))
      by_test false = refl

module _ (names : Names) (symbols : List Name) (place : Name → ℕ) (arrays : Named (List Expression)) (above : List FunctionTree) (are : AreNamed names symbols place arrays above) where
  -- the extents of an array, by any numbers
  record IsHeld (name : Name) : Type 0 where
    pub written : List Expression
    pub known : in_force arrays name ≡ Some written
    pub turned : (variables : Named ℕ) → map (turn names.meanings variables) (extents_of names name) ≡ values variables written

  held_array : (name : Name) (dimensions : List Dimension) → is_unknown_use names (part name dimensions) ≡ false → IsHeld name
  held_array name dimensions known =
      let found = array_of names name dimensions known in
      let held = are.held name found.0 found.1 in
      record {
        written = held.0;
        known = held.1.0;
        turned = λ variables. ap (λ container. map (turn names.meanings variables) (extents_by container)) found.1 ∙ ap (map (turn names.meanings variables)) held.1.1.1
            ∙ extents_turned names.meanings variables place symbols are.kept held.0 held.1.1.0;
      }

  of_subset : (name : Name) (dimensions : List Dimension) → accepted.subset_of names name dimensions ≡ stretches_in names.meanings (extents_of names name) dimensions
  of_subset name [] = refl
  of_subset name (dimension ∷ dimensions) = refl

  -- the stretches of a part, by any numbers
  stretches_by : (name : Name) (dimensions : List Dimension) (held : IsHeld name) → EachDimension (IsSound names.meanings) dimensions → (variables : Named ℕ) →
      map (turn_stretch names.meanings variables) (accepted.subset_of names name dimensions) ≡ subset_of variables (values variables held.written) dimensions
  stretches_by name dimensions held sound variables =
      subset_turned names.meanings variables (extents_of names name) dimensions (accepted.subset_of names name dimensions) sound (of_subset name dimensions)
      ∙ ap (λ extents. subset_of variables extents dimensions) (held.turned variables)

  -- ---- copies

  pub copy_fits : (to : Name) (to_dimensions : List Dimension) (from : Name) (from_dimensions : List Dimension) → is_unknown_use names (part to to_dimensions) ≡ false → is_unknown_use names (part from from_dimensions) ≡ false →
      EachDimension (IsSound names.meanings) to_dimensions → EachDimension (IsSound names.meanings) from_dimensions → is_no_copy names to to_dimensions from from_dimensions ≡ false →
      OfTwo symbols arrays above to from (λ first second. (variables : Named ℕ) → subset_of variables (values variables first) to_dimensions ≡ subset_of variables (values variables second) from_dimensions)
  copy_fits to to_dimensions from from_dimensions known_to known_from sound_to sound_from matching =
      let halves = neither (bytes_eq to from) (not (pointwise is_same_stretch (accepted.subset_of names to to_dimensions) (accepted.subset_of names from from_dimensions))) matching in
      let first = held_array to to_dimensions known_to in
      let second = held_array from from_dimensions known_from in
      let same = same_stretches (accepted.subset_of names to to_dimensions) (accepted.subset_of names from from_dimensions) (negated (pointwise is_same_stretch (accepted.subset_of names to to_dimensions) (accepted.subset_of names from from_dimensions)) halves.1) in (
        halves.0,
        (
          first.written,
          (
            second.written,
            (
              first.known,
              (
                second.known,
                λ variables. sym (stretches_by to to_dimensions first sound_to variables) ∙ ap (map (turn_stretch names.meanings variables)) same ∙ stretches_by from from_dimensions second sound_from variables,
              ),
            ),
          ),
        ),
      )

  -- ---- reductions

  pub reduce_fits : (from to : Name) (axis : Option ℤ) → is_unknown_use names (part from []) ≡ false → is_unknown_use names (part to []) ≡ false → is_left_over (left_over axis (extents_of names from)) (extents_of names to) ≡ true →
      bytes_eq from to ≡ false → OfTwo symbols arrays above from to (λ first second. (variables : Named ℕ) → option_map or_one (left_over axis (values variables first)) ≡ Some (values variables second))
  reduce_fits from to axis known_from known_to left other =
      let first = held_array from [] known_from in
      let second = held_array to [] known_to in
      (other, (first.written, (second.written, (first.known, (second.known, λ variables. by_left variables first second (left_over axis (extents_of names from)) refl left))))) where
        by_left : (variables : Named ℕ) (first : IsHeld from) (second : IsHeld to) (found : Option (List Affine)) → left_over axis (extents_of names from) ≡ found → is_left_over found (extents_of names to) ≡ true →
            option_map or_one (left_over axis (values variables first.written)) ≡ Some (values variables second.written)
        by_left variables first second None is left = false_is_not_true left
        by_left variables first second (Some extents) is left =
            ap (λ extents. option_map or_one (left_over axis extents)) (sym (first.turned variables))
            ∙ ap (option_map or_one) (left_turned (turn names.meanings variables) axis (extents_of names from) ∙ ap (option_map (map (turn names.meanings variables))) is)
            ∙ ap Some (one_turned names.meanings variables extents ∙ ap (map (turn names.meanings variables)) (same_extents (or_one extents) (extents_of names to) left) ∙ second.turned variables)

  -- ---- calls

  steps_one : (variables : Named ℕ) (all : List Stretch) → any_other_step all ≡ false → AllByRecursion (λ (stretch : Affine × ℤ). stretch.1 ≡ pos 1) (map (turn_stretch names.meanings variables) all)
  steps_one variables [] none = tt
  steps_one variables (stretch ∷ all) none =
      let halves = neither (not (int_eq stretch.step (pos 1))) (any_other_step all) none in
      ((Decides-int_eq stretch.step (pos 1)).0 (negated (int_eq stretch.step (pos 1)) halves.0), steps_one variables all halves.1)

  argument_fits : (passed : Name × List Dimension) (parameter : Parameter) (extents : List Expression) → is_unknown_use names (part passed.0 passed.1) ≡ false → EachDimension (IsSound names.meanings) passed.1 →
      is_no_argument names (passed, parameter) ≡ false → AreExtents symbols extents × (parameter.extents ≡ map (by_place place) extents) → HasShape symbols arrays above passed extents
  argument_fits passed parameter extents known sound matching of =
      let subset = accepted.subset_of names passed.0 passed.1 in
      let lengths = map (λ (stretch : Stretch). stretch.length) subset in
      let halves = neither (any_other_step subset) (not (are_same (or_one lengths) parameter.extents)) matching in
      let held = held_array passed.0 passed.1 known in
      let same : or_one lengths ≡ parameter.extents = same_extents (or_one lengths) parameter.extents (negated (are_same (or_one lengths) parameter.extents) halves.1) in (
        held.written,
        (
          held.known,
          λ variables.
              let by_numbers = stretches_by passed.0 passed.1 held sound variables in (
                subst (AllByRecursion (λ (stretch : Affine × ℤ). stretch.1 ≡ pos 1)) by_numbers (steps_one variables subset halves.0),
                ap (λ stretches. or_one (map (λ (stretch : Affine × ℤ). stretch.0) stretches)) (sym by_numbers)
                    ∙ ap or_one (lengths_turned names.meanings variables subset)
                    ∙ one_turned names.meanings variables lengths
                    ∙ ap (map (turn names.meanings variables)) (same ∙ of.1)
                    ∙ extents_turned names.meanings variables place symbols are.kept extents of.0,
              ),
        ),
      )

  arguments_fit : (arguments : List (Name × List Dimension)) (parameters : List Parameter) (extents : List (List Expression)) → length arguments ≡ length parameters → list_any (is_unknown_use names) (map argument arguments) ≡ false →
      AllByRecursion (λ passed. EachDimension (IsSound names.meanings) passed.1) arguments → list_any (is_no_argument names) (zip arguments parameters) ≡ false → AreOf symbols place parameters extents → HaveShapes symbols arrays above arguments extents
  arguments_fit [] [] [] count known sound matching of = tt
  arguments_fit [] [] (first ∷ extents) count known sound matching of = absurd of
  arguments_fit [] (parameter ∷ parameters) extents count known sound matching of = absurd (omega (arith, count))
  arguments_fit (passed ∷ arguments) [] extents count known sound matching of = absurd (omega (arith, count))
  arguments_fit (passed ∷ arguments) (parameter ∷ parameters) [] count known sound matching of = absurd of
  arguments_fit (passed ∷ arguments) (parameter ∷ parameters) (first ∷ extents) count known sound matching of =
      let knowns = neither (is_unknown_use names (argument passed)) (list_any (is_unknown_use names) (map argument arguments)) known in
      let matchings = neither (is_no_argument names (passed, parameter)) (list_any (is_no_argument names) (zip arguments parameters)) matching in
      ((of.0.0, argument_fits passed parameter first knowns.0 sound.0 matchings.0 of.0), arguments_fit arguments parameters extents (omega (arith, count)) knowns.1 sound.1 matchings.1 of.1)

  pub call_fits : (name : Name) (arguments : List (Name × List Dimension)) → list_any (is_unknown_use names) (map argument arguments) ≡ false → AllByRecursion (λ passed. EachDimension (IsSound names.meanings) passed.1) arguments →
      is_no_call names arguments (signature_by (meaning_of names name)) ≡ false → (parameters : List (List Expression)) × ((in_force (extents_of_programs above) name ≡ Some parameters) × HaveShapes symbols arrays above arguments parameters)
  call_fits name arguments known sound matching = by_found (signature_by (meaning_of names name)) refl matching where
    by_found : (found : Option Signature) → signature_by (meaning_of names name) ≡ found → is_no_call names arguments found ≡ false →
        (parameters : List (List Expression)) × ((in_force (extents_of_programs above) name ≡ Some parameters) × HaveShapes symbols arrays above arguments parameters)
    by_found None is fits = true_is_not_false fits
    by_found (Some signature') is fits =
        by_signature (meaning_of names name) signature' is
        (λ means.
        let tells = are.told name signature' means in
        let all = neither (not (nat_eq (length arguments) (length signature'.parameters)) || list_any (is_no_argument names) (zip arguments signature'.parameters)) (list_any (is_shared arguments) (zip arguments signature'.parameters)) fits in
        let count = neither (not (nat_eq (length arguments) (length signature'.parameters))) (list_any (is_no_argument names) (zip arguments signature'.parameters)) all.0 in
        (tells.0, (tells.1.0, arguments_fit arguments signature'.parameters tells.0 (eqb-true (length arguments) (length signature'.parameters) (negated (nat_eq (length arguments) (length signature'.parameters)) count.0)) known sound count.1 tells.1.1)))
