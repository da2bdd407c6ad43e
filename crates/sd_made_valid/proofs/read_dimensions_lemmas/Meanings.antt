-- Connectors in force have the dimensions that are known of them.
use Rattle.std.proofs.Common.{◌≡◌, ◌∙◌, ◌≤◌, ℕ, zero, suc, List, [], ◌∷◌, length, take, Bool, true, false, cond, if◌then◌else◌, Option, Some, None, is_some, bytes_eq, refl, ap, sym, arith}
use Rattle.std.specs.Bool.{⊤}
use Rattle.std.proofs.lemmas.Slice.Eq.{bytes_eq-Decides}
use Rattle.sd_names.specs.declared.meaning.Meaning.{Meaning}
use Rattle.sd_names.specs.declared.meaning.Meaning.TheVariants.{Symbol, Variable, Program, Worker, Input, Output, Local}
use Rattle.sd_names.specs.Names.{Name, listed, put}
use Rattle.sd_program.specs.Names.{Named, in_force}
use Rattle.sd_read.proofs.readable_lemmas.kept.InForce.{listed-put}
use Rattle.sd_read.proofs.readable_lemmas.kept.Passing.{true_is_not_false}

-- the dimensions of an input, and those of an output
abbrev pub input_by : Option Meaning → Option ℕ
input_by (Some (Input dimensions)) = Some dimensions
input_by meaning = None

abbrev pub output_by : Option Meaning → Option ℕ
output_by (Some (Output dimensions)) = Some dimensions
output_by meaning = None

-- these are the connectors in force
abbrev pub AreTied : List (Name × Meaning) → (ins outs : Named ℕ) → Type 0
AreTied meanings ins outs = (name : Name) → (in_force ins name ≡ input_by (listed meanings name)) × (in_force outs name ≡ output_by (listed meanings name))

-- no connector
abbrev pub IsPlain : Meaning → Type 0
IsPlain (Input dimensions) = ⊥
IsPlain (Output dimensions) = ⊥
IsPlain meaning = ⊤

plain_neither : (meaning : Meaning) → IsPlain meaning → (input_by (Some meaning) ≡ None) × (output_by (Some meaning) ≡ None)
plain_neither Symbol plain = (refl, refl)
plain_neither Variable plain = (refl, refl)
plain_neither (Program signature) plain = (refl, refl)
plain_neither Worker plain = (refl, refl)
plain_neither (Input dimensions) plain = absurd plain
plain_neither (Output dimensions) plain = absurd plain
plain_neither Local plain = (refl, refl)

none_listed : (found : Option Meaning) → is_some found ≡ false → found ≡ None
none_listed None new = refl
none_listed (Some meaning) new = true_is_not_false new

-- what is not in force is no connector
pub no_connector : (meanings : List (Name × Meaning)) (ins outs : Named ℕ) (name : Name) → AreTied meanings ins outs → is_some (listed meanings name) ≡ false → (in_force ins name ≡ None) × (in_force outs name ≡ None)
no_connector meanings ins outs name tied new =
    let none = none_listed (listed meanings name) new in
    ((tied name).0 ∙ ap input_by none, (tied name).1 ∙ ap output_by none)

-- ---- a name more

module _ (meanings : List (Name × Meaning)) (name : Name) (meaning : Meaning) (wanted : Name) where
  put_here : bytes_eq wanted name ≡ true → listed (put meanings name meaning) wanted ≡ Some meaning
  put_here here = listed-put meanings name meaning wanted ∙ ap (λ test. if test then Some meaning else listed meanings wanted) here

  put_other : bytes_eq wanted name ≡ false → listed (put meanings name meaning) wanted ≡ listed meanings wanted
  put_other other = listed-put meanings name meaning wanted ∙ ap (λ test. if test then Some meaning else listed meanings wanted) other

  same_name : bytes_eq wanted name ≡ true → wanted ≡ name
  same_name here = (bytes_eq-Decides wanted name).0 here

pub plain_tied : (meanings : List (Name × Meaning)) (ins outs : Named ℕ) (name : Name) (meaning : Meaning) → IsPlain meaning → (in_force ins name ≡ None) × (in_force outs name ≡ None) → AreTied meanings ins outs →
    AreTied (put meanings name meaning) ins outs
plain_tied meanings ins outs name meaning plain none tied wanted = by_test (bytes_eq wanted name) refl where
  by_test : (test : Bool) → bytes_eq wanted name ≡ test → (in_force ins wanted ≡ input_by (listed (put meanings name meaning) wanted)) × (in_force outs wanted ≡ output_by (listed (put meanings name meaning) wanted))
  by_test true here =
      let same = same_name meanings name meaning wanted here in
      let found = put_here meanings name meaning wanted here in
      let neither' = plain_neither meaning plain in
      (ap (in_force ins) same ∙ none.0 ∙ sym neither'.0 ∙ sym (ap input_by found), ap (in_force outs) same ∙ none.1 ∙ sym neither'.1 ∙ sym (ap output_by found))
  by_test false other =
      let found = put_other meanings name meaning wanted other in
      ((tied wanted).0 ∙ sym (ap input_by found), (tied wanted).1 ∙ sym (ap output_by found))

pub input_tied : (meanings : List (Name × Meaning)) (ins outs : Named ℕ) (name : Name) (count : ℕ) → in_force outs name ≡ None → AreTied meanings ins outs → AreTied (put meanings name (Input count)) ((name, count) ∷ ins) outs
input_tied meanings ins outs name count none tied wanted = by_test (bytes_eq wanted name) refl where
  by_test : (test : Bool) → bytes_eq wanted name ≡ test →
      (in_force ((name, count) ∷ ins) wanted ≡ input_by (listed (put meanings name (Input count)) wanted)) × (in_force outs wanted ≡ output_by (listed (put meanings name (Input count)) wanted))
  by_test true here =
      let found = put_here meanings name (Input count) wanted here in (
        ap (λ test. cond test (Some count) (in_force ins wanted)) here ∙ sym (ap input_by found),
        ap (in_force outs) (same_name meanings name (Input count) wanted here) ∙ none ∙ sym (ap output_by found),
      )
  by_test false other =
      let found = put_other meanings name (Input count) wanted other in
      (ap (λ test. cond test (Some count) (in_force ins wanted)) other ∙ (tied wanted).0 ∙ sym (ap input_by found), (tied wanted).1 ∙ sym (ap output_by found))

pub output_tied : (meanings : List (Name × Meaning)) (ins outs : Named ℕ) (name : Name) (count : ℕ) → in_force ins name ≡ None → AreTied meanings ins outs → AreTied (put meanings name (Output count)) ins ((name, count) ∷ outs)
output_tied meanings ins outs name count none tied wanted = by_test (bytes_eq wanted name) refl where
  by_test : (test : Bool) → bytes_eq wanted name ≡ test →
      (in_force ins wanted ≡ input_by (listed (put meanings name (Output count)) wanted)) × (in_force ((name, count) ∷ outs) wanted ≡ output_by (listed (put meanings name (Output count)) wanted))
  by_test true here =
      let found = put_here meanings name (Output count) wanted here in (
        ap (in_force ins) (same_name meanings name (Output count) wanted here) ∙ none ∙ sym (ap input_by found),
        ap (λ test. cond test (Some count) (in_force outs wanted)) here ∙ sym (ap output_by found),
      )
  by_test false other =
      let found = put_other meanings name (Output count) wanted other in
      ((tied wanted).0 ∙ sym (ap input_by found), ap (λ test. cond test (Some count) (in_force outs wanted)) other ∙ (tied wanted).1 ∙ sym (ap output_by found))

-- ---- the first ones

-- they stay where one of another name is put
pub take_put : (count : ℕ) (meanings : List (Name × Meaning)) (name : Name) (meaning : Meaning) → count ≤ length meanings → is_some (listed (take count meanings) name) ≡ false → take count (put meanings name meaning) ≡ take count meanings
take_put zero [] name meaning few new = refl
take_put zero (entry ∷ meanings) name meaning few new = refl
take_put (suc count) [] name meaning few new = absurd (omega (arith, few))
take_put (suc count) (entry ∷ meanings) name meaning few new = by_test (bytes_eq name entry.0) new (take_put count meanings name meaning (omega (arith, few))) where
  by_test : (test : Bool) → is_some (if test then Some entry.1 else listed (take count meanings) name) ≡ false →
      (is_some (listed (take count meanings) name) ≡ false → take count (put meanings name meaning) ≡ take count meanings) →
      take (suc count) (if test then (entry.0, meaning) ∷ meanings else entry ∷ put meanings name meaning) ≡ entry ∷ take count meanings
  by_test true new later = true_is_not_false new
  by_test false new later = ap (λ rest. entry ∷ rest) (later new)

pub longer : (meanings : List (Name × Meaning)) (name : Name) (meaning : Meaning) → length meanings ≤ length (put meanings name meaning)
longer [] name meaning = omega arith
longer (entry ∷ meanings) name meaning = by_test (bytes_eq name entry.0) (longer meanings name meaning) where
  by_test : (test : Bool) → length meanings ≤ length (put meanings name meaning) → length (entry ∷ meanings) ≤ length (if test then (entry.0, meaning) ∷ meanings else entry ∷ put meanings name meaning)
  by_test true later = omega arith
  by_test false later = omega (arith, later)

-- what is not listed is not among the first ones
pub none_taken : (count : ℕ) (meanings : List (Name × Meaning)) (name : Name) → is_some (listed meanings name) ≡ false → is_some (listed (take count meanings) name) ≡ false
none_taken zero [] name new = refl
none_taken zero (entry ∷ meanings) name new = refl
none_taken (suc count) [] name new = refl
none_taken (suc count) (entry ∷ meanings) name new = by_test (bytes_eq name entry.0) new (none_taken count meanings name) where
  by_test : (test : Bool) → is_some (if test then Some entry.1 else listed meanings name) ≡ false → (is_some (listed meanings name) ≡ false → is_some (listed (take count meanings) name) ≡ false) →
      is_some (if test then Some entry.1 else listed (take count meanings) name) ≡ false
  by_test true new later = new
  by_test false new later = later new
