-- What does not stand against a line that is not refused.
use Rattle.std.proofs.Common.{◌≡◌, ℕ, Bool, true, false, ◌||◌, if◌then◌else◌, Option, Some, None, refl, subst}
use Rattle.std.specs.Bool.{⊤}
use Rattle.sd_line.specs.line.Head.{HeadTree}
use Rattle.sd_names.specs.Names.{Names}
use Rattle.sd_refusal.specs.declared.site.Site.{Site}
use Rattle.sd_refusal.specs.NotAForm.{is_no_form}
use Rattle.sd_uses.specs.UnknownName.{has_unknown_name}
use Rattle.sd_refusal.specs.NotAffine.{is_not_affine}
use Rattle.sd_uses.specs.Twice.{declares_twice}
use Rattle.sd_refusal.specs.OverLimit.{is_over_limit}
use Rattle.sd_uses.specs.ShapeMismatch.{has_mismatch}
use Rattle.sd_refusal.specs.BadResolution.{has_bad_resolution}
use Rattle.sd_refusal.specs.Refusals.{refusal}

pub record Passes (names : Names) (site : Site) (head : HeadTree) : Type 0 where
  pub form : is_no_form names site head ≡ false
  pub known : has_unknown_name names site.kind head ≡ false
  pub affine : is_not_affine names site.kind head ≡ false
  pub once : declares_twice names head ≡ false
  pub limited : is_over_limit names site head ≡ false
  pub resolved : has_bad_resolution head ≡ false
  pub matching : has_mismatch names head ≡ false

abbrev IsNone : {A : Type 0} → Option A → Type 0
IsNone None = ⊤
IsNone (Some value) = ⊥

some_is_not_none : {A P : Type 0} (value : A) → Some value ≡ None → P
some_is_not_none value is = absurd (subst (λ o. IsNone o → ⊥) is (λ none. none) tt)

-- a number in a chain is not the answer
not_here : {P : Type 0} (test : Bool) (number : ℕ) (rest : Option ℕ) → (if test then Some number else rest) ≡ None → (test ≡ false → rest ≡ None → P) → P
not_here true number rest is go = some_is_not_none number is
not_here false number rest is go = go refl is

pub passes : (names : Names) (site : Site) (head : HeadTree) → refusal names site head ≡ None → Passes names site head
passes names site head is =
    not_here (is_no_form names site head) 4 _ is (λ form is.
    not_here (has_unknown_name names site.kind head) 5 _ is (λ known is.
    not_here (is_not_affine names site.kind head) 6 _ is (λ affine is.
    not_here (declares_twice names head) 7 _ is (λ once is.
    not_here (is_over_limit names site head) 8 _ is (λ limited is.
    not_here (has_bad_resolution head) 9 _ is (λ resolved is.
    not_here (has_mismatch names head) 10 None is (λ matching is.
    record { form = form; known = known; affine = affine; once = once; limited = limited; resolved = resolved; matching = matching })))))))

abbrev IsTrue : Bool → Type 0
IsTrue true = ⊤
IsTrue false = ⊥

pub true_is_not_false : {P : Type 0} → true ≡ false → P
true_is_not_false is = absurd (subst IsTrue is tt)

pub false_is_not_true : {P : Type 0} → false ≡ true → P
false_is_not_true is = absurd (subst (λ b. IsTrue b → ⊥) is (λ none. none) tt)

-- neither of two holds
pub neither : (a b : Bool) → a || b ≡ false → (a ≡ false) × (b ≡ false)
neither true b is = true_is_not_false is
neither false b is = (refl, is)
