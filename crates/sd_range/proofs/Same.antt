-- Whether two lists of terms are one.
use Rattle.std.proofs.Common.{◌≡◌, ℕ, ℤ, List, ◌&&◌, nat_eq, ap}
use Rattle.std.specs.Bool.{Decides}
use Rattle.std.specs.Ordering.{int_eq}
use Rattle.std.proofs.lemmas.Bool.Decides.{Decides-eqb, Decides-int_eq, Decides-and, Decides-like}
use Rattle.sd_range.specs.declared.affine.Affine.{Affine}
use lib.Pointwise.{pointwise, pointwise_decides}

-- two terms are one where their variables and their coefficients are
term_decides : (a b : ℕ × ℤ) → Decides (nat_eq a.0 b.0 && int_eq a.1 b.1) (a ≡ b)
term_decides (v, m) (w, n) =
    Decides-like (nat_eq v w && int_eq m n)
    (λ parts. cc)
    (λ same. (ap (λ (term : ℕ × ℤ). term.0) same, ap (λ (term : ℕ × ℤ). term.1) same))
    (Decides-and (nat_eq v w) (int_eq m n) (Decides-eqb v w) (Decides-int_eq m n))

-- two lists of terms are one where each two terms are
pub terms_decide : (xs ys : List (ℕ × ℤ)) → Decides (pointwise (λ x y. nat_eq x.0 y.0 && int_eq x.1 y.1) xs ys) (xs ≡ ys)
terms_decide = pointwise_decides term_decides

-- two expressions are one where their constants and their terms are
pub same_parts : (a b : Affine) → a.constant ≡ b.constant → a.terms ≡ b.terms → a ≡ b
same_parts a b constant terms = λ i. record { constant = constant i; terms = terms i }
