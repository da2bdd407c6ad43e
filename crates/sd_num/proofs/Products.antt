-- The product of whole numbers is associative, and it distributes over the sum.
use Rattle.std.proofs.Common.{ℕ, zero, suc, ◌*◌, ℤ, pos, negsuc, neg_ℤ, ◌*ℤ◌, ◌≡◌, ap, sym, ◌∙◌, ◌+ℤ◌, ◌-ℤ◌, arith}
use Rattle.std.proofs.lemmas.Int.{ints}
use Rattle.std.proofs.Math.Nat.{mul_assoc}
use Rattle.std.proofs.Math.IntN.{suc_ℤ, pred_ℤ, +ℤ_idl, zero-*ℤ, suc_ℤ-+ℤ, pred_ℤ-+ℤ, suc_ℤ-*ℤ, pred_ℤ-*ℤ, *ℤ_comm, *ℤ-zero, *ℤ-negsuc, pos-*ℤ-pos, neg_ℤ-neg_ℤ}

-- a sign goes out of the second factor
times_neg : (a x : ℤ) → a *ℤ neg_ℤ x ≡ neg_ℤ (a *ℤ x)
times_neg a (pos zero) = *ℤ-zero a ∙ sym (ap neg_ℤ (*ℤ-zero a))
times_neg a (pos (suc n)) = *ℤ-negsuc a n
times_neg a (negsuc n) = sym (neg_ℤ-neg_ℤ (a *ℤ pos (suc n))) ∙ ap neg_ℤ (sym (*ℤ-negsuc a n))

-- a sign goes out of the first factor
neg_times : (x a : ℤ) → neg_ℤ x *ℤ a ≡ neg_ℤ (x *ℤ a)
neg_times x a = *ℤ_comm (neg_ℤ x) a ∙ times_neg a x ∙ ap neg_ℤ (*ℤ_comm a x)

-- the order in which three numbers are multiplied does not matter
abbrev IsAssoc : ℤ → ℤ → ℤ → Type 0
IsAssoc a b c = (a *ℤ b) *ℤ c ≡ a *ℤ (b *ℤ c)

-- it does not matter with a sign more at the third
at_third : (a b c : ℤ) → IsAssoc a b c → IsAssoc a b (neg_ℤ c)
at_third a b c h = times_neg (a *ℤ b) c ∙ ap neg_ℤ h ∙ sym (ap (λ x. a *ℤ x) (times_neg b c) ∙ times_neg a (b *ℤ c))

-- nor at the second
at_second : (a b c : ℤ) → IsAssoc a b c → IsAssoc a (neg_ℤ b) c
at_second a b c h = ap (λ x. x *ℤ c) (times_neg a b) ∙ neg_times (a *ℤ b) c ∙ ap neg_ℤ h ∙ sym (ap (λ x. a *ℤ x) (neg_times b c) ∙ times_neg a (b *ℤ c))

-- nor at the first
at_first : (a b c : ℤ) → IsAssoc a b c → IsAssoc (neg_ℤ a) b c
at_first a b c h = ap (λ x. x *ℤ c) (neg_times a b) ∙ neg_times (a *ℤ b) c ∙ ap neg_ℤ h ∙ sym (neg_times a (b *ℤ c))

-- it does not matter for three naturals
naturals : (a b c : ℕ) → IsAssoc (pos a) (pos b) (pos c)
naturals a b c =
    ap (λ x. x *ℤ pos c) (pos-*ℤ-pos a b) ∙ pos-*ℤ-pos (a * b) c ∙ ap pos (mul_assoc a b c)
    ∙ sym (ap (λ x. pos a *ℤ x) (pos-*ℤ-pos b c) ∙ pos-*ℤ-pos a (b * c))

-- nor for two and a whole number
with_third : (a b : ℕ) (c : ℤ) → IsAssoc (pos a) (pos b) c
with_third a b (pos c) = naturals a b c
with_third a b (negsuc c) = at_third (pos a) (pos b) (pos (suc c)) (naturals a b (suc c))

-- nor for one and two whole numbers
with_second : (a : ℕ) (b c : ℤ) → IsAssoc (pos a) b c
with_second a (pos b) c = with_third a b c
with_second a (negsuc b) c = at_second (pos a) (pos (suc b)) c (with_third a (suc b) c)

-- nor for three whole numbers
pub *ℤ_assoc : (a b c : ℤ) → (a *ℤ b) *ℤ c ≡ a *ℤ (b *ℤ c)
*ℤ_assoc (pos a) b c = with_second a b c
*ℤ_assoc (negsuc a) b c = at_first (pos (suc a)) b c (with_second (suc a) b c)

-- the last two of three numbers change places
regrouped : (a b c : ℤ) → (a +ℤ b) +ℤ c ≡ (a +ℤ c) +ℤ b
regrouped a b c = omega (arith, ints)

-- the product with a sum of zero and a number
with_zero : (b x : ℤ) → (pos zero +ℤ b) *ℤ x ≡ (pos zero *ℤ x) +ℤ (b *ℤ x)
with_zero b x = ap (λ s. s *ℤ x) (+ℤ_idl b) ∙ sym (ap (λ z. z +ℤ (b *ℤ x)) (zero-*ℤ x) ∙ +ℤ_idl (b *ℤ x))

-- the product with a sum, and with one more
one_more : (a b x : ℤ) → (a +ℤ b) *ℤ x ≡ (a *ℤ x) +ℤ (b *ℤ x) → (suc_ℤ a +ℤ b) *ℤ x ≡ (suc_ℤ a *ℤ x) +ℤ (b *ℤ x)
one_more a b x h =
    ap (λ s. s *ℤ x) (suc_ℤ-+ℤ a b) ∙ suc_ℤ-*ℤ (a +ℤ b) x ∙ ap (λ s. s +ℤ x) h ∙ regrouped (a *ℤ x) (b *ℤ x) x ∙ ap (λ s. s +ℤ (b *ℤ x)) (sym (suc_ℤ-*ℤ a x))

-- and with one less
one_less : (a b x : ℤ) → (a +ℤ b) *ℤ x ≡ (a *ℤ x) +ℤ (b *ℤ x) → (pred_ℤ a +ℤ b) *ℤ x ≡ (pred_ℤ a *ℤ x) +ℤ (b *ℤ x)
one_less a b x h =
    ap (λ s. s *ℤ x) (pred_ℤ-+ℤ a b) ∙ pred_ℤ-*ℤ (a +ℤ b) x ∙ ap (λ s. s -ℤ x) h ∙ regrouped (a *ℤ x) (b *ℤ x) (neg_ℤ x) ∙ ap (λ s. s +ℤ (b *ℤ x)) (sym (pred_ℤ-*ℤ a x))

-- the product distributes over the sum
pub *ℤ_distrib : (a b x : ℤ) → (a +ℤ b) *ℤ x ≡ (a *ℤ x) +ℤ (b *ℤ x)
*ℤ_distrib (pos zero) b x = with_zero b x
*ℤ_distrib (pos (suc n)) b x = one_more (pos n) b x (*ℤ_distrib (pos n) b x)
*ℤ_distrib (negsuc zero) b x = one_less (pos zero) b x (with_zero b x)
*ℤ_distrib (negsuc (suc n)) b x = one_less (negsuc n) b x (*ℤ_distrib (negsuc n) b x)

-- the product distributes over the sum, from the left
pub *ℤ_distrib_left : (k a b : ℤ) → k *ℤ (a +ℤ b) ≡ (k *ℤ a) +ℤ (k *ℤ b)
*ℤ_distrib_left k a b =
    *ℤ_comm k (a +ℤ b) ∙ *ℤ_distrib a b k ∙ ap (λ x. x +ℤ (b *ℤ k)) (*ℤ_comm a k) ∙ ap (λ x. (k *ℤ a) +ℤ x) (*ℤ_comm b k)
