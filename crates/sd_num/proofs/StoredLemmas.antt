-- Storing commutes and is associative at each width, and so values may be stored in any order and in parts.
use Rattle.std.proofs.Common.{rules, ℕ, ◌^◌, ◌<◌, ◌≤◌, ◌/◌, ◌-◌, bit_and, bit_or, ◌≡◌, ◌≢◌, ◌⊎◌, inl, inr, ap, sym, ◌∙◌, refl, ℤ, pos, negsuc, ◌+ℤ◌, ◌*ℤ◌, FitsSigned, w32, w64, List, [], ◌∷◌, map, Option, Some, None, IfSome, subst}
use native.Mathlib.Omega.{arith}
use Rattle.std.proofs.Math.IntN.{+ℤ_assoc}
use Rattle.sd_num.proofs.Products.{*ℤ_assoc}
use Rattle.std.specs.Int.Bits.{bit_xor}
use Rattle.std.specs.Int.RustNames.{unsigned_abs}
use Rattle.std.specs.Int.{cast_signed, cast_unsigned, int_min, int_max, int_wrap}
use Rattle.std.proofs.lemmas.Nat.{and_shr, or_shr, xor_shr, and_le_l, or_lt, xor_lt}
use Rattle.std.proofs.lemmas.Int.{ints, fits_signed_mul, int_wrap_fits, int_wrap-add_left, int_wrap-add_right, int_wrap-mul_left, int_wrap-mul_right, SFits-int_wrap}
use Rattle.std.proofs.lemmas.Grind.{common_steps}
use Rattle.std.specs.List.{All, flat_map}
use Rattle.std.specs.List.Sorted.{IsPermutation}
use Rattle.std.proofs.lemmas.List.Elements.{All-nil, All-cons}
use Rattle.std.proofs.lemmas.List.Sums.{fold-append}
use Rattle.sd_num.proofs.FoldLemmas.{fold-permutation}
use Rattle.sd_num.proofs.ResolutionLemmas.{resolved_comm, resolved_assoc, FitsSigned-resolved, small}
use Rattle.sd_num.specs.Width.{wrapped_to, IsElement}
use Rattle.sd_num.specs.Resolution.{resolved, stored, stored_all, identity_of}
use Rattle.sd_num.specs.declared.resolution.Resolution.{Resolution}
use Rattle.sd_num.specs.declared.resolution.Resolution.TheVariants.{Sum, Product, Min, Max, And, Or, Xor, Last}
use Rattle.sd_num.specs.declared.width.Width.{Width}
use Rattle.sd_num.specs.declared.width.Width.TheVariants.{W32, W64}

-- ---- elements of a width

pub wrapped_to-element : (w : Width) (z : ℤ) → IsElement w z → wrapped_to w z ≡ z
wrapped_to-element W32 z fits = int_wrap_fits w32 z fits
wrapped_to-element W64 z fits = int_wrap_fits w64 z fits

pub IsElement-wrapped_to : (w : Width) (z : ℤ) → IsElement w (wrapped_to w z)
IsElement-wrapped_to W32 z = SFits-int_wrap w32 z
IsElement-wrapped_to W64 z = SFits-int_wrap w64 z

pub wrapped_to-twice : (w : Width) (z : ℤ) → wrapped_to w (wrapped_to w z) ≡ wrapped_to w z
wrapped_to-twice w z = wrapped_to-element w (wrapped_to w z) (IsElement-wrapped_to w z)

-- an element of 32 bits is one of 64
widened : (w : Width) (z : ℤ) → IsElement w z → FitsSigned w64 z
widened W32 z fits = grind (arith, fits)
widened W64 z fits = fits

-- ---- the bits of an element of 32

-- the upper 33 bits of an element's 64 are all its sign
abbrev IsSign : ℕ → Type 0
IsSign n = (n ≡ 0) ⊎ (n ≡ 2 ^ 33 - 1)

upper_bits : (a : ℤ) → FitsSigned w32 a → IsSign (cast_unsigned w64 a / 2 ^ 31)
upper_bits (pos n) fits = inl (omega (arith, ints, fits))
upper_bits (negsuc n) fits = inr (omega (arith, ints, fits))

read_back : (n : ℕ) → n < 2 ^ 64 → IsSign (n / 2 ^ 31) → FitsSigned w32 (cast_signed w64 n)
read_back n below (inl e) = grind (arith, below, e)
read_back n below (inr e) = grind (arith, below, e)

-- an operation on bits that makes a sign of two signs makes an element of 32 bits of two
bits_keep : (op : ℕ → ℕ → ℕ) → ((m n : ℕ) → m < 2 ^ 64 → n < 2 ^ 64 → op m n < 2 ^ 64) → ((m n : ℕ) → op m n / 2 ^ 31 ≡ op (m / 2 ^ 31) (n / 2 ^ 31)) → ((m n : ℕ) → IsSign m → IsSign n → IsSign (op m n))
    → (a b : ℤ) → FitsSigned w32 a → FitsSigned w32 b → FitsSigned w32 (cast_signed w64 (op (cast_unsigned w64 a) (cast_unsigned w64 b)))
bits_keep op below upper signs a b p q =
    read_back _ (below _ _ (small a (widened W32 a p)) (small b (widened W32 b q)))
    (subst IsSign (sym (upper (cast_unsigned w64 a) (cast_unsigned w64 b))) (signs _ _ (upper_bits a p) (upper_bits b q)))

and_signs : (m n : ℕ) → IsSign m → IsSign n → IsSign (bit_and m n)
and_signs m n (inl e) (inl f) = inl (ap (λ x. bit_and x n) e ∙ ap (bit_and 0) f)
and_signs m n (inl e) (inr f) = inl (ap (λ x. bit_and x n) e ∙ ap (bit_and 0) f)
and_signs m n (inr e) (inl f) = inl (ap (λ x. bit_and x n) e ∙ ap (bit_and (2 ^ 33 - 1)) f)
and_signs m n (inr e) (inr f) = inr (ap (λ x. bit_and x n) e ∙ ap (bit_and (2 ^ 33 - 1)) f)

or_signs : (m n : ℕ) → IsSign m → IsSign n → IsSign (bit_or m n)
or_signs m n (inl e) (inl f) = inl (ap (λ x. bit_or x n) e ∙ ap (bit_or 0) f)
or_signs m n (inl e) (inr f) = inr (ap (λ x. bit_or x n) e ∙ ap (bit_or 0) f)
or_signs m n (inr e) (inl f) = inr (ap (λ x. bit_or x n) e ∙ ap (bit_or (2 ^ 33 - 1)) f)
or_signs m n (inr e) (inr f) = inr (ap (λ x. bit_or x n) e ∙ ap (bit_or (2 ^ 33 - 1)) f)

xor_signs : (m n : ℕ) → IsSign m → IsSign n → IsSign (bit_xor m n)
xor_signs m n (inl e) (inl f) = inl (ap (λ x. bit_xor x n) e ∙ ap (bit_xor 0) f)
xor_signs m n (inl e) (inr f) = inr (ap (λ x. bit_xor x n) e ∙ ap (bit_xor 0) f)
xor_signs m n (inr e) (inl f) = inr (ap (λ x. bit_xor x n) e ∙ ap (bit_xor (2 ^ 33 - 1)) f)
xor_signs m n (inr e) (inr f) = inl (ap (λ x. bit_xor x n) e ∙ ap (bit_xor (2 ^ 33 - 1)) f)

-- ---- a resolution that keeps to the elements of a width

-- two elements of the width become one
abbrev Keeps : Width → Resolution → Type 0
Keeps w r = (a b : ℤ) → IsElement w a → IsElement w b → IsElement w (resolved r a b)

int_min_keeps : (a b : ℤ) → FitsSigned w32 a → FitsSigned w32 b → FitsSigned w32 (int_min a b)
int_min_keeps a b p q = grind (arith, p, q)

int_max_keeps : (a b : ℤ) → FitsSigned w32 a → FitsSigned w32 b → FitsSigned w32 (int_max a b)
int_max_keeps a b p q = grind (arith, p, q)

module _ (w : Width) (r : Resolution) (keeps : Keeps w r) where
  stored-kept : (a b : ℤ) → stored w (Some r) a b ≡ resolved r (wrapped_to w a) (wrapped_to w b)
  stored-kept a b = wrapped_to-element w _ (keeps (wrapped_to w a) (wrapped_to w b) (IsElement-wrapped_to w a) (IsElement-wrapped_to w b))

  assoc-kept : (a b c : ℤ) → stored w (Some r) (stored w (Some r) a b) c ≡ stored w (Some r) a (stored w (Some r) b c)
  assoc-kept a b c =
      stored-kept (stored w (Some r) a b) c
      ∙ ap (λ x. resolved r x (wrapped_to w c)) (wrapped_to-twice w (resolved r (wrapped_to w a) (wrapped_to w b)) ∙ stored-kept a b)
      ∙ resolved_assoc r _ _ _ (widened w _ (IsElement-wrapped_to w a)) (widened w _ (IsElement-wrapped_to w b)) (widened w _ (IsElement-wrapped_to w c))
      ∙ sym (stored-kept a (stored w (Some r) b c)
      ∙ ap (resolved r (wrapped_to w a)) (wrapped_to-twice w (resolved r (wrapped_to w b) (wrapped_to w c)) ∙ stored-kept b c))

-- ---- sums and products at 32 bits

-- the sum and the product of two elements of 32 bits are elements of 64
sum_fits : (a b : ℤ) → FitsSigned w32 a → FitsSigned w32 b → FitsSigned w64 (a +ℤ b)
sum_fits a b p q = grind (arith, p, q)

size : (a : ℤ) → FitsSigned w32 a → unsigned_abs a ≤ 2 ^ 31
size (pos n) fits = omega (arith, ints, fits)
size (negsuc n) fits = omega (arith, ints, fits)

product_fits : (a b : ℤ) → FitsSigned w32 a → FitsSigned w32 b → FitsSigned w64 (a *ℤ b)
product_fits a b p q = fits_signed_mul w64 a b (2 ^ 31) (2 ^ 31) (size a p) (size b q) (omega arith)

stored-sum : (a b : ℤ) → stored W32 (Some Sum) a b ≡ int_wrap w32 (a +ℤ b)
stored-sum a b =
    ap (int_wrap w32) (int_wrap_fits w64 _ (sum_fits _ _ (SFits-int_wrap w32 a) (SFits-int_wrap w32 b)))
    ∙ int_wrap-add_left w32 a (int_wrap w32 b) ∙ int_wrap-add_right w32 a b

stored-product : (a b : ℤ) → stored W32 (Some Product) a b ≡ int_wrap w32 (a *ℤ b)
stored-product a b =
    ap (int_wrap w32) (int_wrap_fits w64 _ (product_fits _ _ (SFits-int_wrap w32 a) (SFits-int_wrap w32 b)))
    ∙ int_wrap-mul_left w32 a (int_wrap w32 b) ∙ int_wrap-mul_right w32 a b

-- ---- storing through a resolution

pub stored-assoc : (w : Width) (r : Resolution) (a b c : ℤ) → stored w (Some r) (stored w (Some r) a b) c ≡ stored w (Some r) a (stored w (Some r) b c)
stored-assoc W64 r a b c = assoc-kept W64 r (FitsSigned-resolved r) a b c
stored-assoc W32 Sum a b c =
    ap (λ x. stored W32 (Some Sum) x c) (stored-sum a b) ∙ stored-sum (int_wrap w32 (a +ℤ b)) c
    ∙ int_wrap-add_left w32 (a +ℤ b) c ∙ ap (int_wrap w32) (+ℤ_assoc a b c)
    ∙ sym (ap (stored W32 (Some Sum) a) (stored-sum b c) ∙ stored-sum a (int_wrap w32 (b +ℤ c)) ∙ int_wrap-add_right w32 a (b +ℤ c))
stored-assoc W32 Product a b c =
    ap (λ x. stored W32 (Some Product) x c) (stored-product a b) ∙ stored-product (int_wrap w32 (a *ℤ b)) c
    ∙ int_wrap-mul_left w32 (a *ℤ b) c ∙ ap (int_wrap w32) (*ℤ_assoc a b c)
    ∙ sym (ap (stored W32 (Some Product) a) (stored-product b c) ∙ stored-product a (int_wrap w32 (b *ℤ c)) ∙ int_wrap-mul_right w32 a (b *ℤ c))
stored-assoc W32 Min a b c = assoc-kept W32 Min int_min_keeps a b c
stored-assoc W32 Max a b c = assoc-kept W32 Max int_max_keeps a b c
stored-assoc W32 And a b c = assoc-kept W32 And (bits_keep bit_and (λ m n s t. omega (arith, and_le_l m n, s)) (λ m n. and_shr m n 31) and_signs) a b c
stored-assoc W32 Or a b c = assoc-kept W32 Or (bits_keep bit_or (or_lt 64) (λ m n. or_shr m n 31) or_signs) a b c
stored-assoc W32 Xor a b c = assoc-kept W32 Xor (bits_keep bit_xor (xor_lt 64) (λ m n. xor_shr m n 31) xor_signs) a b c
stored-assoc W32 Last a b c = assoc-kept W32 Last (λ x y p q. q) a b c

pub stored-comm : (w : Width) (r : Resolution) (a b : ℤ) → r ≢ Last → stored w (Some r) a b ≡ stored w (Some r) b a
stored-comm w r a b commutes = ap (wrapped_to w) (resolved_comm r (wrapped_to w a) (wrapped_to w b) commutes)

pub stored-exchanges : (w : Width) (r : Resolution) → r ≢ Last → (old a b : ℤ) → stored w (Some r) (stored w (Some r) old a) b ≡ stored w (Some r) (stored w (Some r) old b) a
stored-exchanges w r commutes old a b = stored-assoc w r old a b ∙ ap (stored w (Some r) old) (stored-comm w r a b commutes) ∙ sym (stored-assoc w r old b a)

pub IsElement-stored : (w : Width) (by : Option Resolution) (old new : ℤ) → IsElement w (stored w by old new)
IsElement-stored w None old new = IsElement-wrapped_to w new
IsElement-stored w (Some r) old new = IsElement-wrapped_to w _

-- ---- identities

identity_first : (w : Width) (r : Resolution) (a : ℤ) → IsElement w a → IfSome (identity_of r w) (λ e. resolved r e a ≡ a)
identity_first W32 Sum a p = let q = widened W32 a p in grind (arith, common_steps, q)
identity_first W64 Sum a p = grind (arith, common_steps)
identity_first W32 Product a p = let q = widened W32 a p in grind (arith, common_steps, q)
identity_first W64 Product a p = grind (arith, common_steps)
identity_first W32 Min a p = grind (arith, common_steps)
identity_first W64 Min a p = grind (arith, common_steps)
identity_first W32 Max a p = grind (arith, common_steps)
identity_first W64 Max a p = grind (arith, common_steps)
identity_first W32 And a p = let q = widened W32 a p in grind (arith, common_steps, q)
identity_first W64 And a p = grind (arith, common_steps)
identity_first W32 Or a p = let q = widened W32 a p in grind (arith, common_steps, q)
identity_first W64 Or a p = grind (arith, common_steps)
identity_first W32 Xor a p = let q = widened W32 a p in grind (arith, common_steps, q)
identity_first W64 Xor a p = grind (arith, common_steps)
identity_first w Last a p = tt

-- each identity is an element of its width
identities_fit : (w : Width) (r : Resolution) → IfSome (identity_of r w) (IsElement w)
identities_fit W32 Sum = search rules
identities_fit W64 Sum = search rules
identities_fit W32 Product = search rules
identities_fit W64 Product = search rules
identities_fit W32 Min = search rules
identities_fit W64 Min = search rules
identities_fit W32 Max = search rules
identities_fit W64 Max = search rules
identities_fit W32 And = search rules
identities_fit W64 And = search rules
identities_fit W32 Or = search rules
identities_fit W64 Or = search rules
identities_fit W32 Xor = search rules
identities_fit W64 Xor = search rules
identities_fit w Last = tt

-- what is stored into an identity of the width is the value, wrapped
pub identity-stored : (w : Width) (r : Resolution) (e a : ℤ) → identity_of r w ≡ Some e → stored w (Some r) e a ≡ wrapped_to w a
identity-stored w r e a is =
    ap (λ x. wrapped_to w (resolved r x (wrapped_to w a))) (wrapped_to-element w e (subst (λ o. IfSome o (IsElement w)) is (identities_fit w r)))
    ∙ ap (wrapped_to w) (subst (λ o. IfSome o (λ x. resolved r x (wrapped_to w a) ≡ wrapped_to w a)) is (identity_first w r (wrapped_to w a) (IsElement-wrapped_to w a)))
    ∙ wrapped_to-twice w a

pub identity-changes_nothing : (w : Width) (r : Resolution) → IfSome (identity_of r w) (λ e. (a : ℤ) → IsElement w a → stored w (Some r) e a ≡ a)
identity-changes_nothing w r = by (identity_of r w) refl
  where
    by : (o : Option ℤ) → identity_of r w ≡ o → IfSome o (λ e. (a : ℤ) → IsElement w a → stored w (Some r) e a ≡ a)
    by None is = tt
    by (Some e) is = λ a fits. identity-stored w r e a is ∙ wrapped_to-element w a fits

-- ---- values stored one after another

-- any number may be stored
abbrev IsAny : ℤ → Type 0
IsAny z = z ≡ z

all_any : (values : List ℤ) → All IsAny values
all_any [] = All-nil IsAny
all_any (x ∷ xs) = All-cons IsAny x xs refl (all_any xs)

pub stored_all-permutation : (w : Width) (r : Resolution) → r ≢ Last → (old : ℤ) (values reordered : List ℤ) → IsPermutation values reordered → stored_all w (Some r) old values ≡ stored_all w (Some r) old reordered
stored_all-permutation w r commutes old values reordered same =
    fold-permutation (stored w (Some r)) IsAny (λ a x p q. refl) (λ a x y p q s. stored-exchanges w r commutes a x y) old values reordered refl (all_any values) same

IsElement-stored_all : (w : Width) (r : Resolution) (old : ℤ) (values : List ℤ) → IsElement w old → IsElement w (stored_all w (Some r) old values)
IsElement-stored_all w r old [] fits = fits
IsElement-stored_all w r old (x ∷ xs) fits = IsElement-stored_all w r (stored w (Some r) old x) xs (IsElement-stored w (Some r) old x)

-- what is stored in a of what values make of b is what they make of b stored in a
stored-stored_all : (w : Width) (r : Resolution) (a b : ℤ) (values : List ℤ) → stored w (Some r) a (stored_all w (Some r) b values) ≡ stored_all w (Some r) (stored w (Some r) a b) values
stored-stored_all w r a b [] = refl
stored-stored_all w r a b (x ∷ xs) =
    stored-stored_all w r a (stored w (Some r) b x) xs
    ∙ ap (λ z. stored_all w (Some r) z xs) (sym (stored-assoc w r a b x))

unlike_last : (w : Width) (r : Resolution) (e : ℤ) → identity_of r w ≡ Some e → r ≢ Last
unlike_last w r e is last = cc (ap (λ x. identity_of x w) last)

-- a partial result, which starts at the identity e, stands for all the values in it
pub stored-partial : (w : Width) (r : Resolution) (e old : ℤ) (values : List ℤ) → identity_of r w ≡ Some e → IsElement w old → stored w (Some r) old (stored_all w (Some r) e values) ≡ stored_all w (Some r) old values
stored-partial w r e old values is fits =
    stored-stored_all w r old e values
    ∙ ap (λ z. stored_all w (Some r) z values) (stored-comm w r old e (unlike_last w r e is) ∙ identity-stored w r e old is ∙ wrapped_to-element w old fits)

-- partial results are stored one after another as all their values are
pub stored_all-partials : (w : Width) (r : Resolution) (e old : ℤ) (parts : List (List ℤ)) → identity_of r w ≡ Some e → IsElement w old → stored_all w (Some r) old (map (stored_all w (Some r) e) parts) ≡ stored_all w (Some r) old (flat_map (λ values. values) parts)
stored_all-partials w r e old [] is fits = refl
stored_all-partials w r e old (values ∷ parts) is fits =
    ap (λ z. stored_all w (Some r) z (map (stored_all w (Some r) e) parts)) (stored-partial w r e old values is fits)
    ∙ stored_all-partials w r e (stored_all w (Some r) old values) parts is (IsElement-stored_all w r old values fits)
    ∙ sym (fold-append (stored w (Some r)) old values (flat_map (λ values. values) parts))
