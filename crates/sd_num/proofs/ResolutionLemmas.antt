-- Resolving commutes and is associative, and so values may be resolved in any order and in parts.
use Rattle.std.proofs.Common.{rules, ℕ, ◌^◌, ◌<◌, ◌/◌, ◌%◌, bit_and, bit_or, ◌≡◌, ◌≢◌, ap, sym, ◌∙◌, refl, ℤ, ◌+ℤ◌, ◌*ℤ◌, FitsSigned, w64, List, [], ◌∷◌, ◌++◌, map, Some, IfSome, subst}
use native.Mathlib.Omega.{arith}
use Rattle.std.proofs.Math.IntN.{+ℤ_comm, *ℤ_comm, +ℤ_assoc}
use Rattle.sd_num.proofs.Products.{*ℤ_assoc}
use Rattle.std.proofs.Math.Arith.{bin_ind}
use Rattle.std.specs.Int.Bits.{bit_xor, xor_assoc}
use Rattle.std.specs.Int.{cast_signed, cast_unsigned, int_min, int_max}
use Rattle.std.proofs.lemmas.Nat.{and_comm, or_comm, xor_comm, and_le_l, and_assoc, or_shr, or_mod, or_lt, xor_lt}
use Rattle.std.proofs.lemmas.Int.{clamps, ints, of_z-to_z, int_wrap-add_left, int_wrap-add_right, int_wrap-mul_left, int_wrap-mul_right, SFits-int_wrap}
use Rattle.std.proofs.Math.Facts.{sfits_to_z}
use Rattle.std.specs.List.{All, flat_map}
use Rattle.std.proofs.lemmas.Grind.{common_steps}
use Rattle.std.specs.List.Sorted.{IsPermutation}
use Rattle.std.proofs.lemmas.List.Elements.{All-head, All-tail}
use Rattle.std.proofs.lemmas.List.Sums.{fold-append}
use Rattle.sd_num.proofs.FoldLemmas.{fold-permutation}
use Rattle.sd_num.specs.Wrapped.{wrapped}
use Rattle.sd_num.specs.Resolution.{resolved, resolved_all, identity_of}
use Rattle.sd_num.specs.declared.resolution.Resolution.{Resolution}
use Rattle.sd_num.specs.declared.width.Width.TheVariants.{W64}
use Rattle.sd_num.specs.declared.resolution.Resolution.TheVariants.{Sum, Product, Min, Max, And, Or, Xor, Last}

int_min_comm : (a b : ℤ) → int_min a b ≡ int_min b a
int_min_comm a b = grind (arith, ints, clamps)

int_max_comm : (a b : ℤ) → int_max a b ≡ int_max b a
int_max_comm a b = search (rules, ints)

pub resolved_comm : (r : Resolution) (a b : ℤ) → r ≢ Last → resolved r a b ≡ resolved r b a
resolved_comm Sum a b commutes = ap wrapped (+ℤ_comm a b)
resolved_comm Product a b commutes = ap wrapped (*ℤ_comm a b)
resolved_comm Min a b commutes = int_min_comm a b
resolved_comm Max a b commutes = int_max_comm a b
resolved_comm And a b commutes = ap (cast_signed w64) (and_comm (cast_unsigned w64 a) (cast_unsigned w64 b))
resolved_comm Or a b commutes = ap (cast_signed w64) (or_comm (cast_unsigned w64 a) (cast_unsigned w64 b))
resolved_comm Xor a b commutes = ap (cast_signed w64) (xor_comm (cast_unsigned w64 a) (cast_unsigned w64 b))
resolved_comm Last a b commutes = elim (commutes refl) [ ]

-- ---- the bits of an element

pub small : (a : ℤ) → FitsSigned w64 a → cast_unsigned w64 a < 2 ^ 64
small a fits = search rules

same_digits : (m n : ℕ) → m / 2 ≡ n / 2 → m % 2 ≡ n % 2 → m ≡ n
same_digits m n halves digits = omega (arith, halves, digits)

digit_or_assoc : (a b c : ℕ) → a < 2 → b < 2 → c < 2 → bit_or (bit_or a b) c ≡ bit_or a (bit_or b c)
digit_or_assoc a b c p q r = grind (arith, p, q, r)

or_assoc : (a b c : ℕ) → bit_or (bit_or a b) c ≡ bit_or a (bit_or b c)
or_assoc =
    bin_ind (λ n. (b c : ℕ) → bit_or (bit_or n b) c ≡ bit_or n (bit_or b c)) (λ b c. refl)
    (λ n before b c. same_digits _ _
    (or_shr (bit_or n b) c 1 ∙ ap (λ x. bit_or x (c / 2)) (or_shr n b 1) ∙ before (b / 2) (c / 2)
    ∙ sym (or_shr n (bit_or b c) 1 ∙ ap (bit_or (n / 2)) (or_shr b c 1)))
    (or_mod (bit_or n b) c 1 ∙ ap (λ x. bit_or x (c % 2)) (or_mod n b 1)
    ∙ digit_or_assoc (n % 2) (b % 2) (c % 2) (omega arith) (omega arith) (omega arith)
    ∙ sym (or_mod n (bit_or b c) 1 ∙ ap (bit_or (n % 2)) (or_mod b c 1))))

-- an operation on bits that stays below 2 ^ 64 and is associative is so on elements
bits_assoc : (op : ℕ → ℕ → ℕ) → ((m n : ℕ) → m < 2 ^ 64 → n < 2 ^ 64 → op m n < 2 ^ 64) → ((l m n : ℕ) → op (op l m) n ≡ op l (op m n)) → (l m n : ℕ) → l < 2 ^ 64 → m < 2 ^ 64 → n < 2 ^ 64
    → cast_signed w64 (op (cast_unsigned w64 (cast_signed w64 (op l m))) n) ≡ cast_signed w64 (op l (cast_unsigned w64 (cast_signed w64 (op m n))))
bits_assoc op below assoc l m n p q r =
    ap (λ x. cast_signed w64 (op x n)) (of_z-to_z w64 (op l m) (below l m p q))
    ∙ ap (cast_signed w64) (assoc l m n)
    ∙ sym (ap (λ x. cast_signed w64 (op l x)) (of_z-to_z w64 (op m n) (below m n q r)))

int_min_assoc : (a b c : ℤ) → int_min (int_min a b) c ≡ int_min a (int_min b c)
int_min_assoc a b c = grind (arith, ints, clamps)

int_max_assoc : (a b c : ℤ) → int_max (int_max a b) c ≡ int_max a (int_max b c)
int_max_assoc a b c = grind (arith, ints, clamps)

pub resolved_assoc : (r : Resolution) (a b c : ℤ) → FitsSigned w64 a → FitsSigned w64 b → FitsSigned w64 c → resolved r (resolved r a b) c ≡ resolved r a (resolved r b c)
resolved_assoc Sum a b c p q r = int_wrap-add_left w64 (a +ℤ b) c ∙ ap wrapped (+ℤ_assoc a b c) ∙ sym (int_wrap-add_right w64 a (b +ℤ c))
resolved_assoc Product a b c p q r = int_wrap-mul_left w64 (a *ℤ b) c ∙ ap wrapped (*ℤ_assoc a b c) ∙ sym (int_wrap-mul_right w64 a (b *ℤ c))
resolved_assoc Min a b c p q r = int_min_assoc a b c
resolved_assoc Max a b c p q r = int_max_assoc a b c
resolved_assoc And a b c p q r = bits_assoc bit_and (λ m n s t. omega (arith, and_le_l m n, s)) (λ l m n. and_assoc n l m) _ _ _ (small a p) (small b q) (small c r)
resolved_assoc Or a b c p q r = bits_assoc bit_or (or_lt 64) or_assoc _ _ _ (small a p) (small b q) (small c r)
resolved_assoc Xor a b c p q r = bits_assoc bit_xor (xor_lt 64) xor_assoc _ _ _ (small a p) (small b q) (small c r)
resolved_assoc Last a b c p q r = refl

-- ---- values resolved one after another

-- bits below 2 ^ 64 read as an element
bits_fit : (n : ℕ) → n < 2 ^ 64 → FitsSigned w64 (cast_signed w64 n)
bits_fit n below = sfits_to_z (record { fits = below })

-- the lesser and the greater of two elements are elements
int_min_fits : (a b : ℤ) → FitsSigned w64 a → FitsSigned w64 b → FitsSigned w64 (int_min a b)
int_min_fits a b p q = grind (arith, p, q)

int_max_fits : (a b : ℤ) → FitsSigned w64 a → FitsSigned w64 b → FitsSigned w64 (int_max a b)
int_max_fits a b p q = grind (arith, p, q)

-- two elements become an element
pub FitsSigned-resolved : (r : Resolution) (a b : ℤ) → FitsSigned w64 a → FitsSigned w64 b → FitsSigned w64 (resolved r a b)
FitsSigned-resolved Sum a b p q = SFits-int_wrap w64 (a +ℤ b)
FitsSigned-resolved Product a b p q = SFits-int_wrap w64 (a *ℤ b)
FitsSigned-resolved Min a b p q = int_min_fits a b p q
FitsSigned-resolved Max a b p q = int_max_fits a b p q
FitsSigned-resolved And a b p q = bits_fit _ (omega (arith, and_le_l (cast_unsigned w64 a) (cast_unsigned w64 b), small a p))
FitsSigned-resolved Or a b p q = bits_fit _ (or_lt 64 _ _ (small a p) (small b q))
FitsSigned-resolved Xor a b p q = bits_fit _ (xor_lt 64 _ _ (small a p) (small b q))
FitsSigned-resolved Last a b p q = q

-- and so do any number of elements
pub FitsSigned-resolved_all : (r : Resolution) (old : ℤ) (values : List ℤ) → FitsSigned w64 old → All (FitsSigned w64) values → FitsSigned w64 (resolved_all r old values)
FitsSigned-resolved_all r old [] p h = p
FitsSigned-resolved_all r old (x ∷ xs) p h = FitsSigned-resolved_all r (resolved r old x) xs (FitsSigned-resolved r old x p (All-head (FitsSigned w64) x xs h)) (All-tail (FitsSigned w64) x xs h)

-- two new values may be exchanged
resolved_exchanges : (r : Resolution) → r ≢ Last → (a x y : ℤ) → FitsSigned w64 a → FitsSigned w64 x → FitsSigned w64 y → resolved r (resolved r a x) y ≡ resolved r (resolved r a y) x
resolved_exchanges r commutes a x y p q s = resolved_assoc r a x y p q s ∙ ap (resolved r a) (resolved_comm r x y commutes) ∙ sym (resolved_assoc r a y x p s q)

-- values resolved one after another give the same in every order
pub resolved_all-permutation : (r : Resolution) (old : ℤ) (values reordered : List ℤ) → r ≢ Last → FitsSigned w64 old → All (FitsSigned w64) values → IsPermutation values reordered → resolved_all r old values ≡ resolved_all r old reordered
resolved_all-permutation r old values reordered commutes = fold-permutation (resolved r) (FitsSigned w64) (FitsSigned-resolved r) (resolved_exchanges r commutes) old values reordered

-- and may be taken part by part
pub resolved_all-append : (r : Resolution) (old : ℤ) (first second : List ℤ) → resolved_all r old (first ++ second) ≡ resolved_all r (resolved_all r old first) second
resolved_all-append r old first second = fold-append (resolved r) old first second

-- what values make of b, resolved with a, is what they make of a and b resolved
pub resolved-resolved_all : (r : Resolution) (a b : ℤ) (values : List ℤ) → FitsSigned w64 a → FitsSigned w64 b → All (FitsSigned w64) values → resolved r a (resolved_all r b values) ≡ resolved_all r (resolved r a b) values
resolved-resolved_all r a b [] p q h = refl
resolved-resolved_all r a b (x ∷ xs) p q h =
    let s = All-head (FitsSigned w64) x xs h in
    resolved-resolved_all r a (resolved r b x) xs p (FitsSigned-resolved r b x q s) (All-tail (FitsSigned w64) x xs h)
    ∙ ap (λ z. resolved_all r z xs) (sym (resolved_assoc r a b x p q s))

-- the identity changes nothing where it is the old one
identity_first : (r : Resolution) (a : ℤ) → FitsSigned w64 a → IfSome (identity_of r W64) (λ e. resolved r e a ≡ a)
identity_first Sum a p = grind (arith, common_steps)
identity_first Product a p = grind (arith, common_steps)
identity_first Min a p = grind (arith, common_steps)
identity_first Max a p = grind (arith, common_steps)
identity_first And a p = grind (arith, common_steps)
identity_first Or a p = grind (arith, common_steps)
identity_first Xor a p = grind (arith, common_steps)
identity_first Last a p = tt

-- the last one has no identity
unlike_last : (r : Resolution) (e : ℤ) → identity_of r W64 ≡ Some e → r ≢ Last
unlike_last r e is last = cc (ap (λ x. identity_of x W64) last)

-- the identity changes nothing where it is the new one
pub resolved-identity : (r : Resolution) (e a : ℤ) → identity_of r W64 ≡ Some e → FitsSigned w64 a → resolved r a e ≡ a
resolved-identity r e a is p = resolved_comm r a e (unlike_last r e is) ∙ subst (λ o. IfSome o (λ x. resolved r x a ≡ a)) is (identity_first r a p)

-- each identity is an element
identities_fit : (r : Resolution) → IfSome (identity_of r W64) (FitsSigned w64)
identities_fit Sum = search rules
identities_fit Product = search rules
identities_fit Min = search rules
identities_fit Max = search rules
identities_fit And = search rules
identities_fit Or = search rules
identities_fit Xor = search rules
identities_fit Last = tt

pub FitsSigned-identity : (r : Resolution) (e : ℤ) → identity_of r W64 ≡ Some e → FitsSigned w64 e
FitsSigned-identity r e is = subst (λ o. IfSome o (FitsSigned w64)) is (identities_fit r)

-- a partial result, which starts at the identity e, stands for all the values in it
pub resolved-partial : (r : Resolution) (e old : ℤ) (values : List ℤ) → identity_of r W64 ≡ Some e → FitsSigned w64 old → All (FitsSigned w64) values → resolved r old (resolved_all r e values) ≡ resolved_all r old values
resolved-partial r e old values is p h =
    resolved-resolved_all r old e values p (FitsSigned-identity r e is) h
    ∙ ap (λ z. resolved_all r z values) (resolved-identity r e old is p)

-- partial results are resolved one after another as all their values are
pub resolved_all-partials : (r : Resolution) (e old : ℤ) (parts : List (List ℤ)) → identity_of r W64 ≡ Some e → FitsSigned w64 old → All (All (FitsSigned w64)) parts → resolved_all r old (map (resolved_all r e) parts) ≡ resolved_all r old (flat_map (λ values. values) parts)
resolved_all-partials r e old [] is p h = refl
resolved_all-partials r e old (values ∷ parts) is p h =
    let fit = All-head (All (FitsSigned w64)) values parts h in
    ap (λ z. resolved_all r z (map (resolved_all r e) parts)) (resolved-partial r e old values is p fit)
    ∙ resolved_all-partials r e (resolved_all r old values) parts is (FitsSigned-resolved_all r old values p fit) (All-tail (All (FitsSigned w64)) values parts h)
    ∙ sym (resolved_all-append r old values (flat_map (λ values. values) parts))
