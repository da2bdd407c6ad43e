-- Numbers that are as far apart, in the same order.
use Rattle.std.proofs.Common.{◌≡◌, ℤ, pos, negsuc, ◌-ℤ◌, ◌<ℤ◌, ◌≤ℤ◌, unsigned_abs, nat_eq, false, arith}
use Rattle.std.specs.Ordering.{int_eq}
use Rattle.std.proofs.lemmas.Int.{ints}

negative_alike : (x y : ℤ) → x <ℤ pos 0 → y <ℤ pos 0 → nat_eq (unsigned_abs x) (unsigned_abs y) ≡ int_eq x y
negative_alike (pos a) y below under = grind (arith, ints, below)
negative_alike (negsuc a) (pos b) below under = grind (arith, ints, under)
negative_alike (negsuc a) (negsuc b) below under = grind (arith, ints)

positive_alike : (x y : ℤ) → pos 0 ≤ℤ x → pos 0 ≤ℤ y → nat_eq (unsigned_abs x) (unsigned_abs y) ≡ int_eq x y
positive_alike (pos a) (pos b) above over = grind (arith, ints)
positive_alike (pos a) (negsuc b) above over = grind (arith, ints, over)
positive_alike (negsuc a) y above over = grind (arith, ints, above)

pub below_alike : (a b c d : ℤ) → a <ℤ b → c <ℤ d → nat_eq (unsigned_abs (a -ℤ b)) (unsigned_abs (c -ℤ d)) ≡ int_eq (a -ℤ b) (c -ℤ d)
below_alike a b c d first second =
    let one : (a -ℤ b) <ℤ pos 0 = omega (arith, ints, first) in
    let other : (c -ℤ d) <ℤ pos 0 = omega (arith, ints, second) in
    negative_alike (a -ℤ b) (c -ℤ d) one other

pub above_alike : (a b c d : ℤ) → b ≤ℤ a → d ≤ℤ c → nat_eq (unsigned_abs (a -ℤ b)) (unsigned_abs (c -ℤ d)) ≡ int_eq (a -ℤ b) (c -ℤ d)
above_alike a b c d first second =
    let one : pos 0 ≤ℤ (a -ℤ b) = omega (arith, ints, first) in
    let other : pos 0 ≤ℤ (c -ℤ d) = omega (arith, ints, second) in
    positive_alike (a -ℤ b) (c -ℤ d) one other

pub below_above : (a b c d : ℤ) → a <ℤ b → d ≤ℤ c → int_eq (a -ℤ b) (c -ℤ d) ≡ false
below_above a b c d first second = grind (arith, ints, first, second)

pub above_below : (a b c d : ℤ) → b ≤ℤ a → c <ℤ d → int_eq (a -ℤ b) (c -ℤ d) ≡ false
above_below a b c d first second = grind (arith, ints, first, second)
