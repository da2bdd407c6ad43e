-- The least of the numbers that stand against a head.
use Rattle.std.proofs.Common.{◌≡◌, ◌≤◌, ℕ, suc, Bool, true, false, ◌||◌, ◌&&◌, nat_eq, if◌then◌else◌, Option, Some, None, refl, sym, ◌∙◌, subst, arith}
use Rattle.std.specs.Bool.{⊤}
use Rattle.std.proofs.lemmas.Bool.{eqb-true, eq-eqb}
use Rattle.sd_line.specs.line.Head.{HeadTree}
use Rattle.sd_names.specs.Names.{Names}
use Rattle.sd_refusal.specs.declared.site.Site.{Site}
use Rattle.sd_refusal.specs.NotAForm.{is_no_form}
use Rattle.sd_uses.specs.UnknownName.{has_unknown_name}
use Rattle.sd_refusal.specs.NotAffine.{is_not_affine}
use Rattle.sd_uses.specs.Twice.{declares_twice}
use Rattle.sd_refusal.specs.BadResolution.{has_bad_resolution}
use Rattle.sd_refusal.specs.OverLimit.{is_over_limit}
use Rattle.sd_uses.specs.ShapeMismatch.{has_mismatch}
use Rattle.sd_refusal.specs.Refusals.{refusal}
use Rattle.sd_read.specs.decided.Standing.{IsLeast, stands_against_head}

abbrev IsFalse : Bool → Type 0
IsFalse true = ⊥
IsFalse false = ⊤

pub never : {P : Type 0} → false ≡ true → P
never is = absurd (subst IsFalse is tt)

-- no number stands, or the least that does is this
abbrev pub Agrees : Option ℕ → (ℕ → Bool) → Type 0
Agrees None stands = (n : ℕ) → stands n ≡ false
Agrees (Some n) stands = IsLeast stands n

-- the numbers that stand are from this one
abbrev pub From : ℕ → (ℕ → Bool) → Type 0
From low stands = (n : ℕ) → stands n ≡ true → low ≤ n

abbrev numbered : ℕ → Bool → ℕ → Bool
numbered k test n = nat_eq n k && test

one_or : (a b : Bool) → a ≡ true → a || b ≡ true
one_or true b is = refl
one_or false b is = never is

other_or : (a b : Bool) → b ≡ true → a || b ≡ true
other_or true b is = refl
other_or false b is = is

pub neither_or : (a b : Bool) → a ≡ false → b ≡ false → a || b ≡ false
neither_or true b one other = never (sym one)
neither_or false b one other = other

pub by_or : {P : Type 0} (a b : Bool) → a || b ≡ true → (a ≡ true → P) → (b ≡ true → P) → P
by_or true b is first second = first refl
by_or false b is first second = second is

and_true : (a : Bool) → a && true ≡ a
and_true true = refl
and_true false = refl

and_false : (a : Bool) → a && false ≡ false
and_false true = refl
and_false false = refl

one_is : (k n : ℕ) (test : Bool) → numbered k test n ≡ true → n ≡ k
one_is k n true is = eqb-true n k (sym (and_true (nat_eq n k)) ∙ is)
one_is k n false is = never (sym (and_false (nat_eq n k)) ∙ is)

at_or_above : (k n : ℕ) → n ≡ k → k ≤ n
at_or_above k n is = grind arith

above : (k n : ℕ) → suc k ≤ n → k ≤ n
above k n is = grind arith

pub from_more : (k : ℕ) (test : Bool) (others : ℕ → Bool) → From (suc k) others → From k (λ n. numbered k test n || others n)
from_more k test others from n is =
    by_or (numbered k test n) (others n) is (λ one. at_or_above k n (one_is k n test one)) (λ other. above k n (from n other))

-- one more number before those that stand
pub agrees_more : (k : ℕ) (test : Bool) (rest : Option ℕ) (others : ℕ → Bool) → From (suc k) others → Agrees rest others →
    Agrees (if test then Some k else rest) (λ n. numbered k test n || others n)
agrees_more k true rest others from agree = (
  one_or (nat_eq k k && true) (others k) (and_true (nat_eq k k) ∙ eq-eqb k k refl),
  from_more k true others from,
)
agrees_more k false None others from agree = λ n. neither_or (nat_eq n k && false) (others n) (and_false (nat_eq n k)) (agree n)
agrees_more k false (Some least) others from agree = (
  other_or (nat_eq least k && false) (others least) agree.0,
  λ n is. agree.1 n (by_or (nat_eq n k && false) (others n) is (λ one. never (sym (and_false (nat_eq n k)) ∙ one)) (λ other. other)),
)

-- the last of the numbers
from_last : (k : ℕ) (test : Bool) → From k (numbered k test)
from_last k test n is = at_or_above k n (one_is k n test is)

agrees_last : (k : ℕ) (test : Bool) → Agrees (if test then Some k else None) (numbered k test)
agrees_last k true = (and_true (nat_eq k k) ∙ eq-eqb k k refl, from_last k true)
agrees_last k false = λ n. and_false (nat_eq n k)

regrouped : (a b c d e f g : Bool) → a || (b || (c || (d || (e || (f || g))))) ≡ a || b || c || d || e || f || g
regrouped true b c d e f g = refl
regrouped false true c d e f g = refl
regrouped false false true d e f g = refl
regrouped false false false true e f g = refl
regrouped false false false false true f g = refl
regrouped false false false false false true g = refl
regrouped false false false false false false g = refl

pub agrees_same : (least : Option ℕ) (one two : ℕ → Bool) → ((n : ℕ) → one n ≡ two n) → Agrees least one → Agrees least two
agrees_same None one two same agree = λ n. sym (same n) ∙ agree n
agrees_same (Some least) one two same agree = (sym (same least) ∙ agree.0, λ n is. agree.1 n (same n ∙ is))

from_same : (low : ℕ) (one two : ℕ → Bool) → ((n : ℕ) → one n ≡ two n) → From low one → From low two
from_same low one two same from n is = from n (same n ∙ is)

abbrev tested : (a b c d e f g : Bool) → ℕ → Bool
tested a b c d e f g n = nat_eq n 4 && a || nat_eq n 5 && b || nat_eq n 6 && c || nat_eq n 7 && d || nat_eq n 8 && e || nat_eq n 9 && f || nat_eq n 10 && g

by_tests : (a b c d e f g : Bool) →
    Agrees (if a then Some 4 else if b then Some 5 else if c then Some 6 else if d then Some 7 else if e then Some 8 else if f then Some 9 else if g then Some 10 else None) (tested a b c d e f g)
    × From 4 (tested a b c d e f g)
by_tests a b c d e f g =
    let s10 : ℕ → Bool = numbered 10 g in
    let s9 : ℕ → Bool = λ n. numbered 9 f n || s10 n in
    let s8 : ℕ → Bool = λ n. numbered 8 e n || s9 n in
    let s7 : ℕ → Bool = λ n. numbered 7 d n || s8 n in
    let s6 : ℕ → Bool = λ n. numbered 6 c n || s7 n in
    let s5 : ℕ → Bool = λ n. numbered 5 b n || s6 n in
    let s4 : ℕ → Bool = λ n. numbered 4 a n || s5 n in
    let r10 : Option ℕ = if g then Some 10 else None in
    let r9 : Option ℕ = if f then Some 9 else r10 in
    let r8 : Option ℕ = if e then Some 8 else r9 in
    let r7 : Option ℕ = if d then Some 7 else r8 in
    let r6 : Option ℕ = if c then Some 6 else r7 in
    let r5 : Option ℕ = if b then Some 5 else r6 in
    let f10 : From 10 s10 = from_last 10 g in
    let f9 : From 9 s9 = from_more 9 f s10 f10 in
    let f8 : From 8 s8 = from_more 8 e s9 f9 in
    let f7 : From 7 s7 = from_more 7 d s8 f8 in
    let f6 : From 6 s6 = from_more 6 c s7 f7 in
    let f5 : From 5 s5 = from_more 5 b s6 f6 in
    let same : (n : ℕ) → s4 n ≡ tested a b c d e f g n = λ n. regrouped (numbered 4 a n) (numbered 5 b n) (numbered 6 c n) (numbered 7 d n) (numbered 8 e n) (numbered 9 f n) (numbered 10 g n) in
    let agree : Agrees (if a then Some 4 else r5) s4 =
    agrees_more 4 a r5 s5 f5 (agrees_more 5 b r6 s6 f6 (agrees_more 6 c r7 s7 f7 (agrees_more 7 d r8 s8 f8 (agrees_more 8 e r9 s9 f9
    (agrees_more 9 f r10 s10 f10 (agrees_last 10 g)))))) in
    (agrees_same (if a then Some 4 else r5) s4 (tested a b c d e f g) same agree, from_same 4 s4 (tested a b c d e f g) same (from_more 4 a s5 f5))

pub head_agrees : (names : Names) (site : Site) (head : HeadTree) → Agrees (refusal names site head) (stands_against_head names site head) × From 4 (stands_against_head names site head)
head_agrees names site head =
    by_tests (is_no_form names site head) (has_unknown_name names site.kind head) (is_not_affine names site.kind head) (declares_twice names head)
    (is_over_limit names site head) (has_bad_resolution head) (has_mismatch names head)

at_most : (k n : ℕ) → k ≤ 10 → n ≡ k → n ≤ 10
at_most k n small is = grind arith

-- and none is above 10
to_ten : (a b c d e f g : Bool) (n : ℕ) → tested a b c d e f g n ≡ true → n ≤ 10
to_ten a b c d e f g n is =
    let t4 : Bool = numbered 4 a n in
    let t5 : Bool = t4 || numbered 5 b n in
    let t6 : Bool = t5 || numbered 6 c n in
    let t7 : Bool = t6 || numbered 7 d n in
    let t8 : Bool = t7 || numbered 8 e n in
    let t9 : Bool = t8 || numbered 9 f n in
    by_or t9 (numbered 10 g n) is
    (λ is. by_or t8 (numbered 9 f n) is
    (λ is. by_or t7 (numbered 8 e n) is
    (λ is. by_or t6 (numbered 7 d n) is
    (λ is. by_or t5 (numbered 6 c n) is
    (λ is. by_or t4 (numbered 5 b n) is
    (λ is. at_most 4 n (grind arith) (one_is 4 n a is))
    (λ is. at_most 5 n (grind arith) (one_is 5 n b is)))
    (λ is. at_most 6 n (grind arith) (one_is 6 n c is)))
    (λ is. at_most 7 n (grind arith) (one_is 7 n d is)))
    (λ is. at_most 8 n (grind arith) (one_is 8 n e is)))
    (λ is. at_most 9 n (grind arith) (one_is 9 n f is)))
    (λ is. at_most 10 n (grind arith) (one_is 10 n g is))

pub head_range : (names : Names) (site : Site) (head : HeadTree) (n : ℕ) → stands_against_head names site head n ≡ true → (4 ≤ n) × (n ≤ 10)
head_range names site head n is = (
  (head_agrees names site head).1 n is,
  to_ten (is_no_form names site head) (has_unknown_name names site.kind head) (is_not_affine names site.kind head) (declares_twice names head)
      (is_over_limit names site head) (has_bad_resolution head) (has_mismatch names head) n is,
)
