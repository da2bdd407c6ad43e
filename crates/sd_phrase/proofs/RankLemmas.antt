-- Which of two signs outside brackets cuts a list, by their ranks.
use Rattle.std.proofs.Common.{arith, ◌≡◌, refl, ap, sym, ◌∙◌, ◌≤◌, length, length-append, ℕ, ◌+◌, List, [], ◌∷◌, ◌++◌, append_assoc, append-nil, true, false}
use Rattle.std.specs.Prelude.{Option, Some, None, ⊤, if◌then◌else◌, nat_lt, nat_le}
use Rattle.std.proofs.lemmas.Bool.Decides.{nat_tests}
use Rattle.sd_lex.specs.declared.syntax.operator.OneSign.{OneSign}
use Rattle.sd_lex.specs.declared.syntax.operator.OneSign.TheVariants.{Not, Neg, Inv}
use Rattle.sd_lex.specs.declared.syntax.operator.TwoSign.{TwoSign}
use Rattle.sd_lex.specs.declared.syntax.operator.TwoSign.TheVariants.{Or}
use Rattle.sd_phrase.specs.declared.word.Piece.{Piece}
use Rattle.sd_phrase.specs.declared.word.Place.{Place}
use Rattle.sd_phrase.specs.declared.word.Sign.{Sign}
use Rattle.sd_phrase.specs.declared.word.Sign.TheVariants.{Stop as Stop_sign, If as If_sign, Else as Else_sign, One, Two}
use Rattle.sd_phrase.specs.Signs.{rank_of, rank_of_one, rank_of_two, cuts_before, cut_from, cut_of, better}
use Rattle.sd_phrase.specs.ExpressionReading.{rank_on_left}
use Rattle.sd_phrase.specs.Grammar.{rank_before}
use Rattle.sd_phrase.proofs.OperandLemmas.{IsOperand, IsSign, sign_step, place}

pub not_looser_than : (a b : ℕ) → b ≤ a → nat_lt a b ≡ false
not_looser_than a b h = grind (arith, nat_tests)

tighter : (a b : ℕ) → b + 1 ≤ a → nat_le a b ≡ false
tighter a b h = grind (arith, nat_tests)

as_loose : (a b : ℕ) → a ≤ b → nat_le a b ≡ true
as_loose a b h = grind (arith, nat_tests)

looser : (a b : ℕ) → a + 1 ≤ b → nat_lt a b ≡ true
looser a b h = grind (arith, nat_tests)

-- no operator between operands has the rank of one before its operand
ranks_apart : (sign : OneSign) (other : TwoSign) → rank_of_one sign ≤ rank_of_two other → rank_of_one sign + 1 ≤ rank_of_two other
ranks_apart Not Or h = omega arith
ranks_apart Not other h = omega arith
ranks_apart Neg Or h = omega arith
ranks_apart Neg other h = omega arith
ranks_apart Inv Or h = omega arith
ranks_apart Inv other h = omega arith

tighter_than_choice : (sign : TwoSign) → 2 ≤ rank_of_two sign
tighter_than_choice Or = omega arith
tighter_than_choice sign = omega arith

pub rank_before_is_on_left : (sign : TwoSign) → rank_before sign ≡ rank_on_left (rank_of_two sign)
rank_before_is_on_left Or = refl
rank_before_is_on_left sign = refl

pub rank_before_keeps : (sign : TwoSign) → rank_of_two sign ≤ rank_before sign
rank_before_keeps Or = omega arith
rank_before_keeps sign = omega arith

-- no later sign of this rank or a tighter one cuts the list in place of the sign
abbrev pub StaysBefore : Sign → (rank : ℕ) → Type 0
StaysBefore earlier rank = (sign : Sign) → rank ≤ rank_of sign → cuts_before sign earlier ≡ false

pub two_stays : (sign : TwoSign) → StaysBefore (Two sign) (rank_of_two sign + 1)
two_stays sign (Two other) h = tighter (rank_of_two other) (rank_of_two sign) h
two_stays sign (One other) h = not_looser_than (rank_of_one other) (rank_of_two sign) (omega arith)
two_stays sign If_sign h = not_looser_than 1 (rank_of_two sign) (omega arith)
two_stays sign Else_sign h = not_looser_than 1 (rank_of_two sign) (omega arith)
two_stays sign Stop_sign h = not_looser_than 0 (rank_of_two sign) (omega arith)

pub one_stays : (sign : OneSign) → StaysBefore (One sign) (rank_of_one sign)
one_stays sign (Two other) h = tighter (rank_of_two other) (rank_of_one sign) (ranks_apart sign other h)
one_stays sign (One other) h = not_looser_than (rank_of_one other) (rank_of_one sign) h
one_stays sign If_sign h = not_looser_than 1 (rank_of_one sign) h
one_stays sign Else_sign h = not_looser_than 1 (rank_of_one sign) h
one_stays sign Stop_sign h = not_looser_than 0 (rank_of_one sign) h

pub if_stays : StaysBefore If_sign 1
if_stays (Two other) h = tighter (rank_of_two other) 1 (tighter_than_choice other)
if_stays (One other) h = not_looser_than (rank_of_one other) 1 h
if_stays If_sign h = refl
if_stays Else_sign h = refl
if_stays Stop_sign h = absurd (omega arith)

pub else_stays : StaysBefore Else_sign 1
else_stays (Two other) h = tighter (rank_of_two other) 1 (tighter_than_choice other)
else_stays (One other) h = not_looser_than (rank_of_one other) 1 h
else_stays If_sign h = refl
else_stays Else_sign h = refl
else_stays Stop_sign h = absurd (omega arith)

-- the sign found, if there is one, is of this rank or a tighter one
abbrev pub IsAtLeast : (rank : ℕ) → Option Place → Type 0
IsAtLeast rank None = ⊤
IsAtLeast rank (Some found) = rank ≤ rank_of found.sign

-- the sign cuts the list in place of any of this rank or a tighter one
abbrev pub CutsAfter : Sign → (rank : ℕ) → Type 0
CutsAfter sign rank = (best : Option Place) (at : ℕ) → IsAtLeast rank best → better best at (Some sign) ≡ Some (place at sign)

chosen : (sign : Sign) (found : Place) (at : ℕ) → cuts_before sign found.sign ≡ true → better (Some found) at (Some sign) ≡ Some (place at sign)
chosen sign found at e = ap (λ b. if b then Some (place at sign) else Some found) e

pub loose_two_cuts : (sign : TwoSign) → CutsAfter (Two sign) (rank_of_two sign)
loose_two_cuts sign None at h = refl
loose_two_cuts sign (Some found) at h = chosen (Two sign) found at (as_loose (rank_of_two sign) (rank_of found.sign) h)

pub two_cuts : (sign : TwoSign) → CutsAfter (Two sign) (rank_before sign)
two_cuts sign None at h = refl
two_cuts sign (Some found) at h = let k = rank_before_keeps sign in chosen (Two sign) found at (as_loose (rank_of_two sign) (rank_of found.sign) (omega arith))

pub if_cuts : CutsAfter If_sign 2
if_cuts None at h = refl
if_cuts (Some found) at h = chosen If_sign found at (looser 1 (rank_of found.sign) h)

pub else_cuts : CutsAfter Else_sign 2
else_cuts None at h = refl
else_cuts (Some found) at h = chosen Else_sign found at (looser 1 (rank_of found.sign) h)

-- behind a sign that stays before those of the rank, the search passes over the tokens
abbrev pub Under : (rank : ℕ) → List Piece → Type 0
Under rank ts = (at : ℕ) (p : Place) (rest : List Piece) → StaysBefore p.sign rank → cut_from 0 false at (Some p) (ts ++ rest) ≡ cut_from 0 true (at + length ts) (Some p) rest

-- where nothing is found before them, what is found in the tokens is of the rank or a tighter one
abbrev pub Alone : (rank : ℕ) → List Piece → Type 0
Alone rank ts = (at : ℕ) (rest : List Piece) → (best : Option Place) × IsAtLeast rank best × (cut_from 0 false at None (ts ++ rest) ≡ cut_from 0 true (at + length ts) best rest)

pub operand_under : (rank : ℕ) (ts : List Piece) → IsOperand ts → Under rank ts
operand_under rank ts o at p rest h = o 0 at false (Some p) rest

pub operand_alone : (rank : ℕ) (ts : List Piece) → IsOperand ts → Alone rank ts
operand_alone rank ts o at rest = (None, tt, o 0 at false None rest)

stays_further : (earlier : Sign) (rank further : ℕ) → rank ≤ further → StaysBefore earlier rank → StaysBefore earlier further
stays_further earlier rank further h k sign l = k sign (omega arith)

stays : (p : Place) (at : ℕ) (sign : Sign) → cuts_before sign p.sign ≡ false → better (Some p) at (Some sign) ≡ Some p
stays p at sign e = ap (λ b. if b then Some (place at sign) else Some p) e

pub sign_under : (rank before behind : ℕ) (front back : List Piece) (t : Piece) (sign : Sign) → rank ≤ rank_of sign → rank ≤ before → rank ≤ behind →
    Under before front → IsSign t.word true sign → Under behind back → Under rank (front ++ t ∷ back)
sign_under rank before behind front back t sign l m n u w v at p rest h =
    let a : at + length front + 1 + length back ≡ at + length (front ++ t ∷ back) = omega (arith, length-append front (t ∷ back)) in
    ap (λ us. cut_from 0 false at (Some p) us) (append_assoc front (t ∷ back) rest)
    ∙ u at p (t ∷ back ++ rest) (stays_further p.sign rank before m h)
    ∙ sign_step t (back ++ rest) (at + length front) true (Some p) sign w
    ∙ ap (λ (o : Option Place). cut_from 0 false (at + length front + 1) o (back ++ rest)) (stays p (at + length front) sign (h sign l))
    ∙ v (at + length front + 1) p rest (stays_further p.sign rank behind n h)
    ∙ ap (λ k. cut_from 0 true k (Some p) rest) a

pub before_under : (rank behind : ℕ) (back : List Piece) (t : Piece) (sign : Sign) → rank ≤ rank_of sign → rank ≤ behind → IsSign t.word false sign → Under behind back → Under rank (t ∷ back)
before_under rank behind back t sign l n w v at p rest h =
    let a : at + 1 + length back ≡ at + length (t ∷ back) = omega arith in
    sign_step t (back ++ rest) at false (Some p) sign w
    ∙ ap (λ (o : Option Place). cut_from 0 false (at + 1) o (back ++ rest)) (stays p at sign (h sign l))
    ∙ v (at + 1) p rest (stays_further p.sign rank behind n h) ∙ ap (λ k. cut_from 0 true k (Some p) rest) a

-- the sign at which the tokens are cut
abbrev pub CutAt : ℕ → Sign → List Piece → Type 0
CutAt n sign ts = (at : ℕ) (rest : List Piece) → cut_from 0 false at None (ts ++ rest) ≡ cut_from 0 true (at + length ts) (Some (place (at + n) sign)) rest

pub sign_cut : (before behind : ℕ) (front back : List Piece) (t : Piece) (sign : Sign) → CutsAfter sign before → StaysBefore sign behind →
    Alone before front → IsSign t.word true sign → Under behind back → CutAt (length front) sign (front ++ t ∷ back)
sign_cut before behind front back t sign c s u w v at rest =
    let a : at + length front + 1 + length back ≡ at + length (front ++ t ∷ back) = omega (arith, length-append front (t ∷ back)) in
    let found = u at (t ∷ back ++ rest) in
    ap (λ us. cut_from 0 false at None us) (append_assoc front (t ∷ back) rest)
    ∙ found.2
    ∙ sign_step t (back ++ rest) (at + length front) true found.0 sign w
    ∙ ap (λ (o : Option Place). cut_from 0 false (at + length front + 1) o (back ++ rest)) (c found.0 (at + length front) found.1)
    ∙ v (at + length front + 1) (place (at + length front) sign) rest s
    ∙ ap (λ k. cut_from 0 true k (Some (place (at + length front) sign)) rest) a

pub before_cut : (behind : ℕ) (back : List Piece) (t : Piece) (sign : Sign) → StaysBefore sign behind → IsSign t.word false sign → Under behind back → CutAt 0 sign (t ∷ back)
before_cut behind back t sign s w v at rest =
    let a : at + 1 + length back ≡ at + length (t ∷ back) = omega arith in
    let b : at ≡ at + 0 = omega arith in
    sign_step t (back ++ rest) at false None sign w ∙ v (at + 1) (place at sign) rest s
    ∙ ap (λ k. cut_from 0 true k (Some (place at sign)) rest) a ∙ ap (λ k. cut_from 0 true (at + length (t ∷ back)) (Some (place k sign)) rest) b

pub cut_alone : (n rank : ℕ) (sign : Sign) (ts : List Piece) → rank ≤ rank_of sign → CutAt n sign ts → Alone rank ts
cut_alone n rank sign ts l c at rest = (Some (place (at + n) sign), l, c at rest)

pub cut_whole : (n : ℕ) (sign : Sign) (ts : List Piece) → CutAt n sign ts → cut_of ts ≡ Some (place n sign)
cut_whole n sign ts c =
    let a : 0 + n ≡ n = omega arith in
    ap (λ us. cut_from 0 false 0 None us) (sym (append-nil ts)) ∙ c 0 [] ∙ ap (λ k. Some (place k sign)) a
