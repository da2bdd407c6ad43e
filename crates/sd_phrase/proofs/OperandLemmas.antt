-- Where a list of operands with signs between them is cut, and how it falls into parts at its commas.
use Rattle.std.proofs.Common.{arith, ◌≡◌, refl, ap, sym, ◌∙◌, length, length-append, ℕ, ℤ, ◌+◌, ◌-◌, List, [], ◌∷◌, ◌++◌, append_assoc, append-nil, Bool, true, false, subst}
use Rattle.std.specs.Prelude.{Option, Some, None, if◌then◌else◌, nat_eq}
use Rattle.sd_lex.specs.declared.syntax.operator.OneSign.{OneSign}
use Rattle.sd_lex.specs.declared.syntax.operator.OneSign.TheVariants.{Neg}
use Rattle.sd_lex.specs.declared.syntax.operator.TwoSign.{TwoSign}
use Rattle.sd_lex.specs.declared.syntax.operator.TwoSign.TheVariants.{Sub}
use Rattle.sd_phrase.specs.declared.word.Bracket.{Bracket}
use Rattle.sd_phrase.specs.declared.word.Mark.TheVariants.{Comma}
use Rattle.sd_phrase.specs.declared.word.Piece.{Piece}
use Rattle.sd_phrase.specs.declared.word.Place.{Place}
use Rattle.sd_phrase.specs.declared.word.Sign.{Sign}
use Rattle.sd_phrase.specs.declared.word.Sign.TheVariants.{If as If_sign, Else as Else_sign, One, Two}
use Rattle.sd_phrase.specs.declared.word.Word.{Word}
use Rattle.sd_phrase.specs.declared.word.Word.TheVariants.{Number, Name, Callee, If, Else, Stop, Open, Close}
use Rattle.sd_phrase.specs.Signs.{cut_from, cut_of, better, better_outside, depth_after, ends, sign_of}
use Rattle.sd_phrase.specs.Parts.{is_mark, parts_from, parts_of, parted, onto_first}
use Rattle.sd_phrase.specs.Printing.{word_between, word_before, is_variable}
use Rattle.sd_phrase.proofs.BracketLemmas.{Keeps, led_by, no_sign_keeps_best, cut_passes_inside, commas_pass_inside}

-- the search for a sign passes over the tokens as over one atom
abbrev pub IsOperand : List Piece → Type 0
IsOperand xs = (depth at : ℕ) (after : Bool) (best : Option Place) (rest : List Piece) → cut_from depth after at best (xs ++ rest) ≡ cut_from depth true (at + length xs) best rest

-- the search for commas finds none in the tokens
abbrev pub HasNoComma : List Piece → Type 0
HasNoComma xs = (depth : ℕ) (rest : List Piece) → parts_from Comma depth (xs ++ rest) ≡ led_by xs (parts_from Comma depth rest)

-- the word is no bracket and no comma
abbrev pub IsFlat : Word → Type 0
IsFlat w = (depth : ℕ) → (depth_after w depth ≡ depth) × (is_mark Comma w ≡ false)

pub flat_word : (w v : Word) → w ≡ v → IsFlat v → IsFlat w
flat_word w v e f = subst IsFlat (sym e) f

pub flat_variable : (w : Word) → is_variable w ≡ true → IsFlat w
flat_variable Name h = λ depth. (refl, refl)
flat_variable (Callee sign) h = λ depth. (refl, refl)
flat_variable w h = cc

pub flat_between : (sign : TwoSign) → IsFlat (word_between sign)
flat_between Sub = λ depth. (refl, refl)
flat_between sign = λ depth. (refl, refl)

pub flat_before : (sign : OneSign) → IsFlat (word_before sign)
flat_before Neg = λ depth. (refl, refl)
flat_before sign = λ depth. (refl, refl)

-- one token of the search for a sign
step : (t : Piece) (us : List Piece) (depth at : ℕ) (after : Bool) (best : Option Place) (w : Word) → t.word ≡ w →
    cut_from depth after at best (t ∷ us) ≡ cut_from (depth_after w depth) (ends w) (at + 1) (better_outside depth best at (sign_of w after)) us
step t us depth at after best w e = ap (λ v. cut_from (depth_after v depth) (ends v) (at + 1) (better_outside depth best at (sign_of v after)) us) e

pub operand_brackets : (b c : Bracket) (opening closing : Piece) (inside : List Piece) → opening.word ≡ Open b → closing.word ≡ Close c → Keeps 0 inside →
    IsOperand (opening ∷ inside ++ closing ∷ [])
operand_brackets b c opening closing inside e f k depth at after best rest =
    let p = cut_passes_inside inside (closing ∷ rest) 0 (depth + 1) (depth + 1) (at + 1) false best (omega arith) (omega arith) k in
    let d : depth + 1 - 1 ≡ depth = omega arith in
    let a : at + 1 + length inside + 1 ≡ at + length (opening ∷ inside ++ closing ∷ []) = omega (arith, length-append inside (closing ∷ [])) in
    step opening ((inside ++ closing ∷ []) ++ rest) depth at after best (Open b) e
    ∙ ap (λ (o : Option Place). cut_from (depth + 1) false (at + 1) o ((inside ++ closing ∷ []) ++ rest)) (no_sign_keeps_best depth at best)
    ∙ ap (λ us. cut_from (depth + 1) false (at + 1) best us) (append_assoc inside (closing ∷ []) rest)
    ∙ p.1
    ∙ step closing rest (depth + 1) (at + 1 + length inside) p.0 best (Close c) f
    ∙ ap (λ (o : Option Place). cut_from (depth + 1 - 1) true (at + 1 + length inside + 1) o rest) (no_sign_keeps_best (depth + 1) (at + 1 + length inside) best)
    ∙ ap (λ n. cut_from n true (at + 1 + length inside + 1) best rest) d
    ∙ ap (λ n. cut_from depth true n best rest) a

-- what a value's word is to the search
variable_passes : (w : Word) (depth : ℕ) (after : Bool) → is_variable w ≡ true → (depth_after w depth ≡ depth) × (ends w ≡ true) × (sign_of w after ≡ None)
variable_passes Name depth after h = (refl, refl, refl)
variable_passes (Callee sign) depth after h = (refl, refl, refl)
variable_passes w depth after h = cc

variable_step : (t : Piece) (us : List Piece) (depth at : ℕ) (after : Bool) (best : Option Place) → is_variable t.word ≡ true →
    cut_from depth after at best (t ∷ us) ≡ cut_from depth true (at + 1) best us
variable_step t us depth at after best h =
    let p = variable_passes t.word depth after h in
    ap (λ n. cut_from n (ends t.word) (at + 1) (better_outside depth best at (sign_of t.word after)) us) p.0
    ∙ ap (λ b. cut_from depth b (at + 1) (better_outside depth best at (sign_of t.word after)) us) p.1
    ∙ ap (λ s. cut_from depth true (at + 1) (better_outside depth best at s) us) p.2
    ∙ ap (λ (o : Option Place). cut_from depth true (at + 1) o us) (no_sign_keeps_best depth at best)

pub operand_variable : (t : Piece) → is_variable t.word ≡ true → IsOperand (t ∷ [])
operand_variable t h depth at after best rest = variable_step t rest depth at after best h

pub operand_number : (t : Piece) (value : ℤ) → t.word ≡ Number value → IsOperand (t ∷ [])
operand_number t value e depth at after best rest =
    step t rest depth at after best (Number value) e ∙ ap (λ (o : Option Place). cut_from depth true (at + 1) o rest) (no_sign_keeps_best depth at best)

pub operand_behind : (t : Piece) (xs : List Piece) → is_variable t.word ≡ true → IsOperand xs → IsOperand (t ∷ xs)
operand_behind t xs h o depth at after best rest =
    let a : at + 1 + length xs ≡ at + length (t ∷ xs) = omega arith in
    variable_step t (xs ++ rest) depth at after best h ∙ o depth (at + 1) true best rest ∙ ap (λ n. cut_from depth true n best rest) a

operand_last : (xs : List Piece) (at : ℕ) (after : Bool) (best : Option Place) → IsOperand xs → cut_from 0 after at best xs ≡ best
operand_last xs at after best o = ap (λ us. cut_from 0 after at best us) (sym (append-nil xs)) ∙ o 0 at after best []

pub uncut_operand : (xs : List Piece) → IsOperand xs → cut_of xs ≡ None
uncut_operand xs o = operand_last xs 0 false None o

-- the word is this sign outside brackets, behind an expression or not
abbrev pub IsSign : Word → (after : Bool) → Sign → Type 0
IsSign w after s = (sign_of w after ≡ Some s) × (depth_after w 0 ≡ 0) × (ends w ≡ false)

pub sign_step : (t : Piece) (us : List Piece) (at : ℕ) (after : Bool) (best : Option Place) (s : Sign) → IsSign t.word after s →
    cut_from 0 after at best (t ∷ us) ≡ cut_from 0 false (at + 1) (better best at (Some s)) us
sign_step t us at after best s h =
    ap (λ o. cut_from (depth_after t.word 0) (ends t.word) (at + 1) (better best at o) us) h.0
    ∙ ap (λ n. cut_from n (ends t.word) (at + 1) (better best at (Some s)) us) h.1
    ∙ ap (λ b. cut_from 0 b (at + 1) (better best at (Some s)) us) h.2

pub sign_word : (w v : Word) (after : Bool) (s : Sign) → w ≡ v → IsSign v after s → IsSign w after s
sign_word w v after s e h = subst (λ u. IsSign u after s) (sym e) h

pub between_is_sign : (sign : TwoSign) → IsSign (word_between sign) true (Two sign)
between_is_sign Sub = (refl, refl, refl)
between_is_sign sign = (refl, refl, refl)

pub before_is_sign : (sign : OneSign) → IsSign (word_before sign) false (One sign)
before_is_sign Neg = (refl, refl, refl)
before_is_sign sign = (refl, refl, refl)

pub if_is_sign : IsSign If true If_sign
if_is_sign = (refl, refl, refl)

pub else_is_sign : IsSign Else true Else_sign
else_is_sign = (refl, refl, refl)

-- an operand and a sign behind it
pub past_sign : (front rest : List Piece) (t : Piece) (at : ℕ) (after : Bool) (best : Option Place) (s : Sign) → IsOperand front → IsSign t.word true s →
    cut_from 0 after at best (front ++ t ∷ rest) ≡ cut_from 0 false (at + length front + 1) (better best (at + length front) (Some s)) rest
past_sign front rest t at after best s o h = o 0 at after best (t ∷ rest) ∙ sign_step t rest (at + length front) true best s h

abbrev pub place : ℕ → Sign → Place
place at sign = record { at = at; sign = sign }

pub cut_between : (front back : List Piece) (t : Piece) (s : Sign) → IsOperand front → IsSign t.word true s → IsOperand back →
    cut_of (front ++ t ∷ back) ≡ Some (place (length front) s)
cut_between front back t s o h p =
    let a : 0 + length front ≡ length front = omega arith in
    past_sign front back t 0 false None s o h ∙ operand_last back (0 + length front + 1) false (Some (place (0 + length front) s)) p ∙ ap (λ n. Some (place n s)) a

pub cut_before : (back : List Piece) (t : Piece) (s : Sign) → IsSign t.word false s → IsOperand back → cut_of (t ∷ back) ≡ Some (place 0 s)
cut_before back t s h p = sign_step t back 0 false None s h ∙ operand_last back 1 false (Some (place 0 s)) p

pub cut_conditional : (front middle back : List Piece) (t u : Piece) → IsOperand front → IsSign t.word true If_sign → IsOperand middle → IsSign u.word true Else_sign → IsOperand back →
    cut_of (front ++ t ∷ (middle ++ u ∷ back)) ≡ Some (place (length front) If_sign)
cut_conditional front middle back t u o h p k q =
    let a : 0 + length front ≡ length front = omega arith in
    let first = Some (place (0 + length front) If_sign) in
    past_sign front (middle ++ u ∷ back) t 0 false None If_sign o h ∙ past_sign middle back u (0 + length front + 1) false first Else_sign p k
    ∙ operand_last back (0 + length front + 1 + length middle + 1) false first q ∙ ap (λ n. Some (place n If_sign)) a

-- commas
pub led_both : (xs ys : List Piece) (ps : List (List Piece)) → led_by (xs ++ ys) ps ≡ led_by xs (led_by ys ps)
led_both [] ys ps = refl
led_both (t ∷ xs) ys ps = ap (onto_first t) (led_both xs ys ps)

led_part : (xs : List Piece) (ps : List (List Piece)) → led_by xs ([] ∷ ps) ≡ xs ∷ ps
led_part [] ps = refl
led_part (t ∷ xs) ps = ap (onto_first t) (led_part xs ps)

never_comma : (depth : ℕ) → (if nat_eq depth 0 then false else false) ≡ false
never_comma depth = pick (nat_eq depth 0)
  where
    pick : (b : Bool) → (if b then false else false) ≡ false
    pick true = refl
    pick false = refl

comma_step : (t : Piece) (us : List Piece) (depth : ℕ) → is_mark Comma t.word ≡ false →
    parts_from Comma depth (t ∷ us) ≡ onto_first t (parts_from Comma (depth_after t.word depth) us)
comma_step t us depth e =
    ap (λ b. parted (if nat_eq depth 0 then b else false) t (parts_from Comma (depth_after t.word depth) us)) e
    ∙ ap (λ b. parted b t (parts_from Comma (depth_after t.word depth) us)) (never_comma depth)

pub no_comma_flat : (t : Piece) (xs : List Piece) → IsFlat t.word → HasNoComma xs → HasNoComma (t ∷ xs)
no_comma_flat t xs f h depth rest =
    comma_step t (xs ++ rest) depth (f depth).1 ∙ ap (λ n. onto_first t (parts_from Comma n (xs ++ rest))) (f depth).0 ∙ ap (onto_first t) (h depth rest)

pub no_comma_nil : HasNoComma []
no_comma_nil depth rest = refl

pub no_comma_both : (xs ys : List Piece) → HasNoComma xs → HasNoComma ys → HasNoComma (xs ++ ys)
no_comma_both xs ys h k depth rest =
    ap (λ us. parts_from Comma depth us) (append_assoc xs ys rest) ∙ h depth (ys ++ rest) ∙ ap (led_by xs) (k depth rest) ∙ sym (led_both xs ys (parts_from Comma depth rest))

pub no_comma_brackets : (b c : Bracket) (opening closing : Piece) (inside : List Piece) → opening.word ≡ Open b → closing.word ≡ Close c → Keeps 0 inside →
    HasNoComma (opening ∷ inside ++ closing ∷ [])
no_comma_brackets b c opening closing inside e f k depth rest =
    let d : depth + 1 - 1 ≡ depth = omega arith in
    comma_step opening ((inside ++ closing ∷ []) ++ rest) depth (ap (λ w. is_mark Comma w) e)
    ∙ ap (onto_first opening) (ap (λ w. parts_from Comma (depth_after w depth) ((inside ++ closing ∷ []) ++ rest)) e
    ∙ ap (λ us. parts_from Comma (depth + 1) us) (append_assoc inside (closing ∷ []) rest)
    ∙ commas_pass_inside inside (closing ∷ rest) 0 (depth + 1) (depth + 1) (omega arith) (omega arith) k
    ∙ ap (led_by inside) (comma_step closing rest (depth + 1) (ap (λ w. is_mark Comma w) f)
    ∙ ap (λ w. onto_first closing (parts_from Comma (depth_after w (depth + 1)) rest)) f
    ∙ ap (λ n. onto_first closing (parts_from Comma n rest)) d)
    ∙ sym (led_both inside (closing ∷ []) (parts_from Comma depth rest)))

-- tokens without a comma are one part, and a comma behind them begins the next
pub one_part : (xs : List Piece) → HasNoComma xs → parts_of Comma xs ≡ xs ∷ []
one_part xs h = ap (λ us. parts_from Comma 0 us) (sym (append-nil xs)) ∙ h 0 [] ∙ led_part xs []

pub first_part : (xs ys : List Piece) (comma : Piece) → HasNoComma xs → comma.word ≡ Stop Comma → parts_of Comma (xs ++ comma ∷ ys) ≡ xs ∷ parts_of Comma ys
first_part xs ys comma h e =
    h 0 (comma ∷ ys) ∙ ap (λ w. led_by xs (parted (is_mark Comma w) comma (parts_from Comma (depth_after w 0) ys))) e ∙ led_part xs (parts_of Comma ys)
