-- One level of reading tokens that spell an expression with all its parentheses.
use Rattle.std.proofs.Common.{arith, ◌≡◌, refl, ap, ◌∙◌, length, ℕ, zero, suc, ◌+◌, ◌<◌, List, [], ◌∷◌, ◌++◌, take, drop, true, false}
use Rattle.std.proofs.Math.Seq.{take-append_seam, drop-append-add}
use Rattle.std.specs.Prelude.{Option, Some, None, if◌then◌else◌, map, nat_eq, nat_lt, slice_get}
use Rattle.sd_lex.specs.PlainTree.{element_at, one, two}
use Rattle.sd_lex.specs.TreeFold.{expressions_listed}
use Rattle.sd_lex.specs.declared.syntax.operator.OneSign.{OneSign}
use Rattle.sd_lex.specs.declared.syntax.operator.OneSign.TheVariants.{Neg}
use Rattle.sd_lex.specs.declared.syntax.operator.TwoSign.{TwoSign}
use Rattle.sd_phrase.specs.declared.reading.Reading.TheVariants.{NoForm, TooDeep}
use Rattle.sd_phrase.specs.declared.word.Bracket.{Bracket}
use Rattle.sd_phrase.specs.declared.word.Bracket.TheVariants.{Round, Square}
use Rattle.sd_phrase.specs.declared.word.Mark.TheVariants.{Comma}
use Rattle.sd_phrase.specs.declared.word.Piece.{Piece}
use Rattle.sd_phrase.specs.declared.word.Place.{Place}
use Rattle.sd_phrase.specs.declared.word.Sign.TheVariants.{If as If_sign, Else as Else_sign, One, Two}
use Rattle.sd_phrase.specs.declared.word.Word.{Word}
use Rattle.sd_phrase.specs.declared.word.Word.TheVariants.{Name, Callee, Stop, Open, Close}
use Rattle.sd_phrase.specs.Parts.{parts_of, closing_from, opens, closes, word_at, closed_at, closed, bracketed, whole, few}
use Rattle.sd_phrase.specs.Readings.{reading_map, both, if_some, listed}
use Rattle.sd_phrase.specs.Signs.{rank_of_one, rank_of_two, cut_of, depth_after}
use Rattle.sd_phrase.specs.ExpressionReading.{Reader, all_three, rank_on_left, pair, element, called, atom_by, at_else, at_sign, by_cut, deep_unless, element_or_deep, last_level, subscripts_by, reads_by}
use Rattle.sd_phrase.specs.Words.{spelling}
use Rattle.sd_phrase.specs.Printing.{word_before, is_variable}
use Rattle.sd_phrase.proofs.BracketLemmas.{Keeps, closing_passes_inside}
use Rattle.sd_phrase.proofs.OperandLemmas.{HasNoComma, operand_brackets, operand_behind, uncut_operand, place, one_part, first_part}

pub without_level : (text : List ℕ) (own : Option Reader) (rank : ℕ) (ts : List Piece) → reads_by text own zero rank ts ≡ last_level text own ts
unfolding reads_by
without_level text own rank ts = refl

pub with_level : (text : List ℕ) (own : Option Reader) (levels rank : ℕ) (ts : List Piece) (cut : Option Place) → cut_of ts ≡ cut →
    reads_by text own (suc levels) rank ts ≡ by_cut text (reads_by text own levels) (subscripts_by own (reads_by text own levels 1)) rank ts cut
unfolding reads_by
with_level text own levels rank ts cut e = ap (by_cut text (reads_by text own levels) (subscripts_by own (reads_by text own levels 1)) rank ts) e

-- brackets round tokens
got_behind : (xs ys : List Piece) (y : Piece) → slice_get (xs ++ y ∷ ys) (length xs) ≡ Some y
got_behind [] ys y = refl
got_behind (x ∷ xs) ys y = got_behind xs ys y

closing_behind : (b : Bracket) (closing : Piece) (inside : List Piece) → closing.word ≡ Close b → Keeps 0 inside → closing_from 1 0 (inside ++ closing ∷ []) ≡ Some (length inside)
closing_behind b closing inside e k =
    let a : 0 + length inside ≡ length inside = omega arith in
    closing_passes_inside inside (closing ∷ []) 0 1 1 0 (omega arith) (omega arith) k
    ∙ ap (λ w. if nat_eq (depth_after w 1) 0 then Some (0 + length inside) else closing_from (depth_after w 1) (0 + length inside + 1) []) e ∙ ap (λ n. Some n) a

closes_itself : (b : Bracket) → closes b (Close b) ≡ true
closes_itself Round = refl
closes_itself Square = refl

pub closed_inside : (b : Bracket) (closing : Piece) (inside : List Piece) → closing.word ≡ Close b → Keeps 0 inside → whole (closed b (inside ++ closing ∷ [])) ≡ Some inside
closed_inside b closing inside e k =
    let ts = inside ++ closing ∷ [] in
    let n = length inside in
    let w : word_at ts n ≡ closing.word = ap (λ (found : Option Piece). elim found [ None ↦ word_at [] 0 | Some t ↦ t.word ]) (got_behind inside [] closing) in
    ap (λ at. whole (closed_at b ts at)) (closing_behind b closing inside e k)
    ∙ ap (λ c. whole (if c then Some (take n ts, drop (n + 1) ts) else None)) (ap (closes b) (w ∙ e) ∙ closes_itself b)
    ∙ ap (λ xs. whole (Some (xs, drop (n + 1) ts))) (take-append_seam inside (closing ∷ []))
    ∙ ap (λ xs. whole (Some (inside, xs))) (drop-append-add inside (closing ∷ []) 1)

pub square_inside : (opening closing : Piece) (inside : List Piece) → opening.word ≡ Open Square → closing.word ≡ Close Square → Keeps 0 inside →
    whole (bracketed Square (opening ∷ inside ++ closing ∷ [])) ≡ Some inside
square_inside opening closing inside e f k =
    ap (λ w. whole (if opens Square w then closed Square (inside ++ closing ∷ []) else None)) e ∙ closed_inside Square closing inside f k

-- tokens in parentheses, whatever sign may stand there
pub parentheses_read : (text : List ℕ) (own : Option Reader) (levels rank : ℕ) (opening closing : Piece) (inside : List Piece) → opening.word ≡ Open Round → closing.word ≡ Close Round → Keeps 0 inside →
    reads_by text own (suc levels) rank (opening ∷ inside ++ closing ∷ []) ≡ reads_by text own levels 1 inside
parentheses_read text own levels rank opening closing inside e f k =
    let again = reads_by text own levels 1 in
    let more = inside ++ closing ∷ [] in
    with_level text own levels rank (opening ∷ more) None (uncut_operand (opening ∷ more) (operand_brackets Round Round opening closing inside e f k))
    ∙ ap (λ w. atom_by again (subscripts_by own again) w (spelling text opening) more) e
    ∙ ap (λ found. if_some found again) (closed_inside Round closing inside f k)

-- where no level is left, what begins with one of these words and goes on is too deep
pub too_deep : (text : List ℕ) (own : Option Reader) (rank : ℕ) (t : Piece) (more : List Piece) (w : Word) → t.word ≡ w →
    ((own : Option Reader) (name : List ℕ) (rest : List Piece) → element_or_deep own w name rest ≡ TooDeep) → 0 < length more →
    reads_by text own zero rank (t ∷ more) ≡ TooDeep
too_deep text own rank t [] w e deep h = absurd (omega arith)
too_deep text own rank t (u ∷ rest) w e deep h =
    without_level text own rank (t ∷ u ∷ rest) ∙ ap (λ v. element_or_deep own v (spelling text t) (u ∷ rest)) e ∙ deep own (spelling text t) (u ∷ rest)

pub deep_parenthesis : (own : Option Reader) (name : List ℕ) (rest : List Piece) → element_or_deep own (Open Round) name rest ≡ TooDeep
deep_parenthesis None name rest = refl
deep_parenthesis (Some subscript) name rest = refl

pub deep_before : (sign : OneSign) (own : Option Reader) (name : List ℕ) (rest : List Piece) → element_or_deep own (word_before sign) name rest ≡ TooDeep
deep_before Neg None name rest = refl
deep_before Neg (Some subscript) name rest = refl
deep_before sign None name rest = refl
deep_before sign (Some subscript) name rest = refl

-- operators
pub two_read : (text : List ℕ) (own : Option Reader) (levels rank : ℕ) (sign : TwoSign) (front back : List Piece) (t : Piece) → nat_lt (rank_of_two sign) rank ≡ false →
    cut_of (front ++ t ∷ back) ≡ Some (place (length front) (Two sign)) →
    reads_by text own (suc levels) rank (front ++ t ∷ back) ≡ both (two sign) (reads_by text own levels (rank_on_left (rank_of_two sign)) front) (reads_by text own levels (rank_of_two sign + 1) back)
two_read text own levels rank sign front back t l c =
    let again = reads_by text own levels in
    let ts = front ++ t ∷ back in
    with_level text own levels rank ts (Some (place (length front) (Two sign))) c
    ∙ ap (λ b. if b then NoForm else at_sign again (Two sign) (take (length front) ts) (drop (length front + 1) ts)) l
    ∙ ap (λ xs. at_sign again (Two sign) xs (drop (length front + 1) ts)) (take-append_seam front (t ∷ back))
    ∙ ap (λ xs. at_sign again (Two sign) front xs) (drop-append-add front (t ∷ back) 1)

pub one_read : (text : List ℕ) (own : Option Reader) (levels rank : ℕ) (sign : OneSign) (back : List Piece) (t : Piece) → nat_lt (rank_of_one sign) rank ≡ false →
    cut_of (t ∷ back) ≡ Some (place 0 (One sign)) →
    reads_by text own (suc levels) rank (t ∷ back) ≡ reading_map (one sign) (reads_by text own levels (rank_of_one sign) back)
one_read text own levels rank sign back t l c =
    with_level text own levels rank (t ∷ back) (Some (place 0 (One sign))) c
    ∙ ap (λ b. if b then NoForm else at_sign (reads_by text own levels) (One sign) (take 0 (t ∷ back)) (drop (0 + 1) (t ∷ back))) l

pub choice_read : (text : List ℕ) (own : Option Reader) (levels rank : ℕ) (front middle back : List Piece) (t u : Piece) → nat_lt 1 rank ≡ false →
    cut_of (front ++ t ∷ (middle ++ u ∷ back)) ≡ Some (place (length front) If_sign) → cut_of (middle ++ u ∷ back) ≡ Some (place (length middle) Else_sign) →
    reads_by text own (suc levels) rank (front ++ t ∷ (middle ++ u ∷ back)) ≡ all_three (reads_by text own levels 2 front) (reads_by text own levels 2 middle) (reads_by text own levels 1 back)
choice_read text own levels rank front middle back t u l c d =
    let again = reads_by text own levels in
    let rest = middle ++ u ∷ back in
    let ts = front ++ t ∷ rest in
    with_level text own levels rank ts (Some (place (length front) If_sign)) c
    ∙ ap (λ b. if b then NoForm else at_sign again If_sign (take (length front) ts) (drop (length front + 1) ts)) l
    ∙ ap (λ xs. at_sign again If_sign xs (drop (length front + 1) ts)) (take-append_seam front (t ∷ rest))
    ∙ ap (λ xs. at_sign again If_sign front xs) (drop-append-add front (t ∷ rest) 1)
    ∙ ap (at_else again front rest) d
    ∙ ap (λ xs. all_three (again 2 front) (again 2 xs) (again 1 (drop (length middle + 1) rest))) (take-append_seam middle (u ∷ back))
    ∙ ap (λ xs. all_three (again 2 front) (again 2 middle) (again 1 xs)) (drop-append-add middle (u ∷ back) 1)

-- calls of min and max
pub call_read : (text : List ℕ) (own : Option Reader) (levels rank : ℕ) (sign : TwoSign) (t opening comma closing : Piece) (front back : List Piece) →
    t.word ≡ Callee sign → opening.word ≡ Open Round → comma.word ≡ Stop Comma → closing.word ≡ Close Round → Keeps 0 (front ++ comma ∷ back) → HasNoComma front → HasNoComma back →
    reads_by text own (suc levels) rank (t ∷ opening ∷ (front ++ comma ∷ back) ++ closing ∷ []) ≡ both (two sign) (reads_by text own levels 1 front) (reads_by text own levels 1 back)
call_read text own levels rank sign t opening comma closing front back e f g h k n m =
    let again = reads_by text own levels 1 in
    let inside = front ++ comma ∷ back in
    let more = inside ++ closing ∷ [] in
    let operand = operand_behind t (opening ∷ more) (ap is_variable e) (operand_brackets Round Round opening closing inside f h k) in
    with_level text own levels rank (t ∷ opening ∷ more) None (uncut_operand (t ∷ opening ∷ more) operand)
    ∙ ap (λ w. atom_by again (subscripts_by own again) w (spelling text t) (opening ∷ more)) e
    ∙ ap (λ w. called sign (spelling text t) again (subscripts_by own again) w (opening ∷ more) more) f
    ∙ ap (λ found. if_some found (λ inside. pair sign again (few (parts_of Comma inside)))) (closed_inside Round closing inside h k)
    ∙ ap (λ ps. pair sign again (few ps)) (first_part front back comma n g ∙ ap (λ ps. front ∷ ps) (one_part back m))

pub deep_call : (sign : TwoSign) (opening : Piece) (more : List Piece) (own : Option Reader) (name : List ℕ) → opening.word ≡ Open Round → element_or_deep own (Callee sign) name (opening ∷ more) ≡ TooDeep
deep_call sign opening more None name e = refl
deep_call sign opening more (Some subscript) name e =
    ap (λ w. deep_unless (whole (if opens Square w then closed Square more else None)) (element name subscript (opening ∷ more))) e

-- elements
variable_element : (read subscript : Reader) (w : Word) (name : List ℕ) (u : Piece) (rest : List Piece) → is_variable w ≡ true → u.word ≡ Open Square →
    atom_by read subscript w name (u ∷ rest) ≡ element name subscript (u ∷ rest)
variable_element read subscript Name name u rest h e = refl
variable_element read subscript (Callee sign) name u rest h e = ap (λ v. called sign name read subscript v (u ∷ rest) rest) e
variable_element read subscript w name u rest h e = cc

variable_without_level : (subscript : Reader) (w : Word) (name : List ℕ) (rest inside : List Piece) → is_variable w ≡ true → whole (bracketed Square rest) ≡ Some inside →
    element_or_deep (Some subscript) w name rest ≡ element name subscript rest
variable_without_level subscript Name name rest inside h e = ap (λ found. deep_unless found (element name subscript rest)) e
variable_without_level subscript (Callee sign) name rest inside h e = ap (λ found. deep_unless found (element name subscript rest)) e
variable_without_level subscript w name rest inside h e = cc

-- the subscripts of an element, by the reader of each
pub subscripts_read : (name : List ℕ) (subscript : Reader) (opening closing : Piece) (inside : List Piece) → opening.word ≡ Open Square → closing.word ≡ Close Square → Keeps 0 inside →
    element name subscript (opening ∷ inside ++ closing ∷ []) ≡ reading_map (λ at. element_at name (expressions_listed at)) (listed (map subscript (parts_of Comma inside)))
subscripts_read name subscript opening closing inside e f k =
    ap (λ found. if_some found (λ inside. reading_map (λ at. element_at name (expressions_listed at)) (listed (map subscript (parts_of Comma inside))))) (square_inside opening closing inside e f k)

pub element_read : (text : List ℕ) (own : Option Reader) (levels rank : ℕ) (t opening closing : Piece) (inside : List Piece) → is_variable t.word ≡ true → opening.word ≡ Open Square → closing.word ≡ Close Square → Keeps 0 inside →
    reads_by text own (suc levels) rank (t ∷ opening ∷ inside ++ closing ∷ []) ≡ element (spelling text t) (subscripts_by own (reads_by text own levels 1)) (opening ∷ inside ++ closing ∷ [])
element_read text own levels rank t opening closing inside h e f k =
    let again = reads_by text own levels 1 in
    let more = inside ++ closing ∷ [] in
    with_level text own levels rank (t ∷ opening ∷ more) None (uncut_operand (t ∷ opening ∷ more) (operand_behind t (opening ∷ more) h (operand_brackets Square Square opening closing inside e f k)))
    ∙ variable_element again (subscripts_by own again) t.word (spelling text t) opening more h e

pub element_without_level : (text : List ℕ) (subscript : Reader) (rank : ℕ) (t opening closing : Piece) (inside : List Piece) → is_variable t.word ≡ true → opening.word ≡ Open Square → closing.word ≡ Close Square → Keeps 0 inside →
    reads_by text (Some subscript) zero rank (t ∷ opening ∷ inside ++ closing ∷ []) ≡ element (spelling text t) subscript (opening ∷ inside ++ closing ∷ [])
element_without_level text subscript rank t opening closing inside h e f k =
    without_level text (Some subscript) rank (t ∷ opening ∷ inside ++ closing ∷ [])
    ∙ variable_without_level subscript t.word (spelling text t) (opening ∷ inside ++ closing ∷ []) inside h (square_inside opening closing inside e f k)
