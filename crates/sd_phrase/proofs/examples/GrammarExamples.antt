-- Small texts without parentheses, and the trees that the grammar has them for.
use Rattle.std.proofs.Common.{arith, ◌≡◌, refl, List, [], ◌∷◌, true, codes}
use Rattle.sd_lex.specs.PlainTree.{Expression, named, one, two, choice}
use Rattle.sd_lex.specs.declared.syntax.operator.OneSign.TheVariants.{Neg}
use Rattle.sd_lex.specs.declared.syntax.operator.TwoSign.TheVariants.{Less, Sub, Mul}
use Rattle.sd_phrase.specs.declared.reading.Reading.TheVariants.{NoForm, TooDeep, Form}
use Rattle.sd_phrase.specs.declared.word.Piece.{Piece}
use Rattle.sd_phrase.specs.declared.word.Word.{Word}
use Rattle.sd_phrase.specs.declared.word.Word.TheVariants.{Name, Between, Minus, If, Else}
use Rattle.sd_phrase.specs.ExpressionReading.{expression, reads_by}
use Rattle.sd_phrase.specs.Grammar.{Written, written_name, written_one, written_two, written_choice}
use Rattle.sd_phrase.proofs.WrittenReads.{written_reads}
use Rattle.sd_phrase.proofs.examples.PrintingExamples.{at}

abbrev a : Expression
a = named (codes "a")

abbrev b : Expression
b = named (codes "b")

abbrev c : Expression
c = named (codes "c")

-- the tokens of a text of three names and two signs of one byte
abbrev five : Word → Word → List Piece
five first second = at Name 0 1 ∷ at first 1 2 ∷ at Name 2 3 ∷ at second 3 4 ∷ at Name 4 5 ∷ []

-- a tighter operator behind a looser one
product_behind : Written (codes "a-b*c") true 2 1 (two Sub a (two Mul b c)) (five Minus (Between Mul))
product_behind =
    written_two true 1 1 Sub a (two Mul b c) (at Name 0 1 ∷ []) (at Name 2 3 ∷ at (Between Mul) 3 4 ∷ at Name 4 5 ∷ []) (at Minus 1 2) refl (omega arith)
    (written_name true 1 9 (codes "a") (at Name 0 1) refl refl) refl
    (written_two true 0 10 Mul b c (at Name 2 3 ∷ []) (at Name 4 5 ∷ []) (at (Between Mul) 3 4) refl (omega arith)
    (written_name true 0 10 (codes "b") (at Name 2 3) refl refl) refl (written_name true 0 11 (codes "c") (at Name 4 5) refl refl))

product_behind_reads : expression (codes "a-b*c") true 2 (five Minus (Between Mul)) ≡ Form (two Sub a (two Mul b c))
product_behind_reads = written_reads (codes "a-b*c") true 2 1 (two Sub a (two Mul b c)) (five Minus (Between Mul)) product_behind

-- operators of one rank group to the left
differences : Written (codes "a-b-c") true 2 1 (two Sub (two Sub a b) c) (five Minus Minus)
differences =
    written_two true 1 1 Sub (two Sub a b) c (at Name 0 1 ∷ at Minus 1 2 ∷ at Name 2 3 ∷ []) (at Name 4 5 ∷ []) (at Minus 3 4) refl (omega arith)
    (written_two true 0 9 Sub a b (at Name 0 1 ∷ []) (at Name 2 3 ∷ []) (at Minus 1 2) refl (omega arith)
    (written_name true 0 9 (codes "a") (at Name 0 1) refl refl) refl (written_name true 0 10 (codes "b") (at Name 2 3) refl refl)) refl
    (written_name true 1 10 (codes "c") (at Name 4 5) refl refl)

-- a minus before its operand is tighter than a product
negative_product : Written (codes "-a*b") true 2 1 (two Mul (one Neg a) b) (at Minus 0 1 ∷ at Name 1 2 ∷ at (Between Mul) 2 3 ∷ at Name 3 4 ∷ [])
negative_product =
    written_two true 1 1 Mul (one Neg a) b (at Minus 0 1 ∷ at Name 1 2 ∷ []) (at Name 3 4 ∷ []) (at (Between Mul) 2 3) refl (omega arith)
    (written_one true 0 10 Neg a (at Minus 0 1) (at Name 1 2 ∷ []) (omega arith) refl (written_name true 0 11 (codes "a") (at Name 1 2) refl refl)) refl
    (written_name true 1 11 (codes "b") (at Name 3 4) refl refl)

-- what stands behind an else may be a conditional again
abbrev inner_tokens : List Piece
inner_tokens = at Name 12 13 ∷ at If 14 16 ∷ at Name 17 18 ∷ at Else 19 23 ∷ at Name 24 25 ∷ []

chain : Written (codes "a if b else c if a else b") true 2 1 (choice a b (choice c a b)) (at Name 0 1 ∷ at If 2 4 ∷ at Name 5 6 ∷ at Else 7 11 ∷ inner_tokens)
chain =
    written_choice true 1 1 a b (choice c a b) (at Name 0 1 ∷ []) (at Name 5 6 ∷ []) inner_tokens (at If 2 4) (at Else 7 11) (omega arith)
    (written_name true 1 2 (codes "a") (at Name 0 1) refl refl) refl (written_name true 1 2 (codes "b") (at Name 5 6) refl refl) refl
    (written_choice true 0 1 c a b (at Name 12 13 ∷ []) (at Name 17 18 ∷ []) (at Name 24 25 ∷ []) (at If 14 16) (at Else 19 23) (omega arith)
    (written_name true 0 2 (codes "c") (at Name 12 13) refl refl) refl (written_name true 0 2 (codes "a") (at Name 17 18) refl refl) refl (written_name true 0 1 (codes "b") (at Name 24 25) refl refl))

-- a comparison has no comparison beside it, and the levels that are not there are missed
comparisons : expression (codes "a<b<c") true 2 (five (Between Less) (Between Less)) ≡ NoForm
unfolding reads_by
comparisons = refl

product_with_one_level : expression (codes "a-b*c") true 1 (five Minus (Between Mul)) ≡ TooDeep
unfolding reads_by
product_with_one_level = refl
