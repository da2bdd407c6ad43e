-- The grammar of expressions, as the tokens that are written for a tree. From the loosest to the tightest: `x if c else y`, or, and, not, one comparison,
-- |, ^, &, + and -, * // and %, - and ~ before an operand, and what brackets hold together. Operators of one rank group to the left, and a comparison
-- has no comparison beside it.
use Rattle.std.specs.Prelude.{◌≡◌, ℕ, suc, ℤ, ◌+◌, ◌≤◌, List, [], ◌∷◌, ◌++◌, Bool, true, false, ◌&&◌, nat_lt, if◌then◌else◌}
use Rattle.sd_lex.specs.PlainTree.{Expression, number, named, element_at, one, two, choice, Expressions, no_expression, and_expression}
use Rattle.sd_lex.specs.declared.syntax.operator.OneSign.{OneSign}
use Rattle.sd_lex.specs.declared.syntax.operator.TwoSign.{TwoSign}
use Rattle.sd_lex.specs.declared.syntax.operator.TwoSign.TheVariants.{Less, LessEqual, Greater, GreaterEqual, Equal, Differ}
use Rattle.sd_phrase.specs.declared.reading.Reading.{Reading}
use Rattle.sd_phrase.specs.declared.reading.Reading.TheVariants.{NoForm, Form}
use Rattle.sd_phrase.specs.declared.word.Bracket.TheVariants.{Round, Square}
use Rattle.sd_phrase.specs.declared.word.Mark.TheVariants.{Comma}
use Rattle.sd_phrase.specs.declared.word.Piece.{Piece}
use Rattle.sd_phrase.specs.declared.word.Word.TheVariants.{Number, Callee, If, Else, Stop, Open, Close}
use Rattle.sd_phrase.specs.Words.{spelling}
use Rattle.sd_phrase.specs.Signs.{rank_of_one, rank_of_two}
use Rattle.sd_phrase.specs.Printing.{word_between, word_before, is_call, is_variable}

-- the operators of the rank of comparisons
abbrev pub is_comparison : TwoSign → Bool
is_comparison Less = true
is_comparison LessEqual = true
is_comparison Greater = true
is_comparison GreaterEqual = true
is_comparison Equal = true
is_comparison Differ = true
is_comparison sign = false

-- the rank of what stands before an operator: its own, and for a comparison the next tighter one
abbrev pub rank_before : TwoSign → ℕ
rank_before sign = if is_comparison sign then rank_of_two sign + 1 else rank_of_two sign

mutual
  -- tokens of a body or of a tasklet that are written for a tree, with no sign outside brackets that is looser than the rank, and at most so many operators,
  -- brackets, calls and conditionals round anything in it; in a body the subscripts of an element are expressions of their own
  pub data Written (text : List ℕ) : (in_body : Bool) → (levels rank : ℕ) → Expression → List Piece → Type 0 where
    -- 1
    written_number : (in_body : Bool) (levels rank : ℕ) (value : ℤ) (t : Piece) → t.word ≡ Number value → Written text in_body levels rank (number value) (t ∷ [])
    -- x
    written_name : (in_body : Bool) (levels rank : ℕ) (name : List ℕ) (t : Piece) → is_variable t.word ≡ true → spelling text t ≡ name → Written text in_body levels rank (named name) (t ∷ [])
    -- x[e, f] in a body
    written_element_of_body : (levels rank : ℕ) (name : List ℕ) (at : Expressions) (t opening closing : Piece) (inside : List Piece) → is_variable t.word ≡ true → spelling text t ≡ name →
        opening.word ≡ Open Square → WrittenEach text 64 at inside → closing.word ≡ Close Square → Written text true levels rank (element_at name at) (t ∷ opening ∷ inside ++ closing ∷ [])
    -- x[e, f] in a tasklet, where the subscripts take a level
    written_element_of_tasklet : (levels rank : ℕ) (name : List ℕ) (at : Expressions) (t opening closing : Piece) (inside : List Piece) → is_variable t.word ≡ true → spelling text t ≡ name →
        opening.word ≡ Open Square → WrittenEach text levels at inside → closing.word ≡ Close Square → Written text false (suc levels) rank (element_at name at) (t ∷ opening ∷ inside ++ closing ∷ [])
    -- (e), of any rank
    written_in_parentheses : (in_body : Bool) (levels rank : ℕ) (tree : Expression) (opening closing : Piece) (inside : List Piece) →
        opening.word ≡ Open Round → Written text in_body levels 1 tree inside → closing.word ≡ Close Round → Written text in_body (suc levels) rank tree (opening ∷ inside ++ closing ∷ [])
    -- -e
    written_one : (in_body : Bool) (levels rank : ℕ) (sign : OneSign) (of : Expression) (t : Piece) (back : List Piece) → rank ≤ rank_of_one sign →
        t.word ≡ word_before sign → Written text in_body levels (rank_of_one sign) of back → Written text in_body (suc levels) rank (one sign of) (t ∷ back)
    -- e + f
    written_two : (in_body : Bool) (levels rank : ℕ) (sign : TwoSign) (left right : Expression) (front back : List Piece) (t : Piece) → is_call sign ≡ false → rank ≤ rank_of_two sign →
        Written text in_body levels (rank_before sign) left front → t.word ≡ word_between sign → Written text in_body levels (rank_of_two sign + 1) right back →
        Written text in_body (suc levels) rank (two sign left right) (front ++ t ∷ back)
    -- min(e, f), of any rank
    written_call : (in_body : Bool) (levels rank : ℕ) (sign : TwoSign) (left right : Expression) (t opening comma closing : Piece) (front back : List Piece) → is_call sign ≡ true →
        t.word ≡ Callee sign → opening.word ≡ Open Round → Written text in_body levels 1 left front → comma.word ≡ Stop Comma → Written text in_body levels 1 right back → closing.word ≡ Close Round →
        Written text in_body (suc levels) rank (two sign left right) (t ∷ opening ∷ (front ++ comma ∷ back) ++ closing ∷ [])
    -- e if f else g
    written_choice : (in_body : Bool) (levels rank : ℕ) (value when other : Expression) (front middle back : List Piece) (t u : Piece) → rank ≤ 1 →
        Written text in_body levels 2 value front → t.word ≡ If → Written text in_body levels 2 when middle → u.word ≡ Else → Written text in_body levels 1 other back →
        Written text in_body (suc levels) rank (choice value when other) (front ++ t ∷ (middle ++ u ∷ back))

  -- tokens that are written for subscripts, with commas between them
  pub data WrittenEach (text : List ℕ) : (levels : ℕ) → Expressions → List Piece → Type 0 where
    -- e
    written_last : (levels : ℕ) (tree : Expression) (ts : List Piece) → Written text false levels 1 tree ts → WrittenEach text levels (and_expression tree no_expression) ts
    -- e, f, g
    written_more : (levels : ℕ) (tree : Expression) (trees : Expressions) (front back : List Piece) (comma : Piece) →
        Written text false levels 1 tree front → comma.word ≡ Stop Comma → WrittenEach text levels trees back → WrittenEach text levels (and_expression tree trees) (front ++ comma ∷ back)

-- the rank of what no operator outside brackets divides
abbrev pub undivided : ℕ
undivided = 12

-- what three operands with two operators between them are: the tighter operator joins first, of two of one rank the left one, and two comparisons are no form
abbrev pub grouped : (first second : TwoSign) → (a b c : Expression) → Reading Expression
grouped first second a b c =
    if nat_lt (rank_of_two first) (rank_of_two second) then Form (two first a (two second b c))
    else (if is_comparison first && is_comparison second then NoForm else Form (two second (two first a b) c))
