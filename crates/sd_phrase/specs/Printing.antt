-- Tokens that spell an expression with all its parentheses: each operand of an operator and each part of a conditional
-- stands in a pair of them, and the parts of a call and the subscripts of an element stand between commas.
use Rattle.std.specs.Prelude.{◌≡◌, ℕ, zero, suc, ℤ, List, [], ◌∷◌, ◌++◌, Bool, true, false, ◌&&◌, if◌then◌else◌}
use Rattle.sd_lex.specs.PlainTree.{Expression, number, named, element_at, one, two, choice, Expressions, no_expression, and_expression}
use Rattle.sd_lex.specs.declared.syntax.operator.OneSign.{OneSign}
use Rattle.sd_lex.specs.declared.syntax.operator.OneSign.TheVariants.{Neg}
use Rattle.sd_lex.specs.declared.syntax.operator.TwoSign.{TwoSign}
use Rattle.sd_lex.specs.declared.syntax.operator.TwoSign.TheVariants.{Sub, Min, Max}
use Rattle.sd_phrase.specs.declared.reading.Reading.{Reading}
use Rattle.sd_phrase.specs.declared.reading.Reading.TheVariants.{TooDeep, Form}
use Rattle.sd_phrase.specs.declared.word.Bracket.TheVariants.{Round, Square}
use Rattle.sd_phrase.specs.declared.word.Mark.TheVariants.{Comma}
use Rattle.sd_phrase.specs.declared.word.Piece.{Piece}
use Rattle.sd_phrase.specs.declared.word.Word.{Word}
use Rattle.sd_phrase.specs.declared.word.Word.TheVariants.{Number, Name, Callee, Between, Before, Minus, If, Else, Stop, Open, Close}
use Rattle.sd_phrase.specs.Words.{spelling}

-- the word of an operator between its operands
abbrev pub word_between : TwoSign → Word
word_between Sub = Minus
word_between sign = Between sign

-- the word of an operator before its operand
abbrev pub word_before : OneSign → Word
word_before Neg = Minus
word_before sign = Before sign

-- min and max are written as calls
abbrev pub is_call : TwoSign → Bool
is_call Min = true
is_call Max = true
is_call sign = false

-- the word of a name that may stand for a value; `min` and `max` are such names where no bracket follows
abbrev pub is_variable : Word → Bool
is_variable Name = true
is_variable (Callee sign) = true
is_variable word = false

mutual
  -- tokens that spell an expression
  pub data Spells (text : List ℕ) : Expression → List Piece → Type 0 where
    -- 1
    spelled_number : (value : ℤ) (t : Piece) → t.word ≡ Number value → Spells text (number value) (t ∷ [])
    -- x
    spelled_name : (name : List ℕ) (t : Piece) → is_variable t.word ≡ true → spelling text t ≡ name → Spells text (named name) (t ∷ [])
    -- x[e, f]
    spelled_element : (name : List ℕ) (at : Expressions) (t opening closing : Piece) (inside : List Piece) → is_variable t.word ≡ true → spelling text t ≡ name →
        opening.word ≡ Open Square → SpellsEach text at inside → closing.word ≡ Close Square → Spells text (element_at name at) (t ∷ opening ∷ inside ++ closing ∷ [])
    -- -(e)
    spelled_one : (sign : OneSign) (of : Expression) (t : Piece) (back : List Piece) → t.word ≡ word_before sign → SpellsOperand text of back → Spells text (one sign of) (t ∷ back)
    -- (e) + (f)
    spelled_two : (sign : TwoSign) (left right : Expression) (front back : List Piece) (t : Piece) → is_call sign ≡ false →
        SpellsOperand text left front → t.word ≡ word_between sign → SpellsOperand text right back → Spells text (two sign left right) (front ++ t ∷ back)
    -- min(e, f)
    spelled_call : (sign : TwoSign) (left right : Expression) (t opening comma closing : Piece) (front back : List Piece) → is_call sign ≡ true →
        t.word ≡ Callee sign → opening.word ≡ Open Round → Spells text left front → comma.word ≡ Stop Comma → Spells text right back → closing.word ≡ Close Round →
        Spells text (two sign left right) (t ∷ opening ∷ (front ++ comma ∷ back) ++ closing ∷ [])
    -- (e) if (f) else (g)
    spelled_choice : (value when other : Expression) (front middle back : List Piece) (t u : Piece) →
        SpellsOperand text value front → t.word ≡ If → SpellsOperand text when middle → u.word ≡ Else → SpellsOperand text other back →
        Spells text (choice value when other) (front ++ t ∷ (middle ++ u ∷ back))

  -- tokens that spell an expression in a pair of parentheses
  pub data SpellsOperand (text : List ℕ) : Expression → List Piece → Type 0 where
    -- (e)
    in_parentheses : (tree : Expression) (opening closing : Piece) (inside : List Piece) → opening.word ≡ Open Round → Spells text tree inside → closing.word ≡ Close Round →
        SpellsOperand text tree (opening ∷ inside ++ closing ∷ [])

  -- tokens that spell expressions between commas
  pub data SpellsEach (text : List ℕ) : Expressions → List Piece → Type 0 where
    -- e
    spelled_last : (tree : Expression) (ts : List Piece) → Spells text tree ts → SpellsEach text (and_expression tree no_expression) ts
    -- e, f, g
    spelled_more : (tree : Expression) (trees : Expressions) (front back : List Piece) (comma : Piece) →
        Spells text tree front → comma.word ≡ Stop Comma → SpellsEach text trees back → SpellsEach text (and_expression tree trees) (front ++ comma ∷ back)

-- where so many levels are spent, what is left must be enough
abbrev pub spend : (cost levels : ℕ) → (enough : ℕ → Bool) → Bool
spend zero levels enough = enough levels
spend (suc cost) zero enough = false
spend (suc cost) (suc levels) enough = spend cost levels enough

abbrev mutual
  -- whether the levels are enough for the expression so spelled: an operator or a conditional takes one and the parentheses round its
  -- operands another, a call takes one, and so do the subscripts of an element, which in a body have levels of their own
  pub fits : (in_body : Bool) → (levels : ℕ) → Expression → Bool
  fits in_body levels (number value) = true
  fits in_body levels (named name) = true
  fits true levels (element_at name at) = fit_each 64 at
  fits false levels (element_at name at) = spend 1 levels (λ left. fit_each left at)
  fits in_body levels (one sign of) = spend 2 levels (λ left. fits in_body left of)
  fits in_body levels (two sign a b) = spend (if is_call sign then 1 else 2) levels (λ left. fits in_body left a && fits in_body left b)
  fits in_body levels (choice value when other) = spend 2 levels (λ left. fits in_body left value && (fits in_body left when && fits in_body left other))

  -- whether the levels are enough for each subscript
  pub fit_each : (levels : ℕ) → Expressions → Bool
  fit_each levels no_expression = true
  fit_each levels (and_expression tree trees) = fits false levels tree && fit_each levels trees

-- the tree itself where the levels are enough, and too deep otherwise
abbrev pub read_back : (enough : Bool) → Expression → Reading Expression
read_back enough tree = if enough then Form tree else TooDeep
