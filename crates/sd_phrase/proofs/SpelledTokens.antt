-- Tokens that spell an expression: their brackets close what they open, and a comma stands only inside brackets.
use Rattle.std.proofs.Common.{arith, ◌≡◌, refl, ap, length, length-append, ℕ, ℤ, zero, ◌-◌, ◌<◌, List, [], ◌∷◌, ◌++◌, subst}
use Rattle.std.specs.Prelude.{Option}
use Rattle.sd_lex.specs.PlainTree.{Expression, Expressions}
use Rattle.sd_phrase.specs.declared.reading.Reading.TheVariants.{TooDeep}
use Rattle.sd_phrase.specs.declared.word.Bracket.TheVariants.{Round, Square}
use Rattle.sd_phrase.specs.declared.word.Mark.TheVariants.{Comma}
use Rattle.sd_phrase.specs.declared.word.Piece.{Piece}
use Rattle.sd_phrase.specs.declared.word.Word.TheVariants.{Number, If, Else, Stop, Open}
use Rattle.sd_phrase.specs.Signs.{depth_after}
use Rattle.sd_phrase.specs.ExpressionReading.{Reader, reads_by}
use Rattle.sd_phrase.specs.Printing.{word_between, word_before, is_variable, Spells, spelled_number, spelled_name, spelled_element, spelled_one, spelled_two, spelled_call, spelled_choice, SpellsOperand, in_parentheses, SpellsEach, spelled_last, spelled_more}
use Rattle.sd_phrase.proofs.BracketLemmas.{Keeps, keeps_both, keeps_brackets}
use Rattle.sd_phrase.proofs.OperandLemmas.{IsOperand, HasNoComma, IsFlat, flat_word, flat_variable, flat_between, flat_before, operand_brackets, no_comma_flat, no_comma_nil, no_comma_both, no_comma_brackets}
use Rattle.sd_phrase.proofs.LevelLemmas.{too_deep, deep_parenthesis}

keeps_token : (t : Piece) (ts : List Piece) → depth_after t.word 1 ≡ 1 → Keeps 0 ts → Keeps 0 (t ∷ ts)
keeps_token t ts d k =
    let e : 0 ≡ depth_after t.word 1 - 1 = omega arith in
    (omega arith, subst (λ n. Keeps n ts) e k)

pub keeps_flat : (t : Piece) (ts : List Piece) → IsFlat t.word → Keeps 0 ts → Keeps 0 (t ∷ ts)
keeps_flat t ts f k = keeps_token t ts (f 1).0 k

pub keeps_comma : (t : Piece) (ts : List Piece) → t.word ≡ Stop Comma → Keeps 0 ts → Keeps 0 (t ∷ ts)
keeps_comma t ts e k = keeps_token t ts (ap (λ w. depth_after w 1) e) k

pub flat_number : (value : ℤ) → IsFlat (Number value)
flat_number value depth = (refl, refl)

pub flat_if : IsFlat If
flat_if depth = (refl, refl)

pub flat_else : IsFlat Else
flat_else depth = (refl, refl)

mutual
  pub spelled_keeps : (text : List ℕ) (tree : Expression) (ts : List Piece) → Spells text tree ts → Keeps 0 ts
  spelled_keeps text tree ts (spelled_number value t e) = keeps_flat t [] (flat_word t.word (Number value) e (flat_number value)) refl
  spelled_keeps text tree ts (spelled_name name t h e) = keeps_flat t [] (flat_variable t.word h) refl
  spelled_keeps text tree ts (spelled_element name at t opening closing inside h e f s g) =
      keeps_flat t (opening ∷ inside ++ closing ∷ []) (flat_variable t.word h) (keeps_brackets Square Square opening closing inside f g (each_keeps text at inside s))
  spelled_keeps text tree ts (spelled_one sign of t back e s) = keeps_flat t back (flat_word t.word (word_before sign) e (flat_before sign)) (operand_keeps text of back s)
  spelled_keeps text tree ts (spelled_two sign left right front back t c s e r) =
      keeps_both front (t ∷ back) 0 (operand_keeps text left front s) (keeps_flat t back (flat_word t.word (word_between sign) e (flat_between sign)) (operand_keeps text right back r))
  spelled_keeps text tree ts (spelled_call sign left right t opening comma closing front back c e f s g r h) =
      keeps_flat t (opening ∷ (front ++ comma ∷ back) ++ closing ∷ []) (flat_variable t.word (ap is_variable e))
      (keeps_brackets Round Round opening closing (front ++ comma ∷ back) f h (keeps_both front (comma ∷ back) 0 (spelled_keeps text left front s) (keeps_comma comma back g (spelled_keeps text right back r))))
  spelled_keeps text tree ts (spelled_choice value when other front middle back t u s e r f q) =
      keeps_both front (t ∷ (middle ++ u ∷ back)) 0 (operand_keeps text value front s) (keeps_flat t (middle ++ u ∷ back) (flat_word t.word If e flat_if)
      (keeps_both middle (u ∷ back) 0 (operand_keeps text when middle r) (keeps_flat u back (flat_word u.word Else f flat_else) (operand_keeps text other back q))))

  operand_keeps : (text : List ℕ) (tree : Expression) (ts : List Piece) → SpellsOperand text tree ts → Keeps 0 ts
  operand_keeps text tree ts (in_parentheses inner opening closing inside e s f) = keeps_brackets Round Round opening closing inside e f (spelled_keeps text inner inside s)

  pub each_keeps : (text : List ℕ) (trees : Expressions) (ts : List Piece) → SpellsEach text trees ts → Keeps 0 ts
  each_keeps text trees ts (spelled_last tree us s) = spelled_keeps text tree us s
  each_keeps text trees ts (spelled_more tree rest front back comma s e r) =
      keeps_both front (comma ∷ back) 0 (spelled_keeps text tree front s) (keeps_comma comma back e (each_keeps text rest back r))

pub call_keeps : (text : List ℕ) (left right : Expression) (front back : List Piece) (comma : Piece) → Spells text left front → comma.word ≡ Stop Comma → Spells text right back →
    Keeps 0 (front ++ comma ∷ back)
call_keeps text left right front back comma s e r = keeps_both front (comma ∷ back) 0 (spelled_keeps text left front s) (keeps_comma comma back e (spelled_keeps text right back r))

-- an operand is passed over as an atom, has no comma outside brackets and is too deep where no level is left
pub operand_passes : (text : List ℕ) (tree : Expression) (ts : List Piece) → SpellsOperand text tree ts → IsOperand ts
operand_passes text tree ts (in_parentheses inner opening closing inside e s f) = operand_brackets Round Round opening closing inside e f (spelled_keeps text inner inside s)

operand_commas : (text : List ℕ) (tree : Expression) (ts : List Piece) → SpellsOperand text tree ts → HasNoComma ts
operand_commas text tree ts (in_parentheses inner opening closing inside e s f) = no_comma_brackets Round Round opening closing inside e f (spelled_keeps text inner inside s)

pub operand_filled : (text : List ℕ) (tree : Expression) (ts : List Piece) → SpellsOperand text tree ts → 0 < length ts
operand_filled text tree ts (in_parentheses inner opening closing inside e s f) = omega arith

pub operand_too_deep : (text : List ℕ) (tree : Expression) (ts : List Piece) → SpellsOperand text tree ts → (own : Option Reader) (rank : ℕ) (rest : List Piece) →
    reads_by text own zero rank (ts ++ rest) ≡ TooDeep
operand_too_deep text tree ts (in_parentheses inner opening closing inside e s f) own rank rest =
    too_deep text own rank opening ((inside ++ closing ∷ []) ++ rest) (Open Round) e deep_parenthesis
    (omega (arith, length-append (inside ++ closing ∷ []) rest, length-append inside (closing ∷ [])))

pub spelled_commas : (text : List ℕ) (tree : Expression) (ts : List Piece) → Spells text tree ts → HasNoComma ts
spelled_commas text tree ts (spelled_number value t e) = no_comma_flat t [] (flat_word t.word (Number value) e (flat_number value)) no_comma_nil
spelled_commas text tree ts (spelled_name name t h e) = no_comma_flat t [] (flat_variable t.word h) no_comma_nil
spelled_commas text tree ts (spelled_element name at t opening closing inside h e f s g) =
    no_comma_flat t (opening ∷ inside ++ closing ∷ []) (flat_variable t.word h) (no_comma_brackets Square Square opening closing inside f g (each_keeps text at inside s))
spelled_commas text tree ts (spelled_one sign of t back e s) = no_comma_flat t back (flat_word t.word (word_before sign) e (flat_before sign)) (operand_commas text of back s)
spelled_commas text tree ts (spelled_two sign left right front back t c s e r) =
    no_comma_both front (t ∷ back) (operand_commas text left front s) (no_comma_flat t back (flat_word t.word (word_between sign) e (flat_between sign)) (operand_commas text right back r))
spelled_commas text tree ts (spelled_call sign left right t opening comma closing front back c e f s g r h) =
    no_comma_flat t (opening ∷ (front ++ comma ∷ back) ++ closing ∷ []) (flat_variable t.word (ap is_variable e))
    (no_comma_brackets Round Round opening closing (front ++ comma ∷ back) f h (call_keeps text left right front back comma s g r))
spelled_commas text tree ts (spelled_choice value when other front middle back t u s e r f q) =
    no_comma_both front (t ∷ (middle ++ u ∷ back)) (operand_commas text value front s) (no_comma_flat t (middle ++ u ∷ back) (flat_word t.word If e flat_if)
    (no_comma_both middle (u ∷ back) (operand_commas text when middle r) (no_comma_flat u back (flat_word u.word Else f flat_else) (operand_commas text other back q))))
