-- Tokens of the grammar: their brackets close what they open, a comma stands only inside brackets, and they are cut at their operator.
use Rattle.std.proofs.Common.{arith, ◌≡◌, refl, ap, ℕ, ◌+◌, List, [], ◌∷◌, ◌++◌, Bool, true, false}
use Rattle.sd_lex.specs.PlainTree.{Expression, Expressions}
use Rattle.sd_lex.specs.declared.syntax.operator.OneSign.{OneSign}
use Rattle.sd_lex.specs.declared.syntax.operator.TwoSign.{TwoSign}
use Rattle.sd_phrase.specs.declared.word.Bracket.TheVariants.{Round, Square}
use Rattle.sd_phrase.specs.declared.word.Mark.TheVariants.{Comma}
use Rattle.sd_phrase.specs.declared.word.Piece.{Piece}
use Rattle.sd_phrase.specs.declared.word.Sign.TheVariants.{If as If_sign, Else as Else_sign, One, Two}
use Rattle.sd_phrase.specs.declared.word.Word.TheVariants.{Number, Callee, If, Else, Stop, Open, Close}
use Rattle.sd_phrase.specs.Signs.{rank_of_one, rank_of_two}
use Rattle.sd_phrase.specs.Printing.{word_between, word_before, is_variable}
use Rattle.sd_phrase.specs.Grammar.{rank_before, Written, written_number, written_name, written_element_of_body, written_element_of_tasklet, written_in_parentheses, written_one, written_two, written_call, written_choice, WrittenEach, written_last, written_more}
use Rattle.sd_phrase.proofs.BracketLemmas.{Keeps, keeps_both, keeps_brackets}
use Rattle.sd_phrase.proofs.OperandLemmas.{IsOperand, HasNoComma, IsSign, flat_word, flat_variable, flat_between, flat_before, operand_brackets, operand_variable, operand_number, operand_behind, sign_word, between_is_sign, before_is_sign, if_is_sign, else_is_sign, no_comma_flat, no_comma_nil, no_comma_both, no_comma_brackets}
use Rattle.sd_phrase.proofs.SpelledTokens.{keeps_flat, keeps_comma, flat_number, flat_if, flat_else}
use Rattle.sd_phrase.proofs.RankLemmas.{rank_before_keeps, Under, operand_under, sign_under, before_under}

mutual
  pub written_keeps : (text : List ℕ) (in_body : Bool) (levels rank : ℕ) (tree : Expression) (ts : List Piece) → Written text in_body levels rank tree ts → Keeps 0 ts
  written_keeps text in_body levels rank tree ts (written_number b n r value t e) = keeps_flat t [] (flat_word t.word (Number value) e (flat_number value)) refl
  written_keeps text in_body levels rank tree ts (written_name b n r name t h e) = keeps_flat t [] (flat_variable t.word h) refl
  written_keeps text in_body levels rank tree ts (written_element_of_body n r name at t opening closing inside h e f s g) =
      keeps_flat t (opening ∷ inside ++ closing ∷ []) (flat_variable t.word h) (keeps_brackets Square Square opening closing inside f g (written_each_keeps text 64 at inside s))
  written_keeps text in_body levels rank tree ts (written_element_of_tasklet n r name at t opening closing inside h e f s g) =
      keeps_flat t (opening ∷ inside ++ closing ∷ []) (flat_variable t.word h) (keeps_brackets Square Square opening closing inside f g (written_each_keeps text n at inside s))
  written_keeps text in_body levels rank tree ts (written_in_parentheses b n r inner opening closing inside e s f) = keeps_brackets Round Round opening closing inside e f (written_keeps text b n 1 inner inside s)
  written_keeps text in_body levels rank tree ts (written_one b n r sign of t back l e s) =
      keeps_flat t back (flat_word t.word (word_before sign) e (flat_before sign)) (written_keeps text b n (rank_of_one sign) of back s)
  written_keeps text in_body levels rank tree ts (written_two b n r sign left right front back t c l s e q) =
      keeps_both front (t ∷ back) 0 (written_keeps text b n (rank_before sign) left front s)
      (keeps_flat t back (flat_word t.word (word_between sign) e (flat_between sign)) (written_keeps text b n (rank_of_two sign + 1) right back q))
  written_keeps text in_body levels rank tree ts (written_call b n r sign left right t opening comma closing front back c e f s g q h) =
      keeps_flat t (opening ∷ (front ++ comma ∷ back) ++ closing ∷ []) (flat_variable t.word (ap is_variable e))
      (keeps_brackets Round Round opening closing (front ++ comma ∷ back) f h (keeps_both front (comma ∷ back) 0 (written_keeps text b n 1 left front s) (keeps_comma comma back g (written_keeps text b n 1 right back q))))
  written_keeps text in_body levels rank tree ts (written_choice b n r value when other front middle back t u l s e q f p) =
      keeps_both front (t ∷ (middle ++ u ∷ back)) 0 (written_keeps text b n 2 value front s) (keeps_flat t (middle ++ u ∷ back) (flat_word t.word If e flat_if)
      (keeps_both middle (u ∷ back) 0 (written_keeps text b n 2 when middle q) (keeps_flat u back (flat_word u.word Else f flat_else) (written_keeps text b n 1 other back p))))

  pub written_each_keeps : (text : List ℕ) (levels : ℕ) (trees : Expressions) (ts : List Piece) → WrittenEach text levels trees ts → Keeps 0 ts
  written_each_keeps text levels trees ts (written_last n tree us s) = written_keeps text false n 1 tree us s
  written_each_keeps text levels trees ts (written_more n tree rest front back comma s e q) =
      keeps_both front (comma ∷ back) 0 (written_keeps text false n 1 tree front s) (keeps_comma comma back e (written_each_keeps text n rest back q))

pub written_call_keeps : (text : List ℕ) (in_body : Bool) (levels : ℕ) (left right : Expression) (front back : List Piece) (comma : Piece) →
    Written text in_body levels 1 left front → comma.word ≡ Stop Comma → Written text in_body levels 1 right back → Keeps 0 (front ++ comma ∷ back)
written_call_keeps text in_body levels left right front back comma s e r =
    keeps_both front (comma ∷ back) 0 (written_keeps text in_body levels 1 left front s) (keeps_comma comma back e (written_keeps text in_body levels 1 right back r))

pub written_commas : (text : List ℕ) (in_body : Bool) (levels rank : ℕ) (tree : Expression) (ts : List Piece) → Written text in_body levels rank tree ts → HasNoComma ts
written_commas text in_body levels rank tree ts (written_number b n r value t e) = no_comma_flat t [] (flat_word t.word (Number value) e (flat_number value)) no_comma_nil
written_commas text in_body levels rank tree ts (written_name b n r name t h e) = no_comma_flat t [] (flat_variable t.word h) no_comma_nil
written_commas text in_body levels rank tree ts (written_element_of_body n r name at t opening closing inside h e f s g) =
    no_comma_flat t (opening ∷ inside ++ closing ∷ []) (flat_variable t.word h) (no_comma_brackets Square Square opening closing inside f g (written_each_keeps text 64 at inside s))
written_commas text in_body levels rank tree ts (written_element_of_tasklet n r name at t opening closing inside h e f s g) =
    no_comma_flat t (opening ∷ inside ++ closing ∷ []) (flat_variable t.word h) (no_comma_brackets Square Square opening closing inside f g (written_each_keeps text n at inside s))
written_commas text in_body levels rank tree ts (written_in_parentheses b n r inner opening closing inside e s f) =
    no_comma_brackets Round Round opening closing inside e f (written_keeps text b n 1 inner inside s)
written_commas text in_body levels rank tree ts (written_one b n r sign of t back l e s) =
    no_comma_flat t back (flat_word t.word (word_before sign) e (flat_before sign)) (written_commas text b n (rank_of_one sign) of back s)
written_commas text in_body levels rank tree ts (written_two b n r sign left right front back t c l s e q) =
    no_comma_both front (t ∷ back) (written_commas text b n (rank_before sign) left front s)
    (no_comma_flat t back (flat_word t.word (word_between sign) e (flat_between sign)) (written_commas text b n (rank_of_two sign + 1) right back q))
written_commas text in_body levels rank tree ts (written_call b n r sign left right t opening comma closing front back c e f s g q h) =
    no_comma_flat t (opening ∷ (front ++ comma ∷ back) ++ closing ∷ []) (flat_variable t.word (ap is_variable e))
    (no_comma_brackets Round Round opening closing (front ++ comma ∷ back) f h (written_call_keeps text b n left right front back comma s g q))
written_commas text in_body levels rank tree ts (written_choice b n r value when other front middle back t u l s e q f p) =
    no_comma_both front (t ∷ (middle ++ u ∷ back)) (written_commas text b n 2 value front s) (no_comma_flat t (middle ++ u ∷ back) (flat_word t.word If e flat_if)
    (no_comma_both middle (u ∷ back) (written_commas text b n 2 when middle q) (no_comma_flat u back (flat_word u.word Else f flat_else) (written_commas text b n 1 other back p))))

-- what brackets hold together is passed over as an atom
pub element_passes : (text : List ℕ) (levels : ℕ) (at : Expressions) (t opening closing : Piece) (inside : List Piece) → is_variable t.word ≡ true →
    opening.word ≡ Open Square → WrittenEach text levels at inside → closing.word ≡ Close Square → IsOperand (t ∷ opening ∷ inside ++ closing ∷ [])
element_passes text levels at t opening closing inside h f s g =
    operand_behind t (opening ∷ inside ++ closing ∷ []) h (operand_brackets Square Square opening closing inside f g (written_each_keeps text levels at inside s))

pub parentheses_pass : (text : List ℕ) (in_body : Bool) (levels : ℕ) (tree : Expression) (opening closing : Piece) (inside : List Piece) →
    opening.word ≡ Open Round → Written text in_body levels 1 tree inside → closing.word ≡ Close Round → IsOperand (opening ∷ inside ++ closing ∷ [])
parentheses_pass text in_body levels tree opening closing inside e s f = operand_brackets Round Round opening closing inside e f (written_keeps text in_body levels 1 tree inside s)

pub call_passes : (text : List ℕ) (in_body : Bool) (levels : ℕ) (sign : TwoSign) (left right : Expression) (t opening comma closing : Piece) (front back : List Piece) → t.word ≡ Callee sign →
    opening.word ≡ Open Round → Written text in_body levels 1 left front → comma.word ≡ Stop Comma → Written text in_body levels 1 right back → closing.word ≡ Close Round →
    IsOperand (t ∷ opening ∷ (front ++ comma ∷ back) ++ closing ∷ [])
call_passes text in_body levels sign left right t opening comma closing front back e f s g r h =
    operand_behind t (opening ∷ (front ++ comma ∷ back) ++ closing ∷ []) (ap is_variable e)
    (operand_brackets Round Round opening closing (front ++ comma ∷ back) f h (written_call_keeps text in_body levels left right front back comma s g r))

pub between_word : (t : Piece) (sign : TwoSign) → t.word ≡ word_between sign → IsSign t.word true (Two sign)
between_word t sign e = sign_word t.word (word_between sign) true (Two sign) e (between_is_sign sign)

pub before_word : (t : Piece) (sign : OneSign) → t.word ≡ word_before sign → IsSign t.word false (One sign)
before_word t sign e = sign_word t.word (word_before sign) false (One sign) e (before_is_sign sign)

pub if_word : (t : Piece) → t.word ≡ If → IsSign t.word true If_sign
if_word t e = sign_word t.word If true If_sign e if_is_sign

pub else_word : (t : Piece) → t.word ≡ Else → IsSign t.word true Else_sign
else_word t e = sign_word t.word Else true Else_sign e else_is_sign

pub written_under : (text : List ℕ) (in_body : Bool) (levels rank : ℕ) (tree : Expression) (ts : List Piece) → Written text in_body levels rank tree ts → Under rank ts
written_under text in_body levels rank tree ts (written_number b n r value t e) = operand_under r (t ∷ []) (operand_number t value e)
written_under text in_body levels rank tree ts (written_name b n r name t h e) = operand_under r (t ∷ []) (operand_variable t h)
written_under text in_body levels rank tree ts (written_element_of_body n r name at t opening closing inside h e f s g) =
    operand_under r (t ∷ opening ∷ inside ++ closing ∷ []) (element_passes text 64 at t opening closing inside h f s g)
written_under text in_body levels rank tree ts (written_element_of_tasklet n r name at t opening closing inside h e f s g) =
    operand_under r (t ∷ opening ∷ inside ++ closing ∷ []) (element_passes text n at t opening closing inside h f s g)
written_under text in_body levels rank tree ts (written_in_parentheses b n r inner opening closing inside e s f) =
    operand_under r (opening ∷ inside ++ closing ∷ []) (parentheses_pass text b n inner opening closing inside e s f)
written_under text in_body levels rank tree ts (written_one b n r sign of t back l e s) =
    before_under r (rank_of_one sign) back t (One sign) l l (before_word t sign e) (written_under text b n (rank_of_one sign) of back s)
written_under text in_body levels rank tree ts (written_two b n r sign left right front back t c l s e q) =
    let k = rank_before_keeps sign in
    sign_under r (rank_before sign) (rank_of_two sign + 1) front back t (Two sign) l (omega arith) (omega arith)
    (written_under text b n (rank_before sign) left front s) (between_word t sign e) (written_under text b n (rank_of_two sign + 1) right back q)
written_under text in_body levels rank tree ts (written_call b n r sign left right t opening comma closing front back c e f s g q h) =
    operand_under r (t ∷ opening ∷ (front ++ comma ∷ back) ++ closing ∷ []) (call_passes text b n sign left right t opening comma closing front back e f s g q h)
written_under text in_body levels rank tree ts (written_choice b n r value when other front middle back t u l s e q f p) =
    sign_under r 2 1 front (middle ++ u ∷ back) t If_sign l (omega arith) l (written_under text b n 2 value front s) (if_word t e)
    (sign_under 1 2 1 middle back u Else_sign (omega arith) (omega arith) (omega arith) (written_under text b n 2 when middle q) (else_word u f) (written_under text b n 1 other back p))
