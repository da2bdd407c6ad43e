-- Where tokens of the grammar are cut: at the operator of their tree.
use Rattle.std.proofs.Common.{arith, ◌≡◌, length, ℕ, ◌+◌, List, [], ◌∷◌, ◌++◌, Bool}
use Rattle.sd_lex.specs.PlainTree.{Expression}
use Rattle.sd_lex.specs.declared.syntax.operator.OneSign.{OneSign}
use Rattle.sd_lex.specs.declared.syntax.operator.TwoSign.{TwoSign}
use Rattle.sd_phrase.specs.declared.word.Piece.{Piece}
use Rattle.sd_phrase.specs.declared.word.Sign.TheVariants.{If as If_sign, Else as Else_sign, One, Two}
use Rattle.sd_phrase.specs.declared.word.Word.TheVariants.{If, Else}
use Rattle.sd_phrase.specs.Signs.{rank_of_one, rank_of_two}
use Rattle.sd_phrase.specs.Printing.{word_between, word_before}
use Rattle.sd_phrase.specs.Grammar.{rank_before, Written, written_number, written_name, written_element_of_body, written_element_of_tasklet, written_in_parentheses, written_one, written_two, written_call, written_choice}
use Rattle.sd_phrase.proofs.OperandLemmas.{operand_variable, operand_number}
use Rattle.sd_phrase.proofs.RankLemmas.{two_stays, one_stays, if_stays, else_stays, two_cuts, if_cuts, else_cuts, Under, Alone, operand_alone, sign_under, CutAt, sign_cut, before_cut, cut_alone}
use Rattle.sd_phrase.proofs.WrittenTokens.{element_passes, parentheses_pass, call_passes, between_word, before_word, if_word, else_word, written_under}

pub two_cut : (sign : TwoSign) (front back : List Piece) (t : Piece) → Alone (rank_before sign) front → t.word ≡ word_between sign → Under (rank_of_two sign + 1) back →
    CutAt (length front) (Two sign) (front ++ t ∷ back)
two_cut sign front back t u e v = sign_cut (rank_before sign) (rank_of_two sign + 1) front back t (Two sign) (two_cuts sign) (two_stays sign) u (between_word t sign e) v

pub one_cut : (sign : OneSign) (back : List Piece) (t : Piece) → t.word ≡ word_before sign → Under (rank_of_one sign) back → CutAt 0 (One sign) (t ∷ back)
one_cut sign back t e v = before_cut (rank_of_one sign) back t (One sign) (one_stays sign) (before_word t sign e) v

pub else_cut : (middle back : List Piece) (u : Piece) → Alone 2 middle → u.word ≡ Else → Under 1 back → CutAt (length middle) Else_sign (middle ++ u ∷ back)
else_cut middle back u m f p = sign_cut 2 1 middle back u Else_sign else_cuts else_stays m (else_word u f) p

pub if_cut : (front middle back : List Piece) (t u : Piece) → Alone 2 front → t.word ≡ If → Under 2 middle → u.word ≡ Else → Under 1 back →
    CutAt (length front) If_sign (front ++ t ∷ (middle ++ u ∷ back))
if_cut front middle back t u a e m f p =
    sign_cut 2 1 front (middle ++ u ∷ back) t If_sign if_cuts if_stays a (if_word t e)
    (sign_under 1 2 1 middle back u Else_sign (omega arith) (omega arith) (omega arith) m (else_word u f) p)

pub written_alone : (text : List ℕ) (in_body : Bool) (levels rank : ℕ) (tree : Expression) (ts : List Piece) → Written text in_body levels rank tree ts → Alone rank ts
written_alone text in_body levels rank tree ts (written_number b n r value t e) = operand_alone r (t ∷ []) (operand_number t value e)
written_alone text in_body levels rank tree ts (written_name b n r name t h e) = operand_alone r (t ∷ []) (operand_variable t h)
written_alone text in_body levels rank tree ts (written_element_of_body n r name at t opening closing inside h e f s g) =
    operand_alone r (t ∷ opening ∷ inside ++ closing ∷ []) (element_passes text 64 at t opening closing inside h f s g)
written_alone text in_body levels rank tree ts (written_element_of_tasklet n r name at t opening closing inside h e f s g) =
    operand_alone r (t ∷ opening ∷ inside ++ closing ∷ []) (element_passes text n at t opening closing inside h f s g)
written_alone text in_body levels rank tree ts (written_in_parentheses b n r inner opening closing inside e s f) =
    operand_alone r (opening ∷ inside ++ closing ∷ []) (parentheses_pass text b n inner opening closing inside e s f)
written_alone text in_body levels rank tree ts (written_one b n r sign of t back l e s) =
    cut_alone 0 r (One sign) (t ∷ back) l (one_cut sign back t e (written_under text b n (rank_of_one sign) of back s))
written_alone text in_body levels rank tree ts (written_two b n r sign left right front back t c l s e q) =
    cut_alone (length front) r (Two sign) (front ++ t ∷ back) l
    (two_cut sign front back t (written_alone text b n (rank_before sign) left front s) e (written_under text b n (rank_of_two sign + 1) right back q))
written_alone text in_body levels rank tree ts (written_call b n r sign left right t opening comma closing front back c e f s g q h) =
    operand_alone r (t ∷ opening ∷ (front ++ comma ∷ back) ++ closing ∷ []) (call_passes text b n sign left right t opening comma closing front back e f s g q h)
written_alone text in_body levels rank tree ts (written_choice b n r value when other front middle back t u l s e q f p) =
    cut_alone (length front) r If_sign (front ++ t ∷ (middle ++ u ∷ back)) l
    (if_cut front middle back t u (written_alone text b n 2 value front s) e (written_under text b n 2 when middle q) f (written_under text b n 1 other back p))
