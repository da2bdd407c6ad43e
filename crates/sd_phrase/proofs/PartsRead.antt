-- How tokens read that are put together of parts: as the tree put together of theirs, where the levels are enough for each.
use Rattle.std.proofs.Common.{arith, ◌≡◌, refl, ap, ◌∙◌, length, length-append, ℕ, ℤ, zero, suc, ◌+◌, ◌<◌, List, [], ◌∷◌, ◌++◌, Bool, true, false}
use Rattle.std.specs.Prelude.{Option, None, ◌&&◌, nat_lt}
use Rattle.sd_lex.specs.PlainTree.{Expression, number, named, one, two, choice}
use Rattle.sd_lex.specs.declared.syntax.operator.OneSign.{OneSign}
use Rattle.sd_lex.specs.declared.syntax.operator.OneSign.TheVariants.{Not}
use Rattle.sd_lex.specs.declared.syntax.operator.TwoSign.{TwoSign}
use Rattle.sd_lex.specs.declared.syntax.operator.TwoSign.TheVariants.{Or}
use Rattle.sd_phrase.specs.declared.reading.Reading.TheVariants.{NoForm, TooDeep, Form}
use Rattle.sd_phrase.specs.declared.word.Bracket.TheVariants.{Round}
use Rattle.sd_phrase.specs.declared.word.Mark.TheVariants.{Comma}
use Rattle.sd_phrase.specs.declared.word.Piece.{Piece}
use Rattle.sd_phrase.specs.declared.word.Sign.TheVariants.{If as If_sign, Else as Else_sign, One, Two}
use Rattle.sd_phrase.specs.declared.word.Word.{Word}
use Rattle.sd_phrase.specs.declared.word.Word.TheVariants.{Number, Name, Callee, If, Else, Stop, Open, Close}
use Rattle.sd_phrase.specs.Readings.{reading_map, both}
use Rattle.sd_phrase.specs.Signs.{rank_of_one, rank_of_two}
use Rattle.sd_phrase.specs.ExpressionReading.{Reader, all_three, rank_on_left, atom_by, element_or_deep, subscripts_by, reads_by}
use Rattle.sd_phrase.specs.Words.{spelling}
use Rattle.sd_phrase.specs.Printing.{word_between, word_before, is_variable, spend, read_back}
use Rattle.sd_phrase.proofs.BracketLemmas.{Keeps}
use Rattle.sd_phrase.proofs.OperandLemmas.{IsOperand, HasNoComma, operand_variable, operand_number, uncut_operand, sign_word, between_is_sign, before_is_sign, if_is_sign, else_is_sign, cut_between, cut_before, cut_conditional}
use Rattle.sd_phrase.proofs.LevelLemmas.{without_level, with_level, parentheses_read, too_deep, deep_parenthesis, deep_before, two_read, one_read, choice_read, call_read, deep_call}

-- one is the loosest rank
looser_than_none : (sign : TwoSign) → nat_lt (rank_of_two sign) 1 ≡ false
looser_than_none Or = refl
looser_than_none sign = refl

looser_than_none_before : (sign : OneSign) → nat_lt (rank_of_one sign) 1 ≡ false
looser_than_none_before Not = refl
looser_than_none_before sign = refl

-- a single token
pub number_reads : (text : List ℕ) (own : Option Reader) (levels rank : ℕ) (t : Piece) (value : ℤ) → t.word ≡ Number value → reads_by text own levels rank (t ∷ []) ≡ Form (number value)
number_reads text own zero rank t value e = without_level text own rank (t ∷ []) ∙ ap (λ w. atom_by (λ ts. NoForm) (λ ts. NoForm) w (spelling text t) []) e
number_reads text own (suc n) rank t value e =
    with_level text own n rank (t ∷ []) None (uncut_operand (t ∷ []) (operand_number t value e)) ∙ ap (λ w. atom_by (reads_by text own n 1) (subscripts_by own (reads_by text own n 1)) w (spelling text t) []) e

variable_atom : (read subscript : Reader) (w : Word) (name : List ℕ) → is_variable w ≡ true → atom_by read subscript w name [] ≡ Form (named name)
variable_atom read subscript Name name h = refl
variable_atom read subscript (Callee sign) name h = refl
variable_atom read subscript w name h = cc

pub name_reads : (text : List ℕ) (own : Option Reader) (levels rank : ℕ) (t : Piece) → is_variable t.word ≡ true → reads_by text own levels rank (t ∷ []) ≡ Form (named (spelling text t))
name_reads text own zero rank t h = without_level text own rank (t ∷ []) ∙ variable_atom (λ ts. NoForm) (λ ts. NoForm) t.word (spelling text t) h
name_reads text own (suc n) rank t h =
    with_level text own n rank (t ∷ []) None (uncut_operand (t ∷ []) (operand_variable t h)) ∙ variable_atom (reads_by text own n 1) (subscripts_by own (reads_by text own n 1)) t.word (spelling text t) h

-- readings of parts that are each enough or too deep
both_back : (sign : TwoSign) (a b : Bool) (l r : Expression) → both (two sign) (read_back a l) (read_back b r) ≡ read_back (a && b) (two sign l r)
both_back sign true true l r = refl
both_back sign true false l r = refl
both_back sign false true l r = refl
both_back sign false false l r = refl

all_back : (a b c : Bool) (v w o : Expression) → all_three (read_back a v) (read_back b w) (read_back c o) ≡ read_back (a && (b && c)) (choice v w o)
all_back true true true v w o = refl
all_back true true false v w o = refl
all_back true false true v w o = refl
all_back true false false v w o = refl
all_back false true true v w o = refl
all_back false true false v w o = refl
all_back false false true v w o = refl
all_back false false false v w o = refl

one_back : (sign : OneSign) (a : Bool) (e : Expression) → reading_map (one sign) (read_back a e) ≡ read_back a (one sign e)
one_back sign true e = refl
one_back sign false e = refl

both_spent : (n : ℕ) (f g : ℕ → Bool) → (spend 1 n f && spend 1 n g) ≡ spend 1 n (λ m. f m && g m)
both_spent zero f g = refl
both_spent (suc n) f g = refl

all_spent : (n : ℕ) (f g h : ℕ → Bool) → (spend 1 n f && (spend 1 n g && spend 1 n h)) ≡ spend 1 n (λ m. f m && (g m && h m))
all_spent zero f g h = refl
all_spent (suc n) f g h = refl

-- tokens that read as the tree where what a level leaves is enough, at whatever rank
abbrev pub ReadsWith : List ℕ → Option Reader → List Piece → (ℕ → Bool) → Expression → Type 0
ReadsWith text own ts f tree = (levels rank : ℕ) → reads_by text own levels rank ts ≡ read_back (spend 1 levels f) tree

pub parentheses_back : (text : List ℕ) (own : Option Reader) (levels rank : ℕ) (opening closing : Piece) (inside : List Piece) (f : ℕ → Bool) (tree : Expression) →
    opening.word ≡ Open Round → closing.word ≡ Close Round → Keeps 0 inside → ((n : ℕ) → reads_by text own n 1 inside ≡ read_back (f n) tree) →
    reads_by text own levels rank (opening ∷ inside ++ closing ∷ []) ≡ read_back (spend 1 levels f) tree
parentheses_back text own zero rank opening closing inside f tree e g k h =
    too_deep text own rank opening (inside ++ closing ∷ []) (Open Round) e deep_parenthesis (omega (arith, length-append inside (closing ∷ [])))
parentheses_back text own (suc n) rank opening closing inside f tree e g k h = parentheses_read text own n rank opening closing inside e g k ∙ h n

pub one_reads : (text : List ℕ) (own : Option Reader) (levels : ℕ) (sign : OneSign) (back : List Piece) (t : Piece) (f : ℕ → Bool) (tree : Expression) →
    t.word ≡ word_before sign → IsOperand back → 0 < length back → ReadsWith text own back f tree → reads_by text own levels 1 (t ∷ back) ≡ read_back (spend 2 levels f) (one sign tree)
one_reads text own zero sign back t f tree e p l r = too_deep text own 1 t back (word_before sign) e (deep_before sign) l
one_reads text own (suc n) sign back t f tree e p l r =
    one_read text own n 1 sign back t (looser_than_none_before sign) (cut_before back t (One sign) (sign_word t.word (word_before sign) false (One sign) e (before_is_sign sign)) p) ∙ ap (reading_map (one sign)) (r n (rank_of_one sign)) ∙ one_back sign (spend 1 n f) tree

pub two_reads : (text : List ℕ) (own : Option Reader) (levels : ℕ) (sign : TwoSign) (front back : List Piece) (t : Piece) (f g : ℕ → Bool) (left right : Expression) →
    reads_by text own zero 1 (front ++ t ∷ back) ≡ TooDeep → IsOperand front → t.word ≡ word_between sign → IsOperand back → ReadsWith text own front f left → ReadsWith text own back g right →
    reads_by text own levels 1 (front ++ t ∷ back) ≡ read_back (spend 2 levels (λ n. f n && g n)) (two sign left right)
two_reads text own zero sign front back t f g left right d o e p l r = d
two_reads text own (suc n) sign front back t f g left right d o e p l r =
    two_read text own n 1 sign front back t (looser_than_none sign)
    (cut_between front back t (Two sign) o (sign_word t.word (word_between sign) true (Two sign) e (between_is_sign sign)) p)
    ∙ ap (λ x. both (two sign) x (reads_by text own n (rank_of_two sign + 1) back)) (l n (rank_on_left (rank_of_two sign)))
    ∙ ap (both (two sign) (read_back (spend 1 n f) left)) (r n (rank_of_two sign + 1))
    ∙ both_back sign (spend 1 n f) (spend 1 n g) left right ∙ ap (λ b. read_back b (two sign left right)) (both_spent n f g)

pub choice_reads : (text : List ℕ) (own : Option Reader) (levels : ℕ) (front middle back : List Piece) (t u : Piece) (f g h : ℕ → Bool) (value when other : Expression) →
    reads_by text own zero 1 (front ++ t ∷ (middle ++ u ∷ back)) ≡ TooDeep → IsOperand front → t.word ≡ If → IsOperand middle → u.word ≡ Else → IsOperand back →
    ReadsWith text own front f value → ReadsWith text own middle g when → ReadsWith text own back h other →
    reads_by text own levels 1 (front ++ t ∷ (middle ++ u ∷ back)) ≡ read_back (spend 2 levels (λ n. f n && (g n && h n))) (choice value when other)
choice_reads text own zero front middle back t u f g h value when other d o e p i q l m r = d
choice_reads text own (suc n) front middle back t u f g h value when other d o e p i q l m r =
    choice_read text own n 1 front middle back t u refl
    (cut_conditional front middle back t u o (sign_word t.word If true If_sign e if_is_sign) p (sign_word u.word Else true Else_sign i else_is_sign) q)
    (cut_between middle back u Else_sign p (sign_word u.word Else true Else_sign i else_is_sign) q)
    ∙ ap (λ x. all_three x (reads_by text own n 2 middle) (reads_by text own n 1 back)) (l n 2)
    ∙ ap (λ x. all_three (read_back (spend 1 n f) value) x (reads_by text own n 1 back)) (m n 2)
    ∙ ap (all_three (read_back (spend 1 n f) value) (read_back (spend 1 n g) when)) (r n 1)
    ∙ all_back (spend 1 n f) (spend 1 n g) (spend 1 n h) value when other ∙ ap (λ b. read_back b (choice value when other)) (all_spent n f g h)

pub call_reads : (text : List ℕ) (own : Option Reader) (levels : ℕ) (sign : TwoSign) (t opening comma closing : Piece) (front back : List Piece) (f g : ℕ → Bool) (left right : Expression) →
    t.word ≡ Callee sign → opening.word ≡ Open Round → comma.word ≡ Stop Comma → closing.word ≡ Close Round → Keeps 0 (front ++ comma ∷ back) → HasNoComma front → HasNoComma back →
    ((n : ℕ) → reads_by text own n 1 front ≡ read_back (f n) left) → ((n : ℕ) → reads_by text own n 1 back ≡ read_back (g n) right) →
    reads_by text own levels 1 (t ∷ opening ∷ (front ++ comma ∷ back) ++ closing ∷ []) ≡ read_back (spend 1 levels (λ n. f n && g n)) (two sign left right)
call_reads text own zero sign t opening comma closing front back f g left right e i j k keeps n m l r =
    let more = (front ++ comma ∷ back) ++ closing ∷ [] in
    without_level text own 1 (t ∷ opening ∷ more) ∙ ap (λ w. element_or_deep own w (spelling text t) (opening ∷ more)) e ∙ deep_call sign opening more own (spelling text t) i
call_reads text own (suc levels) sign t opening comma closing front back f g left right e i j k keeps n m l r =
    call_read text own levels 1 sign t opening comma closing front back e i j k keeps n m
    ∙ ap (λ x. both (two sign) x (reads_by text own levels 1 back)) (l levels) ∙ ap (both (two sign) (read_back (f levels) left)) (r levels) ∙ both_back sign (f levels) (g levels) left right
