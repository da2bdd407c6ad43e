-- Tokens of the grammar read as the tree that they are written for.
use Rattle.std.proofs.Common.{◌≡◌, ap, ◌∙◌, length, ℕ, zero, suc, ◌+◌, List, [], ◌∷◌, ◌++◌, Bool, true, false, subst}
use Rattle.std.specs.Prelude.{Some, None, map}
use Rattle.sd_lex.specs.PlainTree.{Expression, named, element_at, one, two, Expressions, no_expression}
use Rattle.sd_phrase.specs.declared.reading.Reading.TheVariants.{Form}
use Rattle.sd_phrase.specs.declared.word.Bracket.TheVariants.{Square}
use Rattle.sd_phrase.specs.declared.word.Mark.TheVariants.{Comma}
use Rattle.sd_phrase.specs.declared.word.Piece.{Piece}
use Rattle.sd_phrase.specs.declared.word.Sign.TheVariants.{If as If_sign, Else as Else_sign, One, Two}
use Rattle.sd_phrase.specs.declared.word.Word.TheVariants.{Open, Close}
use Rattle.sd_phrase.specs.Parts.{parts_of}
use Rattle.sd_phrase.specs.Readings.{reading_map, both}
use Rattle.sd_phrase.specs.Signs.{rank_of_one, rank_of_two}
use Rattle.sd_phrase.specs.ExpressionReading.{all_three, rank_on_left, element, own_subscripts, reads}
use Rattle.sd_phrase.specs.Words.{spelling}
use Rattle.sd_phrase.specs.Printing.{is_variable}
use Rattle.sd_phrase.specs.Grammar.{rank_before, Written, written_number, written_name, written_element_of_body, written_element_of_tasklet, written_in_parentheses, written_one, written_two, written_call, written_choice, WrittenEach, written_last, written_more}
use Rattle.sd_phrase.proofs.BracketLemmas.{Keeps}
use Rattle.sd_phrase.proofs.OperandLemmas.{one_part, first_part}
use Rattle.sd_phrase.proofs.LevelLemmas.{parentheses_read, two_read, one_read, choice_read, call_read, subscripts_read, element_read, element_without_level}
use Rattle.sd_phrase.proofs.PartsRead.{number_reads, name_reads}
use Rattle.sd_phrase.proofs.ReadsBack.{joined, joined_more, listed_joined, elements}
use Rattle.sd_phrase.proofs.RankLemmas.{not_looser_than, rank_before_is_on_left, cut_whole}
use Rattle.sd_phrase.proofs.WrittenTokens.{written_keeps, written_each_keeps, written_call_keeps, written_commas, written_under}
use Rattle.sd_phrase.proofs.WrittenCuts.{two_cut, one_cut, else_cut, if_cut, written_alone}

-- an element of a body, whatever the levels
element_of_body_reads : (text : List ℕ) (levels rank : ℕ) (name : List ℕ) (at : Expressions) (t opening closing : Piece) (inside : List Piece) →
    is_variable t.word ≡ true → spelling text t ≡ name → opening.word ≡ Open Square → closing.word ≡ Close Square → Keeps 0 inside →
    elements name [] false (map (reads text false 64 1) (parts_of Comma inside)) ≡ Form (element_at name at) →
    reads text true levels rank (t ∷ opening ∷ inside ++ closing ∷ []) ≡ Form (element_at name at)
element_of_body_reads text zero rank name at t opening closing inside h e f g k r =
    let own = reads text false 64 1 in
    element_without_level text own rank t opening closing inside h f g k
    ∙ ap (λ n. element n own (opening ∷ inside ++ closing ∷ [])) e ∙ subscripts_read name own opening closing inside f g k ∙ r
element_of_body_reads text (suc n) rank name at t opening closing inside h e f g k r =
    let own = reads text false 64 1 in
    element_read text (Some own) n rank t opening closing inside h f g k
    ∙ ap (λ n. element n own (opening ∷ inside ++ closing ∷ [])) e ∙ subscripts_read name own opening closing inside f g k ∙ r

-- the operand before an operator is read at its rank
before_reads : (text : List ℕ) (in_body : Bool) (levels : ℕ) (rank same : ℕ) (tree : Expression) (ts : List Piece) → rank ≡ same → reads text in_body levels rank ts ≡ Form tree →
    reads text in_body levels same ts ≡ Form tree
before_reads text in_body levels rank same tree ts e r = subst (λ n. reads text in_body levels n ts ≡ Form tree) e r

mutual
  pub written_reads : (text : List ℕ) (in_body : Bool) (levels rank : ℕ) (tree : Expression) (ts : List Piece) → Written text in_body levels rank tree ts →
      reads text in_body levels rank ts ≡ Form tree
  written_reads text in_body levels rank tree ts (written_number b n r value t e) = number_reads text (own_subscripts text b) n r t value e
  written_reads text in_body levels rank tree ts (written_name b n r name t h e) = name_reads text (own_subscripts text b) n r t h ∙ ap (λ n. Form (named n)) e
  written_reads text in_body levels rank tree ts (written_element_of_body n r name at t opening closing inside h e f s g) =
      element_of_body_reads text n r name at t opening closing inside h e f g (written_each_keeps text 64 at inside s) (each_written_reads text 64 at inside s name [])
  written_reads text in_body levels rank tree ts (written_element_of_tasklet n r name at t opening closing inside h e f s g) =
      element_read text None n r t opening closing inside h f g (written_each_keeps text n at inside s)
      ∙ ap (λ m. element m (reads text false n 1) (opening ∷ inside ++ closing ∷ [])) e
      ∙ subscripts_read name (reads text false n 1) opening closing inside f g (written_each_keeps text n at inside s) ∙ each_written_reads text n at inside s name []
  written_reads text in_body levels rank tree ts (written_in_parentheses b n r inner opening closing inside e s f) =
      parentheses_read text (own_subscripts text b) n r opening closing inside e f (written_keeps text b n 1 inner inside s) ∙ written_reads text b n 1 inner inside s
  written_reads text in_body levels rank tree ts (written_one b n r sign of t back l e s) =
      one_read text (own_subscripts text b) n r sign back t (not_looser_than (rank_of_one sign) r l)
      (cut_whole 0 (One sign) (t ∷ back) (one_cut sign back t e (written_under text b n (rank_of_one sign) of back s)))
      ∙ ap (reading_map (one sign)) (written_reads text b n (rank_of_one sign) of back s)
  written_reads text in_body levels rank tree ts (written_two b n r sign left right front back t c l s e q) =
      two_read text (own_subscripts text b) n r sign front back t (not_looser_than (rank_of_two sign) r l)
      (cut_whole (length front) (Two sign) (front ++ t ∷ back)
      (two_cut sign front back t (written_alone text b n (rank_before sign) left front s) e (written_under text b n (rank_of_two sign + 1) right back q)))
      ∙ ap (λ x. both (two sign) x (reads text b n (rank_of_two sign + 1) back))
      (before_reads text b n (rank_before sign) (rank_on_left (rank_of_two sign)) left front (rank_before_is_on_left sign) (written_reads text b n (rank_before sign) left front s))
      ∙ ap (both (two sign) (Form left)) (written_reads text b n (rank_of_two sign + 1) right back q)
  written_reads text in_body levels rank tree ts (written_call b n r sign left right t opening comma closing front back c e f s g q h) =
      call_read text (own_subscripts text b) n r sign t opening comma closing front back e f g h (written_call_keeps text b n left right front back comma s g q)
      (written_commas text b n 1 left front s) (written_commas text b n 1 right back q)
      ∙ ap (λ x. both (two sign) x (reads text b n 1 back)) (written_reads text b n 1 left front s) ∙ ap (both (two sign) (Form left)) (written_reads text b n 1 right back q)
  written_reads text in_body levels rank tree ts (written_choice b n r value when other front middle back t u l s e q f p) =
      choice_read text (own_subscripts text b) n r front middle back t u (not_looser_than 1 r l)
      (cut_whole (length front) If_sign (front ++ t ∷ (middle ++ u ∷ back))
      (if_cut front middle back t u (written_alone text b n 2 value front s) e (written_under text b n 2 when middle q) f (written_under text b n 1 other back p)))
      (cut_whole (length middle) Else_sign (middle ++ u ∷ back) (else_cut middle back u (written_alone text b n 2 when middle q) f (written_under text b n 1 other back p)))
      ∙ ap (λ x. all_three x (reads text b n 2 middle) (reads text b n 1 back)) (written_reads text b n 2 value front s)
      ∙ ap (λ x. all_three (Form value) x (reads text b n 1 back)) (written_reads text b n 2 when middle q)
      ∙ ap (all_three (Form value) (Form when)) (written_reads text b n 1 other back p)

  each_written_reads : (text : List ℕ) (levels : ℕ) (trees : Expressions) (ts : List Piece) → WrittenEach text levels trees ts → (name : List ℕ) (before : List Expression) →
      elements name before false (map (reads text false levels 1) (parts_of Comma ts)) ≡ Form (element_at name (joined before trees))
  each_written_reads text levels trees ts (written_last n tree us s) name before =
      ap (λ ps. elements name before false (map (reads text false n 1) ps)) (one_part us (written_commas text false n 1 tree us s))
      ∙ ap (λ r. elements name before false (r ∷ [])) (written_reads text false n 1 tree us s)
      ∙ ap (λ at. Form (element_at name at)) (listed_joined (before ++ tree ∷ []) ∙ joined_more before tree no_expression)
  each_written_reads text levels trees ts (written_more n tree rest front back comma s e q) name before =
      ap (λ ps. elements name before false (map (reads text false n 1) ps)) (first_part front back comma (written_commas text false n 1 tree front s) e)
      ∙ ap (λ x. elements name before false (x ∷ map (reads text false n 1) (parts_of Comma back))) (written_reads text false n 1 tree front s)
      ∙ each_written_reads text n rest back q name (before ++ tree ∷ [])
      ∙ ap (λ at. Form (element_at name at)) (joined_more before tree rest)
