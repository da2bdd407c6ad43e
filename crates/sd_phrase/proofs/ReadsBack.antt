-- Tokens that spell an expression read as it, where the levels are enough for it, and are too deep otherwise.
use Rattle.std.proofs.Common.{◌≡◌, refl, ap, sym, ◌∙◌, ℕ, zero, suc, List, [], ◌∷◌, ◌++◌, Bool, true, false}
use Rattle.std.specs.Prelude.{Some, None, ◌&&◌, if◌then◌else◌, map}
use Rattle.sd_lex.specs.PlainTree.{Expression, named, element_at, two, Expressions, no_expression, and_expression}
use Rattle.sd_lex.specs.TreeFold.{expressions_listed}
use Rattle.sd_phrase.specs.declared.reading.Reading.{Reading}
use Rattle.sd_phrase.specs.declared.reading.Reading.TheVariants.{TooDeep, Form}
use Rattle.sd_phrase.specs.declared.word.Bracket.TheVariants.{Square}
use Rattle.sd_phrase.specs.declared.word.Mark.TheVariants.{Comma}
use Rattle.sd_phrase.specs.declared.word.Piece.{Piece}
use Rattle.sd_phrase.specs.declared.word.Word.TheVariants.{Open, Close}
use Rattle.sd_phrase.specs.Parts.{parts_of}
use Rattle.sd_phrase.specs.Readings.{reading_map, listed_from}
use Rattle.sd_phrase.specs.ExpressionReading.{element, own_subscripts, reads}
use Rattle.sd_phrase.specs.Words.{spelling}
use Rattle.sd_phrase.specs.Printing.{is_variable, Spells, spelled_number, spelled_name, spelled_element, spelled_one, spelled_two, spelled_call, spelled_choice, SpellsOperand, in_parentheses, SpellsEach, spelled_last, spelled_more, spend, fits, fit_each, read_back}
use Rattle.sd_phrase.proofs.BracketLemmas.{Keeps}
use Rattle.sd_phrase.proofs.OperandLemmas.{one_part, first_part}
use Rattle.sd_phrase.proofs.LevelLemmas.{without_level, subscripts_read, element_read, element_without_level}
use Rattle.sd_phrase.proofs.SpelledTokens.{spelled_keeps, each_keeps, call_keeps, operand_passes, operand_filled, operand_too_deep, spelled_commas}
use Rattle.sd_phrase.proofs.PartsRead.{number_reads, name_reads, one_reads, two_reads, choice_reads, call_reads, parentheses_back}

-- expressions before others
abbrev pub joined : (before : List Expression) → Expressions → Expressions
joined [] trees = trees
joined (e ∷ before) trees = and_expression e (joined before trees)

pub joined_more : (before : List Expression) (tree : Expression) (trees : Expressions) → joined (before ++ tree ∷ []) trees ≡ joined before (and_expression tree trees)
joined_more [] tree trees = refl
joined_more (e ∷ before) tree trees = ap (and_expression e) (joined_more before tree trees)

pub listed_joined : (before : List Expression) → expressions_listed before ≡ joined before no_expression
listed_joined [] = refl
listed_joined (e ∷ before) = ap (and_expression e) (listed_joined before)

-- the element whose subscripts read so, where some before them are known
abbrev pub elements : (name : List ℕ) → (before : List Expression) → (deep : Bool) → List (Reading Expression) → Reading Expression
elements name before deep rs = reading_map (λ at. element_at name (expressions_listed at)) (listed_from before deep rs)

-- as the element with the further subscripts, where they are enough and none before them was too deep
abbrev elements_back : (name : List ℕ) → (before : List Expression) → (deep enough : Bool) → Expressions → Reading Expression
elements_back name before deep enough trees = read_back (if deep then false else enough) (element_at name (joined before trees))

deep_back : (name : List ℕ) (before : List Expression) (deep : Bool) (trees : Expressions) → TooDeep ≡ elements_back name before deep false trees
deep_back name before true trees = refl
deep_back name before false trees = refl

last_subscript : (name : List ℕ) (before : List Expression) (deep a : Bool) (tree : Expression) →
    elements name before deep (read_back a tree ∷ []) ≡ elements_back name before deep (a && true) (and_expression tree no_expression)
last_subscript name before true true tree = refl
last_subscript name before false true tree =
    ap (λ at. Form (element_at name at)) (listed_joined (before ++ tree ∷ []) ∙ joined_more before tree no_expression)
last_subscript name before deep false tree = deep_back name before deep (and_expression tree no_expression)

more_subscripts : (name : List ℕ) (before : List Expression) (deep a b : Bool) (tree : Expression) (trees : Expressions) (rs : List (Reading Expression)) →
    ((before : List Expression) (deep : Bool) → elements name before deep rs ≡ elements_back name before deep b trees) →
    elements name before deep (read_back a tree ∷ rs) ≡ elements_back name before deep (a && b) (and_expression tree trees)
more_subscripts name before deep true b tree trees rs h =
    h (before ++ tree ∷ []) deep ∙ ap (λ at. read_back (if deep then false else b) (element_at name at)) (joined_more before tree trees)
more_subscripts name before deep false b tree trees rs h = h before true ∙ deep_back name before deep (and_expression tree trees)

-- an element, from what its subscripts read as
element_reads : (text : List ℕ) (in_body : Bool) (levels : ℕ) (name : List ℕ) (at : Expressions) (t opening closing : Piece) (inside : List Piece) →
    is_variable t.word ≡ true → spelling text t ≡ name → opening.word ≡ Open Square → closing.word ≡ Close Square → Keeps 0 inside →
    ((n : ℕ) → elements name [] false (map (reads text false n 1) (parts_of Comma inside)) ≡ elements_back name [] false (fit_each n at) at) →
    reads text in_body levels 1 (t ∷ opening ∷ inside ++ closing ∷ []) ≡ read_back (fits in_body levels (element_at name at)) (element_at name at)
element_reads text true zero name at t opening closing inside h e f g k r =
    let own = reads text false 64 1 in
    element_without_level text own 1 t opening closing inside h f g k
    ∙ ap (λ n. element n own (opening ∷ inside ++ closing ∷ [])) e ∙ subscripts_read name own opening closing inside f g k ∙ r 64
element_reads text true (suc n) name at t opening closing inside h e f g k r =
    let own = reads text false 64 1 in
    element_read text (Some own) n 1 t opening closing inside h f g k
    ∙ ap (λ n. element n own (opening ∷ inside ++ closing ∷ [])) e ∙ subscripts_read name own opening closing inside f g k ∙ r 64
element_reads text false zero name at t opening closing inside h e f g k r = without_level text None 1 (t ∷ opening ∷ inside ++ closing ∷ [])
element_reads text false (suc n) name at t opening closing inside h e f g k r =
    let again = reads text false n 1 in
    element_read text None n 1 t opening closing inside h f g k
    ∙ ap (λ n. element n again (opening ∷ inside ++ closing ∷ [])) e ∙ subscripts_read name again opening closing inside f g k ∙ r n

mutual
  pub spelled_reads : (text : List ℕ) (tree : Expression) (ts : List Piece) → Spells text tree ts → (in_body : Bool) (levels : ℕ) →
      reads text in_body levels 1 ts ≡ read_back (fits in_body levels tree) tree
  spelled_reads text tree ts (spelled_number value t e) in_body levels = number_reads text (own_subscripts text in_body) levels 1 t value e
  spelled_reads text tree ts (spelled_name name t h e) in_body levels = name_reads text (own_subscripts text in_body) levels 1 t h ∙ ap (λ n. Form (named n)) e
  spelled_reads text tree ts (spelled_element name at t opening closing inside h e f s g) in_body levels =
      element_reads text in_body levels name at t opening closing inside h e f g (each_keeps text at inside s) (λ n. each_reads text at inside s n name [] false)
  spelled_reads text tree ts (spelled_one sign of t back e s) in_body levels =
      one_reads text (own_subscripts text in_body) levels sign back t (λ n. fits in_body n of) of e (operand_passes text of back s) (operand_filled text of back s) (λ n rank. operand_reads text of back s in_body n rank)
  spelled_reads text tree ts (spelled_two sign left right front back t c s e r) in_body levels =
      two_reads text (own_subscripts text in_body) levels sign front back t (λ n. fits in_body n left) (λ n. fits in_body n right) left right
      (operand_too_deep text left front s (own_subscripts text in_body) 1 (t ∷ back)) (operand_passes text left front s) e (operand_passes text right back r)
      (λ n rank. operand_reads text left front s in_body n rank) (λ n rank. operand_reads text right back r in_body n rank)
      ∙ ap (λ b. read_back (spend (if b then 1 else 2) levels (λ n. fits in_body n left && fits in_body n right)) (two sign left right)) (sym c)
  spelled_reads text tree ts (spelled_call sign left right t opening comma closing front back c e f s g r h) in_body levels =
      call_reads text (own_subscripts text in_body) levels sign t opening comma closing front back (λ n. fits in_body n left) (λ n. fits in_body n right) left right e f g h
      (call_keeps text left right front back comma s g r) (spelled_commas text left front s) (spelled_commas text right back r)
      (λ n. spelled_reads text left front s in_body n) (λ n. spelled_reads text right back r in_body n)
      ∙ ap (λ b. read_back (spend (if b then 1 else 2) levels (λ n. fits in_body n left && fits in_body n right)) (two sign left right)) (sym c)
  spelled_reads text tree ts (spelled_choice value when other front middle back t u s e r f q) in_body levels =
      choice_reads text (own_subscripts text in_body) levels front middle back t u (λ n. fits in_body n value) (λ n. fits in_body n when) (λ n. fits in_body n other) value when other
      (operand_too_deep text value front s (own_subscripts text in_body) 1 (t ∷ (middle ++ u ∷ back)))
      (operand_passes text value front s) e (operand_passes text when middle r) f (operand_passes text other back q)
      (λ n rank. operand_reads text value front s in_body n rank) (λ n rank. operand_reads text when middle r in_body n rank) (λ n rank. operand_reads text other back q in_body n rank)

  pub operand_reads : (text : List ℕ) (tree : Expression) (ts : List Piece) → SpellsOperand text tree ts → (in_body : Bool) (levels rank : ℕ) →
      reads text in_body levels rank ts ≡ read_back (spend 1 levels (λ left. fits in_body left tree)) tree
  operand_reads text tree ts (in_parentheses inner opening closing inside e s f) in_body levels rank =
      parentheses_back text (own_subscripts text in_body) levels rank opening closing inside (λ n. fits in_body n inner) inner e f (spelled_keeps text inner inside s)
      (λ n. spelled_reads text inner inside s in_body n)

  each_reads : (text : List ℕ) (trees : Expressions) (ts : List Piece) → SpellsEach text trees ts → (levels : ℕ) (name : List ℕ) (before : List Expression) (deep : Bool) →
      elements name before deep (map (reads text false levels 1) (parts_of Comma ts)) ≡ elements_back name before deep (fit_each levels trees) trees
  each_reads text trees ts (spelled_last tree us s) levels name before deep =
      ap (λ ps. elements name before deep (map (reads text false levels 1) ps)) (one_part us (spelled_commas text tree us s))
      ∙ ap (λ r. elements name before deep (r ∷ [])) (spelled_reads text tree us s false levels) ∙ last_subscript name before deep (fits false levels tree) tree
  each_reads text trees ts (spelled_more tree rest front back comma s e r) levels name before deep =
      ap (λ ps. elements name before deep (map (reads text false levels 1) ps)) (first_part front back comma (spelled_commas text tree front s) e)
      ∙ ap (λ x. elements name before deep (x ∷ map (reads text false levels 1) (parts_of Comma back))) (spelled_reads text tree front s false levels)
      ∙ more_subscripts name before deep (fits false levels tree) (fit_each levels rest) tree rest (map (reads text false levels 1) (parts_of Comma back))
      (λ others too. each_reads text rest back r levels name others too)
