-- How many levels the expressions have that tokens read as.
use Rattle.std.proofs.Common.{◌≤◌, ◌+◌, ℕ, zero, suc, ℤ, max, List, [], ◌∷◌, map, take, drop, nat_eq, nat_lt, Bool, true, false, Option, Some, None, if◌then◌else◌, arith}
use Rattle.std.specs.Bool.{⊤}
use Rattle.std.specs.List.{AllByRecursion}
use Rattle.std.proofs.Math.Nat.{max-le}
use Rattle.sd_lex.specs.PlainTree.{Expression, number, named, element_at, one, two, choice}
use Rattle.sd_lex.specs.TreeFold.{expressions_listed}
use Rattle.sd_lex.specs.declared.syntax.operator.OneSign.{OneSign}
use Rattle.sd_lex.specs.declared.syntax.operator.OneSign.TheVariants.{Neg}
use Rattle.sd_lex.specs.declared.syntax.operator.TwoSign.{TwoSign}
use Rattle.sd_lex.specs.declared.syntax.operator.TwoSign.TheVariants.{Sub}
use Rattle.sd_phrase.specs.declared.word.Bracket.TheVariants.{Round, Square}
use Rattle.sd_phrase.specs.declared.word.Mark.TheVariants.{Comma}
use Rattle.sd_phrase.specs.declared.word.Piece.{Piece}
use Rattle.sd_phrase.specs.declared.word.Word.{Word}
use Rattle.sd_phrase.specs.declared.word.Word.TheVariants as word
use Rattle.sd_phrase.specs.declared.reading.Reading.{Reading}
use Rattle.sd_phrase.specs.declared.reading.Reading.TheVariants.{NoForm, TooDeep, Form}
use Rattle.sd_phrase.specs.Parts.{parts_of, closed, bracketed, whole, Few, one_part, two_parts, three_parts, more_parts, few}
use Rattle.sd_phrase.specs.Readings.{reading_map, both, listed}
use Rattle.sd_phrase.specs.Signs.{rank_of, rank_of_one, rank_of_two, cuts_before, sign_of, depth_after, ends, better, better_outside, cut_from, cut_of}
use Rattle.sd_phrase.specs.Words.{spelling}
use Rattle.sd_phrase.specs.ExpressionReading.{Reader, all_three, rank_on_left, pair, element, called, atom_by, atom, if_else, at_else, at_sign, by_cut, deep_unless, element_or_deep, last_level, reads_by, expression, expressions}
use Rattle.sd_program.specs.Bounds.{EachExpression}
use Rattle.sd_read.specs.readable.Levels.{code_levels_in, code_levels_in_all, levels_in, IsShallowCode, IsShallow}
use Rattle.sd_read.proofs.readable_lemmas.lines.Forms.{IfForm, if-tells, if-always, if-map, if-both, if-some, if-either, if-listed, each-mapped}

-- ---- signs

-- the signs of a list and their places, whose types are named by what reads them
abbrev Read : {A B : Type 0} → (A → B) → Type 0
Read {A = A} read = A

abbrev Found : {A B : Type 0} → (A → Option B) → Type 0
Found {B = B} find = B

abbrev Sign : Type 0
Sign = Read rank_of

abbrev Place : Type 0
Place = Found cut_of

abbrev IfFound : {A : Type 0} → (A → Type 0) → Option A → Type 0
IfFound Holds None = ⊤
IfFound Holds (Some a) = Holds a

-- what holds of the sign of each word holds of that at which a list is cut
module _ (Good : Sign → Type 0) (good : (w : Word) (after : Bool) → IfFound Good (sign_of w after)) where
  abbrev IsGood : Place → Type 0
  IsGood place = Good place.sign

  by_test : (test : Bool) (a b : Option Place) → IfFound IsGood a → IfFound IsGood b → IfFound IsGood (if test then a else b)
  by_test true a b first second = first
  by_test false a b first second = second

  better_good : (best : Option Place) (at : ℕ) (s : Option Sign) → IfFound IsGood best → IfFound Good s → IfFound IsGood (better best at s)
  better_good best at None before now = before
  better_good None at (Some s) before now = now
  better_good (Some place) at (Some s) before now = by_test (cuts_before s place.sign) (Some (record { at = at; sign = s })) (Some place) now before

  cut_good : (depth : ℕ) (after : Bool) (at : ℕ) (best : Option Place) (ts : List Piece) → IfFound IsGood best → IfFound IsGood (cut_from depth after at best ts)
  cut_good depth after at best [] before = before
  cut_good depth after at best (t ∷ ts) before =
      cut_good (depth_after t.word depth) (ends t.word) (at + 1) (better_outside depth best at (sign_of t.word after)) ts
      (by_test (nat_eq depth 0) (better best at (sign_of t.word after)) best (better_good best at (sign_of t.word after) before (good t.word after)) before)

  list_good : (ts : List Piece) → IfFound IsGood (cut_of ts)
  list_good ts = cut_good 0 false 0 None ts tt

-- an `else` lets a reading stand, and every other sign makes no form
else_good : (Outer : Expression → Type 0) (r : Reading Expression) → IfForm Outer r → (w : Word) (after : Bool) → IfFound (λ s. IfForm Outer (if_else s r)) (sign_of w after)
else_good Outer r holds (word.Number value) after = tt
else_good Outer r holds word.Name after = tt
else_good Outer r holds (word.Callee s) after = tt
else_good Outer r holds (word.Between s) after = tt
else_good Outer r holds (word.Before s) after = tt
else_good Outer r holds word.Minus true = tt
else_good Outer r holds word.Minus false = tt
else_good Outer r holds word.If after = tt
else_good Outer r holds word.Else after = holds
else_good Outer r holds (word.Stop mark) after = tt
else_good Outer r holds (word.Open bracket) after = tt
else_good Outer r holds (word.Close bracket) after = tt
else_good Outer r holds word.Quoted after = tt
else_good Outer r holds word.Other after = tt

-- ---- one level

-- what holds of the parts of an expression, and of the whole
record Grows (Inner Subscript Outer : Expression → Type 0) : Type 0 where
  wider : (e : Expression) → Inner e → Outer e
  of_number : (value : ℤ) → Outer (number value)
  of_name : (name : List ℕ) → Outer (named name)
  of_element : (name : List ℕ) (at : List Expression) → AllByRecursion Subscript at → Outer (element_at name (expressions_listed at))
  of_one : (s : OneSign) (e : Expression) → Inner e → Outer (one s e)
  of_two : (s : TwoSign) (a b : Expression) → Inner a → Inner b → Outer (two s a b)
  of_choice : (value when other : Expression) → Inner value → Inner when → Inner other → Outer (choice value when other)

-- an element, by its subscripts
element_forms : (Subscript Outer : Expression → Type 0) → ((name : List ℕ) (at : List Expression) → AllByRecursion Subscript at → Outer (element_at name (expressions_listed at))) →
    (name : List ℕ) (subscript : Reader) (rest : List Piece) → ((ts : List Piece) → IfForm Subscript (subscript ts)) → IfForm Outer (element name subscript rest)
element_forms Subscript Outer of_element name subscript rest each =
    if-some Outer (whole (bracketed Square rest)) (λ inside. reading_map (λ at. element_at name (expressions_listed at)) (listed (map subscript (parts_of Comma inside))))
    (λ inside _. if-map Outer (λ at. element_at name (expressions_listed at)) (listed (map subscript (parts_of Comma inside)))
    (if-tells (AllByRecursion Subscript) (λ at. Outer (element_at name (expressions_listed at))) (listed (map subscript (parts_of Comma inside))) (of_element name)
    (if-listed Subscript (map subscript (parts_of Comma inside)) (each-mapped (IfForm Subscript) subscript (parts_of Comma inside) each))))

module _ (Inner Subscript Outer : Expression → Type 0) (grows : Grows Inner Subscript Outer) where
  wider_forms : (read : Reading Expression) → IfForm Inner read → IfForm Outer read
  wider_forms read inner = if-tells Inner Outer read grows.wider inner

  pair_forms : (s : TwoSign) (read : Reader) (parts : Few) → ((ts : List Piece) → IfForm Inner (read ts)) → IfForm Outer (pair s read parts)
  pair_forms s read (one_part a) inner = tt
  pair_forms s read (two_parts a b) inner = if-both Inner Inner Outer (two s) (read a) (read b) (inner a) (inner b) (grows.of_two s)
  pair_forms s read (three_parts a b c) inner = tt
  pair_forms s read more_parts inner = tt

  module _ (read subscript : Reader) (inner : (ts : List Piece) → IfForm Inner (read ts)) (each : (ts : List Piece) → IfForm Subscript (subscript ts)) where
    own_element : (name : List ℕ) (rest : List Piece) → IfForm Outer (element name subscript rest)
    own_element name rest = element_forms Subscript Outer grows.of_element name subscript rest each

    called_forms : (s : TwoSign) (name : List ℕ) (w : Word) (rest more : List Piece) → IfForm Outer (called s name read subscript w rest more)
    called_forms s name (word.Open Round) rest more = if-some Outer (whole (closed Round more)) (λ inside. pair s read (few (parts_of Comma inside))) (λ inside _. pair_forms s read (few (parts_of Comma inside)) inner)
    called_forms s name (word.Open Square) rest more = own_element name rest
    called_forms s name (word.Number value) rest more = own_element name rest
    called_forms s name word.Name rest more = own_element name rest
    called_forms s name (word.Callee other) rest more = own_element name rest
    called_forms s name (word.Between other) rest more = own_element name rest
    called_forms s name (word.Before other) rest more = own_element name rest
    called_forms s name word.Minus rest more = own_element name rest
    called_forms s name word.If rest more = own_element name rest
    called_forms s name word.Else rest more = own_element name rest
    called_forms s name (word.Stop mark) rest more = own_element name rest
    called_forms s name (word.Close bracket) rest more = own_element name rest
    called_forms s name word.Quoted rest more = own_element name rest
    called_forms s name word.Other rest more = own_element name rest

    atom_by_forms : (w : Word) (name : List ℕ) (rest : List Piece) → IfForm Outer (atom_by read subscript w name rest)
    atom_by_forms (word.Number value) name [] = grows.of_number value
    atom_by_forms (word.Number value) name (u ∷ rest) = tt
    atom_by_forms word.Name name [] = grows.of_name name
    atom_by_forms word.Name name (u ∷ rest) = own_element name (u ∷ rest)
    atom_by_forms (word.Callee s) name [] = grows.of_name name
    atom_by_forms (word.Callee s) name (u ∷ rest) = called_forms s name u.word (u ∷ rest) rest
    atom_by_forms (word.Open Round) name rest = if-some Outer (whole (closed Round rest)) read (λ inside _. wider_forms (read inside) (inner inside))
    atom_by_forms (word.Open Square) name rest = tt
    atom_by_forms (word.Between s) name rest = tt
    atom_by_forms (word.Before s) name rest = tt
    atom_by_forms word.Minus name rest = tt
    atom_by_forms word.If name rest = tt
    atom_by_forms word.Else name rest = tt
    atom_by_forms (word.Stop mark) name rest = tt
    atom_by_forms (word.Close bracket) name rest = tt
    atom_by_forms word.Quoted name rest = tt
    atom_by_forms word.Other name rest = tt

    atom_forms : (text : List ℕ) (ts : List Piece) → IfForm Outer (atom text read subscript ts)
    atom_forms text [] = tt
    atom_forms text (t ∷ rest) = atom_by_forms t.word (spelling text t) rest

  choice_forms : (value when other : Reading Expression) → IfForm Inner value → IfForm Inner when → IfForm Inner other → IfForm Outer (all_three value when other)
  choice_forms NoForm when other v w o = tt
  choice_forms TooDeep when other v w o =
      if-both (λ a. ⊥) (λ b. ⊤) Outer (λ a b. a) TooDeep (both (λ a b. a) when other) tt (if-always (λ b. ⊤) (both (λ a b. a) when other) (λ b. tt)) (λ a b none _. absurd none)
  choice_forms (Form value) when other v w o = if-both Inner Inner Outer (λ a b. choice value a b) when other w o (λ a b. grows.of_choice value a b v)

  module _ (text : List ℕ) (again : ℕ → Reader) (subscript : Reader) (inner : (rank : ℕ) (ts : List Piece) → IfForm Inner (again rank ts)) (each : (ts : List Piece) → IfForm Subscript (subscript ts)) where
    two_forms : (s : TwoSign) (rank : ℕ) (front back : List Piece) (on_right : ℕ) → IfForm Outer (both (two s) (again rank front) (again on_right back))
    two_forms s rank front back on_right = if-both Inner Inner Outer (two s) (again rank front) (again on_right back) (inner rank front) (inner on_right back) (grows.of_two s)

    one_forms : (s : OneSign) (rank : ℕ) (back : List Piece) → IfForm Outer (reading_map (one s) (again rank back))
    one_forms s rank back = if-map Outer (one s) (again rank back) (if-tells Inner (λ e. Outer (one s e)) (again rank back) (grows.of_one s) (inner rank back))

    else_forms : (front back : List Piece) → IfForm Outer (at_else again front back (cut_of back))
    else_forms front back = by_place (cut_of back) (λ r holds. list_good (λ s. IfForm Outer (if_else s r)) (else_good Outer r holds) back) where
      by_place : (place : Option Place) → ((r : Reading Expression) → IfForm Outer r → IfFound (λ (place : Place). IfForm Outer (if_else place.sign r)) place) → IfForm Outer (at_else again front back place)
      by_place None found = tt
      by_place (Some place) found =
          found (all_three (again 2 front) (again 2 (take place.at back)) (again 1 (drop (place.at + 1) back)))
          (choice_forms (again 2 front) (again 2 (take place.at back)) (again 1 (drop (place.at + 1) back)) (inner 2 front) (inner 2 (take place.at back)) (inner 1 (drop (place.at + 1) back)))

    abbrev Cuts : Sign → Type 0
    Cuts s = (front back : List Piece) → IfForm Outer (at_sign again s front back)

    before_sign : (s : OneSign) → IfFound Cuts (sign_of (word.Before s) false)
    before_sign s [] back = one_forms s (rank_of_one s) back
    before_sign s (t ∷ front) back = tt

    sign_good : (w : Word) (after : Bool) → IfFound Cuts (sign_of w after)
    sign_good (word.Number value) after = tt
    sign_good word.Name after = tt
    sign_good (word.Callee s) after = tt
    sign_good (word.Between s) after = λ front back. two_forms s (rank_on_left (rank_of_two s)) front back (rank_of_two s + 1)
    sign_good (word.Before s) after = λ front back. before_sign s front back
    sign_good word.Minus true = λ front back. two_forms Sub 9 front back 10
    sign_good word.Minus false = λ front back. before_sign Neg front back
    sign_good word.If after = else_forms
    sign_good word.Else after = λ front back. tt
    sign_good (word.Stop mark) after = λ front back. tt
    sign_good (word.Open bracket) after = tt
    sign_good (word.Close bracket) after = tt
    sign_good word.Quoted after = tt
    sign_good word.Other after = tt

    cut_forms : (rank : ℕ) (ts : List Piece) → IfForm Outer (by_cut text again subscript rank ts (cut_of ts))
    cut_forms rank ts = by_place (cut_of ts) (list_good Cuts sign_good ts) where
      by_place : (place : Option Place) → IfFound (λ (place : Place). Cuts place.sign) place → IfForm Outer (by_cut text again subscript rank ts place)
      by_place None found = atom_forms (again 1) subscript (inner 1) each text ts
      by_place (Some place) found =
          if-either Outer (nat_lt (rank_of place.sign) rank) NoForm (at_sign again place.sign (take place.at ts) (drop (place.at + 1) ts)) tt (found (take place.at ts) (drop (place.at + 1) ts))

-- ---- tasklets

most_of_all : (levels : ℕ) (at : List Expression) → AllByRecursion (λ e. code_levels_in e ≤ levels) at → code_levels_in_all (expressions_listed at) ≤ levels
most_of_all levels [] all = omega arith
most_of_all levels (first ∷ rest) all = max-le all.0 (most_of_all levels rest all.1)

code_grows : (levels : ℕ) → Grows (λ e. code_levels_in e ≤ levels) (λ e. code_levels_in e ≤ levels) (λ e. code_levels_in e ≤ suc levels)
code_grows levels = record {
  wider = λ e few'. omega (arith, few');
  of_number = λ value. omega arith;
  of_name = λ name. omega arith;
  of_element = λ name at all. omega (arith, most_of_all levels at all);
  of_one = λ s e few'. omega (arith, few');
  of_two = λ s a b first second. (let most : max (code_levels_in a) (code_levels_in b) ≤ levels = max-le first second in omega (arith, most));
  of_choice = λ value when other v w o.
      (let most : max (code_levels_in value) (max (code_levels_in when) (code_levels_in other)) ≤ levels = max-le v (max-le w o) in omega (arith, most));
}

code_last : (text : List ℕ) (ts : List Piece) → IfForm (λ e. code_levels_in e ≤ 0) (last_level text None ts)
code_last text [] = tt
code_last text (t ∷ []) = by_word t.word where
  by_word : (w : Word) → IfForm (λ e. code_levels_in e ≤ 0) (atom_by (λ ts. NoForm) (λ ts. NoForm) w (spelling text t) [])
  by_word (word.Number value) = omega arith
  by_word word.Name = omega arith
  by_word (word.Callee s) = omega arith
  by_word (word.Open Round) = tt
  by_word (word.Open Square) = tt
  by_word (word.Between s) = tt
  by_word (word.Before s) = tt
  by_word word.Minus = tt
  by_word word.If = tt
  by_word word.Else = tt
  by_word (word.Stop mark) = tt
  by_word (word.Close bracket) = tt
  by_word word.Quoted = tt
  by_word word.Other = tt
code_last text (t ∷ u ∷ rest) = tt

pub code_reads : (text : List ℕ) (levels rank : ℕ) (ts : List Piece) → IfForm (λ e. code_levels_in e ≤ levels) (reads_by text None levels rank ts)
unfolding reads_by
code_reads text zero rank ts = code_last text ts
code_reads text (suc levels) rank ts =
    cut_forms (λ e. code_levels_in e ≤ levels) (λ e. code_levels_in e ≤ levels) (λ e. code_levels_in e ≤ suc levels) (code_grows levels)
    text (reads_by text None levels) (reads_by text None levels 1) (code_reads text levels) (code_reads text levels 1) rank ts

-- ---- bodies

each_listed : (Holds : Expression → Type 0) (at : List Expression) → AllByRecursion Holds at → EachExpression Holds (expressions_listed at)
each_listed Holds [] all = tt
each_listed Holds (first ∷ rest) all = (all.0, each_listed Holds rest all.1)

body_grows : (levels : ℕ) → Grows (IsShallow levels) IsShallowCode (IsShallow (suc levels))
body_grows levels = record {
  wider = λ e few'. (omega (arith, few'.0), few'.1);
  of_number = λ value. (omega arith, tt);
  of_name = λ name. (omega arith, tt);
  of_element = λ name at all. (omega arith, each_listed IsShallowCode at all);
  of_one = λ s e few'. (omega (arith, few'.0), few'.1);
  of_two = λ s a b first second.
      ((let most : max (levels_in a) (levels_in b) ≤ levels = max-le first.0 second.0 in omega (arith, most)), (first.1, second.1));
  of_choice = λ value when other v w o.
      ((let most : max (levels_in value) (max (levels_in when) (levels_in other)) ≤ levels = max-le v.0 (max-le w.0 o.0) in omega (arith, most)), (v.1, (w.1, o.1)));
}

body_last : (text : List ℕ) (subscript : Reader) → ((ts : List Piece) → IfForm IsShallowCode (subscript ts)) → (ts : List Piece) → IfForm (IsShallow 0) (last_level text (Some subscript) ts)
body_last text subscript each [] = tt
body_last text subscript each (t ∷ []) = by_word t.word where
  by_word : (w : Word) → IfForm (IsShallow 0) (atom_by (λ ts. NoForm) (λ ts. NoForm) w (spelling text t) [])
  by_word (word.Number value) = (omega arith, tt)
  by_word word.Name = (omega arith, tt)
  by_word (word.Callee s) = (omega arith, tt)
  by_word (word.Open Round) = tt
  by_word (word.Open Square) = tt
  by_word (word.Between s) = tt
  by_word (word.Before s) = tt
  by_word word.Minus = tt
  by_word word.If = tt
  by_word word.Else = tt
  by_word (word.Stop mark) = tt
  by_word (word.Close bracket) = tt
  by_word word.Quoted = tt
  by_word word.Other = tt
body_last text subscript each (t ∷ u ∷ rest) = by_word t.word where
  read : IfForm (IsShallow 0) (element (spelling text t) subscript (u ∷ rest))
  read = element_forms IsShallowCode (IsShallow 0) (λ name at all. (omega arith, each_listed IsShallowCode at all)) (spelling text t) subscript (u ∷ rest) each

  unless : (inside : Option (List Piece)) → IfForm (IsShallow 0) (deep_unless inside (element (spelling text t) subscript (u ∷ rest)))
  unless None = tt
  unless (Some inside) = read

  by_word : (w : Word) → IfForm (IsShallow 0) (element_or_deep (Some subscript) w (spelling text t) (u ∷ rest))
  by_word word.Name = unless (whole (bracketed Square (u ∷ rest)))
  by_word (word.Callee s) = unless (whole (bracketed Square (u ∷ rest)))
  by_word (word.Number value) = tt
  by_word (word.Open bracket) = tt
  by_word (word.Between s) = tt
  by_word (word.Before s) = tt
  by_word word.Minus = tt
  by_word word.If = tt
  by_word word.Else = tt
  by_word (word.Stop mark) = tt
  by_word (word.Close bracket) = tt
  by_word word.Quoted = tt
  by_word word.Other = tt

body_reads : (text : List ℕ) (subscript : Reader) → ((ts : List Piece) → IfForm IsShallowCode (subscript ts)) → (levels rank : ℕ) (ts : List Piece) → IfForm (IsShallow levels) (reads_by text (Some subscript) levels rank ts)
unfolding reads_by
body_reads text subscript each zero rank ts = body_last text subscript each ts
body_reads text subscript each (suc levels) rank ts =
    cut_forms (IsShallow levels) IsShallowCode (IsShallow (suc levels)) (body_grows levels)
    text (reads_by text (Some subscript) levels) subscript (body_reads text subscript each levels) each rank ts

-- ---- whole expressions

pub code_expression : (text : List ℕ) (ts : List Piece) → IfForm IsShallowCode (expression text false 64 ts)
code_expression text ts = code_reads text 64 1 ts

pub body_expression : (text : List ℕ) (levels : ℕ) (ts : List Piece) → IfForm (IsShallow levels) (expression text true levels ts)
body_expression text levels ts = body_reads text (reads_by text None 64 1) (code_reads text 64 1) levels 1 ts

pub code_expressions : (text : List ℕ) (ts : List Piece) → IfForm (λ at. EachExpression IsShallowCode (expressions_listed at)) (expressions text false 64 ts)
code_expressions text ts =
    if-tells (AllByRecursion IsShallowCode) (λ at. EachExpression IsShallowCode (expressions_listed at)) (expressions text false 64 ts) (each_listed IsShallowCode)
    (if-listed IsShallowCode (map (expression text false 64) (parts_of Comma ts)) (each-mapped (IfForm IsShallowCode) (expression text false 64) (parts_of Comma ts) (code_expression text)))

pub body_expressions : (text : List ℕ) (ts : List Piece) → IfForm (λ at. EachExpression (IsShallow 64) (expressions_listed at)) (expressions text true 64 ts)
body_expressions text ts =
    if-tells (AllByRecursion (IsShallow 64)) (λ at. EachExpression (IsShallow 64) (expressions_listed at)) (expressions text true 64 ts) (each_listed (IsShallow 64))
    (if-listed (IsShallow 64) (map (expression text true 64) (parts_of Comma ts)) (each-mapped (IfForm (IsShallow 64)) (expression text true 64) (parts_of Comma ts) (body_expression text 64)))
