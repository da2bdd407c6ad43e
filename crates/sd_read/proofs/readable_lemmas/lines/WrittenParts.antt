-- Between brackets there is at least one part, so expressions between commas are at least one.
use Rattle.std.proofs.Common.{◌≡◌, ◌≤◌, ℕ, ◌+◌, List, [], ◌∷◌, map, length, Bool, true, false, refl, ap, sym, ◌∙◌, subst, arith}
use Rattle.std.proofs.lemmas.List.{length-map}
use Rattle.sd_lex.specs.PlainTree.{Expression}
use Rattle.sd_lex.specs.TreeFold.{expressions_listed}
use Rattle.sd_phrase.specs.declared.reading.Reading.{Reading}
use Rattle.sd_phrase.specs.declared.reading.Reading.TheVariants.{NoForm, TooDeep, Form}
use Rattle.sd_phrase.specs.declared.word.Mark.{Mark}
use Rattle.sd_phrase.specs.declared.word.Mark.TheVariants.{Comma}
use Rattle.sd_phrase.specs.declared.word.Piece.{Piece}
use Rattle.sd_phrase.specs.Signs.{depth_after}
use Rattle.sd_phrase.specs.Parts.{is_mark_outside, onto_first, parted, parts_from, parts_of}
use Rattle.sd_phrase.specs.ExpressionReading.{expression, expressions}
use Rattle.sd_program.specs.Bounds.{EachExpression}
use Rattle.sd_program.specs.Place.{length_of}
use Rattle.sd_read.specs.readable.Levels.{IsShallow}
use Rattle.sd_read.proofs.readable_lemmas.lines.Forms.{IfForm, if-and, if-counted}
use Rattle.sd_read.proofs.readable_lemmas.lines.LevelForms.{body_expressions}

some_onto : (t : Piece) (ps : List (List Piece)) → 1 ≤ length (onto_first t ps)
some_onto t [] = omega arith
some_onto t (p ∷ ps) = omega arith

some_parted : (test : Bool) (t : Piece) (ps : List (List Piece)) → 1 ≤ length (parted test t ps)
some_parted true t ps = omega arith
some_parted false t ps = some_onto t ps

pub some_part : (mark : Mark) (depth : ℕ) (ts : List Piece) → 1 ≤ length (parts_from mark depth ts)
some_part mark depth [] = omega arith
some_part mark depth (t ∷ ts) = some_parted (is_mark_outside mark depth t.word) t (parts_from mark (depth_after t.word depth) ts)

pub listed_length : (es : List Expression) → length_of (expressions_listed es) ≡ length es
listed_length [] = refl
listed_length (first ∷ rest) = ap (λ n. n + 1) (listed_length rest) ∙ omega arith

-- at least one, of few levels
abbrev pub AreWritten : List Expression → Type 0
AreWritten at = (1 ≤ length_of (expressions_listed at)) × EachExpression (IsShallow 64) (expressions_listed at)

pub written_forms : (text : List ℕ) (inside : List Piece) → IfForm AreWritten (expressions text true 64 inside)
written_forms text inside =
    if-and (λ at. 1 ≤ length_of (expressions_listed at)) (λ at. EachExpression (IsShallow 64) (expressions_listed at)) (expressions text true 64 inside)
    (some_written (expressions text true 64 inside) (if-counted (map (expression text true 64) (parts_of Comma inside)))) (body_expressions text inside) where
      some_written : (read : Reading (List Expression)) → IfForm (λ list. length list ≡ length (map (expression text true 64) (parts_of Comma inside))) read → IfForm (λ at. 1 ≤ length_of (expressions_listed at)) read
      some_written NoForm is = tt
      some_written TooDeep is = tt
      some_written (Form at) is = rw (listed_length at) (subst (λ n. 1 ≤ n) (sym (is ∙ length-map (parts_of Comma inside) (expression text true 64))) (some_part Comma 0 inside))
