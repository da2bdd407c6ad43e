-- What a line of a text may say in each kind of block.
use Rattle.std.proofs.Common.{◌≡◌, ◌≤◌, ◌||◌, ℕ, ℤ, pos, negsuc, nat_eq, nat_le, List, [], ◌∷◌, map, length, Bool, true, false, codes, if◌then◌else◌, Option, Some, None, refl, ap, sym, ◌∙◌, subst, arith}
use Rattle.std.specs.Bool.{⊤}
use Rattle.std.specs.Prelude.{int_le}
use Rattle.std.specs.Option.{option_and_then}
use Rattle.std.proofs.lemmas.List.{length-map}
use Rattle.std.specs.List.{AllByRecursion}
use Rattle.std.proofs.lemmas.Bool.{eqb-true, leb-true}
use Rattle.sd_lex.specs.PlainTree.{Expression, Dimension, index, span, StatementTree, argument_array, local_array, map_scope, tasklet, call, for_loop, no_statement}
use Rattle.sd_lex.specs.TreeFold.{block_listed, expressions_listed}
use Rattle.sd_phrase.specs.declared.word.Piece.{Piece}
use Rattle.sd_phrase.specs.declared.word.Word.{Word}
use Rattle.sd_phrase.specs.declared.word.Word.TheVariants as word
use Rattle.sd_phrase.specs.declared.word.Bracket.TheVariants.{Round, Square}
use Rattle.sd_phrase.specs.declared.word.Mark.TheVariants.{Comma, Colon}
use Rattle.sd_phrase.specs.declared.reading.Reading.{Reading}
use Rattle.sd_phrase.specs.declared.reading.Reading.TheVariants.{NoForm, TooDeep, Form}
use Rattle.sd_phrase.specs.Words.{is_name, is_spelled, spelling}
use Rattle.sd_phrase.specs.Parts.{is_balanced, parts_of, at_mark, closed, bracketed, whole, few, Few, one_part, two_parts, three_parts, more_parts}
use Rattle.sd_phrase.specs.Phrase.{after, header, name_first, lone_name, lone_number, step_of, next, is_phrase}
use Rattle.sd_phrase.specs.Phrase as phrase
use Rattle.sd_phrase.specs.Readings.{reading_map, if_some, if_empty, both, listed}
use Rattle.sd_phrase.specs.LambdaReading.{LambdaNames, lambda_names, lambda_by}
use Rattle.sd_phrase.specs.ExpressionReading.{expression, expressions}
use Rattle.sd_phrase.specs.SubsetReading.{affine, wanted, optional, spanned, stepped, range, slot_by, slot, slots, subset}
use Rattle.sd_phrase.specs.MemletReading.{resolution, moved, volume_first, memlet_rest, memlet}
use Rattle.sd_phrase.specs.Memlet.{LambdaTree, MemletTree}
use Rattle.sd_line.specs.declared.line.head.BlockKind.{BlockKind}
use Rattle.sd_line.specs.declared.line.head.BlockKind.TheVariants.{Top, Program, Scope, Tasklet}
use Rattle.sd_line.specs.line.Head.{import_line, program_decorator, program_head, statement_head, reduce_head, input_head, output_head, consume_decorator, else_head}
use Rattle.sd_line.specs.line.HeadReading.{line_by, head_of}
use Rattle.sd_line.specs.line.TopLine as top
use Rattle.sd_line.specs.line.BodyLine as body
use Rattle.sd_line.specs.line.TaskletLine as tasklets
use Rattle.sd_line.specs.line.Condition as conditions
use Rattle.sd_line.specs.line.Declaration as declarations
use Rattle.sd_line.specs.line.ElementLine as elements
use Rattle.sd_line.specs.line.CallLine as calls
use Rattle.sd_line.specs.line.Repetition as repetitions
use Rattle.sd_line.specs.line.Reduction as reductions
use Rattle.sd_line.specs.line.Consume as consumes
use Rattle.sd_program.specs.Place.{length_of}
use Rattle.sd_read.proofs.readable_lemmas.kept.Passing.{false_is_not_true}
use Rattle.sd_read.proofs.readable_lemmas.kept.Heads.{IsFromOne, levels_of_value, GoesOn, AreExtents, IsArgument, AreArguments, Fits, FitsTop, FitsBody, FitsTasklet}
use Rattle.sd_read.proofs.readable_lemmas.kept.Affine.{some_or, none_is_not_some}
use Rattle.sd_read.specs.readable.Levels.{IsShallowCode, IsShallow}
use Rattle.sd_program.specs.Bounds.{EachExpression, IfWritten}
use Rattle.sd_read.proofs.readable_lemmas.lines.LevelForms.{code_expression, body_expression, code_expressions, body_expressions}
use Rattle.sd_read.proofs.readable_lemmas.lines.WrittenParts.{some_part, listed_length, AreWritten, written_forms}
use Rattle.sd_read.proofs.readable_lemmas.lines.Forms.{IfForm, if-always, if-tells, if-map, if-both, if-some, if-empty, if-true, if-either, if-and, if-listed, if-counted, each-mapped}

-- ---- steps

at_least : (value : ℤ) → int_le (pos 1) value ≡ true → IsFromOne (Some value)
at_least (pos n) low = (n, (refl, leb-true 1 n low))
at_least (negsuc n) low = false_is_not_true low

from_one : (found : Option ℤ) (n : ℤ) → phrase.from_one found ≡ Some n → IsFromOne (Some n)
from_one None n is = none_is_not_some n is
from_one (Some value) n is = by_test (int_le (pos 1) value) refl is where
  by_test : (test : Bool) → int_le (pos 1) value ≡ test → (if test then Some value else None) ≡ Some n → IsFromOne (Some n)
  by_test true low is = subst (λ n. IsFromOne (Some n)) (ap (some_or n) is) (at_least value low)
  by_test false high is = none_is_not_some n is

any_form : {A : Type 0} (read : Reading A) → IfForm (λ a. ⊤) read
any_form read = if-always (λ a. ⊤) read (λ a. tt)

-- the bounds of a range
abbrev IsBound : Option Expression → Type 0
IsBound bound = IfWritten (IsShallow 64) bound

wanted_forms : (text : List ℕ) (ts : List Piece) → IfForm IsBound (wanted (affine text ts))
wanted_forms text ts = if-map IsBound Some (affine text ts) (body_expression text 64 ts)

optional_forms : (text : List ℕ) (ts : List Piece) → IfForm IsBound (optional text ts)
optional_forms text [] = tt
optional_forms text (t ∷ ts) = wanted_forms text (t ∷ ts)

span_forms : (begin end : Reading (Option Expression)) (step : Option ℤ) → IsFromOne step → IfForm IsBound begin → IfForm IsBound end → IfForm GoesOn (spanned begin end step)
span_forms begin end step on first second = if-both IsBound IsBound GoesOn (λ b e. span b e step) begin end first second (λ b e low high. (on, (low, high)))

range_forms : (text : List ℕ) (begin end : List Piece) (step : Option ℤ) → IsFromOne step → IfForm GoesOn (range text begin end step)
range_forms text begin end step on = span_forms (wanted (affine text begin)) (wanted (affine text end)) step on (wanted_forms text begin) (wanted_forms text end)

stepped_forms : (text : List ℕ) (begin end step : List Piece) → IfForm GoesOn (stepped text begin end (step_of step))
stepped_forms text begin end step =
    if-some GoesOn (step_of step) (λ n. range text begin end (Some n)) (λ n is. range_forms text begin end (Some n) (from_one (lone_number step) n is))

slot_forms : (text : List ℕ) (in_subset : Bool) (parts : Few) → IfForm GoesOn (slot_by text in_subset parts)
slot_forms text true (one_part at) = if-map GoesOn index (affine text at) (if-tells (IsShallow 64) (λ e. GoesOn (index e)) (affine text at) (λ e few'. (tt, few')) (body_expression text 64 at))
slot_forms text true (two_parts begin end) = span_forms (optional text begin) (optional text end) None tt (optional_forms text begin) (optional_forms text end)
slot_forms text true (three_parts begin end step) = stepped_forms text begin end step
slot_forms text true more_parts = tt
slot_forms text false (one_part at) = tt
slot_forms text false (two_parts begin end) = range_forms text begin end None tt
slot_forms text false (three_parts begin end step) = stepped_forms text begin end step
slot_forms text false more_parts = tt

slots_forms : (text : List ℕ) (in_subset : Bool) (ts : List Piece) → IfForm (AllByRecursion GoesOn) (slots text in_subset ts)
slots_forms text in_subset ts =
    if-listed GoesOn (map (slot text in_subset) (parts_of Comma ts))
    (each-mapped (IfForm GoesOn) (slot text in_subset) (parts_of Comma ts) (λ part. slot_forms text in_subset (few (parts_of Colon part))))

subset_forms : (text : List ℕ) (ts : List Piece) → IfForm (AllByRecursion GoesOn) (subset text ts)
subset_forms text [] = tt
subset_forms text (t ∷ ts) = if-some (AllByRecursion GoesOn) (whole (bracketed Square (t ∷ ts))) (slots text true) (λ inside _. slots_forms text true inside)

abbrev OnMemlet : MemletTree → Type 0
OnMemlet m = AllByRecursion GoesOn m.dimensions

memlet_forms : (text : List ℕ) (ts : List Piece) → IfForm OnMemlet (memlet text ts)
memlet_forms text ts =
    if-some OnMemlet (name_first text ts) (λ found. memlet_rest text found.0 found.1 (bracketed Round found.1)) (λ found _. rest found.0 found.1 (bracketed Round found.1)) where
      parts : (name : List ℕ) (volume : Option ℤ) (r : Reading (Option LambdaTree)) (behind : List Piece) → IfForm OnMemlet (both (moved name volume) r (subset text behind))
      parts name volume r behind = if-both (λ r. ⊤) (AllByRecursion GoesOn) OnMemlet (moved name volume) r (subset text behind) (any_form r) (subset_forms text behind) (λ r ds _ on. on)

      rest : (name : List ℕ) (ts : List Piece) (cut : Option (List Piece × List Piece)) → IfForm OnMemlet (memlet_rest text name ts cut)
      rest name ts (Some cut) =
          if-some OnMemlet (volume_first text cut.0) (λ volume. both (moved name (Some volume.0)) (resolution text volume.1) (subset text cut.1))
          (λ volume _. parts name (Some volume.0) (resolution text volume.1) cut.1)
      rest name ts None = parts name None (Form None) ts

-- ---- top level

abbrev OfExtents : List Expression → Type 0
OfExtents es = AreExtents (expressions_listed es)

extents_forms : (text : List ℕ) (ts : List Piece) → IfForm OfExtents (top.extents text ts)
extents_forms text [] = (omega arith, tt)
extents_forms text (t ∷ ts) =
    if-some OfExtents (whole (bracketed Square (t ∷ ts))) (top.extents_in text)
    (λ inside _. if-true OfExtents (nat_le (length (parts_of Comma inside)) 4) (expressions text true 64 inside) (λ few'. few_extents inside (leb-true (length (parts_of Comma inside)) 4 few'))) where
      few_extents : (inside : List Piece) → length (parts_of Comma inside) ≤ 4 → IfForm OfExtents (expressions text true 64 inside)
      few_extents inside few' =
          if-and (λ es. length_of (expressions_listed es) ≤ 4) (λ es. EachExpression (IsShallow 64) (expressions_listed es)) (expressions text true 64 inside)
          (counted (expressions text true 64 inside) (if-counted (map (expression text true 64) (parts_of Comma inside)))) (body_expressions text inside) where
            counted : (read : Reading (List Expression)) → IfForm (λ list. length list ≡ length (map (expression text true 64) (parts_of Comma inside))) read → IfForm (λ es. length_of (expressions_listed es) ≤ 4) read
            counted NoForm is = tt
            counted TooDeep is = tt
            counted (Form es) is = rw (listed_length es) (subst (λ n. n ≤ 4) (sym (is ∙ length-map (parts_of Comma inside) (expression text true 64))) few')

argument_forms : (text : List ℕ) (line : ℕ) (ts : List Piece) → IfForm IsArgument (top.program_argument text line ts)
argument_forms text line ts =
    if-some IsArgument (name_first text ts) (λ found. if_some (after text top.type_phrase found.1) (λ rest. reading_map (λ list. argument_array line found.0 64 (expressions_listed list)) (top.extents text rest)))
    (λ found _. if-some IsArgument (after text top.type_phrase found.1) (λ rest. reading_map (λ list. argument_array line found.0 64 (expressions_listed list)) (top.extents text rest)) (λ rest _. typed_forms found.0 rest)) where
      typed_forms : (name : List ℕ) (rest : List Piece) → IfForm IsArgument (reading_map (λ list. argument_array line name 64 (expressions_listed list)) (top.extents text rest))
      typed_forms name rest = if-map IsArgument (λ list. argument_array line name 64 (expressions_listed list)) (top.extents text rest) (named (top.extents text rest) (extents_forms text rest)) where
        named : (read : Reading (List Expression)) → IfForm OfExtents read → IfForm (λ es. IsArgument (argument_array line name 64 (expressions_listed es))) read
        named NoForm few' = tt
        named TooDeep few' = tt
        named (Form es) few' = (line, name, 64, expressions_listed es, (few', refl))

are_arguments : (list : List StatementTree) → AllByRecursion IsArgument list → AreArguments (block_listed list)
are_arguments [] all = tt
are_arguments (first ∷ rest) all = (all.0, are_arguments rest all.1)

program_forms : (text : List ℕ) (line : ℕ) (name : List ℕ) (inside : List Piece) → IfForm FitsTop (top.program_line text line name inside)
program_forms text line name inside =
    if-map FitsTop (λ list. program_head name (block_listed list)) (listed arguments)
    (each (listed arguments) (if-listed IsArgument arguments (each-mapped (IfForm IsArgument) (top.program_argument text line) (parts_of Comma inside) (argument_forms text line)))) where
      arguments : List (Reading StatementTree)
      arguments = map (top.program_argument text line) (parts_of Comma inside)

      each : (read : Reading (List StatementTree)) → IfForm (AllByRecursion IsArgument) read → IfForm (λ list. AreArguments (block_listed list)) read
      each NoForm all = tt
      each TooDeep all = tt
      each (Form list) all = are_arguments list all

quoted_forms : (text : List ℕ) (name : List ℕ) (word' : Word) (bytes : List ℕ) (closes : Bool) → IfForm FitsTop (top.quoted_by text name word' bytes closes)
quoted_forms text name word.Quoted bytes true = tt
quoted_forms text name word.Quoted bytes false = tt
quoted_forms text name (word.Number value) bytes closes = tt
quoted_forms text name word.Name bytes closes = tt
quoted_forms text name (word.Callee sign) bytes closes = tt
quoted_forms text name (word.Between sign) bytes closes = tt
quoted_forms text name (word.Before sign) bytes closes = tt
quoted_forms text name word.Minus bytes closes = tt
quoted_forms text name word.If bytes closes = tt
quoted_forms text name word.Else bytes closes = tt
quoted_forms text name (word.Stop mark) bytes closes = tt
quoted_forms text name (word.Open bracket) bytes closes = tt
quoted_forms text name (word.Close bracket) bytes closes = tt
quoted_forms text name word.Other bytes closes = tt

symbol_forms : (text : List ℕ) (ts : List Piece) → IfForm FitsTop (top.symbol text ts)
symbol_forms text ts =
    if-some FitsTop (name_first text ts) (λ found. if_some (after text top.symbol_phrase found.1) (top.quoted text found.0))
    (λ found _. if-some FitsTop (after text top.symbol_phrase found.1) (top.quoted text found.0) (λ rest _. in_quotes found.0 rest)) where
      in_quotes : (name : List ℕ) (ts : List Piece) → IfForm FitsTop (top.quoted text name ts)
      in_quotes name [] = tt
      in_quotes name (t ∷ ts) = quoted_forms text name t.word (spelling text t) (is_phrase text (codes ")" ∷ []) ts)

-- what is in the round brackets of a `def`
abbrev in_brackets : List ℕ → List Piece → Option (List Piece)
in_brackets text ts = option_and_then (λ rest. header text (closed Round rest)) (next text (codes "(") ts)

pub top_forms : (text : List ℕ) (line : ℕ) (ts : List Piece) → IfForm FitsTop (top.top_line text line ts)
top_forms text line ts =
    if-either FitsTop (is_phrase text top.program_phrase ts) (Form program_decorator) _ tt
    (if-either FitsTop (is_phrase text top.import_dace ts || is_phrase text top.import_numpy ts) (Form import_line) (top.def_or_symbol text line ts (next text (codes "def") ts)) tt
    (by_def (next text (codes "def") ts))) where
      by_equals : (rest : List Piece) (behind : Option (List Piece)) → IfForm FitsTop (top.symbol_or_def text line rest ts behind)
      by_equals rest None =
          if-some FitsTop (name_first text rest) (λ found. if_some (in_brackets text found.1) (top.program_line text line found.0))
          (λ found _. if-some FitsTop (in_brackets text found.1) (top.program_line text line found.0) (λ inside _. program_forms text line found.0 inside))
      by_equals rest (Some behind) = symbol_forms text ts

      by_def : (rest : Option (List Piece)) → IfForm FitsTop (top.def_or_symbol text line ts rest)
      by_def None = symbol_forms text ts
      by_def (Some rest) = by_equals rest (next text (codes "=") rest)

-- ---- bodies

module _ (kind : BlockKind) where
  body_condition : (text : List ℕ) (ts : List Piece) → IfForm (IsShallow 64) (conditions.condition text true ts)
  body_condition text ts =
      if-some (IsShallow 64) (at_mark Colon ts) (λ cut. if_empty cut.1 (expression text true 64 cut.0))
      (λ cut _. if-empty (IsShallow 64) cut.1 (expression text true 64 cut.0) (body_expression text 64 cut.0))

  while_forms : (text : List ℕ) (line : ℕ) (ts : List Piece) → IfForm (FitsBody kind) (conditions.while_line text line ts)
  while_forms text line ts = if-map (FitsBody kind) _ (conditions.condition text true ts) (body_condition text ts)

  if_forms : (text : List ℕ) (line : ℕ) (ts : List Piece) → IfForm (FitsBody kind) (conditions.if_line text line ts)
  if_forms text line ts = if-map (FitsBody kind) _ (conditions.condition text true ts) (body_condition text ts)

  elif_forms : (text : List ℕ) (ts : List Piece) → IfForm (FitsBody kind) (conditions.elif_line text true ts)
  elif_forms text ts = if-map (FitsBody kind) _ (conditions.condition text true ts) (body_condition text ts)

  loop_forms : (text : List ℕ) (line : ℕ) (name : List ℕ) (parts : Few) → IfForm (FitsBody kind) (repetitions.loop_line text line name parts)
  loop_forms text line name (one_part end) =
      if-map (FitsBody kind) (λ e. statement_head (for_loop line name None e None no_statement)) (expression text true 63 end)
      (if-tells (IsShallow 63) (λ e. (FitsBody kind) (statement_head (for_loop line name None e None no_statement))) (expression text true 63 end) (λ e few'. (tt, (tt, few'))) (body_expression text 63 end))
  loop_forms text line name (two_parts begin end) =
      if-both (IsShallow 64) (IsShallow 63) (FitsBody kind) _ (expression text true 64 begin) (expression text true 63 end) (body_expression text 64 begin) (body_expression text 63 end) (λ b e low high. (tt, (low, high)))
  loop_forms text line name (three_parts begin end step) =
      if-some (FitsBody kind) (step_of step) (λ n. repetitions.loop_between text line name begin end (Some n))
      (λ n is. if-both (IsShallow 64) (IsShallow 63) (FitsBody kind) _ (expression text true 64 begin) (expression text true 63 end) (body_expression text 64 begin) (body_expression text 63 end)
      (λ b e low high. (from_one (lone_number step) n is, (low, high))))
  loop_forms text line name more_parts = tt

  loop_names_forms : (text : List ℕ) (line : ℕ) (names : List (List ℕ)) (inside : List Piece) → IfForm (FitsBody kind) (repetitions.loop_names text line names inside)
  loop_names_forms text line [] inside = tt
  loop_names_forms text line (name ∷ []) inside = loop_forms text line name (few (parts_of Comma inside))
  loop_names_forms text line (name ∷ other ∷ names) inside = tt

  map_forms : (text : List ℕ) (line : ℕ) (names : List (List ℕ)) (inside : List Piece) → IfForm (FitsBody kind) (repetitions.map_line text line names inside)
  map_forms text line names inside =
      if-true (FitsBody kind) (nat_eq (length names) (length (parts_of Comma inside))) (reading_map (λ ranges. statement_head (map_scope line names ranges no_statement)) (slots text false inside))
      (λ same. if-map (FitsBody kind) (λ ranges. statement_head (map_scope line names ranges no_statement)) (slots text false inside)
      (counted same (slots text false inside) (if-counted (map (slot text false) (parts_of Comma inside))) (slots_forms text false inside))) where
        counted : nat_eq (length names) (length (parts_of Comma inside)) ≡ true → (read : Reading (List Dimension)) → IfForm (λ list. length list ≡ length (map (slot text false) (parts_of Comma inside))) read →
            IfForm (AllByRecursion GoesOn) read → IfForm (λ ranges. (1 ≤ length names) × ((length names ≡ length ranges) × AllByRecursion GoesOn ranges)) read
        counted same NoForm is on = tt
        counted same TooDeep is on = tt
        counted same (Form ranges) is on =
            let as_many = eqb-true (length names) (length (parts_of Comma inside)) same in
            (subst (λ n. 1 ≤ n) (sym as_many) (some_part Comma 0 inside), (as_many ∙ sym (is ∙ length-map (parts_of Comma inside) (slot text false)), on))

  for_forms : (text : List ℕ) (line : ℕ) (ts : List Piece) → IfForm (FitsBody kind) (repetitions.for_line text line ts)
  for_forms text line ts =
      if-some (FitsBody kind) (repetitions.names_first text ts) (λ found. repetitions.for_names text line found.0 found.1) (λ found _. by_range found.0 found.1 (after text repetitions.in_range found.1)) where
        by_map : (names : List (List ℕ)) (rest : Option (List Piece)) → IfForm (FitsBody kind) (repetitions.map_or_none text line names rest)
        by_map names None = tt
        by_map names (Some rest) = if-some (FitsBody kind) (header text (closed Square rest)) (repetitions.map_line text line names) (λ inside _. map_forms text line names inside)

        by_range : (names : List (List ℕ)) (ts : List Piece) (rest : Option (List Piece)) → IfForm (FitsBody kind) (repetitions.loop_or_map text line names ts rest)
        by_range names ts (Some rest) = if-some (FitsBody kind) (header text (closed Round rest)) (repetitions.loop_names text line names) (λ inside _. loop_names_forms text line names inside)
        by_range names ts None = by_map names (after text repetitions.in_map ts)

  consume_forms : (text : List ℕ) (ts : List Piece) → IfForm (FitsBody kind) (consumes.consume_line text ts)
  consume_forms text ts =
      if-some (FitsBody kind) (name_first text ts) (λ found. if_some (in_brackets text found.1) (λ inside. consumes.consume_by text found.0 (few (parts_of Comma inside))))
      (λ found _. if-some (FitsBody kind) (in_brackets text found.1) (λ inside. consumes.consume_by text found.0 (few (parts_of Comma inside))) (λ inside _. by_parts found.0 (few (parts_of Comma inside)))) where
        by_parts : (name : List ℕ) (parts : Few) → IfForm (FitsBody kind) (consumes.consume_by text name parts)
        by_parts name (one_part element) = if-some (FitsBody kind) (lone_name text element) (λ x. consumes.consumed name x None) (λ x _. tt)
        by_parts name (two_parts element worker) =
            if-some (FitsBody kind) (lone_name text element) (λ x. if_some (lone_name text worker) (λ p. consumes.consumed name x (Some p)))
            (λ x _. if-some (FitsBody kind) (lone_name text worker) (λ p. consumes.consumed name x (Some p)) (λ p _. tt))
        by_parts name (three_parts a b c) = tt
        by_parts name more_parts = tt

  decorator_forms : (text : List ℕ) (ts : List Piece) → IfForm (FitsBody kind) (consumes.decorator_line text ts)
  decorator_forms text ts =
      if-some (FitsBody kind) (option_and_then (λ rest. whole (closed Round rest)) (after text consumes.decorator_phrase ts)) (λ inside. consumes.decorator_by text (few (parts_of Comma inside)))
      (λ inside _. by_parts (few (parts_of Comma inside))) where
        by_parts : (parts : Few) → IfForm (FitsBody kind) (consumes.decorator_by text parts)
        by_parts (one_part a) = tt
        by_parts (two_parts from size) =
            if-some (FitsBody kind) (lone_name text from) (λ name. if_some (lone_number size) (λ n. Form (consume_decorator name n)))
            (λ name _. if-some (FitsBody kind) (lone_number size) (λ n. Form (consume_decorator name n)) (λ n _. tt))
        by_parts (three_parts a b c) = tt
        by_parts more_parts = tt

  reduce_forms : (text : List ℕ) (inside : List Piece) → IfForm (FitsBody kind) (reductions.reduce_line text inside)
  reduce_forms text inside =
      if-some (FitsBody kind) (option_and_then (lambda_names text) (next text (codes "lambda") inside)) (reductions.reduce_names text) (λ names _. by_names names) where
        by_lambda : (given : reductions.Containers) (r : Reading LambdaTree) → IfForm (FitsBody kind) (reductions.reduced given.from given.to given.options r)
        by_lambda given r = if-map (FitsBody kind) (λ lambda. reduce_head lambda given.from given.to given.options.axis given.options.identity) r (any_form r)

        by_names : (names : LambdaNames) → IfForm (FitsBody kind) (reductions.reduce_names text names)
        by_names names =
            if-some (FitsBody kind) (at_mark Comma names.rest) (λ cut. if_some (reductions.containers text cut.1) (λ given. reductions.reduced given.from given.to given.options (lambda_by text names.first names.second cut.0)))
            (λ cut _. if-some (FitsBody kind) (reductions.containers text cut.1) (λ given. reductions.reduced given.from given.to given.options (lambda_by text names.first names.second cut.0))
            (λ given _. by_lambda given (lambda_by text names.first names.second cut.0)))

  declaration_forms : (text : List ℕ) (line : ℕ) (name : List ℕ) (ts : List Piece) → IfForm (FitsBody kind) (declarations.declaration_line text line name ts)
  declaration_forms text line name ts = by_local (after text declarations.define_local ts) where
    by_parts : (parts : Few) → IfForm (FitsBody kind) (declarations.stream_line text line name parts)
    by_parts (one_part a) = if-true (FitsBody kind) (declarations.is_type text a) (declarations.streamed line name None) (λ _. tt)
    by_parts (two_parts a size) =
        if-true (FitsBody kind) (declarations.is_type text a) (if_some (lone_number size) (λ n. declarations.streamed line name (Some n)))
        (λ _. if-some (FitsBody kind) (lone_number size) (λ n. declarations.streamed line name (Some n)) (λ n _. tt))
    by_parts (three_parts a b c) = tt
    by_parts more_parts = tt

    by_stream : (rest : Option (List Piece)) → IfForm (FitsBody kind) (declarations.stream_or_none text line name rest)
    by_stream None = tt
    by_stream (Some rest) = if-some (FitsBody kind) (whole (closed Round rest)) (λ inside. declarations.stream_line text line name (few (parts_of Comma inside))) (λ inside _. by_parts (few (parts_of Comma inside)))

    by_extents : (inside : List Piece) → IfForm (FitsBody kind) (reading_map (λ extents. statement_head (local_array line name (expressions_listed extents) 64)) (expressions text true 64 inside))
    by_extents inside = if-map (FitsBody kind) (λ extents. statement_head (local_array line name (expressions_listed extents) 64)) (expressions text true 64 inside) (written_forms text inside)

    by_local : (rest : Option (List Piece)) → IfForm (FitsBody kind) (declarations.local_or_stream text line name ts rest)
    by_local (Some rest) =
        if-some (FitsBody kind) (whole (closed Round rest)) (declarations.local_line text line name)
        (λ inside _. if-some (FitsBody kind) (bracketed Square inside) (λ cut. if_some (declarations.typed text cut.1) (λ rest. reading_map (λ extents. statement_head (local_array line name (expressions_listed extents) 64)) (expressions text true 64 cut.0)))
        (λ cut _. if-some (FitsBody kind) (declarations.typed text cut.1) (λ rest. reading_map (λ extents. statement_head (local_array line name (expressions_listed extents) 64)) (expressions text true 64 cut.0)) (λ rest _. by_extents cut.0)))
    by_local None = by_stream (after text declarations.define_stream ts)

  assign_forms : (text : List ℕ) (line : ℕ) (name : List ℕ) (add : Bool) (inside value : List Piece) → IfForm (FitsBody kind) (elements.assign_line text line name add (levels_of_value kind add) inside value)
  assign_forms text line name add inside value =
      if-both AreWritten (IsShallow (levels_of_value kind add)) (FitsBody kind) (elements.assigned line name add) (expressions text true 64 inside) (expression text true (levels_of_value kind add) value)
      (written_forms text inside) (body_expression text (levels_of_value kind add) value) (λ at e written few'. (written.0, (written.1, few')))

  element_forms : (text : List ℕ) (line : ℕ) (name : List ℕ) (inside behind : List Piece) → IfForm (FitsBody kind) (elements.element_line text kind line name inside behind)
  element_forms text line name inside behind = by_colon (at_mark Colon inside) where
    by_sum : (value : Option (List Piece)) → IfForm (FitsBody kind) (elements.sum_or_none text kind line name inside value)
    by_sum None = tt
    by_sum (Some value) = assign_forms text line name true inside value

    by_equals : (value : Option (List Piece)) → IfForm (FitsBody kind) (elements.assign_or_sum text kind line name inside behind value)
    by_equals (Some value) = assign_forms text line name false inside value
    by_equals None = by_sum (next text (codes "+=") behind)

    sides : (from : List ℕ) (inner : List Piece) → IfForm (FitsBody kind) (both (elements.copied line name from) (slots text true inside) (slots text true inner))
    sides from inner =
        if-both (AllByRecursion GoesOn) (AllByRecursion GoesOn) (FitsBody kind) (elements.copied line name from) (slots text true inside) (slots text true inner) (slots_forms text true inside) (slots_forms text true inner)
        (λ a b first second. (first, second))

    by_colon : (range' : Option (List Piece × List Piece)) → IfForm (FitsBody kind) (elements.element_by text kind line name inside behind range')
    by_colon (Some range') =
        if-some (FitsBody kind) (next text (codes "=") behind) (elements.copy_line text line name inside)
        (λ ts _. if-some (FitsBody kind) (name_first text ts) (λ found. if_some (whole (bracketed Square found.1)) (λ inner. both (elements.copied line name found.0) (slots text true inside) (slots text true inner)))
        (λ found _. if-some (FitsBody kind) (whole (bracketed Square found.1)) (λ inner. both (elements.copied line name found.0) (slots text true inside) (slots text true inner)) (λ inner _. sides found.0 inner)))
    by_colon None = by_equals (next text (codes "=") behind)

  abbrev OnArgument : List ℕ × List Dimension → Type 0
  OnArgument argument = AllByRecursion GoesOn argument.1

  call_forms : (text : List ℕ) (line : ℕ) (name : List ℕ) (inside : List Piece) → IfForm (FitsBody kind) (calls.call_line text line name inside)
  call_forms text line name inside =
      if-map (FitsBody kind) (λ arguments. statement_head (call line name arguments)) (listed (map (calls.call_argument text) (parts_of Comma inside)))
      (if-listed OnArgument (map (calls.call_argument text) (parts_of Comma inside)) (each-mapped (IfForm OnArgument) (calls.call_argument text) (parts_of Comma inside) one_argument)) where
        one_argument : (part : List Piece) → IfForm OnArgument (calls.call_argument text part)
        one_argument part =
            if-some OnArgument (name_first text part) (λ found. reading_map (λ dimensions. (found.0, dimensions)) (subset text found.1))
            (λ found _. if-map OnArgument (λ dimensions. (found.0, dimensions)) (subset text found.1) (subset_forms text found.1))

  word_forms : (text : List ℕ) (line : ℕ) (t : Piece) (ts : List Piece) → IfForm (FitsBody kind) (body.word_line text line t ts)
  word_forms text line t ts = first where
    fifth : IfForm (FitsBody kind) (if is_spelled text t (codes "def") then consumes.consume_line text ts else NoForm)
    fifth = if-either (FitsBody kind) (is_spelled text t (codes "def")) (consumes.consume_line text ts) NoForm (consume_forms text ts) tt

    fourth : IfForm (FitsBody kind) (if is_spelled text t (codes "elif") then conditions.elif_line text true ts else (if is_spelled text t (codes "def") then consumes.consume_line text ts else NoForm))
    fourth = if-either (FitsBody kind) (is_spelled text t (codes "elif")) (conditions.elif_line text true ts) _ (elif_forms text ts) fifth

    third : IfForm (FitsBody kind) (if is_spelled text t (codes "if") then conditions.if_line text line ts else (if is_spelled text t (codes "elif") then conditions.elif_line text true ts else (if is_spelled text t (codes "def") then consumes.consume_line text ts else NoForm)))
    third = if-either (FitsBody kind) (is_spelled text t (codes "if")) (conditions.if_line text line ts) _ (if_forms text line ts) fourth

    first : IfForm (FitsBody kind) (body.word_line text line t ts)
    first = if-either (FitsBody kind) (is_spelled text t (codes "for")) (repetitions.for_line text line ts) _ (for_forms text line ts)
        (if-either (FitsBody kind) (is_spelled text t (codes "while")) (conditions.while_line text line ts) _ (while_forms text line ts) third)

  first_word_forms : (text : List ℕ) (line : ℕ) (ts : List Piece) → IfForm (FitsBody kind) (body.first_word_line text line ts)
  first_word_forms text line [] = tt
  first_word_forms text line (t ∷ ts) = word_forms text line t ts

  pub body_forms : (text : List ℕ) (line : ℕ) (ts : List Piece) → IfForm (FitsBody kind) (body.body_line text kind line ts)
  body_forms text line [] = tt
  body_forms text line (t ∷ ts) =
      if-either (FitsBody kind) (is_name t.word) (body.body_named_line text kind line t ts (t ∷ ts)) (consumes.decorator_line text (t ∷ ts)) (by_declaration (next text (codes "=") ts)) (decorator_forms text (t ∷ ts)) where
        by_reduce : (rest : Option (List Piece)) → IfForm (FitsBody kind) (body.reduce_or_word text line (t ∷ ts) rest)
        by_reduce (Some rest) = if-some (FitsBody kind) (whole (closed Round rest)) (reductions.reduce_line text) (λ inside _. reduce_forms text inside)
        by_reduce None =
            if-either (FitsBody kind) (is_phrase text body.tasklet_phrase (t ∷ ts)) (Form (statement_head (tasklet line no_statement))) _ tt
            (if-either (FitsBody kind) (is_phrase text conditions.else_phrase (t ∷ ts)) (Form else_head) (body.first_word_line text line (t ∷ ts)) tt (first_word_forms text line (t ∷ ts)))

        by_call : (inside : Option (List Piece)) → IfForm (FitsBody kind) (body.call_or_keyword text line t (t ∷ ts) inside)
        by_call (Some inside) = call_forms text line (spelling text t) inside
        by_call None = by_reduce (after text body.reduce_phrase (t ∷ ts))

        by_element : (cut : Option (List Piece × List Piece)) → IfForm (FitsBody kind) (body.element_or_call text kind line t ts (t ∷ ts) cut)
        by_element (Some cut) = element_forms text line (spelling text t) cut.0 cut.1
        by_element None = by_call (whole (bracketed Round ts))

        by_declaration : (behind : Option (List Piece)) → IfForm (FitsBody kind) (body.declaration_or_element text kind line t ts (t ∷ ts) behind)
        by_declaration (Some behind) = declaration_forms text line (spelling text t) behind
        by_declaration None = by_element (bracketed Square ts)

-- ---- tasklets

code_condition : (text : List ℕ) (ts : List Piece) → IfForm IsShallowCode (conditions.condition text false ts)
code_condition text ts =
    if-some IsShallowCode (at_mark Colon ts) (λ cut. if_empty cut.1 (expression text false 64 cut.0))
    (λ cut _. if-empty IsShallowCode cut.1 (expression text false 64 cut.0) (code_expression text cut.0))

when_forms : (text : List ℕ) (line : ℕ) (ts : List Piece) → IfForm FitsTasklet (tasklets.when_line text line ts)
when_forms text line ts = if-map FitsTasklet _ (conditions.condition text false ts) (code_condition text ts)

when_not_forms : (text : List ℕ) (ts : List Piece) → IfForm FitsTasklet (conditions.elif_line text false ts)
when_not_forms text ts = if-map FitsTasklet _ (conditions.condition text false ts) (code_condition text ts)

set_forms : (text : List ℕ) (line : ℕ) (name : List ℕ) (ts : List Piece) → IfForm FitsTasklet (tasklets.set_line text line name ts)
set_forms text line name ts = if-map FitsTasklet _ (expression text false 64 ts) (code_expression text ts)

set_at_forms : (text : List ℕ) (line : ℕ) (name : List ℕ) (inside behind : List Piece) → IfForm FitsTasklet (tasklets.set_at_line text line name inside behind)
set_at_forms text line name inside behind =
    if-some FitsTasklet _ (λ value. both (tasklets.set_element line name) (expressions text false 64 inside) (expression text false 64 value))
    (λ value _. if-both (λ at. EachExpression IsShallowCode (expressions_listed at)) IsShallowCode FitsTasklet (tasklets.set_element line name) (expressions text false 64 inside) (expression text false 64 value)
    (code_expressions text inside) (code_expression text value) (λ at e first second. (first, second)))

keyword_forms : (text : List ℕ) (line : ℕ) (t : Piece) (rest ts : List Piece) → IfForm FitsTasklet (tasklets.tasklet_keyword_line text line t rest ts)
keyword_forms text line t rest ts = first where
  third : IfForm FitsTasklet (if is_spelled text t (codes "elif") then conditions.elif_line text false rest else NoForm)
  third = if-either FitsTasklet (is_spelled text t (codes "elif")) (conditions.elif_line text false rest) NoForm (when_not_forms text rest) tt

  second : IfForm FitsTasklet (if is_spelled text t (codes "if") then tasklets.when_line text line rest else (if is_spelled text t (codes "elif") then conditions.elif_line text false rest else NoForm))
  second = if-either FitsTasklet (is_spelled text t (codes "if")) (tasklets.when_line text line rest) _ (when_forms text line rest) third

  first : IfForm FitsTasklet (tasklets.tasklet_keyword_line text line t rest ts)
  first = if-either FitsTasklet (is_phrase text conditions.else_phrase ts) (Form else_head) _ tt second

pub tasklet_forms : (text : List ℕ) (line : ℕ) (ts : List Piece) → IfForm FitsTasklet (tasklets.tasklet_line text line ts)
tasklet_forms text line [] = tt
tasklet_forms text line (t ∷ ts) = if-either FitsTasklet (is_name t.word) (tasklets.tasklet_named_line text line t ts (t ∷ ts)) NoForm (by_set (next text (codes "=") ts)) tt where
  by_element : (cut : Option (List Piece × List Piece)) → IfForm FitsTasklet (tasklets.element_or_keyword text line t ts (t ∷ ts) cut)
  by_element (Some cut) = set_at_forms text line (spelling text t) cut.0 cut.1
  by_element None = keyword_forms text line t ts (t ∷ ts)

  by_output : (behind : Option (List Piece)) → IfForm FitsTasklet (tasklets.output_or_element text line t ts (t ∷ ts) behind)
  by_output (Some behind) = if-map FitsTasklet (output_head (spelling text t)) (memlet text behind) (memlet_forms text behind)
  by_output None = by_element (bracketed Square ts)

  by_input : (behind : Option (List Piece)) → IfForm FitsTasklet (tasklets.input_or_output text line t ts (t ∷ ts) behind)
  by_input (Some behind) = if-map FitsTasklet (input_head (spelling text t)) (memlet text behind) (memlet_forms text behind)
  by_input None = by_output (next text (codes ">>") ts)

  by_set : (behind : Option (List Piece)) → IfForm FitsTasklet (tasklets.set_or_input text line t ts (t ∷ ts) behind)
  by_set (Some behind) = set_forms text line (spelling text t) behind
  by_set None = by_input (next text (codes "<<") ts)

-- a line says what its kind of block allows
line_forms : (text : List ℕ) (kind : BlockKind) (line : ℕ) (ts : List Piece) → IfForm (Fits kind) (line_by text kind line ts)
line_forms text Top line ts = top_forms text line ts
line_forms text Program line ts = body_forms Program text line ts
line_forms text Scope line ts = body_forms Scope text line ts
line_forms text Tasklet line ts = tasklet_forms text line ts

pub head_forms : (text : List ℕ) (kind : BlockKind) (line : ℕ) (ts : List Piece) → IfForm (Fits kind) (head_of text kind line ts)
head_forms text kind line ts = if-either (Fits kind) (is_balanced ts) (line_by text kind line ts) NoForm (line_forms text kind line ts) tt
