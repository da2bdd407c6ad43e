-- What a line says holds no consume scope, and the element that a `def` names is a name without `$`.
use Rattle.std.proofs.Common.{◌≡◌, ℕ, zero, suc, ◌+◌, List, [], ◌∷◌, map, take, drop, Bool, true, false, codes, nat_eq, length, if◌then◌else◌, Option, Some, None, refl, sym, subst}
use Rattle.std.specs.Bool.{⊤}
use Rattle.std.specs.List.{AllByRecursion}
use Rattle.std.specs.Option.{option_and_then}
use Rattle.std.specs.Prelude.{IfSome}
use Rattle.sd_lex.specs.PlainTree.{StatementTree, local_array, map_scope, tasklet, consume_scope, call, for_loop, set, Block, no_statement, and_statement}
use Rattle.sd_lex.specs.TreeFold.{expressions_listed}
use Rattle.sd_phrase.specs.declared.word.Bracket.{Bracket}
use Rattle.sd_phrase.specs.declared.word.Bracket.TheVariants.{Round, Square}
use Rattle.sd_phrase.specs.declared.word.Mark.{Mark}
use Rattle.sd_phrase.specs.declared.word.Mark.TheVariants.{Comma, Colon}
use Rattle.sd_phrase.specs.declared.word.Piece.{Piece}
use Rattle.sd_phrase.specs.declared.reading.Reading.{Reading}
use Rattle.sd_phrase.specs.declared.reading.Reading.TheVariants.{NoForm, Form}
use Rattle.sd_phrase.specs.ExpressionReading.{expression, expressions}
use Rattle.sd_phrase.specs.LambdaReading.{lambda_names, lambda_by}
use Rattle.sd_phrase.specs.MemletReading.{memlet}
use Rattle.sd_phrase.specs.Parts.{is_mark_outside, onto_first, parted, parts_from, parts_of, at_mark, closing_from, closes, word_at, closed_at, closed, bracketed, whole, few, Few, one_part, two_parts, three_parts, more_parts, is_balanced}
use Rattle.sd_phrase.specs.Phrase.{next, after, is_phrase, is_colon, name_first, lone_name, lone_number, step_of, header}
use Rattle.sd_phrase.specs.Readings.{reading_map, both, if_some, listed}
use Rattle.sd_phrase.specs.Signs.{depth_after}
use Rattle.sd_phrase.specs.SubsetReading.{slots}
use Rattle.sd_phrase.specs.Words.{is_name, is_spelled, spelling}
use Rattle.sd_line.specs.declared.line.head.BlockKind.{BlockKind}
use Rattle.sd_line.specs.declared.line.head.BlockKind.TheVariants.{Top, Program, Scope, Tasklet}
use Rattle.sd_line.specs.line.Head.{HeadTree, import_line, symbol_line, program_decorator, program_head, statement_head, reduce_head, input_head, output_head, consume_decorator, consume_head, elif_head, else_head}
use Rattle.sd_line.specs.line.HeadReading.{line_by, head_of}
use Rattle.sd_line.specs.line.BodyLine as body
use Rattle.sd_line.specs.line.TaskletLine as tasklets
use Rattle.sd_line.specs.line.TopLine as top
use Rattle.sd_line.specs.line.Condition as conditions
use Rattle.sd_line.specs.line.Declaration as declarations
use Rattle.sd_line.specs.line.ElementLine as elements
use Rattle.sd_line.specs.line.CallLine as calls
use Rattle.sd_line.specs.line.Repetition as repetitions
use Rattle.sd_line.specs.line.Reduction as reductions
use Rattle.sd_line.specs.line.Consume as consumes
use Rattle.sd_read.proofs.readable_lemmas.kept.Heads.{IsArgument, AreArguments, FitsTop}
use Rattle.sd_read.proofs.readable_lemmas.lines.Forms.{IfForm, if-always, if-tells, if-map, if-both, if-some, if-true, if-either}
use Rattle.sd_read.proofs.readable_lemmas.lines.LineForms.{top_forms}
use Rattle.sd_tie.proofs.plain_elements_lemmas.Words.{IsPlainName, ArePlain}

-- ---- what a line says

-- no consume scope
abbrev pub IsNoScope : StatementTree → Type 0
IsNoScope (consume_scope line from size name element worker body) = ⊥
IsNoScope statement = ⊤

abbrev pub AreNoScopes : Block → Type 0
AreNoScopes no_statement = ⊤
AreNoScopes (and_statement first rest) = IsNoScope first × AreNoScopes rest

abbrev pub IsPlainHead : HeadTree → Type 0
IsPlainHead (program_head name arguments) = AreNoScopes arguments
IsPlainHead (statement_head s) = IsNoScope s
IsPlainHead (consume_head name element worker) = IsPlainName element
IsPlainHead head = ⊤

mapped : {A : Type 0} (f : A → HeadTree) (read : Reading A) → ((a : A) → IsPlainHead (f a)) → IfForm IsPlainHead (reading_map f read)
mapped f read holds = if-map IsPlainHead f read (if-always (λ a. IsPlainHead (f a)) read holds)

of_both : {A B : Type 0} (f : A → B → HeadTree) (r : Reading A) (s : Reading B) → ((a : A) (b : B) → IsPlainHead (f a b)) → IfForm IsPlainHead (both f r s)
of_both f r s holds = if-both (λ a. ⊤) (λ b. ⊤) IsPlainHead f r s (if-always (λ a. ⊤) r (λ a. tt)) (if-always (λ b. ⊤) s (λ b. tt)) (λ a b _ _. holds a b)

of_some : {A : Type 0} (part : Option A) (read : A → Reading HeadTree) → ((a : A) → IfForm IsPlainHead (read a)) → IfForm IsPlainHead (if_some part read)
of_some part read holds = if-some IsPlainHead part read (λ a _. holds a)

-- ---- top level

arguments_plain : (arguments : Block) → AreArguments arguments → AreNoScopes arguments
arguments_plain no_statement are = tt
arguments_plain (and_statement first rest) are = (argument_plain first are.0, arguments_plain rest are.1) where
  argument_plain : (s : StatementTree) → IsArgument s → IsNoScope s
  argument_plain s is = subst IsNoScope (sym is.4.1) tt

top_plain : (head : HeadTree) → FitsTop head → IsPlainHead head
top_plain import_line fit = tt
top_plain (symbol_line name quoted) fit = tt
top_plain program_decorator fit = tt
top_plain (program_head name arguments) fit = arguments_plain arguments fit
top_plain (statement_head s) fit = absurd fit
top_plain (reduce_head lambda from to axis identity) fit = absurd fit
top_plain (input_head connector memlet) fit = absurd fit
top_plain (output_head connector memlet) fit = absurd fit
top_plain (consume_decorator from size) fit = absurd fit
top_plain (consume_head name element worker) fit = absurd fit
top_plain (elif_head when) fit = absurd fit
top_plain else_head fit = absurd fit

-- ---- words among words

module _ (text : List ℕ) where
  taken_plain : (n : ℕ) (ts : List Piece) → ArePlain text ts → ArePlain text (take n ts)
  taken_plain zero ts all = tt
  taken_plain (suc n) [] all = tt
  taken_plain (suc n) (t ∷ ts) all = (all.0, taken_plain n ts all.1)

  next_plain : (word : List ℕ) (ts : List Piece) → ArePlain text ts → IfSome (next text word ts) (ArePlain text)
  next_plain word [] all = tt
  next_plain word (t ∷ ts) all = by_test (is_spelled text t word) where
    by_test : (test : Bool) → IfSome (if test then Some ts else None) (ArePlain text)
    by_test true = all.1
    by_test false = tt

  behind_plain : (ts : List Piece) → ArePlain text ts → IfSome (name_first text ts) (λ found. ArePlain text found.1)
  behind_plain [] all = tt
  behind_plain (t ∷ ts) all = by_test (is_name t.word) where
    by_test : (test : Bool) → IfSome {T = List ℕ × List Piece} (if test then Some (spelling text t, ts) else None) (λ found. ArePlain text found.1)
    by_test true = all.1
    by_test false = tt

  lone_plain : (ts : List Piece) → ArePlain text ts → IfSome (lone_name text ts) IsPlainName
  lone_plain [] all = tt
  lone_plain (t ∷ []) all = by_test (is_name t.word) refl where
    by_test : (test : Bool) → is_name t.word ≡ test → IfSome (if test then Some (spelling text t) else None) IsPlainName
    by_test true is = all.0 is
    by_test false is = tt
  lone_plain (t ∷ u ∷ ts) all = tt

  closed_plain : (bracket : Bracket) (ts : List Piece) → ArePlain text ts → IfSome (closed bracket ts) (λ cut. ArePlain text cut.0)
  closed_plain bracket ts all = by_place (closing_from 1 0 ts) where
    by_test : (at : ℕ) (test : Bool) → IfSome {T = List Piece × List Piece} (if test then Some (take at ts, drop (at + 1) ts) else None) (λ cut. ArePlain text cut.0)
    by_test at true = taken_plain at ts all
    by_test at false = tt

    by_place : (place : Option ℕ) → IfSome (closed_at bracket ts place) (λ cut. ArePlain text cut.0)
    by_place None = tt
    by_place (Some at) = by_test at (closes bracket (word_at ts at))

  header_plain : (cut : Option (List Piece × List Piece)) → IfSome cut (λ cut. ArePlain text cut.0) → IfSome (header text cut) (ArePlain text)
  header_plain None all = tt
  header_plain (Some cut) all = by_test (is_colon text cut.1) where
    by_test : (test : Bool) → IfSome (if test then Some cut.0 else None) (ArePlain text)
    by_test true = all
    by_test false = tt

  -- what is in the round brackets of a `def`
  abbrev in_brackets : List Piece → Option (List Piece)
  in_brackets ts = option_and_then (λ rest. header text (closed Round rest)) (next text (codes "(") ts)

  brackets_plain : (ts : List Piece) → ArePlain text ts → IfSome (in_brackets ts) (ArePlain text)
  brackets_plain ts all = by_next (next text (codes "(") ts) (next_plain (codes "(") ts all) where
    by_next : (found : Option (List Piece)) → IfSome found (ArePlain text) → IfSome (option_and_then (λ rest. header text (closed Round rest)) found) (ArePlain text)
    by_next None all = tt
    by_next (Some rest) all = header_plain (closed Round rest) (closed_plain Round rest all)

  onto_plain : (t : Piece) (ps : List (List Piece)) → ArePlain text (t ∷ []) → AllByRecursion (ArePlain text) ps → AllByRecursion (ArePlain text) (onto_first t ps)
  onto_plain t [] first all = (first, tt)
  onto_plain t (p ∷ ps) first all = ((first.0, all.0), all.1)

  parted_plain : (test : Bool) (t : Piece) (ps : List (List Piece)) → ArePlain text (t ∷ []) → AllByRecursion (ArePlain text) ps → AllByRecursion (ArePlain text) (parted test t ps)
  parted_plain true t ps first all = (tt, all)
  parted_plain false t ps first all = onto_plain t ps first all

  parts_plain : (mark : Mark) (depth : ℕ) (ts : List Piece) → ArePlain text ts → AllByRecursion (ArePlain text) (parts_from mark depth ts)
  parts_plain mark depth [] all = (tt, tt)
  parts_plain mark depth (t ∷ ts) all =
      parted_plain (is_mark_outside mark depth t.word) t (parts_from mark (depth_after t.word depth) ts) (all.0, tt) (parts_plain mark (depth_after t.word depth) ts all.1)

  -- the first of the parts
  abbrev IsPlainPart : Few → Type 0
  IsPlainPart (one_part a) = ArePlain text a
  IsPlainPart (two_parts a b) = ArePlain text a
  IsPlainPart parts = ⊤

  few_plain : (ps : List (List Piece)) → AllByRecursion (ArePlain text) ps → IsPlainPart (few ps)
  few_plain [] all = tt
  few_plain (a ∷ []) all = all.0
  few_plain (a ∷ b ∷ []) all = all.0
  few_plain (a ∷ b ∷ c ∷ []) all = tt
  few_plain (a ∷ b ∷ c ∷ d ∷ ps) all = tt

  -- ---- the `def` of a consume

  so_some : {A : Type 0} (Holds : A → Type 0) (part : Option A) (a : A) → IfSome part Holds → part ≡ Some a → Holds a
  so_some Holds part a holds is = subst (λ part. IfSome part Holds) is holds

  consume_forms : (ts : List Piece) → ArePlain text ts → IfForm IsPlainHead (consumes.consume_line text ts)
  consume_forms ts all =
      if-some IsPlainHead (name_first text ts) (λ found. if_some (in_brackets found.1) (λ inside. consumes.consume_by text found.0 (few (parts_of Comma inside))))
      (λ found first. if-some IsPlainHead (in_brackets found.1) (λ inside. consumes.consume_by text found.0 (few (parts_of Comma inside)))
      (λ inside second.
      let rest = so_some (λ found. ArePlain text found.1) (name_first text ts) found (behind_plain ts all) first in
      let within = so_some (ArePlain text) (in_brackets found.1) inside (brackets_plain found.1 rest) second in
      by_parts found.0 (few (parts_of Comma inside)) (few_plain (parts_of Comma inside) (parts_plain Comma 0 inside within)))) where
        by_parts : (name : List ℕ) (parts : Few) → IsPlainPart parts → IfForm IsPlainHead (consumes.consume_by text name parts)
        by_parts name (one_part element) plain =
            if-some IsPlainHead (lone_name text element) (λ x. consumes.consumed name x None) (λ x is. so_some IsPlainName (lone_name text element) x (lone_plain element plain) is)
        by_parts name (two_parts element worker) plain =
            if-some IsPlainHead (lone_name text element) (λ x. if_some (lone_name text worker) (λ p. consumes.consumed name x (Some p)))
            (λ x is. of_some (lone_name text worker) (λ p. consumes.consumed name x (Some p)) (λ p. so_some IsPlainName (lone_name text element) x (lone_plain element plain) is))
        by_parts name (three_parts a b c) plain = tt
        by_parts name more_parts plain = tt

  -- ---- the other lines of a body

  decorator_forms : (ts : List Piece) → IfForm IsPlainHead (consumes.decorator_line text ts)
  decorator_forms ts = of_some (option_and_then (λ rest. whole (closed Round rest)) (after text consumes.decorator_phrase ts)) _ (λ inside. by_parts (few (parts_of Comma inside))) where
    by_parts : (parts : Few) → IfForm IsPlainHead (consumes.decorator_by text parts)
    by_parts (one_part a) = tt
    by_parts (two_parts from size) = of_some (lone_name text from) _ (λ name. of_some (lone_number size) (λ n. Form (consume_decorator name n)) (λ n. tt))
    by_parts (three_parts a b c) = tt
    by_parts more_parts = tt

  loop_forms : (line : ℕ) (name : List ℕ) (parts : Few) → IfForm IsPlainHead (repetitions.loop_line text line name parts)
  loop_forms line name (one_part end) = mapped (λ e. statement_head (for_loop line name None e None no_statement)) (expression text true 63 end) (λ e. tt)
  loop_forms line name (two_parts begin end) = of_both (repetitions.looped line name None) (expression text true 64 begin) (expression text true 63 end) (λ b e. tt)
  loop_forms line name (three_parts begin end step) =
      of_some (step_of step) _ (λ n. of_both (repetitions.looped line name (Some n)) (expression text true 64 begin) (expression text true 63 end) (λ b e. tt))
  loop_forms line name more_parts = tt

  for_forms : (line : ℕ) (ts : List Piece) → IfForm IsPlainHead (repetitions.for_line text line ts)
  for_forms line ts = of_some (repetitions.names_first text ts) (λ found. repetitions.for_names text line found.0 found.1) (λ found. by_range found.0 found.1 (after text repetitions.in_range found.1)) where
    by_names : (names : List (List ℕ)) (inside : List Piece) → IfForm IsPlainHead (repetitions.loop_names text line names inside)
    by_names [] inside = tt
    by_names (name ∷ []) inside = loop_forms line name (few (parts_of Comma inside))
    by_names (name ∷ other ∷ names) inside = tt

    by_ranges : (names : List (List ℕ)) (inside : List Piece) → IfForm IsPlainHead (repetitions.map_line text line names inside)
    by_ranges names inside =
        if-true IsPlainHead (nat_eq (length names) (length (parts_of Comma inside))) (reading_map (λ ranges. statement_head (map_scope line names ranges no_statement)) (slots text false inside))
        (λ same. mapped (λ ranges. statement_head (map_scope line names ranges no_statement)) (slots text false inside) (λ ranges. tt))

    by_map : (names : List (List ℕ)) (rest : Option (List Piece)) → IfForm IsPlainHead (repetitions.map_or_none text line names rest)
    by_map names None = tt
    by_map names (Some rest) = of_some (header text (closed Square rest)) (repetitions.map_line text line names) (by_ranges names)

    by_range : (names : List (List ℕ)) (ts : List Piece) (rest : Option (List Piece)) → IfForm IsPlainHead (repetitions.loop_or_map text line names ts rest)
    by_range names ts (Some rest) = of_some (header text (closed Round rest)) (repetitions.loop_names text line names) (by_names names)
    by_range names ts None = by_map names (after text repetitions.in_map ts)

  reduce_forms : (inside : List Piece) → IfForm IsPlainHead (reductions.reduce_line text inside)
  reduce_forms inside =
      of_some (option_and_then (lambda_names text) (next text (codes "lambda") inside)) (reductions.reduce_names text)
      (λ names. of_some (at_mark Comma names.rest) _
      (λ cut. of_some (reductions.containers text cut.1) _
      (λ given. mapped (λ lambda. reduce_head lambda given.from given.to given.options.axis given.options.identity) (lambda_by text names.first names.second cut.0) (λ lambda. tt))))

  declaration_forms : (line : ℕ) (name : List ℕ) (ts : List Piece) → IfForm IsPlainHead (declarations.declaration_line text line name ts)
  declaration_forms line name ts = by_local (after text declarations.define_local ts) where
    by_parts : (parts : Few) → IfForm IsPlainHead (declarations.stream_line text line name parts)
    by_parts (one_part a) = if-true IsPlainHead (declarations.is_type text a) (declarations.streamed line name None) (λ _. tt)
    by_parts (two_parts a b) =
        if-true IsPlainHead (declarations.is_type text a) (if_some (lone_number b) (λ n. declarations.streamed line name (Some n)))
        (λ _. of_some (lone_number b) (λ n. declarations.streamed line name (Some n)) (λ n. tt))
    by_parts (three_parts a b c) = tt
    by_parts more_parts = tt

    by_stream : (rest : Option (List Piece)) → IfForm IsPlainHead (declarations.stream_or_none text line name rest)
    by_stream None = tt
    by_stream (Some rest) = of_some (whole (closed Round rest)) _ (λ inside. by_parts (few (parts_of Comma inside)))

    by_local : (rest : Option (List Piece)) → IfForm IsPlainHead (declarations.local_or_stream text line name ts rest)
    by_local (Some rest) =
        of_some (whole (closed Round rest)) (declarations.local_line text line name)
        (λ inside. of_some (bracketed Square inside) _
        (λ cut. of_some (declarations.typed text cut.1) _
        (λ rest. mapped (λ extents. statement_head (local_array line name (expressions_listed extents) 64)) (expressions text true 64 cut.0) (λ extents. tt))))
    by_local None = by_stream (after text declarations.define_stream ts)

  element_forms : (kind : BlockKind) (line : ℕ) (name : List ℕ) (inside behind : List Piece) → IfForm IsPlainHead (elements.element_line text kind line name inside behind)
  element_forms kind line name inside behind = by_colon (at_mark Colon inside) where
    by_value : (add : Bool) (levels : ℕ) (value : List Piece) → IfForm IsPlainHead (elements.assign_line text line name add levels inside value)
    by_value add levels value = of_both (elements.assigned line name add) (expressions text true 64 inside) (expression text true levels value) (λ at e. tt)

    by_sum : (value : Option (List Piece)) → IfForm IsPlainHead (elements.sum_or_none text kind line name inside value)
    by_sum None = tt
    by_sum (Some value) = by_value true (elements.levels_of_sum kind) value

    by_equals : (value : Option (List Piece)) → IfForm IsPlainHead (elements.assign_or_sum text kind line name inside behind value)
    by_equals (Some value) = by_value false 64 value
    by_equals None = by_sum (next text (codes "+=") behind)

    by_colon : (range : Option (List Piece × List Piece)) → IfForm IsPlainHead (elements.element_by text kind line name inside behind range)
    by_colon (Some range) =
        of_some (next text (codes "=") behind) (elements.copy_line text line name inside)
        (λ ts. of_some (name_first text ts) _
        (λ found. of_some (whole (bracketed Square found.1)) _
        (λ inner. of_both (elements.copied line name found.0) (slots text true inside) (slots text true inner) (λ a b. tt))))
    by_colon None = by_equals (next text (codes "=") behind)

  word_forms : (line : ℕ) (t : Piece) (ts : List Piece) → ArePlain text ts → IfForm IsPlainHead (body.word_line text line t ts)
  word_forms line t ts all =
      if-either IsPlainHead (is_spelled text t (codes "for")) (repetitions.for_line text line ts) _ (for_forms line ts)
      (if-either IsPlainHead (is_spelled text t (codes "while")) (conditions.while_line text line ts) _ (mapped _ (conditions.condition text true ts) (λ when. tt))
      (if-either IsPlainHead (is_spelled text t (codes "if")) (conditions.if_line text line ts) _ (mapped _ (conditions.condition text true ts) (λ when. tt))
      (if-either IsPlainHead (is_spelled text t (codes "elif")) (conditions.elif_line text true ts) _ (mapped _ (conditions.condition text true ts) (λ when. tt))
      (if-either IsPlainHead (is_spelled text t (codes "def")) (consumes.consume_line text ts) NoForm (consume_forms ts all) tt))))

  body_forms : (kind : BlockKind) (line : ℕ) (ts : List Piece) → ArePlain text ts → IfForm IsPlainHead (body.body_line text kind line ts)
  body_forms kind line [] all = tt
  body_forms kind line (t ∷ ts) all =
      if-either IsPlainHead (is_name t.word) (body.body_named_line text kind line t ts (t ∷ ts)) (consumes.decorator_line text (t ∷ ts)) (by_declaration (next text (codes "=") ts)) (decorator_forms (t ∷ ts)) where
        by_reduce : (rest : Option (List Piece)) → IfForm IsPlainHead (body.reduce_or_word text line (t ∷ ts) rest)
        by_reduce (Some rest) = of_some (whole (closed Round rest)) (reductions.reduce_line text) reduce_forms
        by_reduce None =
            if-either IsPlainHead (is_phrase text body.tasklet_phrase (t ∷ ts)) (Form (statement_head (tasklet line no_statement))) _ tt
            (if-either IsPlainHead (is_phrase text conditions.else_phrase (t ∷ ts)) (Form else_head) (body.first_word_line text line (t ∷ ts)) tt (word_forms line t ts all.1))

        by_call : (inside : Option (List Piece)) → IfForm IsPlainHead (body.call_or_keyword text line t (t ∷ ts) inside)
        by_call (Some inside) = mapped (λ arguments. statement_head (call line (spelling text t) arguments)) (listed (map (calls.call_argument text) (parts_of Comma inside))) (λ arguments. tt)
        by_call None = by_reduce (after text body.reduce_phrase (t ∷ ts))

        by_element : (cut : Option (List Piece × List Piece)) → IfForm IsPlainHead (body.element_or_call text kind line t ts (t ∷ ts) cut)
        by_element (Some cut) = element_forms kind line (spelling text t) cut.0 cut.1
        by_element None = by_call (whole (bracketed Round ts))

        by_declaration : (behind : Option (List Piece)) → IfForm IsPlainHead (body.declaration_or_element text kind line t ts (t ∷ ts) behind)
        by_declaration (Some behind) = declaration_forms line (spelling text t) behind
        by_declaration None = by_element (bracketed Square ts)

  -- ---- tasklets

  keyword_forms : (line : ℕ) (t : Piece) (rest ts : List Piece) → IfForm IsPlainHead (tasklets.tasklet_keyword_line text line t rest ts)
  keyword_forms line t rest ts =
      if-either IsPlainHead (is_phrase text conditions.else_phrase ts) (Form else_head) _ tt
      (if-either IsPlainHead (is_spelled text t (codes "if")) (tasklets.when_line text line rest) _ (mapped _ (conditions.condition text false rest) (λ when. tt))
      (if-either IsPlainHead (is_spelled text t (codes "elif")) (conditions.elif_line text false rest) NoForm (mapped _ (conditions.condition text false rest) (λ when. tt)) tt))

  tasklet_forms : (line : ℕ) (ts : List Piece) → IfForm IsPlainHead (tasklets.tasklet_line text line ts)
  tasklet_forms line [] = tt
  tasklet_forms line (t ∷ ts) = if-either IsPlainHead (is_name t.word) (tasklets.tasklet_named_line text line t ts (t ∷ ts)) NoForm (by_set (next text (codes "=") ts)) tt where
    by_element : (cut : Option (List Piece × List Piece)) → IfForm IsPlainHead (tasklets.element_or_keyword text line t ts (t ∷ ts) cut)
    by_element (Some cut) =
        of_some (next text (codes "=") cut.1) _ (λ value. of_both (tasklets.set_element line (spelling text t)) (expressions text false 64 cut.0) (expression text false 64 value) (λ at e. tt))
    by_element None = keyword_forms line t ts (t ∷ ts)

    by_output : (behind : Option (List Piece)) → IfForm IsPlainHead (tasklets.output_or_element text line t ts (t ∷ ts) behind)
    by_output (Some behind) = mapped (output_head (spelling text t)) (memlet text behind) (λ memlet. tt)
    by_output None = by_element (bracketed Square ts)

    by_input : (behind : Option (List Piece)) → IfForm IsPlainHead (tasklets.input_or_output text line t ts (t ∷ ts) behind)
    by_input (Some behind) = mapped (input_head (spelling text t)) (memlet text behind) (λ memlet. tt)
    by_input None = by_output (next text (codes ">>") ts)

    by_set : (behind : Option (List Piece)) → IfForm IsPlainHead (tasklets.set_or_input text line t ts (t ∷ ts) behind)
    by_set (Some behind) = mapped (λ value. statement_head (set line (spelling text t) value)) (expression text false 64 behind) (λ value. tt)
    by_set None = by_input (next text (codes "<<") ts)

  line_forms : (kind : BlockKind) (line : ℕ) (ts : List Piece) → ArePlain text ts → IfForm IsPlainHead (line_by text kind line ts)
  line_forms Top line ts all = if-tells FitsTop IsPlainHead (top.top_line text line ts) top_plain (top_forms text line ts)
  line_forms Program line ts all = body_forms Program line ts all
  line_forms Scope line ts all = body_forms Scope line ts all
  line_forms Tasklet line ts all = tasklet_forms line ts

  pub head_plain : (kind : BlockKind) (line : ℕ) (ts : List Piece) → ArePlain text ts → IfForm IsPlainHead (head_of text kind line ts)
  head_plain kind line ts all = if-either IsPlainHead (is_balanced ts) (line_by text kind line ts) NoForm (line_forms kind line ts all) tt
