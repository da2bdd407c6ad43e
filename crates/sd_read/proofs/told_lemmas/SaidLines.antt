-- The statements of what a line says are on its line.
use Rattle.std.proofs.Common.{◌||◌, ℕ, nat_eq, List, [], ◌∷◌, map, length, Bool, true, false, codes, Option, Some, None}
use Rattle.std.specs.Bool.{⊤}
use Rattle.std.specs.Option.{option_and_then}
use Rattle.std.specs.List.{AllByRecursion}
use Rattle.sd_lex.specs.PlainTree.{StatementTree, argument_array, local_array, map_scope, tasklet, call, for_loop, no_statement}
use Rattle.sd_lex.specs.StatementKind.{line_of}
use Rattle.sd_lex.specs.TreeFold.{block_listed, expressions_listed}
use Rattle.sd_phrase.specs.declared.word.Piece.{Piece}
use Rattle.sd_phrase.specs.declared.word.Word.{Word}
use Rattle.sd_phrase.specs.declared.word.Word.TheVariants as word
use Rattle.sd_phrase.specs.declared.word.Bracket.TheVariants.{Round, Square}
use Rattle.sd_phrase.specs.declared.word.Mark.TheVariants.{Comma, Colon}
use Rattle.sd_phrase.specs.declared.reading.Reading.{Reading}
use Rattle.sd_phrase.specs.declared.reading.Reading.TheVariants.{NoForm, Form}
use Rattle.sd_phrase.specs.Words.{is_name, is_spelled, spelling}
use Rattle.sd_phrase.specs.Parts.{is_balanced, parts_of, at_mark, closed, bracketed, whole, few, Few, one_part, two_parts, three_parts, more_parts}
use Rattle.sd_phrase.specs.Phrase.{after, header, name_first, lone_name, lone_number, step_of, next, is_phrase}
use Rattle.sd_phrase.specs.Readings.{reading_map, if_some, both, listed}
use Rattle.sd_phrase.specs.LambdaReading.{LambdaNames, lambda_names, lambda_by}
use Rattle.sd_phrase.specs.ExpressionReading.{expression, expressions}
use Rattle.sd_phrase.specs.SubsetReading.{slots}
use Rattle.sd_phrase.specs.MemletReading.{memlet}
use Rattle.sd_line.specs.declared.line.head.BlockKind.{BlockKind}
use Rattle.sd_line.specs.declared.line.head.BlockKind.TheVariants.{Top, Program, Scope, Tasklet}
use Rattle.sd_line.specs.line.Head.{HeadTree, import_line, program_decorator, program_head, statement_head, reduce_head, input_head, output_head, consume_decorator, else_head}
use Rattle.sd_line.specs.line.HeadReading.{line_by, head_of}
use Rattle.sd_line.specs.line.TopLine as top
use Rattle.sd_line.specs.line.BodyLine as body
use Rattle.sd_line.specs.line.TaskletLine as tasklets
use Rattle.sd_line.specs.line.Condition as conditions
use Rattle.sd_line.specs.line.Declaration as declarations
use Rattle.sd_line.specs.line.ElementLine as elements
use Rattle.sd_line.specs.line.CallLine as calls
use Rattle.sd_line.specs.line.Repetition as repetitions
use Rattle.sd_line.specs.line.Reduction as reductions
use Rattle.sd_line.specs.line.Consume as consumes
use Rattle.sd_program.specs.Every.{Every, EveryIn}
use Rattle.sd_read.proofs.readable_lemmas.lines.Forms.{IfForm, if-always, if-tells, if-map, if-both, if-some, if-true, if-either, if-listed, each-mapped}

-- what is in the round brackets of a `def`
abbrev in_brackets : List ℕ → List Piece → Option (List Piece)
in_brackets text ts = option_and_then (λ rest. header text (closed Round rest)) (next text (codes "(") ts)

any_both : {A B C : Type 0} (Holds : C → Type 0) (f : A → B → C) (r : Reading A) (s : Reading B) → ((a : A) (b : B) → Holds (f a b)) → IfForm Holds (both f r s)
any_both Holds f r s holds = if-both (λ a. ⊤) (λ b. ⊤) Holds f r s (if-always (λ a. ⊤) r (λ a. tt)) (if-always (λ b. ⊤) s (λ b. tt)) (λ a b _ _. holds a b)

any_map : {A B : Type 0} (Holds : B → Type 0) (f : A → B) (read : Reading A) → ((a : A) → Holds (f a)) → IfForm Holds (reading_map f read)
any_map Holds f read holds = if-map Holds f read (if-always (λ a. Holds (f a)) read holds)

module _ (On : ℕ → Type 0) where
  abbrev pub IsOnLine : StatementTree → Type 0
  IsOnLine s = On (line_of s)

  -- the statements that a line says
  abbrev pub Says : HeadTree → Type 0
  Says (program_head name arguments) = EveryIn IsOnLine arguments
  Says (statement_head s) = Every IsOnLine s
  Says head = ⊤

  all_listed : (list : List StatementTree) → AllByRecursion (Every IsOnLine) list → EveryIn IsOnLine (block_listed list)
  all_listed [] all = tt
  all_listed (first ∷ rest) all = (all.0, all_listed rest all.1)

  module _ (line : ℕ) (on : On line) where
    -- ---- top level

    argument_says : (text : List ℕ) (ts : List Piece) → IfForm (Every IsOnLine) (top.program_argument text line ts)
    argument_says text ts =
        if-some (Every IsOnLine) (name_first text ts) (λ found. if_some (after text top.type_phrase found.1) (λ rest. reading_map (λ list. argument_array line found.0 64 (expressions_listed list)) (top.extents text rest)))
        (λ found _. if-some (Every IsOnLine) (after text top.type_phrase found.1) (λ rest. reading_map (λ list. argument_array line found.0 64 (expressions_listed list)) (top.extents text rest))
        (λ rest _. any_map (Every IsOnLine) (λ list. argument_array line found.0 64 (expressions_listed list)) (top.extents text rest) (λ list. on)))

    program_says : (text : List ℕ) (name : List ℕ) (inside : List Piece) → IfForm Says (top.program_line text line name inside)
    program_says text name inside =
        if-map Says (λ list. program_head name (block_listed list)) (listed arguments)
        (if-tells (AllByRecursion (Every IsOnLine)) (λ list. EveryIn IsOnLine (block_listed list)) (listed arguments) all_listed
        (if-listed (Every IsOnLine) arguments (each-mapped (IfForm (Every IsOnLine)) (top.program_argument text line) (parts_of Comma inside) (argument_says text)))) where
          arguments : List (Reading StatementTree)
          arguments = map (top.program_argument text line) (parts_of Comma inside)

    quoted_says : (text : List ℕ) (name : List ℕ) (word' : Word) (bytes : List ℕ) (closes : Bool) → IfForm Says (top.quoted_by text name word' bytes closes)
    quoted_says text name word.Quoted bytes true = tt
    quoted_says text name word.Quoted bytes false = tt
    quoted_says text name (word.Number value) bytes closes = tt
    quoted_says text name word.Name bytes closes = tt
    quoted_says text name (word.Callee sign) bytes closes = tt
    quoted_says text name (word.Between sign) bytes closes = tt
    quoted_says text name (word.Before sign) bytes closes = tt
    quoted_says text name word.Minus bytes closes = tt
    quoted_says text name word.If bytes closes = tt
    quoted_says text name word.Else bytes closes = tt
    quoted_says text name (word.Stop mark) bytes closes = tt
    quoted_says text name (word.Open bracket) bytes closes = tt
    quoted_says text name (word.Close bracket) bytes closes = tt
    quoted_says text name word.Other bytes closes = tt

    symbol_says : (text : List ℕ) (ts : List Piece) → IfForm Says (top.symbol text ts)
    symbol_says text ts =
        if-some Says (name_first text ts) (λ found. if_some (after text top.symbol_phrase found.1) (top.quoted text found.0))
        (λ found _. if-some Says (after text top.symbol_phrase found.1) (top.quoted text found.0) (λ rest _. in_quotes found.0 rest)) where
          in_quotes : (name : List ℕ) (ts : List Piece) → IfForm Says (top.quoted text name ts)
          in_quotes name [] = tt
          in_quotes name (t ∷ ts) = quoted_says text name t.word (spelling text t) (is_phrase text (codes ")" ∷ []) ts)

    top_says : (text : List ℕ) (ts : List Piece) → IfForm Says (top.top_line text line ts)
    top_says text ts =
        if-either Says (is_phrase text top.program_phrase ts) (Form program_decorator) _ tt
        (if-either Says (is_phrase text top.import_dace ts || is_phrase text top.import_numpy ts) (Form import_line) (top.def_or_symbol text line ts (next text (codes "def") ts)) tt
        (by_def (next text (codes "def") ts))) where
          by_equals : (rest : List Piece) (behind : Option (List Piece)) → IfForm Says (top.symbol_or_def text line rest ts behind)
          by_equals rest None =
              if-some Says (name_first text rest) (λ found. if_some (in_brackets text found.1) (top.program_line text line found.0))
              (λ found _. if-some Says (in_brackets text found.1) (top.program_line text line found.0) (λ inside _. program_says text found.0 inside))
          by_equals rest (Some behind) = symbol_says text ts

          by_def : (rest : Option (List Piece)) → IfForm Says (top.def_or_symbol text line ts rest)
          by_def None = symbol_says text ts
          by_def (Some rest) = by_equals rest (next text (codes "=") rest)

    -- ---- bodies

    loop_says : (text : List ℕ) (name : List ℕ) (parts : Few) → IfForm Says (repetitions.loop_line text line name parts)
    loop_says text name (one_part end) = any_map Says (λ e. statement_head (for_loop line name None e None no_statement)) (expression text true 63 end) (λ e. (on, tt))
    loop_says text name (two_parts begin end) = any_both Says (repetitions.looped line name None) (expression text true 64 begin) (expression text true 63 end) (λ b e. (on, tt))
    loop_says text name (three_parts begin end step) =
        if-some Says (step_of step) (λ n. repetitions.loop_between text line name begin end (Some n))
        (λ n _. any_both Says (repetitions.looped line name (Some n)) (expression text true 64 begin) (expression text true 63 end) (λ b e. (on, tt)))
    loop_says text name more_parts = tt

    loop_names_says : (text : List ℕ) (names : List (List ℕ)) (inside : List Piece) → IfForm Says (repetitions.loop_names text line names inside)
    loop_names_says text [] inside = tt
    loop_names_says text (name ∷ []) inside = loop_says text name (few (parts_of Comma inside))
    loop_names_says text (name ∷ other ∷ names) inside = tt

    map_says : (text : List ℕ) (names : List (List ℕ)) (inside : List Piece) → IfForm Says (repetitions.map_line text line names inside)
    map_says text names inside =
        if-true Says (nat_eq (length names) (length (parts_of Comma inside))) (reading_map (λ ranges. statement_head (map_scope line names ranges no_statement)) (slots text false inside))
        (λ _. any_map Says (λ ranges. statement_head (map_scope line names ranges no_statement)) (slots text false inside) (λ ranges. (on, tt)))

    for_says : (text : List ℕ) (ts : List Piece) → IfForm Says (repetitions.for_line text line ts)
    for_says text ts =
        if-some Says (repetitions.names_first text ts) (λ found. repetitions.for_names text line found.0 found.1) (λ found _. by_range found.0 found.1 (after text repetitions.in_range found.1)) where
          by_map : (names : List (List ℕ)) (rest : Option (List Piece)) → IfForm Says (repetitions.map_or_none text line names rest)
          by_map names None = tt
          by_map names (Some rest) = if-some Says (header text (closed Square rest)) (repetitions.map_line text line names) (λ inside _. map_says text names inside)

          by_range : (names : List (List ℕ)) (ts : List Piece) (rest : Option (List Piece)) → IfForm Says (repetitions.loop_or_map text line names ts rest)
          by_range names ts (Some rest) = if-some Says (header text (closed Round rest)) (repetitions.loop_names text line names) (λ inside _. loop_names_says text names inside)
          by_range names ts None = by_map names (after text repetitions.in_map ts)

    consume_says : (text : List ℕ) (ts : List Piece) → IfForm Says (consumes.consume_line text ts)
    consume_says text ts =
        if-some Says (name_first text ts) (λ found. if_some (in_brackets text found.1) (λ inside. consumes.consume_by text found.0 (few (parts_of Comma inside))))
        (λ found _. if-some Says (in_brackets text found.1) (λ inside. consumes.consume_by text found.0 (few (parts_of Comma inside))) (λ inside _. by_parts found.0 (few (parts_of Comma inside)))) where
          by_parts : (name : List ℕ) (parts : Few) → IfForm Says (consumes.consume_by text name parts)
          by_parts name (one_part element) = if-some Says (lone_name text element) (λ x. consumes.consumed name x None) (λ x _. tt)
          by_parts name (two_parts element worker) =
              if-some Says (lone_name text element) (λ x. if_some (lone_name text worker) (λ p. consumes.consumed name x (Some p)))
              (λ x _. if-some Says (lone_name text worker) (λ p. consumes.consumed name x (Some p)) (λ p _. tt))
          by_parts name (three_parts a b c) = tt
          by_parts name more_parts = tt

    decorator_says : (text : List ℕ) (ts : List Piece) → IfForm Says (consumes.decorator_line text ts)
    decorator_says text ts =
        if-some Says (option_and_then (λ rest. whole (closed Round rest)) (after text consumes.decorator_phrase ts)) (λ inside. consumes.decorator_by text (few (parts_of Comma inside)))
        (λ inside _. by_parts (few (parts_of Comma inside))) where
          by_parts : (parts : Few) → IfForm Says (consumes.decorator_by text parts)
          by_parts (one_part a) = tt
          by_parts (two_parts from size) =
              if-some Says (lone_name text from) (λ name. if_some (lone_number size) (λ n. Form (consume_decorator name n)))
              (λ name _. if-some Says (lone_number size) (λ n. Form (consume_decorator name n)) (λ n _. tt))
          by_parts (three_parts a b c) = tt
          by_parts more_parts = tt

    reduce_says : (text : List ℕ) (inside : List Piece) → IfForm Says (reductions.reduce_line text inside)
    reduce_says text inside =
        if-some Says (option_and_then (lambda_names text) (next text (codes "lambda") inside)) (reductions.reduce_names text) (λ names _. by_names names) where
          by_names : (names : LambdaNames) → IfForm Says (reductions.reduce_names text names)
          by_names names =
              if-some Says (at_mark Comma names.rest) (λ cut. if_some (reductions.containers text cut.1) (λ given. reductions.reduced given.from given.to given.options (lambda_by text names.first names.second cut.0)))
              (λ cut _. if-some Says (reductions.containers text cut.1) (λ given. reductions.reduced given.from given.to given.options (lambda_by text names.first names.second cut.0))
              (λ given _. any_map Says (λ lambda. reduce_head lambda given.from given.to given.options.axis given.options.identity) (lambda_by text names.first names.second cut.0) (λ lambda. tt)))

    declaration_says : (text : List ℕ) (name : List ℕ) (ts : List Piece) → IfForm Says (declarations.declaration_line text line name ts)
    declaration_says text name ts = by_local (after text declarations.define_local ts) where
      by_parts : (parts : Few) → IfForm Says (declarations.stream_line text line name parts)
      by_parts (one_part a) = if-true Says (declarations.is_type text a) (declarations.streamed line name None) (λ _. on)
      by_parts (two_parts a size) =
          if-true Says (declarations.is_type text a) (if_some (lone_number size) (λ n. declarations.streamed line name (Some n)))
          (λ _. if-some Says (lone_number size) (λ n. declarations.streamed line name (Some n)) (λ n _. on))
      by_parts (three_parts a b c) = tt
      by_parts more_parts = tt

      by_stream : (rest : Option (List Piece)) → IfForm Says (declarations.stream_or_none text line name rest)
      by_stream None = tt
      by_stream (Some rest) = if-some Says (whole (closed Round rest)) (λ inside. declarations.stream_line text line name (few (parts_of Comma inside))) (λ inside _. by_parts (few (parts_of Comma inside)))

      by_local : (rest : Option (List Piece)) → IfForm Says (declarations.local_or_stream text line name ts rest)
      by_local (Some rest) =
          if-some Says (whole (closed Round rest)) (declarations.local_line text line name)
          (λ inside _. if-some Says (bracketed Square inside) (λ cut. if_some (declarations.typed text cut.1) (λ rest. reading_map (λ extents. statement_head (local_array line name (expressions_listed extents) 64)) (expressions text true 64 cut.0)))
          (λ cut _. if-some Says (declarations.typed text cut.1) (λ rest. reading_map (λ extents. statement_head (local_array line name (expressions_listed extents) 64)) (expressions text true 64 cut.0))
          (λ rest _. any_map Says (λ extents. statement_head (local_array line name (expressions_listed extents) 64)) (expressions text true 64 cut.0) (λ extents. on))))
      by_local None = by_stream (after text declarations.define_stream ts)

    assign_says : (text : List ℕ) (name : List ℕ) (add : Bool) (levels : ℕ) (inside value : List Piece) → IfForm Says (elements.assign_line text line name add levels inside value)
    assign_says text name add levels inside value = any_both Says (elements.assigned line name add) (expressions text true 64 inside) (expression text true levels value) (λ at e. on)

    element_says : (text : List ℕ) (kind : BlockKind) (name : List ℕ) (inside behind : List Piece) → IfForm Says (elements.element_line text kind line name inside behind)
    element_says text kind name inside behind = by_colon (at_mark Colon inside) where
      by_sum : (value : Option (List Piece)) → IfForm Says (elements.sum_or_none text kind line name inside value)
      by_sum None = tt
      by_sum (Some value) = assign_says text name true (elements.levels_of_sum kind) inside value

      by_equals : (value : Option (List Piece)) → IfForm Says (elements.assign_or_sum text kind line name inside behind value)
      by_equals (Some value) = assign_says text name false 64 inside value
      by_equals None = by_sum (next text (codes "+=") behind)

      by_colon : (range' : Option (List Piece × List Piece)) → IfForm Says (elements.element_by text kind line name inside behind range')
      by_colon (Some range') =
          if-some Says (next text (codes "=") behind) (elements.copy_line text line name inside)
          (λ ts _. if-some Says (name_first text ts) (λ found. if_some (whole (bracketed Square found.1)) (λ inner. both (elements.copied line name found.0) (slots text true inside) (slots text true inner)))
          (λ found _. if-some Says (whole (bracketed Square found.1)) (λ inner. both (elements.copied line name found.0) (slots text true inside) (slots text true inner))
          (λ inner _. any_both Says (elements.copied line name found.0) (slots text true inside) (slots text true inner) (λ a b. on))))
      by_colon None = by_equals (next text (codes "=") behind)

    call_says : (text : List ℕ) (name : List ℕ) (inside : List Piece) → IfForm Says (calls.call_line text line name inside)
    call_says text name inside = any_map Says (λ arguments. statement_head (call line name arguments)) (listed (map (calls.call_argument text) (parts_of Comma inside))) (λ arguments. on)

    word_says : (text : List ℕ) (t : Piece) (ts : List Piece) → IfForm Says (body.word_line text line t ts)
    word_says text t ts =
        if-either Says (is_spelled text t (codes "for")) (repetitions.for_line text line ts) _ (for_says text ts)
        (if-either Says (is_spelled text t (codes "while")) (conditions.while_line text line ts) _ (any_map Says _ (conditions.condition text true ts) (λ when. (on, tt)))
        (if-either Says (is_spelled text t (codes "if")) (conditions.if_line text line ts) _ (any_map Says _ (conditions.condition text true ts) (λ when. (on, (tt, tt))))
        (if-either Says (is_spelled text t (codes "elif")) (conditions.elif_line text true ts) _ (any_map Says _ (conditions.condition text true ts) (λ when. tt))
        (if-either Says (is_spelled text t (codes "def")) (consumes.consume_line text ts) NoForm (consume_says text ts) tt))))

    first_word_says : (text : List ℕ) (ts : List Piece) → IfForm Says (body.first_word_line text line ts)
    first_word_says text [] = tt
    first_word_says text (t ∷ ts) = word_says text t ts

    body_says : (text : List ℕ) (kind : BlockKind) (ts : List Piece) → IfForm Says (body.body_line text kind line ts)
    body_says text kind [] = tt
    body_says text kind (t ∷ ts) =
        if-either Says (is_name t.word) (body.body_named_line text kind line t ts (t ∷ ts)) (consumes.decorator_line text (t ∷ ts)) (by_declaration (next text (codes "=") ts)) (decorator_says text (t ∷ ts)) where
          by_reduce : (rest : Option (List Piece)) → IfForm Says (body.reduce_or_word text line (t ∷ ts) rest)
          by_reduce (Some rest) = if-some Says (whole (closed Round rest)) (reductions.reduce_line text) (λ inside _. reduce_says text inside)
          by_reduce None =
              if-either Says (is_phrase text body.tasklet_phrase (t ∷ ts)) (Form (statement_head (tasklet line no_statement))) _ (on, tt)
              (if-either Says (is_phrase text conditions.else_phrase (t ∷ ts)) (Form else_head) (body.first_word_line text line (t ∷ ts)) tt (first_word_says text (t ∷ ts)))

          by_call : (inside : Option (List Piece)) → IfForm Says (body.call_or_keyword text line t (t ∷ ts) inside)
          by_call (Some inside) = call_says text (spelling text t) inside
          by_call None = by_reduce (after text body.reduce_phrase (t ∷ ts))

          by_element : (cut : Option (List Piece × List Piece)) → IfForm Says (body.element_or_call text kind line t ts (t ∷ ts) cut)
          by_element (Some cut) = element_says text kind (spelling text t) cut.0 cut.1
          by_element None = by_call (whole (bracketed Round ts))

          by_declaration : (behind : Option (List Piece)) → IfForm Says (body.declaration_or_element text kind line t ts (t ∷ ts) behind)
          by_declaration (Some behind) = declaration_says text (spelling text t) behind
          by_declaration None = by_element (bracketed Square ts)

    -- ---- tasklets

    set_at_says : (text : List ℕ) (name : List ℕ) (inside behind : List Piece) → IfForm Says (tasklets.set_at_line text line name inside behind)
    set_at_says text name inside behind =
        if-some Says (next text (codes "=") behind) (λ value. both (tasklets.set_element line name) (expressions text false 64 inside) (expression text false 64 value))
        (λ value _. any_both Says (tasklets.set_element line name) (expressions text false 64 inside) (expression text false 64 value) (λ at e. on))

    keyword_says : (text : List ℕ) (t : Piece) (rest ts : List Piece) → IfForm Says (tasklets.tasklet_keyword_line text line t rest ts)
    keyword_says text t rest ts =
        if-either Says (is_phrase text conditions.else_phrase ts) (Form else_head) _ tt
        (if-either Says (is_spelled text t (codes "if")) (tasklets.when_line text line rest) _ (any_map Says _ (conditions.condition text false rest) (λ when. (on, (tt, tt))))
        (if-either Says (is_spelled text t (codes "elif")) (conditions.elif_line text false rest) NoForm (any_map Says _ (conditions.condition text false rest) (λ when. tt)) tt))

    tasklet_says : (text : List ℕ) (ts : List Piece) → IfForm Says (tasklets.tasklet_line text line ts)
    tasklet_says text [] = tt
    tasklet_says text (t ∷ ts) = if-either Says (is_name t.word) (tasklets.tasklet_named_line text line t ts (t ∷ ts)) NoForm (by_set (next text (codes "=") ts)) tt where
      by_element : (cut : Option (List Piece × List Piece)) → IfForm Says (tasklets.element_or_keyword text line t ts (t ∷ ts) cut)
      by_element (Some cut) = set_at_says text (spelling text t) cut.0 cut.1
      by_element None = keyword_says text t ts (t ∷ ts)

      by_output : (behind : Option (List Piece)) → IfForm Says (tasklets.output_or_element text line t ts (t ∷ ts) behind)
      by_output (Some behind) = any_map Says (output_head (spelling text t)) (memlet text behind) (λ memlet. tt)
      by_output None = by_element (bracketed Square ts)

      by_input : (behind : Option (List Piece)) → IfForm Says (tasklets.input_or_output text line t ts (t ∷ ts) behind)
      by_input (Some behind) = any_map Says (input_head (spelling text t)) (memlet text behind) (λ memlet. tt)
      by_input None = by_output (next text (codes ">>") ts)

      by_set : (behind : Option (List Piece)) → IfForm Says (tasklets.set_or_input text line t ts (t ∷ ts) behind)
      by_set (Some behind) = any_map Says _ (expression text false 64 behind) (λ value. on)
      by_set None = by_input (next text (codes "<<") ts)

    line_says : (text : List ℕ) (kind : BlockKind) (ts : List Piece) → IfForm Says (line_by text kind line ts)
    line_says text Top ts = top_says text ts
    line_says text Program ts = body_says text Program ts
    line_says text Scope ts = body_says text Scope ts
    line_says text Tasklet ts = tasklet_says text ts

    pub head_says : (text : List ℕ) (kind : BlockKind) (ts : List Piece) → IfForm Says (head_of text kind line ts)
    head_says text kind ts = if-either Says (is_balanced ts) (line_by text kind line ts) NoForm (line_says text kind ts) tt
