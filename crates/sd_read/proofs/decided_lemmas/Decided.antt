-- The first line that is refused decides.
use Rattle.std.proofs.Common.{◌≡◌, ℕ, ◌+◌, List, [], ◌∷◌, ◌++◌, length, Bool, true, false, ◌||◌, ◌&&◌, nat_eq, nat_lt, if◌then◌else◌, Option, Some, None, Result, Ok, Err, ◌⊎◌, inl, inr, refl, ap, sym, ◌∙◌, subst, ◌<◌, ltb-true, ltb-false, ◌≤◌, arith}
use Rattle.std.specs.Bool.{⊤}
use Rattle.std.proofs.lemmas.Bool.{eqb-true, eqb-false, and_parts}
use Rattle.sd_lex.specs.declared.error.LexError.{LexError}
use Rattle.sd_lex.specs.declared.token.Token.{Token}
use Rattle.sd_lex.specs.Layout.{lexed}
use Rattle.sd_lex.specs.PlainTree.{ProgramTree}
use Rattle.sd_lex.specs.Position.{line_count}
use Rattle.sd_source.specs.nodes.NodeLimits.{nodes_over, node_limits}
use Rattle.sd_context.specs.context.Context.{Awaited, nothing, block, function_def, consume_def, Context, opening}
use Rattle.sd_context.specs.declared.blocks.refusal.Refusal.{Refusal}
use Rattle.sd_context.specs.blocks.Closing.{Step, and_then, closed_times}
use Rattle.sd_read.specs.decided.FirstRefused.{Leads, IsFirstRefused, IsRefusedAtEnd, GoesBefore, GoesBeforeNodes, Decides, IsAllAccepted}
use Rattle.sd_source.specs.source.LineReading.{line_read}
use Rattle.sd_source.specs.source.LinesReading.{lines_read, at_end, program_in, program_by, program_of_lines}
use Rattle.sd_line.specs.lines.Lines.{Line}
use Rattle.sd_source.specs.source.NodeRefusal.{node_refusal, limited, program_so_far}
use Rattle.sd_source.specs.source.SourceReading.{reads_lines, reads_tokens, reads}
use Rattle.sd_read.specs.decided.Standing.{place_of, stands_against}
use Rattle.sd_line.specs.lines.TokenLines.{lines_of_tokens}
use Rattle.sd_read.proofs.decided_lemmas.Numbers.{never, by_or}
use Rattle.sd_read.proofs.decided_lemmas.Tells.{TellsOr, Eight, eight-times, tells-line}

-- lines lead on, or one is the first that is refused
abbrev Told : Context → List Line → Step → Type 0
Told from lines (Ok to) = Leads from lines [] to
Told from lines (Err refusal) = IsFirstRefused from lines refusal

and_nothing : {A : Type 0} (xs : List A) → xs ++ [] ≡ xs
and_nothing [] = refl
and_nothing (x ∷ xs) = ap (λ ys. x ∷ ys) (and_nothing xs)

-- an accepted line before those
told-more : (from next : Context) (line : Line) (rest : List Line) (step : Step) → ((n : ℕ) → stands_against from line rest n ≡ false) → line_read from line rest ≡ Ok next →
    Told next rest step → Told from (line ∷ rest) step
told-more from next line rest (Ok to) accepted is told =
    subst (λ all. ((n : ℕ) → stands_against from line all n ≡ false) × (next : Context) × (line_read from line all ≡ Ok next) × Leads next rest [] to) (sym (and_nothing rest))
    (accepted, next, is, told)
told-more from next line rest (Err refusal) accepted is told = record {
  before = line ∷ told.before;
  line = told.line;
  behind = told.behind;
  context = told.context;
  all = ap (λ lines. line ∷ lines) told.all;
  accepted =
      subst (λ all. ((n : ℕ) → stands_against from line all n ≡ false) × (next : Context) × (line_read from line all ≡ Ok next) × Leads next told.before (told.line ∷ told.behind) told.context) told.all
      (accepted, next, is, told.accepted);
  refused = told.refused;
}

told-step : (from : Context) (line : Line) (rest : List Line) (step : Step) → line_read from line rest ≡ step → TellsOr line.number (stands_against from line rest) (place_of from line) step →
    ((next : Context) → Told next rest (lines_read next rest)) → Told from (line ∷ rest) (and_then step (λ next. lines_read next rest))
told-step from line rest (Ok next) is tells go = told-more from next line rest (lines_read next rest) tells is (go next)
told-step from line rest (Err refusal) is tells go =
    record { before = []; line = line; behind = rest; context = from; all = refl; accepted = refl; refused = tells }

told-lines : (lines : List Line) (from : Context) → Told from lines (lines_read from lines)
told-lines [] from = refl
told-lines (line ∷ rest) from = told-step from line rest (line_read from line rest) refl (tells-line from line rest) (λ next. told-lines rest next)

-- behind the last line
abbrev AtEnd : {A : Type 0} → (last : ℕ) → Result A Refusal → Type 0
AtEnd last (Ok value) = ⊤
AtEnd last (Err refusal) = ((refusal.number ≡ 4) × (refusal.line ≡ last + 1)) ⊎ (refusal.number ≡ 8)

end-eight : (last : ℕ) (step : Step) → Eight step → AtEnd last step
end-eight last (Ok context) eight = tt
end-eight last (Err refusal) eight = inr eight

end-awaited : (last : ℕ) (awaited : Awaited) (context : Context) → AtEnd last (at_end last awaited context)
end-awaited last nothing context = end-eight last (closed_times (length context.outer) context) (eight-times (length context.outer) context)
end-awaited last block context = inl (refl, refl)
end-awaited last (function_def line) context = inl (refl, refl)
end-awaited last (consume_def line from size) context = inl (refl, refl)

end-if : (last : ℕ) (test : Bool) (program : ProgramTree) → AtEnd last (if test then Err (record { number = 4; line = last + 1 }) else Ok program)
end-if last true program = inl (refl, refl)
end-if last false program = tt

end-program : (last : ℕ) (step : Step) → AtEnd last step → AtEnd last (program_by last step)
end-program last (Ok context) end = end-if last (nat_eq (length context.functions) 0) (program_in context)
end-program last (Err refusal) end = end

-- of the lines of a source, the limits on nodes aside
abbrev Read : (last : ℕ) → List Line → Result ProgramTree Refusal → Type 0
Read last lines (Ok program) = (context : Context) × Leads opening lines [] context × (program_by last (at_end last context.awaited context) ≡ Ok program)
Read last lines (Err refusal) = IsFirstRefused opening lines refusal ⊎ IsRefusedAtEnd last lines refusal

read-end : (last : ℕ) (lines : List Line) (context : Context) → Leads opening lines [] context → (end : Result ProgramTree Refusal) → program_by last (at_end last context.awaited context) ≡ end →
    AtEnd last end → Read last lines end
read-end last lines context leads (Ok program) is at = (context, leads, is)
read-end last lines context leads (Err refusal) is at = inr (record { context = context; accepted = leads; refused = is; which = at })

read-step : (last : ℕ) (lines : List Line) (step : Step) → Told opening lines step → Read last lines (program_by last (and_then step (λ context. at_end last context.awaited context)))
read-step last lines (Ok context) told =
    read-end last lines context told (program_by last (at_end last context.awaited context)) refl (end-program last (at_end last context.awaited context) (end-awaited last context.awaited context))
read-step last lines (Err refusal) told = inl told

read-lines : (last : ℕ) (lines : List Line) → Read last lines (program_of_lines last lines)
read-lines last lines = read-step last lines (lines_read opening lines) (told-lines lines opening)

-- within the limits on nodes
abbrev pub Settles : (last : ℕ) → List Line → Result ProgramTree Refusal → Type 0
Settles last lines (Ok program) = IsAllAccepted last lines program
Settles last lines (Err refusal) = Decides last lines refusal

goes_before : (over line number : ℕ) → nat_lt over line || nat_eq over line && nat_lt 8 number ≡ true → (over < line) ⊎ ((over ≡ line) × (8 < number))
goes_before over line number is =
    by_or (nat_lt over line) (nat_eq over line && nat_lt 8 number) is (λ less. inl (ltb-true over line less))
    (λ both. let parts = and_parts (nat_eq over line) (nat_lt 8 number) both in inr (eqb-true over line parts.0, ltb-true 8 number parts.1))

at_or_before : (over line number : ℕ) → line ≤ over → nat_eq over line && nat_lt 8 number ≡ false → (line < over) ⊎ ((line ≡ over) × (number ≤ 8))
at_or_before over line number up none = by_both (nat_eq over line) refl none where
  unequal : nat_eq over line ≡ false → line < over
  unequal is = omega (arith, up, eqb-false over line is)

  by_both : (same : Bool) → nat_eq over line ≡ same → same && nat_lt 8 number ≡ false → (line < over) ⊎ ((line ≡ over) × (number ≤ 8))
  by_both true is none = inr (sym (eqb-true over line is), ltb-false 8 number none)
  by_both false is none = inl (unequal is)

goes_after : (over line number : ℕ) → nat_lt over line || nat_eq over line && nat_lt 8 number ≡ false → (line < over) ⊎ ((line ≡ over) × (number ≤ 8))
goes_after over line number is = by_first (nat_lt over line) refl is where
  by_first : (less : Bool) → nat_lt over line ≡ less → less || nat_eq over line && nat_lt 8 number ≡ false → (line < over) ⊎ ((line ≡ over) × (number ≤ 8))
  by_first true same is = never (sym is)
  by_first false same is = at_or_before over line number (ltb-false over line same) is

settled-first : (last : ℕ) (lines : List Line) (over : ℕ) (refusal : Refusal) (test : Bool) → nodes_over node_limits (program_so_far lines (program_of_lines last lines)) ≡ Some over →
    (test ≡ true → GoesBefore (node_refusal over) (program_of_lines last lines)) → (test ≡ false → GoesBeforeNodes refusal (Some over)) →
    IsFirstRefused opening lines refusal ⊎ IsRefusedAtEnd last lines refusal → Decides last lines (if test then node_refusal over else refusal)
settled-first last lines over refusal true is before after read = inr (record { number = refl; over = is; first = before refl })
settled-first last lines over refusal false is before after read = inl (read, subst (GoesBeforeNodes refusal) (sym is) (after refl))

settled : (last : ℕ) (lines : List Line) (over : Option ℕ) (read : Result ProgramTree Refusal) → nodes_over node_limits (program_so_far lines (program_of_lines last lines)) ≡ over →
    program_of_lines last lines ≡ read → Read last lines read → Settles last lines (limited over read)
settled last lines None (Ok program) is same told = record {
  context = told.0;
  accepted = told.1;
  ends = told.2;
  nodes = subst (λ read. nodes_over node_limits (program_so_far lines read) ≡ None) same is;
}
settled last lines None (Err refusal) is same told = inl (told, subst (GoesBeforeNodes refusal) (sym is) tt)
settled last lines (Some over) (Ok program) is same told = inr (record { number = refl; over = is; first = subst (GoesBefore (node_refusal over)) (sym same) tt })
settled last lines (Some over) (Err refusal) is same told =
    settled-first last lines over refusal (nat_lt over refusal.line || nat_eq over refusal.line && nat_lt 8 refusal.number) is
    (λ less. subst (GoesBefore (node_refusal over)) (sym same) (goes_before over refusal.line refusal.number less))
    (λ more. goes_after over refusal.line refusal.number more) told

pub lines_settle : (last : ℕ) (lines : List Line) → Settles last lines (reads_lines last lines)
lines_settle last lines =
    settled last lines (nodes_over node_limits (program_so_far lines (program_of_lines last lines))) (program_of_lines last lines) refl refl (read-lines last lines)

pub decided : (text : List ℕ) (tokens : List Token) (refusal : Refusal) → lexed text ≡ Ok tokens → reads text ≡ Err refusal →
    Decides (line_count text) (lines_of_tokens text tokens) refusal
decided text tokens refusal lexes is =
    let lines = lines_of_tokens text tokens in
    subst (Settles (line_count text) lines) (sym (ap (reads_tokens text) lexes) ∙ is) (lines_settle (line_count text) lines)

-- a text that is read has tokens, and no line of it is refused
all-accepted : (text : List ℕ) (program : ProgramTree) (step : Result (List Token) LexError) → lexed text ≡ step → reads_tokens text step ≡ Ok program →
    (tokens : List Token) × (lexed text ≡ Ok tokens) × IsAllAccepted (line_count text) (lines_of_tokens text tokens) program
all-accepted text program (Ok tokens) is read = (tokens, is, subst (Settles (line_count text) (lines_of_tokens text tokens)) read (lines_settle (line_count text) (lines_of_tokens text tokens)))
all-accepted text program (Err error) is read = absurd (subst IsErr' read tt) where
  IsErr' : Result ProgramTree Refusal → Type 0
  IsErr' (Ok program) = ⊥
  IsErr' (Err refusal) = ⊤

pub accepted : (text : List ℕ) (program : ProgramTree) → reads text ≡ Ok program →
    (tokens : List Token) × (lexed text ≡ Ok tokens) × IsAllAccepted (line_count text) (lines_of_tokens text tokens) program
accepted text program is = all-accepted text program (lexed text) refl is
