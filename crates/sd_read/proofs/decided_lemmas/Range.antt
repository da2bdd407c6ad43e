-- Which numbers an error has.
use Rattle.std.proofs.Common.{◌≡◌, ◌≤◌, ◌<◌, ℕ, ◌+◌, List, [], ◌∷◌, Bool, true, false, nat_eq, if◌then◌else◌, Ok, Err, Result, ◌⊎◌, inl, inr, refl, ap, sym, ◌∙◌, subst, arith}
use Rattle.std.proofs.lemmas.Bool.{eqb-true}
use Rattle.sd_lex.specs.declared.error.LexError.{LexError}
use Rattle.sd_lex.specs.declared.token.Token.{Token}
use Rattle.sd_lex.specs.Layout.{lexed}
use Rattle.sd_lex.specs.PlainTree.{ProgramTree}
use Rattle.sd_lex.specs.Position.{line_count}
use Rattle.sd_line.specs.line.Head.{HeadTree}
use Rattle.sd_phrase.specs.declared.reading.Reading.{Reading}
use Rattle.sd_phrase.specs.declared.reading.Reading.TheVariants.{NoForm, TooDeep, Form}
use Rattle.sd_context.specs.declared.context.awaiting.Wanted.{Wanted}
use Rattle.sd_context.specs.context.After.{context_after}
use Rattle.sd_context.specs.context.Awaiting.{comes_right, wrong_number, wanted_of}
use Rattle.sd_context.specs.context.Context.{Context, site_of}
use Rattle.sd_context.specs.declared.blocks.refusal.Refusal.{Refusal}
use Rattle.sd_context.specs.blocks.Closing.{Step}
use Rattle.sd_read.specs.decided.FirstRefused.{Decides}
use Rattle.sd_source.specs.source.LineReading.{said}
use Rattle.sd_line.specs.lines.Lines.{Line, opens_tasklet}
use Rattle.sd_source.specs.source.SourceReading.{refusal_of_text, reads_tokens, reads}
use Rattle.sd_read.specs.decided.Standing.{IsLeast, stands_against_head, stands_against_heads, continues, is_in_place, said_by, stands_in, stands_at, place_of, stands_against}
use Rattle.sd_line.specs.lines.TokenLines.{lines_of_tokens}
use Rattle.sd_read.proofs.decided_lemmas.Numbers.{never, by_or, head_range}
use Rattle.sd_read.proofs.decided_lemmas.Decided.{decided}

-- the numbers of a line
abbrev pub OfLines : ℕ → Type 0
OfLines number = (4 ≤ number) × (number ≤ 10)

heads_range : (line : ℕ) (is_tasklet : Bool) (heads : List HeadTree) (context : Context) (n : ℕ) → stands_against_heads line is_tasklet context heads n ≡ true → OfLines n
heads_range line is_tasklet [] context n is = never is
heads_range line is_tasklet (head ∷ heads) context n is =
    by_or (stands_against_head context.names (site_of context) head n) (stands_against_heads line is_tasklet (context_after context line is_tasklet head) heads n) is
    (λ one. head_range context.names (site_of context) head n one)
    (λ rest. heads_range line is_tasklet heads (context_after context line is_tasklet head) n rest)

is_four : (n : ℕ) → n ≡ 4 → OfLines n
is_four n is = subst OfLines (sym is) (grind arith, grind arith)

is_eight : (n : ℕ) → n ≡ 8 → OfLines n
is_eight n is = subst OfLines (sym is) (grind arith, grind arith)

range-if : (n : ℕ) (test a b : Bool) → (a ≡ true → OfLines n) → (b ≡ true → OfLines n) → (if test then a else b) ≡ true → OfLines n
range-if n true a b first second is = first is
range-if n false a b first second is = second is

in_range : (on : Bool) (wanted : Wanted) (line : ℕ) (rest : List Line) (context : Context) (read : Reading HeadTree) (n : ℕ) → stands_in on wanted line rest context read n ≡ true → OfLines n
in_range on wanted line rest context NoForm n is = is_four n (eqb-true n 4 is)
in_range on wanted line rest context TooDeep n is = is_eight n (eqb-true n 8 is)
in_range on wanted line rest context (Form head) n is =
    range-if n (is_in_place on wanted head) (stands_against_heads line (opens_tasklet head rest) context (said_by on head) n) (nat_eq n 4)
    (λ stands. heads_range line (opens_tasklet head rest) (said_by on head) context n stands) (λ four. is_four n (eqb-true n 4 four)) is

at_range : (on : Bool) (wanted : Wanted) (line : ℕ) (rest : List Line) (step : Step) (read : Reading HeadTree) (n : ℕ) → stands_at on wanted line rest step read n ≡ true → OfLines n
at_range on wanted line rest (Ok context) read n is = in_range on wanted line rest context read n is
at_range on wanted line rest (Err refusal) read n is = never is

wrong_range : (read : Reading HeadTree) → OfLines (wrong_number read)
wrong_range NoForm = is_four 4 refl
wrong_range TooDeep = is_eight 8 refl
wrong_range (Form head) = is_four 4 refl

against_range : (context : Context) (line : Line) (rest : List Line) (n : ℕ) → stands_against context line rest n ≡ true → OfLines n
against_range context line rest n is =
    let on = continues line.closes (said context line) context in
    let wrong = wrong_number (said context line) in
    range-if n (comes_right context.awaited line.opens line.closes) (stands_at on (wanted_of context.awaited) line.number rest (place_of context line) (said context line) n) (nat_eq n wrong)
    (λ stands. at_range on (wanted_of context.awaited) line.number rest (place_of context line) (said context line) n stands) (λ same. subst OfLines (sym (eqb-true n wrong same)) (wrong_range (said context line))) is

pub decided_range : (last : ℕ) (lines : List Line) (refusal : Refusal) → Decides last lines refusal → OfLines refusal.number
decided_range last lines refusal (inl (inl first, before)) = refused_range first.refused where
  refused_range : ((refusal.line ≡ first.line.number) × IsLeast (stands_against first.context first.line first.behind) refusal.number) ⊎ ((refusal.number ≡ 8) × (place_of first.context first.line ≡ Err refusal)) → OfLines refusal.number
  refused_range (inl least) = against_range first.context first.line first.behind refusal.number least.1.0
  refused_range (inr late) = is_eight refusal.number late.0
decided_range last lines refusal (inl (inr end, before)) = end_range end.which where
  end_range : ((refusal.number ≡ 4) × (refusal.line ≡ last + 1)) ⊎ (refusal.number ≡ 8) → OfLines refusal.number
  end_range (inl four) = is_four refusal.number four.0
  end_range (inr eight) = is_eight refusal.number eight
decided_range last lines refusal (inr nodes) = is_eight refusal.number nodes.number

-- an error of the tokens is told
pub told_first : (text : List ℕ) (error : LexError) → lexed text ≡ Err error → reads text ≡ Err (refusal_of_text error)
told_first text error is = ap (reads_tokens text) is

abbrev pub IsSame : Result ProgramTree Refusal → Refusal → Type 0
IsSame (Ok program) refusal = ⊥
IsSame (Err other) refusal = refusal ≡ other

pub same_refusal : (read : Result ProgramTree Refusal) (refusal : Refusal) → read ≡ Err refusal → IsSame read refusal
same_refusal read refusal is = subst (λ read. IsSame read refusal) (sym is) refl

low_is_not : (n : ℕ) → n < 4 → 4 ≤ n → ⊥
low_is_not n low high = grind arith

-- and a number below 4 is of one
told_only-by : (text : List ℕ) (refusal : Refusal) (reading : Result (List Token) LexError) → lexed text ≡ reading → reads text ≡ Err refusal → refusal.number < 4 →
    (error : LexError) × (lexed text ≡ Err error) × (refusal ≡ refusal_of_text error)
told_only-by text refusal (Ok tokens) is read low =
    absurd (low_is_not refusal.number low (decided_range (line_count text) (lines_of_tokens text tokens) refusal (decided text tokens refusal is read)).0)
told_only-by text refusal (Err error) is read low = (error, is, same_refusal (Err (refusal_of_text error)) refusal (sym (told_first text error is) ∙ read))

pub told_only : (text : List ℕ) (refusal : Refusal) → reads text ≡ Err refusal → refusal.number < 4 → (error : LexError) × (lexed text ≡ Err error) × (refusal ≡ refusal_of_text error)
told_only text refusal read low = told_only-by text refusal (lexed text) refl read low
