-- Each error of a source has one of ten numbers, and stands on a line of its text or the one behind the last.
use Rattle.std.proofs.Common.{◌≡◌, ℕ, ◌+◌, List, min, Bool, true, false, if◌then◌else◌, Option, Some, None, Result, Ok, Err, refl, sym, ◌∙◌, subst, arith}
use Rattle.std.specs.List.{AllByRecursion}
use Rattle.sd_lex.specs.declared.error.LexError.{LexError}
use Rattle.sd_lex.specs.declared.error.LexError.TheVariants.{BadByte, BadIndent, NumberTooWide, Memory}
use Rattle.sd_lex.specs.Layout.{lexed}
use Rattle.sd_lex.specs.PlainTree.{ProgramTree}
use Rattle.sd_lex.specs.Position.{line_count}
use Rattle.sd_lex.specs.Reading.{Reading}
use Rattle.sd_source.specs.nodes.NodeLimits.{nodes_over, node_limits}
use Rattle.sd_program.specs.Every.{Everywhere}
use Rattle.sd_context.specs.declared.blocks.refusal.Refusal.{Refusal}
use Rattle.sd_line.specs.lines.Lines.{Line}
use Rattle.sd_source.specs.source.LinesReading.{program_of_lines}
use Rattle.sd_source.specs.source.NodeRefusal.{node_refusal, limited, program_so_far, within_nodes}
use Rattle.sd_source.specs.source.SourceReading.{refusal_of_text, reads_tokens, reads}
use Rattle.sd_line.specs.lines.TokenLines.{lines_of_tokens}
use Rattle.sd_read.proofs.decided_lemmas.Decided.{decided}
use Rattle.sd_read.proofs.decided_lemmas.Range.{OfLines, decided_range, told_first, same_refusal}
use Rattle.sd_read.specs.told.Told.{IsErrorNumber, IsLineOf}
use Rattle.sd_read.proofs.told_lemmas.LogicalLines.{IsLineOn, lines_told}
use Rattle.sd_read.proofs.told_lemmas.NodeLines.{IfOn, nodes_over_on}
use Rattle.sd_read.proofs.told_lemmas.PhysicalLines.{behind_last, lexed_laid}
use Rattle.sd_read.proofs.told_lemmas.ReadLines.{IsReadOn, read_on, prefix_on}
use Rattle.sd_read.proofs.told_lemmas.SaidLines.{IsOnLine}
use Rattle.sd_read.proofs.told_lemmas.TextLines.{IsOn, IsErrorOn, IsLaid}

-- ---- the number

number_of_text : (high : ℕ) (error : LexError) → IsErrorOn high error → IsErrorNumber (refusal_of_text error).number
number_of_text high (BadByte line) on = (grind arith, grind arith)
number_of_text high (BadIndent line) on = (grind arith, grind arith)
number_of_text high (NumberTooWide line) on = (grind arith, grind arith)
number_of_text high Memory on = absurd on

number_of_line : (n : ℕ) → OfLines n → IsErrorNumber n
number_of_line n range = (omega (arith, range.0), range.1)

number_by : (text : List ℕ) (refusal : Refusal) (reading : Reading) → lexed text ≡ reading → reads text ≡ Err refusal → IsErrorNumber refusal.number
number_by text refusal (Ok tokens) is read =
    number_of_line refusal.number (decided_range (line_count text) (lines_of_tokens text tokens) refusal (decided text tokens refusal is read))
number_by text refusal (Err error) is read =
    let same = same_refusal (Err (refusal_of_text error)) refusal (sym (told_first text error is) ∙ read) in
    subst (λ refusal. IsErrorNumber refusal.number) (sym same) (number_of_text (behind_last text) error (subst (IsLaid (behind_last text) false) is (lexed_laid text)))

pub number_is : (text : List ℕ) (refusal : Refusal) → reads text ≡ Err refusal → IsErrorNumber refusal.number
number_is text refusal read = number_by text refusal (lexed text) refl read

-- ---- the line

line_of_text : (high : ℕ) (error : LexError) → IsErrorOn high error → IsOn high (refusal_of_text error).line
line_of_text high (BadByte line) on = on
line_of_text high (BadIndent line) on = on
line_of_text high (NumberTooWide line) on = on
line_of_text high Memory on = absurd on

module _ (high : ℕ) where
  lesser_on : (a b : ℕ) → IsOn high a → IsOn high b → IsOn high (min a b)
  lesser_on a b first second = (grind (arith, first.0, second.0), grind (arith, first.1, second.1))

  first-if : (test : Bool) (a b : Refusal) → IsOn high a.line → IsOn high b.line → IsOn high (if test then a else b).line
  first-if true a b first second = first
  first-if false a b first second = second

  limited_on : (over : Option ℕ) (read : Result ProgramTree Refusal) → IfOn (IsOn high) lesser_on over → IsReadOn (IsOn high) read → IsReadOn (IsOn high) (limited over read)
  limited_on None read over is = is
  limited_on (Some line) (Ok program) over is = over
  limited_on (Some line) (Err refusal) over is = first-if _ (node_refusal line) refusal over is

  so_far_on : (lines : List Line) (read : Result ProgramTree Refusal) → AllByRecursion (IsLineOn (IsOn high)) lines → IsReadOn (IsOn high) read → Everywhere (IsOnLine (IsOn high)) (program_so_far lines read)
  so_far_on lines (Ok program) told is = is
  so_far_on lines (Err refusal) told is = prefix_on (IsOn high) lines told

  nodes_on : (lines : List Line) (read : Result ProgramTree Refusal) → AllByRecursion (IsLineOn (IsOn high)) lines → IsReadOn (IsOn high) read → IsReadOn (IsOn high) (within_nodes lines read)
  nodes_on lines read told is =
      limited_on (nodes_over node_limits (program_so_far lines read)) read (nodes_over_on (IsOn high) lesser_on node_limits (program_so_far lines read) (so_far_on lines read told is)) is

last_on : (text : List ℕ) → IsOn (behind_last text) (line_count text + 1)
last_on text = (omega arith, omega arith)

reading_on : (text : List ℕ) (reading : Reading) → IsLaid (behind_last text) false reading → IsReadOn (IsOn (behind_last text)) (reads_tokens text reading)
reading_on text (Ok tokens) laid =
    let lines = lines_of_tokens text tokens in
    let told = lines_told (behind_last text) text tokens laid in
    nodes_on (behind_last text) lines (program_of_lines (line_count text) lines) told (read_on (IsOn (behind_last text)) (line_count text) lines (last_on text) told)
reading_on text (Err error) laid = line_of_text (behind_last text) error laid

pub line_is : (text : List ℕ) (refusal : Refusal) → reads text ≡ Err refusal → IsLineOf text refusal.line
line_is text refusal read = subst (IsReadOn (IsOn (behind_last text))) read (reading_on text (lexed text) (lexed_laid text))
