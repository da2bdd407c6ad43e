-- What each step of the reading keeps holds of a program that was read.
use Rattle.std.proofs.Common.{◌≡◌, ℕ, List, map, true, Option, Some, None, Result, Ok, Err}
use Rattle.std.specs.List.{AllByRecursion}
use Rattle.sd_lex.specs.PlainTree.{ProgramTree}
use Rattle.sd_lex.specs.declared.error.LexError.{LexError}
use Rattle.sd_lex.specs.declared.token.Token.{Token}
use Rattle.sd_lex.specs.Layout.{lexed}
use Rattle.sd_lex.specs.Position.{line_count}
use Rattle.sd_phrase.specs.Words.{piece_of}
use Rattle.sd_phrase.specs.declared.reading.Reading.TheVariants.{Form}
use Rattle.sd_line.specs.line.Head.{HeadTree}
use Rattle.sd_line.specs.line.HeadReading.{head_of}
use Rattle.sd_line.specs.lines.TokenLines.{no_token, lines_from, number_of, begins_connector, line_of_tokens, lines_of_tokens}
use Rattle.sd_source.specs.nodes.NodeLimits.{nodes_over, node_limits}
use Rattle.sd_context.specs.context.Context.{Opener, if_block, Context}
use Rattle.sd_context.specs.blocks.Continuing.{is_elif_or_else, goes_on}
use Rattle.sd_context.specs.declared.blocks.refusal.Refusal.{Refusal}
use Rattle.sd_source.specs.source.NodeRefusal.{first_of, node_refusal, limited, program_so_far}
use Rattle.sd_source.specs.source.SourceReading.{refusal_of_text, reads_tokens, reads}
use Rattle.sd_source.specs.source.LinesReading.{program_in, program_of_lines}
use Rattle.sd_read.proofs.readable_lemmas.kept.AheadKept.{Connects}
use Rattle.sd_read.proofs.readable_lemmas.kept.Heads.{Fits}
use Rattle.sd_read.proofs.readable_lemmas.kept.Passing.{false_is_not_true}
use Rattle.sd_read.proofs.readable_lemmas.kept.Steps.{refused_is_none, Keeps, IsLine}
use Rattle.sd_read.proofs.readable_lemmas.lines.Connectors.{connector_forms}
use Rattle.sd_read.proofs.readable_lemmas.lines.Forms.{of_form, each-mapped}
use Rattle.sd_read.proofs.readable_lemmas.lines.LineForms.{head_forms}
use Rattle.sd_read.proofs.readable_lemmas.Fields.{at_the_end}

-- only `elif` and `else` go on with an `if`
pub goes_on_is : (head : HeadTree) (opener : Opener) → goes_on (Form head) opener ≡ true → is_elif_or_else head ≡ true
goes_on_is head (if_block earlier when) on = on
goes_on_is head opener on = false_is_not_true on

-- the lines of a text say what they may
lines_fit : (text : List ℕ) (tokens : List Token) → AllByRecursion IsLine (lines_of_tokens text tokens)
lines_fit text tokens =
    each-mapped IsLine (line_of_tokens text) (lines_from no_token tokens)
    (λ line.
    let words = map (piece_of text) line.tokens in
    record {
      fits = λ kind head is. of_form (Fits kind) (head_of text kind (number_of line.tokens) words) head (head_forms text kind (number_of line.tokens) words) is;
      connects = λ kind head is. of_form (Connects kind (begins_connector text line.tokens)) (head_of text kind (number_of line.tokens) words) head (connector_forms text kind (number_of line.tokens) line.tokens) is;
    })

-- where a limit on nodes is passed there is no program
not_limited : (line : Option ℕ) (read : Result ProgramTree Refusal) (program : ProgramTree) → limited line read ≡ Ok program → read ≡ Ok program
not_limited None read program is = is
not_limited (Some line) (Ok found) program is = refused_is_none (node_refusal line) program is
not_limited (Some line) (Err refusal) program is = refused_is_none (first_of (node_refusal line) refusal) program is

-- what each step of the reading keeps holds where the last line was read
pub read_so : (Good : Context → Type 0) → Keeps Good → (text : List ℕ) (program : ProgramTree) → reads text ≡ Ok program → (context : Context) × (Good context × (program_in context ≡ program))
read_so Good keeps text program is = by_tokens (lexed text) is where
  by_tokens : (found : Result (List Token) LexError) → reads_tokens text found ≡ Ok program → (context : Context) × (Good context × (program_in context ≡ program))
  by_tokens (Err error) is = refused_is_none (refusal_of_text error) program is
  by_tokens (Ok tokens) is =
      let lines = lines_of_tokens text tokens in
      let read = program_of_lines (line_count text) lines in
      at_the_end Good keeps (line_count text) lines program (lines_fit text tokens) (not_limited (nodes_over node_limits (program_so_far lines read)) read program is)
