-- In a program that was read no block is empty, and the end of a loop names other variables than the loop's.
use Rattle.std.proofs.Common.{◌≡◌, ℕ, List, map, Option, Some, None, Result, Ok, Err, subst}
use Rattle.std.specs.List.{AllByRecursion}
use Rattle.sd_lex.specs.PlainTree.{ProgramTree}
use Rattle.sd_lex.specs.declared.error.LexError.{LexError}
use Rattle.sd_lex.specs.declared.token.Token.{Token}
use Rattle.sd_lex.specs.Layout.{lexed}
use Rattle.sd_lex.specs.Position.{line_count}
use Rattle.sd_phrase.specs.Words.{piece_of}
use Rattle.sd_line.specs.line.HeadReading.{head_of}
use Rattle.sd_line.specs.lines.Lines.{Line}
use Rattle.sd_line.specs.lines.TokenLines.{no_token, lines_from, number_of, begins_connector, line_of_tokens, lines_of_tokens}
use Rattle.sd_source.specs.nodes.NodeLimits.{nodes_over, node_limits}
use Rattle.sd_context.specs.declared.blocks.refusal.Refusal.{Refusal}
use Rattle.sd_source.specs.source.NodeRefusal.{first_of, node_refusal, limited, program_so_far}
use Rattle.sd_source.specs.source.SourceReading.{refusal_of_text, reads_tokens, reads}
use Rattle.sd_source.specs.source.LinesReading.{program_of_lines}
use Rattle.sd_program.specs.Every.{Everywhere}
use Rattle.sd_read.proofs.readable_lemmas.kept.AheadKept.{Connects}
use Rattle.sd_read.proofs.readable_lemmas.kept.Heads.{Fits}
use Rattle.sd_read.proofs.readable_lemmas.kept.Steps.{refused_is_none, IsLine}
use Rattle.sd_read.proofs.readable_lemmas.kept.Trees.{HoldsSoFar, lines_are_kept}
use Rattle.sd_read.proofs.readable_lemmas.lines.Connectors.{connector_forms}
use Rattle.sd_read.proofs.readable_lemmas.lines.Forms.{of_form, each-mapped}
use Rattle.sd_read.proofs.readable_lemmas.lines.LineForms.{head_forms}
use Rattle.sd_read.proofs.readable_lemmas.lines.Tasks.{Tasks}
use Rattle.sd_read.proofs.readable_lemmas.lines.TasksKept.{ends_small, tasks_are_kept}
use Rattle.sd_read.proofs.readable_lemmas.Fields.{at_the_end}
use Rattle.sd_read.specs.blocks.Blocks.{HasBlock, HasOtherEnd}
use Rattle.sd_read.proofs.blocks_lemmas.Lines.{program_filled}
use Rattle.sd_read.proofs.blocks_lemmas.Ends.{other_ends_hold}

-- the lines of a text say what they may
lines_fit : (text : List ℕ) (tokens : List Token) → AllByRecursion IsLine (lines_of_tokens text tokens)
lines_fit text tokens =
    each-mapped IsLine (line_of_tokens text) (lines_from no_token tokens)
    (λ line.
    let words = map (piece_of text) line.tokens in
    record {
      fits = λ kind head is. of_form (Fits kind) (head_of text kind (number_of line.tokens) words) head (head_forms text kind (number_of line.tokens) words) is;
      connects = λ kind head is. of_form (Connects kind (begins_connector text line.tokens)) (head_of text kind (number_of line.tokens) words) head (connector_forms text kind (number_of line.tokens) line.tokens) is;
    })

-- where a limit on nodes is passed there is no program
not_limited : (line : Option ℕ) (read : Result ProgramTree Refusal) (program : ProgramTree) → limited line read ≡ Ok program → read ≡ Ok program
not_limited None read program is = is
not_limited (Some line) (Ok found) program is = refused_is_none (node_refusal line) program is
not_limited (Some line) (Err refusal) program is = refused_is_none (first_of (node_refusal line) refusal) program is

-- a text that reads as a program has lines that do
by_lines : {P : ProgramTree → Type 0} → ((last : ℕ) (lines : List Line) (program : ProgramTree) → AllByRecursion IsLine lines → program_of_lines last lines ≡ Ok program → P program) →
    (text : List ℕ) (program : ProgramTree) → reads text ≡ Ok program → P program
by_lines {P = P} holds text program is = by_tokens (lexed text) is where
  by_tokens : (found : Result (List Token) LexError) → reads_tokens text found ≡ Ok program → P program
  by_tokens (Err error) is = refused_is_none (refusal_of_text error) program is
  by_tokens (Ok tokens) is =
      let lines = lines_of_tokens text tokens in
      let read = program_of_lines (line_count text) lines in
      holds (line_count text) lines program (lines_fit text tokens) (not_limited (nodes_over node_limits (program_so_far lines read)) read program is)

pub blocks_written : (text : List ℕ) (program : ProgramTree) → reads text ≡ Ok program → Everywhere HasBlock program
blocks_written =
    by_lines
    (λ last lines program fit is.
    let end = program_filled last lines program fit is in
    subst (Everywhere HasBlock) end.1.1 end.1.0.1.1.1.1)

pub ends_name_others : (text : List ℕ) (program : ProgramTree) → reads text ≡ Ok program → Everywhere HasOtherEnd program
ends_name_others =
    by_lines
    (λ last lines program fit is.
    let end = at_the_end (λ context. Tasks context × HoldsSoFar HasOtherEnd context) (lines_are_kept HasOtherEnd other_ends_hold Tasks tasks_are_kept ends_small) last lines program fit is in
    subst (Everywhere HasOtherEnd) end.1.1 end.1.0.1.1.1.1)
