-- A program that was read is joined.
use Rattle.std.proofs.Common.{◌≡◌, ℕ, List, map, Option, Some, None, Result, Ok, Err, subst}
use Rattle.std.specs.List.{AllByRecursion}
use Rattle.sd_lex.specs.PlainTree.{ProgramTree}
use Rattle.sd_lex.specs.declared.error.LexError.{LexError}
use Rattle.sd_lex.specs.declared.token.Token.{Token}
use Rattle.sd_lex.specs.Layout.{lexed}
use Rattle.sd_lex.specs.Position.{line_count}
use Rattle.sd_phrase.specs.Words.{piece_of}
use Rattle.sd_line.specs.line.HeadReading.{head_of}
use Rattle.sd_source.specs.nodes.NodeLimits.{nodes_over, node_limits}
use Rattle.sd_context.specs.declared.blocks.refusal.Refusal.{Refusal}
use Rattle.sd_source.specs.source.NodeRefusal.{first_of, node_refusal, limited, program_so_far}
use Rattle.sd_source.specs.source.SourceReading.{refusal_of_text, reads_tokens, reads}
use Rattle.sd_line.specs.lines.TokenLines.{no_token, lines_from, number_of, begins_connector, line_of_tokens, lines_of_tokens}
use Rattle.sd_source.specs.source.LinesReading.{program_of_lines}
use Rattle.sd_program.specs.Every.{Everywhere}
use Rattle.sd_tie.specs.items.Standing.{IsJoined}
use Rattle.sd_read.proofs.readable_lemmas.Fields.{at_the_end}
use Rattle.sd_read.proofs.readable_lemmas.kept.AheadKept.{Connects}
use Rattle.sd_read.proofs.readable_lemmas.kept.Heads.{Fits}
use Rattle.sd_read.proofs.readable_lemmas.kept.Steps.{refused_is_none, IsLine}
use Rattle.sd_read.proofs.readable_lemmas.lines.Connectors.{connector_forms}
use Rattle.sd_read.proofs.readable_lemmas.lines.Forms.{of_form, each-mapped}
use Rattle.sd_read.proofs.readable_lemmas.lines.LineForms.{head_forms}
use Rattle.sd_tie.proofs.joined_lemmas.Ends.{good_is_kept}
use Rattle.sd_tie.proofs.joined_lemmas.Stack.{IsGood}

lines_fit : (text : List ℕ) (tokens : List Token) → AllByRecursion IsLine (lines_of_tokens text tokens)
lines_fit text tokens =
    each-mapped IsLine (line_of_tokens text) (lines_from no_token tokens)
    (λ line.
    let words = map (piece_of text) line.tokens in
    record {
      fits = λ kind head is. of_form (Fits kind) (head_of text kind (number_of line.tokens) words) head (head_forms text kind (number_of line.tokens) words) is;
      connects = λ kind head is. of_form (Connects kind (begins_connector text line.tokens)) (head_of text kind (number_of line.tokens) words) head (connector_forms text kind (number_of line.tokens) line.tokens) is;
    })

not_limited : (line : Option ℕ) (read : Result ProgramTree Refusal) (program : ProgramTree) → limited line read ≡ Ok program → read ≡ Ok program
not_limited None read program is = is
not_limited (Some line) (Ok found) program is = refused_is_none (node_refusal line) program is
not_limited (Some line) (Err refusal) program is = refused_is_none (first_of (node_refusal line) refusal) program is

pub tasklets_joined : (text : List ℕ) (program : ProgramTree) → reads text ≡ Ok program → Everywhere IsJoined program
tasklets_joined text program is = by_tokens (lexed text) is where
  by_tokens : (found : Result (List Token) LexError) → reads_tokens text found ≡ Ok program → Everywhere IsJoined program
  by_tokens (Err error) is = refused_is_none (refusal_of_text error) program is
  by_tokens (Ok tokens) is =
      let lines = lines_of_tokens text tokens in
      let read = program_of_lines (line_count text) lines in
      let end = at_the_end IsGood good_is_kept (line_count text) lines program (lines_fit text tokens) (not_limited (nodes_over node_limits (program_so_far lines read)) read program is) in
      subst (Everywhere IsJoined) end.1.1 end.1.0.functions
