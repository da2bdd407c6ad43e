-- The elements of a program that was read have plain names.
use Rattle.std.proofs.Common.{◌≡◌, ℕ, List, [], ◌∷◌, ◌++◌, map, Option, Some, None, Result, Ok, Err, refl, subst}
use Rattle.std.specs.List.{AllByRecursion}
use Rattle.std.specs.Prelude.{IfOk}
use Rattle.std.proofs.lemmas.List.Elements.{recursion_from_All}
use Rattle.sd_lex.specs.PlainTree.{ProgramTree}
use Rattle.sd_lex.specs.declared.error.LexError.{LexError}
use Rattle.sd_lex.specs.declared.token.Token.{Token}
use Rattle.sd_lex.specs.declared.token.TokenKind.{TokenKind}
use Rattle.sd_lex.specs.declared.token.TokenKind.TheVariants.{Name, Number, Text, Sign, LineEnd, Indent, Dedent}
use Rattle.sd_lex.specs.Layout.{lexed}
use Rattle.sd_lex.specs.Position.{line_count}
use Rattle.sd_lex.specs.TokenText.{AreTokensOf}
use Rattle.sd_lex.proofs.SpanLaws.{tokens_of_text}
use Rattle.sd_phrase.specs.Words.{piece_of}
use Rattle.sd_source.specs.nodes.NodeLimits.{nodes_over, node_limits}
use Rattle.sd_context.specs.declared.blocks.refusal.Refusal.{Refusal}
use Rattle.sd_source.specs.source.LinesReading.{program_of_lines}
use Rattle.sd_source.specs.source.NodeRefusal.{limited, program_so_far}
use Rattle.sd_source.specs.source.SourceReading.{reads_tokens, reads}
use Rattle.sd_line.specs.lines.TokenLines.{TokenLine, no_token, ended_by, with_token, lines_from, number_of, line_of_tokens, lines_of_tokens}
use Rattle.sd_program.specs.Every.{Everywhere}
use Rattle.sd_tie.specs.programs.Joined.{HasPlainElement}
use Rattle.sd_read.proofs.readable_lemmas.kept.Trees.{all-more}
use Rattle.sd_tie.proofs.plain_elements_lemmas.Words.{IsWritten, plain_words}
use Rattle.sd_tie.proofs.plain_elements_lemmas.Heads.{head_plain}
use Rattle.sd_tie.proofs.plain_elements_lemmas.Lines.{IsPlainLine, lines_say_plain}

-- ---- the tokens of lines are those of the text

module _ (text : List ℕ) where
  abbrev IsOfText : TokenLine → Type 0
  IsOfText line = AllByRecursion (IsWritten text) line.tokens

  lines_of_text : (line : TokenLine) (tokens : List Token) → IsOfText line → AllByRecursion (IsWritten text) tokens → AllByRecursion IsOfText (lines_from line tokens)
  lines_of_text line [] before all = tt
  lines_of_text line (token ∷ tokens) before all = by_kind token.kind (λ next held. lines_of_text next tokens held all.1) where
    by_kind : (kind : TokenKind) → ((next : TokenLine) → IsOfText next → AllByRecursion IsOfText (lines_from next tokens)) →
        AllByRecursion IsOfText (ended_by kind line ++ lines_from (with_token kind line token) tokens)
    by_kind Name rest = rest (with_token Name line token) (all-more (IsWritten text) line.tokens token before all.0)
    by_kind (Number value) rest = rest (with_token (Number value) line token) (all-more (IsWritten text) line.tokens token before all.0)
    by_kind Text rest = rest (with_token Text line token) (all-more (IsWritten text) line.tokens token before all.0)
    by_kind Sign rest = rest (with_token Sign line token) (all-more (IsWritten text) line.tokens token before all.0)
    by_kind LineEnd rest = (before, rest no_token tt)
    by_kind Indent rest = rest (with_token Indent line token) tt
    by_kind Dedent rest = rest (with_token Dedent line token) tt

  plain_lines : (lines : List TokenLine) → AllByRecursion IsOfText lines → AllByRecursion IsPlainLine (map (line_of_tokens text) lines)
  plain_lines [] all = tt
  plain_lines (line ∷ lines) all =
      (λ kind. head_plain text kind (number_of line.tokens) (map (piece_of text) line.tokens) (plain_words text line.tokens all.0), plain_lines lines all.1)

-- ---- a text

within_limits : (line : Option ℕ) (read : Result ProgramTree Refusal) → IfOk read (Everywhere HasPlainElement) → IfOk (limited line read) (Everywhere HasPlainElement)
within_limits None read plain = plain
within_limits (Some line) (Ok program) plain = tt
within_limits (Some line) (Err refusal) plain = tt

text_plain : (text : List ℕ) (found : Result (List Token) LexError) → lexed text ≡ found → IfOk (reads_tokens text found) (Everywhere HasPlainElement)
text_plain text (Err error) is = tt
text_plain text (Ok tokens) is =
    let lines = lines_of_tokens text tokens in
    let read = program_of_lines (line_count text) lines in
    let of : AreTokensOf text tokens = tokens_of_text text tokens is in
    within_limits (nodes_over node_limits (program_so_far lines read)) read
    (lines_say_plain (line_count text) lines
    (plain_lines text (lines_from no_token tokens) (lines_of_text text no_token tokens tt (recursion_from_All (IsWritten text) tokens of.texts))))

pub elements_plain : (text : List ℕ) (program : ProgramTree) → reads text ≡ Ok program → Everywhere HasPlainElement program
elements_plain text program is = subst (λ read. IfOk read (Everywhere HasPlainElement)) is (text_plain text (lexed text) refl)
