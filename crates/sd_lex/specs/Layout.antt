-- The tokens of a text: its physical lines, joined while a bracket is open, with the marks of blocks and of the ends of logical lines.
use Rattle.std.specs.Prelude.{Ok, Err, ℕ, zero, suc, ◌+◌, ◌-◌, nat_eq, List, [], ◌∷◌, ◌++◌, length, map, replicate, slice_index, Bool, false, ◌&&◌, Option, Some, None, if◌then◌else◌}
use Rattle.std.specs.List.{fold}
use Rattle.sd_lex.specs.Sign.{opens, closes}
use Rattle.sd_lex.specs.Reading.{Reading, after, followed_by}
use Rattle.sd_lex.specs.Line.{PhysicalLine, tokens_of_line, blanks_of, spaces_of, has_content, has_tab_in_indentation}
use Rattle.sd_lex.specs.Lines.{physical_lines}
use Rattle.sd_lex.specs.Blocks.{Blocks, blocks_at}
use Rattle.sd_lex.specs.declared.error.LexError.TheVariants.{BadIndent}
use Rattle.sd_lex.specs.declared.token.Token.{Token}
use Rattle.sd_lex.specs.declared.token.TokenKind.{TokenKind}
use Rattle.sd_lex.specs.declared.token.TokenKind.TheVariants.{LineEnd, Dedent}

-- a token without bytes
abbrev pub mark : (at line : ℕ) → TokenKind → Token
mark at line kind = record { kind = kind; from = at; to = at; line = line }

-- how many brackets are open after a byte; one that closes where none is open counts nothing
abbrev pub bracketed : ℕ → ℕ → ℕ
bracketed brackets byte = if opens byte then brackets + 1 else if closes byte then brackets - 1 else brackets

-- how many brackets are open after tokens; a bracket is a token of its own, and no other token begins with its byte
abbrev pub brackets_after : (text : List ℕ) → (brackets : ℕ) → List Token → ℕ
brackets_after text brackets tokens = fold (λ now token. bracketed now (slice_index text token.from)) brackets tokens

-- the blocks of a line by its spaces; None where a tab stands in its indentation, or its width is that of no open block
abbrev pub blocks_by_indentation : (widths : List ℕ) → List ℕ → Option Blocks
blocks_by_indentation widths bytes = if has_tab_in_indentation bytes then None else blocks_at (spaces_of bytes) widths

-- the blocks of a line: they change where a logical line begins, and a line of blanks and a comment begins none
abbrev pub blocks_of : (brackets : ℕ) → (widths : List ℕ) → PhysicalLine → Option Blocks
blocks_of brackets widths line =
    if nat_eq brackets 0 && has_content line.bytes then blocks_by_indentation widths line.bytes
    else Some (record { marks = []; widths = widths })

-- a logical line ends behind a physical line that has tokens and leaves no bracket open
abbrev pub ends : (brackets : ℕ) → List Token → Bool
ends brackets [] = false
ends brackets (token ∷ tokens) = nat_eq brackets 0

abbrev pub line_end : (brackets : ℕ) → PhysicalLine → List Token → List Token
line_end brackets line tokens = if ends brackets tokens then mark (line.from + length line.bytes) line.number LineEnd ∷ [] else []

-- at the end of the text the logical line ends that a bracket still held open, and all blocks close
abbrev pub text_end : (at line : ℕ) → (brackets : ℕ) → (widths : List ℕ) → List Token
text_end at line zero widths = replicate (length widths) (mark at line Dedent)
text_end at line (suc brackets) widths = mark at line LineEnd ∷ replicate (length widths) (mark at line Dedent)

-- a line with its blocks, and then the rest, which takes how many brackets are open and the widths of the open blocks
abbrev pub laid_out : (text : List ℕ) → (brackets : ℕ) → PhysicalLine → Option Blocks → (rest : ℕ → List ℕ → Reading) → Reading
laid_out text brackets line None rest = Err (BadIndent line.number)
laid_out text brackets line (Some blocks) rest =
    followed_by (tokens_of_line line) (λ tokens.
    let marks = map (mark (line.from + blanks_of line.bytes) line.number) blocks.marks in
    let now = brackets_after text brackets tokens in
    after (marks ++ tokens ++ line_end now line tokens) (rest now blocks.widths))

-- the tokens of lines, where so many brackets and blocks of these widths are open; the last line of the text has the number `last`
abbrev pub layout : (text : List ℕ) → (last : ℕ) → (brackets : ℕ) → (widths : List ℕ) → List PhysicalLine → Reading
layout text last brackets widths [] = Ok (text_end (length text) last brackets widths)
layout text last brackets widths (line ∷ lines) = laid_out text brackets line (blocks_of brackets widths line) (λ now widths. layout text last now widths lines)

-- the tokens of a text, or the first error in it
abbrev pub lexed : List ℕ → Reading
lexed text = layout text (length (physical_lines text)) 0 [] (physical_lines text)
