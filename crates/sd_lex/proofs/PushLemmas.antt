-- A line, and then the rest of the text.
use Rattle.std.proofs.Common.{◌≡◌, ℕ, zero, suc, ◌+◌, ◌-◌, ◌<◌, ◌≤◌, List, [], ◌∷◌, ◌++◌, append_assoc, map, length, take, drop, Option, Some, None, IfSome, IsSome, Ok, Err, refl, ap, sym, ◌∙◌, arith, subst, Bool, true, false, if◌then◌else◌}
use Rattle.std.specs.List.{All, AllByRecursion}
use Rattle.std.proofs.lemmas.List.Elements.{All-from_recursion}
use Rattle.std.proofs.lemmas.List.{take_rest, drop_at}
use Rattle.sd_lex.specs.Reading.{Reading, after}
use Rattle.sd_lex.specs.Line.{PhysicalLine, physical_line, tokens_of_line, tokens_from, begun, blanks_of}
use Rattle.sd_lex.specs.FoundAt.{found_at}
use Rattle.sd_lex.specs.Bytes.{is_blank, is_comment}
use Rattle.sd_lex.specs.Blocks.{Blocks}
use Rattle.sd_lex.specs.Layout.{mark, brackets_after, blocks_of, line_end, layout}
use Rattle.sd_lex.specs.declared.error.LexError.{LexError}
use Rattle.sd_lex.specs.declared.error.LexError.TheVariants.{BadIndent}
use Rattle.sd_lex.specs.declared.found.Found.{Found}
use Rattle.sd_lex.specs.declared.found.Found.TheVariants.{BadByte, NumberTooWide, Token as Token_found}
use Rattle.sd_lex.specs.declared.token.Token.{Token}
use Rattle.sd_lex.proofs.LineLemmas.{after-after}

-- tokens that were read behind others: which these are
pub record IsRead (old : List Token) (reading : Reading) (new : List Token) : Type 0 where
  pub tokens : List Token
  pub is : reading ≡ Ok tokens
  pub all : new ≡ old ++ tokens

only : (new others : List Token) → (let r : Reading = Ok others in r) ≡ Ok new → new ≡ others
only new others h = cc

never : (tokens : List Token) (error : LexError) → (let r : Reading = Err error in r) ≡ Ok tokens → ⊥
never tokens error h = cc

pub read_behind : (old : List Token) (reading : Reading) (new : List Token) → after old reading ≡ Ok new → IsRead old reading new
read_behind old (Ok tokens) new h = record { tokens = tokens; is = refl; all = only new (old ++ tokens) h }
read_behind old (Err error) new h = absurd (never new error h)

-- the tokens of a line begin within it, and are no more than its bytes
pub record IsOfLine (at limit : ℕ) (tokens : List Token) : Type 0 where
  pub within : AllByRecursion (λ token. token.from < limit) tokens
  pub few : at + length tokens ≤ limit

none_of_line : (at limit : ℕ) (tokens : List Token) → at ≤ limit → tokens ≡ [] → IsOfLine at limit tokens
none_of_line at limit tokens room none =
    let empty : IsOfLine at limit [] = record { within = tt; few = omega arith } in
    subst (IsOfLine at limit) (sym none) empty

later : (at limit : ℕ) (tokens : List Token) → IsOfLine (at + 1) limit tokens → IsOfLine at limit tokens
later at limit tokens rest = record { within = rest.within; few = omega (arith, rest.few) }

line_step : (number at limit : ℕ) (bytes : List ℕ) (blank comment : Bool) (found : Found) → ((passed : ℕ) (tokens : List Token) → tokens_from number (at + 1) passed bytes ≡ Ok tokens → IsOfLine (at + 1) limit tokens) →
    (tokens : List Token) → at < limit → (if blank then tokens_from number (at + 1) 0 bytes else if comment then Ok [] else begun number at found (λ passed. tokens_from number (at + 1) passed bytes)) ≡ Ok tokens → IsOfLine at limit tokens
line_step number at limit bytes true comment found rest tokens room h = later at limit tokens (rest 0 tokens h)
line_step number at limit bytes false true found rest tokens room h = none_of_line at limit tokens (omega arith) (only tokens [] h)
line_step number at limit bytes false false BadByte rest tokens room h = absurd (never tokens _ h)
line_step number at limit bytes false false NumberTooWide rest tokens room h = absurd (never tokens _ h)
line_step number at limit bytes false false (Token_found kind length) rest tokens room h =
    let token : Token = record { kind = kind; from = at; to = at + length; line = number } in
    let read = read_behind (token ∷ []) (tokens_from number (at + 1) (length - 1) bytes) tokens h in
    let others = rest (length - 1) read.tokens read.is in
    let all : IsOfLine at limit (token ∷ read.tokens) = record { within = (room, others.within); few = omega (arith, others.few) } in
    subst (IsOfLine at limit) (sym read.all) all

pub line_tokens : (number at passed : ℕ) (bytes : List ℕ) (limit : ℕ) (tokens : List Token) → at + length bytes ≤ limit → tokens_from number at passed bytes ≡ Ok tokens → IsOfLine at limit tokens
line_tokens number at passed [] limit tokens room h = none_of_line at limit tokens (omega arith) (only tokens [] h)
line_tokens number at (suc passed) (byte ∷ bytes) limit tokens room h = later at limit tokens (line_tokens number (at + 1) passed bytes limit tokens (omega arith) h)
line_tokens number at zero (byte ∷ bytes) limit tokens room h =
    line_step number at limit bytes (is_blank byte) (is_comment byte) (found_at (byte ∷ bytes)) (λ passed others e. line_tokens number (at + 1) passed bytes limit others (omega arith) e) tokens (omega arith) h

regroup : (a b c d : List Token) → ((a ++ b) ++ c) ++ d ≡ a ++ ((b ++ c) ++ d)
regroup a b c d = simp append_assoc

-- what is chosen, where something is
pub record IsChosen (o : Option Blocks) (P : Blocks → Type 0) : Type 0 where
  pub blocks : Blocks
  pub is : o ≡ Some blocks
  pub holds : P blocks

no_value : false ≡ true → ⊥
no_value h = cc

pub chosen : (o : Option Blocks) (P : Blocks → Type 0) → IsSome o → IfSome o P → IsChosen o P
chosen None P some h = absurd (no_value some)
chosen (Some blocks) P some h = record { blocks = blocks; is = refl; holds = h }

-- the tokens behind so many are those that were read
pub slice_is : (old new all : List Token) (reading : Reading) (before : ℕ) (h : after old reading ≡ Ok new) → all ≡ new → before ≡ length old → take (length all - before) (drop before all) ≡ (read_behind old reading new h).tokens
slice_is old new all reading before h same count =
    let read = read_behind old reading new h in
    take_rest all before ∙ ap (drop before) (same ∙ read.all) ∙ drop_at old read.tokens before (sym count)

module _ (text : List ℕ) (brackets : ℕ) (widths : List ℕ) (line : PhysicalLine) where
  -- a line that cannot be laid out
  pub bad_indent : blocks_of brackets widths line ≡ None → (last : ℕ) (lines : List PhysicalLine) → layout text last brackets widths (line ∷ lines) ≡ Err (BadIndent line.number)
  bad_indent none last lines = rw none refl

  -- a line whose tokens cannot be read
  pub bad_tokens : (blocks : Blocks) → blocks_of brackets widths line ≡ Some blocks → (error : LexError) → tokens_of_line line ≡ Err error → (last : ℕ) (lines : List PhysicalLine) → layout text last brackets widths (line ∷ lines) ≡ Err error
  bad_tokens blocks some error bad last lines = rw (some, bad) refl

  -- a line that is read, and then the rest
  pub line_then_rest : (blocks : Blocks) → blocks_of brackets widths line ≡ Some blocks → (words : List Token) → tokens_of_line line ≡ Ok words →
      (old marked pushed new : List Token) → marked ≡ old ++ map (mark (line.from + blanks_of line.bytes) line.number) blocks.marks → pushed ≡ marked ++ words →
      (now : ℕ) → now ≡ brackets_after text brackets words → new ≡ pushed ++ line_end now line words → (stay : List ℕ) → stay ≡ blocks.widths →
      (last : ℕ) (lines : List PhysicalLine) → after old (layout text last brackets widths (line ∷ lines)) ≡ after new (layout text last now stay lines)
  line_then_rest blocks some words read old marked pushed new marks all now is ends stay kept last lines =
      let behind = map (mark (line.from + blanks_of line.bytes) line.number) blocks.marks in
      let end = line_end (brackets_after text brackets words) line words in
      let rest = layout text last (brackets_after text brackets words) blocks.widths lines in
      let new_is : new ≡ old ++ (behind ++ words ++ end) =
      ends ∙ ap (λ n. pushed ++ line_end n line words) is ∙ ap (λ before. before ++ end) (all ∙ ap (λ m. m ++ words) marks) ∙ regroup old behind words end in
      rw (some, read)
      (after-after old (behind ++ words ++ end) rest ∙ ap (λ tokens. after tokens rest) (sym new_is)
      ∙ ap (λ n. after new (layout text last n blocks.widths lines)) (sym is)
      ∙ ap (λ open_widths. after new (layout text last now open_widths lines)) (sym kept))

-- a line whose blocks are told and whose tokens were read behind their marks; `all` is what stands in the vector now
module _ (text bytes : List ℕ) (number from brackets : ℕ) (widths stay : List ℕ) (old marked pushed all : List Token) (before : ℕ)
    (some : IsSome (blocks_of brackets widths (physical_line number from bytes)))
    (told : IfSome (blocks_of brackets widths (physical_line number from bytes)) (λ blocks. (stay ≡ blocks.widths) × (marked ≡ old ++ map (mark (from + blanks_of bytes) number) blocks.marks)))
    (reads : after marked (tokens_from number from 0 bytes) ≡ Ok pushed) (same : all ≡ pushed) (count : before ≡ length marked) where
  words_are : take (length all - before) (drop before all) ≡ (read_behind marked (tokens_from number from 0 bytes) pushed reads).tokens
  words_are = slice_is marked pushed all (tokens_from number from 0 bytes) before reads same count

  words_of_line : (limit : ℕ) → from + length bytes ≤ limit → IsOfLine from limit (take (length all - before) (drop before all))
  words_of_line limit room =
      let read = read_behind marked (tokens_from number from 0 bytes) pushed reads in
      subst (IsOfLine from limit) (sym words_are) (line_tokens number from 0 bytes limit read.tokens room read.is)

  pub words_within : from + length bytes ≤ length text → All (λ token. token.from < length text) (take (length all - before) (drop before all))
  words_within room = All-from_recursion _ _ (words_of_line (length text) room).within

  pub words_few : from + length (take (length all - before) (drop before all)) ≤ from + length bytes
  words_few = (words_of_line (from + length bytes) (omega arith)).few

  pub rest_follows : (now : ℕ) → now ≡ brackets_after text brackets (take (length all - before) (drop before all)) →
      (new : List Token) → new ≡ pushed ++ line_end now (physical_line number from bytes) (take (length all - before) (drop before all)) →
      (last : ℕ) (lines : List PhysicalLine) → after old (layout text last brackets widths (physical_line number from bytes ∷ lines)) ≡ after new (layout text last now stay lines)
  rest_follows now is new ends last lines =
      let line = physical_line number from bytes in
      let read = read_behind marked (tokens_from number from 0 bytes) pushed reads in
      let blocks = chosen (blocks_of brackets widths line) _ some told in
      line_then_rest text brackets widths line blocks.blocks blocks.is read.tokens read.is old marked pushed new blocks.holds.1 read.all now (is ∙ ap (brackets_after text brackets) words_are)
      (ends ∙ ap (λ words. pushed ++ line_end now line words) words_are) stay blocks.holds.0 last lines
