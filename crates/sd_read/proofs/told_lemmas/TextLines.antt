-- The tokens of a text stand on its lines, and so does an error of them.
use Rattle.std.proofs.Common.{◌≡◌, ◌≤◌, ℕ, zero, suc, ◌+◌, ◌-◌, ◌^◌, List, [], ◌∷◌, ◌++◌, map, replicate, length, Bool, true, false, ◌&&◌, nat_eq, nat_lt, pos, take, drop, if◌then◌else◌, Option, Some, None, Ok, Err, refl, sym, ◌∙◌, ap, subst, arith}
use Rattle.std.specs.Bool.{⊤}
use Rattle.std.specs.List.{AllByRecursion}
use Rattle.std.proofs.lemmas.Bool.{ne_eqb}
use Rattle.sd_lex.specs.declared.error.LexError.{LexError}
use Rattle.sd_lex.specs.declared.error.LexError.TheVariants.{BadByte, BadIndent, NumberTooWide, Memory}
use Rattle.sd_lex.specs.declared.token.Token.{Token}
use Rattle.sd_lex.specs.declared.token.TokenKind.{TokenKind}
use Rattle.sd_lex.specs.declared.token.TokenKind.TheVariants.{Name, Number, Text, Sign, LineEnd, Indent, Dedent}
use Rattle.sd_lex.specs.Blocks.{Blocks, innermost, outer, blocks_at}
use Rattle.sd_lex.specs.Bytes.{is_blank, is_comment, is_letter, is_digit, is_quote, is_name_byte}
use Rattle.sd_lex.specs.Digits.{decimal_value}
use Rattle.sd_lex.specs.FoundAt.{run, begins, number_found, text_found, sign_found, found_at}
use Rattle.sd_lex.specs.Layout.{mark, brackets_after, line_end, blocks_of, laid_out, layout}
use Rattle.sd_lex.specs.Line.{PhysicalLine, begun, tokens_from, tokens_of_line, blanks_of, spaces_of, has_content, has_tab_in_indentation}
use Rattle.sd_lex.specs.Reading.{Reading, after, followed_by}
use Rattle.sd_lex.specs.Sign.{is_sign_of_one, begins_with_sign_of_two}
use Rattle.sd_lex.proofs.FoundLemmas.{choose}

-- a line of a text with so many
abbrev pub IsOn : (high line : ℕ) → Type 0
IsOn high line = (1 ≤ line) × (line ≤ high)

-- a token with bytes
abbrev pub IsWord : TokenKind → Type 0
IsWord LineEnd = ⊥
IsWord Indent = ⊥
IsWord Dedent = ⊥
IsWord kind = ⊤

abbrev pub has_word : TokenKind → Bool
has_word LineEnd = false
has_word Indent = false
has_word Dedent = false
has_word kind = true

-- a line ends only behind a word
abbrev pub MayStand : TokenKind → (word : Bool) → Type 0
MayStand LineEnd word = word ≡ true
MayStand kind word = ⊤

-- a block opens or ends
abbrev IsEdge : TokenKind → Type 0
IsEdge Indent = ⊤
IsEdge Dedent = ⊤
IsEdge kind = ⊥

word_has : (kind : TokenKind) → IsWord kind → has_word kind ≡ true
word_has Name is = refl
word_has (Number value) is = refl
word_has Text is = refl
word_has Sign is = refl
word_has LineEnd is = absurd is
word_has Indent is = absurd is
word_has Dedent is = absurd is

word_stands : (kind : TokenKind) (word : Bool) → IsWord kind → MayStand kind word
word_stands Name word is = tt
word_stands (Number value) word is = tt
word_stands Text word is = tt
word_stands Sign word is = tt
word_stands LineEnd word is = absurd is
word_stands Indent word is = absurd is
word_stands Dedent word is = absurd is

edge_stands : (kind : TokenKind) (word : Bool) → IsEdge kind → MayStand kind word
edge_stands Name word is = absurd is
edge_stands (Number value) word is = absurd is
edge_stands Text word is = absurd is
edge_stands Sign word is = absurd is
edge_stands LineEnd word is = absurd is
edge_stands Indent word is = tt
edge_stands Dedent word is = tt

-- ---- a physical line

-- words of a line
abbrev AreWords : (number : ℕ) → List Token → Type 0
AreWords number tokens = AllByRecursion (λ token. (token.line ≡ number) × IsWord token.kind) tokens

abbrev IsErrorAt : (number : ℕ) → LexError → Type 0
IsErrorAt number (BadByte line) = line ≡ number
IsErrorAt number (BadIndent line) = line ≡ number
IsErrorAt number (NumberTooWide line) = line ≡ number
IsErrorAt number Memory = ⊥

abbrev ReadsWords : (number : ℕ) → Reading → Type 0
ReadsWords number (Ok tokens) = AreWords number tokens
ReadsWords number (Err error) = IsErrorAt number error

words-if : (number : ℕ) (test : Bool) (a b : Reading) → ReadsWords number a → ReadsWords number b → ReadsWords number (if test then a else b)
words-if number true a b first second = first
words-if number false a b first second = second

words-after : (number : ℕ) (token : Token) (read : Reading) → (token.line ≡ number) × IsWord token.kind → ReadsWords number read → ReadsWords number (after (token ∷ []) read)
words-after number token (Ok others) first rest = (first, rest)
words-after number token (Err error) first rest = rest

words-token : (number at : ℕ) (kind : TokenKind) (bytes : ℕ) (rest : ℕ → Reading) → IsWord kind → ((passed : ℕ) → ReadsWords number (rest passed)) →
    ReadsWords number (after (record { kind = kind; from = at; to = at + bytes; line = number } ∷ []) (rest (bytes - 1)))
words-token number at kind bytes rest is all = words-after number (record { kind = kind; from = at; to = at + bytes; line = number }) (rest (bytes - 1)) (refl, is) (all (bytes - 1))

-- whatever begins at a place
module _ (number at : ℕ) (rest : ℕ → Reading) (all : (passed : ℕ) → ReadsWords number (rest passed)) where
  words-number : (digits : ℕ) (bytes : List ℕ) → ReadsWords number (begun number at (number_found digits bytes) rest)
  words-number digits bytes =
      choose (λ found. ReadsWords number (begun number at found rest)) (begins is_name_byte (drop digits bytes)) _ _ (λ _. refl)
      (λ _. choose (λ found. ReadsWords number (begun number at found rest)) (nat_lt (decimal_value (take digits bytes)) (2 ^ 63)) _ _
      (λ _. words-token number at (Number (pos (decimal_value (take digits bytes)))) digits rest tt all) (λ _. refl))

  words-text : (quote : ℕ) (name : List ℕ) → ReadsWords number (begun number at (text_found quote name) rest)
  words-text quote name =
      choose (λ found. ReadsWords number (begun number at found rest)) (begins is_letter name && begins (nat_eq quote) (drop (run is_name_byte name) name)) _ _
      (λ _. words-token number at Text (run is_name_byte name + 2) rest tt all) (λ _. refl)

  words-sign : (bytes : List ℕ) → ReadsWords number (begun number at (sign_found bytes) rest)
  words-sign bytes =
      choose (λ found. ReadsWords number (begun number at found rest)) (begins_with_sign_of_two bytes) _ _ (λ _. words-token number at Sign 2 rest tt all)
      (λ _. choose (λ found. ReadsWords number (begun number at found rest)) (begins is_sign_of_one bytes) _ _ (λ _. words-token number at Sign 1 rest tt all) (λ _. refl))

  words-begun : (bytes : List ℕ) → ReadsWords number (begun number at (found_at bytes) rest)
  words-begun [] = refl
  words-begun (byte ∷ bytes) =
      choose (λ found. ReadsWords number (begun number at found rest)) (is_letter byte) _ _ (λ _. words-token number at Name (run is_name_byte (byte ∷ bytes)) rest tt all)
      (λ _. choose (λ found. ReadsWords number (begun number at found rest)) (nat_eq byte 48) _ _ (λ _. words-number 1 (byte ∷ bytes))
      (λ _. choose (λ found. ReadsWords number (begun number at found rest)) (is_digit byte) _ _ (λ _. words-number (run is_digit (byte ∷ bytes)) (byte ∷ bytes))
      (λ _. choose (λ found. ReadsWords number (begun number at found rest)) (is_quote byte) _ _ (λ _. words-text byte bytes) (λ _. words-sign (byte ∷ bytes)))))

words-from : (number at passed : ℕ) (bytes : List ℕ) → ReadsWords number (tokens_from number at passed bytes)
words-from number at zero [] = tt
words-from number at (suc passed) [] = tt
words-from number at (suc passed) (byte ∷ bytes) = words-from number (at + 1) passed bytes
words-from number at zero (byte ∷ bytes) =
    words-if number (is_blank byte) _ _ (words-from number (at + 1) 0 bytes)
    (words-if number (is_comment byte) _ _ tt
    (words-begun number at (λ passed. tokens_from number (at + 1) passed bytes) (λ passed. words-from number (at + 1) passed bytes) (byte ∷ bytes)))

-- ---- the blocks of a line

-- where a bracket is open no block opens or ends
abbrev AreEdges : (brackets : ℕ) → List TokenKind → Type 0
AreEdges zero marks = AllByRecursion IsEdge marks
AreEdges (suc brackets) marks = marks ≡ []

abbrev HasEdges : (brackets : ℕ) → Option Blocks → Type 0
HasEdges brackets None = ⊤
HasEdges brackets (Some blocks) = AreEdges brackets blocks.marks

edges-if : (brackets : ℕ) (test : Bool) (a b : Option Blocks) → HasEdges brackets a → HasEdges brackets b → HasEdges brackets (if test then a else b)
edges-if brackets true a b first second = first
edges-if brackets false a b first second = second

edges-more : (n : ℕ) → AllByRecursion IsEdge (replicate n Dedent)
edges-more zero = tt
edges-more (suc n) = (tt, edges-more n)

edges-at : (width : ℕ) (widths : List ℕ) → HasEdges 0 (blocks_at width widths)
edges-at width widths =
    edges-if 0 (nat_eq (innermost (outer width widths)) width) _ _ (edges-more (length widths - length (outer width widths)))
    (edges-if 0 (nat_eq (length (outer width widths)) (length widths)) _ _ (tt, tt) tt)

edges-of : (brackets : ℕ) (widths : List ℕ) (line : PhysicalLine) → HasEdges brackets (blocks_of brackets widths line)
edges-of zero widths line =
    edges-if 0 (nat_eq 0 0 && has_content line.bytes) _ _
    (edges-if 0 (has_tab_in_indentation line.bytes) _ _ tt (edges-at (spaces_of line.bytes) widths)) tt
edges-of (suc brackets) widths line = rw (ne_eqb (suc brackets) 0 (λ is. omega arith)) refl

-- ---- the lines of a text

in_order : (xs ys zs : List Token) → xs ++ (ys ++ zs) ≡ (xs ++ ys) ++ zs
in_order [] ys zs = refl
in_order (x ∷ xs) ys zs = ap (λ rest. x ∷ rest) (in_order xs ys zs)

module _ (high : ℕ) where
  -- tokens on lines of the text, each end of a line behind a word; a word may stand before them
  abbrev pub AreLaid : (word : Bool) → List Token → Type 0
  AreLaid word [] = ⊤
  AreLaid word (token ∷ tokens) = IsOn high token.line × (MayStand token.kind word × AreLaid (has_word token.kind) tokens)

  abbrev pub IsErrorOn : LexError → Type 0
  IsErrorOn (BadByte line) = IsOn high line
  IsErrorOn (BadIndent line) = IsOn high line
  IsErrorOn (NumberTooWide line) = IsOn high line
  IsErrorOn Memory = ⊥

  abbrev pub IsLaid : (word : Bool) → Reading → Type 0
  IsLaid word (Ok tokens) = AreLaid word tokens
  IsLaid word (Err error) = IsErrorOn error

  -- whether a word stands behind the last mark
  abbrev behind : (word : Bool) → List Token → Bool
  behind word [] = word
  behind word (token ∷ tokens) = behind (has_word token.kind) tokens

  -- where a bracket is open, it is a word
  abbrev IsOpen : (brackets : ℕ) → (word : Bool) → Type 0
  IsOpen zero word = ⊤
  IsOpen (suc brackets) word = word ≡ true

  abbrev IfNone : List Token → Type 0 → Type 0
  IfNone [] fact = fact
  IfNone (token ∷ tokens) fact = ⊤

  joined : (word : Bool) (xs ys : List Token) → AreLaid word xs → AreLaid (behind word xs) ys → AreLaid word (xs ++ ys)
  joined word [] ys first second = second
  joined word (x ∷ xs) ys first second = (first.0, (first.1.0, joined (has_word x.kind) xs ys first.1.1 second))

  joined-twice : (word : Bool) (xs ys zs : List Token) → AreLaid word xs → AreLaid (behind word xs) (ys ++ zs) → AreLaid word ((xs ++ ys) ++ zs)
  joined-twice word [] ys zs first second = second
  joined-twice word (x ∷ xs) ys zs first second = (first.0, (first.1.0, joined-twice (has_word x.kind) xs ys zs first.1.1 second))

  after_laid : (word : Bool) (tokens : List Token) (read : Reading) → AreLaid word tokens → IsLaid (behind word tokens) read → IsLaid word (after tokens read)
  after_laid word tokens (Ok others) first second = joined word tokens others first second
  after_laid word tokens (Err error) first second = second

  after_both : (word : Bool) (xs ys : List Token) (read : Reading) → AreLaid word xs → IsLaid (behind word xs) (after ys read) → IsLaid word (after (xs ++ ys) read)
  after_both word xs ys (Ok others) first second = joined-twice word xs ys others first second
  after_both word xs ys (Err error) first second = second

  behind-joined : (word : Bool) (xs ys : List Token) → behind word (xs ++ ys) ≡ behind (behind word xs) ys
  behind-joined word [] ys = refl
  behind-joined word (x ∷ xs) ys = behind-joined (has_word x.kind) xs ys

  words_laid : (word : Bool) (number : ℕ) (tokens : List Token) → IsOn high number → AreWords number tokens → AreLaid word tokens
  words_laid word number [] on words = tt
  words_laid word number (token ∷ tokens) on words =
      (subst (IsOn high) (sym words.0.0) on, (word_stands token.kind word words.0.1, words_laid (has_word token.kind) number tokens on words.1))

  words_behind : (word : Bool) (number : ℕ) (token : Token) (tokens : List Token) → AreWords number (token ∷ tokens) → behind word (token ∷ tokens) ≡ true
  words_behind word number token [] words = word_has token.kind words.0.1
  words_behind word number token (next ∷ tokens) words = words_behind (has_word token.kind) number next tokens words.1

  marks_laid : (word : Bool) (at line : ℕ) (kinds : List TokenKind) → IsOn high line → AllByRecursion IsEdge kinds → AreLaid word (map (mark at line) kinds)
  marks_laid word at line [] on edges = tt
  marks_laid word at line (kind ∷ kinds) on edges = (on, (edge_stands kind word edges.0, marks_laid (has_word kind) at line kinds on edges.1))

  ends_laid : (word : Bool) (at line n : ℕ) → IsOn high line → AreLaid word (replicate n (mark at line Dedent))
  ends_laid word at line zero on = tt
  ends_laid word at line (suc n) on = (on, (tt, ends_laid false at line n on))

  -- the words of a line and its end
  line_laid : (now : ℕ) (line : PhysicalLine) (tokens : List Token) (word : Bool) (read : Reading) → IsOn high line.number → AreWords line.number tokens → IfNone tokens (IsOpen now word) →
      ((word : Bool) → IsOpen now word → IsLaid word read) → IsLaid word (after (tokens ++ line_end now line tokens) read)
  line_laid now line [] word read on words open' all = after_laid word [] read tt (all word open')
  line_laid zero line (token ∷ tokens) word read on words open' all =
      let end = mark (line.from + length line.bytes) line.number LineEnd ∷ [] in
      after_laid word ((token ∷ tokens) ++ end) read
      (joined word (token ∷ tokens) end (words_laid word line.number (token ∷ tokens) on words) (on, (words_behind word line.number token tokens words, tt)))
      (all (behind word ((token ∷ tokens) ++ end)) tt)
  line_laid (suc now) line (token ∷ tokens) word read on words open' all =
      let none : line_end (suc now) line (token ∷ tokens) ≡ [] = rw (ne_eqb (suc now) 0 (λ is. omega arith)) refl in
      subst (λ end. IsLaid word (after ((token ∷ tokens) ++ end) read)) (sym none)
      (after_laid word ((token ∷ tokens) ++ []) read
      (joined word (token ∷ tokens) [] (words_laid word line.number (token ∷ tokens) on words) tt)
      (all (behind word ((token ∷ tokens) ++ [])) (behind-joined word (token ∷ tokens) [] ∙ words_behind word line.number token tokens words)))

  none_open : (text : List ℕ) (brackets : ℕ) (word : Bool) (tokens : List Token) → IsOpen brackets word → IfNone tokens (IsOpen (brackets_after text brackets tokens) word)
  none_open text brackets word [] open' = open'
  none_open text brackets word (token ∷ tokens) open' = tt

  edges_laid : (word : Bool) (brackets at line : ℕ) (kinds : List TokenKind) → IsOn high line → AreEdges brackets kinds → AreLaid word (map (mark at line) kinds)
  edges_laid word zero at line kinds on edges = marks_laid word at line kinds on edges
  edges_laid word (suc brackets) at line kinds on none = subst (λ kinds. AreLaid word (map (mark at line) kinds)) (sym none) tt

  edges_open : (word : Bool) (brackets at line : ℕ) (kinds : List TokenKind) → AreEdges brackets kinds → IsOpen brackets word → IsOpen brackets (behind word (map (mark at line) kinds))
  edges_open word zero at line kinds edges open' = tt
  edges_open word (suc brackets) at line kinds none open' = subst (λ kinds. behind word (map (mark at line) kinds) ≡ true) (sym none) open'

  error_on : (number : ℕ) (error : LexError) → IsOn high number → IsErrorAt number error → IsErrorOn error
  error_on number (BadByte line) on at = subst (IsOn high) (sym at) on
  error_on number (BadIndent line) on at = subst (IsOn high) (sym at) on
  error_on number (NumberTooWide line) on at = subst (IsOn high) (sym at) on
  error_on number Memory on at = absurd at

  out_laid : (text : List ℕ) (brackets : ℕ) (word : Bool) (line : PhysicalLine) (blocks : Option Blocks) (rest : ℕ → List ℕ → Reading) → IsOn high line.number → HasEdges brackets blocks → IsOpen brackets word →
      ((now : ℕ) (widths : List ℕ) (word : Bool) → IsOpen now word → IsLaid word (rest now widths)) → IsLaid word (laid_out text brackets line blocks rest)
  out_laid text brackets word line None rest on edges open' all = on
  out_laid text brackets word line (Some blocks) rest on edges open' all = by_words (tokens_of_line line) (words-from line.number line.from 0 line.bytes) where
    marks : List Token
    marks = map (mark (line.from + blanks_of line.bytes) line.number) blocks.marks

    by_words : (read : Reading) → ReadsWords line.number read → IsLaid word (followed_by read (λ tokens. after (marks ++ tokens ++ line_end (brackets_after text brackets tokens) line tokens) (rest (brackets_after text brackets tokens) blocks.widths)))
    by_words (Ok tokens) words =
        let now = brackets_after text brackets tokens in
        subst (λ all. IsLaid word (after all (rest now blocks.widths))) (in_order marks tokens (line_end now line tokens))
        (after_both word marks (tokens ++ line_end now line tokens) (rest now blocks.widths) (edges_laid word brackets (line.from + blanks_of line.bytes) line.number blocks.marks on edges)
        (line_laid now line tokens (behind word marks) (rest now blocks.widths) on words
        (none_open text brackets (behind word marks) tokens (edges_open word brackets (line.from + blanks_of line.bytes) line.number blocks.marks edges open')) (λ word is. all now blocks.widths word is)))
    by_words (Err error) at = error_on line.number error on at

  pub layout_laid : (text : List ℕ) (last brackets : ℕ) (widths : List ℕ) (word : Bool) (lines : List PhysicalLine) → IsOn high last → AllByRecursion (λ line. IsOn high line.number) lines → IsOpen brackets word →
      IsLaid word (layout text last brackets widths lines)
  layout_laid text last zero widths word [] on lines open' = ends_laid word (length text) last (length widths) on
  layout_laid text last (suc brackets) widths word [] on lines open' = (on, (open', ends_laid false (length text) last (length widths) on))
  layout_laid text last brackets widths word (line ∷ lines) on all open' =
      out_laid text brackets word line (blocks_of brackets widths line) (λ now widths. layout text last now widths lines) all.0 (edges-of brackets widths line) open'
      (λ now widths word is. layout_laid text last now widths word lines on all.1 is)
