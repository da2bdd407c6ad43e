-- Logical lines by the places of their tokens.
use Rattle.std.proofs.Common.{◌≡◌, refl, ap, sym, ◌∙◌, ℕ, zero, suc, ◌+◌, ◌-◌, ◌<◌, ◌≤◌, Bool, true, false, List, [], ◌∷◌, ◌++◌, map, take, drop, length, get_or, arith}
use Rattle.std.specs.Prelude.{slice_range}
use Rattle.std.proofs.Math.Seq.{take-add}
use Rattle.std.proofs.lemmas.Bool.{true≢false, false≢true}
use Rattle.std.proofs.lemmas.List.{drop-drop, take_rest}
use Rattle.sd_lex.specs.declared.token.Token.{Token}
use Rattle.sd_lex.specs.declared.token.TokenKind.{TokenKind}
use Rattle.sd_lex.specs.declared.token.TokenKind.TheVariants.{Name, Number, Text, Sign, LineEnd, Indent, Dedent}
use Rattle.sd_phrase.specs.Words.{piece_of}
use Rattle.sd_line.specs.declared.lines.token_lines.Begun.{Begun}
use Rattle.sd_line.specs.lines.Lines.{Line}
use Rattle.sd_line.specs.lines.TokenLines.{TokenLine, with_token, ended_by, lines_from, number_of, begins_connector, line_with, line_of_tokens}
use Rattle.sd_line.specs.lines.TokenPlaces.{behind, is_line_end, token_line}

pub map_drop : {A B : Type 0} (f : A → B) (n : ℕ) (xs : List A) → drop n (map f xs) ≡ map f (drop n xs)
map_drop f zero xs = refl
map_drop f (suc n) [] = refl
map_drop f (suc n) (x ∷ xs) = map_drop f n xs

pub map_take : {A B : Type 0} (f : A → B) (n : ℕ) (xs : List A) → take n (map f xs) ≡ map f (take n xs)
map_take f zero xs = refl
map_take f (suc n) [] = refl
map_take f (suc n) (x ∷ xs) = ap (λ rest. f x ∷ rest) (map_take f n xs)

-- what is made of a part of a list is that part of what is made of it
pub map_range : {A B : Type 0} (f : A → B) (xs : List A) (from to : ℕ) → slice_range (map f xs) from to ≡ map f (slice_range xs from to)
map_range f xs from to = ap (take (to - from)) (map_drop f from xs) ∙ map_take f (to - from) (drop from xs)

-- a line by the places of its tokens is the line of these tokens
pub span_line : (text : List ℕ) (tokens : List Token) (line : Begun) (to number : ℕ) (connects : Bool) → number ≡ number_of (slice_range tokens line.from to) → connects ≡ begins_connector text (slice_range tokens line.from to) → line_with text number line.opens line.closes connects (slice_range (map (piece_of text) tokens) line.from to) ≡ line_of_tokens text (token_line tokens line to)
span_line text tokens line to number connects first arrow =
    let part = slice_range tokens line.from to in
    ap (λ n. line_with text n line.opens line.closes connects (slice_range (map (piece_of text) tokens) line.from to)) first
    ∙ (ap (λ k. line_with text (number_of part) line.opens line.closes k (slice_range (map (piece_of text) tokens) line.from to)) arrow
    ∙ ap (line_with text (number_of part) line.opens line.closes (begins_connector text part)) (map_range (piece_of text) tokens line.from to))

pub range_more : {A : Type 0} (xs : List A) (from at : ℕ) (x : A) (rest : List A) → from ≤ at → drop at xs ≡ x ∷ rest → slice_range xs from (at + 1) ≡ slice_range xs from at ++ x ∷ []
range_more xs from at x rest inside is =
    let count : at + 1 - from ≡ (at - from) + 1 = omega arith in
    let sum : from + (at - from) ≡ at = omega arith in
    let left : drop (at - from) (drop from xs) ≡ x ∷ rest = drop-drop (at - from) from xs ∙ (ap (λ n. drop n xs) sum ∙ is) in
    ap (λ n. take n (drop from xs)) count ∙ (take-add (at - from) 1 (drop from xs) ∙ ap (λ ys. take (at - from) (drop from xs) ++ take 1 ys) left)

pub range_none : {A : Type 0} (xs : List A) (at : ℕ) → slice_range xs at at ≡ []
range_none xs at =
    let none : at - at ≡ 0 = omega arith in
    ap (λ n. take n (drop at xs)) none

-- a line with one token more
pub token_line_more : (tokens : List Token) (kind : TokenKind) (line : Begun) (at : ℕ) (token : Token) (rest : List Token) → line.from ≤ at → drop at tokens ≡ token ∷ rest → token_line tokens (behind kind line at) (at + 1) ≡ with_token kind (token_line tokens line at) token
token_line_more tokens Name line at token rest inside is = ap (λ more. record { opens = line.opens; closes = line.closes; tokens = more }) (range_more tokens line.from at token rest inside is)
token_line_more tokens (Number value) line at token rest inside is = ap (λ more. record { opens = line.opens; closes = line.closes; tokens = more }) (range_more tokens line.from at token rest inside is)
token_line_more tokens Text line at token rest inside is = ap (λ more. record { opens = line.opens; closes = line.closes; tokens = more }) (range_more tokens line.from at token rest inside is)
token_line_more tokens Sign line at token rest inside is = ap (λ more. record { opens = line.opens; closes = line.closes; tokens = more }) (range_more tokens line.from at token rest inside is)
token_line_more tokens LineEnd line at token rest inside is = ap (λ none. record { opens = false; closes = 0; tokens = none }) (range_none tokens (at + 1))
token_line_more tokens Indent line at token rest inside is = ap (λ none. record { opens = true; closes = line.closes; tokens = none }) (range_none tokens (at + 1))
token_line_more tokens Dedent line at token rest inside is = ap (λ none. record { opens = line.opens; closes = line.closes + 1; tokens = none }) (range_none tokens (at + 1))

pub not_ended : (kind : TokenKind) (line : TokenLine) → is_line_end kind ≡ false → ended_by kind line ≡ []
not_ended Name line other = refl
not_ended (Number value) line other = refl
not_ended Text line other = refl
not_ended Sign line other = refl
not_ended LineEnd line other = absurd (true≢false other)
not_ended Indent line other = refl
not_ended Dedent line other = refl

pub is_ended : (kind : TokenKind) (line : TokenLine) → is_line_end kind ≡ true → ended_by kind line ≡ line ∷ []
is_ended Name line end = absurd (false≢true end)
is_ended (Number value) line end = absurd (false≢true end)
is_ended Text line end = absurd (false≢true end)
is_ended Sign line end = absurd (false≢true end)
is_ended LineEnd line end = refl
is_ended Indent line end = absurd (false≢true end)
is_ended Dedent line end = absurd (false≢true end)

pub drop_next : {A : Type 0} (xs : List A) (at : ℕ) (x : A) (rest : List A) → drop at xs ≡ x ∷ rest → drop (at + 1) xs ≡ rest
drop_next xs at x rest is = sym (drop-drop 1 at xs) ∙ ap (drop 1) is

-- the lines of the tokens that are left: a line ends with the next one, or has it too
pub lines_step : (tokens : List Token) (line : Begun) (at : ℕ) (token : Token) (rest : List Token) → line.from ≤ at → drop at tokens ≡ token ∷ rest → lines_from (token_line tokens line at) (token ∷ rest) ≡ ended_by token.kind (token_line tokens line at) ++ lines_from (token_line tokens (behind token.kind line at) (at + 1)) rest
lines_step tokens line at token rest inside is = ap (λ next. ended_by token.kind (token_line tokens line at) ++ lines_from next rest) (sym (token_line_more tokens token.kind line at token rest inside is))

pub map_append : {A B : Type 0} (f : A → B) (xs ys : List A) → map f (xs ++ ys) ≡ map f xs ++ map f ys
map_append f [] ys = refl
map_append f (x ∷ xs) ys = ap (λ rest. f x ∷ rest) (map_append f xs ys)

pub append_in : {A : Type 0} (xs ys zs : List A) → (xs ++ ys) ++ zs ≡ xs ++ (ys ++ zs)
append_in [] ys zs = refl
append_in (x ∷ xs) ys zs = ap (λ rest. x ∷ rest) (append_in xs ys zs)

-- the same with the lines before them
pub spans_step : (text : List ℕ) (tokens : List Token) (before now : List Line) (line : Begun) (at : ℕ) (token : Token) (rest : List Token) → now ≡ before ++ map (line_of_tokens text) (ended_by token.kind (token_line tokens line at)) → line.from ≤ at → drop at tokens ≡ token ∷ rest → now ++ map (line_of_tokens text) (lines_from (token_line tokens (behind token.kind line at) (at + 1)) rest) ≡ before ++ map (line_of_tokens text) (lines_from (token_line tokens line at) (token ∷ rest))
spans_step text tokens before now line at token rest pushed inside is =
    let ended = ended_by token.kind (token_line tokens line at) in
    let others = lines_from (token_line tokens (behind token.kind line at) (at + 1)) rest in
    ap (λ first. first ++ map (line_of_tokens text) others) pushed
    ∙ (append_in before (map (line_of_tokens text) ended) (map (line_of_tokens text) others)
    ∙ (ap (λ all. before ++ all) (sym (map_append (line_of_tokens text) ended others))
    ∙ ap (λ all. before ++ map (line_of_tokens text) all) (sym (lines_step tokens line at token rest inside is))))

-- the same of a list of tokens that is not empty
pub spans_next : (text : List ℕ) (tokens : List Token) (before now : List Line) (line : Begun) (at : ℕ) (left : List Token) (other : Token) → 0 < length left → drop at tokens ≡ left → line.from ≤ at → now ≡ before ++ map (line_of_tokens text) (ended_by (get_or left 0 other).kind (token_line tokens line at)) → now ++ map (line_of_tokens text) (lines_from (token_line tokens (behind (get_or left 0 other).kind line at) (at + 1)) (take (length left - 1) (drop 1 left))) ≡ before ++ map (line_of_tokens text) (lines_from (token_line tokens line at) left)
spans_next text tokens before now line at [] other some is inside pushed = absurd (omega (arith, some))
spans_next text tokens before now line at (token ∷ rest) other some is inside pushed =
    ap (λ others. now ++ map (line_of_tokens text) (lines_from (token_line tokens (behind token.kind line at) (at + 1)) others)) (take_rest (token ∷ rest) 1)
    ∙ spans_step text tokens before now line at token rest pushed inside is

pub place_next : {A : Type 0} (xs : List A) (at : ℕ) (left : List A) → drop at xs ≡ left → drop (at + 1) xs ≡ take (length left - 1) (drop 1 left)
place_next xs at left is = sym (drop-drop 1 at xs) ∙ (ap (drop 1) is ∙ sym (take_rest left 1))

pub count_next : {A : Type 0} (left : List A) (at count : ℕ) → 0 < length left → at + length left ≡ count → at + 1 + length (take (length left - 1) (drop 1 left)) ≡ count
count_next [] at count some all = absurd (omega (arith, some))
count_next (x ∷ rest) at count some all = ap (λ others. at + 1 + length others) (take_rest (x ∷ rest) 1) ∙ omega (arith, all)
