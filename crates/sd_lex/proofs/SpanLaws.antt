-- The tokens of a text stand in order, each on its line and with the bytes of its kind.
use Rattle.std.proofs.Common.{◌≡◌, ℕ, zero, suc, ◌+◌, ◌-◌, ◌<◌, ◌≤◌, List, [], ◌∷◌, ◌++◌, length, take, drop, map, replicate, nat_eq, refl, ap, sym, ◌∙◌, subst, arith, Bool, true, false, ◌&&◌, Ok, Err, Option, Some, None, IfSome, inl, inr, All, append-nil, append_assoc, length-append, length-drop, length-take-le, take-append-drop, if◌then◌else◌}
use Rattle.std.specs.List.{ends_with, slice_split, onto_first, join_with_byte, count_by, AllByRecursion}
use Rattle.std.proofs.lemmas.Bool.{cond_both, cond-true, cases_Bool}
use Rattle.std.proofs.lemmas.List.{take-append-le}
use Rattle.std.proofs.lemmas.List.Splits.{length-slice_split, join_with_byte-slice_split}
use Rattle.sd_lex.specs.Bytes.{is_blank, is_comment, is_newline}
use Rattle.sd_lex.specs.Blocks.{Blocks, outer, innermost, blocks_at}
use Rattle.sd_lex.specs.FoundAt.{found_at, IsWithin}
use Rattle.sd_lex.specs.Reading.{Reading, after, followed_by}
use Rattle.sd_lex.specs.Line.{PhysicalLine, begun, tokens_from, tokens_of_line, blanks_of, spaces_of, has_content, has_tab_in_indentation, physical_line}
use Rattle.sd_lex.specs.Lines.{less_return, numbered, physical_lines}
use Rattle.sd_lex.specs.Layout.{mark, brackets_after, blocks_of, ends, line_end, text_end, laid_out, layout, lexed}
use Rattle.sd_lex.specs.Position.{line_at, IsInOrder}
use Rattle.sd_lex.specs.TokenText.{AreTokensOf, IsTextOf, text_of}
use Rattle.sd_lex.specs.declared.error.LexError.{LexError}
use Rattle.sd_lex.specs.declared.found.Found.{Found}
use Rattle.sd_lex.specs.declared.found.Found.TheVariants.{BadByte, NumberTooWide, Token as Token_found}
use Rattle.sd_lex.specs.declared.token.Token.{Token}
use Rattle.sd_lex.specs.declared.token.TokenKind.{TokenKind}
use Rattle.sd_lex.specs.declared.token.TokenKind.TheVariants.{LineEnd, Indent, Dedent}
use Rattle.sd_lex.proofs.FoundLemmas.{found_within, run_within}
use Rattle.sd_lex.proofs.PositionLaws.{Stands, IsClean, Chain, IsRight, stands-line, stands-drop, stands-length, step, next_line, skip, clean-front, clean-rest, wider, chain-append, chain_order, chain_each}
use Rattle.sd_lex.proofs.TextLaws.{HasText, run_more, run_none, found_text}
use Rattle.sd_lex.proofs.InsideLaws.{all_inside}

-- an error is no tokens
no_tokens : (error : LexError) (tokens : List Token) → Err error ≡ Ok tokens → ⊥
no_tokens error tokens h = cc

-- tokens as what is read
abbrev read_as : List Token → Reading
read_as tokens = Ok tokens

-- what reads as tokens reads as no others
same_tokens : (tokens others : List Token) → read_as tokens ≡ Ok others → tokens ≡ others
same_tokens tokens others h = cc

-- what stands behind tokens that are read
after_ok : (tokens : List Token) (r : Reading) (all : List Token) → after tokens r ≡ Ok all → (others : List Token) × (r ≡ Ok others) × (tokens ++ others ≡ all)
after_ok tokens (Ok others) all h = (others, refl, same_tokens (tokens ++ others) all h)
after_ok tokens (Err error) all h = absurd (no_tokens error all h)

-- the tokens that are read before others
followed_ok : (r : Reading) (rest : List Token → Reading) (all : List Token) → followed_by r rest ≡ Ok all → (tokens : List Token) × (r ≡ Ok tokens) × (rest tokens ≡ Ok all)
followed_ok (Ok tokens) rest all h = (tokens, refl, h)
followed_ok (Err error) rest all h = absurd (no_tokens error all h)

-- a token that begins at a place, and those behind it
begun_chain : (text : List ℕ) (number at : ℕ) (bytes rest : List ℕ) → Stands text at number (bytes ++ rest) → (found : Found) → IsWithin (length bytes) found → HasText bytes found →
    (next : ℕ → Reading) (tokens : List Token) → begun number at found next ≡ Ok tokens →
    ((passed : ℕ) (others : List Token) → passed + 1 ≤ length bytes → next passed ≡ Ok others → Chain (IsRight text) (at + 1 + passed) others (at + length bytes)) →
    Chain (IsRight text) at tokens (at + length bytes)
begun_chain text number at bytes rest s BadByte within has next tokens h behind = absurd (no_tokens _ tokens h)
begun_chain text number at bytes rest s NumberTooWide within has next tokens h behind = absurd (no_tokens _ tokens h)
begun_chain text number at bytes rest s (Token_found kind count) within has next tokens h behind =
    let token : Token = record { kind = kind; from = at; to = at + count; line = number } in
    let parts : (others : List Token) × (next (count - 1) ≡ Ok others) × (token ∷ others ≡ tokens) = after_ok (token ∷ []) (next (count - 1)) tokens h in
    let some : 0 < count = within.0 in
    let few : count ≤ length bytes = within.1 in
    let spans : at + count - at ≡ count = omega arith in
    let bytes_are : text_of text token ≡ take count bytes =
    ap (λ n. take n (drop at text)) spans ∙ ap (take count) (stands-drop text at number (bytes ++ rest) s) ∙ take-append-le count bytes rest few in
    let right : IsRight text token = (stands-line text at number (bytes ++ rest) s, subst (IsTextOf kind) (sym bytes_are) has) in
    let room : count - 1 + 1 ≤ length bytes = omega arith in
    let from_next : at + count ≤ at + 1 + (count - 1) = omega arith in
    let to_end : at + length bytes ≤ at + length bytes = omega arith in
    let low : at ≤ at = omega arith in
    let ends : at ≤ at + count = omega arith in
    subst (λ ts. Chain (IsRight text) at ts (at + length bytes)) parts.2
    (low, ends, right, wider (IsRight text) (at + 1 + (count - 1)) parts.0 (at + length bytes) (at + count) (at + length bytes) from_next to_end (behind (count - 1) parts.0 room parts.1))

-- the tokens of bytes of a line
tokens_chain : (text : List ℕ) (number at passed : ℕ) (bytes rest : List ℕ) → Stands text at number (bytes ++ rest) → IsClean bytes → passed ≤ length bytes → (tokens : List Token) →
    tokens_from number at passed bytes ≡ Ok tokens → Chain (IsRight text) (at + passed) tokens (at + length bytes)
tokens_chain text number at passed [] rest s clean few tokens h =
    let within : at + passed ≤ at + 0 = omega arith in
    subst (λ ts. Chain (IsRight text) (at + passed) ts (at + 0)) (same_tokens [] tokens h) within
tokens_chain text number at (suc passed) (byte ∷ bytes) rest s clean few tokens h =
    let few' : passed ≤ length bytes = omega arith in
    wider (IsRight text) (at + 1 + passed) tokens (at + 1 + length bytes) (at + suc passed) (at + suc (length bytes)) (omega arith) (omega arith)
    (tokens_chain text number (at + 1) passed bytes rest (step text at number byte (bytes ++ rest) s clean.0) clean.1 few' tokens h)
tokens_chain text number at zero (byte ∷ bytes) rest s clean few tokens h =
    let P : Token → Type 0 = IsRight text in
    let high : ℕ = at + suc (length bytes) in
    let M : Reading → Type 0 = λ r. r ≡ Ok tokens → Chain P (at + 0) tokens high in
    let s' : Stands text (at + 1) number (bytes ++ rest) = step text at number byte (bytes ++ rest) s clean.0 in
    let blank : Reading = tokens_from number (at + 1) 0 bytes in
    let next : ℕ → Reading = λ passed. tokens_from number (at + 1) passed bytes in
    let token : Reading = begun number at (found_at (byte ∷ bytes)) next in
    let none : at + 0 ≤ high = omega arith in
    cond_both (is_blank byte) blank (if is_comment byte then Ok [] else token) M
    (λ _ h. wider P (at + 1 + 0) tokens (at + 1 + length bytes) (at + 0) high (omega arith) (omega arith) (tokens_chain text number (at + 1) 0 bytes rest s' clean.1 (omega arith) tokens h))
    (λ _. cond_both (is_comment byte) (Ok []) token M
    (λ _ h. subst (λ ts. Chain P (at + 0) ts high) (same_tokens [] tokens h) none)
    (λ _ h. wider P at tokens high (at + 0) high (omega arith) (omega arith)
    (begun_chain text number at (byte ∷ bytes) rest s (found_at (byte ∷ bytes)) (found_within (byte ∷ bytes)) (found_text (byte ∷ bytes)) next tokens h
    (λ passed others room h'. wider P (at + 1 + passed) others (at + 1 + length bytes) (at + 1 + passed) high (omega arith) (omega arith) (tokens_chain text number (at + 1) passed bytes rest s' clean.1 (omega arith) others h')))))
    h

-- blanks are no tokens
after_blanks : (number at : ℕ) (bytes : List ℕ) → tokens_from number at 0 bytes ≡ tokens_from number (at + blanks_of bytes) 0 (drop (blanks_of bytes) bytes)
after_blanks number at [] = refl
after_blanks number at (byte ∷ bytes) =
    let M : ℕ → Type 0 = λ n. tokens_from number at 0 (byte ∷ bytes) ≡ tokens_from number (at + n) 0 (drop n (byte ∷ bytes)) in
    let more : ℕ = blanks_of bytes in
    elim (cases_Bool (is_blank byte)) as (λ _. M (blanks_of (byte ∷ bytes))) [
      | inl blank ↦
          subst M (sym (ap length (run_more is_blank byte bytes blank)))
          (cond-true (is_blank byte) (tokens_from number (at + 1) 0 bytes) _ blank ∙ after_blanks number (at + 1) bytes ∙ ap (λ a. tokens_from number a 0 (drop more bytes)) (omega arith))
      | inr full ↦ subst M (sym (ap length (run_none is_blank byte bytes full))) (ap (λ a. tokens_from number a 0 (byte ∷ bytes)) (omega arith))
    ]

-- a mark has no bytes
mark_right : (text : List ℕ) (at number : ℕ) (here : List ℕ) → Stands text at number here → (kind : TokenKind) → IsTextOf kind [] → IsRight text (mark at number kind)
mark_right text at number here s kind none =
    let spans : at - at ≡ 0 = omega arith in
    let bytes_are : text_of text (mark at number kind) ≡ [] = ap (λ n. take n (drop at text)) spans in
    (stands-line text at number here s, subst (IsTextOf kind) (sym bytes_are) none)

-- kinds of marks
abbrev AreMarks : List TokenKind → Type 0
AreMarks kinds = AllByRecursion (λ kind. IsTextOf kind []) kinds

-- marks at a place are in order
marks_chain : (text : List ℕ) (at number : ℕ) (here : List ℕ) → Stands text at number here → (kinds : List TokenKind) → AreMarks kinds → Chain (IsRight text) at (map (mark at number) kinds) at
marks_chain text at number here s [] marks = let same : at ≤ at = omega arith in same
marks_chain text at number here s (kind ∷ kinds) marks =
    let same : at ≤ at = omega arith in
    (same, same, mark_right text at number here s kind marks.0, marks_chain text at number here s kinds marks.1)

-- closing marks at a place are in order
dedents_chain : (text : List ℕ) (at number : ℕ) (here : List ℕ) → Stands text at number here → (count : ℕ) → Chain (IsRight text) at (replicate count (mark at number Dedent)) at
dedents_chain text at number here s zero = let same : at ≤ at = omega arith in same
dedents_chain text at number here s (suc count) =
    let same : at ≤ at = omega arith in
    (same, same, mark_right text at number here s Dedent refl, dedents_chain text at number here s count)

-- closing marks are marks
dedents_are_marks : (count : ℕ) → AreMarks (replicate count Dedent)
dedents_are_marks zero = tt
dedents_are_marks (suc count) = (refl, dedents_are_marks count)

-- what opens and closes at a width are marks
blocks_marks : (width : ℕ) (widths : List ℕ) → IfSome (blocks_at width widths) (λ blocks. AreMarks blocks.marks)
blocks_marks width widths =
    let kept : List ℕ = outer width widths in
    let closing : Blocks = record { marks = replicate (length widths - length kept) Dedent; widths = kept } in
    let opening : Blocks = record { marks = Indent ∷ []; widths = width ∷ kept } in
    let P : Option Blocks → Type 0 = λ o. IfSome o (λ blocks. AreMarks blocks.marks) in
    cond_both (nat_eq (innermost kept) width) (Some closing) (if nat_eq (length kept) (length widths) then Some opening else None) P
    (λ _. dedents_are_marks (length widths - length kept))
    (λ _. cond_both (nat_eq (length kept) (length widths)) (Some opening) None P (λ _. (refl, tt)) (λ _. tt))

-- what opens and closes at a line are marks
line_marks : (brackets : ℕ) (widths : List ℕ) (line : PhysicalLine) → IfSome (blocks_of brackets widths line) (λ blocks. AreMarks blocks.marks)
line_marks brackets widths line =
    let P : Option Blocks → Type 0 = λ o. IfSome o (λ blocks. AreMarks blocks.marks) in
    let same : Blocks = record { marks = []; widths = widths } in
    let at : Option Blocks = blocks_at (spaces_of line.bytes) widths in
    let tab : Bool = has_tab_in_indentation line.bytes in
    cond_both (nat_eq brackets 0 && has_content line.bytes) (if tab then None else at) (Some same) P
    (λ _. cond_both tab None at P (λ _. tt) (λ _. blocks_marks (spaces_of line.bytes) widths))
    (λ _. tt)

ends_chain : (text : List ℕ) (number at : ℕ) (here : List ℕ) → Stands text at number here → (test : Bool) → Chain (IsRight text) at (if test then mark at number LineEnd ∷ [] else []) at
ends_chain text number at here s true = let same : at ≤ at = omega arith in (same, same, mark_right text at number here s LineEnd refl, same)
ends_chain text number at here s false = let same : at ≤ at = omega arith in same

-- the end of a logical line is in order
line_end_chain : (text : List ℕ) (number from : ℕ) (bytes here : List ℕ) → Stands text (from + length bytes) number here → (now : ℕ) (tokens : List Token) →
    Chain (IsRight text) (from + length bytes) (line_end now (physical_line number from bytes) tokens) (from + length bytes)
line_end_chain text number from bytes here s now tokens = ends_chain text number (from + length bytes) here s (ends now tokens)

-- the marks at the end of a text are in order
text_end_chain : (text : List ℕ) (at last : ℕ) (here : List ℕ) → Stands text at last here → (brackets : ℕ) (widths : List ℕ) → Chain (IsRight text) at (text_end at last brackets widths) at
text_end_chain text at last here s zero widths = dedents_chain text at last here s (length widths)
text_end_chain text at last here s (suc brackets) widths =
    let same : at ≤ at = omega arith in
    (same, same, mark_right text at last here s LineEnd refl, dedents_chain text at last here s (length widths))

-- the tokens of a line with its marks, and those behind it
line_chain : (text : List ℕ) (brackets number from : ℕ) (bytes rest : List ℕ) → Stands text from number (bytes ++ rest) → IsClean bytes → (blocks : Option Blocks) → IfSome blocks (λ b. AreMarks b.marks) →
    (next : ℕ → List ℕ → Reading) (all : List Token) → laid_out text brackets (physical_line number from bytes) blocks next ≡ Ok all →
    ((now : ℕ) (widths : List ℕ) (others : List Token) → next now widths ≡ Ok others → Chain (IsRight text) (from + length bytes) others (length text)) →
    Chain (IsRight text) from all (length text)
line_chain text brackets number from bytes rest s clean None marks next all h behind = absurd (no_tokens _ all h)
line_chain text brackets number from bytes rest s clean (Some blocks) marks next all h behind =
    let P : Token → Type 0 = IsRight text in
    let line : PhysicalLine = physical_line number from bytes in
    let blanks : ℕ = blanks_of bytes in
    let margin : List ℕ = take blanks bytes in
    let inner : List ℕ = drop blanks bytes in
    let end : ℕ = from + length bytes in
    let opened : List Token = map (mark (from + blanks) number) blocks.marks in
    let read : (tokens : List Token) × (tokens_of_line line ≡ Ok tokens)
    × (after (opened ++ tokens ++ line_end (brackets_after text brackets tokens) line tokens) (next (brackets_after text brackets tokens) blocks.widths) ≡ Ok all) =
    followed_ok (tokens_of_line line) (λ tokens. after (opened ++ tokens ++ line_end (brackets_after text brackets tokens) line tokens) (next (brackets_after text brackets tokens) blocks.widths)) all h in
    let tokens : List Token = read.0 in
    let now : ℕ = brackets_after text brackets tokens in
    let closed : List Token = line_end now line tokens in
    let parts : (others : List Token) × (next now blocks.widths ≡ Ok others) × ((opened ++ tokens ++ closed) ++ others ≡ all) = after_ok (opened ++ tokens ++ closed) (next now blocks.widths) all read.2 in
    let within : blanks ≤ length bytes = run_within is_blank bytes in
    let both : bytes ≡ margin ++ inner = sym (take-append-drop blanks bytes) in
    let long : length margin ≡ blanks = length-take-le blanks bytes within in
    let clean' : IsClean (margin ++ inner) = subst IsClean both clean in
    let s_all : Stands text from number (margin ++ (inner ++ rest)) = subst (Stands text from number) (ap (λ xs. xs ++ rest) both ∙ append_assoc margin inner rest) s in
    let s_inner : Stands text (from + blanks) number (inner ++ rest) =
    subst (λ n. Stands text (from + n) number (inner ++ rest)) long (skip text from number margin (inner ++ rest) s_all (clean-front margin inner clean')) in
    let s_end : Stands text end number rest = skip text from number bytes rest s clean in
    let low : from ≤ from + blanks = omega arith in
    let same : from + blanks ≤ from + blanks = omega arith in
    let inner_end : from + blanks + length inner ≤ end = omega (arith, within, length-drop blanks bytes) in
    let inner_from : from + blanks ≤ from + blanks + 0 = omega arith in
    let none : 0 ≤ length inner = omega arith in
    let open_chain : Chain P from opened (from + blanks) =
    wider P (from + blanks) opened (from + blanks) from (from + blanks) low same (marks_chain text (from + blanks) number (inner ++ rest) s_inner blocks.marks marks) in
    let inner_chain : Chain P (from + blanks) tokens end =
    wider P (from + blanks + 0) tokens (from + blanks + length inner) (from + blanks) end inner_from inner_end
    (tokens_chain text number (from + blanks) 0 inner rest s_inner (clean-rest margin inner clean') none tokens (sym (after_blanks number from bytes) ∙ read.1)) in
    let close_chain : Chain P end closed end = line_end_chain text number from bytes rest s_end now tokens in
    subst (λ ts. Chain P from ts (length text)) parts.2
    (chain-append P from (opened ++ tokens ++ closed) end parts.0 (length text)
    (chain-append P from (opened ++ tokens) end closed end (chain-append P from opened (from + blanks) tokens end open_chain inner_chain) close_chain)
    (behind now blocks.widths parts.0 parts.1))

-- bytes without their carriage return, and the carriage return
less_return_split : (part : List ℕ) → (more : List ℕ) × (part ≡ less_return part ++ more)
less_return_split part =
    let M : List ℕ → Type 0 = λ xs. (more : List ℕ) × (part ≡ xs ++ more) in
    let short : List ℕ = take (length part - 1) part in
    let without : M short = (drop (length part - 1) part, sym (take-append-drop (length part - 1) part)) in
    let with_it : M part = ([], sym (append-nil part)) in
    cond_both (ends_with nat_eq part (13 ∷ [])) short part M (λ _. without) (λ _. with_it)

-- the tokens of the lines of parts of a text
layout_chain : (text : List ℕ) (last : ℕ) → Stands text (length text) last [] → (brackets : ℕ) (widths : List ℕ) (number from : ℕ) (parts : List (List ℕ)) →
    Stands text from number (join_with_byte 10 parts) → AllByRecursion IsClean parts → (tokens : List Token) → layout text last brackets widths (numbered number from parts) ≡ Ok tokens →
    Chain (IsRight text) from tokens (length text)
layout_chain text last end brackets widths number from [] s clean tokens h =
    let within : from ≤ length text = omega (arith, stands-length text from number [] s) in
    let same : length text ≤ length text = omega arith in
    subst (λ ts. Chain (IsRight text) from ts (length text)) (same_tokens (text_end (length text) last brackets widths) tokens h)
    (wider (IsRight text) (length text) (text_end (length text) last brackets widths) (length text) from (length text) within same (text_end_chain text (length text) last [] end brackets widths))
layout_chain text last end brackets widths number from (part ∷ []) s clean tokens h =
    let line : PhysicalLine = physical_line number from part in
    let s' : Stands text from number (part ++ []) = subst (Stands text from number) (sym (append-nil part)) s in
    line_chain text brackets number from part [] s' clean.0 (blocks_of brackets widths line) (line_marks brackets widths line) (λ now widths. layout text last now widths []) tokens h
    (λ now widths others h'. layout_chain text last end now widths number (from + length part) [] (skip text from number part [] s' clean.0) tt others h')
layout_chain text last end brackets widths number from (part ∷ next ∷ parts) s clean tokens h =
    let bytes : List ℕ = less_return part in
    let line : PhysicalLine = physical_line number from bytes in
    let behind : List ℕ = 10 ∷ join_with_byte 10 (next ∷ parts) in
    let split : (more : List ℕ) × (part ≡ bytes ++ more) = less_return_split part in
    let more : List ℕ = split.0 in
    let s_line : Stands text from number (bytes ++ (more ++ behind)) = subst (Stands text from number) (ap (λ xs. xs ++ behind) split.1 ∙ append_assoc bytes more behind) s in
    let clean_line : IsClean bytes = clean-front bytes more (subst IsClean split.1 clean.0) in
    let s_end : Stands text (from + length part) number behind = skip text from number part behind s clean.0 in
    let s_next : Stands text (from + length part + 1) (number + 1) (join_with_byte 10 (next ∷ parts)) = next_line text (from + length part) number 10 (join_with_byte 10 (next ∷ parts)) s_end refl in
    let low : from + length bytes ≤ from + length part + 1 = omega (arith, ap length split.1, length-append bytes more) in
    let same : length text ≤ length text = omega arith in
    line_chain text brackets number from bytes (more ++ behind) s_line clean_line (blocks_of brackets widths line) (line_marks brackets widths line)
    (λ now widths. layout text last now widths (numbered (number + 1) (from + length part + 1) (next ∷ parts))) tokens h
    (λ now widths others h'. wider (IsRight text) (from + length part + 1) others (length text) (from + length bytes) (length text) low same
    (layout_chain text last end now widths (number + 1) (from + length part + 1) (next ∷ parts) s_next clean.1 others h'))

-- clean parts are clean with a byte more that is no newline
clean_onto : (byte : ℕ) (parts : List (List ℕ)) → is_newline byte ≡ false → AllByRecursion IsClean parts → AllByRecursion IsClean (onto_first byte parts)
clean_onto byte [] plain clean = ((plain, tt), tt)
clean_onto byte (part ∷ parts) plain clean = ((plain, clean.0), clean.1)

-- the parts of a text between newlines have none
parts_clean : (text : List ℕ) → AllByRecursion IsClean (slice_split is_newline text)
parts_clean [] = (tt, tt)
parts_clean (byte ∷ text) =
    let parts : List (List ℕ) = slice_split is_newline text in
    cond_both (is_newline byte) ([] ∷ parts) (onto_first byte parts) (AllByRecursion IsClean) (λ _. (tt, parts_clean text)) (λ plain. clean_onto byte parts plain (parts_clean text))

-- there are as many lines as parts
length-numbered : (number from : ℕ) (parts : List (List ℕ)) → length (numbered number from parts) ≡ length parts
length-numbered number from [] = refl
length-numbered number from (part ∷ []) = refl
length-numbered number from (part ∷ next ∷ parts) = ap suc (length-numbered (number + 1) (from + length part + 1) (next ∷ parts))

-- the tokens of a text
lexed_chain : (text : List ℕ) (tokens : List Token) → lexed text ≡ Ok tokens → Chain (IsRight text) 0 tokens (length text)
lexed_chain text tokens h =
    let parts : List (List ℕ) = slice_split is_newline text in
    let last : ℕ = length (physical_lines text) in
    let lines_are : count_by is_newline text + 1 ≡ last = sym (length-numbered 1 0 parts ∙ length-slice_split is_newline text) in
    let end : Stands text (length text) last [] = record { before = text; all = sym (append-nil text); place = refl; line = lines_are } in
    let start : Stands text 0 1 text = record { before = []; all = refl; place = refl; line = refl } in
    layout_chain text last end 0 [] 1 0 parts (subst (Stands text 0 1) (sym (join_with_byte-slice_split 10 text)) start) (parts_clean text) tokens h

-- the tokens of a text are in order
pub tokens_in_order : (text : List ℕ) (tokens : List Token) → lexed text ≡ Ok tokens → IsInOrder 0 tokens (length text)
tokens_in_order text tokens h = chain_order (IsRight text) 0 tokens (length text) (lexed_chain text tokens h)

-- the tokens of a text have the bytes of their kinds
pub tokens_have_texts : (text : List ℕ) (tokens : List Token) → lexed text ≡ Ok tokens → All (λ token. IsTextOf token.kind (text_of text token)) tokens
tokens_have_texts text tokens h = chain_each (IsRight text) (λ token. IsTextOf token.kind (text_of text token)) (λ token right. right.1) 0 tokens (length text) (lexed_chain text tokens h)

-- the tokens of a text are on the lines of their first bytes
pub tokens_on_lines : (text : List ℕ) (tokens : List Token) → lexed text ≡ Ok tokens → All (λ token. token.line ≡ line_at text token.from) tokens
tokens_on_lines text tokens h = chain_each (IsRight text) (λ token. token.line ≡ line_at text token.from) (λ token right. right.0) 0 tokens (length text) (lexed_chain text tokens h)

-- all of it together
pub tokens_of_text : (text : List ℕ) (tokens : List Token) → lexed text ≡ Ok tokens → AreTokensOf text tokens
tokens_of_text text tokens h =
    let in_order : IsInOrder 0 tokens (length text) = tokens_in_order text tokens h in
    let texts : All (λ token. IsTextOf token.kind (text_of text token)) tokens = tokens_have_texts text tokens h in
    record { in_order = in_order; inside = all_inside text 0 tokens in_order texts; texts = texts; lines = tokens_on_lines text tokens h }
