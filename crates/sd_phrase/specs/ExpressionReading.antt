-- What a whole list of tokens is as an expression, or as expressions between commas.
use Rattle.std.specs.Prelude.{ℕ, zero, suc, ◌+◌, List, [], ◌∷◌, take, drop, map, Option, Some, None, Bool, true, false, nat_eq, nat_lt, if◌then◌else◌}
use Rattle.sd_lex.specs.declared.syntax.operator.TwoSign.{TwoSign}
use Rattle.sd_lex.specs.PlainTree.{Expression, number, named, element_at, one, two, choice}
use Rattle.sd_lex.specs.TreeFold.{expressions_listed}
use Rattle.sd_phrase.specs.declared.reading.Reading.{Reading}
use Rattle.sd_phrase.specs.declared.reading.Reading.TheVariants.{NoForm, TooDeep, Form}
use Rattle.sd_phrase.specs.declared.word.Bracket.TheVariants.{Round, Square}
use Rattle.sd_phrase.specs.declared.word.Mark.TheVariants.{Comma}
use Rattle.sd_phrase.specs.declared.word.Piece.{Piece}
use Rattle.sd_phrase.specs.declared.word.Place.{Place}
use Rattle.sd_phrase.specs.declared.word.Sign.{Sign}
use Rattle.sd_phrase.specs.declared.word.Sign.TheVariants.{Stop, If, Else, One, Two}
use Rattle.sd_phrase.specs.declared.word.Word.{Word}
use Rattle.sd_phrase.specs.declared.word.Word.TheVariants.{Number, Name, Callee, Open}
use Rattle.sd_phrase.specs.Parts.{parts_of, closed, bracketed, whole, Few, two_parts, few}
use Rattle.sd_phrase.specs.Readings.{reading_map, both, if_some, listed}
use Rattle.sd_phrase.specs.Signs.{rank_of, rank_of_one, rank_of_two, cut_of}
use Rattle.sd_phrase.specs.Words.{spelling}

-- how the tokens of a part are read
abbrev pub Reader : Type 0
Reader = List Piece → Reading Expression

-- a conditional of the readings of its parts
abbrev pub all_three : Reading Expression → Reading Expression → Reading Expression → Reading Expression
all_three NoForm when other = NoForm
all_three TooDeep when other = both (λ w o. w) TooDeep (both (λ w o. w) when other)
all_three (Form value) when other = both (λ w o. choice value w o) when other

-- the loosest rank on the left of a sign of this rank: no comparison has a comparison there, and any other sign between two may have one of its own rank
abbrev pub rank_on_left : ℕ → ℕ
rank_on_left rank = if nat_eq rank 5 then 6 else rank

-- min and max have two parts
abbrev pub pair : TwoSign → Reader → Few → Reading Expression
pair sign read (two_parts a b) = both (two sign) (read a) (read b)
pair sign read others = NoForm

-- an element, whose subscripts stand behind its name
abbrev pub element : List ℕ → (subscript : Reader) → List Piece → Reading Expression
element name subscript rest =
    if_some (whole (bracketed Square rest)) (λ inside. reading_map (λ at. element_at name (expressions_listed at)) (listed (map subscript (parts_of Comma inside))))

-- behind `min(` or `max(`: two parts, and the bracket that ends the list
abbrev pub call_of : TwoSign → Reader → List Piece → Reading Expression
call_of sign read more = if_some (whole (closed Round more)) (λ inside. pair sign read (few (parts_of Comma inside)))

-- what stands behind `min` or `max`: a call, where it is a round bracket, and else the subscripts of an element
abbrev pub called : TwoSign → List ℕ → (read subscript : Reader) → Word → List Piece → List Piece → Reading Expression
called sign name read subscript (Open Round) rest more = call_of sign read more
called sign name read subscript word rest more = element name subscript rest

-- a list without a sign outside brackets: the word and the bytes of its first token, and those behind it
abbrev pub atom_by : (read subscript : Reader) → Word → List ℕ → List Piece → Reading Expression
atom_by read subscript (Number value) name [] = Form (number value)
atom_by read subscript Name name [] = Form (named name)
atom_by read subscript Name name (u ∷ rest) = element name subscript (u ∷ rest)
atom_by read subscript (Callee sign) name [] = Form (named name)
atom_by read subscript (Callee sign) name (u ∷ rest) = called sign name read subscript u.word (u ∷ rest) rest
atom_by read subscript (Open Round) name rest = if_some (whole (closed Round rest)) read
atom_by read subscript word name rest = NoForm

-- a list without a sign outside brackets
abbrev pub atom : List ℕ → (read subscript : Reader) → List Piece → Reading Expression
atom text read subscript [] = NoForm
atom text read subscript (t ∷ rest) = atom_by read subscript t.word (spelling text t) rest

-- a reading that stands only where the sign is an `else`
abbrev pub if_else : Sign → Reading Expression → Reading Expression
if_else Else r = r
if_else sign r = NoForm

-- a conditional: what is before the if, and what is behind it, with the place of its else there
abbrev pub at_else : (again : ℕ → Reader) → List Piece → List Piece → Option Place → Reading Expression
at_else again front back None = NoForm
at_else again front back (Some place) = if_else place.sign (all_three (again 2 front) (again 2 (take place.at back)) (again 1 (drop (place.at + 1) back)))

-- a list cut at a sign: what is before it and what is behind it, with the sign's own rank on the left of a sign that groups to the left, and one tighter on its right
abbrev pub at_sign : (again : ℕ → Reader) → Sign → List Piece → List Piece → Reading Expression
at_sign again (Two sign) front back = both (two sign) (again (rank_on_left (rank_of_two sign)) front) (again (rank_of_two sign + 1) back)
at_sign again (One sign) [] back = reading_map (one sign) (again (rank_of_one sign) back)
at_sign again (One sign) (t ∷ front) back = NoForm
at_sign again If front back = at_else again front back (cut_of back)
at_sign again Else front back = NoForm
at_sign again Stop front back = NoForm

-- a list whose cut is known: a sign looser than the rank cannot stand there
abbrev pub by_cut : List ℕ → (again : ℕ → Reader) → (subscript : Reader) → (rank : ℕ) → List Piece → Option Place → Reading Expression
by_cut text again subscript rank ts None = atom text (again 1) subscript ts
by_cut text again subscript rank ts (Some place) =
    if nat_lt (rank_of place.sign) rank then NoForm else at_sign again place.sign (take place.at ts) (drop (place.at + 1) ts)

-- an element is read even where no level is left, and what is none is too deep there
abbrev pub deep_unless : Option (List Piece) → Reading Expression → Reading Expression
deep_unless None r = TooDeep
deep_unless (Some inside) r = r

-- a list of two tokens and more where no level is left
abbrev pub element_or_deep : (own : Option Reader) → Word → List ℕ → List Piece → Reading Expression
element_or_deep None word name rest = TooDeep
element_or_deep (Some subscript) Name name rest = deep_unless (whole (bracketed Square rest)) (element name subscript rest)
element_or_deep (Some subscript) (Callee sign) name rest = deep_unless (whole (bracketed Square rest)) (element name subscript rest)
element_or_deep (Some subscript) word name rest = TooDeep

-- where no level is left: nothing is no form, a single token has to be a number or a name, an element outside a tasklet is read, and all else is too deep
abbrev pub last_level : List ℕ → (own : Option Reader) → List Piece → Reading Expression
last_level text own [] = NoForm
last_level text own (t ∷ []) = atom_by (λ ts. NoForm) (λ ts. NoForm) t.word (spelling text t) []
last_level text own (t ∷ u ∷ rest) = element_or_deep own t.word (spelling text t) (u ∷ rest)

-- the subscripts of an element: expressions of their own outside tasklets, and else one level further in
abbrev pub subscripts_by : (own : Option Reader) → Reader → Reader
subscripts_by None read = read
subscripts_by (Some subscript) read = subscript

-- the tokens as an expression with no sign outside brackets that is looser than the rank, with at most so many operators, brackets, calls and conditionals round any atom
unfoldable pub reads_by : (text : List ℕ) → (own : Option Reader) → (levels rank : ℕ) → Reader
reads_by text own zero rank ts = last_level text own ts
reads_by text own (suc levels) rank ts = by_cut text (reads_by text own levels) (subscripts_by own (reads_by text own levels 1)) rank ts (cut_of ts)

-- a subscript outside tasklets is an expression of its own
abbrev pub own_subscripts : List ℕ → Bool → Option Reader
own_subscripts text true = Some (reads_by text None 64 1)
own_subscripts text false = None

-- the tokens as an expression of a body (and every affine one) or of a tasklet, with so many levels and no sign looser than the rank outside brackets
abbrev pub reads : List ℕ → (in_body : Bool) → (levels rank : ℕ) → Reader
reads text in_body levels rank ts = reads_by text (own_subscripts text in_body) levels rank ts

-- the subscripts of an element of such an expression
abbrev pub subscripts : List ℕ → (in_body : Bool) → (levels : ℕ) → Reader
subscripts text in_body levels ts = subscripts_by (own_subscripts text in_body) (reads text in_body levels 1) ts

-- an expression with at most so many levels
abbrev pub expression : List ℕ → (in_body : Bool) → (levels : ℕ) → Reader
expression text in_body levels ts = reads text in_body levels 1 ts

-- expressions between commas
abbrev pub expressions : List ℕ → (in_body : Bool) → (levels : ℕ) → List Piece → Reading (List Expression)
expressions text in_body levels ts = listed (map (expression text in_body levels) (parts_of Comma ts))
