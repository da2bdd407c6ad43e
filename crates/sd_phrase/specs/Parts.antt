-- The parts of a list of tokens between marks outside brackets, and what stands in brackets.
use Rattle.std.specs.Prelude.{ℕ, ◌+◌, ◌-◌, List, [], ◌∷◌, take, drop, slice_get, Option, Some, None, Bool, true, false, nat_eq, ⊤, if◌then◌else◌}
use Rattle.sd_phrase.specs.declared.parts.Few.{Few as Few_parts}
use Rattle.sd_phrase.specs.declared.parts.Few.TheVariants.{One, Two, Three, More}
use Rattle.sd_phrase.specs.declared.word.Bracket.{Bracket}
use Rattle.sd_phrase.specs.declared.word.Bracket.TheVariants.{Round, Square}
use Rattle.sd_phrase.specs.declared.word.Mark.{Mark}
use Rattle.sd_phrase.specs.declared.word.Mark.TheVariants.{Comma, Colon, Assign, AddAssign}
use Rattle.sd_phrase.specs.declared.word.Piece.{Piece}
use Rattle.sd_phrase.specs.declared.word.Word.{Word}
use Rattle.sd_phrase.specs.declared.word.Word.TheVariants.{Stop, Open, Close, Other}
use Rattle.sd_phrase.specs.Signs.{depth_after}

-- the word is this mark
abbrev pub is_mark : Mark → Word → Bool
is_mark Comma (Stop Comma) = true
is_mark Colon (Stop Colon) = true
is_mark Assign (Stop Assign) = true
is_mark AddAssign (Stop AddAssign) = true
is_mark mark word = false

-- the mark stands here, outside brackets
abbrev pub is_mark_outside : Mark → (depth : ℕ) → Word → Bool
is_mark_outside mark depth word = if nat_eq depth 0 then is_mark mark word else false

-- a token before the first of the parts
abbrev pub onto_first : Piece → List (List Piece) → List (List Piece)
onto_first t [] = (t ∷ []) ∷ []
onto_first t (p ∷ ps) = (t ∷ p) ∷ ps

-- a token before parts: a mark begins a new part
abbrev pub parted : Bool → Piece → List (List Piece) → List (List Piece)
parted true t ps = [] ∷ ps
parted false t ps = onto_first t ps

-- the parts between the marks outside brackets, where so many are open
abbrev pub parts_from : Mark → (depth : ℕ) → List Piece → List (List Piece)
parts_from mark depth [] = [] ∷ []
parts_from mark depth (t ∷ ts) = parted (is_mark_outside mark depth t.word) t (parts_from mark (depth_after t.word depth) ts)

-- the parts between the marks outside brackets; there is always one more than marks
abbrev pub parts_of : Mark → List Piece → List (List Piece)
parts_of mark ts = parts_from mark 0 ts

-- the place of the first mark outside brackets
abbrev pub mark_from : Mark → (depth at : ℕ) → List Piece → Option ℕ
mark_from mark depth at [] = None
mark_from mark depth at (t ∷ ts) = if is_mark_outside mark depth t.word then Some at else mark_from mark (depth_after t.word depth) (at + 1) ts

-- the place of the first mark outside brackets in a list
abbrev pub mark_of : Mark → List Piece → Option ℕ
mark_of mark ts = mark_from mark 0 0 ts

-- a list cut before and behind a place
abbrev pub around : List Piece → Option ℕ → Option (List Piece × List Piece)
around ts None = None
around ts (Some at) = Some (take at ts, drop (at + 1) ts)

-- what is before the first mark outside brackets, and what is behind it
abbrev pub at_mark : Mark → List Piece → Option (List Piece × List Piece)
at_mark mark ts = around ts (mark_of mark ts)

-- the parts where there are at most three
pub data Few : Type 0 where
  one_part : List Piece → Few
  two_parts : List Piece → List Piece → Few
  three_parts : List Piece → List Piece → List Piece → Few
  more_parts : Few

-- parts by their number
abbrev pub few : List (List Piece) → Few
few (a ∷ []) = one_part a
few (a ∷ b ∷ []) = two_parts a b
few (a ∷ b ∷ c ∷ []) = three_parts a b c
few ps = more_parts

-- the parts of the code as lists
abbrev pub few_of : Few_parts → Few
few_of (One a) = one_part a.now
few_of (Two a b) = two_parts a.now b.now
few_of (Three a b c) = three_parts a.now b.now c.now
few_of More = more_parts

-- what holds of each of the parts
abbrev pub IsEach : (List Piece → Type 0) → Few_parts → Type 0
IsEach P (One a) = P a.now
IsEach P (Two a b) = P a.now × P b.now
IsEach P (Three a b c) = P a.now × P b.now × P c.now
IsEach P More = ⊤

-- the place at which so many open brackets are closed, their kinds aside
abbrev pub closing_from : (depth at : ℕ) → List Piece → Option ℕ
closing_from depth at [] = None
closing_from depth at (t ∷ ts) =
    if nat_eq (depth_after t.word depth) 0 then Some at else closing_from (depth_after t.word depth) (at + 1) ts

-- the word opens brackets of this kind
abbrev pub opens : Bracket → Word → Bool
opens Round (Open Round) = true
opens Square (Open Square) = true
opens bracket word = false

-- the word closes brackets of this kind
abbrev pub closes : Bracket → Word → Bool
closes Round (Close Round) = true
closes Square (Close Square) = true
closes bracket word = false

-- the word at a place
abbrev pub word_at : List Piece → ℕ → Word
word_at ts at = elim (slice_get ts at) [ None ↦ Other | Some t ↦ t.word ]

-- the place closes brackets of this kind: what is before it, and what is behind it
abbrev pub closed_at : Bracket → List Piece → Option ℕ → Option (List Piece × List Piece)
closed_at bracket ts None = None
closed_at bracket ts (Some at) = if closes bracket (word_at ts at) then Some (take at ts, drop (at + 1) ts) else None

-- behind an opening bracket: what is in the brackets, and what is behind them
abbrev pub closed : Bracket → List Piece → Option (List Piece × List Piece)
closed bracket ts = closed_at bracket ts (closing_from 1 0 ts)

-- what is in the brackets that the list begins with, and what is behind them
abbrev pub bracketed : Bracket → List Piece → Option (List Piece × List Piece)
bracketed bracket [] = None
bracketed bracket (t ∷ ts) = if opens bracket t.word then closed bracket ts else None

-- what is in brackets where nothing is behind them
abbrev pub nothing_behind : List Piece → List Piece → Option (List Piece)
nothing_behind inside [] = Some inside
nothing_behind inside (t ∷ ts) = None

-- what is in brackets that all the tokens stand in
abbrev pub whole : Option (List Piece × List Piece) → Option (List Piece)
whole None = None
whole (Some cut) = nothing_behind cut.0 cut.1

-- each bracket is closed and none that was not opened, where so many are open
abbrev pub is_balanced_from : (depth : ℕ) → List Piece → Bool
is_balanced_from depth [] = nat_eq depth 0
is_balanced_from depth (t ∷ ts) = if nat_eq (depth_after t.word (depth + 1)) 0 then false else is_balanced_from (depth_after t.word (depth + 1) - 1) ts

-- each bracket is closed, and none is closed that was not opened, their kinds aside
abbrev pub is_balanced : List Piece → Bool
is_balanced ts = is_balanced_from 0 ts
