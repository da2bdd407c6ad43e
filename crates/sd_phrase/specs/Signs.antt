-- The sign at which a list of tokens is cut: of its signs outside brackets the loosest; of several such, the last where
-- the sign stands between two expressions, and the first otherwise.
use Rattle.std.specs.Prelude.{ℕ, ◌+◌, ◌-◌, List, [], ◌∷◌, Option, Some, None, Bool, true, false, nat_eq, nat_lt, nat_le, if◌then◌else◌}
use Rattle.sd_lex.specs.declared.syntax.operator.OneSign.{OneSign}
use Rattle.sd_lex.specs.declared.syntax.operator.OneSign.TheVariants.{Not, Neg, Inv}
use Rattle.sd_lex.specs.declared.syntax.operator.TwoSign.{TwoSign}
use Rattle.sd_lex.specs.declared.syntax.operator.TwoSign.TheVariants.{Or, And, Less, LessEqual, Greater, GreaterEqual, Equal, Differ, BitOr, BitXor, BitAnd, Add, Sub, Mul, FloorDiv, Mod, Min, Max}
use Rattle.sd_phrase.specs.declared.word.Piece.{Piece}
use Rattle.sd_phrase.specs.declared.word.Place.{Place}
use Rattle.sd_phrase.specs.declared.word.Sign.{Sign}
use Rattle.sd_phrase.specs.declared.word.Sign.TheVariants.{Stop as Stop_sign, If, Else, One, Two}
use Rattle.sd_phrase.specs.declared.word.Word.{Word}
use Rattle.sd_phrase.specs.declared.word.Word.TheVariants.{Number, Name, Callee, Between, Before, Minus, If as If_word, Else as Else_word, Stop, Open, Close, Quoted}

-- the ranks from the loosest: 0 a mark that no expression has, 1 a conditional, 2 `or`, 3 `and`, 4 `not`, 5 one comparison, 6 `|`, 7 `^`, 8 `&`, 9 `+ -`, 10 `* // %`, 11 unary `- ~`; min and max are calls and never cut a list
abbrev pub rank_of_two : TwoSign → ℕ
rank_of_two Or = 2
rank_of_two And = 3
rank_of_two Less = 5
rank_of_two LessEqual = 5
rank_of_two Greater = 5
rank_of_two GreaterEqual = 5
rank_of_two Equal = 5
rank_of_two Differ = 5
rank_of_two BitOr = 6
rank_of_two BitXor = 7
rank_of_two BitAnd = 8
rank_of_two Add = 9
rank_of_two Sub = 9
rank_of_two Mul = 10
rank_of_two FloorDiv = 10
rank_of_two Mod = 10
rank_of_two Min = 12
rank_of_two Max = 12

-- the rank of a sign before one expression
abbrev pub rank_of_one : OneSign → ℕ
rank_of_one Not = 4
rank_of_one Neg = 11
rank_of_one Inv = 11

-- the rank of a sign
abbrev pub rank_of : Sign → ℕ
rank_of Stop_sign = 0
rank_of If = 1
rank_of Else = 1
rank_of (One sign) = rank_of_one sign
rank_of (Two sign) = rank_of_two sign

-- a list is cut at the later of two signs rather than at the earlier one
abbrev pub cuts_before : (later earlier : Sign) → Bool
cuts_before (Two sign) earlier = nat_le (rank_of_two sign) (rank_of earlier)
cuts_before (One sign) earlier = nat_lt (rank_of_one sign) (rank_of earlier)
cuts_before If earlier = nat_lt 1 (rank_of earlier)
cuts_before Else earlier = nat_lt 1 (rank_of earlier)
cuts_before Stop_sign earlier = nat_lt 0 (rank_of earlier)

-- the sign that a word is; a minus stands between two where an expression ends before it
abbrev pub sign_of : Word → (after : Bool) → Option Sign
sign_of (Between sign) after = Some (Two sign)
sign_of (Before sign) after = Some (One sign)
sign_of Minus after = Some (if after then Two Sub else One Neg)
sign_of If_word after = Some If
sign_of Else_word after = Some Else
sign_of (Stop mark) after = Some Stop_sign
sign_of word after = None

-- an expression can end with the word
abbrev pub ends : Word → Bool
ends (Number value) = true
ends Name = true
ends (Callee sign) = true
ends (Close bracket) = true
ends Quoted = true
ends word = false

-- how many brackets are open behind a word, their kinds aside
abbrev pub depth_after : Word → (depth : ℕ) → ℕ
depth_after (Open bracket) depth = depth + 1
depth_after (Close bracket) depth = depth - 1
depth_after word depth = depth

-- of the best place before and this one, the one at which a list is cut
abbrev pub better : Option Place → ℕ → Option Sign → Option Place
better best at None = best
better None at (Some sign) = Some (record { at = at; sign = sign })
better (Some place) at (Some sign) = if cuts_before sign place.sign then Some (record { at = at; sign = sign }) else Some place

-- the same, where a sign in brackets does not count
abbrev pub better_outside : ℕ → Option Place → ℕ → Option Sign → Option Place
better_outside depth best at sign = if nat_eq depth 0 then better best at sign else best

-- the best place, where so many brackets are open, `after` says that an expression ends before the tokens, the first of
-- them has the place `at`, and best is the best place before it
abbrev pub cut_from : (depth : ℕ) → (after : Bool) → (at : ℕ) → (best : Option Place) → List Piece → Option Place
cut_from depth after at best [] = best
cut_from depth after at best (t ∷ ts) =
    cut_from (depth_after t.word depth) (ends t.word) (at + 1)
    (better_outside depth best at (sign_of t.word after)) ts

-- the sign at which a list is cut, and its place
abbrev pub cut_of : List Piece → Option Place
cut_of ts = cut_from 0 false 0 None ts
