-- Blocks close from the innermost outwards.
use Rattle.std.proofs.Common.{◌≡◌, ◌≢◌, Vec, Global, vec_len, ℕ, zero, suc, map, nat_eq, IfSome, ◌+◌, ◌-◌, ◌<◌, List, [], ◌∷◌, ◌++◌, reverse, replicate, length, Option, Some, None, option_to_list, MatchOption, refl, ap, sym, ◌∙◌, arith, true, false, nat_lt}
use Rattle.std.proofs.lemmas.List.{length-reverse, reverse-append, append-nil, append_assoc, replicate_more}
use Rattle.std.proofs.lemmas.Bool.{lt-ltb}
use Rattle.std.proofs.lemmas.Bool.Decides.{nat_tests}
use Rattle.sd_lex.specs.Blocks.{outer, innermost, blocks_at}
use Rattle.sd_lex.specs.declared.token.Token.{Token}
use Rattle.sd_lex.specs.declared.token.TokenKind.{TokenKind}
use Rattle.sd_lex.specs.declared.token.TokenKind.TheVariants.{Indent, Dedent}

-- a list from behind, with its last element first
pub turned : (rest : List ℕ) (last : ℕ) → reverse (rest ++ last ∷ []) ≡ last ∷ reverse rest
turned rest last = reverse-append rest (last ∷ [])

-- a block that is wider than the line is none of those that stay open
pub outer-closes : (width : ℕ) (all rest : List ℕ) (popped : Option ℕ) → width < innermost (reverse all) → all ≡ rest ++ option_to_list popped → outer width (reverse rest) ≡ outer width (reverse all)
outer-closes width all rest None wider split = ap (λ widths. outer width (reverse widths)) (sym (split ∙ append-nil rest))
outer-closes width all rest (Some last) wider split =
    let is : reverse all ≡ last ∷ reverse rest = ap reverse split ∙ turned rest last in
    let inner : innermost (reverse all) ≡ last = ap innermost is in
    let test : nat_lt width last ≡ true = lt-ltb width last (omega (arith, inner)) in
    sym (ap (outer width) is ∙ rw test refl)

-- where the innermost block has a width there is one
pub some_open : (width : ℕ) (widths : List ℕ) → width < innermost (reverse widths) → 0 < length widths
some_open width [] wider = absurd (omega arith)
some_open width (inner ∷ widths) wider = omega arith

-- one mark more
pub marks-more : {X : Type 0} (marks : List X) (mark : X) (closed more : ℕ) → more ≡ closed + 1 → (marks ++ replicate closed mark) ++ mark ∷ [] ≡ marks ++ replicate more mark
marks-more marks mark closed more is = append_assoc marks (replicate closed mark) (mark ∷ []) ∙ ap (λ more. marks ++ more) (replicate_more closed mark ∙ ap (λ n. replicate n mark) (sym is))

-- a pop of what has an element takes one
pub one_fewer : (popped : Option ℕ) (before after : ℕ) → 0 < before → MatchOption popped ((before ≡ 0) × (after ≡ 0)) (λ _. after + 1 ≡ before) → after + 1 ≡ before
one_fewer None before after some cases = absurd (omega arith)
one_fewer (Some last) before after some cases = cases

map-replicate : {X Y : Type 0} (f : X → Y) (count : ℕ) (x : X) → map f (replicate count x) ≡ replicate count (f x)
map-replicate f zero x = refl
map-replicate f (suc count) x = ap (λ rest. f x ∷ rest) (map-replicate f count x)

is_false : (a b : ℕ) → a ≢ b → nat_eq a b ≡ false
is_false a b differ = grind (arith, nat_tests, differ)

is_true : (a b : ℕ) → a ≡ b → nat_eq a b ≡ true
is_true a b same = grind (arith, nat_tests, same)

module _ (as_token : TokenKind → Token) (tokens closed : List Token) (width : ℕ) (widths kept : List ℕ) (before after : ℕ)
    (kept_is : kept ≡ outer width widths) (before_is : before ≡ length widths) (after_is : after ≡ length kept) (marks : closed ≡ tokens ++ replicate (before - after) (as_token Dedent)) where
  -- a line of the width of an open block closes the blocks inside
  pub blocks-stay : innermost kept ≡ width → IfSome (blocks_at width widths) (λ blocks. (kept ≡ blocks.widths) × (closed ≡ tokens ++ map as_token blocks.marks))
  blocks-stay same =
      let test : nat_eq (innermost (outer width widths)) width ≡ true = is_true _ _ (ap innermost (sym kept_is) ∙ same) in
      let count : before - after ≡ length widths - length (outer width widths) = omega (arith, before_is, after_is, ap length kept_is) in
      let all : closed ≡ tokens ++ map as_token (replicate (length widths - length (outer width widths)) Dedent) =
      marks ∙ ap (λ more. tokens ++ more) (ap (λ n. replicate n (as_token Dedent)) count ∙ sym (map-replicate as_token _ Dedent)) in
      rw test (kept_is, all)

  -- a line that is wider than all open blocks opens one
  pub blocks-open : innermost kept ≢ width → after ≡ before → (opened : List ℕ) → opened ≡ width ∷ kept → (all : List Token) → all ≡ closed ++ as_token Indent ∷ [] →
      IfSome (blocks_at width widths) (λ blocks. (opened ≡ blocks.widths) × (all ≡ tokens ++ map as_token blocks.marks))
  blocks-open differ same opened opened_is all all_is =
      let test : nat_eq (innermost (outer width widths)) width ≡ false = is_false _ _ (λ e. differ (ap innermost kept_is ∙ e)) in
      let none : nat_eq (length (outer width widths)) (length widths) ≡ true = is_true _ _ (sym (ap length kept_is) ∙ sym after_is ∙ same ∙ before_is) in
      let no_mark : before - after ≡ 0 = omega (arith, same) in
      let as_before : closed ≡ tokens = marks ∙ ap (λ n. tokens ++ replicate n (as_token Dedent)) no_mark ∙ append-nil tokens in
      let all_are : all ≡ tokens ++ as_token Indent ∷ [] = all_is ∙ ap (λ ts. ts ++ as_token Indent ∷ []) as_before in
      rw (test, none) (opened_is ∙ ap (λ ws. width ∷ ws) kept_is, all_are)

-- a vector has as many elements from behind
pub as_many : (widths : Vec ℕ Global) → vec_len widths ≡ length (reverse widths.items)
as_many widths = widths.ok.0 ∙ sym (length-reverse widths.items)
