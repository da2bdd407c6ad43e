-- Tokens whose brackets close only what they open are passed over inside brackets: by the search for a sign, for a closing bracket and for commas.
use Rattle.std.proofs.Common.{arith, ◌≡◌, refl, ap, sym, ◌∙◌, length, ℕ, ◌+◌, ◌-◌, ◌<◌, List, [], ◌∷◌, ◌++◌, Bool, true, false, subst}
use Rattle.std.specs.Prelude.{Option, Some, None, if◌then◌else◌, nat_eq}
use Rattle.std.proofs.lemmas.Bool.Decides.{nat_tests}
use Rattle.sd_phrase.specs.declared.word.Bracket.{Bracket}
use Rattle.sd_phrase.specs.declared.word.Mark.TheVariants.{Comma}
use Rattle.sd_phrase.specs.declared.word.Piece.{Piece}
use Rattle.sd_phrase.specs.declared.word.Place.{Place}
use Rattle.sd_phrase.specs.declared.word.Sign.{Sign}
use Rattle.sd_phrase.specs.declared.word.Word.{Word}
use Rattle.sd_phrase.specs.declared.word.Word.TheVariants.{Open, Close}
use Rattle.sd_phrase.specs.Signs.{cut_from, better, better_outside, depth_after, ends, sign_of}
use Rattle.sd_phrase.specs.Parts.{is_mark, parts_from, parted, onto_first, closing_from}

-- the tokens close only those brackets that they open, and so many more
abbrev pub Keeps : (own : ℕ) → List Piece → Type 0
Keeps own [] = own ≡ 0
Keeps own (t ∷ ts) = (0 < depth_after t.word (own + 1)) × Keeps (depth_after t.word (own + 1) - 1) ts

-- a list of parts whose first part has these tokens before it
abbrev pub led_by : List Piece → List (List Piece) → List (List Piece)
led_by [] ps = ps
led_by (t ∷ ts) ps = onto_first t (led_by ts ps)

-- one token among others that are open
pub depth_shift : (w : Word) (own base depth : ℕ) → depth ≡ own + base → 0 < base → 0 < depth_after w (own + 1) →
    depth_after w depth ≡ (depth_after w (own + 1) - 1) + base
depth_shift (Open b) own base depth e h k = omega arith
depth_shift (Close b) own base depth e h k = omega arith
depth_shift w own base depth e h k = omega arith

pub not_zero : (d : ℕ) → 0 < d → nat_eq d 0 ≡ false
not_zero d h = grind (arith, nat_tests)

pub inside_keeps_best : (depth at : ℕ) (best : Option Place) (s : Option Sign) → 0 < depth → better_outside depth best at s ≡ best
inside_keeps_best depth at best s h = ap (λ b. if b then better best at s else best) (not_zero depth h)

pub no_sign_keeps_best : (depth at : ℕ) (best : Option Place) → better_outside depth best at None ≡ best
no_sign_keeps_best depth at best = pick (nat_eq depth 0)
  where
    pick : (b : Bool) → (if b then better best at None else best) ≡ best
    pick true = refl
    pick false = refl

pub cut_passes_inside : (ts rest : List Piece) (own base depth at : ℕ) (after : Bool) (best : Option Place) → depth ≡ own + base → 0 < base → Keeps own ts →
    (after' : Bool) × (cut_from depth after at best (ts ++ rest) ≡ cut_from base after' (at + length ts) best rest)
cut_passes_inside [] rest own base depth at after best e h k =
    let d : depth ≡ base = omega arith in
    let a : at ≡ at + 0 = omega arith in
    (after, ap (λ n. cut_from n after at best rest) d ∙ ap (λ n. cut_from base after n best rest) a)
cut_passes_inside (t ∷ ts) rest own base depth at after best e h k =
    let more = cut_passes_inside ts rest (depth_after t.word (own + 1) - 1) base (depth_after t.word depth) (at + 1) (ends t.word) best (depth_shift t.word own base depth e h k.0) h k.1 in
    let a : at + 1 + length ts ≡ at + length (t ∷ ts) = omega arith in (
      more.0,
      ap (λ (b : Option Place). cut_from (depth_after t.word depth) (ends t.word) (at + 1) b (ts ++ rest)) (inside_keeps_best depth at best (sign_of t.word after) (omega arith))
          ∙ more.1 ∙ ap (λ n. cut_from base more.0 n best rest) a,
    )

pub closing_passes_inside : (ts rest : List Piece) (own base depth at : ℕ) → depth ≡ own + base → 0 < base → Keeps own ts →
    closing_from depth at (ts ++ rest) ≡ closing_from base (at + length ts) rest
closing_passes_inside [] rest own base depth at e h k =
    let d : depth ≡ base = omega arith in
    let a : at ≡ at + 0 = omega arith in
    ap (λ n. closing_from n at rest) d ∙ ap (λ n. closing_from base n rest) a
closing_passes_inside (t ∷ ts) rest own base depth at e h k =
    let s = depth_shift t.word own base depth e h k.0 in
    let p : 0 < depth_after t.word depth = omega arith in
    let a : at + 1 + length ts ≡ at + length (t ∷ ts) = omega arith in
    ap (λ b. if b then Some at else closing_from (depth_after t.word depth) (at + 1) (ts ++ rest)) (not_zero (depth_after t.word depth) p)
    ∙ closing_passes_inside ts rest (depth_after t.word (own + 1) - 1) base (depth_after t.word depth) (at + 1) s h k.1 ∙ ap (λ n. closing_from base n rest) a

pub commas_pass_inside : (ts rest : List Piece) (own base depth : ℕ) → depth ≡ own + base → 0 < base → Keeps own ts →
    parts_from Comma depth (ts ++ rest) ≡ led_by ts (parts_from Comma base rest)
commas_pass_inside [] rest own base depth e h k =
    let d : depth ≡ base = omega arith in
    ap (λ n. parts_from Comma n rest) d
commas_pass_inside (t ∷ ts) rest own base depth e h k =
    let p : 0 < depth = omega arith in
    ap (λ b. parted (if b then is_mark Comma t.word else false) t (parts_from Comma (depth_after t.word depth) (ts ++ rest))) (not_zero depth p)
    ∙ ap (onto_first t) (commas_pass_inside ts rest (depth_after t.word (own + 1) - 1) base (depth_after t.word depth) (depth_shift t.word own base depth e h k.0) h k.1)

pub keeps_both : (xs ys : List Piece) (own : ℕ) → Keeps own xs → Keeps 0 ys → Keeps own (xs ++ ys)
keeps_both [] ys own k l = subst (λ n. Keeps n ys) (sym k) l
keeps_both (t ∷ xs) ys own k l = (k.0, keeps_both xs ys (depth_after t.word (own + 1) - 1) k.1 l)

-- what is open besides is closed behind them
pub keeps_closed : (b : Bracket) (xs : List Piece) (closing : Piece) (own outer : ℕ) → outer ≡ own + 1 → closing.word ≡ Close b → Keeps own xs → Keeps outer (xs ++ closing ∷ [])
keeps_closed b [] closing own outer o e k =
    let d : depth_after closing.word (outer + 1) ≡ outer + 1 - 1 = ap (λ w. depth_after w (outer + 1)) e in
    (omega arith, omega arith)
keeps_closed b (t ∷ xs) closing own outer o e k =
    let d = depth_shift t.word own 2 (outer + 1) (omega arith) (omega arith) k.0 in
    (omega arith, keeps_closed b xs closing (depth_after t.word (own + 1) - 1) (depth_after t.word (outer + 1) - 1) (omega arith) e k.1)

pub keeps_brackets : (b c : Bracket) (opening closing : Piece) (inside : List Piece) → opening.word ≡ Open b → closing.word ≡ Close c → Keeps 0 inside → Keeps 0 (opening ∷ inside ++ closing ∷ [])
keeps_brackets b c opening closing inside e f k =
    let d : depth_after opening.word 1 ≡ 2 = ap (λ w. depth_after w 1) e in
    (omega arith, keeps_closed c inside closing 0 (depth_after opening.word 1 - 1) (omega arith) f k)
