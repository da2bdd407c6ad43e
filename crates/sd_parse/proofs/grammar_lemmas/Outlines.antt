-- Which lines of an outline stand deeper, and which behind those.
use Rattle.std.proofs.Common.{◌≡◌, ◌∙◌, ◌≤◌, ◌<◌, ℕ, suc, ◌+◌, ◌-◌, List, [], ◌∷◌, nat_eq, nat_lt, Bool, true, false, ◌||◌, ◌&&◌, if◌then◌else◌, refl, ap, sym, arith}
use Rattle.std.proofs.lemmas.Bool.{eqb-true, eqb-false, ltb-true, ltb-false, eq-eqb, ne_eqb, lt-ltb, le-ltb}
use Rattle.sd_line.specs.lines.Lines.{Line, connects_from}
use Rattle.sd_parse.specs.grammar.Outline.{Outline, no_line, and_line, deeper, outside, depth_of, outline, connects_among}

module _ (depth at : ℕ) (line : Line) (below behind : Outline) where
  pub deeper_in : depth < at → deeper depth (and_line at line below behind) ≡ and_line at line below (deeper depth behind)
  deeper_in more = rw (lt-ltb depth at more) refl

  pub deeper_out : at ≤ depth → deeper depth (and_line at line below behind) ≡ no_line
  deeper_out less = rw (le-ltb depth at less) refl

  pub outside_in : depth < at → outside depth (and_line at line below behind) ≡ outside depth behind
  outside_in more = rw (lt-ltb depth at more) refl

  pub outside_out : at ≤ depth → outside depth (and_line at line below behind) ≡ and_line at line below behind
  outside_out less = rw (le-ltb depth at less) refl

-- behind the deeper lines of a deeper depth
pub outside_twice : (depth more : ℕ) (lines : Outline) → depth ≤ more → outside depth (outside more lines) ≡ outside depth lines
outside_twice depth more no_line less = refl
outside_twice depth more (and_line at line below behind) less = by_test (nat_lt more at) refl (outside_twice depth more behind less) where
  by_test : (test : Bool) → nat_lt more at ≡ test → outside depth (outside more behind) ≡ outside depth behind → outside depth (if test then outside more behind else and_line at line below behind) ≡ outside depth (and_line at line below behind)
  by_test true is same = same ∙ sym (outside_in depth at line below behind (omega (arith, less, ltb-true more at is)))
  by_test false is same = refl

-- ---- connector lines

-- a block that stands at this depth has a connector line of its own among these lines
abbrev pub connects_at : (depth : ℕ) → Outline → Bool
connects_at depth lines = connects_among (deeper depth (outside (suc depth) lines))

-- a line of another block, or one of the block
connects_by : (depth at : ℕ) (line : Line) (rest : Outline) → connects_at depth (and_line at line (deeper at rest) (outside at rest)) ≡
    (if nat_lt at (suc depth) then false else (nat_eq at (suc depth) && line.connects || connects_at depth rest))
connects_by depth at line rest = by_less (nat_lt at (suc depth)) refl where
  all : Outline
  all = and_line at line (deeper at rest) (outside at rest)

  own : nat_eq at (suc depth) ≡ true → connects_at depth all ≡ line.connects || connects_at depth rest
  own is =
      let same = eqb-true at (suc depth) is in
      ap (λ lines. connects_among (deeper depth lines)) (outside_out (suc depth) at line (deeper at rest) (outside at rest) (omega (arith, same)))
      ∙ ap connects_among (deeper_in depth at line (deeper at rest) (outside at rest) (omega (arith, same)))
      ∙ ap (λ at. line.connects || connects_among (deeper depth (outside at rest))) same

  inner : nat_lt at (suc depth) ≡ false → nat_eq at (suc depth) ≡ false → connects_at depth all ≡ connects_at depth rest
  inner not_less other =
      let more : suc depth < at = omega (arith, ltb-false at (suc depth) not_less, eqb-false at (suc depth) other) in
      ap (λ lines. connects_among (deeper depth lines)) (outside_in (suc depth) at line (deeper at rest) (outside at rest) more ∙ outside_twice (suc depth) at rest (omega (arith, more)))

  by_same : nat_lt at (suc depth) ≡ false → (same : Bool) → nat_eq at (suc depth) ≡ same → connects_at depth all ≡ (same && line.connects || connects_at depth rest)
  by_same less true is = own is
  by_same less false is = inner less is

  by_less : (less : Bool) → nat_lt at (suc depth) ≡ less → connects_at depth all ≡ (if less then false else (nat_eq at (suc depth) && line.connects || connects_at depth rest))
  by_less true is =
      let less = ltb-true at (suc depth) is in
      ap (λ lines. connects_among (deeper depth lines)) (outside_out (suc depth) at line (deeper at rest) (outside at rest) (omega (arith, less)))
      ∙ ap connects_among (deeper_out depth at line (deeper at rest) (outside at rest) (omega (arith, less)))
  by_less false is = by_same is (nat_eq at (suc depth)) refl

-- the depth of a line behind one with so many inner blocks
depth_is : (depth inner : ℕ) (line : Line) → depth_of (suc depth + inner) line ≡ suc depth + (if line.opens then inner + 1 else inner) - line.closes
depth_is depth inner line = by_opens line.opens where
  by_opens : (opens : Bool) → (if opens then suc depth + inner + 1 else suc depth + inner) - line.closes ≡ suc depth + (if opens then inner + 1 else inner) - line.closes
  by_opens true = omega arith
  by_opens false = refl

-- those of a block, where so many inner blocks are open
pub connects_are : (depth inner : ℕ) (rest : List Line) → connects_at depth (outline (suc depth + inner) rest) ≡ connects_from inner rest
connects_are depth inner [] = refl
connects_are depth inner (line ∷ rest) = by_now (if line.opens then inner + 1 else inner) (depth_is depth inner line) (λ n. connects_are depth n rest) where
  by_now : (now : ℕ) → depth_of (suc depth + inner) line ≡ suc depth + now - line.closes → ((n : ℕ) → connects_at depth (outline (suc depth + n) rest) ≡ connects_from n rest) →
      connects_at depth (outline (suc depth + inner) (line ∷ rest)) ≡ (if nat_lt now line.closes then false else (nat_eq now line.closes && line.connects) || connects_from (now - line.closes) rest)
  by_now now is later = connects_by depth (depth_of (suc depth + inner) line) line (outline (depth_of (suc depth + inner) line) rest) ∙ by_less (depth_of (suc depth + inner) line) is (nat_lt now line.closes) refl where
    same_test : (at : ℕ) → at ≡ suc depth + (now - line.closes) → line.closes ≤ now → nat_eq at (suc depth) ≡ nat_eq now line.closes
    same_test at is less = by_same (nat_eq now line.closes) refl where
      by_same : (same : Bool) → nat_eq now line.closes ≡ same → nat_eq at (suc depth) ≡ same
      by_same true same = eq-eqb at (suc depth) (omega (arith, is, eqb-true now line.closes same))
      by_same false other = ne_eqb at (suc depth) (λ same. eqb-false now line.closes other (omega (arith, is, less, same)))

    by_less : (at : ℕ) → at ≡ suc depth + now - line.closes → (less : Bool) → nat_lt now line.closes ≡ less →
        (if nat_lt at (suc depth) then false else (nat_eq at (suc depth) && line.connects || connects_at depth (outline at rest))) ≡ (if less then false else (nat_eq now line.closes && line.connects) || connects_from (now - line.closes) rest)
    by_less at is true less = ap (λ b. if b then false else (nat_eq at (suc depth) && line.connects || connects_at depth (outline at rest))) (lt-ltb at (suc depth) (omega (arith, is, ltb-true now line.closes less)))
    by_less at is false more =
        let least : line.closes ≤ now = ltb-false now line.closes more in
        let deep : at ≡ suc depth + (now - line.closes) = omega (arith, is, least) in
        ap (λ b. if b then false else (nat_eq at (suc depth) && line.connects || connects_at depth (outline at rest))) (le-ltb at (suc depth) (omega (arith, deep)))
        ∙ ap (λ b. b && line.connects || connects_at depth (outline at rest)) (same_test at deep least)
        ∙ ap (λ b. nat_eq now line.closes && line.connects || b) (ap (λ at. connects_at depth (outline at rest)) deep ∙ later (now - line.closes))
