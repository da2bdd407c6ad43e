-- Three operands with two operators between them, by the ranks of the operators.
use Rattle.std.proofs.Common.{arith, ◌≡◌, refl, ap, sym, ◌∙◌, ◌≤◌, ◌<◌, length, ℕ, suc, ◌+◌, List, ◌∷◌, ◌++◌, append_assoc, take, drop, Bool, true, false}
use Rattle.std.specs.Prelude.{Some, ◌&&◌, nat_lt, if◌then◌else◌}
use Rattle.std.proofs.lemmas.Bool.Decides.{nat_tests}
use Rattle.sd_lex.specs.PlainTree.{Expression, two}
use Rattle.sd_lex.specs.declared.syntax.operator.TwoSign.{TwoSign}
use Rattle.sd_lex.specs.declared.syntax.operator.TwoSign.TheVariants.{Or, Less, LessEqual, Greater, GreaterEqual, Equal, Differ, Min, Max}
use Rattle.sd_phrase.specs.declared.reading.Reading.TheVariants.{NoForm, Form}
use Rattle.sd_phrase.specs.declared.word.Piece.{Piece}
use Rattle.sd_phrase.specs.declared.word.Sign.TheVariants.{Two}
use Rattle.sd_phrase.specs.Readings.{both}
use Rattle.sd_phrase.specs.Signs.{rank_of_two, cut_of}
use Rattle.sd_phrase.specs.ExpressionReading.{rank_on_left, at_sign, reads_by, own_subscripts, reads, expression}
use Rattle.sd_phrase.specs.Printing.{word_between, is_call}
use Rattle.sd_phrase.specs.Grammar.{is_comparison, rank_before, Written, written_two, grouped}
use Rattle.sd_phrase.proofs.OperandLemmas.{place}
use Rattle.sd_phrase.proofs.LevelLemmas.{with_level, two_read}
use Rattle.sd_phrase.proofs.RankLemmas.{not_looser_than, two_stays, loose_two_cuts, sign_cut, cut_whole}
use Rattle.sd_phrase.proofs.WrittenTokens.{between_word, written_under}
use Rattle.sd_phrase.proofs.WrittenCuts.{two_cut, written_alone}
use Rattle.sd_phrase.proofs.WrittenReads.{written_reads}
use Rattle.sd_phrase.proofs.WrittenOnce.{written_wider}

infix_rank : (sign : TwoSign) → is_call sign ≡ false → rank_of_two sign ≤ 10
infix_rank Min h = cc
infix_rank Max h = cc
infix_rank sign h = omega arith

rank_before_most : (sign : TwoSign) → is_call sign ≡ false → rank_before sign ≤ 12
rank_before_most Min h = cc
rank_before_most Max h = cc
rank_before_most sign h = omega arith

comparison_rank : (sign : TwoSign) → is_comparison sign ≡ true → rank_of_two sign ≡ 5
comparison_rank Less h = refl
comparison_rank LessEqual h = refl
comparison_rank Greater h = refl
comparison_rank GreaterEqual h = refl
comparison_rank Equal h = refl
comparison_rank Differ h = refl
comparison_rank sign h = cc

no_comparison_rank : (sign : TwoSign) → is_comparison sign ≡ false → 5 ≤ rank_of_two sign → 6 ≤ rank_of_two sign
no_comparison_rank Less h l = cc
no_comparison_rank LessEqual h l = cc
no_comparison_rank Greater h l = cc
no_comparison_rank GreaterEqual h l = cc
no_comparison_rank Equal h l = cc
no_comparison_rank Differ h l = cc
no_comparison_rank sign h l = omega arith

no_both : (a b : Bool) → (a && b) ≡ false → b ≡ true → a ≡ false
no_both true true h e = cc
no_both true false h e = cc
no_both false b h e = refl

first_of_both : (a b : Bool) → (a && b) ≡ true → a ≡ true
first_of_both true b h = refl
first_of_both false true h = cc
first_of_both false false h = cc

second_of_both : (a b : Bool) → (a && b) ≡ true → b ≡ true
second_of_both true true h = refl
second_of_both true false h = cc
second_of_both false true h = refl
second_of_both false false h = cc

-- what may stand before the second operator where it is as loose as the first
left_rank : (first second : TwoSign) → rank_of_two second ≤ rank_of_two first → (is_comparison first && is_comparison second) ≡ false → rank_before second ≤ rank_of_two first
left_rank first second l h = go (is_comparison second) refl
  where
    go : (b : Bool) → is_comparison second ≡ b → (if b then rank_of_two second + 1 else rank_of_two second) ≤ rank_of_two first
    go true e =
        let five : rank_of_two second ≡ 5 = comparison_rank second e in
        let six : 6 ≤ rank_of_two first = no_comparison_rank first (no_both (is_comparison first) (is_comparison second) h e) (omega arith) in
        omega arith
    go false e = l

less_from : (a b : ℕ) → nat_lt a b ≡ true → a < b
less_from a b h = grind (arith, nat_tests)

not_less_from : (a b : ℕ) → nat_lt a b ≡ false → b ≤ a
not_less_from a b h = grind (arith, nat_tests)

one_below : (sign : TwoSign) → 1 ≤ rank_of_two sign
one_below Or = omega arith
one_below sign = omega arith

pub grouped_reads : (text : List ℕ) (in_body : Bool) (levels : ℕ) (first second : TwoSign) (a b c : Expression) (front middle back : List Piece) (t u : Piece) →
    is_call first ≡ false → is_call second ≡ false → Written text in_body levels 12 a front → t.word ≡ word_between first → Written text in_body levels 12 b middle →
    u.word ≡ word_between second → Written text in_body levels 12 c back →
    expression text in_body (suc (suc levels)) (front ++ t ∷ (middle ++ u ∷ back)) ≡ grouped first second a b c
grouped_reads text in_body levels first second a b c front middle back t u i j x e y f z = pick (nat_lt (rank_of_two first) (rank_of_two second)) (is_comparison first && is_comparison second) refl refl
  where
    left_tokens : (front ++ t ∷ middle) ++ u ∷ back ≡ front ++ t ∷ (middle ++ u ∷ back)
    left_tokens = append_assoc front (t ∷ middle) (u ∷ back)

    front_at : (more rank : ℕ) → levels ≤ more → rank ≤ 12 → Written text in_body more rank a front
    front_at more rank h k = written_wider text in_body levels 12 a front x more rank h k

    middle_at : (more rank : ℕ) → levels ≤ more → rank ≤ 12 → Written text in_body more rank b middle
    middle_at more rank h k = written_wider text in_body levels 12 b middle y more rank h k

    back_at : (more rank : ℕ) → levels ≤ more → rank ≤ 12 → Written text in_body more rank c back
    back_at more rank h k = written_wider text in_body levels 12 c back z more rank h k

    first_most : rank_of_two first + 1 ≤ 12
    first_most = let k = infix_rank first i in omega arith

    second_most : rank_of_two second + 1 ≤ 12
    second_most = let k = infix_rank second j in omega arith

    joined : (rank : ℕ) → rank ≤ rank_of_two first → Written text in_body (suc levels) rank (two first a b) (front ++ t ∷ middle)
    joined rank h =
        written_two in_body levels rank first a b front middle t i h (front_at levels (rank_before first) (omega arith) (rank_before_most first i)) e
        (middle_at levels (rank_of_two first + 1) (omega arith) first_most)

    right_first : rank_of_two first < rank_of_two second → expression text in_body (suc (suc levels)) (front ++ t ∷ (middle ++ u ∷ back)) ≡ Form (two first a (two second b c))
    right_first l =
        written_reads text in_body (suc (suc levels)) 1 (two first a (two second b c)) (front ++ t ∷ (middle ++ u ∷ back))
        (written_two in_body (suc levels) 1 first a (two second b c) front (middle ++ u ∷ back) t i (one_below first)
        (front_at (suc levels) (rank_before first) (omega arith) (rank_before_most first i)) e
        (written_two in_body levels (rank_of_two first + 1) second b c middle back u j (omega arith)
        (middle_at levels (rank_before second) (omega arith) (rank_before_most second j)) f (back_at levels (rank_of_two second + 1) (omega arith) second_most)))

    left_first : rank_before second ≤ rank_of_two first → expression text in_body (suc (suc levels)) (front ++ t ∷ (middle ++ u ∷ back)) ≡ Form (two second (two first a b) c)
    left_first l =
        ap (λ ts. expression text in_body (suc (suc levels)) ts) (sym left_tokens)
        ∙ written_reads text in_body (suc (suc levels)) 1 (two second (two first a b) c) ((front ++ t ∷ middle) ++ u ∷ back)
        (written_two in_body (suc levels) 1 second (two first a b) c (front ++ t ∷ middle) back u j (one_below second) (joined (rank_before second) l) f
        (back_at (suc levels) (rank_of_two second + 1) (omega arith) second_most))

    first_cut : cut_of (front ++ t ∷ middle) ≡ Some (place (length front) (Two first))
    first_cut =
        cut_whole (length front) (Two first) (front ++ t ∷ middle)
        (two_cut first front middle t (written_alone text in_body levels (rank_before first) a front (front_at levels (rank_before first) (omega arith) (rank_before_most first i))) e
        (written_under text in_body levels (rank_of_two first + 1) b middle (middle_at levels (rank_of_two first + 1) (omega arith) first_most)))

    second_cut : rank_of_two second ≤ rank_of_two first → cut_of ((front ++ t ∷ middle) ++ u ∷ back) ≡ Some (place (length (front ++ t ∷ middle)) (Two second))
    second_cut l =
        cut_whole (length (front ++ t ∷ middle)) (Two second) ((front ++ t ∷ middle) ++ u ∷ back)
        (sign_cut (rank_of_two second) (rank_of_two second + 1) (front ++ t ∷ middle) back u (Two second) (loose_two_cuts second) (two_stays second)
        (written_alone text in_body (suc levels) (rank_of_two second) (two first a b) (front ++ t ∷ middle) (joined (rank_of_two second) l)) (between_word u second f)
        (written_under text in_body levels (rank_of_two second + 1) c back (back_at levels (rank_of_two second + 1) (omega arith) second_most)))

    no_chain : rank_of_two second ≡ 5 → rank_of_two first ≡ 5 → reads text in_body (suc levels) (rank_on_left (rank_of_two second)) (front ++ t ∷ middle) ≡ NoForm
    no_chain p q =
        let own = own_subscripts text in_body in
        let looser : nat_lt (rank_of_two first) (rank_on_left (rank_of_two second)) ≡ true = ap (λ n. nat_lt n (rank_on_left (rank_of_two second))) q ∙ ap (λ n. nat_lt 5 (rank_on_left n)) p in
        let ts = front ++ t ∷ middle in
        with_level text own levels (rank_on_left (rank_of_two second)) ts (Some (place (length front) (Two first))) first_cut
        ∙ ap (λ b. if b then NoForm else at_sign (reads_by text own levels) (Two first) (take (length front) ts) (drop (length front + 1) ts)) looser

    comparisons : rank_of_two second ≡ 5 → rank_of_two first ≡ 5 → expression text in_body (suc (suc levels)) (front ++ t ∷ (middle ++ u ∷ back)) ≡ NoForm
    comparisons p q =
        ap (λ ts. expression text in_body (suc (suc levels)) ts) (sym left_tokens)
        ∙ two_read text (own_subscripts text in_body) (suc levels) 1 second (front ++ t ∷ middle) back u (not_looser_than (rank_of_two second) 1 (one_below second)) (second_cut (omega arith))
        ∙ ap (λ r. both (two second) r (reads text in_body (suc levels) (rank_of_two second + 1) back)) (no_chain p q)

    pick : (p q : Bool) → nat_lt (rank_of_two first) (rank_of_two second) ≡ p → (is_comparison first && is_comparison second) ≡ q →
        expression text in_body (suc (suc levels)) (front ++ t ∷ (middle ++ u ∷ back)) ≡ (if p then Form (two first a (two second b c)) else (if q then NoForm else Form (two second (two first a b) c)))
    pick true q l h = right_first (less_from (rank_of_two first) (rank_of_two second) l)
    pick false true l h =
        comparisons (comparison_rank second (second_of_both (is_comparison first) (is_comparison second) h)) (comparison_rank first (first_of_both (is_comparison first) (is_comparison second) h))
    pick false false l h = left_first (left_rank first second (not_less_from (rank_of_two first) (rank_of_two second) l) h)
