-- One step of the search for a mark.
use Rattle.std.proofs.Common.{arith, get_or, ◌≡◌, refl, ap, sym, ◌∙◌, ◌≤◌, length, ℕ, ◌+◌, ◌-◌, ◌<◌, List, [], ◌∷◌, drop, take, length-drop, ◌++◌, append_assoc, append-nil, take_all, Bool, true, false, subst}
use Rattle.std.specs.Prelude.{Some, None, if◌then◌else◌, nat_eq}
use Rattle.std.proofs.lemmas.Bool.Decides.{nat_tests}
use Rattle.std.proofs.lemmas.Grind.{common_steps}
use Rattle.sd_phrase.specs.declared.word.Mark.{Mark}
use Rattle.sd_phrase.specs.declared.word.Mark.TheVariants.{Comma, Colon, Assign, AddAssign}
use Rattle.sd_phrase.specs.declared.word.Piece.{Piece}
use Rattle.sd_phrase.specs.declared.word.Word.{Word}
use Rattle.sd_phrase.specs.declared.word.Word.TheVariants.{Open, Close}
use Rattle.sd_phrase.specs.Signs.{depth_after}
use Rattle.sd_phrase.specs.Parts.{is_mark, is_mark_outside, parts_from, parts_of, parted, onto_first, mark_from, few, more_parts}
use Rattle.sd_phrase.proofs.PieceLemmas.{rest_at, take_more}

closed_here : (depth : ℕ) → nat_eq depth 0 ≡ true → depth ≡ 0
closed_here depth h = grind (arith, nat_tests)

mark_keeps : (mark : Mark) (w : Word) (depth : ℕ) → is_mark mark w ≡ true → depth_after w depth ≡ depth
mark_keeps Comma (Open b) d h = cc
mark_keeps Comma (Close b) d h = cc
mark_keeps Colon (Open b) d h = cc
mark_keeps Colon (Close b) d h = cc
mark_keeps Assign (Open b) d h = cc
mark_keeps Assign (Close b) d h = cc
mark_keeps AddAssign (Open b) d h = cc
mark_keeps AddAssign (Close b) d h = cc
mark_keeps mark w d h = refl

mark_depth : (mark : Mark) (depth : ℕ) (w : Word) → is_mark_outside mark depth w ≡ true → depth_after w depth ≡ 0
mark_depth mark depth w h = go (nat_eq depth 0) refl h
  where
    go : (b : Bool) → nat_eq depth 0 ≡ b → (if b then is_mark mark w else false) ≡ true → depth_after w depth ≡ 0
    go true e h = mark_keeps mark w depth h ∙ closed_here depth e
    go false e h = cc

-- the parts where p stands before the first of them
abbrev pub behind : List Piece → List (List Piece) → List (List Piece)
behind p [] = p ∷ []
behind p (q ∷ qs) = (p ++ q) ∷ qs

behind_onto : (p : List Piece) (t : Piece) (ps : List (List Piece)) → behind p (onto_first t ps) ≡ behind (p ++ t ∷ []) ps
behind_onto p t [] = refl
behind_onto p t (q ∷ qs) = ap (λ r. r ∷ qs) (sym (append_assoc p (t ∷ []) q))

abbrev pub is_full : List (List Piece) → Bool
is_full [] = false
is_full (q ∷ qs) = true

full_parted : (b : Bool) (t : Piece) (ps : List (List Piece)) → is_full (parted b t ps) ≡ true
full_parted true t ps = refl
full_parted false t [] = refl
full_parted false t (q ∷ qs) = refl

pub parts_full : (mark : Mark) (d : ℕ) (ts : List Piece) → is_full (parts_from mark d ts) ≡ true
parts_full mark d [] = refl
parts_full mark d (t ∷ ts) = full_parted (is_mark_outside mark d t.word) t (parts_from mark (depth_after t.word d) ts)

pub parts_start : (mark : Mark) (ts : List Piece) → parts_of mark ts ≡ behind [] (parts_from mark 0 ts)
parts_start mark ts = go (parts_from mark 0 ts) (parts_full mark 0 ts)
  where
    go : (ps : List (List Piece)) → is_full ps ≡ true → ps ≡ behind [] ps
    go [] h = cc
    go (q ∷ qs) h = refl

pub parts_end : (mark : Mark) (depth at : ℕ) (ts : List Piece) → length ts ≤ at → behind (take at ts) (parts_from mark depth (drop at ts)) ≡ ts ∷ []
parts_end mark depth at ts h = rw (take_all at ts h, drop_none ts at h) (ap (λ r. r ∷ []) (append-nil ts))
  where
    drop_none : (ts : List Piece) (at : ℕ) → length ts ≤ at → drop at ts ≡ []
    drop_none ts at h = grind (arith, common_steps)

pub parts_pass : (mark : Mark) (depth at : ℕ) (ts : List Piece) (t : Piece) (w : Word) (depth' : ℕ) →
    at < length ts → w ≡ (get_or ts at t).word → is_mark_outside mark depth w ≡ false → depth' ≡ depth_after w depth →
    behind (take at ts) (parts_from mark depth (drop at ts)) ≡ behind (take (at + 1) ts) (parts_from mark depth' (drop (at + 1) ts))
parts_pass mark depth at ts t w depth' h ew eh ed =
    let eh' : is_mark_outside mark depth (get_or ts at t).word ≡ false = subst (λ v. is_mark_outside mark depth v ≡ false) ew eh in
    rw (rest_at ts at t h, ed, ew, eh') (behind_onto (take at ts) (get_or ts at t) _ ∙ ap (λ p. behind p (parts_from mark (depth_after (get_or ts at t).word depth) (drop (at + 1) ts))) (sym (take_more ts at t h)))

pub parts_stop : (mark : Mark) (depth at : ℕ) (ts : List Piece) (t : Piece) (w : Word) →
    at < length ts → w ≡ (get_or ts at t).word → is_mark_outside mark depth w ≡ true →
    behind (take at ts) (parts_from mark depth (drop at ts)) ≡ take at ts ∷ parts_of mark (drop (at + 1) ts)
parts_stop mark depth at ts t w h ew eh =
    let eh' : is_mark_outside mark depth (get_or ts at t).word ≡ true = subst (λ v. is_mark_outside mark depth v ≡ true) ew eh in
    rw (rest_at ts at t h, eh') (ap (λ p. p ∷ parts_from mark (depth_after (get_or ts at t).word depth) (drop (at + 1) ts)) (append-nil (take at ts))
    ∙ ap (λ d. take at ts ∷ parts_from mark d (drop (at + 1) ts)) (mark_depth mark depth (get_or ts at t).word eh'))

-- the search for the place itself
pub mark_pass : (mark : Mark) (depth at : ℕ) (ts : List Piece) (t : Piece) (w : Word) (depth' : ℕ) →
    at < length ts → w ≡ (get_or ts at t).word → is_mark_outside mark depth w ≡ false → depth' ≡ depth_after w depth →
    mark_from mark depth at (drop at ts) ≡ mark_from mark depth' (at + 1) (drop (at + 1) ts)
mark_pass mark depth at ts t w depth' h ew eh ed =
    let eh' : is_mark_outside mark depth (get_or ts at t).word ≡ false = subst (λ v. is_mark_outside mark depth v ≡ false) ew eh in
    rw (rest_at ts at t h, ed, ew, eh') refl

pub mark_stop : (mark : Mark) (depth at : ℕ) (ts : List Piece) (t : Piece) (w : Word) →
    at < length ts → w ≡ (get_or ts at t).word → is_mark_outside mark depth w ≡ true →
    mark_from mark depth at (drop at ts) ≡ Some at
mark_stop mark depth at ts t w h ew eh =
    let eh' : is_mark_outside mark depth (get_or ts at t).word ≡ true = subst (λ v. is_mark_outside mark depth v ≡ true) ew eh in
    rw (rest_at ts at t h, eh') refl

pub mark_end : (mark : Mark) (depth at : ℕ) (ts : List Piece) → length ts ≤ at → mark_from mark depth at (drop at ts) ≡ None
mark_end mark depth at ts h = rw (drop_none ts at h) refl
  where
    drop_none : (ts : List Piece) (at : ℕ) → length ts ≤ at → drop at ts ≡ []
    drop_none ts at h = grind (arith, common_steps)

-- a slice from k on
pub to_end : (ts : List Piece) (k : ℕ) → take (length ts - k) (drop k ts) ≡ drop k ts
to_end ts k = take_all (length ts - k) (drop k ts) (omega (arith, length-drop k ts))

many : (mark : Mark) (ts rest last more a b c : List Piece) →
    parts_of mark ts ≡ a ∷ parts_of mark rest → parts_of mark rest ≡ b ∷ parts_of mark last → parts_of mark last ≡ c ∷ parts_of mark more →
    more_parts ≡ few (parts_of mark ts)
many mark ts rest last more a b c e e' e'' =
    sym (ap few (e ∙ ap (λ ps. a ∷ ps) (e' ∙ ap (λ ps. b ∷ ps) e'')) ∙ go (parts_of mark more) (parts_full mark 0 more))
  where
    go : (ps : List (List Piece)) → is_full ps ≡ true → few (a ∷ b ∷ c ∷ ps) ≡ more_parts
    go [] h = cc
    go (q ∷ qs) h = refl

pub four_parts : (mark : Mark) (ts : List Piece) (i j k : ℕ) →
    (let us = take (length ts - (i + 1)) (drop (i + 1) ts) in
    let vs = take (length us - (j + 1)) (drop (j + 1) us) in
    parts_of mark ts ≡ take i ts ∷ parts_of mark (drop (i + 1) ts) →
    parts_of mark us ≡ take j us ∷ parts_of mark (drop (j + 1) us) →
    parts_of mark vs ≡ take k vs ∷ parts_of mark (drop (k + 1) vs) → more_parts ≡ few (parts_of mark ts))
four_parts mark ts i j k e e' e'' =
    let us = take (length ts - (i + 1)) (drop (i + 1) ts) in
    let vs = take (length us - (j + 1)) (drop (j + 1) us) in
    many mark ts us vs (drop (k + 1) vs) (take i ts) (take j us) (take k vs)
    (subst (λ (ws : List Piece). parts_of mark ts ≡ take i ts ∷ parts_of mark ws) (sym (to_end ts (i + 1))) e)
    (subst (λ (ws : List Piece). parts_of mark us ≡ take j us ∷ parts_of mark ws) (sym (to_end us (j + 1))) e') e''

-- a mark makes one part more, and what is none makes none
parted_length : (b : Bool) (t : Piece) (ps : List (List Piece)) → is_full ps ≡ true → length (parted b t ps) ≡ (if b then length ps + 1 else length ps)
parted_length true t ps h = grind (arith, common_steps)
parted_length false t [] h = cc
parted_length false t (q ∷ qs) h = refl

pub count_step : (mark : Mark) (depth at : ℕ) (ts : List Piece) (t : Piece) (w : Word) (depth' : ℕ) →
    at < length ts → w ≡ (get_or ts at t).word → depth' ≡ depth_after w depth →
    length (parts_from mark depth (drop at ts)) ≡ (if is_mark_outside mark depth w then length (parts_from mark depth' (drop (at + 1) ts)) + 1 else length (parts_from mark depth' (drop (at + 1) ts)))
count_step mark depth at ts t w depth' h ew ed =
    rw (rest_at ts at t h, ed, ew) (parted_length (is_mark_outside mark depth (get_or ts at t).word) (get_or ts at t) (parts_from mark (depth_after (get_or ts at t).word depth) (drop (at + 1) ts)) (parts_full mark (depth_after (get_or ts at t).word depth) (drop (at + 1) ts)))

pub count_keeps : (b : Bool) (count l l' total : ℕ) → l ≡ (if b then l' + 1 else l') → count + l ≡ total → (if b then count + 1 else count) + l' ≡ total
count_keeps true count l l' total e h = omega arith
count_keeps false count l l' total e h = omega arith
