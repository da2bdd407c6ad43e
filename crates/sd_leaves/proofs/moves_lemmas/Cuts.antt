-- Values cut into those of each connector.
use Rattle.std.proofs.Common.{◌≡◌, ℕ, ℤ, List, [], ◌∷◌, ◌++◌, length, map, take, drop, min, sym, ap, ◌∙◌, append_assoc, append-nil}
use Rattle.std.proofs.lemmas.List.{take_min, drop_min}
use Rattle.sd_graph.specs.Unfold.{cut}

-- one connector more
pub cut-more : {A : Type 0} (count : A → ℕ) (left rest : List A) (first : A) (values : List ℤ) (read all : List (List ℤ)) (few : ℕ) → left ≡ first ∷ rest → few ≡ min (count first) (length values)
    → all ≡ read ++ cut (map count left) values → all ≡ (read ++ take few values ∷ []) ++ cut (map count rest) (drop few values)
cut-more count left rest first values read all few here is so_far =
    so_far ∙ ap (λ left. read ++ cut (map count left) values) here
    ∙ ap (λ part. read ++ part ∷ cut (map count rest) (drop (count first) values)) (sym (ap (λ n. take n values) is ∙ take_min (count first) values))
    ∙ ap (λ others. read ++ take few values ∷ cut (map count rest) others) (sym (ap (λ n. drop n values) is ∙ drop_min (count first) values))
    ∙ sym (append_assoc read (take few values ∷ []) (cut (map count rest) (drop few values)))

pub cut-over : {A : Type 0} (count : A → ℕ) (left : List A) (values : List ℤ) (read all : List (List ℤ)) → left ≡ [] → all ≡ read ++ cut (map count left) values → read ≡ all
cut-over count left values read all over so_far = sym (so_far ∙ ap (λ left. read ++ cut (map count left) values) over ∙ append-nil read)
