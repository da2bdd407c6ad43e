-- One more token of a list.
use Rattle.std.proofs.Common.{◌≡◌, ap, sym, ◌∙◌, add-one, take-suc, drop-cons, ◌<◌, ◌+◌, ℕ, List, [], ◌∷◌, ◌++◌, length, take, drop, map, get_or}
use Rattle.std.proofs.lemmas.List.{map-append}
use Rattle.sd_phrase.specs.declared.word.Piece.{Piece}

pub map_more : {A B : Type 0} (f : A → B) (ts : List A) (k : ℕ) (t : A) (ps : List B) (p : B) → k < length ts →
    ps ≡ map f (take k ts) → p ≡ f (get_or ts k t) → ps ++ p ∷ [] ≡ map f (take (k + 1) ts)
map_more f ts k t ps p h e e' =
    rw (add-one k, take-suc ts k t h, e, e') (sym (map-append f (take k ts) (get_or ts k t ∷ [])))

pub take_more : (ts : List Piece) (at : ℕ) (t : Piece) → at < length ts → take (at + 1) ts ≡ take at ts ++ get_or ts at t ∷ []
take_more ts at t h = rw (add-one at) (take-suc ts at t h)

pub rest_at : (ts : List Piece) (at : ℕ) (t : Piece) → at < length ts → drop at ts ≡ get_or ts at t ∷ drop (at + 1) ts
rest_at ts at t h = drop-cons ts at t h ∙ ap (λ n. get_or ts at t ∷ drop n ts) (sym (add-one at))
