-- The points of all tiles, one tile after another, are the points of all values, in another order.
use Rattle.std.specs.List.{flat_map}
use Rattle.std.proofs.Common.{◌≡◌, suc, ℕ, arith, ℤ, List, [], ◌∷◌, ◌++◌, map, length, refl, sym, ◌∙◌, ap, subst}
use Rattle.std.proofs.lemmas.List.{append_assoc, map-append}
use Rattle.sd_range.specs.Points.{tuples}
use Rattle.sd_exchange.specs.tiles.TilePoints.{all_values, tile_points}
use Rattle.sd_exchange.specs.tiles.Shuffled.{Shuffled, as_it_is, and_then}
use Rattle.sd_exchange.proofs.tiles_lemmas.Shuffling.{same-shuffled, shuffled-behind, shuffled-both, shuffled-turned, shuffled-map}

-- ---- parts of parts

flat-append : {A B : Type 0} (f : A → List B) (xs ys : List A) → flat_map f (xs ++ ys) ≡ flat_map f xs ++ flat_map f ys
flat-append f [] ys = refl
flat-append f (x ∷ xs) ys = ap (λ rest. f x ++ rest) (flat-append f xs ys) ∙ sym (append_assoc (f x) (flat_map f xs) (flat_map f ys))

flat-of_map : {A B C : Type 0} (f : B → List C) (g : A → B) (xs : List A) → flat_map f (map g xs) ≡ flat_map (λ x. f (g x)) xs
flat-of_map f g [] = refl
flat-of_map f g (x ∷ xs) = ap (λ rest. f (g x) ++ rest) (flat-of_map f g xs)

map-flat : {A B C : Type 0} (f : B → C) (g : A → List B) (xs : List A) → map f (flat_map g xs) ≡ flat_map (λ x. map f (g x)) xs
map-flat f g [] = refl
map-flat f g (x ∷ xs) = map-append f (g x) (flat_map g xs) ∙ ap (λ rest. map f (g x) ++ rest) (map-flat f g xs)

flat-each : {A B : Type 0} (f g : A → List B) (xs : List A) → ((x : A) → f x ≡ g x) → flat_map f xs ≡ flat_map g xs
flat-each f g [] h = refl
flat-each f g (x ∷ xs) h = λ i. h x i ++ flat-each f g xs h i

flat-shuffled : {A B : Type 0} (f g : A → List B) (xs : List A) → ((x : A) → Shuffled (f x) (g x)) → Shuffled (flat_map f xs) (flat_map g xs)
flat-shuffled f g [] h = as_it_is []
flat-shuffled f g (x ∷ xs) h = shuffled-both (f x) (g x) (flat_map f xs) (flat_map g xs) (h x) (flat-shuffled f g xs h)

flat-none : {A B : Type 0} (f : A → List B) (xs : List A) → ((x : A) → f x ≡ []) → flat_map f xs ≡ []
flat-none f [] h = refl
flat-none f (x ∷ xs) h = λ i. h x i ++ flat-none f xs h i

-- two lists of parts, part by part
flat-both : {A B : Type 0} (f g : A → List B) (xs : List A) → Shuffled (flat_map f xs ++ flat_map g xs) (flat_map (λ x. f x ++ g x) xs)
flat-both f g [] = as_it_is []
flat-both f g (x ∷ xs) =
    let P = flat_map f xs in
    let Q = flat_map g xs in
    let both = flat_map (λ x. f x ++ g x) xs in
    and_then ((f x ++ P) ++ (g x ++ Q)) (f x ++ (P ++ (g x ++ Q))) ((f x ++ g x) ++ both)
    (same-shuffled ((f x ++ P) ++ (g x ++ Q)) (f x ++ (P ++ (g x ++ Q))) (append_assoc (f x) P (g x ++ Q)))
    (and_then (f x ++ (P ++ (g x ++ Q))) (f x ++ (g x ++ both)) ((f x ++ g x) ++ both)
    (shuffled-behind (f x) (P ++ (g x ++ Q)) (g x ++ both)
    (and_then (P ++ (g x ++ Q)) (g x ++ (P ++ Q)) (g x ++ both) (shuffled-turned P (g x) Q) (shuffled-behind (g x) (P ++ Q) both (flat-both f g xs))))
    (same-shuffled (f x ++ (g x ++ both)) ((f x ++ g x) ++ both) (sym (append_assoc (f x) (g x) both))))

-- rows or columns
flat-turned : {A B C : Type 0} (f : A → B → List C) (xs : List A) (ys : List B) → Shuffled (flat_map (λ x. flat_map (f x) ys) xs) (flat_map (λ y. flat_map (λ x. f x y) xs) ys)
flat-turned f [] ys = same-shuffled [] (flat_map (λ y. flat_map (λ x. f x y) []) ys) (sym (flat-none (λ y. flat_map (λ x. f x y) []) ys (λ y. refl)))
flat-turned f (x ∷ xs) ys =
    and_then (flat_map (f x) ys ++ flat_map (λ x. flat_map (f x) ys) xs) (flat_map (f x) ys ++ flat_map (λ y. flat_map (λ x. f x y) xs) ys) (flat_map (λ y. f x y ++ flat_map (λ x. f x y) xs) ys)
    (shuffled-behind (flat_map (f x) ys) (flat_map (λ x. flat_map (f x) ys) xs) (flat_map (λ y. flat_map (λ x. f x y) xs) ys) (flat-turned f xs ys))
    (flat-both (f x) (λ y. flat_map (λ x. f x y) xs) ys)

-- ---- tiles

one-row : (tile : ℤ → List ℤ) (tiles : List (ℤ → List ℤ)) (begins : List (List ℤ)) (first : ℤ) → Shuffled (flat_map (tile_points tiles) (tuples begins)) (tuples (all_values tiles begins)) →
    Shuffled (flat_map (tile_points (tile ∷ tiles)) (map (λ point. first ∷ point) (tuples begins))) (flat_map (λ value. map (λ rest. value ∷ rest) (tuples (all_values tiles begins))) (tile first))
one-row tile tiles begins first h =
    let R = tuples begins in
    let here = λ (value : ℤ). map (λ (rest : List ℤ). value ∷ rest) in
    and_then (flat_map (tile_points (tile ∷ tiles)) (map (λ point. first ∷ point) R)) (flat_map (λ point. flat_map (λ value. here value (tile_points tiles point)) (tile first)) R) _
    (same-shuffled (flat_map (tile_points (tile ∷ tiles)) (map (λ point. first ∷ point) R)) (flat_map (λ point. flat_map (λ value. here value (tile_points tiles point)) (tile first)) R) (flat-of_map (tile_points (tile ∷ tiles)) (λ point. first ∷ point) R))
    (and_then (flat_map (λ point. flat_map (λ value. here value (tile_points tiles point)) (tile first)) R) (flat_map (λ value. flat_map (λ point. here value (tile_points tiles point)) R) (tile first)) _
    (flat-turned (λ point value. here value (tile_points tiles point)) R (tile first))
    (flat-shuffled (λ value. flat_map (λ point. here value (tile_points tiles point)) R) (λ value. here value (tuples (all_values tiles begins))) (tile first)
    (λ value. subst (λ all. Shuffled all (here value (tuples (all_values tiles begins)))) (map-flat (λ rest. value ∷ rest) (tile_points tiles) R)
    (shuffled-map (λ rest. value ∷ rest) (flat_map (tile_points tiles) R) (tuples (all_values tiles begins)) h))))

pub tiles-shuffled : (tiles : List (ℤ → List ℤ)) (begins : List (List ℤ)) → length tiles ≡ length begins → Shuffled (flat_map (tile_points tiles) (tuples begins)) (tuples (all_values tiles begins))
tiles-shuffled [] [] e = as_it_is ([] ∷ [])
tiles-shuffled [] (firsts ∷ begins) e = cc
tiles-shuffled (tile ∷ tiles) [] e = cc
tiles-shuffled (tile ∷ tiles) (firsts ∷ begins) e = go (tiles-shuffled tiles begins (shorter (length tiles) (length begins) e)) firsts
  where
    shorter : (m n : ℕ) → suc m ≡ suc n → m ≡ n
    shorter m n e = omega (arith, e)

    go : Shuffled (flat_map (tile_points tiles) (tuples begins)) (tuples (all_values tiles begins)) → (firsts : List ℤ) → Shuffled (flat_map (tile_points (tile ∷ tiles)) (tuples (firsts ∷ begins))) (tuples (flat_map tile firsts ∷ all_values tiles begins))
    go rest [] = as_it_is []
    go rest (first ∷ firsts) =
        let every = λ (value : ℤ). map (λ (rest : List ℤ). value ∷ rest) (tuples (all_values tiles begins)) in
        let row = map (λ (point : List ℤ). first ∷ point) (tuples begins) in
        subst (λ xs. Shuffled xs (flat_map every (tile first ++ flat_map tile firsts))) (sym (flat-append (tile_points (tile ∷ tiles)) row (tuples (firsts ∷ begins))))
        (subst (λ ys. Shuffled (flat_map (tile_points (tile ∷ tiles)) row ++ flat_map (tile_points (tile ∷ tiles)) (tuples (firsts ∷ begins))) ys) (sym (flat-append every (tile first) (flat_map tile firsts)))
        (shuffled-both (flat_map (tile_points (tile ∷ tiles)) row) (flat_map every (tile first)) (flat_map (tile_points (tile ∷ tiles)) (tuples (firsts ∷ begins))) (flat_map every (flat_map tile firsts)) (one-row tile tiles begins first rest) (go rest firsts)))
