-- The place of a token behind one that is passed.
use Rattle.std.proofs.Common.{◌≡◌, ap, ℕ, List, [], ◌∷◌, Bool, true, false}
use Rattle.std.specs.Prelude.{Some, None, if◌then◌else◌, slice_get}
use Rattle.sd_phrase.specs.declared.word.Piece.{Piece}
use Rattle.sd_phrase.specs.Phrase.{next}
use Rattle.sd_phrase.specs.Words.{is_spelled}

-- behind one token and one that is passed, the first of those left is the third
pub third : (text word : List ℕ) (one rest more : List Piece) (first second : Piece) → next text word one ≡ Some rest → rest ≡ second ∷ more → slice_get (first ∷ one) 2 ≡ Some second
third text word [] rest more first second h e = cc
third text word (t ∷ ts) rest more first second h e = go (is_spelled text t word) h
  where
    go : (b : Bool) → (if b then Some ts else None) ≡ Some rest → slice_get (first ∷ t ∷ ts) 2 ≡ Some second
    go true k = let q : ts ≡ second ∷ more = cc in ap (λ (us : List Piece). slice_get (first ∷ t ∷ us) 2) q
    go false k = cc
