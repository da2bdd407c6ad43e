-- What a reading says, it says of one thing.
use Rattle.std.proofs.Common.{◌≡◌, ℕ, List, Option, Some, Result, Ok, Err, subst}
use Rattle.sd_io.specs.Shelf.{IsTold}

-- the bytes that were read are the content that is told
pub read_is_told : (told : Option (List ℕ)) (content bytes : List ℕ) → told ≡ Some content → IsTold told bytes → bytes ≡ content
read_is_told told content bytes is read = subst (λ t. IsTold t bytes) is read

-- what is read in one way is read in no other
pub same_Ok : {X E : Type 0} (reading : Result X E) (a b : X) → reading ≡ Ok a → reading ≡ Ok b → a ≡ b
same_Ok reading a b is other = cc

pub same_Err : {X E : Type 0} (reading : Result X E) (a b : E) → reading ≡ Err a → reading ≡ Err b → a ≡ b
same_Err reading a b is other = cc

pub Ok_or_Err : {X E : Type 0} (reading : Result X E) (a : X) (b : E) → reading ≡ Ok a → reading ≡ Err b → ⊥
Ok_or_Err reading a b is other = cc
